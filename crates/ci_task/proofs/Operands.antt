-- The operands on a stack, and what is left where they change.
use Rattle.std.proofs.Common.{◌≡◌, ℕ, zero, suc, ◌+◌, ◌≤◌, List, [], ◌∷◌, ◌++◌, length, take, drop, reverse, refl, sym, ap, ◌∙◌, subst, arith, length-append, append_assoc}
use Rattle.std.specs.Prelude.{slice_get}
use Rattle.std.proofs.Math.Seq.{take-append_seam, drop-append_seam}
use Rattle.std.proofs.lemmas.List.{take-append-drop, take-take, take-append-le, length-take-le, reverse-append, reverse-reverse, length-reverse, length-drop}
use Rattle.ci_base.specs.declared.bounds.TheConstants.{MOST_ROOM}
use Rattle.ci_base.specs.declared.value.Value.{Value}
use Rattle.ci_base.specs.Steps.{quiet}
use Rattle.ci_code.specs.declared.raw.RawParts.{RawParts}
use Rattle.ci_code.specs.Machine.{room_in, rooms}
use Rattle.ci_code.specs.Moves.{Frame, Machine, Move, on, jumped}
use Rattle.ci_verify.specs.Safe.{values_held}
use Rattle.ci_task.specs.declared.active.Active.{Active}
use Rattle.ci_task.specs.declared.heard.Heard.{Heard}
use Rattle.ci_task.specs.Spelled.{locals_of, floor, frame_of, frames_of, spelled, rooms_of, AreStacked}
use Rattle.ci_task.specs.Going.{HasRoom, next_place}

take_nothing : (n : ℕ) (none : List Value) → none ≡ [] → take n none ≡ none
take_nothing zero [] e = refl
take_nothing (suc n) [] e = refl
take_nothing n (v ∷ none) e = absurd (cc e)

-- what is dropped of a list's front
pub drop_of_take : (b n : ℕ) (values : List Value) → take n (drop b values) ≡ drop b (take (b + n) values)
drop_of_take zero n values = ap (λ i. take i values) (none n)
  where
    none : (n : ℕ) → n ≡ 0 + n
    none n = omega arith
drop_of_take (suc b) n [] = take_nothing n [] refl ∙ ap (drop (suc b)) (sym (take_nothing (suc b + n) [] refl))
drop_of_take (suc b) n (v ∷ values) =
    let more : suc b + n ≡ suc (b + n) = omega arith in
    drop_of_take b n values ∙ ap (λ i. drop (suc b) (take i (v ∷ values))) (sym more)

pub reverse_cons : (v : Value) (rest : List Value) → reverse (v ∷ rest) ≡ reverse rest ++ v ∷ []
reverse_cons v rest = reverse-append (v ∷ []) rest

-- the values from the lowest operand on
pub from_floor : (fl : ℕ) (values ops : List Value) → reverse (drop fl values) ≡ ops → values ≡ take fl values ++ reverse ops
from_floor fl values ops e =
    sym (take-append-drop fl values) ∙ ap (λ (l : List Value). take fl values ++ l) (sym (reverse-reverse (drop fl values)) ∙ ap reverse e)

-- with the latest ones on top
pub below : (fl : ℕ) (values high rest : List Value) → reverse (drop fl values) ≡ high ++ rest → values ≡ (take fl values ++ reverse rest) ++ reverse high
below fl values high rest e =
    from_floor fl values (high ++ rest) e
    ∙ ap (λ (l : List Value). take fl values ++ l) (reverse-append high rest)
    ∙ sym (append_assoc (take fl values) (reverse rest) (reverse high))

-- and a value put above the rest
pub above : (fl : ℕ) (values rest : List Value) (v : Value) → (take fl values ++ reverse rest) ++ v ∷ [] ≡ take fl values ++ reverse (v ∷ rest)
above fl values rest v = append_assoc (take fl values) (reverse rest) (v ∷ []) ∙ ap (λ (l : List Value). take fl values ++ l) (sym (reverse_cons v rest))

pub length_over : (fl : ℕ) (values ops : List Value) → fl ≤ length values → length (take fl values ++ reverse ops) ≡ fl + length ops
length_over fl values ops h = length-append (take fl values) (reverse ops) ∙ omega (arith, length-take-le fl values h, length-reverse ops)

-- the frame over them
pub frame_over : (code : RawParts) (a : Active) (values ops : List Value) (p : ℕ) → floor code a ≤ length values → frame_of code (record a { place = p }) (take (floor code a) values ++ reverse ops) ≡ record { function = a.function; place = p; locals = take (locals_of code a.function) (drop a.base values); operands = ops }
frame_over code a values ops p h =
    let fl : ℕ = floor code a in
    let low : length (take fl values) ≡ fl = length-take-le fl values h in
    let front : take fl (take fl values ++ reverse ops) ≡ take fl values = ap (λ i. take i (take fl values ++ reverse ops)) (sym low) ∙ take-append_seam (take fl values) (reverse ops) in
    let back : drop fl (take fl values ++ reverse ops) ≡ reverse ops = ap (λ i. drop i (take fl values ++ reverse ops)) (sym low) ∙ drop-append_seam (take fl values) (reverse ops) in
    let locals : take (locals_of code a.function) (drop a.base (take fl values ++ reverse ops)) ≡ take (locals_of code a.function) (drop a.base values) =
    drop_of_take a.base (locals_of code a.function) (take fl values ++ reverse ops) ∙ ap (drop a.base) front ∙ sym (drop_of_take a.base (locals_of code a.function) values) in
    let operands : reverse (drop fl (take fl values ++ reverse ops)) ≡ ops = ap reverse back ∙ reverse-reverse ops in
    ap (λ (l : List Value). frame a p l (reverse (drop fl (take fl values ++ reverse ops)))) locals
    ∙ ap (λ (l : List Value). frame a p (take (locals_of code a.function) (drop a.base values)) l) operands
  where
    frame : Active → ℕ → List Value → List Value → Frame
    frame a p locals operands = record { function = a.function; place = p; locals = locals; operands = operands }

-- the values of the functions below stay
pub under_over : (code : RawParts) (a : Active) (values ops : List Value) → floor code a ≤ length values → take a.base (take (floor code a) values ++ reverse ops) ≡ take a.base values
under_over code a values ops h =
    let low : length (take (floor code a) values) ≡ floor code a = length-take-le (floor code a) values h in
    take-append-le a.base (take (floor code a) values) (reverse ops) (omega (arith, low)) ∙ take-take a.base (floor code a) values (omega arith)

pub spelled_over : (code : RawParts) (a : Active) (callers : List Active) (values ops : List Value) (heard : Heard) (p : ℕ) → floor code a ≤ length values → spelled code (record a { place = p }) callers (take (floor code a) values ++ reverse ops) heard ≡ record (spelled code a callers values heard) { top = record { function = a.function; place = p; locals = take (locals_of code a.function) (drop a.base values); operands = ops } }
spelled_over code a callers values ops heard p h =
    ap (λ (f : Frame). machine f (frames_of code callers (take a.base (take (floor code a) values ++ reverse ops)))) (frame_over code a values ops p h)
    ∙ ap (λ (l : List Value). machine (record { function = a.function; place = p; locals = take (locals_of code a.function) (drop a.base values); operands = ops }) (frames_of code callers l)) (under_over code a values ops h)
  where
    machine : Frame → List Frame → Machine
    machine top callers = record { top = top; callers = callers; error = heard.error; last = record { sort = heard.sort; text = heard.text }; goes_on = heard.goes_on }

-- how many values the frames hold
held_frame : (code : RawParts) (a : Active) (values : List Value) → floor code a ≤ length values → a.base + (length (frame_of code a values).locals + length (frame_of code a values).operands) ≡ length values
held_frame code a values h =
    let some : locals_of code a.function ≤ length (drop a.base values) = omega (arith, length-drop a.base values) in
    omega (arith, length-take-le (locals_of code a.function) (drop a.base values) some, length-reverse (drop (floor code a) values), length-drop (floor code a) values)

held_frames : (code : RawParts) (callers : List Active) (values : List Value) → AreStacked code callers (length values) → values_held (frames_of code callers values) ≡ length values
held_frames code [] values s = sym s
held_frames code (a ∷ callers) values s =
    let low : length (take a.base values) ≡ a.base = length-take-le a.base values (omega (arith, s.0)) in
    let rest : values_held (frames_of code callers (take a.base values)) ≡ length (take a.base values) = held_frames code callers (take a.base values) (subst (λ n. AreStacked code callers n) (sym low) s.3) in
    omega (arith, held_frame code a values s.0, rest, low)

pub held : (code : RawParts) (a : Active) (callers : List Active) (values : List Value) (heard : Heard) → AreStacked code (a ∷ callers) (length values) → values_held ((spelled code a callers values heard).top ∷ (spelled code a callers values heard).callers) ≡ length values
held code a callers values heard s = held_frames code (a ∷ callers) values s

-- the rooms are those of the frames
pub rooms_frames : (code : RawParts) (callers : List Active) (values : List Value) → rooms code (frames_of code callers values) ≡ rooms_of code callers
rooms_frames code [] values = refl
rooms_frames code (a ∷ callers) values = ap (λ n. room_in (slice_get code.functions a.function) + n) (rooms_frames code callers (take a.base values))

-- How an instruction that is no tick leaves the operands.

-- the machine stands at the next place with these operands
pub lands : (code : RawParts) (a : Active) (callers : List Active) (values values' ops : List Value) (heard : Heard) (move : Move) → move ≡ quiet (on ops (spelled code a callers values heard)) → AreStacked code (a ∷ callers) (length values) → values' ≡ take (floor code a) values ++ reverse ops → (move ≡ quiet (spelled code (next_place a) callers values' heard)) × AreStacked code (next_place a ∷ callers) (length values')
lands code a callers values values' ops heard move is s e =
    let long : length values' ≡ floor code a + length ops = ap length e ∙ length_over (floor code a) values ops s.0 in (
      is ∙ ap (λ (m : Machine). quiet m) (sym (ap (λ (l : List Value). spelled code (next_place a) callers l heard) e ∙ spelled_over code a callers values ops heard (a.place + 1) s.0)),
      (omega arith, s.1, s.2, s.3),
    )

-- and there is room for them
pub fits : (code : RawParts) (a : Active) (callers : List Active) (values ops : List Value) (heard : Heard) (move : Move) → move ≡ quiet (on ops (spelled code a callers values heard)) → HasRoom move → AreStacked code (a ∷ callers) (length values) → floor code a + length ops ≤ MOST_ROOM
fits code a callers values ops heard move is room s =
    let there : HasRoom (quiet (on ops (spelled code a callers values heard))) = subst (λ (x : Move). HasRoom x) is room in
    let all : values_held ((on ops (spelled code a callers values heard)).top ∷ (spelled code a callers values heard).callers) ≡ length (take (floor code a) values ++ reverse ops) =
    ap (λ (m : Machine). values_held (m.top ∷ m.callers)) (sym (spelled_over code a callers values ops heard (a.place + 1) s.0))
    ∙ held code (next_place a) callers (take (floor code a) values ++ reverse ops) heard (omega (arith, length_over (floor code a) values ops s.0), s.1, s.2, s.3) in
    omega (arith, all, there, length_over (floor code a) values ops s.0)

-- the same at another place of the function
pub lands_at : (code : RawParts) (a : Active) (callers : List Active) (values values' ops : List Value) (heard : Heard) (move : Move) (p : ℕ) → move ≡ quiet (jumped p ops (spelled code a callers values heard)) → AreStacked code (a ∷ callers) (length values) → values' ≡ take (floor code a) values ++ reverse ops → (move ≡ quiet (spelled code (record a { place = p }) callers values' heard)) × AreStacked code (record a { place = p } ∷ callers) (length values')
lands_at code a callers values values' ops heard move p is s e =
    let long : length values' ≡ floor code a + length ops = ap length e ∙ length_over (floor code a) values ops s.0 in (
      is ∙ ap (λ (m : Machine). quiet m) (sym (ap (λ (l : List Value). spelled code (record a { place = p }) callers l heard) e ∙ spelled_over code a callers values ops heard p s.0)),
      (omega arith, s.1, s.2, s.3),
    )
