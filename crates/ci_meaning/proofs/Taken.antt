-- The rooms of the functions that wait, as a sum over their frames.
use Rattle.std.proofs.Common.{◌≡◌, ℕ, ◌+◌, List, [], ◌∷◌, ◌++◌, refl, ap, ◌∙◌, arith}
use Rattle.std.specs.Prelude.{map, reverse, sum_by}
use Rattle.std.proofs.lemmas.List.{map-append, reverse-append}
use Rattle.std.proofs.lemmas.List.Sums.{sum_by-cons}
use Rattle.ci_tree.specs.Bound.{Project}
use Rattle.ci_tree.specs.LeftOut.{Heads}
use Rattle.ci_tree.specs.Rooms.{room}
use Rattle.ci_meaning.specs.declared.parts.Frame.{Frame}
use Rattle.ci_meaning.specs.Configuration.{Caller, function_at}
use Rattle.ci_meaning.specs.Held.{caller_of}
use Rattle.ci_meaning.specs.Moves.{rooms_of}

-- the room of the function of a frame
abbrev pub room_in : Project → Frame → ℕ
room_in p f = room (function_at p f.function)

rooms_behind : (p : Project) (a b : List Caller) → rooms_of p (a ++ b) ≡ rooms_of p a + rooms_of p b
rooms_behind p [] b = omega arith
rooms_behind p (c ∷ a) b = omega (arith, rooms_behind p a b)

pub rooms_sum : (p : Project) (heads : Heads) (fs : List Frame) → rooms_of p (map (caller_of heads) (reverse fs)) ≡ sum_by (room_in p) fs
rooms_sum p heads [] = refl
rooms_sum p heads (f ∷ fs) =
    let split : rooms_of p (map (caller_of heads) (reverse (f ∷ fs))) ≡ rooms_of p (map (caller_of heads) (reverse fs)) + rooms_of p (caller_of heads f ∷ []) =
    ap (λ l. rooms_of p (map (caller_of heads) l)) (reverse-append (f ∷ []) fs) ∙ ap (λ l. rooms_of p l) (map-append (caller_of heads) (reverse fs) (f ∷ [])) ∙ rooms_behind p (map (caller_of heads) (reverse fs)) (caller_of heads f ∷ []) in
    omega (arith, split, rooms_sum p heads fs, sum_by-cons (room_in p) f fs)
