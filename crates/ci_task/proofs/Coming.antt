-- What comes of operands.
use Rattle.std.proofs.Common.{◌≡◌, ℕ, ◌+◌, ◌-◌, ◌<◌, ◌≤◌, ℤ, pos, negsuc, Bool, true, false, cond, List, [], ◌∷◌, ◌++◌, length, take, drop, reverse, Option, Some, None, Ok, Err, refl, sym, ap, ◌∙◌, subst, arith, length-append, append_assoc}
use Rattle.std.specs.Prelude.{slice_get, nat_le}
use Rattle.std.proofs.lemmas.List.{length-reverse, reverse-reverse, take-append-drop}
use Rattle.ci_stack.proofs.Topping.{at, same_value}
use Rattle.ci_base.specs.declared.bounds.TheConstants.{MOST_ROOM, MOST_TEXT_BYTES}
use Rattle.ci_base.specs.declared.errors.TheConstants.{BAD_INDEX, TEXT_TOO_LONG}
use Rattle.ci_base.specs.declared.function.PrivateName.{PrivateName}
use Rattle.ci_base.specs.declared.function.PrivateName.TheVariants as names
use Rattle.ci_base.specs.declared.function.SharedName.{SharedName}
use Rattle.ci_base.specs.declared.layout.CellHead.{CellHead}
use Rattle.ci_base.specs.declared.request.Request.{Request}
use Rattle.ci_base.specs.declared.request.Request.TheVariants.{Read, Write, End}
use Rattle.ci_base.specs.declared.value.Kind.{Kind}
use Rattle.ci_base.specs.declared.value.Kind.TheVariants as kinds
use Rattle.ci_base.specs.declared.value.Value.{Value}
use Rattle.ci_base.specs.declared.value.Value.TheVariants.{Int, Str}
use Rattle.ci_base.specs.Arithmetic.{negation, inversion, quotient, remainder}
use Rattle.ci_base.specs.TextFunctions.{joined, formatted}
use Rattle.ci_base.specs.Functions.{private_takes, private_gives, shared_takes}
use Rattle.ci_base.specs.PrivateFunctions.{private_value, error_after, goes_on_after}
use Rattle.ci_base.specs.Requests.{request_of}
use Rattle.ci_base.specs.Steps.{quiet, asks}
use Rattle.ci_base.specs.Values.{Outcome, first_of_kind}
use Rattle.ci_code.specs.declared.instruction.Instruction.{Instruction}
use Rattle.ci_code.specs.declared.instruction.Instruction.TheVariants as does
use Rattle.ci_code.specs.declared.raw.Cells.{Cells}
use Rattle.ci_code.specs.declared.raw.RawParts.{RawParts}
use Rattle.ci_code.specs.Machine.{act, compared, read, written, read_cell, read_at, write_cell, write_in, write_at, ints_within, texts_within, computed}
use Rattle.ci_code.specs.Moves.{Machine, Move, on, came, failed_if, one, one_int, two_ints, two_texts, only_if, several, is_of, cell_in}
use Rattle.ci_task.specs.declared.active.Active.{Active}
use Rattle.ci_task.specs.declared.heard.Heard.{Heard}
use Rattle.ci_task.specs.declared.went.Went.{Went}
use Rattle.ci_task.specs.declared.went.Went.TheVariants as went
use Rattle.ci_task.specs.Spelled.{floor, spelled, AreStacked}
use Rattle.ci_task.specs.Operators.{is_operator, taken_by, given_by, operated}
use Rattle.ci_task.specs.Going.{HasRoom, after, Goes, CanHeard, DoesHeard, Replaces, Came, IsAskedBy, is_inside}
use Rattle.ci_task.proofs.Operands.{below, lands}
use Rattle.ci_task.proofs.Acts.{ready, done, one_there, only_there, int_there}
use Rattle.ci_task.proofs.Calling.{several_there}

-- the values taken are the operands on top
pub args_below : (fl : ℕ) (values args rest : List Value) → reverse (drop fl values) ≡ reverse args ++ rest → values ≡ (take fl values ++ reverse rest) ++ args
args_below fl values args rest e = below fl values (reverse args) rest e ∙ ap (λ (l : List Value). (take fl values ++ reverse rest) ++ l) (reverse-reverse args)

pub args_few : (fl : ℕ) (values args rest : List Value) → reverse (drop fl values) ≡ reverse args ++ rest → length args ≤ length values
args_few fl values args rest e = omega (arith, ap length (args_below fl values args rest e), length-append (take fl values ++ reverse rest) args)

-- a value or a run error comes of them
module _ (code : RawParts) (what : Instruction) (a : Active) (callers : List Active) (values values' : List Value) (heard heard' : Heard) (s : AreStacked code (a ∷ callers) (length values)) (kind : Kind) (args rest : List Value) (operands : reverse (drop (floor code a) values) ≡ reverse args ++ rest) where
  abbrev Result : Went → Type 0
  Result w = Goes what w (act code what (spelled code a callers values heard)) (spelled code a callers values heard) (spelled code (after w a) callers values' heard') × AreStacked code (after w a ∷ callers) (length values')

  put : (v : Value) → act code what (spelled code a callers values heard) ≡ quiet (on (v ∷ rest) (spelled code a callers values heard')) → Replaces (length args) values v values' → Result went.On
  put v is did =
      done code a callers values values' (reverse args) rest v heard' (act code what (spelled code a callers values heard)) s is operands
      (subst (λ n. Replaces n values v values') (sym (length-reverse args)) did)

  failed_leads : (c : ℕ) (w : Went) → act code what (spelled code a callers values heard) ≡ came kind (Err c) rest (spelled code a callers values heard) → Came (length args) kind (Err c) values heard w values' heard' → Result w
  failed_leads c went.On is (goes, noted, did) =
      put (first_of_kind kind)
      (is ∙ ap (λ b. failed_if b c (first_of_kind kind ∷ rest) (spelled code a callers values heard)) goes ∙ ap (λ (h : Heard). quiet (on (first_of_kind kind ∷ rest) (spelled code a callers values h))) (sym noted))
      did
  failed_leads c (went.Ends d) is (stops, same, still, kept) = (
    (
      is ∙ ap (λ b. failed_if b c (first_of_kind kind ∷ rest) (spelled code a callers values heard)) stops ∙ ap (λ n. asks (End n)) (sym same),
      ap (λ (l : List Value). spelled code a callers l heard') kept ∙ ap (λ (h : Heard). spelled code a callers values h) still,
    ),
    subst (λ (l : List Value). AreStacked code (a ∷ callers) (length l)) (sym kept) s,
  )
  failed_leads c went.Tick is never = absurd never
  failed_leads c went.Asks is never = absurd never

  came_leads : (outcome : Outcome) (w : Went) → act code what (spelled code a callers values heard) ≡ came kind outcome rest (spelled code a callers values heard) → Came (length args) kind outcome values heard w values' heard' → Result w
  came_leads (Ok v) w is (on_is, still, did) =
      subst (λ (x : Went). Result x) (sym on_is)
      (put v (is ∙ ap (λ (h : Heard). quiet (on (v ∷ rest) (spelled code a callers values h))) (sym still)) did)
  came_leads (Err c) w is did = failed_leads c w is did

-- The operators

-- an operator meets its operands
record Operated (code : RawParts) (what : Instruction) (m : Machine) : Type 0 where
  pub args : List Value
  pub rest : List Value
  pub operands : m.top.operands ≡ reverse args ++ rest
  pub many : length args ≡ taken_by what
  pub move : act code what m ≡ came (given_by what) (operated what args) rest m

texts_there : (kind : Kind) (work : List ℕ → List ℕ → Outcome) (operands : List Value) (m : Machine) → HasRoom (two_texts kind work operands m) → (x : List ℕ) × (y : List ℕ) × (rest : List Value) × (operands ≡ Str y ∷ Str x ∷ rest)
texts_there kind work (Str y ∷ Str x ∷ rest) m room = (x, y, rest, refl)
texts_there kind work _ m room = absurd room

whole_there : (work : ℤ → ℤ → Outcome) (operands : List Value) (m : Machine) → HasRoom (two_ints work operands m) → (x : ℤ) × (y : ℤ) × (rest : List Value) × (operands ≡ Int y ∷ Int x ∷ rest)
whole_there work (Int y ∷ Int x ∷ rest) m room = (x, y, rest, refl)
whole_there work _ m room = absurd room

ints_within_there : (operands : List Value) (m : Machine) → HasRoom (ints_within operands m) → (x : ℤ) × (y : ℤ) × (z : ℤ) × (rest : List Value) × (operands ≡ Int z ∷ Int y ∷ Int x ∷ rest)
ints_within_there (Int z ∷ Int y ∷ Int x ∷ rest) m room = (x, y, z, rest, refl)
ints_within_there _ m room = absurd room

texts_within_there : (operands : List Value) (m : Machine) → HasRoom (texts_within operands m) → (x : List ℕ) × (y : List ℕ) × (z : List ℕ) × (rest : List Value) × (operands ≡ Str z ∷ Str y ∷ Str x ∷ rest)
texts_within_there (Str z ∷ Str y ∷ Str x ∷ rest) m room = (x, y, z, rest, refl)
texts_within_there _ m room = absurd room

of_int : (code : RawParts) (what : Instruction) (m : Machine) (go : ℤ → List Value → Move) → act code what m ≡ one_int go m.top.operands → taken_by what ≡ 1 → ((n : ℤ) (rest : List Value) → go n rest ≡ came (given_by what) (operated what (Int n ∷ [])) rest m) → HasRoom (act code what m) → Operated code what m
of_int code what m go is one_taken each room =
    let t = int_there go m.top.operands (subst HasRoom is room) in
    record { args = Int t.0 ∷ []; rest = t.1; operands = t.2; many = sym one_taken; move = is ∙ ap (λ (l : List Value). one_int go l) t.2 ∙ each t.0 t.1 }

of_ints : (code : RawParts) (what : Instruction) (m : Machine) (work : ℤ → ℤ → Outcome) → act code what m ≡ two_ints work m.top.operands m → taken_by what ≡ 2 → ((x y : ℤ) (rest : List Value) → came kinds.Int (work x y) rest m ≡ came (given_by what) (operated what (Int x ∷ Int y ∷ [])) rest m) → HasRoom (act code what m) → Operated code what m
of_ints code what m work is two_taken each room =
    let t = whole_there work m.top.operands m (subst HasRoom is room) in
    record { args = Int t.0 ∷ Int t.1 ∷ []; rest = t.2; operands = t.3; many = sym two_taken; move = is ∙ ap (λ (l : List Value). two_ints work l m) t.3 ∙ each t.0 t.1 t.2 }

of_texts : (code : RawParts) (what : Instruction) (m : Machine) (kind : Kind) (work : List ℕ → List ℕ → Outcome) → act code what m ≡ two_texts kind work m.top.operands m → taken_by what ≡ 2 → ((x y : List ℕ) (rest : List Value) → came kind (work x y) rest m ≡ came (given_by what) (operated what (Str x ∷ Str y ∷ [])) rest m) → HasRoom (act code what m) → Operated code what m
of_texts code what m kind work is two_taken each room =
    let t = texts_there kind work m.top.operands m (subst HasRoom is room) in
    record { args = Str t.0 ∷ Str t.1 ∷ []; rest = t.2; operands = t.3; many = sym two_taken; move = is ∙ ap (λ (l : List Value). two_texts kind work l m) t.3 ∙ each t.0 t.1 t.2 }

operator : (code : RawParts) (what : Instruction) (m : Machine) → is_operator what ≡ true → HasRoom (act code what m) → Operated code what m
operator code does.Neg m h room = of_int code does.Neg m (λ n operands. quiet (on (Int (negation n) ∷ operands) m)) refl refl (λ n rest. refl) room
operator code does.Not m h room = of_int code does.Not m (λ n operands. quiet (on (Int (inversion n) ∷ operands) m)) refl refl (λ n rest. refl) room
operator code (does.Form count) m h room = of_int code (does.Form count) m (λ n operands. came kinds.Str (formatted n count) operands m) refl refl (λ n rest. refl) room
operator code does.Div m h room = of_ints code does.Div m quotient refl refl (λ x y rest. refl) room
operator code does.Mod m h room = of_ints code does.Mod m remainder refl refl (λ x y rest. refl) room
operator code does.Cat m h room = of_texts code does.Cat m kinds.Str joined refl refl (λ x y rest. refl) room
operator code (does.CmpStr relation) m h room = of_texts code (does.CmpStr relation) m kinds.Int (λ x y. compared relation (Str x) (Str y)) refl refl (λ x y rest. refl) room
operator code does.WithinInt m h room =
    let t = ints_within_there m.top.operands m room in
    record { args = Int t.0 ∷ Int t.1 ∷ Int t.2 ∷ []; rest = t.3; operands = t.4; many = refl; move = ap (λ (l : List Value). ints_within l m) t.4 }
operator code does.WithinStr m h room =
    let t = texts_within_there m.top.operands m room in
    record { args = Str t.0 ∷ Str t.1 ∷ Str t.2 ∷ []; rest = t.3; operands = t.4; many = refl; move = ap (λ (l : List Value). texts_within l m) t.4 }
operator code _ m h room = absurd (cc h)

pub taken_some : (what : Instruction) → (1 ≤ taken_by what) × (taken_by what ≤ 3)
taken_some does.Neg = (omega arith, omega arith)
taken_some does.Not = (omega arith, omega arith)
taken_some (does.Form count) = (omega arith, omega arith)
taken_some does.WithinInt = (omega arith, omega arith)
taken_some does.WithinStr = (omega arith, omega arith)
taken_some _ = (omega arith, omega arith)

pub operator_can : (code : RawParts) (what : Instruction) (a : Active) (values : List Value) (heard : Heard) → is_operator what ≡ true → CanHeard code what a values heard → taken_by what ≤ length values
operator_can code what a values heard h can =
    let t = operator code what (spelled code a can.0 values heard) h can.2 in
    omega (arith, t.many, args_few (floor code a) values t.args t.rest t.operands)

pub operator_does : (code : RawParts) (what : Instruction) (a : Active) (values values' taken : List Value) (heard heard' : Heard) (w : Went) → is_operator what ≡ true → ((low high : List Value) → values ≡ low ++ high → length high ≡ taken_by what → taken ≡ high) → Came (taken_by what) (given_by what) (operated what taken) values heard w values' heard' → DoesHeard code what a values heard w values' heard'
operator_does code what a values values' taken heard heard' w h are did = λ callers s room.
    let t = operator code what (spelled code a callers values heard) h room in
    let same : taken ≡ t.args = are (take (floor code a) values ++ reverse t.rest) t.args (args_below (floor code a) values t.args t.rest t.operands) t.many in
    came_leads code what a callers values values' heard heard' s (given_by what) t.args t.rest t.operands (operated what t.args) w t.move
    (subst (λ n. Came n (given_by what) (operated what t.args) values heard w values' heard') (sym t.many)
    (subst (λ (l : List Value). Came (taken_by what) (given_by what) (operated what l) values heard w values' heard') same did))

-- what is left over in a division

pub mod_can : (code : RawParts) (a : Active) (values : List Value) (heard : Heard) → CanHeard code does.Mod a values heard → ((low : List Value) × (n : ℤ) × (values ≡ low ++ Int n ∷ [])) × ((low : List Value) × (n : ℤ) × (v : Value) × (values ≡ low ++ Int n ∷ v ∷ [])) × (2 ≤ length values)
mod_can code a values heard can =
    let m : Machine = spelled code a can.0 values heard in
    let t = whole_there remainder m.top.operands m can.2 in
    let split : values ≡ (take (floor code a) values ++ reverse t.2) ++ Int t.0 ∷ Int t.1 ∷ [] = below (floor code a) values (Int t.1 ∷ Int t.0 ∷ []) t.2 t.3 in (
      ((take (floor code a) values ++ reverse t.2) ++ Int t.0 ∷ [], t.1, split ∙ sym (append_assoc (take (floor code a) values ++ reverse t.2) (Int t.0 ∷ []) (Int t.1 ∷ []))),
      (take (floor code a) values ++ reverse t.2, t.0, Int t.1, split),
      omega (arith, ap (λ (l : List Value). length l) split, length-append (take (floor code a) values ++ reverse t.2) (Int t.0 ∷ Int t.1 ∷ [])),
    )

pub mod_does : (code : RawParts) (a : Active) (values values' : List Value) (heard : Heard) (x y r : ℤ) → ((low : List Value) (n : ℤ) → values ≡ low ++ Int n ∷ [] → y ≡ n) → ((low : List Value) (n : ℤ) (v : Value) → values ≡ low ++ Int n ∷ v ∷ [] → x ≡ n) → remainder x y ≡ Ok (Int r) → Replaces 2 values (Int r) values' → DoesHeard code does.Mod a values heard went.On values' heard
mod_does code a values values' heard x y r is_y is_x gave did = λ callers s room.
    let m : Machine = spelled code a callers values heard in
    let t = whole_there remainder m.top.operands m room in
    let split : values ≡ (take (floor code a) values ++ reverse t.2) ++ Int t.0 ∷ Int t.1 ∷ [] = below (floor code a) values (Int t.1 ∷ Int t.0 ∷ []) t.2 t.3 in
    let first : x ≡ t.0 = is_x (take (floor code a) values ++ reverse t.2) t.0 (Int t.1) split in
    let second : y ≡ t.1 = is_y ((take (floor code a) values ++ reverse t.2) ++ Int t.0 ∷ []) t.1 (split ∙ sym (append_assoc (take (floor code a) values ++ reverse t.2) (Int t.0 ∷ []) (Int t.1 ∷ []))) in
    let value : remainder t.0 t.1 ≡ Ok (Int r) = ap (λ (z : ℤ). remainder z t.1) (sym first) ∙ ap (λ (z : ℤ). remainder x z) (sym second) ∙ gave in
    came_leads code does.Mod a callers values values' heard heard s kinds.Int (Int t.0 ∷ Int t.1 ∷ []) t.2 t.3 (Ok (Int r)) went.On
    (ap (λ (l : List Value). two_ints remainder l m) t.3 ∙ ap (λ (o : Outcome). came kinds.Int o t.2 m) value)
    (refl, refl, did)

-- two texts

pub texts_can : (code : RawParts) (what : Instruction) (kind : Kind) (work : List ℕ → List ℕ → Outcome) (a : Active) (values : List Value) (heard : Heard) → ((m : Machine) → act code what m ≡ two_texts kind work m.top.operands m) → CanHeard code what a values heard → (low : List Value) × (x : List ℕ) × (y : List ℕ) × (values ≡ low ++ Str x ∷ Str y ∷ [])
texts_can code what kind work a values heard is can =
    let m : Machine = spelled code a can.0 values heard in
    let t = texts_there kind work m.top.operands m (subst HasRoom (is m) can.2) in
    (take (floor code a) values ++ reverse t.2, t.0, t.1, below (floor code a) values (Str t.1 ∷ Str t.0 ∷ []) t.2 t.3)

pub texts_do : (code : RawParts) (what : Instruction) (kind : Kind) (work : List ℕ → List ℕ → Outcome) (a : Active) (values values' : List Value) (heard heard' : Heard) (w : Went) (x y : List ℕ) → ((m : Machine) → act code what m ≡ two_texts kind work m.top.operands m) → ((low : List Value) (s : List ℕ) (v : Value) → values ≡ low ++ Str s ∷ v ∷ [] → x ≡ s) → ((low : List Value) (s : List ℕ) → values ≡ low ++ Str s ∷ [] → y ≡ s) → Came 2 kind (work x y) values heard w values' heard' → DoesHeard code what a values heard w values' heard'
texts_do code what kind work a values values' heard heard' w x y is is_x is_y did = λ callers s room.
    let m : Machine = spelled code a callers values heard in
    let t = texts_there kind work m.top.operands m (subst HasRoom (is m) room) in
    let low : List Value = take (floor code a) values ++ reverse t.2 in
    let split : values ≡ low ++ Str t.0 ∷ Str t.1 ∷ [] = below (floor code a) values (Str t.1 ∷ Str t.0 ∷ []) t.2 t.3 in
    let first : x ≡ t.0 = is_x low t.0 (Str t.1) split in
    let second : y ≡ t.1 = is_y (low ++ Str t.0 ∷ []) t.1 (split ∙ sym (append_assoc low (Str t.0 ∷ []) (Str t.1 ∷ []))) in
    came_leads code what a callers values values' heard heard' s kind (Str t.0 ∷ Str t.1 ∷ []) t.2 t.3 (work t.0 t.1) w
    (is m ∙ ap (λ (l : List Value). two_texts kind work l m) t.3)
    (subst (λ (l : List ℕ). Came 2 kind (work l t.1) values heard w values' heard') first
    (subst (λ (l : List ℕ). Came 2 kind (work x l) values heard w values' heard') second did))

-- a text that was read is the one that stands there
pub text_is : (values low more : List Value) (n : ℕ) (x s : List ℕ) → slice_get values n ≡ Some (Str x) → values ≡ low ++ Str s ∷ more → n ≡ length low → x ≡ s
text_is values low more n x s f e h = same_letters x s (sym f ∙ at values low more (Str s) n e h)
  where
    same_letters : (u v : List ℕ) → Some (Str u) ≡ Some (Str v) → u ≡ v
    same_letters u v g = cc g

-- whether both texts are as long as one may be

pub joined_long : (x y : List ℕ) → MOST_TEXT_BYTES < length x + length y → joined x y ≡ Err TEXT_TOO_LONG
joined_long x y h = by (nat_le (length (x ++ y)) MOST_TEXT_BYTES) refl
  where
    by : (b : Bool) → nat_le (length (x ++ y)) MOST_TEXT_BYTES ≡ b → cond b (Ok (Str (x ++ y))) (Err TEXT_TOO_LONG) ≡ Err TEXT_TOO_LONG
    by true e = absurd (grind (arith, e, h, length-append x y))
    by false e = refl

pub joined_short : (x y : List ℕ) → length x + length y ≤ MOST_TEXT_BYTES → joined x y ≡ Ok (Str (x ++ y))
joined_short x y h = by (nat_le (length (x ++ y)) MOST_TEXT_BYTES) refl
  where
    by : (b : Bool) → nat_le (length (x ++ y)) MOST_TEXT_BYTES ≡ b → cond b (Ok (Str (x ++ y))) (Err TEXT_TOO_LONG) ≡ Ok (Str (x ++ y))
    by true e = refl
    by false e = absurd (grind (arith, e, h, length-append x y))

-- a text and two INTs

part_there : (go : List Value → List Value → Move) (operands : List Value) → HasRoom (several (kinds.Str ∷ kinds.Int ∷ kinds.Int ∷ []) go operands) → (x : List ℕ) × (n : ℤ) × (k : ℤ) × (rest : List Value) × (operands ≡ Int k ∷ Int n ∷ Str x ∷ rest)
part_there go (Int k ∷ Int n ∷ Str x ∷ rest) room = (x, n, k, rest, refl)
part_there go (Int k ∷ Int n ∷ Int x ∷ rest) room = absurd room
part_there go (Int k ∷ Str n ∷ Str x ∷ rest) room = absurd room
part_there go (Int k ∷ Str n ∷ Int x ∷ rest) room = absurd room
part_there go (Str k ∷ Int n ∷ Str x ∷ rest) room = absurd room
part_there go (Str k ∷ Int n ∷ Int x ∷ rest) room = absurd room
part_there go (Str k ∷ Str n ∷ Str x ∷ rest) room = absurd room
part_there go (Str k ∷ Str n ∷ Int x ∷ rest) room = absurd room
part_there go (a ∷ b ∷ []) room = absurd (omega (arith, (several_there (kinds.Str ∷ kinds.Int ∷ kinds.Int ∷ []) go (a ∷ b ∷ []) room).0))
part_there go (a ∷ []) room = absurd (omega (arith, (several_there (kinds.Str ∷ kinds.Int ∷ kinds.Int ∷ []) go (a ∷ []) room).0))
part_there go [] room = absurd (omega (arith, (several_there (kinds.Str ∷ kinds.Int ∷ kinds.Int ∷ []) go [] room).0))

pub part_can : (code : RawParts) (a : Active) (values : List Value) (heard : Heard) → CanHeard code (does.Private names.StrMid) a values heard → (low : List Value) × (x : List ℕ) × (n : ℤ) × (k : ℤ) × (values ≡ low ++ Str x ∷ Int n ∷ Int k ∷ [])
part_can code a values heard can =
    let m : Machine = spelled code a can.0 values heard in
    let go : List Value → List Value → Move = λ args operands. computed names.StrMid args (private_value m.error names.StrMid args) operands m in
    let t = part_there go m.top.operands can.2 in
    (take (floor code a) values ++ reverse t.3, t.0, t.1, t.2, below (floor code a) values (Int t.2 ∷ Int t.1 ∷ Str t.0 ∷ []) t.3 t.4)

-- three values that were read are the ones on top
pub three_are : (values : List Value) (u v w : Value) (count : ℕ) → count ≡ length values → slice_get values (count - 3) ≡ Some u → slice_get values (count - 2) ≡ Some v → slice_get values (count - 1) ≡ Some w → (low high : List Value) → values ≡ low ++ high → length high ≡ 3 → u ∷ v ∷ w ∷ [] ≡ high
three_are values u v w count e f g h low (x ∷ y ∷ z ∷ []) split many =
    let long : length values ≡ length low + 3 = ap (λ (l : List Value). length l) split ∙ length-append low (x ∷ y ∷ z ∷ []) in
    let two : length (low ++ x ∷ []) ≡ length low + 1 = length-append low (x ∷ []) in
    let three : length (low ++ x ∷ y ∷ []) ≡ length low + 2 = length-append low (x ∷ y ∷ []) in
    let first : u ≡ x = same_value u x (sym f ∙ at values low (y ∷ z ∷ []) x (count - 3) split (omega arith)) in
    let second : v ≡ y = same_value v y (sym g ∙ at values (low ++ x ∷ []) (z ∷ []) y (count - 2) (split ∙ sym (append_assoc low (x ∷ []) (y ∷ z ∷ []))) (omega arith)) in
    let third : w ≡ z = same_value w z (sym h ∙ at values (low ++ x ∷ y ∷ []) [] z (count - 1) (split ∙ sym (append_assoc low (x ∷ y ∷ []) (z ∷ []))) (omega arith)) in
    ap (λ (r : Value). r ∷ v ∷ w ∷ []) first ∙ ap (λ (r : Value). x ∷ r ∷ w ∷ []) second ∙ ap (λ (r : Value). x ∷ y ∷ r ∷ []) third
three_are values u v w count e f g h low _ split many = absurd (omega arith)

-- The private functions

record Computed (code : RawParts) (q : PrivateName) (m : Machine) : Type 0 where
  pub args : List Value
  pub rest : List Value
  pub operands : m.top.operands ≡ reverse args ++ rest
  pub many : length args ≡ length (private_takes q)
  pub move : act code (does.Private q) m ≡ computed q args (private_value m.error q args) rest m

private : (code : RawParts) (q : PrivateName) (m : Machine) → HasRoom (act code (does.Private q) m) → Computed code q m
private code q m room =
    let k : ℕ = length (private_takes q) in
    let go : List Value → List Value → Move = λ args operands. computed q args (private_value m.error q args) operands m in
    let t = several_there (private_takes q) go m.top.operands room in
    record {
      args = reverse (take k m.top.operands);
      rest = drop k m.top.operands;
      operands = sym (take-append-drop k m.top.operands) ∙ ap (λ (l : List Value). l ++ drop k m.top.operands) (sym (reverse-reverse (take k m.top.operands)));
      many = length-reverse (take k m.top.operands) ∙ t.0;
      move = t.1;
    }

pub private_few : (q : PrivateName) → length (private_takes q) ≤ 3
private_few names.StrLength = omega arith
private_few _ = omega arith

pub private_can : (code : RawParts) (q : PrivateName) (a : Active) (values : List Value) (heard : Heard) → CanHeard code (does.Private q) a values heard → length (private_takes q) ≤ length values
private_can code q a values heard can =
    let t = private code q (spelled code a can.0 values heard) can.2 in
    omega (arith, t.many, args_few (floor code a) values t.args t.rest t.operands)

-- there is room for what it gives
pub private_room : (code : RawParts) (q : PrivateName) (a : Active) (values : List Value) (heard : Heard) → CanHeard code (does.Private q) a values heard → length values ≤ MOST_ROOM → length values - length (private_takes q) < MOST_ROOM
private_room code names.IsError a values heard can within =
    let m : Machine = spelled code a can.0 values heard in
    let fits_it = ready code a can.0 values [] (reverse (drop (floor code a) values)) (Int (pos heard.error)) (record heard { error = 0 }) (act code (does.Private names.IsError) m) can.1 can.2 refl refl in
    omega (arith, fits_it.1)
private_room code names.StrLength a values heard can within = let few = private_can code names.StrLength a values heard can in omega (arith, few)
private_room code q a values heard can within = let few = private_can code q a values heard can in omega (arith, few)

-- what was heard behind a private function that gives a value
abbrev pub heard_after : PrivateName → List Value → Heard → Heard
heard_after q args heard = record heard { error = error_after q heard.error; goes_on = goes_on_after q args heard.goes_on }

pub private_gives_value : (code : RawParts) (q : PrivateName) (a : Active) (values values' taken : List Value) (heard heard' : Heard) (v : Value) → ((low high : List Value) → values ≡ low ++ high → length high ≡ length (private_takes q) → taken ≡ high) → private_value heard.error q taken ≡ Ok v → heard' ≡ heard_after q taken heard → Replaces (length (private_takes q)) values v values' → DoesHeard code (does.Private q) a values heard went.On values' heard'
private_gives_value code q a values values' taken heard heard' v are gave noted did = λ callers s room.
    let m : Machine = spelled code a callers values heard in
    let t = private code q m room in
    let same : taken ≡ t.args = are (take (floor code a) values ++ reverse t.rest) t.args (args_below (floor code a) values t.args t.rest t.operands) t.many in
    let value : private_value heard.error q t.args ≡ Ok v = ap (λ (l : List Value). private_value heard.error q l) (sym same) ∙ gave in
    put code (does.Private q) a callers values values' heard heard' s (private_gives q) t.args t.rest t.operands v
    (t.move ∙ ap (λ (o : Outcome). computed q t.args o t.rest m) value ∙ ap (λ (h : Heard). quiet (on (v ∷ t.rest) (spelled code a callers values h))) (sym (noted ∙ ap (λ (l : List Value). heard_after q l heard) same)))
    (subst (λ n. Replaces n values v values') (sym t.many) did)

pub private_fails : (code : RawParts) (q : PrivateName) (a : Active) (values values' taken : List Value) (heard heard' : Heard) (w : Went) (c : ℕ) → ((low high : List Value) → values ≡ low ++ high → length high ≡ length (private_takes q) → taken ≡ high) → private_value heard.error q taken ≡ Err c → Came (length (private_takes q)) (private_gives q) (Err c) values heard w values' heard' → DoesHeard code (does.Private q) a values heard w values' heard'
private_fails code q a values values' taken heard heard' w c are gave did = λ callers s room.
    let m : Machine = spelled code a callers values heard in
    let t = private code q m room in
    let same : taken ≡ t.args = are (take (floor code a) values ++ reverse t.rest) t.args (args_below (floor code a) values t.args t.rest t.operands) t.many in
    let value : private_value heard.error q t.args ≡ Err c = ap (λ (l : List Value). private_value heard.error q l) (sym same) ∙ gave in
    failed_leads code (does.Private q) a callers values values' heard heard' s (private_gives q) t.args t.rest t.operands c w
    (t.move ∙ ap (λ (o : Outcome). computed q t.args o t.rest m) value)
    (subst (λ n. Came n (private_gives q) (Err c) values heard w values' heard') (sym t.many) did)

-- Arrays

pub read_array : (code : RawParts) (o : Option Cells) (m : Machine) → HasRoom (read_at o m) → (array : Cells) × (i : ℤ) × (rest : List Value) × (o ≡ Some array) × (m.top.operands ≡ Int i ∷ rest) × (read_at o m ≡ read_cell (cell_in array i) array.kind rest m)
read_array code None m room = absurd room
read_array code (Some array) m room =
    let go : ℤ → List Value → Move = λ i operands. read_cell (cell_in array i) array.kind operands m in
    let t = int_there go m.top.operands room in
    (array, t.0, t.1, refl, t.2, ap (λ (l : List Value). one_int go l) t.2)

write_operands : (array : Cells) (operands : List Value) (m : Machine) → HasRoom (write_in array operands m) → (v : Value) × (i : ℤ) × (rest : List Value) × (operands ≡ v ∷ Int i ∷ rest) × (is_of array.kind v ≡ true)
write_operands array (v ∷ Int i ∷ rest) m room = (v, i, rest, refl, only_there (is_of array.kind v) (write_cell (cell_in array i) v rest m) room)
write_operands array _ m room = absurd room

pub write_array : (code : RawParts) (o : Option Cells) (m : Machine) → HasRoom (write_at o m) → (array : Cells) × (v : Value) × (i : ℤ) × (rest : List Value) × (o ≡ Some array) × (m.top.operands ≡ v ∷ Int i ∷ rest) × (is_of array.kind v ≡ true) × (write_at o m ≡ write_cell (cell_in array i) v rest m)
write_array code None m room = absurd room
write_array code (Some array) m room =
    let t = write_operands array m.top.operands m room in
    (array, t.0, t.1, t.2, refl, t.3, t.4, ap (λ (l : List Value). write_in array l m) t.3 ∙ ap (λ b. only_if b (write_cell (cell_in array t.1) t.0 t.2 m)) t.4)

pub same_array : (a b : Cells) → Some a ≡ Some b → a ≡ b
same_array a b h = cc h

pub read_at_there : (code : RawParts) (k : ℕ) (a : Active) (values : List Value) (heard : Heard) → CanHeard code (does.ReadAt k) a values heard → (array : Cells) × (i : ℤ) × (low : List Value) × (slice_get code.arrays k ≡ Some array) × (values ≡ low ++ Int i ∷ [])
read_at_there code k a values heard can =
    let t = read_array code (slice_get code.arrays k) (spelled code a can.0 values heard) can.2 in
    (t.0, t.1, take (floor code a) values ++ reverse t.2, t.3, below (floor code a) values (Int t.1 ∷ []) t.2 t.4)

pub read_at_asks : (code : RawParts) (k c : ℕ) (a : Active) (values : List Value) (heard : Heard) (array : Cells) (n : ℤ) → slice_get code.arrays k ≡ Some array → ((low : List Value) (i : ℤ) → values ≡ low ++ Int i ∷ [] → n ≡ i) → cell_in array n ≡ Some c → DoesHeard code (does.ReadAt k) a values heard went.Asks values heard
read_at_asks code k c a values heard array n found is inside = λ callers s room.
    let m : Machine = spelled code a callers values heard in
    let t = read_array code (slice_get code.arrays k) m room in
    let same : array ≡ t.0 = same_array array t.0 (sym found ∙ t.3) in
    let number : n ≡ t.1 = is (take (floor code a) values ++ reverse t.2) t.1 (below (floor code a) values (Int t.1 ∷ []) t.2 t.4) in
    let cell : cell_in t.0 t.1 ≡ Some c = sym (ap (λ (g : Cells). cell_in g n) same ∙ ap (λ z. cell_in t.0 z) number) ∙ inside in
    (((Read c, t.5 ∙ ap (λ (o : Option ℕ). read_cell o t.0.kind t.2 m) cell, (c, refl)), refl), s)

pub read_at_fails : (code : RawParts) (k : ℕ) (a : Active) (values values' : List Value) (heard heard' : Heard) (w : Went) (array : Cells) (n : ℤ) → slice_get code.arrays k ≡ Some array → ((low : List Value) (i : ℤ) → values ≡ low ++ Int i ∷ [] → n ≡ i) → cell_in array n ≡ None → Came 1 array.kind (Err BAD_INDEX) values heard w values' heard' → DoesHeard code (does.ReadAt k) a values heard w values' heard'
read_at_fails code k a values values' heard heard' w array n found is outside did = λ callers s room.
    let m : Machine = spelled code a callers values heard in
    let t = read_array code (slice_get code.arrays k) m room in
    let same : array ≡ t.0 = same_array array t.0 (sym found ∙ t.3) in
    let number : n ≡ t.1 = is (take (floor code a) values ++ reverse t.2) t.1 (below (floor code a) values (Int t.1 ∷ []) t.2 t.4) in
    let cell : cell_in t.0 t.1 ≡ None = sym (ap (λ (g : Cells). cell_in g n) same ∙ ap (λ z. cell_in t.0 z) number) ∙ outside in
    failed_leads code (does.ReadAt k) a callers values values' heard heard' s t.0.kind (Int t.1 ∷ []) t.2 t.4 7 w
    (t.5 ∙ ap (λ (o : Option ℕ). read_cell o t.0.kind t.2 m) cell)
    (subst (λ (g : Cells). Came 1 g.kind (Err BAD_INDEX) values heard w values' heard') same did)

pub write_at_there : (code : RawParts) (k : ℕ) (a : Active) (values : List Value) (heard : Heard) → CanHeard code (does.WriteAt k) a values heard → (array : Cells) × (i : ℤ) × (low : List Value) × (v : Value) × (slice_get code.arrays k ≡ Some array) × (values ≡ low ++ Int i ∷ v ∷ [])
write_at_there code k a values heard can =
    let t = write_array code (slice_get code.arrays k) (spelled code a can.0 values heard) can.2 in
    (t.0, t.2, take (floor code a) values ++ reverse t.3, t.1, t.4, below (floor code a) values (t.1 ∷ Int t.2 ∷ []) t.3 t.5)

pub write_at_asks : (code : RawParts) (k c : ℕ) (a : Active) (values : List Value) (heard : Heard) (array : Cells) (n : ℤ) → slice_get code.arrays k ≡ Some array → ((low : List Value) (i : ℤ) (v : Value) → values ≡ low ++ Int i ∷ v ∷ [] → n ≡ i) → cell_in array n ≡ Some c → DoesHeard code (does.WriteAt k) a values heard went.Asks values heard
write_at_asks code k c a values heard array n found is inside = λ callers s room.
    let m : Machine = spelled code a callers values heard in
    let t = write_array code (slice_get code.arrays k) m room in
    let same : array ≡ t.0 = same_array array t.0 (sym found ∙ t.4) in
    let number : n ≡ t.2 = is (take (floor code a) values ++ reverse t.3) t.2 t.1 (below (floor code a) values (t.1 ∷ Int t.2 ∷ []) t.3 t.5) in
    let cell : cell_in t.0 t.2 ≡ Some c = sym (ap (λ (g : Cells). cell_in g n) same ∙ ap (λ z. cell_in t.0 z) number) ∙ inside in
    (((Write c t.1, t.7 ∙ ap (λ (o : Option ℕ). write_cell o t.1 t.3 m) cell, (c, t.1, refl)), refl), s)

-- a task that goes on leaves out the write
pub write_at_goes_on : (code : RawParts) (k : ℕ) (a : Active) (values values' : List Value) (heard heard' : Heard) (array : Cells) (n : ℤ) → slice_get code.arrays k ≡ Some array → ((low : List Value) (i : ℤ) (v : Value) → values ≡ low ++ Int i ∷ v ∷ [] → n ≡ i) → cell_in array n ≡ None → heard.goes_on ≡ true → heard' ≡ record heard { error = BAD_INDEX } → ((low high : List Value) → values ≡ low ++ high → length high ≡ 2 → values' ≡ low) → DoesHeard code (does.WriteAt k) a values heard went.On values' heard'
write_at_goes_on code k a values values' heard heard' array n found is outside goes noted did = λ callers s room.
    let m : Machine = spelled code a callers values heard in
    let t = write_array code (slice_get code.arrays k) m room in
    let split : values ≡ (take (floor code a) values ++ reverse t.3) ++ Int t.2 ∷ t.1 ∷ [] = below (floor code a) values (t.1 ∷ Int t.2 ∷ []) t.3 t.5 in
    let same : array ≡ t.0 = same_array array t.0 (sym found ∙ t.4) in
    let number : n ≡ t.2 = is (take (floor code a) values ++ reverse t.3) t.2 t.1 split in
    let cell : cell_in t.0 t.2 ≡ None = sym (ap (λ (g : Cells). cell_in g n) same ∙ ap (λ z. cell_in t.0 z) number) ∙ outside in
    lands code a callers values values' t.3 heard' (act code (does.WriteAt k) m)
    (t.7 ∙ ap (λ (o : Option ℕ). write_cell o t.1 t.3 m) cell ∙ ap (λ b. failed_if b BAD_INDEX t.3 m) goes ∙ ap (λ (h : Heard). quiet (on t.3 (spelled code a callers values h))) (sym noted))
    s
    (did (take (floor code a) values ++ reverse t.3) (Int t.2 ∷ t.1 ∷ []) split refl)

pub write_at_ends : (code : RawParts) (k : ℕ) (a : Active) (values : List Value) (heard : Heard) (array : Cells) (n : ℤ) → slice_get code.arrays k ≡ Some array → ((low : List Value) (i : ℤ) (v : Value) → values ≡ low ++ Int i ∷ v ∷ [] → n ≡ i) → cell_in array n ≡ None → heard.goes_on ≡ false → DoesHeard code (does.WriteAt k) a values heard (went.Ends BAD_INDEX) values heard
write_at_ends code k a values heard array n found is outside stops = λ callers s room.
    let m : Machine = spelled code a callers values heard in
    let t = write_array code (slice_get code.arrays k) m room in
    let same : array ≡ t.0 = same_array array t.0 (sym found ∙ t.4) in
    let number : n ≡ t.2 = is (take (floor code a) values ++ reverse t.3) t.2 t.1 (below (floor code a) values (t.1 ∷ Int t.2 ∷ []) t.3 t.5) in
    let cell : cell_in t.0 t.2 ≡ None = sym (ap (λ (g : Cells). cell_in g n) same ∙ ap (λ z. cell_in t.0 z) number) ∙ outside in
    ((t.7 ∙ ap (λ (o : Option ℕ). write_cell o t.1 t.3 m) cell ∙ ap (λ b. failed_if b BAD_INDEX t.3 m) stops, refl), s)

-- The other requests

pub read_asks : (code : RawParts) (c : ℕ) (a : Active) (values : List Value) (heard : Heard) → DoesHeard code (does.ReadCell c) a values heard went.Asks values heard
read_asks code c a values heard = λ callers s room. ((by (slice_get code.layout.cells c) room, refl), s)
  where
    by : (o : Option CellHead) → HasRoom (read o c) → (q : Request) × (read o c ≡ asks q) × IsAskedBy (does.ReadCell c) q
    by (Some cell) room = (Read c, refl, tt)
    by None room = absurd room

pub write_asks : (code : RawParts) (c : ℕ) (a : Active) (values : List Value) (heard : Heard) → DoesHeard code (does.WriteCell c) a values heard went.Asks values heard
write_asks code c a values heard = λ callers s room. ((by (spelled code a callers values heard) (slice_get code.layout.cells c) room, refl), s)
  where
    by : (m : Machine) (o : Option CellHead) → HasRoom (written o c m) → (q : Request) × (written o c m ≡ asks q) × IsAskedBy (does.WriteCell c) q
    by m None room = absurd room
    by m (Some cell) room =
        let go : Value → List Value → Move = λ v operands. only_if (is_of cell.kind v) (asks (Write c v)) in
        let t = one_there go m.top.operands room in
        let acts : one go m.top.operands ≡ go t.0 t.1 = ap (λ (l : List Value). one go l) t.2 in
        let good : is_of cell.kind t.0 ≡ true = only_there (is_of cell.kind t.0) (asks (Write c t.0)) (subst HasRoom acts room) in
        (Write c t.0, acts ∙ ap (λ b. only_if b (asks (Write c t.0))) good, tt)

pub ask_asks : (code : RawParts) (q : SharedName) (a : Active) (values : List Value) (heard : Heard) → DoesHeard code (does.Ask q) a values heard went.Asks values heard
ask_asks code q a values heard = λ callers s room.
    let m : Machine = spelled code a callers values heard in
    let t = several_there (shared_takes q) (λ args operands. asks (request_of q args)) m.top.operands room in
    (((request_of q (reverse (take (length (shared_takes q)) m.top.operands)), t.1, tt), refl), s)

-- the test for an element

pub inside_cell : (array : Cells) (n : ℤ) → is_inside array n ≡ true → (c : ℕ) × (cell_in array n ≡ Some c)
inside_cell array (pos i) h = (array.first + i, ap (λ b. cond b (Some (array.first + i)) None) h)
inside_cell array (negsuc i) h = absurd (cc h)

pub outside_cell : (array : Cells) (n : ℤ) → is_inside array n ≡ false → cell_in array n ≡ None
outside_cell array (pos i) h = ap (λ b. cond b (Some (array.first + i)) None) h
outside_cell array (negsuc i) h = refl
