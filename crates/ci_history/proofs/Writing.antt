-- Texts that are put line by line.
use Rattle.std.proofs.Common.{◌≡◌, ℕ, ◌+◌, ◌<◌, Bool, true, false, cond, List, [], ◌∷◌, ◌++◌, length, take, drop, get_or, Option, Result, Ok, Err, IsErr, sym, ◌∙◌, ap, subst, append_assoc, append-nil, arith, length-take-le}
use Rattle.ci_outside.specs.Sink.{Puts}
use Rattle.ci_outside.proofs.Putting.{Puts-fails, Puts-nothing}
use Rattle.std.specs.List.{flat_map}
use Rattle.std.proofs.lemmas.Grind.{flat_map-append}
use Rattle.std.proofs.lemmas.List.{take_more, take-append-drop, drop_more}
use Rattle.ci_history.specs.declared.end.TaskEnd.{TaskEnd}
use Rattle.ci_history.specs.Report.{task_line, task_lines}

-- the next of a list, and what is behind it
drop_step : {A : Type 0} (xs : List A) (i : ℕ) (x : A) → x ≡ get_or xs i x → i < length xs → drop i xs ≡ x ∷ drop (i + 1) xs
drop_step xs i x x_is within = drop_more xs i x within ∙ ap (λ y. y ∷ drop (i + 1) xs) (sym x_is)

-- the next element behind a front
take_step : {X : Type 0} (xs : List X) (i : ℕ) (x : X) → x ≡ get_or xs i x → i < length xs → take (i + 1) xs ≡ take i xs ++ x ∷ []
take_step xs i x x_is within = take_more xs i x within ∙ ap (λ y. take i xs ++ y ∷ []) (sym x_is)

-- the lines of a longer front
pub flat-next : {X : Type 0} (f : X → List ℕ) (xs : List X) (i : ℕ) (x : X) → x ≡ get_or xs i x → i < length xs
    → flat_map f (take (i + 1) xs) ≡ flat_map f (take i xs) ++ f x
flat-next f xs i x x_is within =
    ap (flat_map f) (take_step xs i x x_is within) ∙ flat_map-append f (take i xs) (x ∷ []) ∙ ap (λ l. flat_map f (take i xs) ++ l) (append-nil (f x))

-- the lines of all, around one of them
pub flat-around : {X : Type 0} (f : X → List ℕ) (xs : List X) (i : ℕ) (x : X) → x ≡ get_or xs i x → i < length xs
    → flat_map f xs ≡ flat_map f (take i xs) ++ (f x ++ flat_map f (drop (i + 1) xs))
flat-around f xs i x x_is within =
    ap (flat_map f) (sym (take-append-drop i xs)) ∙ flat_map-append f (take i xs) (drop i xs)
    ∙ ap (λ l. flat_map f (take i xs) ++ flat_map f l) (drop_step xs i x x_is within)

-- the lines of two lists of tasks, one after the other
task_lines-append : (number : ℕ) (xs ys : List TaskEnd) → task_lines number (xs ++ ys) ≡ task_lines number xs ++ task_lines (number + length xs) ys
task_lines-append number [] ys = ap (λ n. task_lines n ys) (omega arith)
task_lines-append number (x ∷ xs) ys =
    ap (λ l. task_line number x ++ l) (task_lines-append (number + 1) xs ys ∙ ap (λ n. task_lines (number + 1) xs ++ task_lines n ys) (omega arith))
    ∙ sym (append_assoc (task_line number x) (task_lines (number + 1) xs) (task_lines (number + length (x ∷ xs)) ys))

pub lines-next : (xs : List TaskEnd) (i number : ℕ) (x : TaskEnd) → x ≡ get_or xs i x → i < length xs → number ≡ i + 1
    → task_lines 1 (take (i + 1) xs) ≡ task_lines 1 (take i xs) ++ task_line number x
lines-next xs i number x x_is within number_is =
    ap (task_lines 1) (take_step xs i x x_is within) ∙ task_lines-append 1 (take i xs) (x ∷ [])
    ∙ ap (λ n. task_lines 1 (take i xs) ++ (task_line n x ++ [])) (omega (arith, number_is, length-take-le i xs (omega arith)))
    ∙ ap (λ l. task_lines 1 (take i xs) ++ l) (append-nil (task_line number x))

pub lines-around : (xs : List TaskEnd) (i number : ℕ) (x : TaskEnd) → x ≡ get_or xs i x → i < length xs → number ≡ i + 1
    → task_lines 1 xs ≡ task_lines 1 (take i xs) ++ (task_line number x ++ task_lines (number + 1) (drop (i + 1) xs))
lines-around xs i number x x_is within number_is =
    ap (task_lines 1) (sym (take-append-drop i xs)) ∙ task_lines-append 1 (take i xs) (drop i xs)
    ∙ ap (λ n. task_lines 1 (take i xs) ++ task_lines n (drop i xs)) (omega (arith, number_is, length-take-le i xs (omega arith)))
    ∙ ap (λ l. task_lines 1 (take i xs) ++ task_lines number l) (drop_step xs i x x_is within)

-- a front of the text was put, and then a put of the next piece failed, which the result tells
pub stops : {K T E T' E' T'' E'' : Type 0} (bytes : K → Option (List ℕ)) (faults : K → ℕ) (before mid after : K) (done : T) (e : E') (result : Result T'' E'') (text so_far piece rest : List ℕ)
    → text ≡ so_far ++ (piece ++ rest) → IsErr result → Puts {E = E} bytes faults before mid (Ok done) so_far → Puts {T = T'} bytes faults mid after (Err e) piece
    → Puts bytes faults before after result text
stops bytes faults before mid after done e (Ok t) text so_far piece rest split is_err one two = absurd (clash is_err) where
  clash : false ≡ true → ⊥
  clash h = let Family : Bool → Type 0 = λ b. cond b ⊥ (Unit {0}) in subst Family h tt
stops {T' = T'} bytes faults before mid after done e (Err e'') text so_far piece rest split is_err one two =
    Puts-fails {T' = T'} bytes faults before mid after done e e'' text so_far piece rest split one two

-- the first put failed, which the result tells
pub stops-first : {K T' E' T'' E'' : Type 0} (bytes : K → Option (List ℕ)) (faults : K → ℕ) (before after : K) (e : E') (result : Result T'' E'') (text piece rest : List ℕ)
    → text ≡ piece ++ rest → IsErr result → Puts {T = T'} bytes faults before after (Err e) piece → Puts bytes faults before after result text
stops-first {T' = T'} {E' = E'} bytes faults before after e result text piece rest split is_err one =
    stops {T = Unit {0}} {E = E'} {T' = T'} bytes faults before before after (tt {0}) e result text [] piece rest split is_err
    (Puts-nothing {T = Unit {0}} {E = E'} bytes faults before (tt {0})) one
