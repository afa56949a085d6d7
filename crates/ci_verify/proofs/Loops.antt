-- From the places to a function, and from the functions to the code.
use Rattle.std.proofs.Common.{◌≡◌, ℕ, zero, suc, ◌+◌, ◌<◌, ◌≤◌, List, length, Some, subst, arith, ⊎_elim}
use Rattle.std.proofs.lemmas.Bool.{cases_lt}
use Rattle.std.proofs.lemmas.Option.{slice_get_within}
use Rattle.std.specs.List.{slice_get}
use Rattle.ci_base.specs.declared.layout.Head.{Head}
use Rattle.ci_code.specs.declared.raw.RawFunction.{RawFunction}
use Rattle.ci_code.specs.declared.raw.RawParts.{RawParts}
use Rattle.ci_verify.specs.Rules.{Kept, NoneAt, NoneIn, AreTablesKept, TablesKept, Holds, NoneBroken}
use Rattle.ci_verify.proofs.Places.{same_some}

not_past : {A : Type 0} → (xs : List A) (p : ℕ) (a : A) → length xs ≤ p → slice_get xs p ≡ Some a → ⊥
not_past xs p a h e = let in_it : p < length xs = slice_get_within xs p a e in absurd (omega arith)

-- past the end nothing is broken
pub beyond : (code : RawParts) (head : Head) (function : RawFunction) (p q : ℕ) → length function.steps ≤ p → 0 < p → Kept q code head function p
beyond code head function p zero h z = tt
beyond code head function p (suc zero) h z = (λ e. absurd (omega arith), λ s e. absurd (not_past function.steps p s h e))
beyond code head function p (suc (suc zero)) h z = λ e. absurd (omega arith)
beyond code head function p (suc (suc (suc zero))) h z = λ s ks at. absurd (not_past function.steps p s h at.found)
beyond code head function p (suc (suc (suc (suc zero)))) h z = λ s ks at. absurd (not_past function.steps p s h at.found)
beyond code head function p (suc (suc (suc (suc (suc zero))))) h z = λ s ks at. absurd (not_past function.steps p s h at.found)
beyond code head function p (suc (suc (suc (suc (suc (suc zero)))))) h z = λ s e. absurd (not_past function.steps p s h e)
beyond code head function p (suc (suc (suc (suc (suc (suc (suc n))))))) h z = tt

pub none_in : (code : RawParts) (head : Head) (function : RawFunction) (n : ℕ) → length function.steps ≤ n → 0 < length function.steps → ((o q : ℕ) → o < n → Kept q code head function o) → NoneIn code head function
none_in code head function n e z all p q = ⊎_elim (λ lt. all p q lt) (λ le. beyond code head function p q (omega arith) (omega arith)) (cases_lt p n)

pub one_more : (code : RawParts) (head : Head) (function : RawFunction) (p : ℕ) → ((o q : ℕ) → o < p → Kept q code head function o) → NoneAt code head function p → (o q : ℕ) → o < p + 1 → Kept q code head function o
one_more code head function p all at o q h = ⊎_elim (λ lt. all o q lt) (λ le. let e : p ≡ o = omega arith in subst (λ x. Kept q code head function x) e (at q)) (cases_lt o p)

-- Functions

pub tables_kept : (code : RawParts) → AreTablesKept code → (r f p : ℕ) → TablesKept r code f p
tables_kept code t zero f p = tt
tables_kept code t (suc zero) f p = λ a b. t
tables_kept code t (suc (suc r)) f p = tt

pub holds_in : (code : RawParts) (f : ℕ) (head : Head) (function : RawFunction) (r p : ℕ) → AreTablesKept code → slice_get code.layout.functions f ≡ Some head → slice_get code.functions f ≡ Some function → Kept r code head function p → Holds r code f p
holds_in code f head function r p t eh e k =
    record {
      tables = tables_kept code t r f p;
      there = λ head' function' eh' e'.
          subst (λ (h : Head). Kept r code h function' p) (same_some (slice_get code.layout.functions f) head head' eh eh')
          (subst (λ (x : RawFunction). Kept r code head x p) (same_some (slice_get code.functions f) function function' e e') k);
    }

pub holds_past : (code : RawParts) (f r p : ℕ) → AreTablesKept code → length code.functions ≤ f → Holds r code f p
holds_past code f r p t h = record { tables = tables_kept code t r f p; there = λ head function eh e. absurd (not_past code.functions f function h e) }

pub function_more : (code : RawParts) (f : ℕ) (head : Head) (function : RawFunction) → AreTablesKept code → slice_get code.layout.functions f ≡ Some head → slice_get code.functions f ≡ Some function → ((g o q : ℕ) → g < f → Holds q code g o) → NoneIn code head function → (g o q : ℕ) → g < f + 1 → Holds q code g o
function_more code f head function t eh e all none g o q h =
    ⊎_elim (λ lt. all g o q lt) (λ le. let s : f ≡ g = omega arith in subst (λ x. Holds q code x o) s (holds_in code f head function q o t eh e (none o q))) (cases_lt g f)

pub none_broken : (code : RawParts) (n : ℕ) → length code.functions ≤ n → AreTablesKept code → ((g o q : ℕ) → g < n → Holds q code g o) → NoneBroken code
none_broken code n e t all r f p = ⊎_elim (λ lt. all f p r lt) (λ le. holds_past code f r p t (omega arith)) (cases_lt f n)
