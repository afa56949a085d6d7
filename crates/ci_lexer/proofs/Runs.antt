-- Runs: where they stop.
use Rattle.std.proofs.Common.{◌≡◌, ℕ, Bool, true, false, List, [], ◌∷◌, ◌++◌, sym, refl, ap, ◌∙◌}
use Rattle.std.specs.List.{list_all}
use Rattle.std.proofs.lemmas.Bool.{and_parts, and_from, both_ways}
use Rattle.std.proofs.lemmas.List.Folds.{list_all-append}
use Rattle.ci_base.specs.Letters.{begins}

-- behind a run that is as long as possible nothing more of it stands
pub stops : (p : ℕ → Bool) (s more behind rest : List ℕ) → rest ≡ more ++ behind → begins p rest ≡ false → list_all p (s ++ more) ≡ true → more ≡ []
stops p s [] behind rest e stop all = refl
stops p s (b ∷ more) behind rest e stop all =
    let here = sym (ap (begins p) e) ∙ stop in
    let each = and_parts (list_all p s) (list_all p (b ∷ more)) (sym (list_all-append p s (b ∷ more)) ∙ all) in
    absurd (both_ways (p b) here (and_parts (p b) (list_all p more) each.1).0)

-- the first part of a run
pub list_all-front : (p : ℕ → Bool) (s t : List ℕ) → list_all p (s ++ t) ≡ true → list_all p s ≡ true
list_all-front p s t all = (and_parts (list_all p s) (list_all p t) (sym (list_all-append p s t) ∙ all)).0

-- one more byte of a run
pub list_all-push : (p : ℕ → Bool) (s : List ℕ) (b : ℕ) → list_all p s ≡ true → p b ≡ true → list_all p (s ++ b ∷ []) ≡ true
list_all-push p s b all here = list_all-append p s (b ∷ []) ∙ and_from (list_all p s) (list_all p (b ∷ [])) all (and_from (p b) true here refl)

-- a longest run before the rest isn't empty where the whole begins with a byte that passes
pub begins_run : (p q : ℕ → Bool) (s front rest : List ℕ) → s ≡ front ++ rest → begins q s ≡ true → ((b : ℕ) → q b ≡ true → p b ≡ true) → begins p rest ≡ false → begins q front ≡ true
begins_run p q s [] rest e first within stop = absurd (both_ways (begins p rest) stop (first_passes rest (sym (ap (begins q) e) ∙ first))) where
  first_passes : (t : List ℕ) → begins q t ≡ true → begins p t ≡ true
  first_passes [] h = h
  first_passes (b ∷ t) h = within b h
begins_run p q s (b ∷ front) rest e first within stop = sym (ap (begins q) e) ∙ first
