-- The search of a given function.
use Rattle.std.proofs.Common.{◌≡◌, ◌∙◌, ℕ, ◌+◌, ◌<◌, Bool, true, false, cond, List, ◌∷◌, map, length, drop, get_or, find, Option, Some, IsTrue, refl, sym, ap, true≢false}
use Rattle.std.proofs.Math.Logic.{◌↔◌}
use Rattle.std.specs.Str.{str_eq_ignore_ascii_case, str_to_ascii_lowercase}
use Rattle.std.proofs.lemmas.Slice.Eq.{bytes_eq-Decides}
use Rattle.std.proofs.lemmas.List.{drop_more}
use Rattle.ci_names.specs.Given.{Given}
use Rattle.ci_scopes.specs.declared.given.GivenAt.{GivenAt}
use Rattle.ci_scopes.specs.GivenRows.{given_row}

-- what the comparison of the code says
pub test_is : (r : Bool) (a b : List ℕ) → IsTrue r ↔ (str_to_ascii_lowercase a ≡ str_to_ascii_lowercase b) → str_eq_ignore_ascii_case a b ≡ r
test_is true a b h = (bytes_eq-Decides (str_to_ascii_lowercase a) (str_to_ascii_lowercase b)).1 (h.0 refl)
test_is false a b h = by (str_eq_ignore_ascii_case a b) refl
  where
    by : (s : Bool) → str_eq_ignore_ascii_case a b ≡ s → s ≡ false
    by false e = refl
    by true e = absurd (true≢false (sym (h.1 ((bytes_eq-Decides (str_to_ascii_lowercase a) (str_to_ascii_lowercase b)).0 e))))

-- the first of this name
abbrev pub found : List ℕ → List GivenAt → Option Given
found name rows = find (λ (g : Given). str_eq_ignore_ascii_case g.name name) (map given_row rows)

-- one row of those that are left
pub found_step : (name : List ℕ) (rows : List GivenAt) (i : ℕ) (row : GivenAt) (b : Bool) → i < length rows → row ≡ get_or rows i row → str_eq_ignore_ascii_case row.name.now name ≡ b →
    found name (drop i rows) ≡ cond b (Some (given_row row)) (found name (drop (i + 1) rows))
found_step name rows i row b h e t =
    ap (found name) (drop_more rows i row h ∙ ap (λ r. r ∷ drop (i + 1) rows) (sym e)) ∙ ap (λ c. cond c (Some (given_row row)) (found name (drop (i + 1) rows))) t
