-- One value of a list after another.
use Rattle.std.proofs.Common.{◌≡◌, ◌≢◌, ℕ, suc, Bool, true, false, cond, eq-eqb, ne_eqb, get_or, drop, length, List, [], ◌∷◌, ◌++◌, Option, Some, None, refl, sym, ap, ◌∙◌, append_assoc, true≢false}
use Rattle.std.specs.Prelude.{option_map, ◌==◌}
use Rattle.ci_base.specs.declared.value.Value.{Value}
use Rattle.ci_base.specs.declared.bounds.TheConstants.{MOST_PARAMETERS}
use Rattle.ci_shared.specs.Arguments.{Front, behind_spaces, front, list_of, values_behind, values_from, values_in}
use Rattle.ci_shared.proofs.Numbers.{eqb_same}
use Rattle.ci_shared.specs.Words.{is_empty}

-- the values so far, and those that follow
abbrev pub behind : List Value → Option (List Value) → Option (List Value)
behind args o = option_map (λ vs. args ++ vs) o

pub none_behind : (o : Option (List Value)) → behind [] o ≡ o
none_behind None = refl
none_behind (Some vs) = refl

pub none_left : (args : List Value) (n : ℕ) (s : List ℕ) → n ≡ 0 → behind args (values_in n s) ≡ None
unfolding values_in
none_left args n s e = ap (λ (m : ℕ). behind args (values_in m s)) e

pub empty_is : (s : List ℕ) → true ≡ (length s == 0) → s ≡ []
empty_is [] e = refl
empty_is (b ∷ s) e = let z : length (b ∷ s) ≡ 0 = eqb_same (length (b ∷ s)) 0 (sym e) in absurd (cc z)

pub front_is : (s : List ℕ) → false ≡ (length s == 0) → s ≡ get_or s 0 0 ∷ drop 1 s
front_is [] e = absurd (true≢false (sym e))
front_is (b ∷ s) e = refl

module _ (args : List Value) (n k : ℕ) (s : List ℕ) (is : n ≡ suc k) where
  one : behind args (values_in n s) ≡ behind args (values_from (λ rest. values_in k rest) (front (behind_spaces s)))
  unfolding values_in
  one = ap (λ (m : ℕ). behind args (values_in m s)) is

  pub no_value : front (behind_spaces s) ≡ None → behind args (values_in n s) ≡ None
  no_value e = one ∙ ap (λ (o : Option Front). behind args (values_from (λ rest. values_in k rest) o)) e

  module _ (x : Front) (e : front (behind_spaces s) ≡ Some x) where
    found : (rest : List ℕ) → behind_spaces x.rest ≡ rest → behind args (values_in n s) ≡ behind args (option_map (λ vs. x.value ∷ vs) (values_behind (λ r. values_in k r) rest))
    found rest r =
        one ∙ ap (λ (o : Option Front). behind args (values_from (λ r. values_in k r) o)) e
        ∙ ap (λ (l : List ℕ). behind args (option_map (λ vs. x.value ∷ vs) (values_behind (λ r. values_in k r) l))) r

    pub last_value : behind_spaces x.rest ≡ [] → behind args (values_in n s) ≡ Some (args ++ x.value ∷ [])
    last_value r = found [] r

    pub no_comma : (b : ℕ) (more : List ℕ) → behind_spaces x.rest ≡ b ∷ more → b ≢ 44 → behind args (values_in n s) ≡ None
    no_comma b more r d = found (b ∷ more) r ∙ ap (λ (t : Bool). behind args (option_map (λ vs. x.value ∷ vs) (cond t (values_in k more) None))) (ne_eqb b 44 d)

    pub next_value : (b : ℕ) (more : List ℕ) → behind_spaces x.rest ≡ b ∷ more → b ≡ 44 → behind args (values_in n s) ≡ behind (args ++ x.value ∷ []) (values_in k more)
    next_value b more r i =
        found (b ∷ more) r ∙ ap (λ (t : Bool). behind args (option_map (λ vs. x.value ∷ vs) (cond t (values_in k more) None))) (eq-eqb b 44 i)
        ∙ onto (values_in k more)
      where
        onto : (o : Option (List Value)) → behind args (option_map (λ vs. x.value ∷ vs) o) ≡ behind (args ++ x.value ∷ []) o
        onto None = refl
        onto (Some vs) = ap (λ (l : List Value). Some l) (sym (append_assoc args (x.value ∷ []) vs))

-- a list of spaces alone, and any other one
pub list_empty : (list s : List ℕ) → s ≡ behind_spaces list → true ≡ (length s == 0) → list_of list ≡ Some []
unfolding list_of
list_empty list s is e = ap (λ (l : List ℕ). cond (is_empty l) (Some []) (values_in MOST_PARAMETERS l)) (sym is ∙ empty_is s e)

pub list_full : (list s : List ℕ) → s ≡ behind_spaces list → false ≡ (length s == 0) → list_of list ≡ values_in MOST_PARAMETERS s
unfolding list_of
list_full list s is e = ap (λ (l : List ℕ). cond (is_empty l) (Some []) (values_in MOST_PARAMETERS l)) (sym is) ∙ by s e
  where
    by : (l : List ℕ) → false ≡ (length l == 0) → cond (is_empty l) (Some []) (values_in MOST_PARAMETERS l) ≡ values_in MOST_PARAMETERS l
    by [] f = absurd (true≢false (sym f))
    by (b ∷ l) f = refl
