-- Lists that are looked at one by one.
use Rattle.std.proofs.Common.{◌≡◌, ℕ, ◌+◌, ◌<◌, ◌≤◌, true, false, List, length, take, get_or, sym, subst, refl, take_all}
use Rattle.std.specs.Prelude.{◌↔◌, IsTrue, All}
use Rattle.std.proofs.lemmas.List.Elements.{All-more, All-get_or}

-- one more passes
pub one_more : {X : Type 0} (P : X → Type 0) (xs : List X) (i : ℕ) (x : X) → x ≡ get_or xs i x → i < length xs → All P (take i xs) → P x → All P (take (i + 1) xs)
one_more P xs i x x_is within all passes = All-more P xs i x within all (subst P x_is passes)

-- one doesn't pass
pub one_fails : {X : Type 0} (P : X → Type 0) (xs : List X) (i : ℕ) (x : X) → x ≡ get_or xs i x → i < length xs → (P x → ⊥) → IsTrue false ↔ All P xs
one_fails P xs i x x_is within fails = (λ e. absurd (cc e), λ all. absurd (fails (subst P (sym x_is) (All-get_or P xs i x within all))))

-- all have passed
pub all_pass : {X : Type 0} (P : X → Type 0) (xs : List X) (i : ℕ) → length xs ≤ i → All P (take i xs) → IsTrue true ↔ All P xs
all_pass P xs i beyond all = (λ e. subst (All P) (take_all i xs beyond) all, λ h. refl)
