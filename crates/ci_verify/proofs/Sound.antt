-- Verified code is sound; at most one broken rule is the first.
use Rattle.std.proofs.Common.{◌≡◌, ℕ, zero, suc, ◌<◌, List, [], ◌∷◌, length, Some, refl, subst, arith, ⊎_elim}
use Rattle.std.proofs.lemmas.Bool.{cases_lt}
use Rattle.std.specs.List.{slice_get}
use Rattle.ci_verify.specs.Laws.{OneFirst, VerifiedIsSound}
use Rattle.ci_verify.specs.Rules.{IsFirst}

pub there : {A : Type 0} → (xs : List A) (i : ℕ) → i < length xs → (x : A) × (slice_get xs i ≡ Some x)
there [] i h = absurd (omega arith)
there (x ∷ xs) zero h = (x, refl)
there (x ∷ xs) (suc i) h = there xs i (omega arith)

pub verified_is_sound : VerifiedIsSound
verified_is_sound code none f head function eh e = record {
  few = ((none 1 f 0).there head function eh e).0 refl;
  tick = ((none 2 f 0).there head function eh e refl).0;
  empty = ((none 2 f 0).there head function eh e refl).1;
  shaped = λ p s found.
      let (before, named) = there code.shapes s.shape ((((none 1 f p).there head function eh e).1 s found).0) in
      (before, record { found = found; shape = named });
  fine = λ p s before at. record {
    named = (((none 1 f p).there head function eh e).1 s at.found).1;
    finds = (none 3 f p).there head function eh e s before at;
    goes_on = (none 4 f p).there head function eh e s before at;
    roomy = (none 5 f p).there head function eh e s before at;
    ahead = (none 6 f p).there head function eh e s at.found;
  };
}

no_less : (m n : ℕ) → (m < n → ⊥) → (n < m → ⊥) → m ≡ n
no_less m n a b = ⊎_elim (λ h. absurd (a h)) (λ le. ⊎_elim (λ h. absurd (b h)) (λ le'. omega arith) (cases_lt n m)) (cases_lt m n)

pub one_first : OneFirst
one_first code r f p r' f' p' a b =
    let same_f : f ≡ f' = no_less f f' (λ h. a.broken (b.functions f p r h)) (λ h. b.broken (a.functions f' p' r' h)) in
    let a' : IsFirst code r f' p = subst (λ x. IsFirst code r x p) same_f a in
    let same_p : p ≡ p' = no_less p p' (λ h. a'.broken (b.places p r h)) (λ h. b.broken (a'.places p' r' h)) in
    let c : IsFirst code r f' p' = subst (λ x. IsFirst code r f' x) same_p a' in
    (no_less r r' (λ h. c.broken (b.rules r h)) (λ h. b.broken (c.rules r' h)), same_f, same_p)
