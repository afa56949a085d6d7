-- Going through the list of semaphores.
use Rattle.std.proofs.Common.{◌≡◌, ◌≢◌, ◌<◌, ◌≤◌, ◌+◌, ℕ, zero, suc, ℤ, Bool, true, false, cond, List, [], ◌∷◌, length, take, drop, Some, None, refl, sym, ap, ◌∙◌, subst, get_or, arith, add-one, drop-cons}
use Rattle.std.specs.Prelude.{slice_get}
use Rattle.std.specs.Ordering.{int_eq}
use Rattle.std.proofs.lemmas.Bool.Decides.{Decides-int_eq}
use Rattle.std.proofs.lemmas.List.{drop_all, take_all}
use Rattle.std.proofs.lemmas.Option.{slice_get-get_or}
use Rattle.ci_shared.specs.declared.object.Semaphore.{Semaphore}
use Rattle.ci_shared.specs.Semaphores.{semaphore_named, semaphore_of, with_count, no_semaphore}
use Rattle.ci_shared.specs.Words.{same_text}
use Rattle.ci_shared.proofs.Numbers.{text_itself, text_same}
use Rattle.ci_sems.specs.Found.{Stands}

pub there : (xs : List Semaphore) (i : ℕ) (x : Semaphore) → i < length xs → x ≡ get_or xs i x → slice_get xs i ≡ Some x
there xs i x lt is = slice_get-get_or xs i x lt ∙ ap (λ (y : Semaphore). Some y) (sym is)

next : (xs : List Semaphore) (i : ℕ) (x : Semaphore) → i < length xs → x ≡ get_or xs i x → drop i xs ≡ x ∷ drop (i + 1) xs
next xs i x lt is = drop-cons xs i x lt ∙ ap (λ (y : Semaphore). y ∷ drop (suc i) xs) (sym is) ∙ ap (λ (k : ℕ). x ∷ drop k xs) (sym (add-one i))

-- what a front without the number says of its first member and of the rest
apart : (h : ℤ) (y : Semaphore) (ys : List Semaphore) → semaphore_of h (y ∷ ys) ≡ None → (int_eq y.number h ≡ false) × (semaphore_of h ys ≡ None)
apart h y ys e = by (int_eq y.number h) refl e
  where
    by : (b : Bool) → int_eq y.number h ≡ b → cond b (Some y) (semaphore_of h ys) ≡ None → (int_eq y.number h ≡ false) × (semaphore_of h ys ≡ None)
    by true t i = absurd (cc i)
    by false t i = (t, i)

-- by number
found_at : (h : ℤ) (xs : List Semaphore) (i : ℕ) (x : Semaphore) → slice_get xs i ≡ Some x → x.number ≡ h → semaphore_of h (take i xs) ≡ None → Stands h xs i
found_at h [] i x e same none = absurd (cc e)
found_at h (y ∷ ys) zero x e same none =
    let here : y ≡ x = cc e in
    let test : int_eq y.number h ≡ true = (Decides-int_eq y.number h).1 (ap (λ (z : Semaphore). z.number) here ∙ same) in
    record {
      within = omega arith;
      semaphore = y;
      at = refl;
      is = ap (λ (b : Bool). cond b (Some y) (semaphore_of h ys)) test;
      counts = λ n. ap (λ (b : Bool). cond b (record y { count = n } ∷ ys) (y ∷ with_count h n ys)) test;
      gone = ap (λ (b : Bool). cond b ys (y ∷ no_semaphore h ys)) test;
    }
found_at h (y ∷ ys) (suc i) x e same none =
    let not = apart h y (take i ys) none in
    let rest : Stands h ys i = found_at h ys i x e same not.1 in
    let lt : i < length ys = rest.within in
    record {
      within = omega (arith, lt);
      semaphore = rest.semaphore;
      at = rest.at;
      is = ap (λ (b : Bool). cond b (Some y) (semaphore_of h ys)) not.0 ∙ rest.is;
      counts = λ n. ap (λ (b : Bool). cond b (record y { count = n } ∷ ys) (y ∷ with_count h n ys)) not.0 ∙ ap (λ (l : List Semaphore). y ∷ l) (rest.counts n);
      gone = ap (λ (b : Bool). cond b ys (y ∷ no_semaphore h ys)) not.0 ∙ ap (λ (l : List Semaphore). y ∷ l) rest.gone;
    }

pub number_here : (h : ℤ) (xs : List Semaphore) (i : ℕ) (x : Semaphore) → i < length xs → x ≡ get_or xs i x → semaphore_of h (take i xs) ≡ None → x.number ≡ h → Stands h xs i
number_here h xs i x lt is none same = found_at h xs i x (there xs i x lt is) same none

passed_at : (h : ℤ) (xs : List Semaphore) (i : ℕ) (x : Semaphore) → slice_get xs i ≡ Some x → x.number ≢ h → semaphore_of h (take i xs) ≡ None → semaphore_of h (take (suc i) xs) ≡ None
passed_at h [] i x e other none = absurd (cc e)
passed_at h (y ∷ ys) zero x e other none = by (int_eq y.number h) refl
  where
    here : y ≡ x
    here = cc e

    by : (b : Bool) → int_eq y.number h ≡ b → cond b (Some y) None ≡ None
    by true t = absurd (other (sym (ap (λ (z : Semaphore). z.number) here) ∙ (Decides-int_eq y.number h).0 t))
    by false t = refl
passed_at h (y ∷ ys) (suc i) x e other none =
    let not = apart h y (take i ys) none in
    ap (λ (b : Bool). cond b (Some y) (semaphore_of h (take (suc i) ys))) not.0 ∙ passed_at h ys i x e other not.1

pub number_passed : (h : ℤ) (xs : List Semaphore) (i : ℕ) (x : Semaphore) → i < length xs → x ≡ get_or xs i x → semaphore_of h (take i xs) ≡ None → x.number ≢ h → semaphore_of h (take (i + 1) xs) ≡ None
number_passed h xs i x lt is none other = subst (λ (k : ℕ). semaphore_of h (take k xs) ≡ None) (sym (add-one i)) (passed_at h xs i x (there xs i x lt is) other none)

pub number_nowhere : (h : ℤ) (xs : List Semaphore) (i : ℕ) → length xs ≤ i → semaphore_of h (take i xs) ≡ None → semaphore_of h xs ≡ None
number_nowhere h xs i long none = subst (λ (l : List Semaphore). semaphore_of h l ≡ None) (take_all i xs long) none

-- by name
pub name_here : (name : List ℕ) (xs : List Semaphore) (i : ℕ) (x : Semaphore) → i < length xs → x ≡ get_or xs i x → semaphore_named name xs ≡ semaphore_named name (drop i xs) → x.name ≡ name → Some x.number ≡ semaphore_named name xs
name_here name xs i x lt is so same =
    sym (so ∙ ap (λ (l : List Semaphore). semaphore_named name l) (next xs i x lt is) ∙ ap (λ (b : Bool). cond b (Some x.number) (semaphore_named name (drop (i + 1) xs))) (subst (λ (n : List ℕ). same_text x.name n ≡ true) same (text_itself x.name)))

pub some_number : (name : List ℕ) (xs : List Semaphore) (n z : ℤ) (x : Semaphore) → n ≡ z → z ≡ x.number → Some x.number ≡ semaphore_named name xs → Some n ≡ semaphore_named name xs
some_number name xs n z x e f h = ap (λ (k : ℤ). Some k) (e ∙ f) ∙ h

pub name_passed : (name : List ℕ) (xs : List Semaphore) (i : ℕ) (x : Semaphore) → i < length xs → x ≡ get_or xs i x → semaphore_named name xs ≡ semaphore_named name (drop i xs) → x.name ≢ name → semaphore_named name xs ≡ semaphore_named name (drop (i + 1) xs)
name_passed name xs i x lt is so other = so ∙ ap (λ (l : List Semaphore). semaphore_named name l) (next xs i x lt is) ∙ by (same_text x.name name) refl
  where
    by : (b : Bool) → same_text x.name name ≡ b → cond b (Some x.number) (semaphore_named name (drop (i + 1) xs)) ≡ semaphore_named name (drop (i + 1) xs)
    by true e = absurd (other (text_same x.name name e))
    by false e = refl

pub name_nowhere : (name : List ℕ) (xs : List Semaphore) (i : ℕ) → length xs ≤ i → semaphore_named name xs ≡ semaphore_named name (drop i xs) → None ≡ semaphore_named name xs
name_nowhere name xs i long so = sym (so ∙ ap (λ (l : List Semaphore). semaphore_named name l) (drop_all i xs long))
