-- Copies of a list one after another.
use Rattle.std.proofs.Common.{◌≡◌, ℕ, zero, suc, ◌+◌, ◌-◌, ◌*◌, ◌%◌, ◌<◌, List, [], ◌∷◌, ◌++◌, length, take, get_or, refl, sym, ap, ◌∙◌, arith, ⊎_elim, length-append}
use Rattle.std.specs.List.{repeat}
use Rattle.std.proofs.lemmas.Bool.{cases_lt}
use Rattle.std.proofs.lemmas.List.{get_or_append_left, get_or-append_right, take_more}
use Rattle.std.proofs.Math.Nat.{mod-eq-sub-mod, mod-eq_of_lt}

-- n copies are n times as long
pub length-repeat : (n : ℕ) (s : List ℕ) → length (repeat n s) ≡ n * length s
length-repeat zero s = omega arith
length-repeat (suc n) s = omega (arith, length-append s (repeat n s), length-repeat n s)

-- an element of the copies
pub get_or-repeat : (n : ℕ) (s : List ℕ) (k : ℕ) → k < n * length s → get_or (repeat n s) k 0 ≡ get_or s (k % length s) 0
get_or-repeat zero s k lt = absurd (omega arith)
get_or-repeat (suc n) s k lt =
    ⊎_elim
    (λ first. get_or_append_left s (repeat n s) 0 k first ∙ ap (λ i. get_or s i 0) (sym (mod-eq_of_lt first)))
    (λ later. get_or-append_right s (repeat n s) (length s) k 0 refl later ∙ get_or-repeat n s (k - length s) (omega arith) ∙ ap (λ i. get_or s i 0) (sym (mod-eq-sub-mod later)))
    (cases_lt k (length s))

-- one more element of the copies
pub take-repeat_more : (n i : ℕ) (s : List ℕ) → 0 < length s → i < n → take (i + 1) (repeat n s) ≡ take i (repeat n s) ++ get_or s (i % length s) 0 ∷ []
take-repeat_more n i s some lt =
    let within : i < n * length s = grind arith in
    take_more (repeat n s) i 0 (omega (arith, length-repeat n s)) ∙ ap (λ b. take i (repeat n s) ++ b ∷ []) (get_or-repeat n s i within)
