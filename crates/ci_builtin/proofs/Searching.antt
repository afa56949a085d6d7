-- The first offset that passes a test.
use Rattle.std.proofs.Common.{◌≡◌, ℕ, zero, suc, ◌+◌, ◌-◌, ◌<◌, ◌≤◌, Bool, true, false, cond, List, length, drop, get_or, Some, None, refl, sym, ap, ◌∙◌, arith, length-drop}
use Rattle.std.specs.Prelude.{pos}
use Rattle.std.specs.List.{find, range_with_len}
use Rattle.std.proofs.lemmas.List.{get_or-drop}
use Rattle.memchr.specs.Find.{OccursAt, FindsNeedle}
use Rattle.memchr.proofs.lemmas.MatchLemmas.{occurs_at-true, OccursAt-true}
use Rattle.ci_base.specs.TextFunctions.{stands_at, search, offset_or_none}

-- the number at which all before it don't pass, and it does
find_first : (test : ℕ → Bool) (a m k : ℕ) → k < m → ((j : ℕ) → j < k → test (a + j) ≡ false) → test (a + k) ≡ true → find test (range_with_len a m) ≡ Some (a + k)
find_first test a zero k lt before here = absurd (omega arith)
find_first test a (suc m) zero lt before here =
    let e : a ≡ a + 0 = omega arith in
    ap (λ b. cond b (Some a) (find test (range_with_len (a + 1) m))) (ap test e ∙ here) ∙ ap Some e
find_first test a (suc m) (suc k) lt before here =
    let moved = λ (j : ℕ). let e : a + 1 + j ≡ a + suc j = omega arith in e in
    let e : a ≡ a + 0 = omega arith in
    let later = find_first test (a + 1) m k (omega arith) (λ j l. ap test (moved j) ∙ before (suc j) (omega arith)) (ap test (moved k) ∙ here) in
    ap (λ b. cond b (Some a) (find test (range_with_len (a + 1) m))) (ap test e ∙ before 0 (omega arith)) ∙ later ∙ ap Some (moved k)

-- none passes
find_none : (test : ℕ → Bool) (a m : ℕ) → ((j : ℕ) → j < m → test (a + j) ≡ false) → find test (range_with_len a m) ≡ None
find_none test a zero each = refl
find_none test a (suc m) each =
    let moved = λ (j : ℕ). let e : a + 1 + j ≡ a + suc j = omega arith in e in
    let e : a ≡ a + 0 = omega arith in
    ap (λ b. cond b (Some a) (find test (range_with_len (a + 1) m))) (ap test e ∙ each 0 (omega arith)) ∙ find_none test (a + 1) m (λ j l. ap test (moved j) ∙ each (suc j) (omega arith))

module _ (s p : List ℕ) (n : ℕ) (within : n ≤ length s) where
  -- where the pattern stands in the rest of the text, and in the text
  shifted : (j : ℕ) → OccursAt (drop n s) p j → OccursAt s p (n + j)
  shifted j here = record {
    fits = omega (arith, here.fits, length-drop n s);
    reads = λ i lt. ap (λ k. get_or s k 0) (omega arith) ∙ sym (get_or-drop n s (j + i) 0) ∙ here.reads i lt;
  }

  shifted_back : (j : ℕ) → OccursAt s p (n + j) → OccursAt (drop n s) p j
  shifted_back j here = record {
    fits = omega (arith, here.fits, length-drop n s);
    reads = λ i lt. get_or-drop n s (j + i) 0 ∙ ap (λ k. get_or s k 0) (omega arith) ∙ here.reads i lt;
  }

  absent : (j : ℕ) → (OccursAt (drop n s) p j → ⊥) → stands_at s p (n + j) ≡ false
  absent j lacks = elim (stands_at s p (n + j)) as (λ b. stands_at s p (n + j) ≡ b → b ≡ false) [
    | true ↦ λ e. absurd (lacks (shifted_back j (OccursAt-true s p (n + j) e)))
    | false ↦ λ e. refl
  ] refl

  -- what a search of the rest of the text finds
  pub search_some : (k : ℕ) → FindsNeedle (drop n s) p 0 (Some k) → search (pos n) s p ≡ pos (n + k)
  search_some k found =
      let first = found.0 in
      let high : k < length s + 1 - n = omega (arith, first.high, length-drop n s) in
      ap offset_or_none (find_first (stands_at s p) n (length s + 1 - n) k high (λ j lt. absent j (first.before j (omega arith) lt)) (occurs_at-true s p (n + k) (shifted k found.1)))

  pub search_none : FindsNeedle (drop n s) p 0 None → search (pos n) s p ≡ offset_or_none None
  search_none none = ap offset_or_none (find_none (stands_at s p) n (length s + 1 - n) (λ j lt. absent j (none j (omega arith) (omega (arith, length-drop n s)))))

-- behind the end there is nothing to search
pub search_behind : (s p : List ℕ) (n : ℕ) → length s < n → search (pos n) s p ≡ offset_or_none None
search_behind s p n behind =
    let none : length s + 1 - n ≡ 0 = omega arith in
    ap (λ m. offset_or_none (find (stands_at s p) (range_with_len n m))) none
