-- A search gives the least offset.
use Rattle.std.proofs.Common.{◌≡◌, ℕ, zero, suc, ◌+◌, ◌-◌, ◌<◌, ◌≤◌, Bool, true, false, ◌&&◌, cond, List, length, take, drop, Option, Some, None, refl, ap, ◌∙◌, arith, ⊎_elim}
use Rattle.std.specs.Prelude.{pos, bytes_eq}
use Rattle.std.specs.List.{find, range_with_len}
use Rattle.std.proofs.lemmas.Bool.{lt-leb, cases_lt}
use Rattle.ci_base.specs.TextFunctions.{stands_at, search, offset_or_none}
use Rattle.ci_builtin.specs.Laws.{IsLeastOffset}

-- none of the numbers from a up to b passes
abbrev FailsFrom : (ℕ → Bool) → ℕ → ℕ → Type 0
FailsFrom test a b = (k : ℕ) → a ≤ k → k < b → test k ≡ false

-- what is found among the m numbers from a on
abbrev IsFound : (ℕ → Bool) → ℕ → ℕ → Option ℕ → Type 0
IsFound test a m None = FailsFrom test a (a + m)
IsFound test a m (Some k) = (a ≤ k) × (test k ≡ true) × FailsFrom test a k

later : (test : ℕ → Bool) (a b : ℕ) → test a ≡ false → FailsFrom test (a + 1) b → FailsFrom test a b
later test a b here behind k from to = ⊎_elim (λ below. behind k (omega arith) to) (λ above. let same : k ≡ a = omega arith in ap test same ∙ here) (cases_lt a k)

onward : (test : ℕ → Bool) (a m : ℕ) (r : Option ℕ) → test a ≡ false → IsFound test (a + 1) m r → IsFound test a (suc m) r
onward test a m None here rest = later test a (a + suc m) here (λ k from to. rest k from (omega arith))
onward test a m (Some k) here rest = (omega arith, rest.1, later test a k here rest.2)

found : (test : ℕ → Bool) (a m : ℕ) → IsFound test a m (find test (range_with_len a m))
found test a zero = λ k from to. absurd (omega arith)
found test a (suc m) =
    let rest = found test (a + 1) m in
    elim (test a) as (λ b. test a ≡ b → IsFound test a (suc m) (cond b (Some a) (find test (range_with_len (a + 1) m)))) [
      | true ↦ λ e. (omega arith, e, λ k from to. absurd (omega arith))
      | false ↦ λ e. onward test a m _ e rest
    ] refl

behind_the_end : (s pattern : List ℕ) (k : ℕ) → length s < k → stands_at s pattern k ≡ false
behind_the_end s pattern k far = ap (λ b. b && bytes_eq (take (length pattern) (drop k s)) pattern) (lt-leb (k + length pattern) (length s) (omega arith))

least : (s pattern : List ℕ) (from : ℕ) (r : Option ℕ) → IsFound (stands_at s pattern) from (length s + 1 - from) r → IsLeastOffset s pattern from (offset_or_none r)
least s pattern from (Some k) is = is
least s pattern from None none = λ k at. ⊎_elim (λ far. behind_the_end s pattern k far) (λ near. none k at (omega arith)) (cases_lt (length s) k)

pub searches_least : (s pattern : List ℕ) (from : ℕ) → IsLeastOffset s pattern from (search (pos from) s pattern)
searches_least s pattern from = least s pattern from _ (found (stands_at s pattern) from (length s + 1 - from))
