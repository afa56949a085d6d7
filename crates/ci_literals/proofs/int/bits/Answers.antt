use Rattle.std.proofs.Common.{◌≡◌, ℕ, pos, ap, sym, ◌∙◌, arith, w32, to_z, to_z-of_z, Some, rules, ◌<◌, ◌^◌}
use Rattle.std.specs.Prelude.{FitsSigned, option_map}
use Rattle.std.specs.Int.{int_wrap}
use Rattle.ci_literals.proofs.int.bits.Goals as goal

wrap_bits : (n : ℕ) → n < 2 ^ 32 → to_z w32 n ≡ int_wrap w32 (pos n)
unfolding int_wrap
wrap_bits n small = ap (to_z w32) (omega arith)

pub returns-in-Some : goal.returns-in-Some
returns-in-Some c =
    let fits : FitsSigned w32 c.cast_signed.result = search rules in
    let value = to_z-of_z fits ∙ c.cast_signed.ensures ∙ wrap_bits c.in-Some.n (search rules) in
    ap (λ n. Some n) value ∙ ap (option_map (λ n. int_wrap w32 (pos n))) (sym c.in-Some.is ∙ c.natural.ensures.value)
