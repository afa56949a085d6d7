use Rattle.std.proofs.Common.{◌≤◌, w32, ap, sym, ◌∙◌, to_z, of_z, to_z-of_z, rules, arith, Ok}
use Rattle.std.specs.Prelude.{FitsSigned, unsigned_abs, int_div}
use Rattle.ci_base.specs.Values.{is_zero}
use Rattle.ci_base.specs.declared.value.Value.TheVariants.{Int}
use Rattle.ci_builtin.proofs.Wrapping.{bits_wrap, abs_small, quotient_small}
use Rattle.ci_builtin.proofs.arithmetic.quotient.Goals as goal

pub returns-else-is_zero : goal.returns-else-is_zero
returns-else-is_zero c =
    let a = c.args.a in
    let b = c.args.b in
    let fits : FitsSigned w32 c.wrapping_div.result = search rules in
    let nonzero = sym (ap is_zero (to_z-of_z c.ranges.b)) ∙ sym c.is_zero.ensures ∙ c.if-is_zero.false in
    let small : unsigned_abs (int_div a b) ≤ 2147483648 = omega (arith, quotient_small a b, abs_small a c.ranges.a) in
    let divided = ap (λ n. to_z w32 (of_z w32 (int_div n (to_z w32 (of_z w32 b))))) (to_z-of_z c.ranges.a) ∙ ap (λ n. to_z w32 (of_z w32 (int_div a n))) (to_z-of_z c.ranges.b) in
    rw nonzero (ap (λ n. Ok (Int n)) (to_z-of_z fits ∙ c.wrapping_div.ensures ∙ divided ∙ bits_wrap (int_div a b) small))
