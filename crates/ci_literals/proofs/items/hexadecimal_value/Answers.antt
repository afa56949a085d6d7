use Rattle.std.proofs.Common.{arith}
use Rattle.ci_literals.proofs.Escaping.{hex_small}
use Rattle.ci_literals.proofs.items.hexadecimal_value.Goals as goal

pub overflow_mul-result : goal.overflow_mul-result
overflow_mul-result c = omega (arith, hex_small c.args.high c.requires.high, c.digit_value.ensures.value)

pub overflow_add-result : goal.overflow_add-result
overflow_add-result c =
    omega (arith, hex_small c.args.high c.requires.high, c.digit_value.ensures.value, hex_small c.args.low c.requires.low, c.digit_value-2.ensures.value)
