use Rattle.std.proofs.Common.{sym, ◌∙◌}
use Rattle.ci_literals.proofs.Naturals.{natural_is, no_natural, value_within}
use Rattle.ci_literals.proofs.digits.natural.Goals as goal

pub returns-then-is_numeral-clause-value : goal.returns-then-is_numeral-clause-value
returns-then-is_numeral-clause-value c =
    natural_is c.args.base c.args.limit c.args.digits.now c.value_of.result (sym c.is_numeral.ensures ∙ c.if-is_numeral.true) c.value_of.ensures

pub returns-then-is_numeral-clause-within : goal.returns-then-is_numeral-clause-within
returns-then-is_numeral-clause-within c = value_within c.args.base c.args.limit c.args.digits.now c.value_of.result c.value_of.ensures

pub returns-else-is_numeral-clause-value : goal.returns-else-is_numeral-clause-value
returns-else-is_numeral-clause-value c = no_natural c.args.base c.args.limit c.args.digits.now (sym c.is_numeral.ensures ∙ c.if-is_numeral.false)
