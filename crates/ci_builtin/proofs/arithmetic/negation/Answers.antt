use Rattle.std.proofs.Common.{w32, ◌∙◌, ap, to_z-of_z, rules}
use Rattle.std.specs.Prelude.{FitsSigned}
use Rattle.std.specs.Int.{int_wrapping_neg}
use Rattle.std.proofs.lemmas.Int.{wrapping_neg_is}
use Rattle.ci_builtin.proofs.arithmetic.negation.Goals as goal

pub returns : goal.returns
returns c =
    let fits : FitsSigned w32 c.wrapping_neg.result = search rules in
    to_z-of_z fits ∙ c.wrapping_neg.ensures ∙ ap (int_wrapping_neg w32) (to_z-of_z c.ranges.a) ∙ wrapping_neg_is w32 c.args.a c.ranges.a
