use Rattle.std.proofs.Common.{w32, ap, ◌∙◌, pos, to_z, to_z-of_z, rules, Ok}
use Rattle.std.specs.Prelude.{FitsSigned, unsigned_abs}
use Rattle.ci_base.specs.declared.value.Value.TheVariants.{Int}
use Rattle.ci_builtin.proofs.Wrapping.{bits_wrap, abs_small}
use Rattle.ci_builtin.proofs.arithmetic.abs.Goals as goal

pub returns : goal.returns
returns c =
    let fits : FitsSigned w32 c.wrapping_abs.result = search rules in
    let given = ap (λ n. to_z w32 (unsigned_abs n)) (to_z-of_z c.ranges.n) in
    ap (λ n. Ok (Int n)) (to_z-of_z fits ∙ c.wrapping_abs.ensures ∙ given ∙ bits_wrap (pos (unsigned_abs c.args.n)) (abs_small c.args.n c.ranges.n))
