use Rattle.std.proofs.Common.{ap, ◌∙◌, arith, to_z-of_z}
use Rattle.ci_base.specs.TextFunctions.{bounded, padded}
use Rattle.ci_builtin.proofs.Widths.{bounded_short, bounded_long, length-padded}
use Rattle.ci_builtin.proofs.numbers.formatted.Goals as goal

pub returns-then-hashes-gt-MOST_TEXT_BYTES : goal.returns-then-hashes-gt-MOST_TEXT_BYTES
returns-then-hashes-gt-MOST_TEXT_BYTES c =
    bounded_long (padded c.args.n c.args.hashes) (omega (arith, length-padded c.args.n c.args.hashes))

pub returns-else-hashes-gt-MOST_TEXT_BYTES : goal.returns-else-hashes-gt-MOST_TEXT_BYTES
returns-else-hashes-gt-MOST_TEXT_BYTES c =
    let same = c.padded.ensures.value ∙ ap (λ n. padded n c.args.hashes) (to_z-of_z c.ranges.n) in
    bounded_short c.padded.result c.padded.ensures.within ∙ ap bounded same
