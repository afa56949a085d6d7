use Rattle.std.proofs.Common.{◌∙◌}
use Rattle.ci_bodies.specs.QueRead.{both}
use Rattle.ci_bodies.proofs.QueRead.{of_four, of_fewer, of_more}
use Rattle.ci_bodies.proofs.que_read.set_scalars.Goals as goal

pub returns-in-len4 : goal.returns-in-len4
returns-in-len4 c = λ heads.
    let same = of_four heads c.args.args.now c.sort-item.result c.text-item.result c.in-len4.len_at_least c.in-len4.len_below c.sort-item.is c.text-item.is in
    c.both.ensures ∙ (λ i. both (c.as_scalar.ensures heads i) (c.as_scalar-in-len4.ensures heads i)) ∙ same

pub returns-in_default : goal.returns-in_default
returns-in_default c = λ heads. of_fewer heads c.args.args.now c.in_default.len_below

pub returns-in_default-2 : goal.returns-in_default-2
returns-in_default-2 c = λ heads. of_more heads c.args.args.now c.in_default.len_at_least
