use Rattle.std.proofs.Common.{◌∙◌}
use Rattle.ci_tree.specs.Bound as to
use Rattle.ci_tree.specs.SeenBound.{scalar_of, expr_of}
use Rattle.ci_bodies.proofs.QueRead.{ends}
use Rattle.ci_bodies.proofs.que_read.setting.Goals as goal

pub returns : goal.returns
returns c = λ heads queue second third mode h.
    let same = ends heads c.args.args c.remove.new.self c.remove.result c.remove-2.result queue second third mode c.remove.ensures.item c.remove.ensures.rest c.remove-2.ensures.item h in
    let sort = scalar_of c.args.sort in
    let text = scalar_of c.args.text in
    c.que_read.ensures heads
    ∙ (λ i. to.que_read (expr_of heads (c.in_ok-queue.ensures i)) sort text (expr_of heads (c.in_ok-mode.ensures i)))
    ∙ (λ i. to.que_read (same.0 i) sort text (same.1 i))
