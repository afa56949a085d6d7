use Rattle.std.proofs.Common.{ap, Ok, ◌∙◌, sym}
use Rattle.ci_tree.specs.Tree as to
use Rattle.ci_tree.specs.Seen.{expr_of, links_of}
use Rattle.ci_expressions.proofs.Loops.{chained_some, not_true}
use Rattle.ci_expressions.proofs.expressions.chain.Goals as goal

pub returns : goal.returns
returns c =
    ap Ok (chained_some c.args.start (expr_of c.args.first) c.args.at c.args.rest (λ e. not_true c.is_empty.result c.if-is_empty.false (c.is_empty.ensures.1 e))
    ∙ ap (λ first. to.expr c.args.start c.args.at (to.chain (expr_of first) (links_of c.args.rest))) (sym c.in_ok-new.ensures)
    ∙ sym c.chain.ensures)
