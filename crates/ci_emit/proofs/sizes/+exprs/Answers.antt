use Rattle.std.proofs.Common.{◌∙◌, length}
use Rattle.ci_translation.specs.Drafts as drafts
use Rattle.ci_tree.specs.LeftOut.{call_given, left_out}
use Rattle.ci_tree.specs.SeenBound.{callee_of, exprs_of, heads_of}
use Rattle.ci_emit.proofs.Sizing.{plain_word, given_size}
use Rattle.ci_emit.proofs.sizes.+exprs.Goals as goal

pub plain_size-returns : goal.plain_size-returns
plain_size-returns t c =
    let heads = heads_of c.args.functions.now in
    let callee = callee_of c.args.callee in
    let args = c.args.args.now in
    c.cut.ensures
    ∙ plain_word c.args_size.result c.cut-behind.result c.left_out_size.result (drafts.args_size (exprs_of heads args)) (drafts.args_size (left_out heads callee (length args))) (drafts.call_size (call_given heads callee (exprs_of heads args)))
    c.args_size.ensures c.cut-behind.ensures c.left_out_size.ensures (given_size heads callee args)
