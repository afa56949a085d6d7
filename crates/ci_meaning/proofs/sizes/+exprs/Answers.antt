use Rattle.std.proofs.Common.{arith}
use Rattle.ci_tree.specs.SeenBound.{callee_of, heads_of}
use Rattle.ci_meaning.proofs.Widths.{args_whole, given_width}
use Rattle.ci_meaning.proofs.sizes.+exprs.Goals as goal

pub args_width-left_out_width-requires : goal.args_width-left_out_width-requires
args_width-left_out_width-requires t c =
    let heads = heads_of c.args.project.now.functions in
    let callee = callee_of c.args.callee in
    omega (arith, given_width heads callee c.args.args.now, args_whole heads callee c.args.args.now, c.requires)

pub args_width-loop-waiting-init : goal.args_width-loop-waiting-init
args_width-loop-waiting-init t c =
    let heads = heads_of c.args.project.now.functions in
    let callee = callee_of c.args.callee in
    omega (arith, given_width heads callee c.args.args.now, args_whole heads callee c.args.args.now, c.left_out_width.ensures)
