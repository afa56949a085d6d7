use Rattle.std.proofs.Common.{◌≡◌, drop}
use Rattle.std.specs.Prelude.{max}
use Rattle.ci_tree.specs.LeftOut.{call_given}
use Rattle.ci_tree.specs.Rooms.{args_width, call_width, links_width}
use Rattle.ci_tree.specs.SeenBound.{callee_of, exprs_of, links_of, heads_of}
use Rattle.ci_meaning.proofs.sizes.+exprs.Given as goal

abbrev pub invariant-args_width-loop-waiting : goal.invariant-args_width-loop-waiting
invariant-args_width-loop-waiting l =
    let heads = heads_of l.project.functions in
    max l.widest (args_width l.waiting (exprs_of heads (drop l.waiting l.args))) ≡ call_width (call_given heads (callee_of l.fn.callee) (exprs_of heads l.args))

abbrev pub invariant-links_width-loop-member : goal.invariant-links_width-loop-member
invariant-links_width-loop-member l =
    let heads = heads_of l.project.functions in
    max l.widest (links_width (links_of heads (drop l.member-index l.rest))) ≡ links_width (links_of heads l.rest)
