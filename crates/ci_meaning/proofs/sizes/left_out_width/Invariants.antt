use Rattle.std.proofs.Common.{◌≡◌, ◌≤◌, ◌-◌, length}
use Rattle.std.specs.Prelude.{max}
use Rattle.ci_tree.specs.LeftOut.{firsts, left_out}
use Rattle.ci_tree.specs.Rooms.{args_width}
use Rattle.ci_tree.specs.SeenBound.{callee_of, heads_of}
use Rattle.ci_meaning.proofs.sizes.left_out_width.Given as goal

abbrev pub invariant-loop-next : goal.invariant-loop-next
invariant-loop-next l = record {
  last : l.widest ≤ l.waiting;
  whole : max l.widest (args_width l.waiting (left_out (heads_of l.project.functions) (callee_of l.callee) l.place)) ≡ args_width l.given (left_out (heads_of l.project.functions) (callee_of l.callee) l.given);
}

abbrev pub decreases-loop-next : goal.decreases-loop-next
decreases-loop-next l = length (firsts (heads_of l.project.functions) (callee_of l.callee)) - l.place
