use Rattle.std.proofs.Common.{◌≡◌, ℕ, List, length}
use Rattle.ci_tree.specs.Comments.{has_close}
use Rattle.ci_lexer.specs.Comments.{IsClosed}
use Rattle.ci_lexer.proofs.comment.behind_close.Given as goal

abbrev pub invariant-loop-left : goal.invariant-loop-left
invariant-loop-left l =
    (has_close l.left ≡ has_close l.fn.body) × ((rest : List ℕ) → IsClosed l.left rest → IsClosed l.fn.body rest)

abbrev pub decreases-loop-left : goal.decreases-loop-left
decreases-loop-left l = length l.left
