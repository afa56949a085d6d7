-- The configuration that a task of the code holds. The task lends the trees of its project, whose functions take such parameters.
use Rattle.std.specs.Prelude.{◌≡◌, Bool, true, false, List, map, reverse, drop, Option, Some, None, option_map}
use Rattle.ci_base.specs.declared.value.Value.{Value}
use Rattle.ci_base.specs.Steps.{tick, quiet, asks, stuck}
use Rattle.ci_tree.specs.Bound as tree
use Rattle.ci_tree.specs.Bound.{other_from}
use Rattle.ci_tree.specs.LeftOut.{Heads, constant, followed, left_out}
use Rattle.ci_tree.specs.SeenBound.{scalar_of, callee_of, expr_of, call_of, links_of, exprs_of, label_of, block_of, clauses_of, param_of}
use Rattle.ci_tree.specs.declared.bound.Param as code_param
use Rattle.ci_meaning.specs.declared.parts.Targets as code_targets
use Rattle.ci_meaning.specs.declared.parts.Counting as code_counting
use Rattle.ci_meaning.specs.declared.parts.Branch as code_branch
use Rattle.ci_meaning.specs.declared.parts.Behind as code_behind
use Rattle.ci_meaning.specs.declared.parts.Want as code_want
use Rattle.ci_meaning.specs.declared.parts.Want.TheVariants as wants
use Rattle.ci_meaning.specs.declared.parts.Aim as code_aim
use Rattle.ci_meaning.specs.declared.parts.Aim.TheVariants as aims
use Rattle.ci_meaning.specs.declared.parts.Left as code_left
use Rattle.ci_meaning.specs.declared.parts.Left.TheVariants as lefts
use Rattle.ci_meaning.specs.declared.parts.Hand as code_hand
use Rattle.ci_meaning.specs.declared.parts.Hand.TheVariants as hands
use Rattle.ci_meaning.specs.declared.parts.Frame as code_frame
use Rattle.ci_meaning.specs.declared.tree_task.TreeTask as code_task
use Rattle.ci_meaning.specs.declared.tree_task.TreeMove as code_move
use Rattle.ci_meaning.specs.declared.tree_task.TreeMove.TheVariants as moves
use Rattle.ci_meaning.specs.Configuration as to
use Rattle.ci_meaning.specs.Configuration.{Configuration, with}
use Rattle.ci_meaning.specs.Moves.{Move}

abbrev pub targets_of : code_targets.Targets → to.Targets
targets_of t = record { sort = scalar_of t.sort; text = scalar_of t.text }

abbrev pub counting_of : Heads → code_counting.Counting → to.Counting
counting_of heads c = record { counter = scalar_of c.counter; last = c.last; body = block_of heads c.body.now }

abbrev pub branch_of : Heads → code_branch.Branch → to.Branch
branch_of heads b = record { body = block_of heads b.body.now; rest = clauses_of heads b.rest.now; other = block_of heads b.other.now }

-- the values of these parameters for arguments that are left out, each where it has one
abbrev pub values_of : List code_param.Param → List (Option Value)
values_of params = map (λ (p : tree.Param). p.first) (map param_of params)

-- what lies under the top of a stack, the latest first
unfoldable pub below : {T : Type 0} → List T → List T
below stack = drop 1 (reverse stack)

-- the arguments behind the one in hand: those of the source, and then the values for those that were left out
abbrev pub behind_of : Heads → code_behind.Behind → tree.Exprs
behind_of heads b = followed (exprs_of heads b.rest.now) (left_out heads (callee_of b.callee) b.given)

abbrev pub want_of : Heads → code_want.Want → to.Want
want_of heads (wants.Operand minus) = to.as_operand minus
want_of heads (wants.Front rest) = to.as_front (links_of heads rest.now)
want_of heads (wants.Right left operator rest) = to.as_right left operator (links_of heads rest.now)
want_of heads (wants.Index array) = to.as_index array
want_of heads (wants.Argument before behind) = to.as_argument (callee_of behind.callee) (reverse before) (behind_of heads behind)
want_of heads (wants.Queue mode targets) = to.as_queue (expr_of heads mode.now) (targets_of targets)
want_of heads (wants.Mode queue targets) = to.as_mode queue (targets_of targets)
want_of heads (wants.Answer targets) = to.as_answer (targets_of targets)
want_of heads (wants.Kept target) = to.as_kept (scalar_of target)

abbrev pub aim_of : Heads → code_aim.Aim → to.Aim
aim_of heads (aims.Store target) = to.to_store (scalar_of target)
aim_of heads (aims.Index array value) = to.to_index array (expr_of heads value.now)
aim_of heads (aims.Element array index) = to.to_element array index
aim_of heads (aims.Choose body other) = to.to_choose (block_of heads body.now) (other_from (option_map (block_of heads) other.now))
aim_of heads (aims.Turn test body) = to.to_turn (expr_of heads test.now) (block_of heads body.now)
aim_of heads (aims.Begin counter last body) = to.to_begin (scalar_of counter) (expr_of heads last.now) (block_of heads body.now)
aim_of heads (aims.Count first counter body) = to.to_count first (scalar_of counter) (block_of heads body.now)
aim_of heads (aims.Compare counting) = to.to_compare (counting_of heads counting)
aim_of heads (aims.Raise counting) = to.to_raise (counting_of heads counting)
aim_of heads (aims.Select clauses other) = to.to_select (clauses_of heads clauses.now) (block_of heads other.now)
aim_of heads (aims.Match of relation labels branch) = to.to_match of relation (map (label_of heads) labels.now) (branch_of heads branch)
aim_of heads (aims.Low of high labels branch) = to.to_low of (expr_of heads high.now) (map (label_of heads) labels.now) (branch_of heads branch)
aim_of heads (aims.High of low labels branch) = to.to_high of low (map (label_of heads) labels.now) (branch_of heads branch)
aim_of heads aims.Return = to.to_return
aim_of heads aims.Forget = to.to_drop

abbrev pub left_of : Heads → code_left.Left → to.Left
left_of heads (lefts.Run rest) = to.run (block_of heads rest.now)
left_of heads (lefts.Again test body) = to.again (expr_of heads test.now) (block_of heads body.now)
left_of heads (lefts.Round counting) = to.round (counting_of heads counting)
left_of heads (lefts.Bump counting) = to.bump (counting_of heads counting)
left_of heads (lefts.Sift of clauses other) = to.sift of (clauses_of heads clauses.now) (block_of heads other.now)
left_of heads (lefts.Pick of labels branch) = to.pick of (map (label_of heads) labels.now) (branch_of heads branch)

abbrev pub wants_of : Heads → List code_want.Want → List to.Want
wants_of heads ws = map (want_of heads) (reverse ws)

abbrev pub lefts_of : Heads → List code_left.Left → List to.Left
lefts_of heads ls = map (left_of heads) (reverse ls)

-- what is in hand behind a write
abbrev pub after_of : Option Value → List to.Want → to.Aim → to.Hand
after_of None ws aim = to.go
after_of (Some v) ws aim = to.give v ws aim

abbrev pub hand_of : Heads → code_hand.Hand → List to.Want → to.Aim → to.Hand
hand_of heads (hands.Eval expr) ws aim = to.eval (expr_of heads expr.now) ws aim
hand_of heads (hands.Constant value) ws aim = to.eval (constant value) ws aim
hand_of heads (hands.Scalar of) ws aim = to.eval (tree.scalar (scalar_of of)) ws aim
hand_of heads (hands.Called call) ws aim = to.eval (tree.called (call_of heads call.now)) ws aim
hand_of heads (hands.Give value) ws aim = to.give value ws aim
hand_of heads (hands.Write cell value after) ws aim = to.write cell value (after_of after ws aim)
hand_of heads hands.Enter ws aim = to.enter
hand_of heads hands.Go ws aim = to.go

abbrev pub caller_of : Heads → code_frame.Frame → to.Caller
caller_of heads f = record {
  function = f.function;
  locals = f.locals;
  wants = wants_of heads f.wants;
  aim = aim_of heads f.aim;
  left = lefts_of heads f.left;
}

abbrev pub task_of : Heads → code_task.TreeTask → to.Task
task_of heads t = record {
  function = t.frame.function;
  locals = t.frame.locals;
  left = lefts_of heads t.frame.left;
  callers = map (caller_of heads) (reverse t.callers);
  error = t.error;
  last = record { sort = t.sort; text = t.text };
  goes_on = t.goes_on;
}

abbrev pub configuration_of : Heads → code_task.TreeTask → Configuration
configuration_of heads t = with (hand_of heads t.hand (wants_of heads t.frame.wants) (aim_of heads t.frame.aim)) (task_of heads t)

-- what a step answers, and where the task stands afterwards
abbrev pub Did : Move → code_move.TreeMove → Configuration → Configuration → Type 0
Did (tick c) (moves.Private t) old new = (t ≡ true) × (new ≡ c)
Did (quiet c) (moves.Private t) old new = (t ≡ false) × (new ≡ c)
Did (asks q) (moves.Asks r) old new = (r ≡ q) × (new ≡ old)
Did (tick c) (moves.Asks r) old new = ⊥
Did (quiet c) (moves.Asks r) old new = ⊥
Did (asks q) (moves.Private t) old new = ⊥
Did stuck m old new = ⊥

-- a step that makes this move of what the task wants its value for, inside the expression and behind it
abbrev pub Makes : Heads → (List to.Want → to.Aim → to.Task → Move) → code_task.TreeTask → code_move.TreeMove → code_task.TreeTask → Type 0
Makes heads move old m new = Did (move (wants_of heads old.frame.wants) (aim_of heads old.frame.aim) (task_of heads old)) m (configuration_of heads old) (configuration_of heads new)

-- the same for a step that uses its value for the top of what is wanted
abbrev pub Uses : Heads → (List to.Want → to.Aim → to.Task → Move) → code_task.TreeTask → code_move.TreeMove → code_task.TreeTask → Type 0
Uses heads move old m new = Did (move (map (want_of heads) (below old.frame.wants)) (aim_of heads old.frame.aim) (task_of heads old)) m (configuration_of heads old) (configuration_of heads new)

-- the same for a step behind the whole expression
abbrev pub Reaches : Heads → (to.Task → Move) → code_task.TreeTask → code_move.TreeMove → code_task.TreeTask → Type 0
Reaches heads move old m new = Did (move (task_of heads old)) m (configuration_of heads old) (configuration_of heads new)

-- and for one that takes the first of what is left to do, where so much is left behind it
abbrev pub Goes : Heads → (to.Task → Move) → code_task.TreeTask → code_move.TreeMove → code_task.TreeTask → Type 0
Goes heads move old m new = Did (move (record (task_of heads old) { left = map (left_of heads) (below old.frame.left) })) m (configuration_of heads old) (configuration_of heads new)

-- what is wanted behind a call: where its last argument was in hand, that is under the top
abbrev pub wants_behind : Bool → Heads → List code_want.Want → List to.Want
wants_behind true heads ws = map (want_of heads) (below ws)
wants_behind false heads ws = wants_of heads ws

-- the same for a call
abbrev pub Calls : Heads → Bool → (List to.Want → to.Aim → to.Task → Move) → code_task.TreeTask → code_move.TreeMove → code_task.TreeTask → Type 0
Calls heads passed move old m new = Did (move (wants_behind passed heads old.frame.wants) (aim_of heads old.frame.aim) (task_of heads old)) m (configuration_of heads old) (configuration_of heads new)
