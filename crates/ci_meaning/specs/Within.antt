-- Parts and tasks whose texts a STRING holds, and whose cells a request names.
use Rattle.std.specs.Prelude.{◌<◌, ◌≤◌, List, [], ◌∷◌, length, All}
use Rattle.ci_base.specs.declared.bounds.TheConstants.{MOST_TEXT_BYTES, MOST_CELLS}
use Rattle.ci_tree.specs.Bound as to
use Rattle.ci_tree.specs.Bound.{Scalar, Expr, Call, Links, Exprs, Label, Stmt, Other, Clauses, Block, Function, Project}
use Rattle.ci_tree.specs.SeenBound.{heads_of}
use Rattle.ci_tree.specs.declared.bound.ProjectParts as code_project
use Rattle.ci_meaning.specs.Configuration.{Targets, Counting, Branch, Want, as_operand, as_front, as_right, as_index, as_argument, as_queue, as_mode, as_answer, as_kept, Aim, to_store, to_index, to_element, to_choose, to_turn, to_begin, to_count, to_compare, to_raise, to_select, to_match, to_low, to_high, to_return, to_drop, Left, run, again, round, bump, sift, pick, Hand, eval, give, write, enter, go, Caller, Task, Configuration}
use Rattle.ci_meaning.specs.Held.{configuration_of}
use Rattle.ci_meaning.specs.declared.tree_task.TreeTask as code_task

abbrev pub scalar_within : Scalar → Type 0
scalar_within (to.local i) = Unit {0}
scalar_within (to.cell c) = c < MOST_CELLS

abbrev mutual
  pub expr_within : Expr → Type 0
  expr_within (to.number n) = Unit {0}
  expr_within (to.literal s) = length s ≤ MOST_TEXT_BYTES
  expr_within (to.scalar of) = scalar_within of
  expr_within (to.element a e) = expr_within e
  expr_within (to.called what) = call_within what
  expr_within (to.unary minus e) = expr_within e
  expr_within (to.chain e rest) = expr_within e × links_within rest

  pub call_within : Call → Type 0
  call_within (to.call callee given args) = exprs_within args
  call_within (to.que_read e sort text m) = expr_within e × scalar_within sort × scalar_within text × expr_within m

  pub links_within : Links → Type 0
  links_within to.no_link = Unit {0}
  links_within (to.operand op e rest) = expr_within e × links_within rest
  links_within (to.hashes count rest) = links_within rest

  pub exprs_within : Exprs → Type 0
  exprs_within to.no_expr = Unit {0}
  exprs_within (to.more e rest) = expr_within e × exprs_within rest

abbrev pub labels_within : List Label → Type 0
labels_within [] = Unit {0}
labels_within (to.one e ∷ labels) = expr_within e × labels_within labels
labels_within (to.range e f ∷ labels) = expr_within e × expr_within f × labels_within labels
labels_within (to.compared r e ∷ labels) = expr_within e × labels_within labels

abbrev mutual
  pub stmt_within : Stmt → Type 0
  stmt_within (to.assign at target e) = scalar_within target × expr_within e
  stmt_within (to.assign_element at a i e) = expr_within i × expr_within e
  stmt_within (to.call_of at what) = call_within what
  stmt_within (to.choose at test body last) = expr_within test × block_within body × other_within last
  stmt_within (to.while at test body) = expr_within test × block_within body
  stmt_within (to.for at counter e f body) = scalar_within counter × expr_within e × expr_within f × block_within body
  stmt_within (to.select at e clauses other) = expr_within e × clauses_within clauses × block_within other
  stmt_within (to.return at e) = expr_within e

  pub other_within : Other → Type 0
  other_within to.no_other = Unit {0}
  other_within (to.other body) = block_within body

  pub clauses_within : Clauses → Type 0
  clauses_within to.no_clause = Unit {0}
  clauses_within (to.clause labels body rest) = labels_within labels × block_within body × clauses_within rest

  pub block_within : Block → Type 0
  block_within to.done = Unit {0}
  block_within (to.then s rest) = stmt_within s × block_within rest

abbrev pub targets_within : Targets → Type 0
targets_within t = scalar_within t.sort × scalar_within t.text

abbrev pub counting_within : Counting → Type 0
counting_within c = scalar_within c.counter × block_within c.body

abbrev pub branch_within : Branch → Type 0
branch_within b = block_within b.body × clauses_within b.rest × block_within b.other

abbrev pub want_within : Want → Type 0
want_within (as_operand minus) = Unit {0}
want_within (as_front rest) = links_within rest
want_within (as_right u op rest) = links_within rest
want_within (as_index a) = Unit {0}
want_within (as_argument callee before rest) = exprs_within rest
want_within (as_queue e targets) = expr_within e × targets_within targets
want_within (as_mode number targets) = targets_within targets
want_within (as_answer targets) = targets_within targets
want_within (as_kept target) = scalar_within target

abbrev pub wants_within : List Want → Type 0
wants_within [] = Unit {0}
wants_within (want ∷ wants) = want_within want × wants_within wants

abbrev pub aim_within : Aim → Type 0
aim_within (to_store target) = scalar_within target
aim_within (to_index a e) = expr_within e
aim_within (to_element a i) = Unit {0}
aim_within (to_choose body last) = block_within body × other_within last
aim_within (to_turn test body) = expr_within test × block_within body
aim_within (to_begin counter e body) = scalar_within counter × expr_within e × block_within body
aim_within (to_count u counter body) = scalar_within counter × block_within body
aim_within (to_compare c) = counting_within c
aim_within (to_raise c) = counting_within c
aim_within (to_select clauses other) = clauses_within clauses × block_within other
aim_within (to_match of relation labels branch) = labels_within labels × branch_within branch
aim_within (to_low of e labels branch) = expr_within e × labels_within labels × branch_within branch
aim_within (to_high of low labels branch) = labels_within labels × branch_within branch
aim_within to_return = Unit {0}
aim_within to_drop = Unit {0}

abbrev pub left_within : Left → Type 0
left_within (run body) = block_within body
left_within (again test body) = expr_within test × block_within body
left_within (round c) = counting_within c
left_within (bump c) = counting_within c
left_within (sift of clauses other) = clauses_within clauses × block_within other
left_within (pick of labels branch) = labels_within labels × branch_within branch

abbrev pub lefts_within : List Left → Type 0
lefts_within [] = Unit {0}
lefts_within (left ∷ lefts) = left_within left × lefts_within lefts

abbrev pub hand_within : Hand → Type 0
hand_within (eval e wants aim) = expr_within e × wants_within wants × aim_within aim
hand_within (give v wants aim) = wants_within wants × aim_within aim
hand_within (write c v hand) = (c < MOST_CELLS) × hand_within hand
hand_within enter = Unit {0}
hand_within go = Unit {0}

abbrev pub callers_within : List Caller → Type 0
callers_within [] = Unit {0}
callers_within (c ∷ callers) = wants_within c.wants × aim_within c.aim × lefts_within c.left × callers_within callers

abbrev pub task_within : Task → Type 0
task_within t = lefts_within t.left × callers_within t.callers

abbrev pub Within : Configuration → Type 0
Within c = hand_within c.hand × task_within c.task

-- the same of all functions of a project
abbrev pub ProjectWithin : Project → Type 0
ProjectWithin p = All (λ (f : Function). block_within f.body) p.functions

-- the task is one of the project of these parts
abbrev pub IsOf : code_project.ProjectParts → code_task.TreeTask → Type 0
IsOf parts task = Within (configuration_of (heads_of parts.functions) task)
