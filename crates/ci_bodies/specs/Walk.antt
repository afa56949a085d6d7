-- What the walk over a statement gives: a bound statement, the first fault so far, and the scope behind it.
use Rattle.std.specs.Prelude.{◌≡◌, ℕ, List, Option, option_map}
use Rattle.ci_tree.specs.declared.bound.Stmt as code_bound
use Rattle.ci_tree.specs.declared.tree.Stmt as code_stmt
use Rattle.ci_tree.specs.Tree as from
use Rattle.ci_tree.specs.Tree.{other_from}
use Rattle.ci_tree.specs.Seen.{expr_of, block_of}
use Rattle.ci_tree.specs.Bound as to
use Rattle.ci_names.specs.declared.fault.Fault.{Fault}
use Rattle.ci_names.specs.Scopes.{Scope, with_locals, locals_in}
use Rattle.ci_names.specs.Statements.{stmt_faults}
use Rattle.ci_names.specs.Binding.{bound_before}
use Rattle.ci_bodies.specs.declared.simple.Assignment.{Assignment}
use Rattle.ci_bodies.specs.declared.counters.Counting.{Counting}
use Rattle.ci_bodies.specs.Made.{stmt_in}
use Rattle.ci_bodies.specs.Parts.{Notes, IsAppended}

-- the assignment
abbrev pub assign_of : Assignment → from.Stmt
assign_of a = from.assign a.at a.name.now (option_map expr_of a.index.now) a.equals (expr_of a.value.now)

-- the FOR with this body
abbrev pub for_of : ℕ → Counting → from.Block → from.Stmt
for_of at c inside = from.for at c.at c.name.now (expr_of c.from.now) (expr_of c.to.now) inside

-- the body behind ELSE, where there is one
abbrev pub other_of : Option (List code_stmt.Stmt) → from.Other
other_of other = other_from (option_map block_of other)

-- this was made of the statement, which is no declaration
abbrev pub IsBound : Scope → from.Stmt → code_bound.Stmt → Type 0
IsBound s stmt made = (rest : to.Block) → bound_before s stmt rest ≡ to.then (stmt_in s made) rest

-- what was made of the statement stands behind what was made before it
abbrev pub StandsBehind : Scope → from.Stmt → List code_bound.Stmt → List code_bound.Stmt → Type 0
StandsBehind s stmt old new = IsAppended s (bound_before s stmt) old new

-- the faults of the statement were noted
abbrev pub NotesFaults : Scope → from.Stmt → Option Fault → Option Fault → Type 0
NotesFaults s stmt old new = Notes (stmt_faults s stmt) old new

-- the locals of the statement hold behind it
abbrev pub LeavesScope : Scope → from.Stmt → Scope → Type 0
LeavesScope s stmt behind = behind ≡ with_locals s (locals_in stmt)
