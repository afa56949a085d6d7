-- How tasks are started and found by the names of their functions.
use Rattle.std.specs.Prelude.{ℕ, suc, ◌&&◌, Bool, false, pos, if◌then◌else◌, List, [], ◌∷◌, length, map, Option, None, Some, slice_get}
use Rattle.std.specs.Str.{str_eq_ignore_ascii_case}
use Rattle.ci_base.specs.declared.event.EventReply.{EventReply}
use Rattle.ci_base.specs.declared.layout.Global.{Global}
use Rattle.ci_base.specs.declared.layout.Head.{Head}
use Rattle.ci_base.specs.declared.layout.Layout.{Layout}
use Rattle.ci_base.specs.declared.task.Birth.{Birth}
use Rattle.ci_base.specs.declared.value.Kind.{Kind}
use Rattle.ci_base.specs.declared.value.Value.{Value}
use Rattle.ci_shared.specs.Arguments.{arguments}
use Rattle.ci_shared.specs.Roster.{Task, Ready, is_live, is_full}
use Rattle.ci_shared.specs.Rows.{refused, number}
use Rattle.ci_shared.specs.Words.{is_empty}

-- what serving knows of a project: its functions, its GLOBAL scalars, and the kinds of its cells
pub record Basis : Type 0 where
  pub functions : List Head
  pub globals : List Global
  pub kinds : List Kind

abbrev pub basis_of : Layout → Basis
basis_of l = record { functions = l.functions; globals = l.globals; kinds = map (λ cell. cell.kind) l.cells }

pub data Started : Type 0 where
  Refused : ℕ → Started
  Starts : Birth → Started

-- the number of the first PUBLIC function of this name, ignoring the case of letters; the front function has number n
abbrev pub public_from : ℕ → List ℕ → List Head → Option ℕ
public_from n name [] = None
public_from n name (h ∷ hs) = if h.public && str_eq_ignore_ascii_case name h.name then Some n else public_from (suc n) name hs

abbrev pub spawn_with : List Task → ℕ → Option (List Value) → Started
spawn_with xs f None = Refused 10
spawn_with xs f (Some args) = if is_full xs then Refused 11 else Starts (record { task = suc (length xs); function = f; args = args })

abbrev pub spawn_of : List Head → List Task → List ℕ → Option ℕ → Started
spawn_of hs xs list None = Refused 5
spawn_of hs xs list (Some f) = spawn_with xs f (arguments hs f list)

-- 5 no such function; 10 the list isn't one, or doesn't fit; 11 there are as many tasks as there may be; else a new task
abbrev pub spawn : List Head → List Task → List ℕ → List ℕ → Started
spawn hs xs name list = spawn_of hs xs list (public_from 0 name hs)

abbrev pub fresh : ℕ → Task
fresh f = record { function = f; standing = Ready; suspended = false }

-- the function has this name, ignoring the case of letters
abbrev pub has_name : List ℕ → Option Head → Bool
has_name name None = false
has_name name (Some h) = str_eq_ignore_ascii_case name h.name

-- the least live task of a function of this name; the front task has number n
abbrev pub least_live : List Head → List ℕ → ℕ → List Task → Option ℕ
least_live hs name n [] = None
least_live hs name n (x ∷ xs) =
    if is_live x.standing && has_name name (slice_get hs x.function) then Some n
    else least_live hs name (suc n) xs

-- its number; 5 where there is none
abbrev pub number_or_5 : Option ℕ → EventReply
number_or_5 None = refused 5
number_or_5 (Some n) = number (pos n)

abbrev pub task_named : List Head → ℕ → List ℕ → List Task → EventReply
task_named hs u name xs = if is_empty name then number (pos u) else number_or_5 (least_live hs name 1 xs)
