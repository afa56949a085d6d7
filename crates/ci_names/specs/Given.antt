-- The functions that every project has.
use Rattle.std.specs.Prelude.{ℕ, List, [], ◌∷◌, ◌++◌, map, codes, Option, Some, option_map, find}
use Rattle.std.specs.Str.{str_eq_ignore_ascii_case}
use Rattle.ci_base.specs.declared.value.Kind.{Kind}
use Rattle.ci_base.specs.declared.value.Kind.TheVariants.{Int, Str}
use Rattle.ci_base.specs.declared.value.Value.{Value}
use Rattle.ci_base.specs.declared.value.Value.TheVariants as values
use Rattle.ci_base.specs.declared.function.PrivateName.{PrivateName}
use Rattle.ci_base.specs.declared.function.PrivateName.TheVariants as names
use Rattle.ci_base.specs.declared.function.SharedName.{SharedName}
use Rattle.ci_base.specs.declared.function.SharedName.TheVariants as requests
use Rattle.ci_base.specs.Functions.{private_takes, private_gives, shared_takes}
use Rattle.ci_tree.specs.Bound.{Callee, private, shared}

-- an argument that a function takes
pub data Taken : Type 0 where
  -- a value of the kind
  by_value : (kind : Kind) → Taken
  -- a value of the kind, for which this one stands where it is left out
  with_default : (kind : Kind) (default : Value) → Taken
  -- a scalar of the kind, which is set
  to_be_set : (kind : Kind) → Taken

-- what a function takes, and the kind of its value, where it has one
pub record Heading : Type 0 where
  pub takes : List Taken
  pub gives : Option Kind

-- what a name means that is called
pub record Called : Type 0 where
  pub callee : Callee
  pub heading : Heading

-- a function that every project has, by its name
pub record Given : Type 0 where
  pub name : List ℕ
  pub called : Called

-- the function with these bytes as its name
abbrev pub named : List ℕ → Callee → List Taken → Kind → Given
named name callee takes gives = record { name = name; called = record { callee = callee; heading = record { takes = takes; gives = Some gives } } }

abbrev pub private_named : List ℕ → PrivateName → Given
private_named name p = named name (private p) (map by_value (private_takes p)) (private_gives p)

-- a shared function that takes what its request has
abbrev pub shared_named : List ℕ → SharedName → Given
shared_named name q = named name (shared q) (map by_value (shared_takes q)) Int

-- those whose call touches the task alone
abbrev pub private_functions : List Given
private_functions =
    private_named (codes "StrLength") names.StrLength
    ∷ private_named (codes "StrLeft") names.StrLeft
    ∷ private_named (codes "StrRight") names.StrRight
    ∷ private_named (codes "StrMid") names.StrMid
    ∷ private_named (codes "StrSearch") names.StrSearch
    ∷ private_named (codes "StrUpper") names.StrUpper
    ∷ private_named (codes "StrLower") names.StrLower
    ∷ private_named (codes "StrTrim") names.StrTrim
    ∷ private_named (codes "StrFill") names.StrFill
    ∷ private_named (codes "StrToInt") names.StrToInt
    ∷ private_named (codes "IntToStr") names.IntToStr
    ∷ private_named (codes "StrGetChar") names.StrGetChar
    ∷ private_named (codes "CharToStr") names.CharToStr
    ∷ private_named (codes "Abs") names.Abs
    ∷ private_named (codes "Max") names.Max
    ∷ private_named (codes "Min") names.Min
    ∷ private_named (codes "Assert") names.Assert
    ∷ private_named (codes "ErrSet") names.ErrSet
    ∷ private_named (codes "IsError") names.IsError
    ∷ []

-- Those whose call is a shared request. The name of TaskHnd may be left out, and is then empty; QueRead sets two variables.
abbrev pub shared_functions : List Given
shared_functions =
    shared_named (codes "TaskNew") requests.TaskNew
    ∷ shared_named (codes "TaskKill") requests.TaskKill
    ∷ shared_named (codes "TaskSuspend") requests.TaskSuspend
    ∷ shared_named (codes "TaskResume") requests.TaskResume
    ∷ named (codes "TaskHnd") (shared requests.TaskHnd) (with_default Str (values.Str []) ∷ []) Int
    ∷ shared_named (codes "Sleep") requests.Sleep
    ∷ shared_named (codes "SleepMS") requests.SleepMS
    ∷ shared_named (codes "SemOpen") requests.SemOpen
    ∷ shared_named (codes "SemWait") requests.SemWait
    ∷ shared_named (codes "SemSignal") requests.SemSignal
    ∷ shared_named (codes "SemClose") requests.SemClose
    ∷ shared_named (codes "QueOpen") requests.QueOpen
    ∷ shared_named (codes "QueWrite") requests.QueWrite
    ∷ named (codes "QueRead") (shared requests.QueRead) (by_value Int ∷ to_be_set Int ∷ to_be_set Str ∷ by_value Int ∷ []) Int
    ∷ shared_named (codes "QueLength") requests.QueLength
    ∷ shared_named (codes "QueClose") requests.QueClose
    ∷ shared_named (codes "EnterCriticalSection") requests.Enter
    ∷ shared_named (codes "LeaveCriticalSection") requests.Leave
    ∷ shared_named (codes "TraceMsg") requests.Trace
    ∷ shared_named (codes "SysTime") requests.SysTime
    ∷ shared_named (codes "Halt") requests.End
    ∷ []

-- what a name means of those that every project has; letter case has no meaning
abbrev pub given_named : List ℕ → Option Called
given_named name = option_map (λ g. g.called) (find (λ g. str_eq_ignore_ascii_case g.name name) (private_functions ++ shared_functions))
