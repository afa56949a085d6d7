-- The functions that every project has, one by one.
use Rattle.std.specs.Prelude.{ℕ, List, [], ◌∷◌, codes}
use Rattle.ci_base.specs.declared.value.Kind.TheVariants.{Int, Str}
use Rattle.ci_base.specs.declared.value.Value.TheVariants as values
use Rattle.ci_base.specs.declared.function.PrivateName.{PrivateName}
use Rattle.ci_base.specs.declared.function.SharedName.{SharedName}
use Rattle.ci_base.specs.declared.function.SharedName.TheVariants as requests
use Rattle.ci_base.specs.FunctionNames.{private_spelling}
use Rattle.ci_tree.specs.Bound.{shared}
use Rattle.ci_names.specs.Given.{Given, named, private_named, shared_named, with_default, by_value, to_be_set}

-- how the shared ones are spelled
abbrev pub shared_spelling : SharedName → List ℕ
shared_spelling requests.TaskNew = codes "TaskNew"
shared_spelling requests.TaskKill = codes "TaskKill"
shared_spelling requests.TaskSuspend = codes "TaskSuspend"
shared_spelling requests.TaskResume = codes "TaskResume"
shared_spelling requests.TaskHnd = codes "TaskHnd"
shared_spelling requests.Sleep = codes "Sleep"
shared_spelling requests.SleepMS = codes "SleepMS"
shared_spelling requests.SemOpen = codes "SemOpen"
shared_spelling requests.SemWait = codes "SemWait"
shared_spelling requests.SemSignal = codes "SemSignal"
shared_spelling requests.SemClose = codes "SemClose"
shared_spelling requests.QueOpen = codes "QueOpen"
shared_spelling requests.QueWrite = codes "QueWrite"
shared_spelling requests.QueRead = codes "QueRead"
shared_spelling requests.QueLength = codes "QueLength"
shared_spelling requests.QueClose = codes "QueClose"
shared_spelling requests.Enter = codes "EnterCriticalSection"
shared_spelling requests.Leave = codes "LeaveCriticalSection"
shared_spelling requests.Trace = codes "TraceMsg"
shared_spelling requests.SysTime = codes "SysTime"
shared_spelling requests.End = codes "Halt"

abbrev pub private_given : PrivateName → Given
private_given p = private_named (private_spelling p) p

-- two of the shared functions don't take just what their request has
abbrev pub shared_given : SharedName → Given
shared_given requests.TaskHnd = named (codes "TaskHnd") (shared requests.TaskHnd) (with_default Str (values.Str []) ∷ []) Int
shared_given requests.QueRead = named (codes "QueRead") (shared requests.QueRead) (by_value Int ∷ to_be_set Int ∷ to_be_set Str ∷ by_value Int ∷ []) Int
shared_given q = shared_named (shared_spelling q) q
