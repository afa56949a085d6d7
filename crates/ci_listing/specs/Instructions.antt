-- How instructions are listed.
use Rattle.std.specs.Prelude.{ℕ, List, [], ◌++◌, codes, decimal, slice_get, unwrap_or}
use Rattle.std.specs.Fmt.{signed_decimal}
use Rattle.ci_base.specs.declared.function.SharedName.{SharedName}
use Rattle.ci_base.specs.declared.function.SharedName.TheVariants as requests
use Rattle.ci_base.specs.declared.relation.Relation.{Relation}
use Rattle.ci_base.specs.declared.relation.Relation.TheVariants as relations
use Rattle.ci_base.specs.Caret.{caret}
use Rattle.ci_base.specs.FunctionNames.{private_spelling}
use Rattle.ci_code.specs.declared.instruction.Instruction.{Instruction}
use Rattle.ci_code.specs.declared.instruction.Instruction.TheVariants as does

-- a relation, as the language spells it
abbrev pub relation_sign : Relation → List ℕ
relation_sign relations.Equal = codes "="
relation_sign relations.Unequal = codes "<>"
relation_sign relations.Less = codes "<"
relation_sign relations.Greater = codes ">"
relation_sign relations.AtMost = codes "<="
relation_sign relations.AtLeast = codes ">="

-- the name of the request that a shared function makes
abbrev pub request_name : SharedName → List ℕ
request_name requests.TaskNew = codes "TaskNew"
request_name requests.TaskKill = codes "TaskKill"
request_name requests.TaskSuspend = codes "TaskSuspend"
request_name requests.TaskResume = codes "TaskResume"
request_name requests.TaskHnd = codes "TaskHnd"
request_name requests.Sleep = codes "Sleep"
request_name requests.SleepMS = codes "SleepMS"
request_name requests.SemOpen = codes "SemOpen"
request_name requests.SemWait = codes "SemWait"
request_name requests.SemSignal = codes "SemSignal"
request_name requests.SemClose = codes "SemClose"
request_name requests.QueOpen = codes "QueOpen"
request_name requests.QueWrite = codes "QueWrite"
request_name requests.QueRead = codes "QueRead"
request_name requests.QueLength = codes "QueLength"
request_name requests.QueClose = codes "QueClose"
request_name requests.Enter = codes "Enter"
request_name requests.Leave = codes "Leave"
request_name requests.Trace = codes "Trace"
request_name requests.SysTime = codes "SysTime"
request_name requests.End = codes "End"

-- the name of an instruction
abbrev pub instruction_name : Instruction → List ℕ
instruction_name does.Tick = codes "Tick"
instruction_name (does.PushInt n) = codes "PushInt"
instruction_name (does.PushStr k) = codes "PushStr"
instruction_name (does.Load i) = codes "Load"
instruction_name (does.Store i) = codes "Store"
instruction_name (does.ReadCell c) = codes "ReadCell"
instruction_name (does.WriteCell c) = codes "WriteCell"
instruction_name (does.ReadAt a) = codes "ReadAt"
instruction_name (does.WriteAt a) = codes "WriteAt"
instruction_name does.Neg = codes "Neg"
instruction_name does.Not = codes "Not"
instruction_name does.Add = codes "Add"
instruction_name does.Sub = codes "Sub"
instruction_name does.Mul = codes "Mul"
instruction_name does.Div = codes "Div"
instruction_name does.Mod = codes "Mod"
instruction_name does.And = codes "And"
instruction_name does.Or = codes "Or"
instruction_name does.BitAnd = codes "BitAnd"
instruction_name does.BitOr = codes "BitOr"
instruction_name does.BitXor = codes "BitXor"
instruction_name does.Cat = codes "Cat"
instruction_name (does.CmpInt relation) = codes "CmpInt"
instruction_name (does.CmpStr relation) = codes "CmpStr"
instruction_name does.WithinInt = codes "WithinInt"
instruction_name does.WithinStr = codes "WithinStr"
instruction_name (does.Form count) = codes "Form"
instruction_name does.Dup = codes "Dup"
instruction_name does.Swap = codes "Swap"
instruction_name does.Drop = codes "Drop"
instruction_name (does.Jump to) = codes "Jump"
instruction_name (does.JumpIfZero to) = codes "JumpIfZero"
instruction_name (does.Call f) = codes "Call"
instruction_name (does.Private q) = codes "Private"
instruction_name (does.Ask q) = codes "Ask"
instruction_name does.TakeSort = codes "TakeSort"
instruction_name does.TakeText = codes "TakeText"
instruction_name does.Return = codes "Return"

-- the text of that number between quotes
abbrev pub quoted : List (List ℕ) → ℕ → List ℕ
quoted texts k = codes "\"" ++ caret (unwrap_or (slice_get texts k) []) ++ codes "\""

-- its operand behind a space: a number, a text, a relation, or a name
abbrev pub operand : List (List ℕ) → Instruction → List ℕ
operand texts (does.PushInt n) = codes " " ++ signed_decimal n
operand texts (does.PushStr k) = codes " " ++ quoted texts k
operand texts (does.Load i) = codes " " ++ decimal i
operand texts (does.Store i) = codes " " ++ decimal i
operand texts (does.ReadCell c) = codes " " ++ decimal c
operand texts (does.WriteCell c) = codes " " ++ decimal c
operand texts (does.ReadAt a) = codes " " ++ decimal a
operand texts (does.WriteAt a) = codes " " ++ decimal a
operand texts (does.CmpInt relation) = codes " " ++ relation_sign relation
operand texts (does.CmpStr relation) = codes " " ++ relation_sign relation
operand texts (does.Form count) = codes " " ++ decimal count
operand texts (does.Jump to) = codes " " ++ decimal to
operand texts (does.JumpIfZero to) = codes " " ++ decimal to
operand texts (does.Call f) = codes " " ++ decimal f
operand texts (does.Private q) = codes " " ++ private_spelling q
operand texts (does.Ask q) = codes " " ++ request_name q
operand texts _ = []
