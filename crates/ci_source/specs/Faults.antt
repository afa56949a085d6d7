-- The words for faults of sources.
use Rattle.std.specs.Prelude.{ℕ, List, codes}
use Rattle.ci_names.specs.declared.fault.BindKind.{BindKind}
use Rattle.ci_names.specs.declared.fault.BindKind.TheVariants as kinds
use Rattle.ci_names.specs.declared.fault.Limit.{Limit}
use Rattle.ci_names.specs.declared.fault.Limit.TheVariants as limits
use Rattle.ci_source.specs.declared.fault.Fault.{Fault}
use Rattle.ci_source.specs.declared.fault.Fault.TheVariants as faults

abbrev pub fault_text : Fault → List ℕ
fault_text faults.StrayByte = codes "stray byte"
fault_text faults.OpenString = codes "open string"
fault_text faults.OpenComment = codes "open comment"
fault_text faults.BadEscape = codes "bad escape"
fault_text faults.NumberTooLarge = codes "number too large"
fault_text faults.TextTooLong = codes "text too long"
fault_text faults.NameTooLong = codes "name too long"
fault_text faults.UnexpectedToken = codes "unexpected token"
fault_text faults.UnexpectedEnd = codes "unexpected end"
fault_text faults.NestingTooDeep = codes "nesting too deep"
fault_text faults.DeclaredTwice = codes "declared twice"
fault_text faults.NameUnknown = codes "name unknown"
fault_text faults.NotAFunction = codes "not a function"
fault_text faults.NotAVariable = codes "not a variable"
fault_text faults.KindsDiffer = codes "kinds differ"
fault_text faults.ArgumentCount = codes "argument count"
fault_text faults.NotAVariableArgument = codes "not a variable argument"
fault_text faults.ReturnValue = codes "return value"
fault_text faults.IndexMissing = codes "index missing"
fault_text faults.IndexOnScalar = codes "index on a scalar"
fault_text faults.TypeOutOfScope = codes "type out of scope"
fault_text faults.LimitFunctions = codes "limit functions"
fault_text faults.LimitParameters = codes "limit parameters"
fault_text faults.LimitLocals = codes "limit locals"
fault_text faults.LimitCells = codes "limit cells"
fault_text faults.LimitArray = codes "limit array"

-- the fault of a limit that is passed
abbrev pub limit_fault : Limit → Fault
limit_fault limits.Functions = faults.LimitFunctions
limit_fault limits.Parameters = faults.LimitParameters
limit_fault limits.Locals = faults.LimitLocals
limit_fault limits.Cells = faults.LimitCells
limit_fault limits.Array = faults.LimitArray

-- the fault of names and kinds
abbrev pub name_fault : BindKind → Fault
name_fault kinds.DeclaredTwice = faults.DeclaredTwice
name_fault kinds.NameUnknown = faults.NameUnknown
name_fault kinds.NotAFunction = faults.NotAFunction
name_fault kinds.NotAVariable = faults.NotAVariable
name_fault kinds.KindsDiffer = faults.KindsDiffer
name_fault kinds.ArgumentCount = faults.ArgumentCount
name_fault kinds.NotAVariableArgument = faults.NotAVariableArgument
name_fault kinds.ReturnValue = faults.ReturnValue
name_fault kinds.IndexMissing = faults.IndexMissing
name_fault kinds.IndexOnScalar = faults.IndexOnScalar
name_fault kinds.TypeOutOfScope = faults.TypeOutOfScope
name_fault (kinds.Limit limit) = limit_fault limit
