-- What an instruction takes from the operands and leaves there, by kinds. Shapes have the latest operand last.
use Rattle.std.specs.Prelude.{ℕ, ◌-◌, Bool, true, false, List, [], ◌∷◌, ◌++◌, length, take, Option, Some, None, option_map, unwrap_or, slice_get}
use Rattle.ci_base.specs.declared.layout.CellHead.{CellHead}
use Rattle.ci_base.specs.declared.value.Kind.{Kind}
use Rattle.ci_base.specs.declared.value.Kind.TheVariants.{Int, Str}
use Rattle.ci_base.specs.Functions.{private_takes, private_gives, shared_takes}
use Rattle.ci_code.specs.declared.instruction.Instruction.{Instruction}
use Rattle.ci_code.specs.declared.instruction.Instruction.TheVariants as does
use Rattle.ci_code.specs.declared.raw.Cells.{Cells}
use Rattle.ci_code.specs.declared.raw.RawFunction.{RawFunction}
use Rattle.ci_code.specs.declared.raw.RawParts.{RawParts}
use Rattle.ci_code.specs.Moves.{parameters_of, value_kind}

-- the kinds are one
abbrev pub same_kind : Kind → Kind → Bool
same_kind Int Int = true
same_kind Str Str = true
same_kind _ _ = false

-- the kind, where there is one
abbrev pub listed : Option Kind → List Kind
listed (Some kind) = kind ∷ []
listed None = []

-- the kinds of a cell and of an array
abbrev pub cell_kind : RawParts → ℕ → Option Kind
cell_kind code c = option_map (λ (cell : CellHead). cell.kind) (slice_get code.layout.cells c)

abbrev pub array_kind : RawParts → ℕ → Option Kind
array_kind code a = option_map (λ (array : Cells). array.kind) (slice_get code.arrays a)

-- the kind of a function's value
abbrev pub callee_kind : RawParts → ℕ → Option Kind
callee_kind code f = option_map value_kind (slice_get code.functions f)

-- the kinds of the latest operand and of the one below it; INT where there is none, and then an instruction that takes it
-- doesn't find it
abbrev pub top_kind : List Kind → Kind
top_kind before = unwrap_or (slice_get before (length before - 1)) Int

abbrev pub second_kind : List Kind → Kind
second_kind before = unwrap_or (slice_get before (length before - 2)) Int

-- what an instruction takes where these kinds stand
abbrev pub takes_of : RawParts → RawFunction → List Kind → Instruction → List Kind
takes_of code function before (does.Store i) = listed (slice_get function.locals i)
takes_of code function before (does.WriteCell c) = listed (cell_kind code c)
takes_of code function before (does.ReadAt a) = Int ∷ []
takes_of code function before (does.WriteAt a) = Int ∷ listed (array_kind code a)
takes_of code function before does.Neg = Int ∷ []
takes_of code function before does.Not = Int ∷ []
takes_of code function before does.Add = Int ∷ Int ∷ []
takes_of code function before does.Sub = Int ∷ Int ∷ []
takes_of code function before does.Mul = Int ∷ Int ∷ []
takes_of code function before does.Div = Int ∷ Int ∷ []
takes_of code function before does.Mod = Int ∷ Int ∷ []
takes_of code function before does.And = Int ∷ Int ∷ []
takes_of code function before does.Or = Int ∷ Int ∷ []
takes_of code function before does.BitAnd = Int ∷ Int ∷ []
takes_of code function before does.BitOr = Int ∷ Int ∷ []
takes_of code function before does.BitXor = Int ∷ Int ∷ []
takes_of code function before does.Cat = Str ∷ Str ∷ []
takes_of code function before (does.CmpInt relation) = Int ∷ Int ∷ []
takes_of code function before (does.CmpStr relation) = Str ∷ Str ∷ []
takes_of code function before does.WithinInt = Int ∷ Int ∷ Int ∷ []
takes_of code function before does.WithinStr = Str ∷ Str ∷ Str ∷ []
takes_of code function before (does.Form count) = Int ∷ []
takes_of code function before does.Dup = top_kind before ∷ []
takes_of code function before does.Swap = second_kind before ∷ top_kind before ∷ []
takes_of code function before does.Drop = top_kind before ∷ []
takes_of code function before (does.JumpIfZero to) = Int ∷ []
takes_of code function before (does.Call f) = parameters_of code f
takes_of code function before (does.Private q) = private_takes q
takes_of code function before (does.Ask q) = shared_takes q
takes_of code function before does.Return = value_kind function ∷ []
takes_of code function before _ = []

-- what it leaves there
abbrev pub leaves_of : RawParts → RawFunction → List Kind → Instruction → List Kind
leaves_of code function before does.Tick = []
leaves_of code function before (does.PushStr k) = Str ∷ []
leaves_of code function before (does.Load i) = listed (slice_get function.locals i)
leaves_of code function before (does.Store i) = []
leaves_of code function before (does.ReadCell c) = listed (cell_kind code c)
leaves_of code function before (does.WriteCell c) = []
leaves_of code function before (does.ReadAt a) = listed (array_kind code a)
leaves_of code function before (does.WriteAt a) = []
leaves_of code function before does.Cat = Str ∷ []
leaves_of code function before (does.Form count) = Str ∷ []
leaves_of code function before does.Dup = top_kind before ∷ top_kind before ∷ []
leaves_of code function before does.Swap = top_kind before ∷ second_kind before ∷ []
leaves_of code function before does.Drop = []
leaves_of code function before (does.Jump to) = []
leaves_of code function before (does.JumpIfZero to) = []
leaves_of code function before (does.Call f) = listed (callee_kind code f)
leaves_of code function before (does.Private q) = private_gives q ∷ []
leaves_of code function before does.TakeText = Str ∷ []
leaves_of code function before does.Return = []
leaves_of code function before _ = Int ∷ []

-- what stays of a shape below that which is taken
abbrev pub below : List Kind → List Kind → List Kind
below before taken = take (length before - length taken) before

-- what stays there behind an instruction, below that which it leaves; behind Return nothing stays
abbrev pub stays_of : RawParts → RawFunction → List Kind → Instruction → List Kind
stays_of code function before does.Return = []
stays_of code function before what = below before (takes_of code function before what)

-- what stands behind an instruction
abbrev pub after_of : RawParts → RawFunction → List Kind → Instruction → List Kind
after_of code function before what = stays_of code function before what ++ leaves_of code function before what
