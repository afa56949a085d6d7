-- The machine that code is for: what a task on code does next.
use Rattle.std.specs.Prelude.{ℕ, ◌+◌, pos, Bool, true, false, nat_le, List, [], ◌∷◌, drop, length, Option, Some, None, option_map, Ok, Err, slice_get}
use Rattle.ci_base.specs.declared.bounds.TheConstants.{MOST_ROOM}
use Rattle.ci_base.specs.declared.errors.TheConstants.{BAD_INDEX, CALL_DEPTH}
use Rattle.ci_base.specs.declared.function.PrivateName.{PrivateName}
use Rattle.ci_base.specs.declared.layout.CellHead.{CellHead}
use Rattle.ci_base.specs.declared.relation.Relation.{Relation}
use Rattle.ci_base.specs.declared.reply.Answer.{Answer}
use Rattle.ci_base.specs.declared.request.Request.TheVariants.{Read, Write, End}
use Rattle.ci_base.specs.declared.value.Kind.{Kind}
use Rattle.ci_base.specs.declared.value.Kind.TheVariants as kinds
use Rattle.ci_base.specs.declared.value.Value.{Value}
use Rattle.ci_base.specs.declared.value.Value.TheVariants.{Int, Str}
use Rattle.ci_base.specs.Arithmetic.{sum, difference, product, negation, quotient, remainder, conjunction, disjunction, inversion, common_bits, joint_bits, differing_bits}
use Rattle.ci_base.specs.Comparisons.{holds, within}
use Rattle.ci_base.specs.Functions.{private_takes, private_gives, shared_takes}
use Rattle.ci_base.specs.Heard.{no_element, last_after, error_kept}
use Rattle.ci_base.specs.PrivateFunctions.{private_value, error_after, goes_on_after}
use Rattle.ci_base.specs.Requests.{request_of}
use Rattle.ci_base.specs.Steps.{tick, quiet, asks, stuck, Reaches}
use Rattle.ci_base.specs.TextFunctions.{joined, formatted}
use Rattle.ci_base.specs.Values.{Outcome, is_zero, truth, first_of_kind}
use Rattle.ci_code.specs.declared.instruction.Instruction.{Instruction}
use Rattle.ci_code.specs.declared.instruction.Instruction.TheVariants as does
use Rattle.ci_code.specs.declared.instruction.Step.{Step}
use Rattle.ci_code.specs.declared.raw.Cells.{Cells}
use Rattle.ci_code.specs.declared.raw.RawFunction.{RawFunction}
use Rattle.ci_code.specs.declared.raw.RawParts.{RawParts}
use Rattle.ci_code.specs.Moves.{Frame, Machine, Move, parameters_of, value_kind, locals_with, is_of, is_of_some, cell_in, on, jumped, stored, only_if, failed, came, one, one_int, two_ints, two_texts, several}

-- Constants and locals

abbrev pub pushed : Option (List ℕ) → Machine → Move
pushed (Some s) m = quiet (on (Str s ∷ m.top.operands) m)
pushed None m = stuck

abbrev pub loaded : Option Value → Machine → Move
loaded (Some v) m = quiet (on (v ∷ m.top.operands) m)
loaded None m = stuck

-- a local takes a value of its kind
abbrev pub kept : Option RawFunction → ℕ → Machine → Move
kept (Some function) i m = one (λ v operands. only_if (is_of_some (slice_get function.locals i) v) (quiet (stored i v operands m))) m.top.operands
kept None i m = stuck

-- Cells and arrays

abbrev pub read : Option CellHead → ℕ → Move
read (Some cell) c = asks (Read c)
read None c = stuck

abbrev pub written : Option CellHead → ℕ → Machine → Move
written (Some cell) c m = one (λ v operands. only_if (is_of cell.kind v) (asks (Write c v))) m.top.operands
written None c m = stuck

-- outside the array no request is made
abbrev pub read_cell : Option ℕ → Kind → List Value → Machine → Move
read_cell (Some c) kind operands m = asks (Read c)
read_cell None kind operands m = failed BAD_INDEX (first_of_kind kind ∷ operands) m

abbrev pub read_at : Option Cells → Machine → Move
read_at (Some array) m = one_int (λ i operands. read_cell (cell_in array i) array.kind operands m) m.top.operands
read_at None m = stuck

abbrev pub write_cell : Option ℕ → Value → List Value → Machine → Move
write_cell (Some c) v operands m = asks (Write c v)
write_cell None v operands m = failed BAD_INDEX operands m

abbrev pub write_in : Cells → List Value → Machine → Move
write_in array (v ∷ Int i ∷ operands) m = only_if (is_of array.kind v) (write_cell (cell_in array i) v operands m)
write_in array _ m = stuck

abbrev pub write_at : Option Cells → Machine → Move
write_at (Some array) m = write_in array m.top.operands m
write_at None m = stuck

-- Operators

abbrev pub compared : Relation → Value → Value → Outcome
compared relation u v = Ok (Int (truth (holds relation u v)))

-- the first of three INTs lies from the second to the third
abbrev pub ints_within : List Value → Machine → Move
ints_within (Int high ∷ Int low ∷ Int n ∷ operands) m = quiet (on (Int (truth (within (Int n) (Int low) (Int high))) ∷ operands) m)
ints_within _ m = stuck

-- and of three texts
abbrev pub texts_within : List Value → Machine → Move
texts_within (Str high ∷ Str low ∷ Str s ∷ operands) m = quiet (on (Int (truth (within (Str s) (Str low) (Str high))) ∷ operands) m)
texts_within _ m = stuck

-- Operands

abbrev pub swapped : List Value → Machine → Move
swapped (v ∷ u ∷ operands) m = quiet (on (u ∷ v ∷ operands) m)
swapped _ m = stuck

-- Jumps

abbrev pub branched : Bool → ℕ → List Value → Machine → Move
branched true to operands m = quiet (jumped to operands m)
branched false to operands m = quiet (on operands m)

-- Calls

-- the room of a function
abbrev pub room_in : Option RawFunction → ℕ
room_in (Some function) = function.room
room_in None = 0

-- the rooms of these functions
abbrev pub rooms : RawParts → List Frame → ℕ
rooms code [] = 0
rooms code (f ∷ frames) = room_in (slice_get code.functions f.function) + rooms code frames

-- a function is entered, where there is room for it
abbrev pub entered_if : Bool → ℕ → RawFunction → List Value → List Value → Machine → Move
entered_if true f function args operands m = quiet (record m {
  top = record { function = f; place = 0; locals = locals_with function args; operands = [] };
  callers = record { function = m.top.function; place = m.top.place + 1; locals = m.top.locals; operands = operands } ∷ m.callers;
})
entered_if false f function args operands m = asks (End CALL_DEPTH)

abbrev pub called : RawParts → Option RawFunction → ℕ → Machine → Move
called code (Some function) f m =
    several
    (parameters_of code f)
    (λ args operands. entered_if (nat_le (function.room + rooms code (m.top ∷ m.callers)) MOST_ROOM) f function args operands m)
    m.top.operands
called code None f m = stuck

-- a private function has come to this
abbrev pub computed : PrivateName → List Value → Outcome → List Value → Machine → Move
computed q args (Ok v) operands m = quiet (on (v ∷ operands) (record m { error = error_after q m.error; goes_on = goes_on_after q args m.goes_on }))
computed q args (Err code) operands m = failed code (first_of_kind (private_gives q) ∷ operands) m

-- what a call leaves of the value: 0 where the function has no kind
abbrev pub given : Option Kind → Value → Value
given (Some kind) v = v
given None v = Int (pos 0)

-- a function gives its value to the one that called it; the first one ends the task
abbrev pub returned : Value → List Frame → Machine → Move
returned v [] m = asks (End 0)
returned v (f ∷ frames) m = quiet (record m { top = record f { operands = v ∷ f.operands }; callers = frames })

abbrev pub ended : Option RawFunction → Machine → Move
ended (Some function) m = one (λ v operands. only_if (is_of (value_kind function) v) (returned (given function.gives v) m.callers m)) m.top.operands
ended None m = stuck

-- The whole

-- the function that runs
abbrev pub running : RawParts → Machine → Option RawFunction
running code m = slice_get code.functions m.top.function

abbrev pub act : RawParts → Instruction → Machine → Move
act code does.Tick m = tick (on m.top.operands m)
act code (does.PushInt n) m = quiet (on (Int n ∷ m.top.operands) m)
act code (does.PushStr k) m = pushed (slice_get code.texts k) m
act code (does.Load i) m = loaded (slice_get m.top.locals i) m
act code (does.Store i) m = kept (running code m) i m
act code (does.ReadCell c) m = read (slice_get code.layout.cells c) c
act code (does.WriteCell c) m = written (slice_get code.layout.cells c) c m
act code (does.ReadAt a) m = read_at (slice_get code.arrays a) m
act code (does.WriteAt a) m = write_at (slice_get code.arrays a) m
act code does.Neg m = one_int (λ n operands. quiet (on (Int (negation n) ∷ operands) m)) m.top.operands
act code does.Not m = one_int (λ n operands. quiet (on (Int (inversion n) ∷ operands) m)) m.top.operands
act code does.Add m = two_ints (λ a b. Ok (Int (sum a b))) m.top.operands m
act code does.Sub m = two_ints (λ a b. Ok (Int (difference a b))) m.top.operands m
act code does.Mul m = two_ints (λ a b. Ok (Int (product a b))) m.top.operands m
act code does.Div m = two_ints quotient m.top.operands m
act code does.Mod m = two_ints remainder m.top.operands m
act code does.And m = two_ints (λ a b. Ok (Int (conjunction a b))) m.top.operands m
act code does.Or m = two_ints (λ a b. Ok (Int (disjunction a b))) m.top.operands m
act code does.BitAnd m = two_ints (λ a b. Ok (Int (common_bits a b))) m.top.operands m
act code does.BitOr m = two_ints (λ a b. Ok (Int (joint_bits a b))) m.top.operands m
act code does.BitXor m = two_ints (λ a b. Ok (Int (differing_bits a b))) m.top.operands m
act code does.Cat m = two_texts kinds.Str joined m.top.operands m
act code (does.CmpInt relation) m = two_ints (λ a b. compared relation (Int a) (Int b)) m.top.operands m
act code (does.CmpStr relation) m = two_texts kinds.Int (λ a b. compared relation (Str a) (Str b)) m.top.operands m
act code does.WithinInt m = ints_within m.top.operands m
act code does.WithinStr m = texts_within m.top.operands m
act code (does.Form count) m = one_int (λ n operands. came kinds.Str (formatted n count) operands m) m.top.operands
act code does.Dup m = one (λ v operands. quiet (on (v ∷ v ∷ operands) m)) m.top.operands
act code does.Swap m = swapped m.top.operands m
act code does.Drop m = one (λ v operands. quiet (on operands m)) m.top.operands
act code (does.Jump to) m = quiet (jumped to m.top.operands m)
act code (does.JumpIfZero to) m = one_int (λ n operands. branched (is_zero n) to operands m) m.top.operands
act code (does.Call f) m = called code (slice_get code.functions f) f m
act code (does.Private q) m = several (private_takes q) (λ args operands. computed q args (private_value m.error q args) operands m) m.top.operands
act code (does.Ask q) m = several (shared_takes q) (λ args operands. asks (request_of q args)) m.top.operands
act code does.TakeSort m = quiet (on (Int m.last.sort ∷ m.top.operands) m)
act code does.TakeText m = quiet (on (Str m.last.text ∷ m.top.operands) m)
act code does.Return m = ended (running code m) m

-- the instruction at a place
abbrev pub instruction_in : Option RawFunction → ℕ → Option Instruction
instruction_in (Some function) p = option_map (λ (s : Step). s.what) (slice_get function.steps p)
instruction_in None p = None

abbrev pub instruction_at : RawParts → Machine → Option Instruction
instruction_at code m = instruction_in (running code m) m.top.place

abbrev pub act_on : RawParts → Option Instruction → Machine → Move
act_on code (Some what) m = act code what m
act_on code None m = stuck

-- what a task on code does next: a private step, which is a tick or not, or the request at which it stands; where an operand,
-- its kind, or what an instruction or a place names is missing, nothing can be done
abbrev pub next : RawParts → Machine → Move
next code m = act_on code (instruction_at code m) m

-- private steps lead from one machine to another, and exactly so many of them are ticks
abbrev pub code_reaches : RawParts → Machine → ℕ → Machine → Type 0
code_reaches code m k n = Reaches (next code) m k n

-- Answers

-- the operands behind the answer to what an instruction asked
abbrev pub answered : Option Instruction → Value → List Value → Option (List Value)
answered (Some (does.ReadCell c)) v operands = Some (v ∷ operands)
answered (Some (does.WriteCell c)) v operands = Some (drop 1 operands)
answered (Some (does.ReadAt a)) v operands = Some (v ∷ drop 1 operands)
answered (Some (does.WriteAt a)) v operands = Some (drop 2 operands)
answered (Some (does.Ask q)) v operands = Some (v ∷ drop (length (shared_takes q)) operands)
answered _ v operands = None

abbrev pub resumed : Option (List Value) → Machine → Machine
resumed (Some operands) m = on operands m
resumed None m = m

-- the task has its answer: it keeps an element, and a code other than 0 as the last error
abbrev pub resume : RawParts → Machine → Answer → Machine
resume code m answer =
    let after : Machine = resumed (answered (instruction_at code m) answer.value m.top.operands) m in
    record after { error = error_kept answer.code m.error; last = last_after answer.extra m.last }

-- Starts

abbrev pub locals_in : Option RawFunction → List Value → List Value
locals_in (Some function) args = locals_with function args
locals_in None args = args

-- where a task stands that is started from a function with these arguments
abbrev pub opening : RawParts → ℕ → List Value → Machine
opening code f args = record {
  top = record { function = f; place = 0; locals = locals_in (slice_get code.functions f) args; operands = [] };
  callers = [];
  error = 0;
  last = no_element;
  goes_on = false;
}
