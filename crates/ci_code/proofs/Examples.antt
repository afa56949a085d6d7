-- Examples: what each instruction does, both ways of a run error, and calls.
use Rattle.std.proofs.Common.{◌≡◌, ℕ, Bool, true, false, List, [], ◌∷◌, ◌++◌, replicate, Some, None, refl}
use Rattle.std.specs.Prelude.{ℤ, pos, negsuc, Option}
use Rattle.std.specs.Fmt.{digits}
use Rattle.ci_base.specs.declared.function.PrivateName.TheVariants as private
use Rattle.ci_base.specs.declared.function.SharedName.TheVariants as shared
use Rattle.ci_base.specs.declared.relation.Relation.TheVariants.{Less, AtLeast}
use Rattle.ci_base.specs.declared.reply.Extra.TheVariants.{Nothing, Element}
use Rattle.ci_base.specs.declared.request.Request.{Request}
use Rattle.ci_base.specs.declared.request.Request.TheVariants as requests
use Rattle.ci_base.specs.declared.value.Kind.{Kind}
use Rattle.ci_base.specs.declared.value.Kind.TheVariants as kinds
use Rattle.ci_base.specs.declared.value.Value.{Value}
use Rattle.ci_base.specs.declared.value.Value.TheVariants.{Int, Str}
use Rattle.ci_base.specs.Arithmetic.{sum, difference, product, negation, conjunction, disjunction, inversion, common_bits, joint_bits, differing_bits}
use Rattle.ci_base.specs.Letters.{is_digit}
use Rattle.ci_base.specs.Steps.{tick, quiet, asks, stuck}
use Rattle.ci_code.specs.declared.instruction.Instruction.{Instruction}
use Rattle.ci_code.specs.declared.instruction.Instruction.TheVariants as does
use Rattle.ci_code.specs.declared.raw.RawFunction.{RawFunction}
use Rattle.ci_code.specs.declared.raw.RawParts.{RawParts}
use Rattle.ci_code.specs.Moves.{Frame, Machine, on, jumped, stored}
use Rattle.ci_code.specs.Machine.{next, resume, opening}

-- a function with an INT and a text as locals, and one instruction
abbrev function_of : Option Kind → ℕ → Instruction → RawFunction
function_of gives room what = record { gives = gives; room = room; locals = kinds.Int ∷ kinds.Str ∷ []; steps = record { shape = 0; what = what } ∷ [] }

-- code of that instruction and a function that takes an INT and has this room; an INT cell and a text cell, and an array of the
-- first of them
abbrev code_of : Option Kind → ℕ → Instruction → RawParts
code_of gives room what = record {
  layout = record {
    functions =
        record { name = 65 ∷ []; public = true; kinds = []; defaults = [] }
        ∷ record { name = 66 ∷ []; public = true; kinds = kinds.Int ∷ []; defaults = [] }
        ∷ [];
    cells = record { kind = kinds.Int; first = Int (pos 0) } ∷ record { kind = kinds.Str; first = Str [] } ∷ [];
    globals = [];
  };
  texts = (104 ∷ 105 ∷ []) ∷ [];
  arrays = record { first = 0; kind = kinds.Int; length = 1 } ∷ [];
  shapes = [] ∷ [];
  functions = function_of gives 3 what ∷ function_of gives room does.Tick ∷ [];
}

-- a machine in the first function, with these operands and callers
abbrev standing : Bool → List Frame → List Value → Machine
standing goes_on callers operands = record {
  top = record { function = 0; place = 0; locals = Int (pos 7) ∷ Str (97 ∷ []) ∷ []; operands = operands };
  callers = callers;
  error = 4;
  last = record { sort = pos 6; text = 98 ∷ [] };
  goes_on = goes_on;
}

-- with the first operands the second ones stand behind the instruction
abbrev Makes : Instruction → List Value → List Value → Type 0
Makes what before after = next (code_of None 3 what) (standing false [] before) ≡ quiet (on after (standing false [] before))

-- it asks this
abbrev Asks : Instruction → List Value → Request → Type 0
Asks what before request = next (code_of None 3 what) (standing false [] before) ≡ asks request

-- it finds no operands of the kinds that it takes
abbrev Sticks : Instruction → List Value → Type 0
Sticks what before = next (code_of None 3 what) (standing false [] before) ≡ stuck

-- a run error: the task ends with its number, or it has 0 or the empty text and goes on
abbrev Fails : Instruction → List Value → ℕ → List Value → Type 0
Fails what before code after =
    (next (code_of None 3 what) (standing false [] before) ≡ asks (requests.End code))
    × (next (code_of None 3 what) (standing true [] before) ≡ quiet (on after (record (standing true [] before) { error = code })))

ticks : next (code_of None 3 does.Tick) (standing false [] []) ≡ tick (on [] (standing false [] []))
ticks = refl

pushes : Makes (does.PushInt (pos 5)) [] (Int (pos 5) ∷ []) × Makes (does.PushStr 0) [] (Str (104 ∷ 105 ∷ []) ∷ [])
pushes = (refl, refl)

loads : Makes (does.Load 0) [] (Int (pos 7) ∷ []) × Makes (does.Load 1) [] (Str (97 ∷ []) ∷ []) × Sticks (does.Load 2) []
loads = (refl, refl, refl)

stores : next (code_of None 3 (does.Store 0)) (standing false [] (Int (pos 9) ∷ [])) ≡ quiet (stored 0 (Int (pos 9)) [] (standing false [] []))
stores = refl

stores_kinds : Sticks (does.Store 0) (Str [] ∷ []) × Sticks (does.Store 0) []
stores_kinds = (refl, refl)

cells : Asks (does.ReadCell 1) [] (requests.Read 1) × Asks (does.WriteCell 0) (Int (pos 3) ∷ []) (requests.Write 0 (Int (pos 3))) × Sticks (does.WriteCell 1) (Int (pos 3) ∷ [])
cells = (refl, refl, refl)

elements : Asks (does.ReadAt 0) (Int (pos 0) ∷ []) (requests.Read 0) × Asks (does.WriteAt 0) (Int (pos 3) ∷ Int (pos 0) ∷ []) (requests.Write 0 (Int (pos 3)))
elements = (refl, refl)

-- outside the array
elements_fail : Fails (does.ReadAt 0) (Int (pos 1) ∷ []) 7 (Int (pos 0) ∷ []) × Fails (does.WriteAt 0) (Int (pos 3) ∷ Int (negsuc 0) ∷ []) 7 []
elements_fail = ((refl, refl), (refl, refl))

signs : (n : ℤ) → Makes does.Neg (Int n ∷ []) (Int (negation n) ∷ []) × Makes does.Not (Int n ∷ []) (Int (inversion n) ∷ [])
signs n = (refl, refl)

-- the left operand stands below the right one
sums : (a b : ℤ) → Makes does.Add (Int b ∷ Int a ∷ []) (Int (sum a b) ∷ []) × Makes does.Sub (Int b ∷ Int a ∷ []) (Int (difference a b) ∷ []) × Makes does.Mul (Int b ∷ Int a ∷ []) (Int (product a b) ∷ [])
sums a b = (refl, refl, refl)

conditions : (a b : ℤ) → Makes does.And (Int b ∷ Int a ∷ []) (Int (conjunction a b) ∷ []) × Makes does.Or (Int b ∷ Int a ∷ []) (Int (disjunction a b) ∷ [])
conditions a b = (refl, refl)

bits : (a b : ℤ) → Makes does.BitAnd (Int b ∷ Int a ∷ []) (Int (common_bits a b) ∷ []) × Makes does.BitOr (Int b ∷ Int a ∷ []) (Int (joint_bits a b) ∷ []) × Makes does.BitXor (Int b ∷ Int a ∷ []) (Int (differing_bits a b) ∷ [])
bits a b = (refl, refl, refl)

remainders : Makes does.Mod (Int (pos 4) ∷ Int (pos 7) ∷ []) (Int (pos 3) ∷ []) × Sticks does.Mod (Str [] ∷ Int (pos 7) ∷ [])
remainders = (refl, refl)

divisions_fail : Fails does.Div (Int (pos 0) ∷ Int (pos 7) ∷ []) 8 (Int (pos 0) ∷ []) × Fails does.Mod (Int (pos 0) ∷ Int (pos 7) ∷ []) 8 (Int (pos 0) ∷ [])
divisions_fail = ((refl, refl), (refl, refl))

texts : Makes does.Cat (Str (98 ∷ []) ∷ Str (97 ∷ []) ∷ []) (Str (97 ∷ 98 ∷ []) ∷ []) × Sticks does.Cat (Int (pos 1) ∷ Str [] ∷ [])
texts = (refl, refl)

-- a sum of 255 bytes is a text, and one of 256 isn't
long_texts : Makes does.Cat (Str (replicate 55 98) ∷ Str (replicate 200 97) ∷ []) (Str (replicate 200 97 ++ replicate 55 98) ∷ [])
long_texts = refl

long_texts_fail : Fails does.Cat (Str (replicate 56 98) ∷ Str (replicate 200 97) ∷ []) 9 (Str [] ∷ [])
long_texts_fail = (refl, refl)

-- spaces before a number, which is written whole where it is longer
formats : Makes (does.Form 3) (Int (pos 7) ∷ []) (Str (32 ∷ 32 ∷ 55 ∷ []) ∷ []) × Makes (does.Form 2) (Int (negsuc 11) ∷ []) (Str (45 ∷ 49 ∷ 50 ∷ []) ∷ []) × Sticks (does.Form 1) (Str [] ∷ [])
unfolding digits
formats = (refl, refl, refl)

comparisons : Makes (does.CmpInt Less) (Int (pos 3) ∷ Int (pos 2) ∷ []) (Int (pos 1) ∷ []) × Makes (does.CmpStr AtLeast) (Str (98 ∷ []) ∷ Str (97 ∷ []) ∷ []) (Int (pos 0) ∷ [])
comparisons = (refl, refl)

ranges : Makes does.WithinInt (Int (pos 5) ∷ Int (pos 2) ∷ Int (pos 5) ∷ []) (Int (pos 1) ∷ []) × Makes does.WithinStr (Str (98 ∷ []) ∷ Str (97 ∷ []) ∷ Str (99 ∷ []) ∷ []) (Int (pos 0) ∷ [])
ranges = (refl, refl)

operands : (u v : Value) → Makes does.Dup (v ∷ u ∷ []) (v ∷ v ∷ u ∷ []) × Makes does.Swap (v ∷ u ∷ []) (u ∷ v ∷ []) × Makes does.Drop (v ∷ u ∷ []) (u ∷ [])
operands u v = (refl, refl, refl)

no_operands : (v : Value) → Sticks does.Dup [] × Sticks does.Swap (v ∷ []) × Sticks does.Drop []
no_operands v = (refl, refl, refl)

jumps : next (code_of None 3 (does.Jump 5)) (standing false [] []) ≡ quiet (jumped 5 [] (standing false [] []))
jumps = refl

branches : next (code_of None 3 (does.JumpIfZero 5)) (standing false [] (Int (pos 0) ∷ [])) ≡ quiet (jumped 5 [] (standing false [] (Int (pos 0) ∷ [])))
branches = refl

branches_on : Makes (does.JumpIfZero 5) (Int (pos 2) ∷ []) []
branches_on = refl

elements_taken : Makes does.TakeSort [] (Int (pos 6) ∷ []) × Makes does.TakeText [] (Str (98 ∷ []) ∷ [])
elements_taken = (refl, refl)

asked : Asks (does.Ask shared.Trace) (Str (97 ∷ []) ∷ []) (requests.Trace (97 ∷ [])) × Asks (does.Ask shared.End) [] (requests.End 0) × Sticks (does.Ask shared.Trace) (Int (pos 1) ∷ [])
asked = (refl, refl, refl)

-- the last error is taken, and an assertion fails
private_calls : (next (code_of None 3 (does.Private private.IsError)) (standing false [] []) ≡ quiet (on (Int (pos 4) ∷ []) (record (standing false [] []) { error = 0 }))) × Fails (does.Private private.Assert) (Int (pos 0) ∷ []) 14 (Int (pos 0) ∷ [])
private_calls = (refl, (refl, refl))

-- a filled text that is too long, and a text that spells no INT
private_calls_fail : Fails (does.Private private.StrFill) (Int (pos 256) ∷ Str (97 ∷ []) ∷ []) 9 (Str [] ∷ []) × Fails (does.Private private.StrToInt) (Str (97 ∷ []) ∷ []) 13 (Int (pos 0) ∷ [])
unfolding is_digit
private_calls_fail = ((refl, refl), (refl, refl))

goes_on_from_now : next (code_of None 3 (does.Private private.ErrSet)) (standing false [] (Int (pos 1) ∷ [])) ≡ quiet (on (Int (pos 0) ∷ []) (record (standing false [] []) { goes_on = true }))
goes_on_from_now = refl

-- the called function begins with its argument; the caller goes on behind the call
abbrev entered : Machine
entered = record (standing false [] []) {
  top = record { function = 1; place = 0; locals = Int (pos 3) ∷ Str [] ∷ []; operands = [] };
  callers = record { function = 0; place = 1; locals = Int (pos 7) ∷ Str (97 ∷ []) ∷ []; operands = Int (pos 8) ∷ [] } ∷ [];
}

-- 3 and 4,093 are the most that there is room for
calls : next (code_of None 4093 (does.Call 1)) (standing false [] (Int (pos 3) ∷ Int (pos 8) ∷ [])) ≡ quiet entered
calls = refl

calls_too_deep : next (code_of None 4094 (does.Call 1)) (standing true [] (Int (pos 3) ∷ Int (pos 8) ∷ [])) ≡ asks (requests.End 12)
calls_too_deep = refl

calls_kinds : Sticks (does.Call 1) (Str [] ∷ []) × Sticks (does.Call 2) (Int (pos 3) ∷ [])
calls_kinds = (refl, refl)

abbrev waiting : Frame
waiting = record { function = 1; place = 4; locals = []; operands = Int (pos 8) ∷ [] }

-- a function without a kind gives 0, whatever stands there
returns : next (code_of None 3 does.Return) (standing false (waiting ∷ []) (Int (pos 3) ∷ [])) ≡ quiet (record (standing false [] []) { top = record waiting { operands = Int (pos 0) ∷ Int (pos 8) ∷ [] } })
returns = refl

returns_texts : next (code_of (Some kinds.Str) 3 does.Return) (standing false (waiting ∷ []) (Str (99 ∷ []) ∷ [])) ≡ quiet (record (standing false [] []) { top = record waiting { operands = Str (99 ∷ []) ∷ Int (pos 8) ∷ [] } })
returns_texts = refl

-- the first function ends the task
ends : Asks does.Return (Int (pos 3) ∷ []) (requests.End 0) × Sticks does.Return (Str [] ∷ [])
ends = (refl, refl)

-- there is nothing behind the last place
beyond : next (code_of None 3 does.Tick) (jumped 1 [] (standing false [] [])) ≡ stuck
beyond = refl

-- an answer with an element and a code that is no 0, and one to a write
answers : resume (code_of None 3 (does.ReadAt 0)) (standing false [] (Int (pos 0) ∷ [])) (record { value = Int (pos 5); code = 2; extra = Element (pos 1) [] }) ≡ record (on (Int (pos 5) ∷ []) (standing false [] [])) { error = 2; last = record { sort = pos 1; text = [] } }
answers = refl

writes_answered : resume (code_of None 3 (does.WriteAt 0)) (standing false [] (Int (pos 5) ∷ Int (pos 0) ∷ Int (pos 8) ∷ [])) (record { value = Int (pos 0); code = 0; extra = Nothing }) ≡ on (Int (pos 8) ∷ []) (standing false [] [])
writes_answered = refl

opens : opening (code_of None 3 does.Tick) 1 (Int (pos 3) ∷ []) ≡ record { top = record { function = 1; place = 0; locals = Int (pos 3) ∷ Str [] ∷ []; operands = [] }; callers = []; error = 0; last = record { sort = pos 0; text = [] }; goes_on = false }
opens = refl
