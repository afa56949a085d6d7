-- Moves of a task that many parts share: run errors, assignments, calls.
use Rattle.std.specs.Prelude.{ℕ, ◌+◌, ℤ, pos, negsuc, Bool, true, false, nat_le, nat_lt, if◌then◌else◌, List, [], ◌∷◌, Option, Some, None, Ok, Err, slice_get, slice_set, unwrap_or}
use Rattle.ci_base.specs.declared.bounds.TheConstants.{MOST_ROOM}
use Rattle.ci_base.specs.declared.errors.TheConstants.{BAD_INDEX, CALL_DEPTH}
use Rattle.ci_base.specs.declared.function.PrivateName.{PrivateName}
use Rattle.ci_base.specs.declared.request.Request.{Request}
use Rattle.ci_base.specs.declared.request.Request.TheVariants.{Read, Write, End}
use Rattle.ci_base.specs.declared.value.Kind.{Kind}
use Rattle.ci_base.specs.declared.value.Kind.TheVariants as kinds
use Rattle.ci_base.specs.declared.value.Value.{Value}
use Rattle.ci_base.specs.declared.value.Value.TheVariants.{Int}
use Rattle.ci_base.specs.Functions.{private_gives}
use Rattle.ci_base.specs.PrivateFunctions.{private_value, error_after, goes_on_after}
use Rattle.ci_base.specs.Requests.{request_of}
use Rattle.ci_base.specs.Steps.{Next, quiet, asks}
use Rattle.ci_base.specs.Values.{Outcome, first_of_kind}
use Rattle.ci_tree.specs.Bound as to
use Rattle.ci_tree.specs.Bound.{Scalar, Callee, Array, Function, Project}
use Rattle.ci_tree.specs.Rooms.{room}
use Rattle.ci_meaning.specs.Configuration.{Want, Aim, Hand, give, write, enter, go, run, Caller, Task, Configuration, with, function_at, locals_with}

abbrev pub Move : Type 0
Move = Next Configuration Request

-- a step that is no tick
abbrev pub goes : Hand → Task → Move
goes hand t = quiet (with hand t)

-- Run errors

abbrev pub failed_if : Bool → ℕ → Hand → Task → Move
failed_if true code hand t = goes hand (record t { error = code })
failed_if false code hand t = asks (End code)

-- a run error: a task that goes on after such notes it and has this hand, and any other ends
abbrev pub failed : ℕ → Hand → Task → Move
failed code hand t = failed_if t.goes_on code hand t

-- a value, or a run error for which 0 or the empty text stands, as the kind says
abbrev pub came : Kind → Outcome → List Want → Aim → Task → Move
came kind (Ok v) wants aim t = goes (give v wants aim) t
came kind (Err code) wants aim t = failed code (give (first_of_kind kind) wants aim) t

-- Variables

-- the value of a local
abbrev pub local_at : Task → ℕ → Value
local_at t i = unwrap_or (slice_get t.locals i) (Int (pos 0))

-- a scalar is assigned, and then this is in hand
abbrev pub stored : Scalar → Value → Hand → Task → Configuration
stored (to.local i) v hand t = with hand (record t { locals = slice_set t.locals i v })
stored (to.cell c) v hand t = with (write c v hand) t

-- the cell of the array's element with this index, where there is one
abbrev pub cell_in : Array → ℤ → Option ℕ
cell_in a (pos i) = if nat_lt i a.length then Some (a.first + i) else None
cell_in a (negsuc i) = None

abbrev pub cell_of : Option Array → Value → Option ℕ
cell_of (Some a) (Int i) = cell_in a i
cell_of _ _ = None

abbrev pub kind_in : Option Array → Kind
kind_in (Some a) = a.kind
kind_in None = kinds.Int

abbrev pub read_cell : Option ℕ → Kind → List Want → Aim → Task → Move
read_cell (Some c) kind wants aim t = asks (Read c)
read_cell None kind wants aim t = failed BAD_INDEX (give (first_of_kind kind) wants aim) t

-- an element is read: outside the array no request is made
abbrev pub read_element : Project → ℕ → Value → List Want → Aim → Task → Move
read_element p a i wants aim t = read_cell (cell_of (slice_get p.arrays a) i) (kind_in (slice_get p.arrays a)) wants aim t

abbrev pub write_cell : Option ℕ → Value → Task → Move
write_cell (Some c) v t = asks (Write c v)
write_cell None v t = failed BAD_INDEX go t

-- an element is assigned: outside the array no request is made, and the value is dropped
abbrev pub write_element : Project → ℕ → Value → Value → Task → Move
write_element p a i v t = write_cell (cell_of (slice_get p.arrays a) i) v t

-- Calls

-- the rooms of the functions that wait
abbrev pub rooms_of : Project → List Caller → ℕ
rooms_of p [] = 0
rooms_of p (c ∷ callers) = room (function_at p c.function) + rooms_of p callers

-- the rooms of all active functions
abbrev pub rooms : Project → Task → ℕ
rooms p t = room (function_at p t.function) + rooms_of p t.callers

abbrev pub entered_if : Bool → Project → ℕ → List Value → List Want → Aim → Task → Move
entered_if true p f args wants aim t = goes enter (record t {
  function = f;
  locals = locals_with (function_at p f) args;
  left = run (function_at p f).body ∷ [];
  callers = record { function = t.function; locals = t.locals; wants = wants; aim = aim; left = t.left } ∷ t.callers;
})
entered_if false p f args wants aim t = asks (End CALL_DEPTH)

-- a function of the project is called, where there is room for it
abbrev pub entered : Project → ℕ → List Value → List Want → Aim → Task → Move
entered p f args wants aim t = entered_if (nat_le (room (function_at p f) + rooms p t) MOST_ROOM) p f args wants aim t

-- a private function has come to this
abbrev pub computed : PrivateName → List Value → Outcome → List Want → Aim → Task → Move
computed q args (Ok v) wants aim t = goes (give v wants aim) (record t { error = error_after q t.error; goes_on = goes_on_after q args t.goes_on })
computed q args (Err code) wants aim t = failed code (give (first_of_kind (private_gives q)) wants aim) t

-- a call with these arguments
abbrev pub called : Project → Callee → List Value → List Want → Aim → Task → Move
called p (to.function f) args wants aim t = entered p f args wants aim t
called p (to.private q) args wants aim t = computed q args (private_value t.error q args) wants aim t
called p (to.shared q) args wants aim t = asks (request_of q args)

-- a function gives its value to the one that called it; the first one ends the task
abbrev pub returned : Value → List Caller → Task → Move
returned v [] t = asks (End 0)
returned v (c ∷ callers) t = goes (give v c.wants c.aim) (record t { function = c.function; locals = c.locals; left = c.left; callers = callers })
