-- How many instructions of verified code run between two ticks.
use Rattle.std.specs.Prelude.{ℕ, ◌+◌, ◌-◌, ◌≤◌, List, [], ◌∷◌, length, Option, Some, None, slice_get}
use Rattle.ci_base.specs.Steps.{tick, quiet, asks, stuck, Steps}
use Rattle.ci_code.specs.declared.raw.RawFunction.{RawFunction}
use Rattle.ci_code.specs.declared.raw.RawParts.{RawParts}
use Rattle.ci_code.specs.Code.{IsCode}
use Rattle.ci_code.specs.Machine.{next}
use Rattle.ci_code.specs.Moves.{Frame, Machine, Move}
use Rattle.ci_verify.specs.Rules.{NoneBroken}

-- the instructions of a function from a place on
abbrev pub left_in : Option RawFunction → ℕ → ℕ
left_in (Some function) p = length function.steps - p
left_in None p = 0

-- those of these functions, each from where it goes on
abbrev pub places_left : RawParts → List Frame → ℕ
places_left code [] = 0
places_left code (f ∷ frames) = left_in (slice_get code.functions f.function) f.place + places_left code frames

-- those of the functions that run or wait
abbrev pub instructions_left : RawParts → Machine → ℕ
instructions_left code m = places_left code (m.top ∷ m.callers)

-- the move is no private step without a tick
abbrev pub IsNoQuiet : Move → Type 0
IsNoQuiet (tick m) = Unit {0}
IsNoQuiet (quiet m) = ⊥
IsNoQuiet (asks q) = Unit {0}
IsNoQuiet stuck = Unit {0}

-- From wherever a machine of verified code stands, it comes without a tick to where it does something else than a private step
-- without a tick; and it runs at most one instruction more on the way than the functions that run or wait have left.
abbrev pub FewBetweenTicks : Type 0
FewBetweenTicks =
    (code : RawParts) → IsCode code → NoneBroken code → (m : Machine) →
    (n : ℕ) × (d : Machine) × (n ≤ instructions_left code m + 1) × Steps (next code) n m 0 d × IsNoQuiet (next code d)
