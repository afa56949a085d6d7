-- A machine of the code that has come along the trail of a task.
use Rattle.std.specs.Prelude.{◌≡◌, ℕ, List, map, Some, slice_get}
use Rattle.ci_base.specs.declared.entry.Entry.{Entry}
use Rattle.ci_base.specs.declared.layout.CellHead.{CellHead}
use Rattle.ci_base.specs.declared.layout.Head.{Head}
use Rattle.ci_base.specs.declared.task.Birth.{Birth}
use Rattle.ci_base.specs.declared.task.Trail.{Trail}
use Rattle.ci_base.specs.declared.value.Kind.{Kind}
use Rattle.ci_base.specs.Requests.{Fits}
use Rattle.ci_base.specs.Steps.{Reaches}
use Rattle.ci_base.specs.Values.{kind_of}
use Rattle.ci_code.specs.declared.raw.RawParts.{RawParts}
use Rattle.ci_code.specs.Machine.{next, opening, resume}
use Rattle.ci_code.specs.Moves.{Machine}
use Rattle.ci_translation.specs.Alike.{Led}
use Rattle.ci_world.specs.Trails.{trail}
use Rattle.ci_world.specs.World.{Origin}

-- the kinds of the cells
abbrev pub kinds : RawParts → List Kind
kinds code = map (λ (cell : CellHead). cell.kind) code.layout.cells

-- the task is started from a function of the code, with arguments of the kinds that it takes
abbrev pub IsBorn : RawParts → Birth → Type 0
IsBorn code b = (h : Head) × (slice_get code.layout.functions b.function ≡ Some h) × (map kind_of b.args ≡ h.kinds)

-- the machine stands right behind the last answer of the trail
abbrev pub LedAlong : RawParts → Trail → Machine → Type 0
LedAlong code x start =
    (b : Birth) × (x.birth ≡ Some b) × IsBorn code b × Led (next code) (resume code) (Fits (kinds code)) (opening code b.function b.args) x.answers start

-- it has come further from there, by private instructions of which k are ticks
abbrev pub Along : RawParts → Trail → ℕ → Machine → Type 0
Along code x k m = (start : Machine) × LedAlong code x start × Reaches (next code) start k m

-- so is every task of a history
abbrev pub AllBorn : RawParts → Origin → List Entry → Type 0
AllBorn code o h = (t : ℕ) (b : Birth) → (trail o t h).birth ≡ Some b → IsBorn code b
