-- How many instructions of the code led to the entries of a history.
use Rattle.std.specs.Prelude.{◌≡◌, ◌+◌, ℕ, List, [], ◌∷◌, ◌++◌, min}
use Rattle.ci_base.specs.declared.bounds.TheConstants.{MOST_INSTRUCTIONS}
use Rattle.ci_base.specs.declared.entry.Entry.{Entry}
use Rattle.ci_base.specs.declared.entry.Entry.TheVariants as entries
use Rattle.ci_base.specs.Steps.{Steps, asks}
use Rattle.ci_code.specs.declared.raw.RawParts.{RawParts}
use Rattle.ci_code.specs.Machine.{next}
use Rattle.ci_code.specs.Moves.{Machine}
use Rattle.ci_runtime.specs.Along.{LedAlong}
use Rattle.ci_world.specs.Trails.{trail}
use Rattle.ci_world.specs.World.{Origin}

-- what led to an entry behind others: the private instructions since the task's last answer, or since its start, and the one that asks
abbrev pub LedTo : RawParts → Origin → List Entry → Entry → ℕ → Type 0
LedTo code o before (entries.Script event reply) count = count ≡ 0
LedTo code o before (entries.Ask task ticks request reply) count =
    (start : Machine) × LedAlong code (trail o task before) start
    × ((n : ℕ) × (at : Machine) × Steps (next code) n start ticks at × (next code at ≡ asks request) × (count ≡ n + 1))

abbrev pub CountsFrom : RawParts → Origin → List Entry → List Entry → ℕ → Type 0
CountsFrom code o before [] count = count ≡ 0
CountsFrom code o before (e ∷ rest) count =
    (a : ℕ) × (b : ℕ) × LedTo code o before e a × CountsFrom code o (before ++ e ∷ []) rest b × (count ≡ a + b)

-- all that led to the entries of a history; from the greatest number on they aren't counted
unfoldable pub Counts : RawParts → Origin → List Entry → ℕ → Type 0
Counts code o h shown = (n : ℕ) × CountsFrom code o [] h n × (shown ≡ min n MOST_INSTRUCTIONS)
