-- A machine that stands on verified code, and how its run stops.
use Rattle.std.specs.Prelude.{◌≡◌, ℕ, ◌+◌, min, List, ◌∷◌, length, Some}
use Rattle.ci_base.specs.declared.request.Request.{Request}
use Rattle.ci_base.specs.declared.request.Request.TheVariants.{End}
use Rattle.ci_base.specs.declared.value.Value.{Value}
use Rattle.ci_base.specs.Steps.{tick, quiet, asks, stuck, Steps}
use Rattle.ci_code.specs.declared.instruction.Instruction.{Instruction}
use Rattle.ci_code.specs.declared.raw.RawParts.{RawParts}
use Rattle.ci_code.specs.Machine.{next, instruction_at}
use Rattle.ci_code.specs.Moves.{Machine, Move}
use Rattle.ci_verify.specs.Safe.{IsSafe}
use Rattle.ci_task.specs.declared.active.Active.{Active}
use Rattle.ci_task.specs.declared.heard.Heard.{Heard}
use Rattle.ci_task.specs.declared.went.Went.{Went}
use Rattle.ci_task.specs.declared.went.Went.TheVariants as went
use Rattle.ci_task.specs.Spelled.{spelled, AreStacked}
use Rattle.ci_task.specs.Going.{IsAskedBy}

-- the machine is safe, and its functions lie on the stack
pub record Holds (code : RawParts) (a : Active) (callers : List Active) (values : List Value) (heard : Heard) : Type 0 where
  pub safe : IsSafe code (spelled code a callers values heard)
  pub stacked : AreStacked code (a ∷ callers) (length values)

-- a tick comes next
abbrev pub IsTick : Move → Type 0
IsTick (tick m) = Unit {0}
IsTick (quiet m) = ⊥
IsTick (asks q) = ⊥
IsTick stuck = ⊥

-- the machine stands at a request that isn't the end
pub record StandsAsking (code : RawParts) (m : Machine) : Type 0 where
  pub what : Instruction
  pub found : instruction_at code m ≡ Some what
  pub request : Request
  pub asked : IsAskedBy what request
  pub asks_it : next code m ≡ asks request

-- why a run stops: its ticks are used and a tick comes next, or the machine stands at a request
abbrev pub Stops : RawParts → Went → Machine → ℕ → ℕ → Type 0
Stops code went.On m used ticks = ⊥
Stops code went.Tick m used ticks = (used ≡ ticks) × IsTick (next code m)
Stops code (went.Ends c) m used ticks = next code m ≡ asks (End c)
Stops code went.Asks m used ticks = StandsAsking code m

-- what a count stops at
abbrev pub most_counted : ℕ
most_counted = 9223372036854775807

-- private steps lead from one machine to another, so many of them are ticks, and a count goes on by their number
pub record Runs (code : RawParts) (m : Machine) (ticks : ℕ) (d : Machine) (before after : ℕ) : Type 0 where
  pub number : ℕ
  pub steps : Steps (next code) number m ticks d
  pub counted : after ≡ min (before + number) most_counted
