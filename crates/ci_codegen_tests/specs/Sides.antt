-- Where the machine of a task stands.
use Rattle.std.specs.Prelude.{◌≡◌, ℕ, Some}
use Rattle.ci_base.specs.declared.request.Request.{Request}
use Rattle.ci_base.specs.declared.task.Trail.{Trail}
use Rattle.ci_base.specs.Steps.{asks}
use Rattle.ci_code.specs.declared.raw.RawParts.{RawParts}
use Rattle.ci_code.specs.Machine.{next}
use Rattle.ci_task.specs.declared.behind.Behind.{Behind}
use Rattle.ci_task.specs.Moved.{Standing, machine_of, moved}

-- a birth and answers have led it there
abbrev pub Comes : RawParts → Standing → Type 0
Comes code machine = (trail : Trail) × (ticks : ℕ) × moved code trail ticks machine

-- and it has told that it stands at this request
pub record AsksFor (code : RawParts) (request : Request) (machine : Standing) : Type 0 where
  pub trail : Trail
  pub ticks : ℕ
  pub along : moved code trail ticks machine
  pub behind : Behind
  pub told : machine.told ≡ Some behind
  pub asked : next code (machine_of code machine) ≡ asks request
