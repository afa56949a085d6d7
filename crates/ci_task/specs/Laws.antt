-- A law of runs.
use Rattle.std.specs.Prelude.{◌≡◌, ℕ}
use Rattle.ci_base.specs.declared.request.Request.{Request}
use Rattle.ci_base.specs.declared.task.Trail.{Trail}
use Rattle.ci_base.specs.Steps.{asks}
use Rattle.ci_code.specs.declared.raw.RawParts.{RawParts}
use Rattle.ci_code.specs.Machine.{next}
use Rattle.ci_task.specs.declared.machine.Pause.{Pause}
use Rattle.ci_task.specs.declared.machine.Pause.TheVariants as pauses
use Rattle.ci_task.specs.Moved.{Standing, machine_of, moved, Paused}

-- A run of a machine that stands at a request answers that request with no ticks, whatever is granted, and the machine stays where
-- it is, with its count.
abbrev pub AnswersAgain : Type 0
AnswersAgain =
    (code : RawParts) (trail : Trail) (before granted : ℕ) (s s' : Standing) (q : Request) (pause : Pause) → moved code trail before s → next code (machine_of code s) ≡ asks q → Paused code trail before granted pause s' →
    (pause ≡ pauses.Asks q 0) × (machine_of code s' ≡ machine_of code s) × (s'.count ≡ s.count)
