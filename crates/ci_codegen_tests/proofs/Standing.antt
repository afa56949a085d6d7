-- A machine that begins, runs and goes on.
use Rattle.std.proofs.Common.{◌≡◌, ◌+◌, ◌++◌, ℕ, List, [], ◌∷◌, Some, refl}
use Rattle.ci_base.specs.declared.reply.Answer.{Answer}
use Rattle.ci_base.specs.declared.request.Request.{Request}
use Rattle.ci_base.specs.declared.task.Birth.{Birth}
use Rattle.ci_base.specs.declared.task.Trail.{Trail}
use Rattle.ci_base.specs.declared.value.Value.{Value}
use Rattle.ci_base.specs.Requests.{Fits}
use Rattle.ci_code.specs.declared.raw.RawParts.{RawParts}
use Rattle.ci_code.specs.Code.{IsCode}
use Rattle.ci_codegen_tests.specs.Sides.{AsksFor, Comes}
use Rattle.ci_task.specs.declared.machine.Pause.TheVariants as pauses
use Rattle.ci_task.specs.Moved.{Begins, Paused, Resumes, Standing, cell_kinds, moved}
use Rattle.ci_verify.specs.Rules.{NoneBroken}

pub begun : (code : RawParts) (f : ℕ) (args : List Value) (s : Standing) → Begins code f args s → Comes code s
begun code f args s begins =
    let birth : Birth = record { task = 1; function = f; args = args } in
    let trail : Trail = record { birth = Some birth; answers = [] } in
    (trail, 0, begins birth trail refl refl refl refl)

pub asking : (code : RawParts) (granted : ℕ) (q : Request) (ticks : ℕ) (s s' : Standing) → Comes code s → ((trail : Trail) (before : ℕ) → moved code trail before s → Paused code trail before granted (pauses.Asks q ticks) s') → AsksFor code q s'
unfolding Paused
asking code granted q ticks s s' (trail, before, along) paused =
    let p = paused trail before along in
    record { trail = trail; ticks = before + ticks; along = p.1; behind = _; told = p.4; asked = p.2 }

pub gone_on : (code : RawParts) (q : Request) (a : Answer) (s s' : Standing) → IsCode code → NoneBroken code → AsksFor code q s → Fits (cell_kinds code) q a → Resumes a s s' → Comes code s'
gone_on code q a s s' is none at fits resumes =
    let trail : Trail = record { birth = at.trail.birth; answers = at.trail.answers ++ a ∷ [] } in
    (trail, 0, resumes code at.trail trail at.ticks at.behind q is none at.along at.told at.asked fits refl refl)
