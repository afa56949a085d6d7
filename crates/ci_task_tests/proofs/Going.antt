-- The machines of the tests come along trails.
use Rattle.std.proofs.Common.{◌≡◌, ℕ, ◌+◌, List, [], ◌∷◌, ◌++◌, map, Option, Some, refl, ap, ◌∙◌, subst}
use Rattle.std.specs.Prelude.{slice_get, option_map}
use Rattle.std.proofs.lemmas.Option.{slice_get-map}
use Rattle.ci_base.specs.declared.layout.CellHead.{CellHead}
use Rattle.ci_base.specs.declared.reply.Answer.{Answer}
use Rattle.ci_base.specs.declared.request.Request.{Request}
use Rattle.ci_base.specs.declared.task.Birth.{Birth}
use Rattle.ci_base.specs.declared.task.Trail.{Trail}
use Rattle.ci_base.specs.declared.value.Value.{Value}
use Rattle.ci_base.specs.Requests.{Fits}
use Rattle.ci_code.specs.declared.raw.RawParts.{RawParts}
use Rattle.ci_code.specs.Code.{IsCode}
use Rattle.ci_verify.specs.Rules.{NoneBroken}
use Rattle.ci_code.specs.Machine.{instruction_at}
use Rattle.ci_task.specs.declared.machine.Pause.{Pause}
use Rattle.ci_task.specs.declared.machine.Pause.TheVariants as pauses
use Rattle.ci_task.specs.Moved.{Standing, machine_of, cell_kinds, behind_at, moved, Paused, Begins, Resumes}
use Rattle.ci_task_tests.specs.Begun.{HasCome, HasBegun, HasToldOf, HasTold}

pub begun_new : (code : RawParts) (args : List Value) (s : Standing) → Begins code 0 args s → HasBegun code s
unfolding HasBegun
begun_new code args s h =
    let birth : Birth = record { task = 1; function = 0; args = args } in
    let trail : Trail = record { birth = Some birth; answers = [] } in
    record { trail = trail; ticks = 0; moved_so = h birth trail refl refl refl refl }

pub can_run : (code : RawParts) (s : Standing) → HasBegun code s → (trail : Trail) × (before : ℕ) × moved code trail before s
unfolding HasBegun
can_run code s h = (h.trail, h.ticks, h.moved_so)

pub run_on : (code : RawParts) (s s' : Standing) (ticks : ℕ) (pause : Pause) → HasBegun code s → ((trail : Trail) (before : ℕ) → moved code trail before s → Paused code trail before ticks pause s') → HasBegun code s'
unfolding HasBegun Paused
run_on code s s' ticks (pauses.Asks q used) h p = record { trail = h.trail; ticks = h.ticks + used; moved_so = (p h.trail h.ticks h.moved_so).1 }
run_on code s s' ticks (pauses.OutOfTicks used) h p = record { trail = h.trail; ticks = h.ticks + used; moved_so = (p h.trail h.ticks h.moved_so).1 }

pub run_told : (code : RawParts) (s s' : Standing) (ticks used : ℕ) (q : Request) → HasBegun code s → ((trail : Trail) (before : ℕ) → moved code trail before s → Paused code trail before ticks (pauses.Asks q used) s') → HasTold code q s'
unfolding HasBegun HasTold Paused
run_told code s s' ticks used q h p =
    let there : Paused code h.trail h.ticks ticks (pauses.Asks q used) s' = p h.trail h.ticks h.moved_so in
    record {
      trail = h.trail;
      ticks = h.ticks + used;
      moved_so = there.1;
      behind = behind_at (instruction_at code (machine_of code s'));
      told = there.4;
      asks_it = there.2;
    }

pub told_stands : (code : RawParts) (q : Request) (s : Standing) → HasTold code q s → HasBegun code s
unfolding HasBegun HasTold
told_stands code q s h = record { trail = h.trail; ticks = h.ticks; moved_so = h.moved_so }

pub answered : (code parts : RawParts) (q : Request) (answer : Answer) (s s' : Standing) → parts ≡ code → IsCode parts → NoneBroken parts → HasTold code q s → Fits (cell_kinds code) q answer → Resumes answer s s' → HasBegun code s'
unfolding HasBegun HasTold
answered code parts q answer s s' same is none h fit r =
    let is_code : IsCode code = subst (λ (p : RawParts). IsCode p) same is in
    let sound : NoneBroken code = subst (λ (p : RawParts). NoneBroken p) same none in
    let later : Trail = record { birth = h.trail.birth; answers = h.trail.answers ++ answer ∷ [] } in
    record { trail = later; ticks = 0; moved_so = r code h.trail later h.ticks h.behind q is_code sound h.moved_so h.told h.asks_it fit refl refl }

-- the kind of a cell
pub held_kind : (cells : List CellHead) (k : ℕ) (head : CellHead) → slice_get cells k ≡ Some head → slice_get (map (λ (c : CellHead). c.kind) cells) k ≡ Some head.kind
held_kind cells k head h = slice_get-map (λ (c : CellHead). c.kind) cells k ∙ ap (λ (o : Option CellHead). option_map (λ (c : CellHead). c.kind) o) h
