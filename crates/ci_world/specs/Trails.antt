-- The trail of a task: its birth and its answers, found by serving alone, with no configuration.
use Rattle.std.specs.Prelude.{ℕ, nat_eq, if◌then◌else◌, List, [], ◌∷◌, ◌++◌, Option, None, Some}
use Rattle.ci_base.specs.declared.entry.Entry.{Entry}
use Rattle.ci_base.specs.declared.entry.Entry.TheVariants as entries
use Rattle.ci_base.specs.declared.event.Event.{Event}
use Rattle.ci_base.specs.declared.reply.Answer.{Answer}
use Rattle.ci_base.specs.declared.task.Birth.{Birth}
use Rattle.ci_base.specs.declared.task.Delivery.{Delivery}
use Rattle.ci_base.specs.declared.task.Trail.{Trail}
use Rattle.ci_shared.specs.Laws.{woken}
use Rattle.ci_shared.specs.Serving.{apply, script}
use Rattle.ci_world.specs.World.{Origin, Common, basis, opening_common, answer_to}

-- what an entry brings: the shared state and the events behind it, the answers, and the task that it starts
pub record Told : Type 0 where
  pub common : Common
  pub deliveries : List Delivery
  pub birth : Option Birth

abbrev pub behind_front : List Event → List Event
behind_front [] = []
behind_front (e ∷ rest) = rest

abbrev pub told : Origin → Common → Entry → Told
told o c (entries.Ask task ticks request reply) =
    let served = apply (basis o) c.shared task request in
    record {
      common = record { shared = served.shared; left = c.left };
      deliveries = answer_to task served.reply ++ served.deliveries;
      birth = served.birth;
    }
told o c (entries.Script event reply) =
    let served = script (basis o) c.shared event.what in
    record {
      common = record { shared = served.shared; left = behind_front c.left };
      deliveries = served.deliveries;
      birth = served.birth;
    }

abbrev pub common_from : Origin → Common → List Entry → Common
common_from o c [] = c
common_from o c (e ∷ rest) = common_from o (told o c e).common rest

-- the shared state after a history, and the events that are left
abbrev pub common_after : Origin → List Entry → Common
common_after o h = common_from o (opening_common o) h

abbrev pub no_trail : Trail
no_trail = record { birth = None; answers = [] }

abbrev pub with_answers : Trail → List Answer → Trail
with_answers x more = record { birth = x.birth; answers = x.answers ++ more }

abbrev pub next_by : ℕ → Trail → List Answer → Option Birth → Trail
next_by t x more None = with_answers x more
next_by t x more (Some b) = if nat_eq b.task t then record { birth = Some b; answers = [] } else with_answers x more

-- the trail of a task after one entry more: the task is born, or goes on with the answers that it gets
abbrev pub next_trail : ℕ → Trail → Told → Trail
next_trail t x e = next_by t x (woken t e.deliveries) e.birth

abbrev pub trail_from : Origin → Common → ℕ → Trail → List Entry → Trail
trail_from o c t x [] = x
trail_from o c t x (e ∷ rest) = trail_from o (told o c e).common t (next_trail t x (told o c e)) rest

-- the birth of a task, and the answers that it got, in order
unfoldable pub trail : Origin → ℕ → List Entry → Trail
trail o t h = trail_from o (opening_common o) t no_trail h
