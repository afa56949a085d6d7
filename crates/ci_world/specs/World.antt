-- The preemptive machine: any task that can make a step may make the next one.
use Rattle.std.specs.Prelude.{◌≡◌, ◌⊎◌, ℕ, List, [], ◌∷◌, ◌++◌, map, Option, None, Some, IsTrue}
use Rattle.std.specs.Option.{option_map_or}
use Rattle.ci_base.specs.declared.entry.Entry.{Entry}
use Rattle.ci_base.specs.declared.entry.Entry.TheVariants as entries
use Rattle.ci_base.specs.declared.event.Event.{Event}
use Rattle.ci_base.specs.declared.event.EventReply.{EventReply}
use Rattle.ci_base.specs.declared.reply.Reply.{Reply}
use Rattle.ci_base.specs.declared.reply.Reply.TheVariants as replies
use Rattle.ci_base.specs.declared.request.Request.{Request}
use Rattle.ci_base.specs.declared.task.Birth.{Birth}
use Rattle.ci_base.specs.declared.task.Delivery.{Delivery}
use Rattle.ci_base.specs.Steps.{Stands}
use Rattle.ci_tree.specs.Bound.{Cell, Project}
use Rattle.ci_tree.specs.Layouts.{layout_of}
use Rattle.ci_meaning.specs.Configuration.{Configuration, opening}
use Rattle.ci_meaning.specs.Meaning.{next, resume}
use Rattle.ci_shared.specs.Laws as shared
use Rattle.ci_shared.specs.Serving.{apply, script}
use Rattle.ci_shared.specs.Started.{Basis, basis_of}
use Rattle.ci_shared.specs.State.{Shared}
use Rattle.ci_world.specs.Lists.{at_task, set_task}
use Rattle.ci_world.specs.Tasks.{CanStep, NoneCanStep}

-- one project with the events of a script
pub record Origin : Type 0 where
  pub project : Project
  pub events : List Event

-- what serving knows of the project
abbrev pub basis : Origin → Basis
basis o = basis_of (layout_of o.project)

-- all of the world but what is private to tasks: the shared state, and the events that are left
pub record Common : Type 0 where
  pub shared : Shared
  pub left : List Event

-- the world: besides, the configuration of each task that was ever started, right after its last answer or its start; that of a
-- task that waits or has ended stands at its request
pub record World : Type 0 where
  pub common : Common
  pub configurations : List Configuration

-- before the first step: the cells have their first values, no task was started, and all events are left
abbrev pub opening_common : Origin → Common
opening_common o = record { shared = shared.opening (map (λ (c : Cell). c.first) o.project.cells); left = o.events }

abbrev pub opening_world : Origin → World
opening_world o = record { common = opening_common o; configurations = [] }

-- what a reply brings to the task that asked
abbrev pub answer_to : ℕ → Reply → List Delivery
answer_to t (replies.Answer a) = record { task = t; answer = a } ∷ []
answer_to t replies.Waits = []
answer_to t replies.Ends = []

-- each task that is answered goes on
abbrev pub delivered : List Configuration → List Delivery → List Configuration
delivered cs [] = cs
delivered cs (d ∷ rest) = delivered (option_map_or (λ (c : Configuration). set_task cs d.task (resume c d.answer)) (at_task cs d.task) cs) rest

-- a task that was started has its opening configuration
abbrev pub with_birth : Project → List Configuration → Option Birth → List Configuration
with_birth p cs None = cs
with_birth p cs (Some b) = cs ++ opening p b.function b.args ∷ []

-- the world after a task has come to this configuration and its request was served
abbrev pub asked : Origin → World → ℕ → Request → Configuration → World
asked o w t q at =
    let served = apply (basis o) w.common.shared t q in
    record {
      common = record { shared = served.shared; left = w.common.left };
      configurations = with_birth o.project (delivered (set_task w.configurations t at) (answer_to t served.reply ++ served.deliveries)) served.birth;
    }

-- the world after an event, where these events are left behind it
abbrev pub happened : Origin → World → Event → List Event → World
happened o w e rest =
    let served = script (basis o) w.common.shared e.what in
    record {
      common = record { shared = served.shared; left = rest };
      configurations = with_birth o.project (delivered w.configurations served.deliveries) served.birth;
    }

-- The task can make a step; after exactly these ticks it stands at this request, and it gets this reply.
pub record Asks (o : Origin) (old : World) (task ticks : ℕ) (request : Request) (reply : Reply) (new : World) : Type 0 where
  pub ready : CanStep old.common.shared task
  pub from : Configuration
  pub from_is : at_task old.configurations task ≡ Some from
  pub at : Configuration
  pub stands : Stands (next o.project) from ticks request at
  pub reply_is : reply ≡ (apply (basis o) old.common.shared task request).reply
  pub new_is : new ≡ asked o old task request at

-- an event's time has come: it is marked, or no task can make a step
abbrev pub IsDue : Common → Event → Type 0
IsDue c e = IsTrue e.soon ⊎ NoneCanStep c.shared

-- The event is the front one, its time has come, and it gets this reply.
pub record Happens (o : Origin) (old : World) (event : Event) (reply : EventReply) (new : World) : Type 0 where
  pub rest : List Event
  pub front : old.common.left ≡ event ∷ rest
  pub due : IsDue old.common event
  pub reply_is : reply ≡ (script (basis o) old.common.shared event.what).reply
  pub new_is : new ≡ happened o old event rest

-- an entry is a step of the machine from one world to the next
abbrev pub Step : Origin → World → Entry → World → Type 0
Step o old (entries.Ask task ticks request reply) new = Asks o old task ticks request reply new
Step o old (entries.Script event reply) new = Happens o old event reply new

-- the entries, in order, are steps from one world to another
abbrev pub RunFrom : Origin → World → List Entry → World → Type 0
RunFrom o old [] new = new ≡ old
RunFrom o old (entry ∷ history) new = (mid : World) × Step o old entry mid × RunFrom o mid history new

-- the history is a run of the machine, and this is the world after it
abbrev pub Run : Origin → List Entry → World → Type 0
Run o history world = RunFrom o (opening_world o) history world
