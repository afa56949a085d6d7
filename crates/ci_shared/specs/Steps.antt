-- What a call of one kind of object makes of the shared state, and the rows of tasks, cells and the clock.
use Rattle.std.specs.Prelude.{ℕ, zero, suc, ℤ, pos, negsuc, ◌+◌, ◌*◌, Bool, if◌then◌else◌, List, [], ◌∷◌, ◌++◌, Option, None, Some, slice_get, slice_set}
use Rattle.std.specs.Str.{str_eq_ignore_ascii_case}
use Rattle.ci_base.specs.declared.event.EventReply.{EventReply}
use Rattle.ci_base.specs.declared.layout.Global.{Global}
use Rattle.ci_base.specs.declared.place.Place.{Place}
use Rattle.ci_base.specs.declared.place.Place.TheVariants as places
use Rattle.ci_base.specs.declared.reply.Answer.{Answer}
use Rattle.ci_base.specs.declared.reply.Extra.TheVariants as extras
use Rattle.ci_base.specs.declared.reply.Reply.{Reply}
use Rattle.ci_base.specs.declared.task.Delivery.{Delivery}
use Rattle.ci_base.specs.declared.value.Kind.{Kind}
use Rattle.ci_base.specs.declared.value.Value.{Value}
use Rattle.ci_base.specs.Values.{kind_of}
use Rattle.ci_shared.specs.declared.object.Section.{Section}
use Rattle.ci_shared.specs.declared.object.Semaphore.{Semaphore}
use Rattle.ci_shared.specs.declared.waiter.Waiter.{Waiter}
use Rattle.ci_shared.specs.Queues.{Queue}
use Rattle.ci_shared.specs.Roster.{Standing, Killed, standing_at, change_task, with_mark, is_live_at, answers_to, leaves, is_due, by_limit, chosen}
use Rattle.ci_shared.specs.Rows.{Row, Attempt, Naming, Outcome, Answers, Joins, coded, refused, number, plain}
use Rattle.ci_shared.specs.Sections.{depart_all}
use Rattle.ci_shared.specs.Started.{Basis, Started, Refused, Starts, fresh}
use Rattle.ci_shared.specs.State.{Shared, Served, only, answering, attempted}
use Rattle.ci_shared.specs.Words.{same_kind}

-- objects
abbrev pub by_semaphores : Shared → Row (List Semaphore) → Served EventReply
by_semaphores s r = answering (record s { semaphores = r.objects }) r.deliveries r.reply

abbrev pub by_queues : Shared → Row (List Queue) → Served EventReply
by_queues s r = answering (record s { queues = r.objects }) r.deliveries r.reply

abbrev pub by_sections : Shared → Row (List Section) → Served EventReply
by_sections s r = answering (record s { sections = r.objects }) r.deliveries r.reply

abbrev pub try_semaphores : Shared → ℕ → Attempt (List Semaphore) → Served Reply
try_semaphores s u r = attempted (record s { semaphores = r.objects }) u r.outcome

abbrev pub try_queues : Shared → ℕ → Attempt (List Queue) → Served Reply
try_queues s u r = attempted (record s { queues = r.objects }) u r.outcome

abbrev pub try_sections : Shared → ℕ → Attempt (List Section) → Served Reply
try_sections s u r = attempted (record s { sections = r.objects }) u r.outcome

abbrev pub open_semaphore : Shared → Naming (List Semaphore) → Served EventReply
open_semaphore s r = only (record s { semaphores = r.objects; next = r.next }) r.reply

abbrev pub open_queue : Shared → Naming (List Queue) → Served EventReply
open_queue s r = only (record s { queues = r.objects; next = r.next }) r.reply

-- tasks
abbrev pub start : Shared → Started → Served EventReply
start s (Refused code) = only s (refused code)
start s (Starts b) = record {
  shared = record s { roster = record { tasks = s.roster.tasks ++ fresh b.function ∷ []; waiting = s.roster.waiting } };
  reply = number (pos b.task);
  deliveries = [];
  birth = Some b;
}

-- a task is no longer live: it leaves its line, and its sections are given on
abbrev pub gone : {R : Type 0} → Standing → ℕ → Shared → R → Served R
gone standing t s r =
    let roster = leaves standing t s.roster in
    let row = depart_all t s.sections roster.waiting in
    answering (record s { roster = roster; sections = row.objects }) row.deliveries r

abbrev pub kill : Shared → ℕ → Served EventReply
kill s n = if is_live_at (standing_at s.roster n) then gone Killed n s (coded 0) else only s (coded 1)

abbrev pub mark : Bool → Shared → ℕ → Served EventReply
mark b s n =
    if is_live_at (standing_at s.roster n) then only (record s { roster = record { tasks = change_task (with_mark b) n s.roster.tasks; waiting = s.roster.waiting } }) (coded 0)
    else only s (coded 1)

-- cells
abbrev pub read : Option Value → Outcome
read None = Answers (plain (coded 0))
read (Some v) = Answers (record { value = v; code = 0; extra = extras.Nothing })

abbrev pub written : Shared → ℕ → Value → Shared
written s cell v = record s { cells = slice_set s.cells cell v }

-- the cell of the first GLOBAL scalar of this name, ignoring the case of letters
abbrev pub cell_named : List ℕ → List Global → Option ℕ
cell_named name [] = None
cell_named name (g ∷ gs) = if str_eq_ignore_ascii_case name g.name then Some g.cell else cell_named name gs

abbrev pub set_kind : Shared → Value → ℕ → Option Kind → Served EventReply
set_kind s v cell None = only s (coded 10)
set_kind s v cell (Some k) = if same_kind k (kind_of v) then only (written s cell v) (coded 0) else only s (coded 10)

abbrev pub set_cell : Basis → Shared → Value → Option ℕ → Served EventReply
set_cell b s v None = only s (coded 5)
set_cell b s v (Some cell) = set_kind s v cell (slice_get b.kinds cell)

-- the clock; a unit is so many milliseconds
abbrev pub sleep : ℕ → ℤ → ℕ → Outcome
sleep now (negsuc n) unit = Answers (plain (coded 10))
sleep now (pos zero) unit = Answers (plain (coded 0))
sleep now (pos (suc n)) unit = Joins places.Clock (Some (now + suc n * unit))

-- what a waiter gets at its limit: 2 from a semaphore, and 0 from the clock; nobody at a queue or a section has a limit
abbrev pub late : Place → Answer
late (places.Semaphore n) = plain (coded 2)
late (places.Queue n) = plain (coded 1)
late (places.Section name) = plain (coded 0)
late places.Clock = plain (coded 0)

-- all whose limit has come, by limit and then by task
abbrev pub due : ℕ → List Waiter → List Delivery
due now ws = answers_to (λ w. late w.place) (by_limit (chosen (is_due now) ws))

abbrev pub tick : Shared → ℕ → Served EventReply
tick s ms = answering (record s { clock = s.clock + ms }) (due (s.clock + ms) s.roster.waiting) (coded 0)
