-- What all tasks share, and what serving gives.
use Rattle.std.specs.Prelude.{ℕ, ℤ, List, [], Option, None}
use Rattle.ci_base.specs.declared.event.EventReply.{EventReply}
use Rattle.ci_base.specs.declared.reply.Reply.{Reply}
use Rattle.ci_base.specs.declared.reply.Reply.TheVariants as replies
use Rattle.ci_base.specs.declared.task.Birth.{Birth}
use Rattle.ci_base.specs.declared.task.Delivery.{Delivery}
use Rattle.ci_base.specs.declared.value.Value.{Value}
use Rattle.ci_shared.specs.declared.object.Section.{Section}
use Rattle.ci_shared.specs.declared.object.Semaphore.{Semaphore}
use Rattle.ci_shared.specs.Queues.{Queue}
use Rattle.ci_shared.specs.Roster.{Roster, after_answers, joins}
use Rattle.ci_shared.specs.Rows.{Outcome, Answers, Joins, plain}

-- the cells by their numbers; the clock in milliseconds; the number that the next semaphore or queue gets
pub record Shared : Type 0 where
  pub roster : Roster
  pub cells : List Value
  pub semaphores : List Semaphore
  pub queues : List Queue
  pub sections : List Section
  pub clock : ℕ
  pub next : ℤ

-- the next state, the reply, the answers to tasks that waited, and the task that was started
pub record Served (R : Type 0) : Type 0 where
  pub shared : Shared
  pub reply : R
  pub deliveries : List Delivery
  pub birth : Option Birth

-- nobody is answered or started
abbrev pub only : {R : Type 0} → Shared → R → Served R
only s r = record { shared = s; reply = r; deliveries = []; birth = None }

-- these are answered: each leaves its line and is ready
abbrev pub answering : {R : Type 0} → Shared → List Delivery → R → Served R
answering s ds r = record { shared = record s { roster = after_answers ds s.roster }; reply = r; deliveries = ds; birth = None }

-- the caller gets an answer, or waits
abbrev pub attempted : Shared → ℕ → Outcome → Served Reply
attempted s t (Answers a) = only s (replies.Answer a)
attempted s t (Joins p limit) = only (record s { roster = joins t p limit s.roster }) replies.Waits

-- the caller gets this value and code
abbrev pub as_reply : Served EventReply → Served Reply
as_reply x = record { shared = x.shared; reply = replies.Answer (plain x.reply); deliveries = x.deliveries; birth = x.birth }

abbrev pub said : Shared → EventReply → Served Reply
said s r = as_reply (only s r)
