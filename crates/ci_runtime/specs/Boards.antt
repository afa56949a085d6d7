-- What a request and an event do to the board of a run.
use Rattle.std.specs.Prelude.{◌≡◌, ◌+◌, ℕ, min, Some}
use Rattle.ci_base.specs.declared.bounds.TheConstants.{MOST_INSTRUCTIONS}
use Rattle.ci_base.specs.declared.entry.Entry.TheVariants as entries
use Rattle.ci_base.specs.declared.event.Event.{Event}
use Rattle.ci_base.specs.declared.event.EventReply.{EventReply}
use Rattle.ci_base.specs.declared.reply.Reply.{Reply}
use Rattle.ci_base.specs.declared.reply.Reply.TheVariants as replies
use Rattle.ci_base.specs.declared.request.Request.{Request}
use Rattle.ci_code.specs.declared.raw.RawParts.{RawParts}
use Rattle.ci_runtime.specs.declared.board.Board.{Board}
use Rattle.ci_runtime.specs.Notes.{with_entry, with_ticks}
use Rattle.ci_runtime.specs.Seats.{Runner, Settled}
use Rattle.ci_shared.specs.Laws.{victims, victims_of}
use Rattle.ci_shared.specs.State.{Served}
use Rattle.ci_store.specs.Stored.{after}
use Rattle.ci_task.specs.Moved.{instructions_of}
use Rattle.ci_world.specs.Lists.{at_task}

-- the task made this request after so many ticks since its last entry, of which the last ones are new, and was served so
pub record Entered (code : RawParts) (t used ticks : ℕ) (q : Request) (x : Served Reply) (old new : Board) : Type 0 where
  pub stored : new.store ≡ after old.store.basis x
  pub noted : new.notes ≡ with_entry (with_ticks old.notes t 0) (entries.Ask t used q x.reply) x.birth
  pub settled : Settled code t x.reply (victims q) x.shared.roster.tasks x.deliveries x.birth old.seats new.seats
  pub next_is : new.next ≡ old.next
  pub last_is : new.last ≡ old.last
  pub work_is : new.work ≡ old.work + ticks + 100
  pub instructions_are : (m : Runner) → at_task old.seats t ≡ Some (Some m) → new.instructions ≡ min (old.instructions + instructions_of m) MOST_INSTRUCTIONS

-- the front event was taken so
pub record Taken (code : RawParts) (e : Event) (x : Served EventReply) (old new : Board) : Type 0 where
  pub stored : new.store ≡ after old.store.basis x
  pub noted : new.notes ≡ with_entry old.notes (entries.Script e x.reply) x.birth
  pub settled : Settled code 0 replies.Waits (victims_of e.what) x.shared.roster.tasks x.deliveries x.birth old.seats new.seats
  pub next_is : new.next ≡ old.next + 1
  pub last_is : new.last ≡ old.last
  pub work_is : new.work ≡ old.work + 100
  pub instructions_are : new.instructions ≡ old.instructions
