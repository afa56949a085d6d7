-- What the calls on the parts do.
use Rattle.std.specs.Prelude.{◌≡◌, ℕ, true, List, [], ◌∷◌, Option, Some, None}
use Rattle.ci_base.specs.declared.event.EventReply.{EventReply}
use Rattle.ci_base.specs.declared.place.Status.{Status}
use Rattle.ci_base.specs.declared.place.Status.TheVariants as statuses
use Rattle.ci_base.specs.declared.reply.Answer.{Answer}
use Rattle.ci_base.specs.declared.reply.Reply.{Reply}
use Rattle.ci_base.specs.declared.reply.Reply.TheVariants as replies
use Rattle.ci_base.specs.declared.task.Delivery.{Delivery}
use Rattle.ci_shared.specs.Roster.{Ended, Killed, Ready, Standing, standing_at}
use Rattle.ci_shared.specs.Rows.{plain}
use Rattle.ci_shared.specs.State.{Served}
use Rattle.ci_tasktab.specs.declared.slot.Slot.{Slot}
use Rattle.ci_tasktab.specs.Slots.{is_live_at, set_status}
use Rattle.ci_store.specs.Stored.{IsSound, roster_of, shared_of}
use Rattle.ci_store.specs.declared.parts.Parts.{Parts}

-- sound, and nobody is answered or started yet
pub record IsClear (p : Parts) : Type 0 where
  pub sound : IsSound p
  pub deliveries : p.woken ≡ []
  pub birth : p.birth ≡ None

-- the task can ask
abbrev pub CanAsk : Parts → ℕ → Type 0
CanAsk p u = standing_at (roster_of p) u ≡ Some Ready

-- all but the reply is as it is served
pub record Leaves {R : Type 0} (x : Served R) (old new : Parts) : Type 0 where
  pub shared : shared_of new ≡ x.shared
  pub deliveries : new.woken ≡ x.deliveries
  pub birth : new.birth ≡ x.birth
  pub layout : new.layout ≡ old.layout

-- with the answer to whom it may concern
pub record Does (x : Served EventReply) (answer : Answer) (old new : Parts) : Type 0 where
  pub answer_is : answer ≡ plain x.reply
  pub leaves : Leaves x old new

-- with the reply to the task that asks
pub record Serves (x : Served Reply) (reply : Reply) (old new : Parts) : Type 0 where
  pub reply_is : reply ≡ x.reply
  pub leaves : Leaves x old new

-- with the reply to the script
pub record Happens (x : Served EventReply) (reply : EventReply) (old new : Parts) : Type 0 where
  pub reply_is : reply ≡ x.reply
  pub leaves : Leaves x old new

-- the answered are ready
abbrev pub freed : List Delivery → List Slot → List Slot
freed [] xs = xs
freed (d ∷ ds) xs = freed ds (set_status statuses.Ready d.task xs)

-- they are live
abbrev pub AllLive : List Delivery → List Slot → Type 0
AllLive [] xs = Unit {0}
AllLive (d ∷ ds) xs = (is_live_at xs d.task ≡ true) × AllLive ds xs

-- the asker waits where it is told to wait
abbrev pub settled : Reply → ℕ → List Slot → List Slot
settled (replies.Answer a) u xs = xs
settled replies.Waits u xs = set_status statuses.Waits u xs
settled replies.Ends u xs = xs

-- how a task ends: by itself, with 0 or an error, or killed
abbrev pub ended : Option ℕ → Standing
ended None = Killed
ended (Some code) = Ended code

abbrev pub dead : Option ℕ → Status
dead None = statuses.Killed
dead (Some code) = statuses.Ended code
