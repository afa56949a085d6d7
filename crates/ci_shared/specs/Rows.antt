-- What one kind of object makes of a call: its next value, and what comes of the call.
use Rattle.std.specs.Prelude.{◌≡◌, ◌∷◌, ◌++◌, ℕ, ℤ, pos, negsuc, ◌+ℤ◌, ◌||◌, if◌then◌else◌, nat_le, List, [], Option, None, Some}
use Rattle.std.specs.Ordering.{int_eq}
use Rattle.ci_base.specs.declared.bounds.TheConstants.{MOST_OBJECTS}
use Rattle.ci_base.specs.declared.event.EventReply.{EventReply}
use Rattle.ci_base.specs.declared.place.Place.{Place}
use Rattle.ci_base.specs.declared.reply.Answer.{Answer}
use Rattle.ci_base.specs.declared.reply.Extra.TheVariants as extras
use Rattle.ci_base.specs.declared.reply.Reply.{Reply}
use Rattle.ci_base.specs.declared.reply.Reply.TheVariants as replies
use Rattle.ci_base.specs.declared.task.Delivery.{Delivery}
use Rattle.ci_base.specs.declared.value.Value.TheVariants as values
use Rattle.ci_shared.specs.declared.waiter.Waiter.{Waiter}
use Rattle.ci_shared.specs.Roster.{answers_to, line, lines_after}

-- a value and a code for the caller, and answers to tasks that waited
pub record Row (O : Type 0) : Type 0 where
  pub objects : O
  pub reply : EventReply
  pub deliveries : List Delivery

-- the caller gets an answer, or joins the line of a place, for ever or up to a limit
pub data Outcome : Type 0 where
  Answers : Answer → Outcome
  Joins : Place → Option ℕ → Outcome

pub record Attempt (O : Type 0) : Type 0 where
  pub objects : O
  pub outcome : Outcome

-- an object is made, or found by its name; then the next number goes up, or stays
pub record Naming (O : Type 0) : Type 0 where
  pub objects : O
  pub next : ℤ
  pub reply : EventReply

-- the code, as value and code
abbrev pub coded : ℕ → EventReply
coded code = record { value = pos code; code = code }

-- -1 with the code
abbrev pub refused : ℕ → EventReply
refused code = record { value = negsuc 0; code = code }

abbrev pub number : ℤ → EventReply
number n = record { value = n; code = 0 }

-- an answer of this value and code, and nothing besides
abbrev pub plain : EventReply → Answer
plain x = record { value = values.Int x.value; code = x.code; extra = extras.Nothing }

-- 0 with an element
abbrev pub element : ℤ → List ℕ → Answer
element sort text = record { value = values.Int (pos 0); code = 0; extra = extras.Element sort text }

-- nobody who waits is answered
abbrev pub replying : {O : Type 0} → O → EventReply → Row O
replying xs r = record { objects = xs; reply = r; deliveries = [] }

abbrev pub given : {O : Type 0} → O → Answer → Attempt O
given xs a = record { objects = xs; outcome = Answers a }

abbrev pub stands : {O : Type 0} → O → Place → Option ℕ → Attempt O
stands xs p limit = record { objects = xs; outcome = Joins p limit }

-- all who wait there are answered 1, in the order of the line
abbrev pub turned_away : Place → List Waiter → List Delivery
turned_away p ws = answers_to (λ w. plain (coded 1)) (line p ws)

-- the number that no object gets
abbrev pub last_number : ℤ
last_number = pos 2147483647

-- opening by a name that isn't empty: of an object that exists 4 in mode 1, else its number; of one that doesn't exist
-- 5 in mode 0; 11 where there are as many as there may be, or numbers have run out; else the new one
abbrev pub opens : {O : Type 0} → ℤ → ℤ → Option ℤ → ℕ → O → O → Naming O
opens mode next (Some n) many old new =
    record { objects = old; next = next; reply = if int_eq mode (pos 1) then refused 4 else number n }
opens mode next None many old new =
    if int_eq mode (pos 0) then record { objects = old; next = next; reply = refused 5 }
    else if nat_le MOST_OBJECTS many || int_eq next last_number then record { objects = old; next = next; reply = refused 11 }
    else record { objects = new; next = next +ℤ pos 1; reply = number next }

-- the reply to the caller
abbrev pub reply_of : Outcome → Reply
reply_of (Answers a) = replies.Answer a
reply_of (Joins p limit) = replies.Waits

-- those who wait then
abbrev pub lines_with : ℕ → Outcome → List Waiter → List Waiter
lines_with t (Answers a) ws = ws
lines_with t (Joins p limit) ws = ws ++ record { task = t; place = p; limit = limit } ∷ []

-- a call did what its row says: the answer, the objects, the lines, and who was answered
pub record Follows {O : Type 0} (row : Row O) (answer : Answer) (new : O) (ws ws' : List Waiter) (woken woken' : List Delivery) : Type 0 where
  pub answer_is : answer ≡ plain row.reply
  pub objects_are : new ≡ row.objects
  pub lines_are : ws' ≡ lines_after row.deliveries ws
  pub woken_are : woken' ≡ woken ++ row.deliveries

-- the same of a call of a task that may have to wait
pub record FollowsAttempt {O : Type 0} (row : Attempt O) (task : ℕ) (reply : Reply) (new : O) (ws ws' : List Waiter) : Type 0 where
  pub reply_is : reply ≡ reply_of row.outcome
  pub objects_are : new ≡ row.objects
  pub lines_are : ws' ≡ lines_with task row.outcome ws

-- and of one that makes or finds an object
pub record FollowsNaming {O : Type 0} (row : Naming O) (answer : Answer) (new : O) (next' : ℤ) : Type 0 where
  pub answer_is : answer ≡ plain row.reply
  pub objects_are : new ≡ row.objects
  pub next_is : next' ≡ row.next
