-- What calls of the objects leave, where the answered are freed and the asker is settled.
use Rattle.std.proofs.Common.{◌≡◌, ◌++◌, ℕ, ℤ, List, [], ◌∷◌, Option, None, refl, sym, ap, ap₂, ◌∙◌, subst}
use Rattle.ci_base.specs.declared.place.Place.{Place}
use Rattle.ci_base.specs.declared.place.Status.TheVariants as statuses
use Rattle.ci_base.specs.declared.reply.Answer.{Answer}
use Rattle.ci_base.specs.declared.reply.Reply.{Reply}
use Rattle.ci_base.specs.declared.reply.Reply.TheVariants as replies
use Rattle.ci_base.specs.declared.task.Delivery.{Delivery}
use Rattle.ci_shared.proofs.Seats.{seats_append, seats_here}
use Rattle.ci_shared.specs.declared.object.Section.{Section}
use Rattle.ci_shared.specs.declared.object.Semaphore.{Semaphore}
use Rattle.ci_shared.specs.declared.waiter.Waiter.{Waiter}
use Rattle.ci_shared.specs.Queues.{Queue}
use Rattle.ci_shared.specs.Roster.{Roster, Task, Waiting, after_answers, joins, lines_after, seats}
use Rattle.ci_shared.specs.Rows.{Answers, Attempt, Follows, FollowsAttempt, FollowsNaming, Joins, Naming, Outcome, Row, lines_with, reply_of}
use Rattle.ci_shared.specs.State.{Served, Shared, attempted}
use Rattle.ci_shared.specs.Steps.{by_queues, by_sections, by_semaphores, open_queue, open_semaphore, try_queues, try_sections, try_semaphores}
use Rattle.ci_tasktab.specs.declared.slot.Slot.{Slot}
use Rattle.ci_tasktab.specs.Slots.{set_status, standing_of, tasks_in}
use Rattle.ci_store.proofs.Placed.{elsewhere_joined, freed_is, one_changed}
use Rattle.ci_store.specs.declared.parts.Parts.{Parts}
use Rattle.ci_store.specs.Done.{Does, IsClear, Serves, freed, settled}
use Rattle.ci_store.specs.Stored.{roster_of, shared_of}

-- some are answered
pub answered_roster : (ws ws' : List Waiter) (xs xs' : List Slot) (ds got : List Delivery) → ws' ≡ lines_after ds ws → got ≡ ds → xs' ≡ freed got xs → record { tasks = tasks_in ws' xs'; waiting = ws' } ≡ after_answers ds (record { tasks = tasks_in ws xs; waiting = ws })
answered_roster ws ws' xs xs' ds got l g x =
    ap₂ (λ (ts : List Task) (vs : List Waiter). record { tasks = ts; waiting = vs })
    (ap₂ (λ (vs : List Waiter) (ys : List Slot). tasks_in vs ys) l (x ∙ ap (λ (d : List Delivery). freed d xs) g) ∙ freed_is ds ws xs) l

-- the asker gets an answer, or waits
abbrev pub asked : ℕ → Outcome → Roster → Roster
asked u (Answers a) r = r
asked u (Joins p limit) r = joins u p limit r

pub attempted_is : (s : Shared) (u : ℕ) (o : Outcome) → attempted s u o ≡ record { shared = record s { roster = asked u o s.roster }; reply = reply_of o; deliveries = []; birth = None }
attempted_is s u (Answers a) = refl
attempted_is s u (Joins p limit) = refl

pub asked_roster : (ws ws' : List Waiter) (xs xs' : List Slot) (u : ℕ) (o : Outcome) (reply : Reply) → reply ≡ reply_of o → ws' ≡ lines_with u o ws → xs' ≡ settled reply u xs → seats u ws ≡ [] →
    record { tasks = tasks_in ws' xs'; waiting = ws' } ≡ asked u o (record { tasks = tasks_in ws xs; waiting = ws })
asked_roster ws ws' xs xs' u (Answers a) reply r l x free =
    ap₂ (λ (vs : List Waiter) (ys : List Slot). record { tasks = tasks_in vs ys; waiting = vs }) l (x ∙ ap (λ (y : Reply). settled y u xs) r)
asked_roster ws ws' xs xs' u (Joins p limit) reply r l x free =
    ap₂ (λ (vs : List Waiter) (ys : List Slot). record { tasks = tasks_in vs ys; waiting = vs }) l (x ∙ ap (λ (y : Reply). settled y u xs) r)
    ∙ ap (λ (ts : List Task). record { tasks = ts; waiting = ws ++ w ∷ [] }) (one_changed statuses.Waits (Waiting p) u ws (ws ++ w ∷ []) xs (elsewhere_joined u ws w refl) (ap (λ (ps : List Place). standing_of statuses.Waits ps) there))
  where
    w : Waiter
    w = record { task = u; place = p; limit = limit }

    there : seats u (ws ++ w ∷ []) ≡ p ∷ []
    there = seats_append u ws w ∙ ap (λ (l : List Place). l ++ seats u (w ∷ [])) free ∙ seats_here u w [] refl

got_all : (p : Parts) (ds got : List Delivery) → IsClear p → got ≡ p.woken ++ ds → got ≡ ds
got_all p ds got k e = e ∙ ap (λ (l : List Delivery). l ++ ds) k.deliveries

module _ (p : Parts) (k : IsClear p) where
  pub got_row : {O : Type 0} (row : Row O) (a : Answer) (new : O) (ws' : List Waiter) (got : List Delivery) → Follows row a new p.lines ws' p.woken got → got ≡ row.deliveries
  got_row row a new ws' got f = got_all p row.deliveries got k f.woken_are

  module _ (a : Answer) (ws' : List Waiter) (got : List Delivery) (xs' : List Slot) where
    roster_now : (ds : List Delivery) → ws' ≡ lines_after ds p.lines → got ≡ ds → xs' ≡ freed got p.tasks → record { tasks = tasks_in ws' xs'; waiting = ws' } ≡ after_answers ds (roster_of p)
    roster_now ds l g x = answered_roster p.lines ws' p.tasks xs' ds got l g x

    pub semaphores_do : (row : Row (List Semaphore)) (new : List Semaphore) → Follows row a new p.lines ws' p.woken got → xs' ≡ freed got p.tasks →
        Does (by_semaphores (shared_of p) row) a p (record p { sems = new; lines = ws'; woken = got; tasks = xs' })
    semaphores_do row new f x = record {
      answer_is = f.answer_is;
      leaves = record {
        shared = ap₂ (λ (r : Roster) (l : List Semaphore). record (shared_of p) { roster = r; semaphores = l }) (roster_now row.deliveries f.lines_are (got_row row a new ws' got f) x) f.objects_are;
        deliveries = got_row row a new ws' got f;
        birth = k.birth;
        layout = refl;
      };
    }

    pub queues_do : (row : Row (List Queue)) (new : List Queue) → Follows row a new p.lines ws' p.woken got → xs' ≡ freed got p.tasks →
        Does (by_queues (shared_of p) row) a p (record p { queues = new; lines = ws'; woken = got; tasks = xs' })
    queues_do row new f x = record {
      answer_is = f.answer_is;
      leaves = record {
        shared = ap₂ (λ (r : Roster) (l : List Queue). record (shared_of p) { roster = r; queues = l }) (roster_now row.deliveries f.lines_are (got_row row a new ws' got f) x) f.objects_are;
        deliveries = got_row row a new ws' got f;
        birth = k.birth;
        layout = refl;
      };
    }

    pub sections_do : (row : Row (List Section)) (new : List Section) → Follows row a new p.lines ws' p.woken got → xs' ≡ freed got p.tasks →
        Does (by_sections (shared_of p) row) a p (record p { sections = new; lines = ws'; woken = got; tasks = xs' })
    sections_do row new f x = record {
      answer_is = f.answer_is;
      leaves = record {
        shared = ap₂ (λ (r : Roster) (l : List Section). record (shared_of p) { roster = r; sections = l }) (roster_now row.deliveries f.lines_are (got_row row a new ws' got f) x) f.objects_are;
        deliveries = got_row row a new ws' got f;
        birth = k.birth;
        layout = refl;
      };
    }

  -- the asker
  module _ (u : ℕ) (free : seats u p.lines ≡ []) (reply : Reply) (ws' : List Waiter) (xs' : List Slot) (x : xs' ≡ settled reply u p.tasks) where
    attempts : (s : Shared) (o : Outcome) (new : Parts) → s.roster ≡ roster_of p → reply ≡ reply_of o → shared_of new ≡ record s { roster = asked u o s.roster } → new.woken ≡ [] → new.birth ≡ None → new.layout ≡ p.layout → Serves (attempted s u o) reply p new
    attempts s o new r e sh d b l = subst (λ (z : Served Reply). Serves z reply p new) (sym (attempted_is s u o)) (record { reply_is = e; leaves = record { shared = sh; deliveries = d; birth = b; layout = l } })

    now : (o : Outcome) → reply ≡ reply_of o → ws' ≡ lines_with u o p.lines → record { tasks = tasks_in ws' xs'; waiting = ws' } ≡ asked u o (roster_of p)
    now o e l = asked_roster p.lines ws' p.tasks xs' u o reply e l x free

    pub semaphores_serve : (row : Attempt (List Semaphore)) (new : List Semaphore) → FollowsAttempt row u reply new p.lines ws' → Serves (try_semaphores (shared_of p) u row) reply p (record p { sems = new; lines = ws'; tasks = xs' })
    semaphores_serve row new f = attempts (record (shared_of p) { semaphores = row.objects }) row.outcome _ refl f.reply_is (ap₂ (λ (r : Roster) (l : List Semaphore). record (shared_of p) { roster = r; semaphores = l }) (now row.outcome f.reply_is f.lines_are) f.objects_are) k.deliveries k.birth refl

    pub queues_serve : (row : Attempt (List Queue)) (new : List Queue) → FollowsAttempt row u reply new p.lines ws' → Serves (try_queues (shared_of p) u row) reply p (record p { queues = new; lines = ws'; tasks = xs' })
    queues_serve row new f = attempts (record (shared_of p) { queues = row.objects }) row.outcome _ refl f.reply_is (ap₂ (λ (r : Roster) (l : List Queue). record (shared_of p) { roster = r; queues = l }) (now row.outcome f.reply_is f.lines_are) f.objects_are) k.deliveries k.birth refl

    pub sections_serve : (row : Attempt (List Section)) (new : List Section) → FollowsAttempt row u reply new p.lines ws' → Serves (try_sections (shared_of p) u row) reply p (record p { sections = new; lines = ws'; tasks = xs' })
    sections_serve row new f = attempts (record (shared_of p) { sections = row.objects }) row.outcome _ refl f.reply_is (ap₂ (λ (r : Roster) (l : List Section). record (shared_of p) { roster = r; sections = l }) (now row.outcome f.reply_is f.lines_are) f.objects_are) k.deliveries k.birth refl

    pub outcome_serves : (o : Outcome) → reply ≡ reply_of o → ws' ≡ lines_with u o p.lines → Serves (attempted (shared_of p) u o) reply p (record p { lines = ws'; tasks = xs' })
    outcome_serves o e l = attempts (shared_of p) o _ refl e (ap (λ (r : Roster). record (shared_of p) { roster = r }) (now o e l)) k.deliveries k.birth refl

  -- an answer at once, and waiting up to a limit
  pub answers_at_once : (u : ℕ) → seats u p.lines ≡ [] → (o : Outcome) (a : Answer) → o ≡ Answers a → Serves (attempted (shared_of p) u o) (replies.Answer a) p p
  answers_at_once u free o a e = subst (λ (z : Outcome). Serves (attempted (shared_of p) u z) (replies.Answer a) p p) (sym e) (outcome_serves u free (replies.Answer a) p.lines p.tasks refl (Answers a) refl refl)

  pub waits_there : (u : ℕ) → seats u p.lines ≡ [] → (o : Outcome) (place : Place) (limit : Option ℕ) (ws' : List Waiter) (xs' : List Slot) → o ≡ Joins place limit → ws' ≡ p.lines ++ record { task = u; place = place; limit = limit } ∷ [] → xs' ≡ set_status statuses.Waits u p.tasks →
      Serves (attempted (shared_of p) u o) replies.Waits p (record p { lines = ws'; tasks = xs' })
  waits_there u free o place limit ws' xs' e l x = subst (λ (z : Outcome). Serves (attempted (shared_of p) u z) replies.Waits p (record p { lines = ws'; tasks = xs' })) (sym e) (outcome_serves u free replies.Waits ws' xs' x (Joins place limit) refl l)

  -- an object is made or found
  pub semaphore_opens : (row : Naming (List Semaphore)) (a : Answer) (new : List Semaphore) (next' : ℤ) → FollowsNaming row a new next' → Does (open_semaphore (shared_of p) row) a p (record p { sems = new; next = next' })
  semaphore_opens row a new next' f = record {
    answer_is = f.answer_is;
    leaves = record { shared = ap₂ (λ (l : List Semaphore) (n : ℤ). record (shared_of p) { semaphores = l; next = n }) f.objects_are f.next_is; deliveries = k.deliveries; birth = k.birth; layout = refl };
  }

  pub queue_opens : (row : Naming (List Queue)) (a : Answer) (new : List Queue) (next' : ℤ) → FollowsNaming row a new next' → Does (open_queue (shared_of p) row) a p (record p { queues = new; next = next' })
  queue_opens row a new next' f = record {
    answer_is = f.answer_is;
    leaves = record { shared = ap₂ (λ (l : List Queue) (n : ℤ). record (shared_of p) { queues = l; next = n }) f.objects_are f.next_is; deliveries = k.deliveries; birth = k.birth; layout = refl };
  }
