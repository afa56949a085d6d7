-- How tasks start and end.
use Rattle.std.proofs.Common.{◌≡◌, ◌≤◌, ◌+◌, ◌++◌, ℕ, pos, Bool, true, false, cond, List, [], length, Option, Some, None, refl, sym, ap, ap₂, ◌∙◌, subst, arith, Ok, Err}
use Rattle.std.specs.Prelude.{nat_eq}
use Rattle.ci_base.specs.declared.bounds.TheConstants.{MOST_LIVE_TASKS}
use Rattle.ci_base.specs.declared.place.Place.{Place}
use Rattle.ci_base.specs.declared.event.EventReply.{EventReply}
use Rattle.ci_base.specs.declared.reply.Answer.{Answer}
use Rattle.ci_base.specs.declared.reply.Reply.TheVariants as replies
use Rattle.ci_base.specs.declared.task.Birth.{Birth}
use Rattle.ci_base.specs.declared.task.Delivery.{Delivery}
use Rattle.ci_shared.proofs.Counting.{no_longer}
use Rattle.ci_shared.proofs.Fit.{given_fit}
use Rattle.ci_shared.proofs.Seats.{leaves_seated}
use Rattle.ci_shared.specs.declared.object.Section.{Section}
use Rattle.ci_shared.specs.declared.waiter.Waiter.{Waiter}
use Rattle.ci_shared.specs.Laws.{Seated, seat_of}
use Rattle.ci_shared.specs.Roster.{Ended, Killed, Roster, Standing, Task, after_answers, change_task, leaves, lines_after, set_standing, without}
use Rattle.ci_shared.specs.Roster as roster
use Rattle.ci_shared.specs.Rows.{Row, coded, number, plain, refused, replying}
use Rattle.ci_shared.specs.Sections.{depart_all}
use Rattle.ci_shared.specs.Started.{Refused, Started, Starts}
use Rattle.ci_shared.specs.State.{Served, only}
use Rattle.ci_shared.specs.Steps.{gone, kill, mark, start}
use Rattle.ci_tasktab.specs.declared.slot.Slot.{Slot}
use Rattle.ci_tasktab.specs.Births.{Spawns}
use Rattle.ci_tasktab.specs.Slots.{change_slot, is_live_at, marked, set_status, standing_of, tasks_in, with_mark}
use Rattle.ci_store.proofs.Answering.{answered_roster}
use Rattle.ci_store.proofs.Asking.{room}
use Rattle.ci_store.proofs.Placed.{elsewhere_without, fit_lives, live_is, marked_is, one_changed, pushed_is}
use Rattle.ci_store.specs.declared.parts.Parts.{Parts}
use Rattle.ci_store.specs.Done.{AllLive, Does, IsClear, Leaves, dead, ended, freed}
use Rattle.ci_store.specs.Stored.{roster_of, shared_of}

-- nothing happens but the answer
pub says : (p : Parts) → IsClear p → (a : Answer) (r : EventReply) → a ≡ plain r → Does (only (shared_of p) r) a p p
says p k a r e = record { answer_is = e; leaves = record { shared = refl; deliveries = k.deliveries; birth = k.birth; layout = refl } }

-- a start
pub started_does : (p : Parts) → IsClear p → (s : Started) (birth : Birth) (a : Answer) (xs' : List Slot) → Spawns s (Ok birth) p.tasks xs' → a ≡ plain (number (pos birth.task)) → Does (start (shared_of p) s) a p (record p { tasks = xs'; birth = Some birth })
started_does p k (Refused code) birth a xs' h e = absurd h
started_does p k (Starts b) birth a xs' h e = record {
  answer_is = e ∙ ap (λ (x : Birth). plain (number (pos x.task))) h.0;
  leaves = record {
    shared = ap (λ (ts : List Task). record (shared_of p) { roster = record { tasks = ts; waiting = p.lines } }) (ap (λ (xs : List Slot). tasks_in p.lines xs) h.1 ∙ pushed_is b.function p.lines p.tasks);
    deliveries = k.deliveries;
    birth = ap (λ (x : Birth). Some x) h.0;
    layout = refl;
  };
}

pub refused_does : (p : Parts) → IsClear p → (s : Started) (code : ℕ) (a : Answer) (xs' : List Slot) → Spawns s (Err code) p.tasks xs' → a ≡ plain (refused code) → Does (start (shared_of p) s) a p (record p { tasks = xs' })
refused_does p k (Starts b) code a xs' h e = absurd h
refused_does p k (Refused c) code a xs' h e = record {
  answer_is = e ∙ ap (λ (n : ℕ). plain (refused n)) h.0;
  leaves = record { shared = ap (λ (xs : List Slot). record (shared_of p) { roster = record { tasks = tasks_in p.lines xs; waiting = p.lines } }) h.1; deliveries = k.deliveries; birth = k.birth; layout = refl };
}

-- an end
dead_stands : (code : Option ℕ) (ps : List Place) → standing_of (dead code) ps ≡ ended code
dead_stands None ps = refl
dead_stands (Some c) ps = refl

dead_seat : (code : Option ℕ) → seat_of (Some (ended code)) ≡ []
dead_seat None = refl
dead_seat (Some c) = refl

module _ (p : Parts) (k : IsClear p) (t : ℕ) (code : Option ℕ) where
  abbrev xs1 : List Slot
  xs1 = set_status (dead code) t p.tasks

  abbrev ws1 : List Waiter
  ws1 = without t p.lines

  left_is : record { tasks = tasks_in ws1 xs1; waiting = ws1 } ≡ leaves (ended code) t (roster_of p)
  left_is = ap (λ (ts : List Task). record { tasks = ts; waiting = ws1 }) (one_changed (dead code) (ended code) t p.lines ws1 p.tasks (elsewhere_without t p.lines) (dead_stands code _))

  left_seated : Seated (record { tasks = tasks_in ws1 xs1; waiting = ws1 })
  left_seated = subst (λ (r : Roster). Seated r) (sym left_is) (leaves_seated (roster_of p) t (ended code) (dead_seat code) k.sound.keeps.seated)

  abbrev row_deliveries : List Delivery
  row_deliveries = (depart_all t p.sections ws1).deliveries

  pub end_room : (ws : List Waiter) → ws ≡ ws1 → length p.woken + length ws ≤ MOST_LIVE_TASKS
  end_room ws e =
      let all : length p.woken + length p.lines ≤ MOST_LIVE_TASKS = room p k in
      let fewer : length ws1 ≤ length p.lines = no_longer t p.lines in
      let same : length ws ≡ length ws1 = ap (λ (l : List Waiter). length l) e in
      omega (arith, all, fewer, same)

  got_is : (ws : List Waiter) (got : List Delivery) → ws ≡ ws1 → got ≡ p.woken ++ (depart_all t p.sections ws).deliveries → got ≡ row_deliveries
  got_is ws got w e = e ∙ ap₂ (λ (l : List Delivery) (vs : List Waiter). l ++ (depart_all t p.sections vs).deliveries) k.deliveries w

  pub end_lives : (xs : List Slot) (ws : List Waiter) (got given : List Delivery) → xs ≡ xs1 → ws ≡ ws1 → got ≡ p.woken ++ (depart_all t p.sections ws).deliveries → given ≡ got → AllLive given xs
  end_lives xs ws got given x w g e =
      subst (λ (l : List Delivery). AllLive l xs) (sym (e ∙ got_is ws got w g))
      (subst (λ (l : List Slot). AllLive row_deliveries l) (sym x)
      (fit_lives ws1 xs1 row_deliveries (given_fit (λ (s : Section). nat_eq s.owner t) p.sections (record { tasks = tasks_in ws1 xs1; waiting = ws1 }) left_seated)))

  pub end_leaves : (xs xs2 : List Slot) (ws ws2 : List Waiter) (sections : List Section) (got given : List Delivery) → xs ≡ xs1 → ws ≡ ws1 → sections ≡ (depart_all t p.sections ws).objects → ws2 ≡ lines_after (depart_all t p.sections ws).deliveries ws →
      got ≡ p.woken ++ (depart_all t p.sections ws).deliveries → given ≡ got → xs2 ≡ freed given xs → Leaves (gone (ended code) t (shared_of p) replies.Ends) p (record p { tasks = xs2; lines = ws2; sections = sections; woken = got })
  end_leaves xs xs2 ws ws2 sections got given x w s l g e f = record {
    shared = ap₂ (λ (r : Roster) (y : List Section). record (shared_of p) { roster = r; sections = y }) now (s ∙ ap (λ (vs : List Waiter). (depart_all t p.sections vs).objects) w);
    deliveries = got_is ws got w g;
    birth = k.birth;
    layout = refl;
  }
    where
      now : record { tasks = tasks_in ws2 xs2; waiting = ws2 } ≡ after_answers row_deliveries (leaves (ended code) t (roster_of p))
      now =
          answered_roster ws1 ws2 xs1 xs2 row_deliveries got (l ∙ ap (λ (vs : List Waiter). lines_after (depart_all t p.sections vs).deliveries vs) w) (got_is ws got w g)
          (f ∙ ap₂ (λ (d : List Delivery) (ys : List Slot). freed d ys) e x)
          ∙ ap (λ (r : Roster). after_answers row_deliveries r) left_is

pub not_killed : (p : Parts) → IsClear p → (t : ℕ) (a : Answer) → a ≡ plain (coded 1) → is_live_at p.tasks t ≡ false → Does (kill (shared_of p) t) a p p
not_killed p k t a e d =
    subst (λ (x : Served EventReply). Does x a p p) (sym (ap (λ (b : Bool). cond b (gone Killed t (shared_of p) (coded 0)) (only (shared_of p) (coded 1))) (live_is p.lines p.tasks t ∙ d))) (says p k a (coded 1) e)

pub is_killed : (p new : Parts) (t : ℕ) (a : Answer) → a ≡ plain (coded 0) → is_live_at p.tasks t ≡ true → Leaves (gone (ended None) t (shared_of p) replies.Ends) p new → Does (kill (shared_of p) t) a p new
is_killed p new t a e d l =
    subst (λ (x : Served EventReply). Does x a p new) (sym (ap (λ (b : Bool). cond b (gone Killed t (shared_of p) (coded 0)) (only (shared_of p) (coded 1))) (live_is p.lines p.tasks t ∙ d)))
    (record { answer_is = e; leaves = record { shared = l.shared; deliveries = l.deliveries; birth = l.birth; layout = l.layout } })

-- a mark
pub mark_does : (p : Parts) → IsClear p → (b : Bool) (t : ℕ) (a : Answer) (xs' : List Slot) → a ≡ plain (marked b t p.tasks).reply → xs' ≡ (marked b t p.tasks).objects → Does (mark b (shared_of p) t) a p (record p { tasks = xs' })
mark_does p k b t a xs' e x = by (is_live_at p.tasks t) refl
  where
    by : (c : Bool) → is_live_at p.tasks t ≡ c → Does (mark b (shared_of p) t) a p (record p { tasks = xs' })
    by true i =
        let row : marked b t p.tasks ≡ replying (change_slot (with_mark b) t p.tasks) (coded 0) = ap (λ (c : Bool). cond c (replying (change_slot (with_mark b) t p.tasks) (coded 0)) (replying p.tasks (coded 1))) i in
        subst (λ (z : Served EventReply). Does z a p (record p { tasks = xs' })) (sym (ap (λ (c : Bool). cond c (only (record (shared_of p) { roster = record { tasks = change_task (roster.with_mark b) t (tasks_in p.lines p.tasks); waiting = p.lines } }) (coded 0)) (only (shared_of p) (coded 1))) (live_is p.lines p.tasks t ∙ i)))
        (record {
          answer_is = e ∙ ap (λ (r : Row (List Slot)). plain r.reply) row;
          leaves = record {
            shared = ap (λ (ts : List Task). record (shared_of p) { roster = record { tasks = ts; waiting = p.lines } }) (ap (λ (xs : List Slot). tasks_in p.lines xs) (x ∙ ap (λ (r : Row (List Slot)). r.objects) row) ∙ marked_is b t p.lines p.tasks);
            deliveries = k.deliveries;
            birth = k.birth;
            layout = refl;
          };
        })
    by false i =
        let row : marked b t p.tasks ≡ replying p.tasks (coded 1) = ap (λ (c : Bool). cond c (replying (change_slot (with_mark b) t p.tasks) (coded 0)) (replying p.tasks (coded 1))) i in
        subst (λ (z : Served EventReply). Does z a p (record p { tasks = xs' })) (sym (ap (λ (c : Bool). cond c (only (record (shared_of p) { roster = record { tasks = change_task (roster.with_mark b) t (tasks_in p.lines p.tasks); waiting = p.lines } }) (coded 0)) (only (shared_of p) (coded 1))) (live_is p.lines p.tasks t ∙ i)))
        (record {
          answer_is = e ∙ ap (λ (r : Row (List Slot)). plain r.reply) row;
          leaves = record {
            shared = ap (λ (xs : List Slot). record (shared_of p) { roster = record { tasks = tasks_in p.lines xs; waiting = p.lines } }) (x ∙ ap (λ (r : Row (List Slot)). r.objects) row);
            deliveries = k.deliveries;
            birth = k.birth;
            layout = refl;
          };
        })
