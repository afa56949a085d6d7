-- What a desk keeps behind a request, behind an event, and where a turn's ticks are used.
use Rattle.std.proofs.Common.{◌≡◌, ◌≢◌, ◌⊎◌, ◌≤◌, ◌+◌, ◌*◌, ◌^◌, ℕ, zero, suc, List, [], ◌∷◌, length, drop, Some, refl, sym, ap, ap₂, ◌∙◌, subst, arith, inl, inr, sum}
use Rattle.ci_base.specs.declared.bounds.TheConstants.{MOST_TASKS}
use Rattle.ci_base.specs.declared.entry.Entry.{Entry}
use Rattle.ci_base.specs.declared.entry.Entry.TheVariants as entries
use Rattle.ci_base.specs.declared.event.Event.{Event}
use Rattle.ci_base.specs.declared.event.EventReply.{EventReply}
use Rattle.ci_base.specs.declared.limits.Limits.{Limits}
use Rattle.ci_base.specs.declared.reply.Reply.{Reply}
use Rattle.ci_base.specs.declared.request.Request.{Request}
use Rattle.ci_code.specs.declared.raw.RawParts.{RawParts}
use Rattle.ci_runtime.proofs.Born.{births_snoc, functions_after, named_after, still_few}
use Rattle.ci_runtime.proofs.Counting.{counts_ask, counts_event}
use Rattle.ci_runtime.proofs.Seating.{AtRequest, seats_ask, seats_event, some_seat}
use Rattle.ci_runtime.specs.declared.board.Board.{Board}
use Rattle.ci_runtime.specs.Boards.{Entered, Taken}
use Rattle.ci_runtime.specs.Desks.{HasCode, IsKept}
use Rattle.ci_runtime.specs.Notes.{with_entry, with_ticks}
use Rattle.ci_runtime.specs.Seats.{Runner, Seat, AreSeated, Changed, IsSeated}
use Rattle.ci_shared.proofs.Clocks.{ask_clock, script_clock}
use Rattle.ci_shared.proofs.Numbers.{decide}
use Rattle.ci_shared.proofs.Proved as laws
use Rattle.ci_shared.specs.Laws.{Grows, IsFormed, Keeps, functions, gained}
use Rattle.ci_shared.specs.Roster.{Ready, Standing, Task, standing_at, standing_in}
use Rattle.ci_shared.specs.Serving.{apply, script}
use Rattle.ci_shared.specs.Started.{Basis}
use Rattle.ci_shared.specs.State.{Served, Shared}
use Rattle.ci_store.specs.Stored.{after}
use Rattle.ci_task.specs.Moved.{moved}
use Rattle.ci_tree.specs.Layouts.{layout_of}
use Rattle.ci_world.proofs.Lists.{at_set, at_other, len_set, one_at}
use Rattle.ci_world.proofs.Served.{common_snoc}
use Rattle.ci_world.proofs.Working.{sum_set, sum_with, work_more, work_snoc}
use Rattle.ci_world.specs.Lists.{at_task, set_task}
use Rattle.ci_world.specs.Serial.{ticks_with}
use Rattle.ci_world.specs.Trails.{behind_front, common_after, trail}
use Rattle.ci_world.specs.World.{Common, Origin, basis}

pub layout_is : (o : Origin) (code : RawParts) → HasCode o code → code.layout ≡ layout_of o.project
layout_is o code has = ap (λ (c : RawParts). c.layout) has.program.translated

drop_next : (n : ℕ) (xs : List Event) → drop (n + 1) xs ≡ behind_front (drop n xs)
drop_next zero [] = refl
drop_next (suc n) [] = ap (λ (k : ℕ). drop k []) (next n)
  where
    next : (n : ℕ) → suc n + 1 ≡ suc (n + 1)
    next n = omega arith
drop_next zero (x ∷ xs) = refl
drop_next (suc n) (x ∷ xs) = ap (λ (k : ℕ). drop k (x ∷ xs)) (next n) ∙ drop_next n xs
  where
    next : (n : ℕ) → suc n + 1 ≡ suc (n + 1)
    next n = omega arith

module _ (o : Origin) (code : RawParts) (limits : Limits) (b : Board) (k : IsKept o code limits b) where
  abbrev h : List Entry
  h = b.notes.entries

  abbrev c : Common
  c = common_after o h

  keeps : Keeps (basis o) c.shared
  keeps = subst (λ (s : Shared). Keeps (basis o) s) k.shared_is k.serving

  seated : AreSeated code o h c.shared.roster.tasks b.notes.ticks b.seats
  seated = subst (λ (s : Shared). AreSeated code o h s.roster.tasks b.notes.ticks b.seats) k.shared_is k.seated

  module _ (u n j : ℕ) (q : Request) (mid : List Seat) (b' : Board) (ready : standing_at b.store.shared.roster u ≡ Some Ready) (formed : IsFormed (basis o) q) (kat : at_task b.notes.ticks u ≡ Some n)
      (p : AtRequest code o b.notes.entries u (n + j) b.seats mid q) (en : Entered code u (n + j) j q (apply b.store.basis b.store.shared u q) (record b { seats = mid }) b') where
    abbrev y : Served Reply
    y = apply (basis o) c.shared u q

    abbrev e : Entry
    e = entries.Ask u (n + j) q y.reply

    same : apply b.store.basis b.store.shared u q ≡ y
    same = ap₂ (λ (bs : Basis) (s : Shared). apply bs s u q) k.basis_is k.shared_is

    entered : Entered code u (n + j) j q y (record b { seats = mid }) b'
    entered = subst (λ (x : Served Reply). Entered code u (n + j) j q x (record b { seats = mid }) b') same en

    stored : b'.store ≡ after (basis o) y
    stored = entered.stored ∙ ap (λ (bs : Basis). after bs y) k.basis_is

    ready' : standing_at c.shared.roster u ≡ Some Ready
    ready' = subst (λ (s : Shared). standing_at s.roster u ≡ Some Ready) k.shared_is ready

    abbrev new : Board
    new = record {
      notes = with_entry (with_ticks b.notes u 0) e y.birth;
      seats = b'.seats;
      store = after (basis o) y;
      next = b.next;
      last = b.last;
      work = b.work + j + 100;
      instructions = b'.instructions;
    }

    board_is : b' ≡ new
    board_is = λ i. record { notes = entered.noted i; seats = b'.seats; store = stored i; next = entered.next_is i; last = entered.last_is i; work = entered.work_is i; instructions = b'.instructions }

    grows : Grows (basis o) c.shared.roster.tasks y.shared.roster.tasks y.birth
    grows = laws.ask_grows (basis o) c.shared u q keeps ready'

    clock_is : y.shared.clock ≡ b.store.shared.clock
    clock_is = ask_clock (basis o) c.shared u q ∙ ap (λ (s : Shared). s.clock) (sym k.shared_is)

    sums : sum (ticks_with (set_task b.notes.ticks u 0) y.birth) + n ≡ sum b.notes.ticks
    sums = omega (arith, sum_with (set_task b.notes.ticks u 0) y.birth, sum_set b.notes.ticks u n 0 kat)

    tasks_are : b.store.shared.roster.tasks ≡ c.shared.roster.tasks
    tasks_are = ap (λ (s : Shared). s.roster.tasks) k.shared_is

    kept : b.work + j + 100 ≤ limits.budget → IsKept o code limits new
    kept within = record {
      has_code = k.has_code;
      script = k.script;
      basis_is = refl;
      shared_is = sym (ap (λ (x : Common). x.shared) (common_snoc o h e));
      left_is = k.left_is ∙ sym (ap (λ (x : Common). x.left) (common_snoc o h e));
      serving = laws.ask_keeps (basis o) c.shared u q keeps formed ready';
      seated = seats_ask code k.has_code.is_code k.has_code.program.verified o (layout_is o code k.has_code) h keeps u (n + j) q formed ready' y.reply b.notes.ticks b.seats mid b'.seats seated p entered.settled;
      born = births_snoc o code (layout_is o code k.has_code) h e c.shared.roster.tasks y.shared.roster.tasks grows k.born;
      functions_are = functions_after o c.shared.roster.tasks y.shared.roster.tasks y.birth b.notes.functions grows (k.functions_are ∙ ap (λ (s : Shared). functions s.roster.tasks) k.shared_is);
      named = named_after o code (layout_is o code k.has_code) c.shared.roster.tasks y.shared.roster.tasks y.birth b.notes.functions grows k.named;
      work_is = omega (arith, k.work_is, work_snoc h e b.notes.ticks (ticks_with (set_task b.notes.ticks u 0) y.birth) n sums);
      within = within;
      room = k.room;
      few = still_few o c.shared.roster.tasks y.shared.roster.tasks y.birth grows (subst (λ (l : List Task). length l ≤ MOST_TASKS) tasks_are k.few);
      early = subst (λ (t : ℕ). t ≤ 2 ^ 32 * b.next) (sym clock_is) k.early;
      counted = counts_ask code o h u (n + j) b.seats mid q y.reply b.instructions b'.instructions k.born p k.counted (entered.instructions_are p.machine p.there);
    }

    -- behind a request
    pub keeps_ask : b.work + j + 100 ≤ limits.budget → IsKept o code limits b'
    keeps_ask within = subst (λ (x : Board). IsKept o code limits x) (sym board_is) (kept within)

  -- where the ticks of a turn are used
  module _ (u n j : ℕ) (mid : List Seat) (m : Runner) (ready : standing_at b.store.shared.roster u ≡ Some Ready) (kat : at_task b.notes.ticks u ≡ Some n)
      (changed : Changed u b.seats mid) (there : at_task mid u ≡ Some (Some m)) (along : moved code (trail o u b.notes.entries) (n + j) m) where
    seats_out : (t : ℕ) → (t ≡ u) ⊎ (t ≢ u) → (y : Standing) (i : ℕ) (seat : Seat) → standing_in b.store.shared.roster.tasks t ≡ Some y → at_task (set_task b.notes.ticks u (n + j)) t ≡ Some i → at_task mid t ≡ Some seat → IsSeated code (trail o t h) i y seat
    seats_out t (inl same) y i seat yat iat at =
        let ey : Ready ≡ y = one_at Ready y (standing_in b.store.shared.roster.tasks u) ready (ap (standing_in b.store.shared.roster.tasks) (sym same) ∙ yat) in
        let ei : n + j ≡ i = one_at (n + j) i (at_task (set_task b.notes.ticks u (n + j)) u) (at_set b.notes.ticks u n (n + j) kat) (ap (at_task (set_task b.notes.ticks u (n + j))) (sym same) ∙ iat) in
        let em : seat ≡ Some m = some_seat seat (Some m) (at_task mid u) (ap (at_task mid) (sym same) ∙ at) there in
        subst (λ (s : Standing). IsSeated code (trail o t h) i s seat) ey
        (m, em, subst (λ (x : ℕ). moved code (trail o x h) i m) (sym same) (subst (λ (x : ℕ). moved code (trail o u h) x m) ei along))
    seats_out t (inr other) y i seat yat iat at = k.seated.each t y i seat yat (sym (at_other b.notes.ticks u t (n + j) other) ∙ iat) (sym (changed.others t other) ∙ at)

    pub keeps_out : (b' : Board) → b'.notes ≡ with_ticks b.notes u (n + j) → b'.seats ≡ mid → b'.store ≡ b.store → b'.next ≡ b.next → b'.last ≡ b.last → b'.work ≡ b.work + j → b'.instructions ≡ b.instructions → b.work + j ≤ limits.budget → IsKept o code limits b'
    keeps_out b' notes_is seats_is store_is next_is last_is work_is same_count within = subst (λ (x : Board). IsKept o code limits x) (sym out_is) (record {
      has_code = k.has_code;
      script = k.script;
      basis_is = k.basis_is;
      shared_is = k.shared_is;
      left_is = k.left_is;
      serving = k.serving;
      seated = record {
        many_ticks = len_set b.notes.ticks u (n + j) ∙ k.seated.many_ticks;
        many_seats = changed.long ∙ k.seated.many_seats;
        each = λ t. seats_out t (decide t u);
      };
      born = k.born;
      functions_are = k.functions_are;
      named = k.named;
      work_is = omega (arith, k.work_is, work_more b.notes.entries b.notes.ticks u n (n + j) kat);
      within = within;
      room = k.room;
      few = k.few;
      early = k.early;
      counted = k.counted;
    })
      where
        out : Board
        out = record { notes = with_ticks b.notes u (n + j); seats = mid; store = b.store; next = b.next; last = b.last; work = b.work + j; instructions = b.instructions }

        out_is : b' ≡ out
        out_is = λ i. record { notes = notes_is i; seats = seats_is i; store = store_is i; next = next_is i; last = last_is i; work = work_is i; instructions = same_count i }

  module _ (ev : Event) (b' : Board) (gain : gained ev.what ≤ 2 ^ 32) (en : Taken code ev (script b.store.basis b.store.shared ev.what) b b') where
    abbrev served : Served EventReply
    served = script (basis o) c.shared ev.what

    abbrev entry : Entry
    entry = entries.Script ev served.reply

    taken : Taken code ev served b b'
    taken = subst (λ (x : Served EventReply). Taken code ev x b b') (ap₂ (λ (bs : Basis) (s : Shared). script bs s ev.what) k.basis_is k.shared_is) en

    store_is : b'.store ≡ after (basis o) served
    store_is = taken.stored ∙ ap (λ (bs : Basis). after bs served) k.basis_is

    abbrev after_event : Board
    after_event = record {
      notes = with_entry b.notes entry served.birth;
      seats = b'.seats;
      store = after (basis o) served;
      next = b.next + 1;
      last = b.last;
      work = b.work + 100;
      instructions = b.instructions;
    }

    event_is : b' ≡ after_event
    event_is = λ i. record { notes = taken.noted i; seats = b'.seats; store = store_is i; next = taken.next_is i; last = taken.last_is i; work = taken.work_is i; instructions = taken.instructions_are i }

    event_grows : Grows (basis o) c.shared.roster.tasks served.shared.roster.tasks served.birth
    event_grows = laws.script_grows (basis o) c.shared ev.what keeps

    event_clock : served.shared.clock ≡ b.store.shared.clock + gained ev.what
    event_clock = script_clock (basis o) c.shared ev.what ∙ ap (λ (s : Shared). s.clock + gained ev.what) (sym k.shared_is)

    event_sums : sum (ticks_with b.notes.ticks served.birth) + 0 ≡ sum b.notes.ticks
    event_sums = omega (arith, sum_with b.notes.ticks served.birth)

    event_kept : b.work + 100 ≤ limits.budget → IsKept o code limits after_event
    event_kept within = record {
      has_code = k.has_code;
      script = k.script;
      basis_is = refl;
      shared_is = sym (ap (λ (x : Common). x.shared) (common_snoc o h entry));
      left_is = drop_next b.next o.events ∙ ap behind_front k.left_is ∙ sym (ap (λ (x : Common). x.left) (common_snoc o h entry));
      serving = laws.script_keeps (basis o) c.shared ev.what keeps;
      seated = seats_event code k.has_code.is_code k.has_code.program.verified o (layout_is o code k.has_code) h keeps ev served.reply b.notes.ticks b.seats b'.seats seated taken.settled;
      born = births_snoc o code (layout_is o code k.has_code) h entry c.shared.roster.tasks served.shared.roster.tasks event_grows k.born;
      functions_are = functions_after o c.shared.roster.tasks served.shared.roster.tasks served.birth b.notes.functions event_grows (k.functions_are ∙ ap (λ (s : Shared). functions s.roster.tasks) k.shared_is);
      named = named_after o code (layout_is o code k.has_code) c.shared.roster.tasks served.shared.roster.tasks served.birth b.notes.functions event_grows k.named;
      work_is = omega (arith, k.work_is, work_snoc h entry b.notes.ticks (ticks_with b.notes.ticks served.birth) 0 event_sums);
      within = within;
      room = k.room;
      few = still_few o c.shared.roster.tasks served.shared.roster.tasks served.birth event_grows (subst (λ (s : Shared). length s.roster.tasks ≤ MOST_TASKS) k.shared_is k.few);
      early = omega (arith, event_clock, k.early, gain);
      counted = counts_event code o h ev served.reply b.instructions k.counted;
    }

    -- behind an event
    pub keeps_event : b.work + 100 ≤ limits.budget → IsKept o code limits b'
    keeps_event within = subst (λ (x : Board). IsKept o code limits x) (sym event_is) (event_kept within)
