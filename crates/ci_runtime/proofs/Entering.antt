-- What a desk has ready for the next entry.
use Rattle.std.proofs.Common.{◌≡◌, ◌<◌, ◌≤◌, ◌+◌, ◌^◌, ℕ, zero, suc, List, [], ◌∷◌, length, drop, Option, None, Some, length-append, slice_get, refl, sym, ap, ◌∙◌, subst, arith}
use Rattle.std.proofs.lemmas.List.{length-map}
use Rattle.ci_base.specs.declared.bounds.TheConstants.{MOST_INSTRUCTIONS}
use Rattle.ci_base.specs.declared.event.Event.{Event}
use Rattle.ci_base.specs.declared.limits.Limits.{Limits}
use Rattle.ci_base.specs.declared.task.Birth.{Birth}
use Rattle.ci_base.specs.declared.request.Request.{Request}
use Rattle.ci_code.specs.declared.raw.RawParts.{RawParts}
use Rattle.ci_runtime.proofs.Born.{can_begin}
use Rattle.ci_runtime.proofs.Counting.{count_most, most_of}
use Rattle.ci_runtime.proofs.Keeping.{layout_is}
use Rattle.ci_runtime.proofs.Seating.{AtRequest}
use Rattle.ci_runtime.proofs.Turning.{Situation, formed_in}
use Rattle.ci_runtime.specs.declared.board.Board.{Board}
use Rattle.ci_runtime.specs.Boards.{Entered}
use Rattle.ci_runtime.specs.Desks.{DeskState, HasRest, IsFrontDue, IsKept, desk_of, left_of, work_of}
use Rattle.ci_runtime.specs.Seats.{CanBegin, Runner, Seat}
use Rattle.ci_shared.proofs.Proved as laws
use Rattle.ci_shared.specs.Laws.{Grows, IsFormed}
use Rattle.ci_shared.specs.Roster.{Task}
use Rattle.ci_shared.specs.Serving.{apply, script}
use Rattle.ci_shared.specs.Started.{Basis, fresh}
use Rattle.ci_shared.specs.State.{Shared}
use Rattle.ci_store.specs.Stored.{Stored}
use Rattle.ci_task.specs.Moved.{instructions_of}
use Rattle.ci_world.proofs.Lists.{one_at}
use Rattle.ci_world.proofs.Working.{work_is}
use Rattle.ci_world.specs.Lists.{at_task}
use Rattle.ci_world.specs.Trails.{common_after}
use Rattle.ci_world.specs.World.{IsDue, Origin, basis}

pub work_grows : (d : DeskState) (o : Origin) (code : RawParts) (limits : Limits) (b b' : Board) → IsKept o code limits b → desk_of o limits b ≡ d → IsKept o code limits b' → b.work < b'.work → work_of d < work_of (desk_of o limits b')
work_grows d o code limits b b' k same k' lt = subst (λ (x : DeskState). work_of x < work_of (desk_of o limits b')) same (omega (arith, lt, k.work_is, k'.work_is))

module _ (o : Origin) (code : RawParts) (limits : Limits) (b : Board) (k : IsKept o code limits b) where
  pub rest_now : (d : DeskState) → desk_of o limits b ≡ d → HasRest d → b.work + 100 < limits.budget
  rest_now d same rest = let r = subst (λ (x : DeskState). HasRest x) (sym same) rest in omega (arith, r, k.work_is)

  pub room_left : b.work + 100 < limits.budget → length b.notes.entries < b.notes.room
  room_left rest = omega (arith, rest, k.work_is, k.room, work_is b.notes.entries b.notes.ticks)

  -- a request
  module _ (u left n j : ℕ) (q : Request) (mid : List Seat) (st : Situation o code limits b u left) (p : AtRequest code o b.notes.entries u (n + j) b.seats mid q) where
    pub ask_formed : IsFormed b.store.basis q
    ask_formed = subst (λ (bs : Basis). IsFormed bs q) (sym k.basis_is) (formed_in o code (layout_is o code k.has_code) q p.made)

    pub ask_begins : CanBegin code (apply b.store.basis b.store.shared u q).birth mid b.notes.ticks
    ask_begins =
        subst (λ (bs : Basis). CanBegin code (apply bs b.store.shared u q).birth mid b.notes.ticks) (sym k.basis_is)
        (can_begin o code k.has_code.is_code (layout_is o code k.has_code) b.notes.entries b.store.shared.roster.tasks (apply (basis o) b.store.shared u q).shared.roster.tasks b.notes.ticks b.seats mid (apply (basis o) b.store.shared u q).birth u
        (laws.ask_grows (basis o) b.store.shared u q k.serving st.ready) k.seated p.changed)

    pub ask_there : (m : Runner) × (at_task mid u ≡ Some (Some m)) × (instructions_of m ≤ MOST_INSTRUCTIONS)
    ask_there = (p.machine, p.there, count_most p.machine)

  pub ask_counted : b.instructions ≤ MOST_INSTRUCTIONS
  ask_counted = most_of code o b.notes.entries b.instructions k.counted

  -- an event
  pub event_begins : (e : Event) → CanBegin code (script b.store.basis b.store.shared e.what).birth b.seats b.notes.ticks
  event_begins e =
      subst (λ (bs : Basis). CanBegin code (script bs b.store.shared e.what).birth b.seats b.notes.ticks) (sym k.basis_is)
      (can_begin o code k.has_code.is_code (layout_is o code k.has_code) b.notes.entries b.store.shared.roster.tasks (script (basis o) b.store.shared e.what).shared.roster.tasks b.notes.ticks b.seats b.seats (script (basis o) b.store.shared e.what).birth 0
      (laws.script_grows (basis o) b.store.shared e.what k.serving) k.seated (record { long = refl; others = λ u n. refl; few = omega arith }))

  pub event_early : (gain : ℕ) → b.next < length o.events → gain < 2 ^ 32 → b.store.shared.clock + gain < 2 ^ 62
  event_early gain lt small = omega (arith, k.early, k.script.few, lt, small)

  pub next_early : b.next < length o.events → b.next + 1 < 2 ^ 64
  next_early lt = omega (arith, k.script.few, lt)

got_drop : (n : ℕ) (xs : List Event) (e : Event) (rest : List Event) → drop n xs ≡ e ∷ rest → (n < length xs) × (slice_get xs n ≡ Some e)
got_drop zero [] e rest h = absurd (cc)
got_drop (suc n) [] e rest h = absurd (cc)
got_drop zero (x ∷ xs) e rest h = let same : x ≡ e = cc h in (omega arith, ap (λ (y : Event). Some y) same)
got_drop (suc n) (x ∷ xs) e rest h = let r = got_drop n xs e rest h in (omega (arith, r.0), r.1)

-- the front event
pub front_there : (d : DeskState) (o : Origin) (code : RawParts) (limits : Limits) (b : Board) → IsKept o code limits b → desk_of o limits b ≡ d → (f : IsFrontDue d) → (b.next < length o.events) × (slice_get o.events b.next ≡ Some f.event)
front_there d o code limits b k same f = got_drop b.next o.events f.event f.rest (k.left_is ∙ ap left_of same ∙ f.front)

pub front_due : (d : DeskState) (o : Origin) (code : RawParts) (limits : Limits) (b : Board) (x : Event) (k : IsKept o code limits b) (same : desk_of o limits b ≡ d) (f : IsFrontDue d) → slice_get o.events b.next ≡ Some x → (left_of (desk_of o limits b) ≡ x ∷ f.rest) × IsDue (common_after o b.notes.entries) x
front_due d o code limits b x k same f at =
    let eq : f.event ≡ x = one_at f.event x (slice_get o.events b.next) (front_there d o code limits b k same f).1 at in
    (ap left_of same ∙ f.front ∙ ap (λ (y : Event). y ∷ f.rest) eq, subst (λ (y : DeskState). IsDue (common_after y.origin y.history) x) (sym same) (subst (λ (y : Event). IsDue (common_after d.origin d.history) y) eq f.due))

-- a task that was started stays in the table
grows_longer : (o : Origin) (old new : List Task) (birth : Option Birth) → Grows (basis o) old new birth → length old ≤ length new
grows_longer o old new None g = omega (arith, sym (length-map old (λ (x : Task). x.function)) ∙ ap (λ (l : List ℕ). length l) (sym g) ∙ length-map new (λ (x : Task). x.function))
grows_longer o old new (Some b) g = omega (arith, ap (λ (l : List Task). length l) g.0, length-append old (fresh b.function ∷ []))

pub tasks_stay : (o : Origin) (code : RawParts) (limits : Limits) (b b' : Board) (u left : ℕ) {used j : ℕ} {q : Request} {mid : List Seat} → IsKept o code limits b → IsKept o code limits b' → Situation o code limits b u left → Entered code u used j q (apply b.store.basis b.store.shared u q) (record b { seats = mid }) b' → u ≤ length b'.store.shared.roster.tasks
tasks_stay o code limits b b' u left {used} {j} {q} {mid} k k' st en =
    let eq : b'.store.shared ≡ (apply (basis o) b.store.shared u q).shared = ap (λ (x : Stored). x.shared) en.stored ∙ ap (λ (bs : Basis). (apply bs b.store.shared u q).shared) k.basis_is in
    let le = grows_longer o b.store.shared.roster.tasks (apply (basis o) b.store.shared u q).shared.roster.tasks (apply (basis o) b.store.shared u q).birth (laws.ask_grows (basis o) b.store.shared u q k.serving st.ready) in
    omega (arith, le, ap (λ (x : Shared). length x.roster.tasks) eq, st.most, k.seated.many_ticks)
