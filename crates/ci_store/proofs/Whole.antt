-- From the parts to the store.
use Rattle.std.proofs.Common.{◌≡◌, ◌≤◌, ◌<◌, ◌^◌, ◌+◌, ℕ, zero, suc, ℤ, pos, Bool, cond, List, [], ◌∷◌, length, map, Option, Some, None, refl, sym, ap, ap₂, ◌∙◌, subst, arith, length-append}
use Rattle.std.specs.Prelude.{nat_le, option_map, slice_get}
use Rattle.std.specs.List.{All}
use Rattle.std.proofs.lemmas.Bool.{or_parts, leb-false}
use Rattle.std.proofs.lemmas.List.{length-map}
use Rattle.std.proofs.lemmas.List.Elements.{All-head, All-tail}
use Rattle.ci_base.specs.declared.bounds.TheConstants.{MOST_LIVE_TASKS, MOST_TASKS}
use Rattle.ci_base.specs.declared.event.EventKind.{EventKind}
use Rattle.ci_base.specs.declared.event.EventReply.{EventReply}
use Rattle.ci_base.specs.declared.layout.CellHead.{CellHead}
use Rattle.ci_base.specs.declared.layout.Global.{Global}
use Rattle.ci_base.specs.declared.layout.Layout.{Layout}
use Rattle.ci_base.specs.declared.place.Place.{Place}
use Rattle.ci_base.specs.declared.place.Status.{Status}
use Rattle.ci_base.specs.declared.place.Status.TheVariants as statuses
use Rattle.ci_base.specs.declared.reply.Answer.{Answer}
use Rattle.ci_base.specs.declared.reply.Reply.{Reply}
use Rattle.ci_base.specs.declared.reply.Reply.TheVariants as replies
use Rattle.ci_base.specs.declared.request.Request.{Request}
use Rattle.ci_base.specs.declared.task.Birth.{Birth}
use Rattle.ci_base.specs.declared.task.Delivery.{Delivery}
use Rattle.ci_base.specs.declared.value.Kind.{Kind}
use Rattle.ci_base.specs.declared.value.Value.{Value}
use Rattle.ci_base.specs.Values.{kind_of}
use Rattle.ci_shared.proofs.Clocks.{ask_clock, script_clock}
use Rattle.ci_shared.proofs.Numbering.{ask_numbers, opening_numbers, script_numbers}
use Rattle.ci_shared.proofs.Proved.{ask_grows, ask_keeps, opening_keeps, script_grows, script_keeps}
use Rattle.ci_shared.specs.declared.object.Section.{Section}
use Rattle.ci_shared.specs.declared.object.Semaphore.{Semaphore}
use Rattle.ci_shared.specs.declared.waiter.Waiter.{Waiter}
use Rattle.ci_shared.specs.Laws.{Grows, IsFormed, IsNumbered, Keeps, gained, opening}
use Rattle.ci_shared.specs.Queues.{Queue}
use Rattle.ci_shared.specs.Roster as roster
use Rattle.ci_shared.specs.Roster.{Roster, Standing, Task, count_live, is_full, seats, standing_in, status_of}
use Rattle.ci_shared.specs.Serving.{apply, script}
use Rattle.ci_shared.specs.Started.{Basis, basis_of, fresh}
use Rattle.ci_shared.specs.State.{Served, Shared, as_reply}
use Rattle.ci_tasktab.proofs.Living.{length_is}
use Rattle.ci_tasktab.specs.Births.{IsWithin}
use Rattle.ci_tasktab.specs.declared.slot.Slot.{Slot}
use Rattle.ci_tasktab.specs.Slots.{is_live, live_from, live_in, slot_at, standing_of, status_at, tasks_from, tasks_in}
use Rattle.ci_store.proofs.Placed.{standing_is}
use Rattle.ci_store.specs.declared.parts.Parts.{Parts}
use Rattle.ci_store.specs.Done.{CanAsk, Does, Happens, IsClear, Serves}
use Rattle.ci_store.specs.Stored.{IsSound, IsUsable, after, basis_in, live_tasks, mark_at, roster_of, shared_of, stored}

-- an answer is a reply
pub does_serves : (x : Served EventReply) (a : Answer) (p new : Parts) → Does x a p new → Serves (as_reply x) (replies.Answer a) p new
does_serves x a p new d = record {
  reply_is = ap (λ (b : Answer). replies.Answer b) d.answer_is;
  leaves = record { shared = d.leaves.shared; deliveries = d.leaves.deliveries; birth = d.leaves.birth; layout = d.leaves.layout };
}

-- the answer and the parts are those of the case that it was
pub told_so : {x : Served Reply} {p new new' : Parts} {a a' : Answer} → new' ≡ new → a' ≡ a → Serves x (replies.Answer a) p new → Serves x (replies.Answer a') p new'
told_so {x = x} {p = p} {new = new} {a' = a'} parts_is answer_is s =
    subst (λ (n : Parts). Serves x (replies.Answer a') p n) (sym parts_is) (subst (λ (b : Answer). Serves x (replies.Answer b) p new) (sym answer_is) s)

-- the request, and the event, that it is
pub asked_so : (p new : Parts) (u : ℕ) (q q' : Request) (r : Reply) → q' ≡ q → Serves (apply (basis_in p) (shared_of p) u q) r p new → Serves (apply (basis_in p) (shared_of p) u q') r p new
asked_so p new u q q' r e s = subst (λ (x : Request). Serves (apply (basis_in p) (shared_of p) u x) r p new) (sym e) s

pub happened_so : (p new : Parts) (q q' : EventKind) (a : Answer) → q' ≡ q → Does (script (basis_in p) (shared_of p) q) a p new → Does (script (basis_in p) (shared_of p) q') a p new
happened_so p new q q' a e s = subst (λ (x : EventKind). Does (script (basis_in p) (shared_of p) x) a p new) (sym e) s

-- nobody is answered yet
pub cleared : (p : Parts) (w : List Delivery) → IsSound p → w ≡ [] → IsClear (record p { woken = w; birth = None })
cleared p w k e = record {
  sound = record { keeps = k.keeps; numbered = k.numbered; within = k.within; cells = k.cells; many = k.many; early = k.early };
  deliveries = e;
  birth = refl;
}

-- the tasks stay as many as there may be
grown : (b : Basis) (old new : List Task) (birth : Option Birth) → Grows b old new birth → length old ≤ MOST_TASKS → length new ≤ MOST_TASKS
grown b old new None g l =
    let same : length new ≡ length old = sym (length-map new (λ (x : Task). x.function)) ∙ ap (λ (fs : List ℕ). length fs) g ∙ length-map old (λ (x : Task). x.function) in
    omega (arith, same, l)
grown b old new (Some birth) g l =
    let room : length old < MOST_TASKS = leb-false MOST_TASKS (length old) (or_parts (nat_le MOST_LIVE_TASKS (count_live old)) (nat_le MOST_TASKS (length old)) g.3).1 in
    let long : length new ≡ length old + 1 = ap (λ (ts : List Task). length ts) g.0 ∙ length-append old (fresh birth.function ∷ []) in
    omega (arith, room, long)

module _ {R : Type 0} (p new : Parts) (k : IsSound p) (x : Served R) (layout : new.layout ≡ p.layout) (shared : shared_of new ≡ x.shared) (deliveries : new.woken ≡ x.deliveries) (birth : new.birth ≡ x.birth)
    (keeps : Keeps (basis_in p) x.shared) (numbers : IsNumbered x.shared) (grows : Grows (basis_in p) (roster_of p).tasks x.shared.roster.tasks x.birth) (early : x.shared.clock < 2 ^ 62) where
  same_kinds : map kind_of new.vars ≡ map kind_of p.vars
  same_kinds = ap (λ (s : Shared). map kind_of s.cells) shared ∙ keeps.kinds

  same_basis : basis_in new ≡ basis_in p
  same_basis = ap₂ (λ (l : Layout) (ks : List Kind). record { functions = l.functions; globals = l.globals; kinds = ks }) layout same_kinds

  same_long : length new.vars ≡ length p.vars
  same_long = sym (length-map new.vars kind_of) ∙ ap (λ (ks : List Kind). length ks) same_kinds ∙ length-map p.vars kind_of

  pub sound : IsSound new
  sound = record {
    keeps = subst (λ (b : Basis). Keeps b (shared_of new)) (sym same_basis) (subst (λ (s : Shared). Keeps (basis_in p) s) (sym shared) keeps);
    numbered = subst (λ (s : Shared). IsNumbered s) (sym shared) numbers;
    within = subst (λ (l : Layout). IsWithin l.functions) (sym layout) k.within;
    cells = subst (λ (l : Layout). All (λ (g : Global). g.cell < length new.vars) l.globals) (sym layout) (subst (λ (n : ℕ). All (λ (g : Global). g.cell < n) p.layout.globals) (sym same_long) k.cells);
    many =
        (let old : length (tasks_in p.lines p.tasks) ≤ MOST_TASKS = subst (λ (n : ℕ). n ≤ MOST_TASKS) (sym (length_is p.lines p.tasks)) k.many in
        let now : length x.shared.roster.tasks ≤ MOST_TASKS = grown (basis_in p) (roster_of p).tasks x.shared.roster.tasks x.birth grows old in
        subst (λ (n : ℕ). n ≤ MOST_TASKS) (ap (λ (s : Shared). length s.roster.tasks) (sym shared) ∙ length_is new.lines new.tasks) now);
    early = subst (λ (s : Shared). s.clock < 2 ^ 62) (sym shared) early;
  }

  pub stored_is : stored new ≡ after (basis_in p) x
  stored_is =
      ap₂ (λ (b : Basis) (s : Shared). record { basis = b; shared = s; deliveries = new.woken; birth = new.birth }) same_basis shared
      ∙ ap₂ (λ (ds : List Delivery) (o : Option Birth). record { basis = basis_in p; shared = x.shared; deliveries = ds; birth = o }) deliveries birth

module _ (p new : Parts) (k : IsSound p) (u : ℕ) (q : Request) (ready : CanAsk p u) (formed : IsFormed (basis_in p) q) (w : List Delivery) (r : Reply) (s : Serves (apply (basis_in p) (shared_of p) u q) r (record p { woken = w; birth = None }) new) where
  early_ask : (apply (basis_in p) (shared_of p) u q).shared.clock < 2 ^ 62
  early_ask = subst (λ (n : ℕ). n < 2 ^ 62) (sym (ask_clock (basis_in p) (shared_of p) u q)) k.early

  pub serve_sound : IsSound new
  serve_sound = sound p new k (apply (basis_in p) (shared_of p) u q) s.leaves.layout s.leaves.shared s.leaves.deliveries s.leaves.birth (ask_keeps (basis_in p) (shared_of p) u q k.keeps formed ready) (ask_numbers (basis_in p) (shared_of p) u q k.numbered) (ask_grows (basis_in p) (shared_of p) u q k.keeps ready) early_ask

  pub serve_stored : stored new ≡ after (basis_in p) (apply (basis_in p) (shared_of p) u q)
  serve_stored = stored_is p new k (apply (basis_in p) (shared_of p) u q) s.leaves.layout s.leaves.shared s.leaves.deliveries s.leaves.birth (ask_keeps (basis_in p) (shared_of p) u q k.keeps formed ready) (ask_numbers (basis_in p) (shared_of p) u q k.numbered) (ask_grows (basis_in p) (shared_of p) u q k.keeps ready) early_ask

module _ (p new : Parts) (k : IsSound p) (e : EventKind) (before : p.clock + gained e < 2 ^ 62) (w : List Delivery) (r : EventReply) (s : Happens (script (basis_in p) (shared_of p) e) r (record p { woken = w; birth = None }) new) where
  early_script : (script (basis_in p) (shared_of p) e).shared.clock < 2 ^ 62
  early_script = subst (λ (n : ℕ). n < 2 ^ 62) (sym (script_clock (basis_in p) (shared_of p) e)) before

  pub event_sound : IsSound new
  event_sound = sound p new k (script (basis_in p) (shared_of p) e) s.leaves.layout s.leaves.shared s.leaves.deliveries s.leaves.birth (script_keeps (basis_in p) (shared_of p) e k.keeps) (script_numbers (basis_in p) (shared_of p) e k.numbered) (script_grows (basis_in p) (shared_of p) e k.keeps) early_script

  pub event_stored : stored new ≡ after (basis_in p) (script (basis_in p) (shared_of p) e)
  event_stored = stored_is p new k (script (basis_in p) (shared_of p) e) s.leaves.layout s.leaves.shared s.leaves.deliveries s.leaves.birth (script_keeps (basis_in p) (shared_of p) e k.keeps) (script_numbers (basis_in p) (shared_of p) e k.numbered) (script_grows (basis_in p) (shared_of p) e k.keeps) early_script

-- at the beginning
first_kinds : (cells : List CellHead) → All (λ (c : CellHead). kind_of c.first ≡ c.kind) cells → map kind_of (map (λ (c : CellHead). c.first) cells) ≡ map (λ (c : CellHead). c.kind) cells
first_kinds [] h = refl
first_kinds (c ∷ cells) h = ap₂ (λ (k : Kind) (ks : List Kind). k ∷ ks) (All-head (λ (x : CellHead). kind_of x.first ≡ x.kind) c cells h) (first_kinds cells (All-tail (λ (x : CellHead). kind_of x.first ≡ x.kind) c cells h))

module _ (l : Layout) (usable : IsUsable l) (p : Parts) (layout : p.layout ≡ record { functions = l.functions; cells = []; globals = l.globals }) (vars : p.vars ≡ map (λ (c : CellHead). c.first) l.cells)
    (tasks : p.tasks ≡ []) (lines : p.lines ≡ []) (sems : p.sems ≡ []) (queues : p.queues ≡ []) (sections : p.sections ≡ []) (clock : p.clock ≡ 0) (next : p.next ≡ pos 1) where
  abbrev cells : List Value
  cells = map (λ (c : CellHead). c.first) l.cells

  start_shared : shared_of p ≡ opening cells
  start_shared =
      ap₂ (λ (xs : List Slot) (ws : List Waiter). record (shared_of p) { roster = record { tasks = tasks_in ws xs; waiting = ws } }) tasks lines
      ∙ ap₂ (λ (vs : List Value) (ss : List Semaphore). record (shared_of p) { roster = record { tasks = []; waiting = [] }; cells = vs; semaphores = ss }) vars sems
      ∙ ap₂ (λ (qs : List Queue) (cs : List Section). record (shared_of p) { roster = record { tasks = []; waiting = [] }; cells = cells; semaphores = []; queues = qs; sections = cs }) queues sections
      ∙ ap₂ (λ (n : ℕ) (z : ℤ). record (opening cells) { clock = n; next = z }) clock next

  start_kinds : map kind_of p.vars ≡ (basis_of l).kinds
  start_kinds = ap (λ (vs : List Value). map kind_of vs) vars ∙ first_kinds l.cells usable.kinds

  start_basis : basis_in p ≡ basis_of l
  start_basis = ap₂ (λ (y : Layout) (ks : List Kind). record { functions = y.functions; globals = y.globals; kinds = ks }) layout start_kinds

  start_long : length p.vars ≡ length l.cells
  start_long = ap (λ (vs : List Value). length vs) vars ∙ length-map l.cells (λ (c : CellHead). c.first)

  pub start_sound : IsSound p
  start_sound = record {
    keeps =
        subst (λ (b : Basis). Keeps b (shared_of p)) (sym start_basis) (subst (λ (s : Shared). Keeps (basis_of l) s) (sym start_shared) (opening_keeps (basis_of l) cells (first_kinds l.cells usable.kinds)));
    numbered = subst (λ (s : Shared). IsNumbered s) (sym start_shared) (opening_numbers cells);
    within = subst (λ (y : Layout). IsWithin y.functions) (sym layout) usable.within;
    cells = subst (λ (y : Layout). All (λ (g : Global). g.cell < length p.vars) y.globals) (sym layout) (subst (λ (n : ℕ). All (λ (g : Global). g.cell < n) l.globals) (sym start_long) usable.cells);
    many = (let none : length p.tasks ≡ 0 = ap (λ (xs : List Slot). length xs) tasks in omega (arith, none));
    early = (let none : p.clock ≡ 0 = clock in subst (λ (n : ℕ). n < 2 ^ 62) (sym none) (omega arith));
  }

  pub start_stored : p.woken ≡ [] → p.birth ≡ None → stored p ≡ record { basis = basis_of l; shared = opening cells; deliveries = []; birth = None }
  start_stored w b =
      ap₂ (λ (y : Basis) (s : Shared). record { basis = y; shared = s; deliveries = p.woken; birth = p.birth }) start_basis start_shared
      ∙ ap₂ (λ (ds : List Delivery) (o : Option Birth). record { basis = basis_of l; shared = opening cells; deliveries = ds; birth = o }) w b

-- how tasks stand
same_status : (status : Status) (ps : List Place) → status_of (standing_of status ps) ≡ status
same_status statuses.Ready ps = refl
same_status statuses.Waits [] = refl
same_status statuses.Waits (p ∷ ps) = refl
same_status (statuses.Ended code) ps = refl
same_status statuses.Killed ps = refl

pub status_is : (ws : List Waiter) (xs : List Slot) (t : ℕ) → option_map status_of (standing_in (tasks_in ws xs) t) ≡ status_at xs t
status_is ws xs t = ap (λ (o : Option Standing). option_map status_of o) (standing_is ws xs t) ∙ by (slot_at xs t)
  where
    by : (o : Option Slot) → option_map status_of (option_map (λ (x : Slot). standing_of x.status (seats t ws)) o) ≡ option_map (λ (x : Slot). x.status) o
    by None = refl
    by (Some x) = ap (λ (s : Status). Some s) (same_status x.status (seats t ws))

marks_from : (ws : List Waiter) (n i : ℕ) (xs : List Slot) → option_map (λ (x : Task). x.suspended) (slice_get (tasks_from n ws xs) i) ≡ option_map (λ (x : Slot). x.suspended) (slice_get xs i)
marks_from ws n i [] = refl
marks_from ws n zero (x ∷ xs) = refl
marks_from ws n (suc i) (x ∷ xs) = marks_from ws (suc n) i xs

pub mark_is : (ws : List Waiter) (xs : List Slot) (t : ℕ) → mark_at (tasks_in ws xs) t ≡ option_map (λ (x : Slot). x.suspended) (slot_at xs t)
mark_is ws xs zero = refl
mark_is ws xs (suc i) = marks_from ws 1 i xs

live_same : (status : Status) (ps : List Place) → roster.is_live (standing_of status ps) ≡ is_live status
live_same statuses.Ready ps = refl
live_same statuses.Waits [] = refl
live_same statuses.Waits (p ∷ ps) = refl
live_same (statuses.Ended code) ps = refl
live_same statuses.Killed ps = refl

lives_from : (ws : List Waiter) (n : ℕ) (xs : List Slot) → live_tasks n (tasks_from n ws xs) ≡ live_from n xs
lives_from ws n [] = refl
lives_from ws n (x ∷ xs) = ap₂ (λ (b : Bool) (l : List ℕ). cond b (n ∷ l) l) (live_same x.status (seats n ws)) (lives_from ws (suc n) xs)

pub live_tasks_is : (ws : List Waiter) (xs : List Slot) → live_tasks 1 (tasks_in ws xs) ≡ live_in xs
live_tasks_is ws xs = lives_from ws 1 xs
