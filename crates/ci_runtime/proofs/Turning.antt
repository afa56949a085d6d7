-- Requests, events, turns and rounds of the round-robin run, as the desk makes them.
use Rattle.std.proofs.Common.{◌≡◌, ◌<◌, ◌≤◌, ◌+◌, ◌-◌, ◌&&◌, ℕ, zero, suc, Bool, true, false, cond, List, length, map, Option, Some, None, refl, sym, ap, ap₂, ◌∙◌, subst, arith, inl, inr, min, sum, ltb-true}
use Rattle.std.specs.Prelude.{IfSome, nat_lt, not, option_map, slice_get, if◌then◌else◌}
use Rattle.std.proofs.lemmas.List.{length-map}
use Rattle.std.specs.Option.{option_map_or}
use Rattle.ci_base.specs.declared.entry.Entry.{Entry}
use Rattle.ci_base.specs.declared.entry.Entry.TheVariants as entries
use Rattle.ci_base.specs.declared.limits.Limits.{Limits}
use Rattle.ci_base.specs.declared.layout.CellHead.{CellHead}
use Rattle.ci_base.specs.declared.layout.Layout.{Layout}
use Rattle.ci_base.specs.declared.reply.Reply.{Reply}
use Rattle.ci_base.specs.declared.reply.Reply.TheVariants as replies
use Rattle.ci_base.specs.declared.request.Request.{Request}
use Rattle.ci_base.specs.declared.request.Request.TheVariants as requests
use Rattle.ci_base.specs.declared.value.Kind.{Kind}
use Rattle.ci_base.specs.Steps.{asks, quiet, stuck, tick}
use Rattle.ci_code.specs.declared.raw.RawParts.{RawParts}
use Rattle.ci_code.specs.Machine.{next}
use Rattle.ci_code.specs.Moves.{Move}
use Rattle.ci_meaning.specs.Configuration.{Configuration}
use Rattle.ci_meaning.specs.Meaning as tree
use Rattle.ci_runtime.proofs.Back.{code_leads_tree}
use Rattle.ci_runtime.proofs.Counting.{along_of}
use Rattle.ci_runtime.proofs.Keeping.{layout_is}
use Rattle.ci_runtime.proofs.Seating.{AtRequest}
use Rattle.ci_runtime.specs.declared.board.Board.{Board}
use Rattle.ci_runtime.specs.Boards.{Entered}
use Rattle.ci_runtime.specs.Desks.{CanGoOn, DeskState, Does, DoesFrom, Is, IsKept, desk_of}
use Rattle.ci_runtime.specs.Laws.{DoesTheSame}
use Rattle.ci_runtime.specs.Notes.{Noted, with_ticks}
use Rattle.ci_runtime.specs.Seats.{Runner, Seat, Changed, RanAt}
use Rattle.ci_shared.proofs.Proved as laws
use Rattle.ci_shared.specs.Laws.{IsFormed, Keeps, Own}
use Rattle.ci_shared.specs.Roster.{Ready, Standing, Task, standing_at}
use Rattle.ci_shared.specs.Serving.{apply}
use Rattle.ci_shared.specs.Started.{Basis}
use Rattle.ci_shared.specs.State.{Served, Shared}
use Rattle.ci_store.specs.Stored.{Stored, mark_at}
use Rattle.ci_task.specs.declared.machine.Pause.{Pause}
use Rattle.ci_task.specs.declared.machine.Pause.TheVariants as pauses
use Rattle.ci_task.specs.Moved.{IsMade, Paused, cell_kinds, machine_of, moved}
use Rattle.ci_task.specs.Running as running
use Rattle.ci_tree.specs.Layouts.{layout_of}
use Rattle.ci_world.proofs.Follow.{follows_run}
use Rattle.ci_world.proofs.Lists.{at_there, one_at, standing_within}
use Rattle.ci_world.proofs.Sound.{run_snoc}
use Rattle.ci_world.proofs.Tasks.{can_ready, ready_can}
use Rattle.ci_world.proofs.Working.{sum_set, work_is}
use Rattle.ci_world.specs.Lists.{at_task, set_task}
use Rattle.ci_world.specs.Serial.{IsTick, Progress, Requests, RunsOut, Ticks, goes_on, granted, is_answer, is_suspended, rest_of, served_at, ticked}
use Rattle.ci_world.specs.Tasks.{CanStep}
use Rattle.ci_world.specs.Trails.{common_after, trail}
use Rattle.ci_world.specs.Work.{loose_of, work}
use Rattle.ci_world.specs.World.{Common, Origin, World, Run, basis, opening_world}

-- the run whose state is that of a desk, in a world
abbrev progress_in : DeskState → World → Progress
progress_in d w = record { world = w; history = d.history; ticks = d.ticks; last = d.last }

progress_same : (d : DeskState) (s : Progress) → Is d s → progress_in d s.world ≡ s
progress_same d s is = λ i. record { world = s.world; history = sym is.history i; ticks = sym is.ticks i; last = sym is.last i }

-- what holds of each run in the desk's state holds of the one at hand
pub in_progress : (d : DeskState) (P : Progress → Type 0) → ((w : World) → Run d.origin d.history w → P (progress_in d w)) → (s : Progress) → Is d s → P s
in_progress d P f s is = subst P (progress_same d s is) (f s.world (subst (λ (l : List Entry). Run d.origin l s.world) is.history is.run))

-- the shared state of a run is the one found along its history
pub common_in : (o : Origin) (h : List Entry) (w : World) → Run o h w → w.common ≡ common_after o h
common_in o h w run = (follows_run o h w run).common

is_tick : (m : Move) → running.IsTick m → IsTick m
is_tick (tick m) t = t
is_tick (quiet m) t = absurd t
is_tick (asks q) t = absurd t
is_tick stuck t = absurd t

at_le_sum : (xs : List ℕ) (t k : ℕ) → at_task xs t ≡ Some k → k ≤ sum xs
at_le_sum xs t k e = let x = sum_set xs t k 0 e in omega (arith, x)

-- the task that has the turn: its machine is in its seat, moved by its ticks
pub record Situation (o : Origin) (code : RawParts) (limits : Limits) (b : Board) (u left : ℕ) : Type 0 where
  pub least : 1 ≤ u
  pub most : u ≤ length b.notes.ticks
  pub can : CanStep b.store.shared u
  pub ready : standing_at b.store.shared.roster u ≡ Some Ready
  pub some : 0 < left
  pub rest : b.work + 100 < limits.budget
  pub before : ℕ
  pub before_is : at_task b.notes.ticks u ≡ Some before
  pub bound : before ≤ b.work
  pub machine : Runner
  pub there : at_task b.seats u ≡ Some (Some machine)
  pub along : moved code (trail o u b.notes.entries) before machine

pub situation : (d : DeskState) (o : Origin) (code : RawParts) (limits : Limits) (b : Board) (u left : ℕ) → IsKept o code limits b → desk_of o limits b ≡ d → CanGoOn d u left → Situation o code limits b u left
situation d o code limits b u left k same can0 =
    let can' : CanGoOn (desk_of o limits b) u left = subst (λ (x : DeskState). CanGoOn x u left) (sym same) can0 in
    let can : CanStep b.store.shared u = subst (λ (s : Shared). CanStep s u) (sym k.shared_is) can'.can in
    let ready = can_ready b.store.shared u can in
    let inside = standing_within b.store.shared.roster.tasks u Ready ready in
    let (n, nat) = at_there b.notes.ticks u inside.0 (omega (arith, inside.1, k.seated.many_ticks)) in
    let (seat, sat) = at_there b.seats u inside.0 (omega (arith, inside.1, k.seated.many_seats)) in
    let (m, is, along) = k.seated.each u Ready n seat ready nat sat in
    record {
      least = inside.0;
      most = omega (arith, inside.1, k.seated.many_ticks);
      can = can;
      ready = ready;
      some = can'.some;
      rest = omega (arith, can'.rest, k.work_is);
      before = n;
      before_is = nat;
      bound = omega (arith, at_le_sum b.notes.ticks u n nat, k.work_is, work_is b.notes.entries b.notes.ticks);
      machine = m;
      there = sat ∙ ap (λ (x : Seat). Some x) is;
      along = along;
    }

-- a request is one that the shared state can serve
pub formed_in : (o : Origin) (code : RawParts) → code.layout ≡ layout_of o.project → (q : Request) → IsMade code q → IsFormed (basis o) q
formed_in o code layout (requests.Read cell) made =
    let P : Layout → Type 0 = λ l. (k : Kind) × (slice_get (map (λ (c : CellHead). c.kind) l.cells) cell ≡ Some k) in
    subst P layout (at_there (cell_kinds code) (suc cell) (omega arith) (omega (arith, length-map code.layout.cells (λ (c : CellHead). c.kind), made)))
formed_in o code layout (requests.Write cell v) made = ap (λ (l : Layout). slice_get (map (λ (c : CellHead). c.kind) l.cells) cell) (sym layout) ∙ made
formed_in o code layout q made = tt

module _ (o : Origin) (code : RawParts) (limits : Limits) (b : Board) (u left : ℕ) (st : Situation o code limits b u left) where
  -- the machine came to a request
  pub ran_asks : (n grant j : ℕ) (q : Request) (pause : Pause) (mid : List Seat) → at_task b.notes.ticks u ≡ Some n → RanAt code u grant pause b.seats mid → pause ≡ pauses.Asks q j → (j ≤ grant) × AtRequest code o b.notes.entries u (n + j) b.seats mid q
  unfolding Paused
  ran_asks n grant j q pause mid nat ran is =
      let (m', there, f) = ran.there st.machine st.there in
      let p = subst (λ (x : Pause). Paused code (trail o u b.notes.entries) st.before grant x m') is (f (trail o u b.notes.entries) st.before st.along) in
      let same : st.before ≡ n = one_at st.before n (at_task b.notes.ticks u) st.before_is nat in
      (p.0, record { changed = ran.changed; machine = m'; there = there; along = subst (λ (i : ℕ). moved code (trail o u b.notes.entries) (i + j) m') same p.1; behind = _; told = p.4; stands = p.2; made = p.3 })

-- the machine used its ticks
pub record AtTick (code : RawParts) (o : Origin) (h : List Entry) (u k : ℕ) (old mid : List Seat) : Type 0 where
  pub changed : Changed u old mid
  pub machine : Runner
  pub there : at_task mid u ≡ Some (Some machine)
  pub along : moved code (trail o u h) k machine
  pub ticks : IsTick (next code (machine_of code machine))

module _ (o : Origin) (code : RawParts) (limits : Limits) (b : Board) (u left : ℕ) (st : Situation o code limits b u left) where
  pub ran_out : (n grant j : ℕ) (pause : Pause) (mid : List Seat) → at_task b.notes.ticks u ≡ Some n → RanAt code u grant pause b.seats mid → pause ≡ pauses.OutOfTicks j → (j ≡ grant) × AtTick code o b.notes.entries u (n + j) b.seats mid
  unfolding Paused
  ran_out n grant j pause mid nat ran is =
      let (m', there, f) = ran.there st.machine st.there in
      let p = subst (λ (x : Pause). Paused code (trail o u b.notes.entries) st.before grant x m') is (f (trail o u b.notes.entries) st.before st.along) in
      let same : st.before ≡ n = one_at st.before n (at_task b.notes.ticks u) st.before_is nat in
      (p.0, record { changed = ran.changed; machine = m'; there = there; along = subst (λ (i : ℕ). moved code (trail o u b.notes.entries) (i + j) m') same p.1; ticks = is_tick (next code (machine_of code m')) p.2 })

pub grant_is : (n a b left budget w w' : ℕ) → n ≡ min a (b - w - 100) → a ≡ left → b ≡ budget → w ≡ w' → n ≡ min left (budget - w' - 100)
grant_is n a b left budget w w' e ea eb ew = e ∙ ap (λ (x : ℕ). min x (b - w - 100)) ea ∙ ap (λ (x : ℕ). min left (x - w - 100)) eb ∙ ap (λ (x : ℕ). min left (budget - x - 100)) ew

-- how the grant bounds what is used
pub grant_bound : (n left budget w : ℕ) → n ≡ min left (budget - w - 100) → w + 100 < budget → 0 < left → (n ≤ left) × (w + n + 100 ≤ budget) × (0 < n)
grant_bound n left budget w e lt some = (omega (arith, e), omega (arith, e), omega (arith, e))

-- whether a task is suspended, by its mark
mark_is : (s : Shared) (t : ℕ) (m : Bool) → mark_at s.roster.tasks t ≡ Some m → is_suspended s t ≡ m
mark_is s zero m e = absurd (cc)
mark_is s (suc i) m e = by (slice_get s.roster.tasks i) e
  where
    by : (x : Option Task) → option_map (λ (z : Task). z.suspended) x ≡ Some m → option_map_or (λ (z : Task). z.suspended) x false ≡ m
    by None e = absurd (cc)
    by (Some x) e = cc

-- what the turn does next, by whether it goes on
does_by : (o : Origin) (limits : Limits) (s s' : Progress) (u left left' : ℕ) (reply : Reply) (result : Option ℕ) (g : Bool) → goes_on limits s' u left' reply ≡ g → result ≡ cond g (Some left') None → Requests o limits s u left s' left' reply → Does o limits s u left result s'
does_by o limits s s' u left left' reply result true e is r = subst (λ (x : Option ℕ). Does o limits s u left x s') (sym is) (reply, r, e)
does_by o limits s s' u left left' reply result false e is r = subst (λ (x : Option ℕ). Does o limits s u left x s') (sym is) (inr (left', reply, r, e))

-- whether the turn can go on
can_more : (a b c d : Bool) (left' : ℕ) (result : Option ℕ) (P : ℕ → Type 0) → result ≡ cond (a && not b && c && d) (Some left') None → (a ≡ true → b ≡ false → c ≡ true → d ≡ true → P left') → IfSome result P
can_more true false true true left' result P is f = subst (λ (x : Option ℕ). IfSome x P) (sym is) (f refl refl refl refl)
can_more true false true false left' result P is f = subst (λ (x : Option ℕ). IfSome x P) (sym is) tt
can_more true false false d left' result P is f = subst (λ (x : Option ℕ). IfSome x P) (sym is) tt
can_more true true c d left' result P is f = subst (λ (x : Option ℕ). IfSome x P) (sym is) tt
can_more false b c d left' result P is f = subst (λ (x : Option ℕ). IfSome x P) (sym is) tt

answered_ready : (o : Origin) (q : Request) (r : Reply) (z : Standing) → is_answer r ≡ true → Own (basis o) q r z → z ≡ Ready
answered_ready o q (replies.Answer a) z e own = own.0
answered_ready o q replies.Waits z e own = absurd (cc)
answered_ready o q replies.Ends z e own = absurd (cc)

module _ (o : Origin) (code : RawParts) (limits : Limits) (b : Board) (k : IsKept o code limits b) (u n j left : ℕ) (st : Situation o code limits b u left) (nat : at_task b.notes.ticks u ≡ Some n) where
  module _ (w : World) (run : Run o b.notes.entries w) where
    same_shared : b.store.shared ≡ w.common.shared
    same_shared = k.shared_is ∙ ap (λ (c : Common). c.shared) (sym (common_in o b.notes.entries w run))

    ready_there : standing_at w.common.shared.roster u ≡ Some Ready
    ready_there = subst (λ (s : Shared). standing_at s.roster u ≡ Some Ready) same_shared st.ready

    from_there : (c : Configuration) × (at_task w.configurations u ≡ Some c)
    from_there =
        let inside = standing_within w.common.shared.roster.tasks u Ready ready_there in
        at_there w.configurations u inside.0 (omega (arith, inside.1, (follows_run o b.notes.entries w run).many))

    leads : (i : ℕ) (m : Runner) → moved code (trail o u b.notes.entries) i m → DoesTheSame o code from_there.0 i (machine_of code m)
    leads i m along = code_leads_tree o code b.notes.entries w k.has_code.program.simulates (layout_is o code k.has_code) run u from_there.0 i (machine_of code m) ready_there from_there.1 (along_of code o b.notes.entries u i m k.born along)

    pub is_out : (m : Runner) → moved code (trail o u b.notes.entries) (n + j) m → IsTick (next code (machine_of code m)) → j ≡ granted limits (progress_in (desk_of o limits b) w) left → (b' : Board) → b'.notes ≡ with_ticks b.notes u (n + j) → b'.last ≡ b.last →
        (s' : Progress) × RunsOut o limits (progress_in (desk_of o limits b) w) u left s' × Is (desk_of o limits b') s'
    is_out m along comes j_is b' notes_is last_is =
        let g = granted limits (progress_in (desk_of o limits b) w) left in (
          ticked (progress_in (desk_of o limits b) w) u (n + g),
          record { from = from_there.0; from_is = from_there.1; before = n; before_is = nat; ticks = subst (λ (i : ℕ). Ticks (tree.next o.project) from_there.0 (n + i)) j_is ((leads (n + j) m along).ticks comes); next_is = refl },
          record { run = run; history = sym (ap (λ (x : Noted). x.entries) notes_is); ticks = ap (λ (i : ℕ). set_task b.notes.ticks u (n + i)) (sym j_is) ∙ sym (ap (λ (x : Noted). x.ticks) notes_is); last = sym last_is },
        )

    module _ (q : Request) (mid : List Seat) (b' : Board) (p : AtRequest code o b.notes.entries u (n + j) b.seats mid q) (en : Entered code u (n + j) j q (apply b.store.basis b.store.shared u q) (record b { seats = mid }) b') where
      same_served : apply b.store.basis b.store.shared u q ≡ apply (basis o) w.common.shared u q
      same_served = ap₂ (λ (bs : Basis) (s : Shared). apply bs s u q) k.basis_is same_shared

      en' : Entered code u (n + j) j q (apply (basis o) w.common.shared u q) (record b { seats = mid }) b'
      en' = subst (λ (x : Served Reply). Entered code u (n + j) j q x (record b { seats = mid }) b') same_served en

      pub is_ask : j ≤ granted limits (progress_in (desk_of o limits b) w) left →
          (s' : Progress) × Requests o limits (progress_in (desk_of o limits b) w) u left s' (left - j) (apply b.store.basis b.store.shared u q).reply × Is (desk_of o limits b') s' × (b'.store.shared ≡ s'.world.common.shared)
      is_ask within =
          let (at, stands) = (leads (n + j) p.machine p.along).requests q p.stands in
          let y = apply (basis o) w.common.shared u q in
          let s' = served_at o (progress_in (desk_of o limits b) w) u (n + j) q at in
          let can : CanStep w.common.shared u = subst (λ (s : Shared). CanStep s u) same_shared st.can in (
            s',
            record { from = from_there.0; from_is = from_there.1; before = n; before_is = nat; more = j; within = within; request = q; at = at; stands = stands; reply_is = ap (λ (x : Served Reply). x.reply) same_served; next_is = refl; left_is = refl },
            record {
              run = run_snoc o (opening_world o) w s'.world b.notes.entries (entries.Ask u (n + j) q y.reply) run (record { ready = can; from = from_there.0; from_is = from_there.1; at = at; stands = stands; reply_is = refl; new_is = refl });
              history = sym (ap (λ (x : Noted). x.entries) en'.noted);
              ticks = sym (ap (λ (x : Noted). x.ticks) en'.noted);
              last = sym en'.last_is;
            },
            ap (λ (x : Stored). x.shared) en'.stored,
          )

  -- the ticks of the turn are used
  pub does_out : (d : DeskState) → desk_of o limits b ≡ d → (mid : List Seat) (b' : Board) → b'.notes ≡ with_ticks b.notes u (n + j) → b'.last ≡ b.last → AtTick code o b.notes.entries u (n + j) b.seats mid → j ≡ min left (limits.budget - b.work - 100) → DoesFrom d u left None (desk_of o limits b')
  does_out d same mid b' notes_is last_is at j_is =
      subst (λ (x : DeskState). DoesFrom x u left None (desk_of o limits b')) same
      (in_progress (desk_of o limits b) (λ s. (s' : Progress) × Does o limits s u left None s' × Is (desk_of o limits b') s')
      (λ w run. let (s', out, is) = is_out w run at.machine at.along at.ticks (grant_is j left limits.budget left limits.budget b.work (work b.notes.entries (loose_of b.notes.ticks)) j_is refl refl k.work_is) b' notes_is last_is in (s', inl out, is)))

  pub bound_of : n ≤ b.work
  bound_of = let same : n ≡ st.before = one_at n st.before (at_task b.notes.ticks u) nat st.before_is in omega (arith, same, st.bound)

  module _ (q : Request) (mid : List Seat) (b' : Board) (p : AtRequest code o b.notes.entries u (n + j) b.seats mid q) (en : Entered code u (n + j) j q (apply b.store.basis b.store.shared u q) (record b { seats = mid }) b')
      (k' : IsKept o code limits b') (answered suspended : Bool) (rest : ℕ) (result : Option ℕ) (answered_is : answered ≡ is_answer (apply b.store.basis b.store.shared u q).reply) (suspended_is : mark_at b'.store.shared.roster.tasks u ≡ Some suspended)
      (rest_is : rest ≡ limits.budget - b'.work) (result_is : result ≡ (if answered && not suspended && nat_lt 0 (left - j) && nat_lt 100 rest then Some (left - j) else None)) where
    abbrev reply : Reply
    reply = (apply b.store.basis b.store.shared u q).reply

    pub does_ask : (d : DeskState) → desk_of o limits b ≡ d → j ≤ min left (limits.budget - b.work - 100) → DoesFrom d u left result (desk_of o limits b')
    does_ask d same within =
        subst (λ (x : DeskState). DoesFrom x u left result (desk_of o limits b')) same
        (in_progress (desk_of o limits b) (λ s. (s' : Progress) × Does o limits s u left result s' × Is (desk_of o limits b') s')
        (λ w run.
        let within' : j ≤ granted limits (progress_in (desk_of o limits b) w) left = subst (λ (x : ℕ). j ≤ x) (grant_is (min left (limits.budget - b.work - 100)) left limits.budget left limits.budget b.work (work b.notes.entries (loose_of b.notes.ticks)) refl refl refl k.work_is) within in
        let (s', r, is, shared_is) = is_ask w run q mid b' p en within' in
        let rest' : rest ≡ rest_of limits s' = rest_is ∙ ap (λ (x : ℕ). limits.budget - x) k'.work_is ∙ ap₂ (λ (x : List Entry) (y : List ℕ). limits.budget - work x (loose_of y)) (sym is.history) (sym is.ticks) in
        let mark : suspended ≡ is_suspended s'.world.common.shared u = sym (mark_is b'.store.shared u suspended suspended_is) ∙ ap (λ (x : Shared). is_suspended x u) shared_is in
        let eq : result ≡ cond (goes_on limits s' u (left - j) reply) (Some (left - j)) None =
        result_is ∙ ap (λ (x : Bool). cond (x && not suspended && nat_lt 0 (left - j) && nat_lt 100 rest) (Some (left - j)) None) answered_is
        ∙ ap (λ (x : Bool). cond (is_answer reply && not x && nat_lt 0 (left - j) && nat_lt 100 rest) (Some (left - j)) None) mark
        ∙ ap (λ (x : ℕ). cond (is_answer reply && not (is_suspended s'.world.common.shared u) && nat_lt 0 (left - j) && nat_lt 100 x) (Some (left - j)) None) rest' in
        (s', does_by o limits (progress_in (desk_of o limits b) w) s' u left (left - j) reply result (goes_on limits s' u (left - j) reply) refl eq r, is)))

    pub more_ask : IfSome result (λ r. CanGoOn (desk_of o limits b') u r)
    more_ask = can_more answered suspended (nat_lt 0 (left - j)) (nat_lt 100 rest) (left - j) result (λ r. CanGoOn (desk_of o limits b') u r) result_is
        (λ ans awake some more.
        let keeps : Keeps (basis o) b.store.shared = k.serving in
        let (z, zat, own, none) = laws.own_ask (basis o) b.store.shared u q keeps (formed_in o code (layout_is o code k.has_code) q p.made) st.ready in
        let same_y : apply b.store.basis b.store.shared u q ≡ apply (basis o) b.store.shared u q = ap (λ (bs : Basis). apply bs b.store.shared u q) k.basis_is in
        let is_ready : z ≡ Ready = answered_ready o q (apply (basis o) b.store.shared u q).reply z (ap (λ (x : Served Reply). is_answer x.reply) (sym same_y) ∙ sym answered_is ∙ ans) own in
        let shared_is : b'.store.shared ≡ (apply (basis o) b.store.shared u q).shared = ap (λ (x : Stored). x.shared) en.stored ∙ ap (λ (x : Served Reply). x.shared) same_y in
        let ready' : standing_at b'.store.shared.roster u ≡ Some Ready = ap (λ (x : Shared). standing_at x.roster u) shared_is ∙ zat ∙ ap (λ (x : Standing). Some x) is_ready in
        let can : CanStep b'.store.shared u = ready_can b'.store.shared u ready' (mark_is b'.store.shared u suspended suspended_is ∙ awake) in
        let l = ltb-true 100 rest more in
        record { can = subst (λ (x : Shared). CanStep x u) k'.shared_is can; some = ltb-true 0 (left - j) some; rest = omega (arith, l, rest_is, k'.work_is) })
