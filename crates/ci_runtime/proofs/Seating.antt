-- The seats behind an entry.
use Rattle.std.proofs.Common.{Contains, ◌≡◌, ◌≢◌, ◌⊎◌, ◌<◌, ◌≤◌, ◌+◌, ◌++◌, ℕ, zero, suc, Bool, true, false, cond, List, [], ◌∷◌, length, map, Option, Some, None, refl, sym, ap, ◌∙◌, subst, arith, inl, inr, eqb, length-append, append-nil}
use Rattle.std.proofs.lemmas.List.{length-map}
use Rattle.ci_base.specs.declared.entry.Entry.{Entry}
use Rattle.ci_base.specs.declared.entry.Entry.TheVariants as entries
use Rattle.ci_base.specs.declared.event.Event.{Event}
use Rattle.ci_base.specs.declared.event.EventReply.{EventReply}
use Rattle.ci_base.specs.declared.layout.CellHead.{CellHead}
use Rattle.ci_base.specs.declared.layout.Layout.{Layout}
use Rattle.ci_base.specs.declared.reply.Answer.{Answer}
use Rattle.ci_base.specs.declared.reply.Reply.{Reply}
use Rattle.ci_base.specs.declared.reply.Reply.TheVariants as replies
use Rattle.ci_base.specs.declared.request.Request.{Request}
use Rattle.ci_base.specs.declared.task.Birth.{Birth}
use Rattle.ci_base.specs.declared.task.Delivery.{Delivery}
use Rattle.ci_base.specs.declared.task.Trail.{Trail}
use Rattle.ci_base.specs.Requests.{Fits}
use Rattle.ci_base.specs.Steps.{asks}
use Rattle.ci_code.specs.declared.raw.RawParts.{RawParts}
use Rattle.ci_code.specs.Code.{IsCode}
use Rattle.ci_code.specs.Machine.{next}
use Rattle.ci_runtime.specs.Seats.{Runner, Seat, StandsWaiting, IsSeated, AreSeated, Changed, Delivered, OwnSettled, VictimsSettled, BornSettled, Settled}
use Rattle.ci_shared.proofs.Named.{named_in, none_named}
use Rattle.ci_shared.proofs.Numbers.{decide, eqb_same, eqb_apart}
use Rattle.ci_shared.proofs.Proved as laws
use Rattle.ci_shared.specs.Laws.{Keeps, IsFormed, Other, Own, Grows, victims, victims_of, woken}
use Rattle.ci_shared.specs.Roster.{Standing, Ready, Waiting, Ended, Killed, Task, standing_in, is_live}
use Rattle.ci_shared.specs.Serving.{apply, script}
use Rattle.ci_shared.specs.Started.{fresh}
use Rattle.ci_shared.specs.State.{Served}
use Rattle.ci_task.specs.declared.behind.Behind.{Behind}
use Rattle.ci_task.specs.Moved.{IsMade, Resumes, cell_kinds, machine_of, moved}
use Rattle.ci_tree.specs.Layouts.{layout_of}
use Rattle.ci_verify.specs.Rules.{NoneBroken}
use Rattle.ci_world.proofs.Lists.{at_set, at_other, at_pushed, at_within, at_there, len_set, one_at, standing_pushed, standing_within, standing_there}
use Rattle.ci_world.proofs.Served.{IsNotBorn, older, born, trail_snoc, answers_of, asker_woken, other_woken}
use Rattle.ci_world.specs.Lists.{at_task, set_task}
use Rattle.ci_world.specs.Serial.{ticks_with}
use Rattle.ci_world.specs.Trails.{Told, told, common_after, next_by, with_answers, trail}
use Rattle.ci_world.specs.World.{Origin, Common, basis, answer_to}

pub some_seat : (x y : Seat) (o : Option Seat) → o ≡ Some x → o ≡ Some y → x ≡ y
some_seat x y o a b = cc

-- a machine took several answers, one after the other
abbrev pub ResumedBy : List Answer → Runner → Runner → Type 0
ResumedBy [] m m' = m' ≡ m
ResumedBy (a ∷ more) m m' = (mid : Runner) × Resumes a m mid × ResumedBy more mid m'

delivered_at : (ds : List Delivery) (old new : List Seat) (t : ℕ) (m : Runner) → Delivered ds old new → at_task old t ≡ Some (Some m) → (m' : Runner) × (at_task new t ≡ Some (Some m')) × ResumedBy (woken t ds) m m'
delivered_at [] old new t m same is = (m, ap (λ (l : List Seat). at_task l t) same ∙ is, refl)
delivered_at (d ∷ ds) old new t m (mid, one, more) is = by (eqb d.task t) refl (λ m1. delivered_at ds mid new t m1 more)
  where
    by : (b : Bool) → eqb d.task t ≡ b → ((m1 : Runner) → at_task mid t ≡ Some (Some m1) → (m' : Runner) × (at_task new t ≡ Some (Some m')) × ResumedBy (woken t ds) m1 m') →
        (m' : Runner) × (at_task new t ≡ Some (Some m')) × ResumedBy (cond b (d.answer ∷ woken t ds) (woken t ds)) m m'
    by true e f =
        let same : d.task ≡ t = eqb_same d.task t e in
        let (m1, at1, r) = one.there m (subst (λ (n : ℕ). at_task old n ≡ Some (Some m)) (sym same) is) in
        let (m', at', rs) = f m1 (subst (λ (n : ℕ). at_task mid n ≡ Some (Some m1)) same at1) in
        (m', at', (m1, r, rs))
    by false e f = f m (one.changed.others t (λ same. eqb_apart d.task t e (sym same)) ∙ is)

-- where nothing is delivered the seat stays as it is
delivered_same : (ds : List Delivery) (old new : List Seat) (t : ℕ) → Delivered ds old new → woken t ds ≡ [] → at_task new t ≡ at_task old t
delivered_same [] old new t same none = ap (λ (l : List Seat). at_task l t) same
delivered_same (d ∷ ds) old new t (mid, one, more) none = by (eqb d.task t) refl none (delivered_same ds mid new t more)
  where
    by : (b : Bool) → eqb d.task t ≡ b → cond b (d.answer ∷ woken t ds) (woken t ds) ≡ [] → (woken t ds ≡ [] → at_task new t ≡ at_task mid t) → at_task new t ≡ at_task old t
    by true e none f = absurd (cc)
    by false e none f = f none ∙ one.changed.others t (λ same. eqb_apart d.task t e (sym same))

delivered_long : (ds : List Delivery) (old new : List Seat) → Delivered ds old new → length new ≡ length old
delivered_long [] old new same = ap (λ (l : List Seat). length l) same
delivered_long (d ∷ ds) old new (mid, one, more) = delivered_long ds mid new more ∙ one.changed.long

own_others : (u t : ℕ) (r : Reply) (old new : List Seat) → OwnSettled u r old new → t ≢ u → at_task new t ≡ at_task old t
own_others u t (replies.Answer a) old new s n = s.changed.others t n
own_others u t replies.Waits old new s n = ap (λ (l : List Seat). at_task l t) s
own_others u t replies.Ends old new s n = s.changed.others t n

own_long : (u : ℕ) (r : Reply) (old new : List Seat) → OwnSettled u r old new → length new ≡ length old
own_long u (replies.Answer a) old new s = s.changed.long
own_long u replies.Waits old new s = ap (λ (l : List Seat). length l) s
own_long u replies.Ends old new s = s.changed.long

victims_long : (vs : List ℕ) (tasks : List Task) (old new : List Seat) → VictimsSettled vs tasks old new → length new ≡ length old
victims_long [] tasks old new s = ap (λ (l : List Seat). length l) s
victims_long (v ∷ vs) tasks old new (mid, one, more) = victims_long vs tasks mid new more ∙ one.changed.long

-- the seat of a task behind the end of those that may be killed
pub record VictimsFreed (vs : List ℕ) (t : ℕ) (z : Standing) (seat seat' : Seat) : Type 0 where
  pub live : is_live z ≡ true → seat' ≡ seat
  pub gone : seat ≡ None → seat' ≡ None
  pub dead : Contains vs t → is_live z ≡ false → seat' ≡ None

not_both : {A : Type 0} (b : Bool) → b ≡ false → b ≡ true → A
not_both b e f = absurd (cc)

-- behind the end of the first, and of the rest
then_freed : (v : ℕ) (vs : List ℕ) (t : ℕ) (z : Standing) (seat mid seat' : Seat) → (is_live z ≡ true → mid ≡ seat) → (seat ≡ None → mid ≡ None) → (v ≡ t → is_live z ≡ false → mid ≡ None) → VictimsFreed vs t z mid seat' → VictimsFreed (v ∷ vs) t z seat seat'
then_freed v vs t z seat mid seat' live gone dead more = record {
  live = λ l. more.live l ∙ live l;
  gone = λ n. more.gone (gone n);
  dead = λ named d. elim (named_in v vs t named) [ inl same ↦ more.gone (dead same d) | inr later ↦ more.dead later d ];
}

victims_at : (vs : List ℕ) (tasks : List Task) (old new : List Seat) (t : ℕ) (z : Standing) (seat seat' : Seat) → VictimsSettled vs tasks old new → standing_in tasks t ≡ Some z → at_task old t ≡ Some seat → at_task new t ≡ Some seat' → VictimsFreed vs t z seat seat'
victims_at [] tasks old new t z seat seat' same zat at at' =
    let eq : seat' ≡ seat = some_seat seat' seat _ at' (ap (λ (l : List Seat). at_task l t) same ∙ at) in
    record { live = λ l. eq; gone = λ n. eq ∙ n; dead = λ named d. absurd (none_named t named) }
victims_at (v ∷ vs) tasks old new t z seat seat' (mid, one, more) zat at at' = by (decide v t) (λ here there. victims_at vs tasks mid new t z here seat' more zat there at')
  where
    by : (v ≡ t) ⊎ (v ≢ t) → ((here : Seat) → at_task mid t ≡ Some here → VictimsFreed vs t z here seat') → VictimsFreed (v ∷ vs) t z seat seat'
    by (inr other) later =
        let there : at_task mid t ≡ Some seat = one.changed.others t (λ same. other (sym same)) ∙ at in
        then_freed v vs t z seat seat seat' (λ l. refl) (λ n. n) (λ same d. absurd (other same)) (later seat there)
    by (inl same) later =
        let told = one.told z seat (ap (standing_in tasks) same ∙ zat) (ap (at_task old) same ∙ at) in
        lives (is_live z) refl told later
      where
        lives : (b : Bool) → is_live z ≡ b → (is_live z ≡ false → at_task mid v ≡ Some None) × (is_live z ≡ true → at_task mid v ≡ Some seat) → ((here : Seat) → at_task mid t ≡ Some here → VictimsFreed vs t z here seat') → VictimsFreed (v ∷ vs) t z seat seat'
        lives true l told later =
            then_freed v vs t z seat seat seat' (λ l. refl) (λ n. n) (λ same d. not_both (is_live z) d l) (later seat (ap (at_task mid) (sym same) ∙ told.1 l))
        lives false l told later =
            then_freed v vs t z seat None seat' (λ live. not_both (is_live z) l live) (λ n. refl) (λ same d. refl) (later None (ap (at_task mid) (sym same) ∙ told.0 l))

with_none : (x : Trail) (g : List Answer) → g ≡ [] → with_answers x g ≡ x
with_none x g none = ap (with_answers x) none ∙ ap (λ (l : List Answer). record { birth = x.birth; answers = l }) (append-nil x.answers)

-- the task that has come to a request
pub record AtRequest (code : RawParts) (o : Origin) (h : List Entry) (u k : ℕ) (old mid : List Seat) (q : Request) : Type 0 where
  pub changed : Changed u old mid
  pub machine : Runner
  pub there : at_task mid u ≡ Some (Some machine)
  pub along : moved code (trail o u h) k machine
  pub behind : Behind
  pub told : machine.told ≡ Some behind
  pub stands : next code (machine_of code machine) ≡ asks q
  pub made : IsMade code q

module _ (code : RawParts) (is_code : IsCode code) (sound : NoneBroken code) where
  -- a task to which something happens, where its trail gets these answers
  other_seated : (x : Trail) (vs : List ℕ) (t k : ℕ) (y z : Standing) (g : List Answer) (seat first : Seat) → IsSeated code x k y seat → Other vs t y z g → VictimsFreed vs t z seat first →
      (seat' : Seat) → ((m : Runner) → first ≡ Some m → (m' : Runner) × (seat' ≡ Some m') × ResumedBy g m m') → (g ≡ [] → seat' ≡ first) → IsSeated code (with_answers x g) k z seat'
  other_seated x vs t k y z g seat first home (inl (same, none)) freed seat' got_it not_it =
      subst (λ (l : Trail). IsSeated code l k z seat') (sym (with_none x g none)) (subst (λ (s : Standing). IsSeated code x k s seat') (sym same) (by y refl home))
    where
      kept : is_live y ≡ true → seat' ≡ seat
      kept l = not_it none ∙ freed.live (ap is_live same ∙ l)

      by : (s : Standing) → y ≡ s → IsSeated code x k s seat → IsSeated code x k s seat'
      by Ready e h = subst (λ (w : Seat). IsSeated code x k Ready w) (sym (kept (ap is_live e))) h
      by (Waiting p) e h = subst (λ (w : Seat). IsSeated code x k (Waiting p) w) (sym (kept (ap is_live e))) h
      by (Ended c) e h = not_it none ∙ freed.gone h
      by Killed e h = not_it none ∙ freed.gone h
  other_seated x vs t k y z g seat first home (inr (inl (p, a, was, now, one, fit))) freed seat' got_it not_it =
      let (st, zero_ticks) = subst (λ (s : Standing). IsSeated code x k s seat) was home in
      let (m', is, r) = got_it st.machine (freed.live (ap is_live now) ∙ st.there) in
      let (mid, res, same) = subst (λ (l : List Answer). ResumedBy l st.machine m') one r in
      let along : moved code (with_answers x (a ∷ [])) 0 mid = res code x (with_answers x (a ∷ [])) st.ticks st.behind st.request is_code sound st.along st.told st.stands (st.fits a fit) refl refl in
      subst (λ (s : Standing). IsSeated code (with_answers x g) k s seat') (sym now)
      (subst (λ (l : List Answer). IsSeated code (with_answers x l) k Ready seat') (sym one)
      (m', is, subst (λ (n : ℕ). moved code (with_answers x (a ∷ [])) n m') (sym zero_ticks) (subst (λ (w : Runner). moved code (with_answers x (a ∷ [])) 0 w) (sym same) along)))
  other_seated x vs t k y z g seat first home (inr (inr (is_named, died, none))) freed seat' got_it not_it = by z died (not_it none ∙ freed.dead is_named died)
    where
      by : (s : Standing) → is_live s ≡ false → seat' ≡ None → IsSeated code (with_answers x g) k s seat'
      by Ready e h = not_both true e refl
      by (Waiting p) e h = not_both true e refl
      by (Ended c) e h = h
      by Killed e h = h

  -- the task that asks
  own_seated : (o : Origin) → code.layout ≡ layout_of o.project → (h : List Entry) (u k n : ℕ) (z : Standing) (q : Request) (r : Reply) (old mid first : List Seat) (seat' : Seat) → (p : AtRequest code o h u k old mid q) → Own (basis o) q r z → OwnSettled u r mid first →
      ((seat : Seat) → at_task first u ≡ Some seat → (is_live z ≡ true → seat' ≡ seat) × (seat ≡ None → seat' ≡ None)) → n ≡ 0 → IsSeated code (with_answers (trail o u h) (answers_of r)) n z seat'
  own_seated o layout h u k n z q (replies.Answer a) old mid first seat' p (ready, fit) settled later none =
      let (m', there', res) = settled.there p.machine p.there in
      let fit' : Fits (cell_kinds code) q a = subst (λ (l : Layout). Fits (map (λ (c : CellHead). c.kind) l.cells) q a) (sym layout) fit in
      let along : moved code (with_answers (trail o u h) (a ∷ [])) 0 m' = res code (trail o u h) (with_answers (trail o u h) (a ∷ [])) k p.behind q is_code sound p.along p.told p.stands fit' refl refl in
      let eq : seat' ≡ Some m' = (later (Some m') there').0 (ap is_live ready) in
      subst (λ (s : Standing). IsSeated code (with_answers (trail o u h) (a ∷ [])) n s seat') (sym ready) (m', eq, subst (λ (i : ℕ). moved code (with_answers (trail o u h) (a ∷ [])) i m') (sym none) along)
  own_seated o layout h u k n z q replies.Waits old mid first seat' p (place, waits, fits) settled later none =
      let eq : seat' ≡ Some p.machine = (later (Some p.machine) (ap (λ (l : List Seat). at_task l u) settled ∙ p.there)).0 (ap is_live waits) in
      let st : StandsWaiting code (trail o u h) place seat' = record {
        machine = p.machine;
        there = eq;
        ticks = k;
        along = p.along;
        behind = p.behind;
        told = p.told;
        request = q;
        stands = p.stands;
        fits = λ a f. subst (λ (l : Layout). Fits (map (λ (c : CellHead). c.kind) l.cells) q a) (sym layout) (fits a f);
      } in
      subst (λ (s : Standing). IsSeated code (with_answers (trail o u h) []) n s seat') (sym waits)
      (subst (λ (x : Trail). IsSeated code x n (Waiting place) seat') (sym (with_none (trail o u h) [] refl)) (st, none))
  own_seated o layout h u k n z q replies.Ends old mid first seat' p dead settled later none =
      by z dead ((later None (settled.gone (Some p.machine) p.there)).1 refl)
    where
      by : (s : Standing) → is_live s ≡ false → seat' ≡ None → IsSeated code (with_answers (trail o u h) []) n s seat'
      by Ready e h = not_both true e refl
      by (Waiting p) e h = not_both true e refl
      by (Ended c) e h = h
      by Killed e h = h

  -- what is known of the seat of a task that was there, behind an entry
  abbrev GoesSeated : Origin → List Entry → List Answer → List Task → List ℕ → List Seat → List Task → ℕ → Type 0
  GoesSeated o h more old ticks third now t =
      (y : Standing) (k : ℕ) (seat : Seat) → standing_in old t ≡ Some y → at_task ticks t ≡ Some k → at_task third t ≡ Some seat →
      (z : Standing) × (standing_in now t ≡ Some z) × IsSeated code (with_answers (trail o t h) more) k z seat

  module _ (o : Origin) (layout : code.layout ≡ layout_of o.project) (h : List Entry) where
    abbrev old : List Task
    old = (common_after o h).shared.roster.tasks

    -- all seats
    seats_after : (e : Entry) (x : Told) (ticks : List ℕ) (third new : List Seat) → x ≡ told o (common_after o h) e → length ticks ≡ length old → length third ≡ length old →
        Grows (basis o) old x.common.shared.roster.tasks x.birth → BornSettled code x.birth third new →
        ((t : ℕ) → GoesSeated o h (woken t x.deliveries) old ticks third x.common.shared.roster.tasks t) → AreSeated code o (h ++ e ∷ []) x.common.shared.roster.tasks (ticks_with ticks x.birth) new
    seats_after e x ticks third new x_is lt ls grows settled goes = by x.birth refl grows settled
      where
        now : List Task
        now = x.common.shared.roster.tasks

        trail_is : (t : ℕ) → trail o t (h ++ e ∷ []) ≡ next_by t (trail o t h) (woken t x.deliveries) x.birth
        trail_is t = trail_snoc o t h e ∙ ap (λ (y : Told). next_by t (trail o t h) (woken t y.deliveries) y.birth) (sym x_is)

        was_there : (t : ℕ) (z : Standing) (k : ℕ) (seat : Seat) → 1 ≤ t → t ≤ length old → IsNotBorn t x.birth → standing_in now t ≡ Some z → at_task ticks t ≡ Some k → at_task third t ≡ Some seat → IsSeated code (trail o t (h ++ e ∷ [])) k z seat
        was_there t z k seat one le other zat kat at =
            let (y, yat) = standing_there old t one le in
            let (z', z'at, seated) = goes t y k seat yat kat at in
            subst (λ (tr : Trail). IsSeated code tr k z seat) (sym (trail_is t ∙ older t (trail o t h) (woken t x.deliveries) x.birth other))
            (subst (λ (s : Standing). IsSeated code (with_answers (trail o t h) (woken t x.deliveries)) k s seat) (one_at z' z (standing_in now t) z'at zat) seated)

        by : (b : Option Birth) → x.birth ≡ b → Grows (basis o) old now b → BornSettled code b third new → AreSeated code o (h ++ e ∷ []) now (ticks_with ticks b) new
        by None is grows settled = record {
          many_ticks = lt ∙ sym as_many;
          many_seats = ap (λ (l : List Seat). length l) settled ∙ ls ∙ sym as_many;
          each = λ t z k seat zat kat at.
              let within = standing_within now t z zat in
              was_there t z k seat within.0 (omega (arith, within.1, as_many)) (subst (λ (b : Option Birth). IsNotBorn t b) (sym is) tt) zat kat (ap (λ (l : List Seat). at_task l t) (sym settled) ∙ at);
        }
          where
            as_many : length now ≡ length old
            as_many = sym (length-map now (λ (y : Task). y.function)) ∙ ap (λ (l : List ℕ). length l) grows ∙ length-map old (λ (y : Task). y.function)
        by (Some b) is (new_is, number, below, free, args) (m, settled, begins) = record {
          many_ticks = omega (arith, length-append ticks (0 ∷ []), lt, many);
          many_seats = omega (arith, ap (λ (l : List Seat). length l) settled, length-append third (Some m ∷ []), ls, many);
          each = λ t z k seat zat kat at.
              split t z k seat zat (standing_pushed old t z (fresh b.function) (ap (λ (l : List Task). standing_in l t) (sym new_is) ∙ zat)) (at_pushed ticks t k 0 kat) (at_pushed third t seat (Some m) (ap (λ (l : List Seat). at_task l t) (sym settled) ∙ at));
        }
          where
            many : length now ≡ length old + 1
            many = ap (λ (l : List Task). length l) new_is ∙ length-append old (fresh b.function ∷ [])

            split : (t : ℕ) (z : Standing) (k : ℕ) (seat : Seat) → standing_in now t ≡ Some z → (standing_in old t ≡ Some z) ⊎ ((t ≡ suc (length old)) × (Ready ≡ z)) → (at_task ticks t ≡ Some k) ⊎ ((t ≡ suc (length ticks)) × (0 ≡ k)) → (at_task third t ≡ Some seat) ⊎ ((t ≡ suc (length third)) × (Some m ≡ seat)) → IsSeated code (trail o t (h ++ e ∷ [])) k z seat
            split t z k seat zat (inl p) (inl q) (inl r) =
                let within = standing_within old t z p in
                was_there t z k seat within.0 within.1 (subst (λ (c : Option Birth). IsNotBorn t c) (sym is) (λ same. omega (arith, same, number, within.1))) zat q r
            split t z k seat zat (inr p) (inr q) (inr r) =
                let its : trail o t (h ++ e ∷ []) ≡ record { birth = Some b; answers = [] } =
                trail_is t ∙ ap (λ (c : Option Birth). next_by t (trail o t h) (woken t x.deliveries) c) is ∙ born t (trail o t h) (woken t x.deliveries) b (number ∙ sym p.0) in
                subst (λ (tr : Trail). IsSeated code tr k z seat) (sym its)
                (subst (λ (s : Standing). IsSeated code (record { birth = Some b; answers = [] }) k s seat) p.1
                (m, sym r.1, subst (λ (n : ℕ). moved code (record { birth = Some b; answers = [] }) n m) q.1 (begins (record { birth = Some b; answers = [] }) refl refl)))
            split t z k seat zat (inl p) (inr q) r = let w = standing_within old t z p in absurd (omega (arith, w.1, q.0, lt))
            split t z k seat zat (inl p) (inl q) (inr r) = let w = standing_within old t z p in absurd (omega (arith, w.1, r.0, ls))
            split t z k seat zat (inr p) (inl q) r = let w = at_within ticks t k q in absurd (omega (arith, w.1, p.0, lt))
            split t z k seat zat (inr p) (inr q) (inl r) = let w = at_within third t seat r in absurd (omega (arith, w.1, p.0, ls))

    -- a task that doesn't ask, through all parts
    through : (now : List Task) (ds : List Delivery) (vs : List ℕ) (t k : ℕ) (y z : Standing) (seat : Seat) (first second third : List Seat) → IsSeated code (trail o t h) k y seat → Other vs t y z (woken t ds) → standing_in now t ≡ Some z → at_task first t ≡ Some seat →
        VictimsSettled vs now first second → Delivered ds second third → (seat' : Seat) → at_task third t ≡ Some seat' → IsSeated code (with_answers (trail o t h) (woken t ds)) k z seat'
    through now ds vs t k y z seat first second third home other zat at freed rest seat' at' =
        let within = at_within first t seat at in
        let (seat2, at2) = at_there second t within.0 (omega (arith, within.1, victims_long vs now first second freed)) in
        other_seated (trail o t h) vs t k y z (woken t ds) seat seat2 home other (victims_at vs now first second t z seat seat2 freed zat at at2) seat'
        (λ m e. let (m', there, r) = delivered_at ds second third t m rest (at2 ∙ ap (λ (s : Seat). Some s) e) in (m', some_seat seat' (Some m') _ at' there, r))
        (λ none. some_seat seat' seat2 _ at' (delivered_same ds second third t rest none ∙ at2))

    module _ (keeps : Keeps (basis o) (common_after o h).shared) where
      pub seats_event : (e : Event) (r : EventReply) (ticks : List ℕ) (seats new : List Seat) → AreSeated code o h old ticks seats →
          Settled code 0 replies.Waits (victims_of e.what) (script (basis o) (common_after o h).shared e.what).shared.roster.tasks (script (basis o) (common_after o h).shared e.what).deliveries (script (basis o) (common_after o h).shared e.what).birth seats new →
          AreSeated code o (h ++ entries.Script e r ∷ []) (script (basis o) (common_after o h).shared e.what).shared.roster.tasks (ticks_with ticks (script (basis o) (common_after o h).shared e.what).birth) new
      seats_event e r ticks seats new home st =
          let x = told o (common_after o h) (entries.Script e r) in
          let l1 = ap (λ (l : List Seat). length l) st.own in
          let l2 = victims_long (victims_of e.what) x.common.shared.roster.tasks st.first st.second st.victims in
          let l3 = delivered_long x.deliveries st.second st.third st.rest in
          seats_after (entries.Script e r) x ticks st.third new refl home.many_ticks (l3 ∙ l2 ∙ l1 ∙ home.many_seats) (laws.script_grows (basis o) (common_after o h).shared e.what keeps) st.born
          (λ t y k seat' yat kat at'.
          let within = standing_within old t y yat in
          let (seat, at) = at_there seats t within.0 (omega (arith, within.1, home.many_seats)) in
          let (z, zat, other) = laws.other_script (basis o) (common_after o h).shared e.what t y keeps yat in
          (z, zat, through x.common.shared.roster.tasks x.deliveries (victims_of e.what) t k y z seat st.first st.second st.third (home.each t y k seat yat kat at) other zat (ap (λ (l : List Seat). at_task l t) st.own ∙ at) st.victims st.rest seat' at'))

      module _ (u k : ℕ) (q : Request) (formed : IsFormed (basis o) q) (ready : standing_in old u ≡ Some Ready) where
        abbrev y : Served Reply
        y = apply (basis o) (common_after o h).shared u q

        abbrev all : List Delivery
        all = answer_to u y.reply ++ y.deliveries

        pub seats_ask : (r : Reply) (ticks : List ℕ) (seats mid new : List Seat) → AreSeated code o h old ticks seats → AtRequest code o h u k seats mid q →
            Settled code u y.reply (victims q) y.shared.roster.tasks y.deliveries y.birth mid new → AreSeated code o (h ++ entries.Ask u k q r ∷ []) y.shared.roster.tasks (ticks_with (set_task ticks u 0) y.birth) new
        seats_ask r ticks seats mid new home p st =
            seats_after (entries.Ask u k q r) (told o (common_after o h) (entries.Ask u k q r)) (set_task ticks u 0) st.third new refl (len_set ticks u 0 ∙ home.many_ticks) (l3 ∙ l2 ∙ l1 ∙ p.changed.long ∙ home.many_seats) (laws.ask_grows (basis o) (common_after o h).shared u q keeps ready) st.born
            (λ t. by t (decide t u))
          where
            l1 : length st.first ≡ length mid
            l1 = own_long u y.reply mid st.first st.own

            l2 : length st.second ≡ length st.first
            l2 = victims_long (victims q) y.shared.roster.tasks st.first st.second st.victims

            l3 : length st.third ≡ length st.second
            l3 = delivered_long y.deliveries st.second st.third st.rest

            ticks_zero : (n : ℕ) → at_task (set_task ticks u 0) u ≡ Some n → n ≡ 0
            ticks_zero n e =
                let within = standing_within old u Ready ready in
                let (k0, k0at) = at_there ticks u within.0 (omega (arith, within.1, home.many_ticks)) in
                one_at n 0 (at_task (set_task ticks u 0) u) e (at_set ticks u k0 0 k0at)

            own : GoesSeated o h (woken u all) old (set_task ticks u 0) st.third y.shared.roster.tasks u
            own s n seat' sat nat at' =
                let (z, zat, is_own, none) = laws.own_ask (basis o) (common_after o h).shared u q keeps formed ready in
                let within = standing_within old u Ready ready in
                let (seat2, at2) = at_there st.second u within.0 (omega (arith, within.1, l1, l2, p.changed.long, home.many_seats)) in
                let same3 : seat' ≡ seat2 = some_seat seat' seat2 _ at' (delivered_same y.deliveries st.second st.third u st.rest none ∙ at2) in
                let seated = own_seated o layout h u k n z q y.reply seats mid st.first seat2 p is_own st.own
                (λ seat e. let f = victims_at (victims q) y.shared.roster.tasks st.first st.second u z seat seat2 st.victims zat e at2 in (f.live, f.gone)) (ticks_zero n nat) in (
                  z,
                  zat,
                  subst (λ (l : List Answer). IsSeated code (with_answers (trail o u h) l) n z seat') (sym (asker_woken u y.reply y.deliveries none))
                      (subst (λ (w : Seat). IsSeated code (with_answers (trail o u h) (answers_of y.reply)) n z w) (sym same3) seated),
                )

            others : (t : ℕ) → t ≢ u → GoesSeated o h (woken t all) old (set_task ticks u 0) st.third y.shared.roster.tasks t
            others t other s n seat' sat nat at' =
                let within = standing_within old t s sat in
                let (seat, at) = at_there seats t within.0 (omega (arith, within.1, home.many_seats)) in
                let (z, zat, is_other) = laws.other_ask (basis o) (common_after o h).shared u q t s keeps ready other sat in
                let first_at : at_task st.first t ≡ Some seat = own_others u t y.reply mid st.first st.own other ∙ p.changed.others t other ∙ at in
                let seated = through y.shared.roster.tasks y.deliveries (victims q) t n s z seat st.first st.second st.third (home.each t s n seat sat (sym (at_other ticks u t 0 other) ∙ nat) at) is_other zat first_at st.victims st.rest seat' at' in
                (z, zat, subst (λ (l : List Answer). IsSeated code (with_answers (trail o t h) l) n z seat') (sym (other_woken t u y.reply y.deliveries other)) seated)

            by : (t : ℕ) → (t ≡ u) ⊎ (t ≢ u) → GoesSeated o h (woken t all) old (set_task ticks u 0) st.third y.shared.roster.tasks t
            by t (inl same) = subst (λ (n : ℕ). GoesSeated o h (woken n all) old (set_task ticks u 0) st.third y.shared.roster.tasks n) (sym same) own
            by t (inr other) = others t other
