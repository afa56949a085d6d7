-- There is one world after a history, one ending, and one round-robin run; and a task that is dead stays so.
use Rattle.std.proofs.Common.{◌≡◌, ◌≢◌, ◌⊎◌, ◌+◌, ◌-◌, ◌++◌, ℕ, zero, suc, true, false, List, [], ◌∷◌, Option, Some, refl, sym, ap, ◌∙◌, subst, arith, inl, inr, true≢false}
use Rattle.std.specs.List.{AllByRecursion}
use Rattle.ci_base.specs.declared.entry.Entry.{Entry}
use Rattle.ci_base.specs.declared.entry.Entry.TheVariants as entries
use Rattle.ci_base.specs.declared.event.Event.{Event}
use Rattle.ci_base.specs.declared.event.EventReply.{EventReply}
use Rattle.ci_base.specs.declared.limits.Ending.{Ending}
use Rattle.ci_base.specs.declared.limits.Ending.TheVariants as endings
use Rattle.ci_base.specs.declared.limits.Limits.{Limits}
use Rattle.ci_base.specs.declared.reply.Answer.{Answer}
use Rattle.ci_base.specs.declared.reply.Reply.{Reply}
use Rattle.ci_base.specs.declared.request.Request.{Request}
use Rattle.ci_base.specs.Steps.{Stands}
use Rattle.ci_meaning.specs.Configuration.{Configuration}
use Rattle.ci_meaning.specs.Meaning.{next}
use Rattle.ci_shared.proofs.Numbers.{decide}
use Rattle.ci_shared.specs.Laws.{Other, victims, victims_of}
use Rattle.ci_shared.specs.Roster.{Standing, Ready, standing_at, is_live}
use Rattle.ci_shared.specs.Serving.{apply}
use Rattle.ci_world.proofs.Follow.{Goes, goes_step, goes_run}
use Rattle.ci_world.proofs.Lists.{one_at}
use Rattle.ci_world.proofs.Machines.{one_stand, one_request, no_later, one_more}
use Rattle.ci_world.proofs.Serving.{other_ask, other_script}
use Rattle.ci_world.proofs.Tasks.{can_ready, chosen_can, dead_standing, standing_dead}
use Rattle.ci_world.specs.Laws.{IsOfOthers}
use Rattle.ci_world.specs.Lists.{at_task}
use Rattle.ci_world.specs.Serial.{Progress, opening_progress, loose, granted, took, served_at, ticked, Requests, RunsOut, TurnIn, goes_on, Round, Rounds, Serial, TakesEvent, GivesTurn, chosen}
use Rattle.ci_world.specs.Tasks.{IsDead}
use Rattle.ci_world.specs.Work.{work, EndsAs}
use Rattle.ci_world.specs.World.{Origin, Common, World, basis, Asks, Happens, Step, Run, RunFrom, asked, happened}

-- one world
one_asked : (o : Origin) (old v w : World) (t k : ℕ) (q : Request) (r : Reply) → Asks o old t k q r v → Asks o old t k q r w → v ≡ w
one_asked o old v w t k q r a b =
    let from : a.from ≡ b.from = one_at a.from b.from (at_task old.configurations t) a.from_is b.from_is in
    let st : Stands (next o.project) b.from k q a.at = subst (λ (c : Configuration). Stands (next o.project) c k q a.at) from a.stands in
    let at : a.at ≡ b.at = (one_stand (next o.project) b.from a.at b.at k k q q st b.stands).1 in
    a.new_is ∙ ap (λ (c : Configuration). asked o old t q c) at ∙ sym b.new_is

one_happened : (o : Origin) (old v w : World) (e : Event) (r : EventReply) → Happens o old e r v → Happens o old e r w → v ≡ w
one_happened o old v w e r a b =
    let fronts : e ∷ a.rest ≡ e ∷ b.rest = sym a.front ∙ b.front in
    let rest : a.rest ≡ b.rest = cc fronts in
    a.new_is ∙ ap (λ (l : List Event). happened o old e l) rest ∙ sym b.new_is

one_step : (o : Origin) (old v w : World) (e : Entry) → Step o old e v → Step o old e w → v ≡ w
one_step o old v w (entries.Ask t k q r) a b = one_asked o old v w t k q r a b
one_step o old v w (entries.Script e r) a b = one_happened o old v w e r a b

pub one_from : (o : Origin) (h : List Entry) (old v w : World) → RunFrom o old h v → RunFrom o old h w → v ≡ w
one_from o [] old v w a b = a ∙ sym b
one_from o (e ∷ h) old v w (mid, a, more) (mid', b, more') =
    one_from o h mid v w more (subst (λ (z : World). RunFrom o z h w) (sym (one_step o old mid mid' e a b)) more')

-- one ending
pub one_end : (c : Common) (worked budget : ℕ) (a b : Ending) → EndsAs c worked budget a → EndsAs c worked budget b → a ≡ b
one_end c worked budget endings.Finished endings.Finished h g = refl
one_end c worked budget endings.Finished endings.Resting h g = absurd (g.1 h.1)
one_end c worked budget endings.Finished endings.Spent h g = absurd (g.0 h.0)
one_end c worked budget endings.Finished endings.NotRun h g = absurd g
one_end c worked budget endings.Resting endings.Finished h g = absurd (h.1 g.1)
one_end c worked budget endings.Resting endings.Resting h g = refl
one_end c worked budget endings.Resting endings.Spent h g = absurd (g.0 h.0)
one_end c worked budget endings.Resting endings.NotRun h g = absurd g
one_end c worked budget endings.Spent endings.Finished h g = absurd (h.0 g.0)
one_end c worked budget endings.Spent endings.Resting h g = absurd (h.0 g.0)
one_end c worked budget endings.Spent endings.Spent h g = refl
one_end c worked budget endings.Spent endings.NotRun h g = absurd g
one_end c worked budget endings.NotRun b h g = absurd h

-- one request, by what the state behind it depends on
abbrev pub after_request : Origin → Progress → ℕ → ℕ × (Request × Configuration) → Progress
after_request o s t x = served_at o s t x.0 x.1.0 x.1.1

one_request_of : (o : Origin) (limits : Limits) (s : Progress) (t left : ℕ) (s1 s2 : Progress) (l1 l2 : ℕ) (r1 r2 : Reply) → Requests o limits s t left s1 l1 r1 → Requests o limits s t left s2 l2 r2 → (s1 ≡ s2) × (l1 ≡ l2) × (r1 ≡ r2)
one_request_of o limits s t left s1 s2 l1 l2 r1 r2 a b =
    let c = one_at a.from b.from (at_task s.world.configurations t) a.from_is b.from_is in
    let k = one_at a.before b.before (at_task s.ticks t) a.before_is b.before_is in
    let st : Stands (next o.project) b.from (a.before + a.more) a.request a.at = subst (λ (z : Configuration). Stands (next o.project) z (a.before + a.more) a.request a.at) c a.stands in
    let one = one_stand (next o.project) b.from a.at b.at (a.before + a.more) (b.before + b.more) a.request b.request st b.stands in
    let q : a.request ≡ b.request = one_request (next o.project) b.from a.at b.at (a.before + a.more) (b.before + b.more) a.request b.request st b.stands in
    let m : a.more ≡ b.more = omega (arith, one.0, k) in
    let x : (a.before + a.more, (a.request, a.at)) ≡ (b.before + b.more, (b.request, b.at)) = λ i. (one.0 i, (q i, one.1 i)) in
    (a.next_is ∙ ap (after_request o s t) x ∙ sym b.next_is, a.left_is ∙ ap (λ (z : ℕ). left - z) m ∙ sym b.left_is, a.reply_is ∙ ap (λ (z : Request). (apply (basis o) s.world.common.shared t z).reply) q ∙ sym b.reply_is)

not_both : (o : Origin) (limits : Limits) (s : Progress) (t left : ℕ) (s1 s2 : Progress) (l1 : ℕ) (r1 : Reply) → Requests o limits s t left s1 l1 r1 → RunsOut o limits s t left s2 → ⊥
not_both o limits s t left s1 s2 l1 r1 a b =
    let c = one_at a.from b.from (at_task s.world.configurations t) a.from_is b.from_is in
    let k = one_at a.before b.before (at_task s.ticks t) a.before_is b.before_is in
    let st : Stands (next o.project) b.from (a.before + a.more) a.request a.at = subst (λ (z : Configuration). Stands (next o.project) z (a.before + a.more) a.request a.at) c a.stands in
    let (e, r) = one_more (next o.project) b.from (b.before + granted limits s left) b.ticks in
    let l = no_later (next o.project) b.from a.at e (a.before + a.more) (suc (b.before + granted limits s left)) a.request st r in
    omega (arith, l, k, a.within)

one_out : (o : Origin) (limits : Limits) (s : Progress) (t left : ℕ) (s1 s2 : Progress) → RunsOut o limits s t left s1 → RunsOut o limits s t left s2 → s1 ≡ s2
one_out o limits s t left s1 s2 a b = a.next_is ∙ ap (λ (z : ℕ). ticked s t (z + granted limits s left)) (one_at a.before b.before (at_task s.ticks t) a.before_is b.before_is) ∙ sym b.next_is

goes_same : (limits : Limits) (t : ℕ) (s1 s2 : Progress) (l1 l2 : ℕ) (r1 r2 : Reply) → s1 ≡ s2 → l1 ≡ l2 → r1 ≡ r2 → goes_on limits s1 t l1 r1 ≡ goes_on limits s2 t l2 r2
goes_same limits t s1 s2 l1 l2 r1 r2 a b c = λ i. goes_on limits (a i) t (b i) (c i)

one_turn : (o : Origin) (limits : Limits) (n m : ℕ) (s : Progress) (t left : ℕ) (s1 s2 : Progress) → TurnIn o limits n s t left s1 → TurnIn o limits m s t left s2 → s1 ≡ s2
one_turn o limits zero zero s t left s1 s2 (inl a) (inl b) = one_out o limits s t left s1 s2 a b
one_turn o limits zero zero s t left s1 s2 (inl a) (inr (l, r, b, e)) = absurd (not_both o limits s t left s2 s1 l r b a)
one_turn o limits zero zero s t left s1 s2 (inr (l, r, a, e)) (inl b) = absurd (not_both o limits s t left s1 s2 l r a b)
one_turn o limits zero zero s t left s1 s2 (inr (l, r, a, e)) (inr (l', r', b, e')) = (one_request_of o limits s t left s1 s2 l l' r r' a b).0
one_turn o limits zero (suc m) s t left s1 s2 (inl a) (mid, l, r, b, e, more) = absurd (not_both o limits s t left mid s1 l r b a)
one_turn o limits zero (suc m) s t left s1 s2 (inr (l, r, a, e)) (mid, l', r', b, e', more) =
    let x = one_request_of o limits s t left s1 mid l l' r r' a b in absurd (true≢false (sym e' ∙ sym (goes_same limits t s1 mid l l' r r' x.0 x.1 x.2) ∙ e))
one_turn o limits (suc n) zero s t left s1 s2 (mid, l, r, a, e, more) (inl b) = absurd (not_both o limits s t left mid s2 l r a b)
one_turn o limits (suc n) zero s t left s1 s2 (mid, l, r, a, e, more) (inr (l', r', b, e')) =
    let x = one_request_of o limits s t left mid s2 l l' r r' a b in absurd (true≢false (sym e ∙ goes_same limits t mid s2 l l' r r' x.0 x.1 x.2 ∙ e'))
one_turn o limits (suc n) (suc m) s t left s1 s2 (mid, l, r, a, e, more) (mid', l', r', b, e', more') =
    let x = one_request_of o limits s t left mid mid' l l' r r' a b in
    one_turn o limits n m mid t l s1 s2 more (subst (λ (z : ℕ). TurnIn o limits m mid t z s2) (sym x.1) (subst (λ (z : Progress). TurnIn o limits m z t l' s2) (sym x.0) more'))

one_event : (o : Origin) (s s1 s2 : Progress) → TakesEvent o s s1 → TakesEvent o s s2 → s1 ≡ s2
one_event o s s1 s2 (e, rest, front, due, is) (e', rest', front', due', is') =
    let same : e ∷ rest ≡ e' ∷ rest' = sym front ∙ front' in
    let a : e ≡ e' = cc same in
    let b : rest ≡ rest' = cc same in
    is ∙ (λ i. took o s (a i) (b i)) ∙ sym is'

event_or_turn : (o : Origin) (limits : Limits) (s s1 s2 : Progress) → TakesEvent o s s1 → GivesTurn o limits s s2 → ⊥
event_or_turn o limits s s1 s2 (e, rest, front, inl soon, is) (late, turn) = true≢false (sym soon ∙ late e rest front)
event_or_turn o limits s s1 s2 (e, rest, front, inr none, is) (late, (t, pick, turn)) = none t (chosen_can s t pick)

one_given : (o : Origin) (limits : Limits) (s s1 s2 : Progress) → GivesTurn o limits s s1 → GivesTurn o limits s s2 → s1 ≡ s2
one_given o limits s s1 s2 (late, (t, pick, (n, turn))) (late', (t', pick', (m, turn'))) =
    let same = one_at t t' (chosen s) pick pick' in
    one_turn o limits n m (record s { last = t }) t limits.slice s1 s2 turn (subst (λ (z : ℕ). TurnIn o limits m (record s { last = z }) z limits.slice s2) (sym same) turn')

one_does : (o : Origin) (limits : Limits) (s s1 s2 : Progress) → TakesEvent o s s1 ⊎ GivesTurn o limits s s1 → TakesEvent o s s2 ⊎ GivesTurn o limits s s2 → s1 ≡ s2
one_does o limits s s1 s2 (inl a) (inl b) = one_event o s s1 s2 a b
one_does o limits s s1 s2 (inl a) (inr b) = absurd (event_or_turn o limits s s1 s2 a b)
one_does o limits s s1 s2 (inr a) (inl b) = absurd (event_or_turn o limits s s2 s1 b a)
one_does o limits s s1 s2 (inr a) (inr b) = one_given o limits s s1 s2 a b

-- where a run ends there is no round
no_round : (o : Origin) (limits : Limits) (s s' : Progress) (ending : Ending) → EndsAs s.world.common (work s.history (loose s)) limits.budget ending → Round o limits s s' → ⊥
no_round o limits s s' endings.Finished ends r = r.goes_on ends.0
no_round o limits s s' endings.Resting ends r = r.goes_on ends.0
no_round o limits s s' endings.Spent ends r = omega (arith, ends.1, r.budget)
no_round o limits s s' endings.NotRun ends r = absurd ends

ends_at : (limits : Limits) (s s' : Progress) (ending : Ending) → s' ≡ s → EndsAs s'.world.common (work s'.history (loose s')) limits.budget ending → EndsAs s.world.common (work s.history (loose s)) limits.budget ending
ends_at limits s s' ending e h = subst (λ (z : Progress). EndsAs z.world.common (work z.history (loose z)) limits.budget ending) e h

one_rounds : (o : Origin) (limits : Limits) (n m : ℕ) (s s1 s2 : Progress) (a b : Ending) → Rounds o limits n s s1 → EndsAs s1.world.common (work s1.history (loose s1)) limits.budget a → Rounds o limits m s s2 → EndsAs s2.world.common (work s2.history (loose s2)) limits.budget b →
    (s1 ≡ s2) × (a ≡ b)
one_rounds o limits zero zero s s1 s2 a b r h r' g = (r ∙ sym r', one_end s.world.common (work s.history (loose s)) limits.budget a b (ends_at limits s s1 a r h) (ends_at limits s s2 b r' g))
one_rounds o limits zero (suc m) s s1 s2 a b r h (mid, r', more) g = absurd (no_round o limits s mid a (ends_at limits s s1 a r h) r')
one_rounds o limits (suc n) zero s s1 s2 a b (mid, r, more) h r' g = absurd (no_round o limits s mid b (ends_at limits s s2 b r' g) r)
one_rounds o limits (suc n) (suc m) s s1 s2 a b (mid, r, more) h (mid', r', more') g =
    one_rounds o limits n m mid s1 s2 a b more h (subst (λ (z : Progress). Rounds o limits m z s2) (sym (one_does o limits s mid mid' r.does r'.does)) more') g

pub one_run : (o : Origin) (limits : Limits) (s1 s2 : Progress) (a b : Ending) → Serial o limits s1 a → Serial o limits s2 b → (s1 ≡ s2) × (a ≡ b)
one_run o limits s1 s2 a b (n, r, h) (m, r', g) = one_rounds o limits n m (opening_progress o) s1 s2 a b r h r' g

-- a dead task stays dead
still : (vs : List ℕ) (t : ℕ) (g : List Answer) (y z : Standing) → is_live y ≡ false → Other vs t y z g → is_live z ≡ false
still vs t g y z dead (inl (same, none)) = ap is_live same ∙ dead
still vs t g y z dead (inr (inl (p, a, was, now, one, fit))) = let f : true ≡ false = ap is_live (sym was) ∙ dead in absurd (cc)
still vs t g y z dead (inr (inr (named, died, none))) = died

ready_lives : (y : Standing) → Ready ≡ y → is_live y ≡ false → ⊥
ready_lives y e dead = let f : true ≡ false = ap is_live e ∙ dead in cc

dead_step : (o : Origin) (h : List Entry) (v w : World) (e : Entry) (t : ℕ) → Goes o h v → Step o v e w → IsDead v.common.shared t → IsDead w.common.shared t × IsOfOthers t e
dead_step o h v w (entries.Script ev r) t goes step dead =
    let (y, yat, y_dead) = dead_standing v.common.shared t dead in
    let (z, zat, other) = other_script (basis o) v.common.shared goes.orderly ev.what t y yat in
    (standing_dead w.common.shared t z (ap (λ (x : World). standing_at x.common.shared.roster t) step.new_is ∙ zat) (still (victims_of ev.what) t _ y z y_dead other), tt)
dead_step o h v w (entries.Ask u k q r) t goes step dead = by (dead_standing v.common.shared t dead) (decide t u)
  where
    ready : standing_at v.common.shared.roster u ≡ Some Ready
    ready = can_ready v.common.shared u step.ready

    by : (y : Standing) × (standing_at v.common.shared.roster t ≡ Some y) × (is_live y ≡ false) → (t ≡ u) ⊎ (t ≢ u) → IsDead w.common.shared t × (u ≢ t)
    by (y, yat, y_dead) (inl same) = absurd (ready_lives y (one_at Ready y (standing_at v.common.shared.roster u) ready (ap (λ (n : ℕ). standing_at v.common.shared.roster n) (sym same) ∙ yat)) y_dead)
    by (y, yat, y_dead) (inr n) =
        let (z, zat, other) = other_ask (basis o) v.common.shared goes.orderly u q ready t y n yat in
        (standing_dead w.common.shared t z (ap (λ (x : World). standing_at x.common.shared.roster t) step.new_is ∙ zat) (still (victims q) t _ y z y_dead other), (λ e. n (sym e)))

pub dead_from : (o : Origin) (h more : List Entry) (v w : World) (t : ℕ) → Goes o h v → RunFrom o v more w → IsDead v.common.shared t → IsDead w.common.shared t × AllByRecursion (IsOfOthers t) more
dead_from o h [] v w t goes run dead = (subst (λ (x : World). IsDead x.common.shared t) (sym run) dead, tt)
dead_from o h (e ∷ more) v w t goes (mid, step, run) dead =
    let (now, others) = dead_step o h v mid e t goes step dead in
    let (end, all) = dead_from o (h ++ e ∷ []) more mid w t (goes_step o h v mid e goes step) run now in
    (end, (others, all))

pub dead_run : (o : Origin) (before behind : List Entry) (v w : World) (t : ℕ) → Run o before v → IsDead v.common.shared t → RunFrom o v behind w → IsDead w.common.shared t × AllByRecursion (IsOfOthers t) behind
dead_run o before behind v w t run dead more = dead_from o before behind v w t (goes_run o before v run) more dead
