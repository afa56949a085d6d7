-- The round-robin run is a run on the trees, its loose ticks fit, and its work is within the budget.
use Rattle.std.proofs.Common.{◌≡◌, ◌≢◌, ◌⊎◌, ◌<◌, ◌≤◌, ◌+◌, ◌++◌, ◌&&◌, ℕ, zero, suc, Bool, true, false, List, [], ◌∷◌, length, Option, Some, None, refl, sym, ap, ◌∙◌, subst, arith, inl, inr, sum, length-append, ltb-true}
use Rattle.std.proofs.lemmas.List.{length-map}
use Rattle.std.specs.Prelude.{nat_lt, not}
use Rattle.ci_base.specs.declared.entry.Entry.{Entry}
use Rattle.ci_base.specs.declared.entry.Entry.TheVariants as entries
use Rattle.ci_base.specs.declared.event.Event.{Event}
use Rattle.ci_base.specs.declared.event.EventReply.{EventReply}
use Rattle.ci_base.specs.declared.limits.Ending.{Ending}
use Rattle.ci_base.specs.declared.limits.Limits.{Limits}
use Rattle.ci_base.specs.declared.reply.Answer.{Answer}
use Rattle.ci_base.specs.declared.reply.Reply.{Reply}
use Rattle.ci_base.specs.declared.reply.Reply.TheVariants as replies
use Rattle.ci_base.specs.declared.task.Birth.{Birth}
use Rattle.ci_base.specs.declared.task.Delivery.{Delivery}
use Rattle.ci_base.specs.Steps.{Reaches}
use Rattle.ci_meaning.specs.Configuration.{Configuration, opening}
use Rattle.ci_meaning.specs.Meaning.{next}
use Rattle.ci_shared.proofs.Numbers.{decide}
use Rattle.ci_shared.specs.Laws.{Other, Grows, victims, victims_of, woken}
use Rattle.ci_shared.specs.Roster.{Standing, Ready, Waiting, Task, standing_in, standing_at, is_live}
use Rattle.ci_shared.specs.Serving.{apply, script}
use Rattle.ci_shared.specs.Started.{fresh}
use Rattle.ci_shared.specs.State.{Served}
use Rattle.ci_world.proofs.Follow.{Goes, goes_run, at_delivered, delivered_length, resumed}
use Rattle.ci_world.proofs.Lists.{at_set, at_other, at_pushed, at_within, at_there, len_set, none_at, one_at, standing_pushed, standing_within, standing_there}
use Rattle.ci_world.proofs.Machines.{here}
use Rattle.ci_world.proofs.Served.{other_woken}
use Rattle.ci_world.proofs.Serving.{StandsBy, other_ask, ask_grows, own_ask, other_script, script_grows}
use Rattle.ci_world.proofs.Tasks.{can_ready, ready_can, chosen_can}
use Rattle.ci_world.proofs.Working.{HasMade, loose_fits, sum_set, sum_with, work_more, work_snoc}
use Rattle.ci_world.specs.Lists.{at_task, set_task}
use Rattle.ci_world.specs.Serial.{Progress, opening_progress, loose, rest_of, granted, ticks_with, took, Requests, RunsOut, TurnIn, is_answer, is_suspended, Round, Rounds, Serial, TakesEvent, GivesTurn}
use Rattle.ci_world.specs.Tasks.{CanStep}
use Rattle.ci_world.specs.Work.{work, FitsLoose, Ends}
use Rattle.ci_world.specs.World.{Origin, World, basis, IsDue, Step, Run, RunFrom, opening_world, answer_to, asked, happened, delivered, with_birth}

pub run_snoc : (o : Origin) (old mid new : World) (h : List Entry) (e : Entry) → RunFrom o old h mid → Step o mid e new → RunFrom o old (h ++ e ∷ []) new
run_snoc o old mid new [] e same step = (new, subst (λ (w : World). Step o w e new) same step, refl)
run_snoc o old mid new (x ∷ h) e (next, one, more) step = (next, one, run_snoc o next mid new h e more step)

-- the ticks of one task: its configuration reaches them, and a waiting task has none
pub record HasTicks (o : Origin) (y : Standing) (c : Configuration) (k : ℕ) : Type 0 where
  pub to : Configuration
  pub reaches : Reaches (next o.project) c k to
  pub waits : (p : _) → y ≡ Waiting p → k ≡ 0

no_ticks : (o : Origin) (y : Standing) (c : Configuration) → HasTicks o y c 0
no_ticks o y c = record { to = c; reaches = here (next o.project) c; waits = λ p e. refl }

pub record Sound (o : Origin) (limits : Limits) (s : Progress) : Type 0 where
  pub run : Run o s.history s.world
  pub many : length s.ticks ≡ length s.world.common.shared.roster.tasks
  pub ticks :
      (t : ℕ) (y : Standing) (c : Configuration) (k : ℕ) → standing_at s.world.common.shared.roster t ≡ Some y → at_task s.world.configurations t ≡ Some c → at_task s.ticks t ≡ Some k →
      HasTicks o y c k
  pub within : work s.history (loose s) ≤ limits.budget

-- the number of tasks
as_many : (o : Origin) (old new : List Task) (ticks : List ℕ) (b : Option Birth) → Grows (basis o) old new b → length ticks ≡ length old → length (ticks_with ticks b) ≡ length new
as_many o old new ticks None grows many = many ∙ sym (length-map old (λ (y : Task). y.function)) ∙ ap (λ (l : List ℕ). length l) (sym grows) ∙ length-map new (λ (y : Task). y.function)
as_many o old new ticks (Some b) (new_is, number, below, free, args) many =
    omega (arith, length-append ticks (0 ∷ []), many, ap (λ (l : List Task). length l) new_is, length-append old (fresh b.function ∷ []))

-- the ticks behind an entry
ticks_after : (o : Origin) (old new : List Task) (cs : List Configuration) (ticks : List ℕ) (b : Option Birth) → Grows (basis o) old new b → length cs ≡ length old → length ticks ≡ length old →
    ((t : ℕ) (y : Standing) (c : Configuration) (k : ℕ) → standing_in old t ≡ Some y → at_task cs t ≡ Some c → at_task ticks t ≡ Some k → (z : Standing) × (standing_in new t ≡ Some z) × HasTicks o z c k) →
    (t : ℕ) (z : Standing) (c : Configuration) (k : ℕ) → standing_in new t ≡ Some z → at_task (with_birth o.project cs b) t ≡ Some c → at_task (ticks_with ticks b) t ≡ Some k → HasTicks o z c k
ticks_after o old new cs ticks None grows lc lt f t z c k zat cat kat =
    let within = at_within cs t c cat in
    let (y, yat) = standing_there old t within.0 (omega (arith, within.1, lc)) in
    let (z', z'at, has) = f t y c k yat cat kat in
    subst (λ (s : Standing). HasTicks o s c k) (one_at z' z (standing_in new t) z'at zat) has
ticks_after o old new cs ticks (Some b) (new_is, number, below, free, args) lc lt f t z c k zat cat kat =
    split (standing_pushed old t z (fresh b.function) (ap (λ (l : List Task). standing_in l t) (sym new_is) ∙ zat)) (at_pushed cs t c first cat) (at_pushed ticks t k 0 kat)
  where
    first : Configuration
    first = opening o.project b.function b.args

    split : (standing_in old t ≡ Some z) ⊎ ((t ≡ suc (length old)) × (Ready ≡ z)) → (at_task cs t ≡ Some c) ⊎ ((t ≡ suc (length cs)) × (first ≡ c)) → (at_task ticks t ≡ Some k) ⊎ ((t ≡ suc (length ticks)) × (0 ≡ k)) → HasTicks o z c k
    split (inl p) (inl q) (inl r) =
        let (z', z'at, has) = f t z c k p q r in
        subst (λ (s : Standing). HasTicks o s c k) (one_at z' z (standing_in new t) z'at zat) has
    split p q (inr r) = subst (λ (n : ℕ). HasTicks o z c n) r.1 (no_ticks o z c)
    split (inr p) q (inl r) = let w = at_within ticks t k r in absurd (omega (arith, w.1, p.0, lt))
    split (inl p) (inr q) (inl r) = let w = at_within ticks t k r in absurd (omega (arith, w.1, q.0, lc, lt))

-- a task that doesn't ask keeps its ticks
other_ticks : (o : Origin) (vs : List ℕ) (t : ℕ) (y z : Standing) (c : Configuration) (k : ℕ) (g : List Answer) → HasTicks o y c k → Other vs t y z g → HasTicks o z (resumed c g) k
other_ticks o vs t y z c k g has (inl (same, none)) =
    subst (λ (l : List Answer). HasTicks o z (resumed c l) k) (sym none) (subst (λ (s : Standing). HasTicks o s c k) (sym same) has)
other_ticks o vs t y z c k g has (inr (inl (p, a, was, now, one, fit))) =
    subst (λ (n : ℕ). HasTicks o z (resumed c g) n) (sym (has.waits p was)) (no_ticks o z (resumed c g))
other_ticks o vs t y z c k g has (inr (inr (named, dead, none))) =
    subst (λ (l : List Answer). HasTicks o z (resumed c l) k) (sym none) (record { to = has.to; reaches = has.reaches; waits = λ p e. absurd (waiting_lives p e) })
  where
    waiting_lives : (p : _) → z ≡ Waiting p → ⊥
    waiting_lives p e = let f : true ≡ false = ap is_live (sym e) ∙ dead in cc

-- a request
sound_ask : (o : Origin) (limits : Limits) (s : Progress) (u left : ℕ) (s' : Progress) (left' : ℕ) (reply : Reply) → Sound o limits s → CanStep s.world.common.shared u → 100 < rest_of limits s → Requests o limits s u left s' left' reply → Sound o limits s'
sound_ask o limits s u left s' left' reply snd can rest r = subst (λ (z : Progress). Sound o limits z) (sym r.next_is) (record {
  run = run_snoc o (opening_world o) s.world (asked o s.world u r.request r.at) s.history (entries.Ask u (r.before + r.more) r.request served.reply) snd.run
      (record { ready = can; from = r.from; from_is = r.from_is; at = r.at; stands = r.stands; reply_is = refl; new_is = refl });
  many = as_many o s.world.common.shared.roster.tasks served.shared.roster.tasks (set_task s.ticks u 0) served.birth grows (len_set s.ticks u 0 ∙ snd.many);
  ticks = ticks_after o s.world.common.shared.roster.tasks served.shared.roster.tasks (delivered cs all) (set_task s.ticks u 0) served.birth grows
      (delivered_length all cs ∙ len_set s.world.configurations u r.at ∙ goes.follows.many) (len_set s.ticks u 0 ∙ snd.many) (λ t. by t (decide t u));
  within = omega (arith, work_snoc s.history (entries.Ask u (r.before + r.more) r.request served.reply) s.ticks (ticks_with (set_task s.ticks u 0) served.birth) r.before sums, r.within, rest);
})
  where
    goes : Goes o s.history s.world
    goes = goes_run o s.history s.world snd.run

    ready : standing_at s.world.common.shared.roster u ≡ Some Ready
    ready = can_ready s.world.common.shared u can

    served : Served Reply
    served = apply (basis o) s.world.common.shared u r.request

    all : List Delivery
    all = answer_to u served.reply ++ served.deliveries

    cs : List Configuration
    cs = set_task s.world.configurations u r.at

    grows : Grows (basis o) s.world.common.shared.roster.tasks served.shared.roster.tasks served.birth
    grows = ask_grows (basis o) s.world.common.shared goes.orderly u r.request ready

    sums : sum (ticks_with (set_task s.ticks u 0) served.birth) + r.before ≡ sum s.ticks
    sums = omega (arith, sum_with (set_task s.ticks u 0) served.birth, sum_set s.ticks u r.before 0 r.before_is)

    by : (t : ℕ) → (t ≡ u) ⊎ (t ≢ u) → (y : Standing) (c : Configuration) (k : ℕ) → standing_at s.world.common.shared.roster t ≡ Some y → at_task (delivered cs all) t ≡ Some c → at_task (set_task s.ticks u 0) t ≡ Some k →
        (z : Standing) × (standing_at served.shared.roster t ≡ Some z) × HasTicks o z c k
    by t (inl same) y c k yat cat kat =
        let owns = own_ask (basis o) s.world.common.shared goes.orderly u r.request ready in
        let none : 0 ≡ k = one_at 0 k (at_task (set_task s.ticks u 0) u) (at_set s.ticks u r.before 0 r.before_is) (ap (λ (n : ℕ). at_task (set_task s.ticks u 0) n) (sym same) ∙ kat) in
        (owns.now, ap (λ (n : ℕ). standing_at served.shared.roster n) same ∙ owns.at, subst (λ (n : ℕ). HasTicks o owns.now c n) none (no_ticks o owns.now c))
    by t (inr n) y c k yat cat kat =
        let (z, zat, other) = other_ask (basis o) s.world.common.shared goes.orderly u r.request ready t y n yat in
        let within = standing_within s.world.common.shared.roster.tasks t y yat in
        let (c0, c0at) = at_there s.world.configurations t within.0 (omega (arith, within.1, goes.follows.many)) in
        let there : at_task (delivered cs all) t ≡ Some (resumed c0 (woken t all)) = at_delivered all cs t c0 (at_other s.world.configurations u t r.at n ∙ c0at) in
        let got : woken t all ≡ woken t served.deliveries = other_woken t u served.reply served.deliveries n in
        let has : HasTicks o z (resumed c0 (woken t served.deliveries)) k =
        other_ticks o (victims r.request) t y z c0 k (woken t served.deliveries) (snd.ticks t y c0 k yat c0at (sym (at_other s.ticks u t 0 n) ∙ kat)) other in (
          z,
          zat,
          subst (λ (d : Configuration). HasTicks o z d k) (one_at (resumed c0 (woken t all)) c (at_task (delivered cs all) t) there cat)
              (subst (λ (g : List Answer). HasTicks o z (resumed c0 g) k) (sym got) has),
        )

-- an event
sound_event : (o : Origin) (limits : Limits) (s : Progress) (e : Event) (rest : List Event) → Sound o limits s → s.world.common.left ≡ e ∷ rest → IsDue s.world.common e → 100 < rest_of limits s → Sound o limits (took o s e rest)
sound_event o limits s e rest snd front due more = record {
  run = run_snoc o (opening_world o) s.world (happened o s.world e rest) s.history (entries.Script e served.reply) snd.run (record { rest = rest; front = front; due = due; reply_is = refl; new_is = refl });
  many = as_many o s.world.common.shared.roster.tasks served.shared.roster.tasks s.ticks served.birth grows snd.many;
  ticks = ticks_after o s.world.common.shared.roster.tasks served.shared.roster.tasks (delivered s.world.configurations served.deliveries) s.ticks served.birth grows
      (delivered_length served.deliveries s.world.configurations ∙ goes.follows.many) snd.many by;
  within = omega (arith, work_snoc s.history (entries.Script e served.reply) s.ticks (ticks_with s.ticks served.birth) 0 sums, more);
}
  where
    goes : Goes o s.history s.world
    goes = goes_run o s.history s.world snd.run

    served : Served EventReply
    served = script (basis o) s.world.common.shared e.what

    grows : Grows (basis o) s.world.common.shared.roster.tasks served.shared.roster.tasks served.birth
    grows = script_grows (basis o) s.world.common.shared goes.orderly e.what

    sums : sum (ticks_with s.ticks served.birth) + 0 ≡ sum s.ticks
    sums = omega (arith, sum_with s.ticks served.birth)

    by : (t : ℕ) (y : Standing) (c : Configuration) (k : ℕ) → standing_at s.world.common.shared.roster t ≡ Some y → at_task (delivered s.world.configurations served.deliveries) t ≡ Some c → at_task s.ticks t ≡ Some k →
        (z : Standing) × (standing_at served.shared.roster t ≡ Some z) × HasTicks o z c k
    by t y c k yat cat kat =
        let (z, zat, other) = other_script (basis o) s.world.common.shared goes.orderly e.what t y yat in
        let within = standing_within s.world.common.shared.roster.tasks t y yat in
        let (c0, c0at) = at_there s.world.configurations t within.0 (omega (arith, within.1, goes.follows.many)) in
        let there = at_delivered served.deliveries s.world.configurations t c0 c0at in
        let has : HasTicks o z (resumed c0 (woken t served.deliveries)) k = other_ticks o (victims_of e.what) t y z c0 k (woken t served.deliveries) (snd.ticks t y c0 k yat c0at kat) other in
        (z, zat, subst (λ (d : Configuration). HasTicks o z d k) (one_at (resumed c0 (woken t served.deliveries)) c (at_task (delivered s.world.configurations served.deliveries) t) there cat) has)

-- the end of the ticks
sound_out : (o : Origin) (limits : Limits) (s : Progress) (u left : ℕ) (s' : Progress) → Sound o limits s → CanStep s.world.common.shared u → 100 < rest_of limits s → RunsOut o limits s u left s' → Sound o limits s'
sound_out o limits s u left s' snd can rest r = subst (λ (z : Progress). Sound o limits z) (sym r.next_is) (record {
  run = snd.run;
  many = len_set s.ticks u n ∙ snd.many;
  ticks = λ t y c k yat cat kat. by t (decide t u) y c k yat cat kat;
  within = omega (arith, work_more s.history s.ticks u r.before n r.before_is, rest);
})
  where
    n : ℕ
    n = r.before + granted limits s left

    by : (t : ℕ) → (t ≡ u) ⊎ (t ≢ u) → (y : Standing) (c : Configuration) (k : ℕ) → standing_at s.world.common.shared.roster t ≡ Some y → at_task s.world.configurations t ≡ Some c → at_task (set_task s.ticks u n) t ≡ Some k → HasTicks o y c k
    by t (inl same) y c k yat cat kat =
        let is_n : n ≡ k = one_at n k (at_task (set_task s.ticks u n) u) (at_set s.ticks u r.before n r.before_is) (ap (λ (m : ℕ). at_task (set_task s.ticks u n) m) (sym same) ∙ kat) in
        let is_c : r.from ≡ c = one_at r.from c (at_task s.world.configurations u) r.from_is (ap (λ (m : ℕ). at_task s.world.configurations m) (sym same) ∙ cat) in
        let is_y : Ready ≡ y = one_at Ready y (standing_at s.world.common.shared.roster u) (can_ready s.world.common.shared u can) (ap (λ (m : ℕ). standing_at s.world.common.shared.roster m) (sym same) ∙ yat) in
        record {
          to = r.ticks.0;
          reaches = subst (λ (z : Configuration). Reaches (next o.project) z k r.ticks.0) is_c (subst (λ (m : ℕ). Reaches (next o.project) r.from m r.ticks.0) is_n r.ticks.1);
          waits = λ p e. absurd (awake p (is_y ∙ e));
        }
      where
        awake : (p : _) → Ready ≡ Waiting p → ⊥
        awake p e = cc
    by t (inr d) y c k yat cat kat = snd.ticks t y c k yat cat (sym (at_other s.ticks u t n d) ∙ kat)

-- what goes on
goes_parts : (a b c d : Bool) → (a && not b && c && d) ≡ true → (a ≡ true) × (b ≡ false) × (d ≡ true)
goes_parts true false true true h = (refl, refl, refl)
goes_parts true false true false h = absurd (cc)
goes_parts true false false d h = absurd (cc)
goes_parts true true c d h = absurd (cc)
goes_parts false b c d h = absurd (cc)

answered_ready : (r : Reply) (y : Standing) → is_answer r ≡ true → StandsBy r y → y ≡ Ready
answered_ready (replies.Answer a) y e h = h
answered_ready replies.Waits y e h = absurd (cc)
answered_ready replies.Ends y e h = absurd (cc)

next_can : (o : Origin) (limits : Limits) (s : Progress) (u left : ℕ) (s' : Progress) (left' : ℕ) (reply : Reply) → Sound o limits s → CanStep s.world.common.shared u → Requests o limits s u left s' left' reply → is_answer reply ≡ true → is_suspended s'.world.common.shared u ≡ false →
    CanStep s'.world.common.shared u
next_can o limits s u left s' left' reply snd can r ans awake =
    let goes = goes_run o s.history s.world snd.run in
    let owns = own_ask (basis o) s.world.common.shared goes.orderly u r.request (can_ready s.world.common.shared u can) in
    let ready = answered_ready (apply (basis o) s.world.common.shared u r.request).reply owns.now (ap is_answer (sym r.reply_is) ∙ ans) owns.stands in
    let at : standing_at s'.world.common.shared.roster u ≡ Some Ready = ap (λ (z : Progress). standing_at z.world.common.shared.roster u) r.next_is ∙ owns.at ∙ ap (λ (y : Standing). Some y) ready in
    ready_can s'.world.common.shared u at awake

sound_turn : (o : Origin) (limits : Limits) (n : ℕ) (s : Progress) (u left : ℕ) (s' : Progress) → Sound o limits s → CanStep s.world.common.shared u → 100 < rest_of limits s → TurnIn o limits n s u left s' → Sound o limits s'
sound_turn o limits zero s u left s' snd can rest (inl r) = sound_out o limits s u left s' snd can rest r
sound_turn o limits zero s u left s' snd can rest (inr (left', reply, r, e)) = sound_ask o limits s u left s' left' reply snd can rest r
sound_turn o limits (suc n) s u left s' snd can rest (mid, left', reply, r, goes, more) =
    let parts = goes_parts (is_answer reply) (is_suspended mid.world.common.shared u) (nat_lt 0 left') (nat_lt 100 (rest_of limits mid)) goes in
    sound_turn o limits n mid u left' s' (sound_ask o limits s u left mid left' reply snd can rest r) (next_can o limits s u left mid left' reply snd can r parts.0 parts.1) (ltb-true 100 (rest_of limits mid) parts.2) more

sound_round : (o : Origin) (limits : Limits) (s s' : Progress) → Sound o limits s → Round o limits s s' → Sound o limits s'
sound_round o limits s s' snd r = by r.does
  where
    by : TakesEvent o s s' ⊎ GivesTurn o limits s s' → Sound o limits s'
    by (inl (e, left, front, due, is)) = subst (λ (z : Progress). Sound o limits z) (sym is) (sound_event o limits s e left snd front due r.budget)
    by (inr (late, (t, pick, (n, turn)))) =
        sound_turn o limits n (record s { last = t }) t limits.slice s' (record { run = snd.run; many = snd.many; ticks = snd.ticks; within = snd.within }) (chosen_can s t pick) r.budget turn

pub sound_rounds : (o : Origin) (limits : Limits) (n : ℕ) (s s' : Progress) → Sound o limits s → Rounds o limits n s s' → Sound o limits s'
sound_rounds o limits zero s s' snd r = subst (λ (z : Progress). Sound o limits z) (sym r) snd
sound_rounds o limits (suc n) s s' snd (mid, r, more) = sound_rounds o limits n mid s' (sound_round o limits s mid snd r) more

pub sound_opening : (o : Origin) (limits : Limits) → Sound o limits (opening_progress o)
sound_opening o limits = record { run = refl; many = refl; ticks = λ t y c k yat cat kat. absurd (none_at t c cat); within = omega arith }

pub sound_fits : (o : Origin) (limits : Limits) (s : Progress) → Sound o limits s → FitsLoose o s.world (loose s)
sound_fits o limits s snd = loose_fits o s.world s.ticks made
  where
    made : (t k : ℕ) → at_task s.ticks t ≡ Some k → HasMade o s.world t k
    made t k kat =
        let goes = goes_run o s.history s.world snd.run in
        let within = at_within s.ticks t k kat in
        let (y, yat) = standing_there s.world.common.shared.roster.tasks t within.0 (omega (arith, within.1, snd.many)) in
        let (c, cat) = at_there s.world.configurations t within.0 (omega (arith, within.1, snd.many, goes.follows.many)) in
        let has = snd.ticks t y c k yat cat kat in
        (c, cat, (has.to, has.reaches))

pub serial_sound : (o : Origin) (limits : Limits) (s : Progress) (ending : Ending) → Serial o limits s ending → Run o s.history s.world × FitsLoose o s.world (loose s) × Ends s.world s.history (loose s) limits.budget ending
serial_sound o limits s ending (n, rounds, ends) =
    let snd = sound_rounds o limits n (opening_progress o) s (sound_opening o limits) rounds in
    (snd.run, sound_fits o limits s snd, record { within = snd.within; as_it_ends = ends })
