-- Each task of a run has come along its trail.
use Rattle.std.proofs.Common.{◌≡◌, ◌≢◌, ◌⊎◌, ◌<◌, ◌≤◌, ◌+◌, ◌++◌, ℕ, suc, Bool, true, false, cond, List, [], ◌∷◌, length, Option, Some, None, refl, sym, ap, ◌∙◌, subst, arith, inl, inr, eqb, length-append, append-nil, append_assoc}
use Rattle.std.proofs.lemmas.List.{length-map}
use Rattle.std.specs.Option.{option_map_or}
use Rattle.ci_base.specs.declared.entry.Entry.{Entry}
use Rattle.ci_base.specs.declared.entry.Entry.TheVariants as entries
use Rattle.ci_base.specs.declared.event.Event.{Event}
use Rattle.ci_base.specs.declared.event.EventReply.{EventReply}
use Rattle.ci_base.specs.declared.reply.Answer.{Answer}
use Rattle.ci_base.specs.declared.reply.Reply.{Reply}
use Rattle.ci_base.specs.declared.reply.Reply.TheVariants as replies
use Rattle.ci_base.specs.declared.request.Request.{Request}
use Rattle.ci_base.specs.declared.task.Birth.{Birth}
use Rattle.ci_base.specs.declared.task.Delivery.{Delivery}
use Rattle.ci_base.specs.declared.task.Trail.{Trail}
use Rattle.ci_base.specs.Steps.{Stands}
use Rattle.ci_tree.specs.Bound.{Project}
use Rattle.ci_tree.specs.Layouts.{head_of}
use Rattle.ci_meaning.specs.Configuration.{Configuration, opening}
use Rattle.ci_meaning.specs.Meaning.{next, resume}
use Rattle.ci_shared.proofs.Numbers.{decide, eqb_same, eqb_apart}
use Rattle.ci_shared.specs.Laws.{Other, Grows, victims, victims_of, woken}
use Rattle.ci_shared.specs.Roster.{Standing, Ready, Waiting, Ended, Killed, Task, standing_in, standing_at, is_live}
use Rattle.ci_shared.specs.Serving.{apply, script}
use Rattle.ci_shared.specs.Started.{fresh}
use Rattle.ci_shared.specs.State.{Served}
use Rattle.ci_world.proofs.Lists.{at_set, at_other, at_pushed, at_within, at_there, len_set, one_at, none_at, standing_pushed, standing_within, standing_there}
use Rattle.ci_world.proofs.Served.{IsNotBorn, older, born, common_snoc, trail_snoc, answers_of, asker_woken, other_woken}
use Rattle.ci_world.proofs.Serving.{Orderly, StandsBy, other_ask, ask_grows, own_ask, ask_orderly, other_script, script_grows, script_orderly, opening_orderly}
use Rattle.ci_world.proofs.Tasks.{can_ready}
use Rattle.ci_world.specs.Follow.{Comes, IsAt, ComesAlong, Follows}
use Rattle.ci_world.specs.Lists.{at_task, set_task}
use Rattle.ci_world.specs.Trails.{Told, told, behind_front, common_after, next_by, next_trail, with_answers, trail}
use Rattle.ci_world.specs.World.{Origin, Common, World, basis, delivered, with_birth, answer_to, Asks, Happens, Step, Run, RunFrom, opening_world}

-- one answer more
pub comes_snoc : (p : Project) (more : List Answer) (c e : Configuration) (k : ℕ) (q : Request) (d : Configuration) (a : Answer) → Comes p c more e → Stands (next p) e k q d → Comes p c (more ++ a ∷ []) (resume d a)
comes_snoc p [] c e k q d a l s = (k, q, d, subst (λ (x : Configuration). Stands (next p) x k q d) l s, refl)
comes_snoc p (b ∷ more) c e k q d a (k', q', d', s', l) s = (k', q', d', s', comes_snoc p more (resume d' b) e k q d a l s)

-- a configuration after some answers
abbrev pub resumed : Configuration → List Answer → Configuration
resumed c [] = c
resumed c (a ∷ more) = resumed (resume c a) more

set_if : (cs : List Configuration) (d : ℕ) (a : Answer) (t : ℕ) (c : Configuration) → at_task cs t ≡ Some c → (b : Bool) → eqb d t ≡ b →
    at_task (option_map_or (λ (x : Configuration). set_task cs d (resume x a)) (at_task cs d) cs) t ≡ Some (cond b (resume c a) c)
set_if cs d a t c is true e =
    let same : d ≡ t = eqb_same d t e in
    subst (λ (x : ℕ). at_task (option_map_or (λ (y : Configuration). set_task cs x (resume y a)) (at_task cs x) cs) t ≡ Some (resume c a)) (sym same)
    (subst (λ (o : Option Configuration). at_task (option_map_or (λ (y : Configuration). set_task cs t (resume y a)) o cs) t ≡ Some (resume c a)) (sym is) (at_set cs t c (resume c a) is))
set_if cs d a t c is false e = by (at_task cs d)
  where
    by : (o : Option Configuration) → at_task (option_map_or (λ (y : Configuration). set_task cs d (resume y a)) o cs) t ≡ Some c
    by None = is
    by (Some x) = at_other cs d t (resume x a) (λ same. eqb_apart d t e (sym same)) ∙ is

pub at_delivered : (ds : List Delivery) (cs : List Configuration) (t : ℕ) (c : Configuration) → at_task cs t ≡ Some c → at_task (delivered cs ds) t ≡ Some (resumed c (woken t ds))
at_delivered [] cs t c is = is
at_delivered (d ∷ ds) cs t c is = by (eqb d.task t) (set_if cs d.task d.answer t c is (eqb d.task t) refl) (λ c'. at_delivered ds _ t c')
  where
    cs' : List Configuration
    cs' = option_map_or (λ (x : Configuration). set_task cs d.task (resume x d.answer)) (at_task cs d.task) cs

    by : (b : Bool) → at_task cs' t ≡ Some (cond b (resume c d.answer) c) → ((c' : Configuration) → at_task cs' t ≡ Some c' → at_task (delivered cs' ds) t ≡ Some (resumed c' (woken t ds))) →
        at_task (delivered cs' ds) t ≡ Some (resumed c (cond b (d.answer ∷ woken t ds) (woken t ds)))
    by true e f = f (resume c d.answer) e
    by false e f = f c e

map_length : (cs : List Configuration) (d : ℕ) (a : Answer) (o : Option Configuration) → length (option_map_or (λ (x : Configuration). set_task cs d (resume x a)) o cs) ≡ length cs
map_length cs d a None = refl
map_length cs d a (Some x) = len_set cs d (resume x a)

pub delivered_length : (ds : List Delivery) (cs : List Configuration) → length (delivered cs ds) ≡ length cs
delivered_length [] cs = refl
delivered_length (d ∷ ds) cs = delivered_length ds _ ∙ map_length cs d.task d.answer (at_task cs d.task)

dead_is_at : (p : Project) (c0 c : Configuration) (y : Standing) → is_live y ≡ false → IsAt p y c0 c
dead_is_at p c0 c Ready e = absurd (cc)
dead_is_at p c0 c (Waiting q) e = absurd (cc)
dead_is_at p c0 c (Ended code) e = tt
dead_is_at p c0 c Killed e = tt

module _ (o : Origin) where
  -- without an answer
  unanswered : (x : Trail) (b : Birth) (y : Standing) (c0 c : Configuration) → x.birth ≡ Some b → b.function < length o.project.functions → Comes o.project (opening o.project b.function b.args) x.answers c0 → IsAt o.project y c0 c → ComesAlong o (with_answers x []) y c
  unanswered x b y c0 c is lt l at =
      (b, is, lt, (c0, subst (λ (more : List Answer). Comes o.project (opening o.project b.function b.args) more c0) (sym (append-nil x.answers)) l, at))

  -- with an answer to the request at which it stands
  answered : (x : Trail) (b : Birth) (k : ℕ) (q : Request) (a : Answer) (c0 c : Configuration) → x.birth ≡ Some b → b.function < length o.project.functions → Comes o.project (opening o.project b.function b.args) x.answers c0 → Stands (next o.project) c0 k q c →
      ComesAlong o (with_answers x (a ∷ [])) Ready (resume c a)
  answered x b k q a c0 c is lt l st = (b, is, lt, (resume c a, comes_snoc o.project x.answers (opening o.project b.function b.args) c0 k q c a l st, refl))

  -- a task to which something happens keeps on its trail
  other_comes : (vs : List ℕ) (t : ℕ) (x : Trail) (y z : Standing) (c : Configuration) (g : List Answer) → ComesAlong o x y c → Other vs t y z g → ComesAlong o (with_answers x g) z (resumed c g)
  other_comes vs t x y z c g (b, is, lt, (c0, l, at)) (inl (same, none)) =
      subst (λ (more : List Answer). ComesAlong o (with_answers x more) z (resumed c more)) (sym none)
      (unanswered x b z c0 c is lt l (subst (λ (s : Standing). IsAt o.project s c0 c) (sym same) at))
  other_comes vs t x y z c g (b, is, lt, (c0, l, at)) (inr (inl (p, a, was, now, one, fit))) =
      let (k, q, st) = subst (λ (s : Standing). IsAt o.project s c0 c) was at in
      subst (λ (more : List Answer). ComesAlong o (with_answers x more) z (resumed c more)) (sym one)
      (subst (λ (s : Standing). ComesAlong o (with_answers x (a ∷ [])) s (resume c a)) (sym now)
      (answered x b k q a c0 c is lt l st))
  other_comes vs t x y z c g (b, is, lt, (c0, l, at)) (inr (inr (named, dead, none))) =
      subst (λ (more : List Answer). ComesAlong o (with_answers x more) z (resumed c more)) (sym none)
      (unanswered x b z c0 c is lt l (dead_is_at o.project c0 c z dead))

  -- so does the task that asks
  own_comes : (x : Trail) (z : Standing) (from at : Configuration) (k : ℕ) (q : Request) (r : Reply) → ComesAlong o x Ready from → Stands (next o.project) from k q at → StandsBy r z → ComesAlong o (with_answers x (answers_of r)) z (resumed at (answers_of r))
  own_comes x z from at k q (replies.Answer a) (b, is, lt, (c0, l, here)) st ready =
      subst (λ (s : Standing). ComesAlong o (with_answers x (a ∷ [])) s (resume at a)) (sym ready)
      (answered x b k q a c0 at is lt l (subst (λ (c : Configuration). Stands (next o.project) c k q at) here st))
  own_comes x z from at k q replies.Waits (b, is, lt, (c0, l, here)) st (p, waits) =
      subst (λ (s : Standing). ComesAlong o (with_answers x []) s at) (sym waits)
      (unanswered x b (Waiting p) c0 at is lt l (k, q, subst (λ (c : Configuration). Stands (next o.project) c k q at) here st))
  own_comes x z from at k q replies.Ends (b, is, lt, (c0, l, here)) st dead = unanswered x b z c0 at is lt l (dead_is_at o.project c0 at z dead)

-- what is known of a task that was there, after serving
abbrev pub GoesTo : Origin → Trail → List Answer → List Task → List Configuration → ℕ → Type 0
GoesTo o x more tasks cs t = (z : Standing) × (c : Configuration) × (standing_in tasks t ≡ Some z) × (at_task cs t ≡ Some c) × ComesAlong o (with_answers x more) z c

-- the tasks that were there, and the one that may be born
follows_after : (o : Origin) (h : List Entry) (w w' : World) (e : Entry) (cs : List Configuration) → Follows o h w →
    w'.common ≡ (told o w.common e).common → length cs ≡ length w.configurations →
    w'.configurations ≡ with_birth o.project (delivered cs (told o w.common e).deliveries) (told o w.common e).birth →
    Grows (basis o) w.common.shared.roster.tasks (told o w.common e).common.shared.roster.tasks (told o w.common e).birth →
    ((t : ℕ) (y : Standing) (c : Configuration) → standing_at w.common.shared.roster t ≡ Some y → at_task w.configurations t ≡ Some c →
    GoesTo o (trail o t h) (woken t (told o w.common e).deliveries) (told o w.common e).common.shared.roster.tasks (delivered cs (told o w.common e).deliveries) t) →
    Follows o (h ++ e ∷ []) w'
follows_after o h w w' e cs fol cm len confs grows goes = by x.birth refl confs grows
  where
    x : Told
    x = told o w.common e

    old : List Task
    old = w.common.shared.roster.tasks

    new : List Task
    new = x.common.shared.roster.tasks

    ds : List Configuration
    ds = delivered cs x.deliveries

    ds_len : length ds ≡ length old
    ds_len = delivered_length x.deliveries cs ∙ len ∙ fol.many

    common_is : w'.common ≡ common_after o (h ++ e ∷ [])
    common_is = cm ∙ ap (λ (c : Common). (told o c e).common) fol.common ∙ sym (common_snoc o h e)

    trail_is : (t : ℕ) → trail o t (h ++ e ∷ []) ≡ next_by t (trail o t h) (woken t x.deliveries) x.birth
    trail_is t = trail_snoc o t h e ∙ ap (λ (c : Common). next_trail t (trail o t h) (told o c e)) (sym fol.common)

    was_there : (t : ℕ) (z : Standing) (c : Configuration) → 1 ≤ t → t ≤ length old → IsNotBorn t x.birth → standing_in new t ≡ Some z → at_task ds t ≡ Some c → ComesAlong o (trail o t (h ++ e ∷ [])) z c
    was_there t z c one le other zat cat =
        let (y, yat) = standing_there old t one le in
        let (c0, c0at) = at_there w.configurations t one (omega (arith, fol.many)) in
        let (z', c', z'at, c'at, f) = goes t y c0 yat c0at in
        let ez : z' ≡ z = one_at z' z (standing_in new t) z'at zat in
        let ec : c' ≡ c = one_at c' c (at_task ds t) c'at cat in
        subst (λ (tr : Trail). ComesAlong o tr z c) (sym (trail_is t ∙ older t (trail o t h) (woken t x.deliveries) x.birth other))
        (subst (λ (s : Standing). ComesAlong o (with_answers (trail o t h) (woken t x.deliveries)) s c) ez
        (subst (λ (d : Configuration). ComesAlong o (with_answers (trail o t h) (woken t x.deliveries)) z' d) ec f))

    standing_is : (t : ℕ) (z : Standing) → standing_at w'.common.shared.roster t ≡ Some z → standing_in new t ≡ Some z
    standing_is t z zat = ap (λ (c : Common). standing_at c.shared.roster t) (sym cm) ∙ zat

    by : (b : Option Birth) → x.birth ≡ b → w'.configurations ≡ with_birth o.project ds b → Grows (basis o) old new b → Follows o (h ++ e ∷ []) w'
    by None is confs grows = record {
      common = common_is;
      many = ap (λ (l : List Configuration). length l) confs ∙ ds_len ∙ sym as_many ∙ ap (λ (c : Common). length c.shared.roster.tasks) (sym cm);
      each = λ t z c zat cat.
          let within = standing_within new t z (standing_is t z zat) in
          was_there t z c within.0 (omega (arith, within.1, as_many)) (subst (λ (b : Option Birth). IsNotBorn t b) (sym is) tt) (standing_is t z zat) (ap (λ (l : List Configuration). at_task l t) (sym confs) ∙ cat);
    }
      where
        as_many : length new ≡ length old
        as_many = sym (length-map new (λ (y : Task). y.function)) ∙ ap (λ (l : List ℕ). length l) grows ∙ length-map old (λ (y : Task). y.function)
    by (Some b) is confs (new_is, number, below, free, args) = record {
      common = common_is;
      many = ap (λ (l : List Configuration). length l) confs ∙ length-append ds (first ∷ []) ∙ ap (λ (n : ℕ). n + 1) ds_len ∙ sym (length-append old (fresh b.function ∷ [])) ∙ ap (λ (l : List Task). length l) (sym new_is)
          ∙ ap (λ (c : Common). length c.shared.roster.tasks) (sym cm);
      each = λ t z c zat cat.
          let zat' : standing_in new t ≡ Some z = standing_is t z zat in
          let cat' : at_task (ds ++ first ∷ []) t ≡ Some c = ap (λ (l : List Configuration). at_task l t) (sym confs) ∙ cat in
          split t z c zat' cat' (standing_pushed old t z (fresh b.function) (ap (λ (l : List Task). standing_in l t) (sym new_is) ∙ zat')) (at_pushed ds t c first cat');
    }
      where
        first : Configuration
        first = opening o.project b.function b.args

        split : (t : ℕ) (z : Standing) (c : Configuration) → standing_in new t ≡ Some z → at_task (ds ++ first ∷ []) t ≡ Some c →
            (standing_in old t ≡ Some z) ⊎ ((t ≡ suc (length old)) × (Ready ≡ z)) → (at_task ds t ≡ Some c) ⊎ ((t ≡ suc (length ds)) × (first ≡ c)) → ComesAlong o (trail o t (h ++ e ∷ [])) z c
        split t z c zat cat (inl p) (inl q) =
            let within = standing_within old t z p in
            was_there t z c within.0 within.1 (subst (λ (m : Option Birth). IsNotBorn t m) (sym is) (λ same. omega (arith, same, number, within.1))) zat q
        split t z c zat cat (inl p) (inr q) = let within = standing_within old t z p in absurd (omega (arith, within.1, q.0, ds_len))
        split t z c zat cat (inr p) (inl q) = let within = at_within ds t c q in absurd (omega (arith, within.1, p.0, ds_len))
        split t z c zat cat (inr p) (inr q) =
            let its : trail o t (h ++ e ∷ []) ≡ record { birth = Some b; answers = [] } =
            trail_is t ∙ ap (λ (m : Option Birth). next_by t (trail o t h) (woken t x.deliveries) m) is ∙ born t (trail o t h) (woken t x.deliveries) b (number ∙ sym p.0) in
            subst (λ (tr : Trail). ComesAlong o tr z c) (sym its)
            (subst (λ (s : Standing). ComesAlong o (record { birth = Some b; answers = [] }) s c) p.1
            (b, refl, subst (λ (n : ℕ). b.function < n) (length-map o.project.functions head_of) below, (first, refl, sym q.1)))

pub follows_ask : (o : Origin) (h : List Entry) (w w' : World) (u k : ℕ) (q : Request) (r : Reply) → Orderly w.common.shared → Follows o h w → Asks o w u k q r w' → Follows o (h ++ entries.Ask u k q r ∷ []) w'
follows_ask o h w w' u k q r orderly fol a = follows_after o h w w' (entries.Ask u k q r) cs fol cm len confs (ask_grows (basis o) w.common.shared orderly u q ready) goes
  where
    y : Served Reply
    y = apply (basis o) w.common.shared u q

    cs : List Configuration
    cs = set_task w.configurations u a.at

    ready : standing_at w.common.shared.roster u ≡ Some Ready
    ready = can_ready w.common.shared u a.ready

    all : List Delivery
    all = answer_to u y.reply ++ y.deliveries

    cm : w'.common ≡ (told o w.common (entries.Ask u k q r)).common
    cm = ap (λ (z : World). z.common) a.new_is

    len : length cs ≡ length w.configurations
    len = len_set w.configurations u a.at

    confs : w'.configurations ≡ with_birth o.project (delivered cs all) y.birth
    confs = ap (λ (z : World). z.configurations) a.new_is

    goes : (t : ℕ) (s : Standing) (c : Configuration) → standing_at w.common.shared.roster t ≡ Some s → at_task w.configurations t ≡ Some c → GoesTo o (trail o t h) (woken t all) y.shared.roster.tasks (delivered cs all) t
    goes t s c sat cat = by (decide t u)
      where
        by : (t ≡ u) ⊎ (t ≢ u) → GoesTo o (trail o t h) (woken t all) y.shared.roster.tasks (delivered cs all) t
        by (inl same) =
            let owns = own_ask (basis o) w.common.shared orderly u q ready in
            let along : ComesAlong o (with_answers (trail o u h) (answers_of y.reply)) owns.now (resumed a.at (answers_of y.reply)) =
            own_comes o (trail o u h) owns.now a.from a.at k q y.reply (fol.each u Ready a.from ready a.from_is) a.stands owns.stands in
            let at : at_task (delivered cs all) u ≡ Some (resumed a.at (woken u all)) = at_delivered all cs u a.at (at_set w.configurations u a.from a.at a.from_is) in
            subst (λ (n : ℕ). GoesTo o (trail o n h) (woken n all) y.shared.roster.tasks (delivered cs all) n) (sym same)
            (owns.now, resumed a.at (woken u all), owns.at, at, subst (λ (g : List Answer). ComesAlong o (with_answers (trail o u h) g) owns.now (resumed a.at g)) (sym (asker_woken u y.reply y.deliveries owns.alone)) along)
        by (inr n) =
            let (z, zat, other) = other_ask (basis o) w.common.shared orderly u q ready t s n sat in
            let along = other_comes o (victims q) t (trail o t h) s z c (woken t y.deliveries) (fol.each t s c sat cat) other in
            let at : at_task (delivered cs all) t ≡ Some (resumed c (woken t all)) = at_delivered all cs t c (at_other w.configurations u t a.at n ∙ cat) in
            (z, resumed c (woken t all), zat, at, subst (λ (g : List Answer). ComesAlong o (with_answers (trail o t h) g) z (resumed c g)) (sym (other_woken t u y.reply y.deliveries n)) along)

pub follows_event : (o : Origin) (h : List Entry) (w w' : World) (e : Event) (r : EventReply) → Orderly w.common.shared → Follows o h w → Happens o w e r w' → Follows o (h ++ entries.Script e r ∷ []) w'
follows_event o h w w' e r orderly fol a = follows_after o h w w' (entries.Script e r) w.configurations fol cm refl confs (script_grows (basis o) w.common.shared orderly e.what) goes
  where
    y : Served EventReply
    y = script (basis o) w.common.shared e.what

    cm : w'.common ≡ (told o w.common (entries.Script e r)).common
    cm = ap (λ (z : World). z.common) a.new_is ∙ ap (λ (l : List Event). record { shared = y.shared; left = l }) (sym (ap behind_front a.front))

    confs : w'.configurations ≡ with_birth o.project (delivered w.configurations y.deliveries) y.birth
    confs = ap (λ (z : World). z.configurations) a.new_is

    goes : (t : ℕ) (s : Standing) (c : Configuration) → standing_at w.common.shared.roster t ≡ Some s → at_task w.configurations t ≡ Some c → GoesTo o (trail o t h) (woken t y.deliveries) y.shared.roster.tasks (delivered w.configurations y.deliveries) t
    goes t s c sat cat =
        let (z, zat, other) = other_script (basis o) w.common.shared orderly e.what t s sat in
        let along = other_comes o (victims_of e.what) t (trail o t h) s z c (woken t y.deliveries) (fol.each t s c sat cat) other in
        (z, resumed c (woken t y.deliveries), zat, at_delivered y.deliveries w.configurations t c cat, along)

-- the world after a history, whose shared state is orderly
pub record Goes (o : Origin) (h : List Entry) (w : World) : Type 0 where
  pub orderly : Orderly w.common.shared
  pub follows : Follows o h w

pub goes_step : (o : Origin) (h : List Entry) (w w' : World) (e : Entry) → Goes o h w → Step o w e w' → Goes o (h ++ e ∷ []) w'
goes_step o h w w' (entries.Ask u k q r) g s = record {
  orderly = subst (λ (z : World). Orderly z.common.shared) (sym s.new_is) (ask_orderly (basis o) w.common.shared g.orderly u q (can_ready w.common.shared u s.ready));
  follows = follows_ask o h w w' u k q r g.orderly g.follows s;
}
goes_step o h w w' (entries.Script e r) g s = record {
  orderly = subst (λ (z : World). Orderly z.common.shared) (sym s.new_is) (script_orderly (basis o) w.common.shared g.orderly e.what);
  follows = follows_event o h w w' e r g.orderly g.follows s;
}

pub goes_from : (o : Origin) (g h : List Entry) (w w' : World) → Goes o g w → RunFrom o w h w' → Goes o (g ++ h) w'
goes_from o g [] w w' goes s = subst (λ (l : List Entry). Goes o l w') (sym (append-nil g)) (subst (λ (z : World). Goes o g z) (sym s) goes)
goes_from o g (e ∷ h) w w' goes (mid, one, more) =
    subst (λ (l : List Entry). Goes o l w') (append_assoc g (e ∷ []) h) (goes_from o (g ++ e ∷ []) h mid w' (goes_step o g w mid e goes one) more)

pub goes_run : (o : Origin) (h : List Entry) (w : World) → Run o h w → Goes o h w
goes_run o h w run = goes_from o [] h (opening_world o) w (record {
  orderly = opening_orderly (basis o) _;
  follows = record { common = refl; many = refl; each = λ t y c yat cat. absurd (none_at t c cat) };
}) run

-- each task of a run has come along its trail
pub follows_run : (o : Origin) (h : List Entry) (w : World) → Run o h w → Follows o h w
follows_run o h w run = (goes_run o h w run).follows
