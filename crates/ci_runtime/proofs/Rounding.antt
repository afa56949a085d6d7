-- Events, turns and rounds.
use Rattle.std.proofs.Common.{◌≡◌, ◌<◌, ◌≤◌, ◌-◌, ◌&&◌, ℕ, zero, suc, Bool, true, false, cond, List, [], ◌∷◌, drop, Option, Some, None, refl, sym, ap, ap₂, ◌∙◌, subst, arith, inl, inr}
use Rattle.std.proofs.lemmas.Bool.{lt-ltb}
use Rattle.std.specs.Prelude.{IsFalse, nat_lt, option_map, slice_get}
use Rattle.ci_base.specs.declared.entry.Entry.{Entry}
use Rattle.ci_base.specs.declared.entry.Entry.TheVariants as entries
use Rattle.ci_base.specs.declared.event.Event.{Event}
use Rattle.ci_base.specs.declared.event.EventReply.{EventReply}
use Rattle.ci_base.specs.declared.limits.Limits.{Limits}
use Rattle.ci_base.specs.declared.limits.Turn.TheVariants as turns
use Rattle.ci_code.specs.declared.raw.RawParts.{RawParts}
use Rattle.ci_runtime.proofs.Turning.{common_in, in_progress}
use Rattle.ci_runtime.specs.declared.board.Board.{Board}
use Rattle.ci_runtime.specs.declared.choice.Choice.{Choice}
use Rattle.ci_runtime.specs.declared.choice.Choice.TheVariants as choices
use Rattle.ci_runtime.specs.Boards.{Taken}
use Rattle.ci_runtime.specs.Choosing.{choice_of, event_or_turn}
use Rattle.ci_runtime.specs.Desks.{CanGoOn, Chooses, DeskState, Does, DoesFrom, GoesBy, HasRest, Is, IsAtEnd, IsFrontDue, IsKept, IsSame, RoundFrom, TookFrom, TurnFrom, desk_of, left_of, next_task, shared_of, work_of}
use Rattle.ci_runtime.specs.Notes.{Noted}
use Rattle.ci_shared.specs.Roster.{Task}
use Rattle.ci_shared.specs.Serving.{script}
use Rattle.ci_shared.specs.Started.{Basis}
use Rattle.ci_shared.specs.State.{Served, Shared}
use Rattle.ci_world.proofs.Sound.{run_snoc}
use Rattle.ci_world.proofs.Tasks.{chosen_can}
use Rattle.ci_world.specs.Lists.{at_task}
use Rattle.ci_world.specs.Serial.{Progress, TakesEvent, TurnOf, chosen, first_above, or_else, took}
use Rattle.ci_world.specs.Tasks.{CanStep, NoneCanStep, can_step}
use Rattle.ci_world.specs.Trails.{common_after}
use Rattle.ci_world.specs.Work.{IsFinished, loose_of, work}
use Rattle.ci_world.specs.World.{Common, IsDue, Origin, basis, happened, opening_world}

due_in : (c c' : Common) (e : Event) → c ≡ c' → IsDue c' e → IsDue c e
due_in c c' e eq (inl a) = inl a
due_in c c' e eq (inr none) = inr (subst (λ (x : Common). NoneCanStep x.shared) (sym eq) none)

-- the front event is taken
pub took_from : (d : DeskState) (o : Origin) (code : RawParts) (limits : Limits) (b b' : Board) (e : Event) (rest : List Event) → IsKept o code limits b → desk_of o limits b ≡ d → left_of (desk_of o limits b) ≡ e ∷ rest → IsDue (common_after o b.notes.entries) e →
    Taken code e (script b.store.basis b.store.shared e.what) b b' → TookFrom d (desk_of o limits b')
took_from d o code limits b b' e rest k same front due tk =
    subst (λ (x : DeskState). TookFrom x (desk_of o limits b')) same
    (in_progress (desk_of o limits b) (λ s. (s' : Progress) × TakesEvent o s s' × Is (desk_of o limits b') s')
    (λ w run.
    let com' : w.common ≡ common_after o b.notes.entries = common_in o b.notes.entries w run in
    let served = script (basis o) w.common.shared e.what in
    let eq : script b.store.basis b.store.shared e.what ≡ served = ap₂ (λ (bs : Basis) (s : Shared). script bs s e.what) k.basis_is (k.shared_is ∙ ap (λ (x : Common). x.shared) (sym com')) in
    let tk' : Taken code e served b b' = subst (λ (x : Served EventReply). Taken code e x b b') eq tk in
    let front' : w.common.left ≡ e ∷ rest = ap (λ (x : Common). x.left) com' ∙ front in
    let s0 : Progress = record { world = w; history = b.notes.entries; ticks = b.notes.ticks; last = b.last } in (
      took o s0 e rest,
      (e, rest, front', due_in w.common (common_after o b.notes.entries) e com' due, refl),
      record {
        run = run_snoc o (opening_world o) w (happened o w e rest) b.notes.entries (entries.Script e served.reply) run (record { rest = rest; front = front'; due = due_in w.common (common_after o b.notes.entries) e com' due; reply_is = refl; new_is = refl });
        history = sym (ap (λ (x : Noted). x.entries) tk'.noted);
        ticks = sym (ap (λ (x : Noted). x.ticks) tk'.noted);
        last = sym tk'.last_is;
      },
    )))

-- a turn so far: whatever ends it from here on ends it from its beginning on
abbrev pub TurnSoFar : DeskState → ℕ → ℕ → DeskState → ℕ → Type 0
TurnSoFar d t left now rest = (s : Progress) → Is d s → (mid : Progress) × Is now mid × ((s' : Progress) → TurnOf d.origin d.limits mid t rest s' → TurnOf d.origin d.limits s t left s')

pub turn_begins : (d : DeskState) (t left : ℕ) → TurnSoFar d t left d left
turn_begins d t left s is = (s, is, λ s' h. h)

does_same : (d now : DeskState) (s s' : Progress) (t left : ℕ) (result : Option ℕ) → IsSame d now → Does now.origin now.limits s t left result s' → Does d.origin d.limits s t left result s'
does_same d now s s' t left result same does = subst (λ (l : Limits). Does d.origin l s t left result s') same.limits (subst (λ (o : Origin). Does o now.limits s t left result s') same.origin does)

pub turn_goes : (d now new : DeskState) (t left rest rest' : ℕ) → TurnSoFar d t left now rest → IsSame d now → DoesFrom now t rest (Some rest') new → TurnSoFar d t left new rest'
turn_goes d now new t left rest rest' so same does s is =
    let (mid, at, f) = so s is in
    let (s1, step, at1) = does mid at in
    let (reply, r, goes) = does_same d now mid s1 t rest (Some rest') same step in
    (s1, at1, λ s' h. f s' (suc h.0, (s1, rest', reply, r, goes, h.1)))

pub turn_ends : (d now new : DeskState) (t left rest : ℕ) → TurnSoFar d t left now rest → IsSame d now → DoesFrom now t rest None new → TurnFrom d t left new
turn_ends d now new t left rest so same does s is =
    let (mid, at, f) = so s is in
    let (s1, step, at1) = does mid at in
    (s1, f s1 (0, does_same d now mid s1 t rest None same step), at1)

pub common_is : (d : DeskState) (s : Progress) → Is d s → s.world.common ≡ common_after d.origin d.history
common_is d s is = common_in d.origin s.history s.world is.run ∙ ap (common_after d.origin) is.history

pub work_in : (d : DeskState) (s : Progress) → Is d s → work s.history (loose_of s.ticks) ≡ work_of d
work_in d s is = ap₂ (λ (x : List Entry) (y : List ℕ). work x (loose_of y)) is.history is.ticks

finished_in : (d : DeskState) (s : Progress) → Is d s → IsFinished s.world.common → IsAtEnd d
finished_in d s is f = let e = common_is d s is in record { no_event = ap (λ (c : Common). c.left) (sym e) ∙ f.no_event; none_can_step = subst (λ (c : Common). NoneCanStep c.shared) e f.none_can_step }

pub at_end : (d : DeskState) (s : Progress) → Is d s → IsAtEnd d → IsFinished s.world.common
at_end d s is f = let e = common_is d s is in record { no_event = ap (λ (c : Common). c.left) e ∙ f.no_event; none_can_step = subst (λ (c : Common). NoneCanStep c.shared) (sym e) f.none_can_step }

pub round_end : (d : DeskState) → Chooses d choices.End → RoundFrom d turns.Finished d
round_end d c s is = (s, (at_end d s is c, refl), is)

pub round_stop : (d : DeskState) → Chooses d choices.Stop → RoundFrom d turns.Spent d
round_stop d c s is = (s, ((λ f. c.0 (finished_in d s is f)), omega (arith, c.1, work_in d s is), refl), is)

pub none_left : {A : Type 0} (e : Event) (rest : List Event) → e ∷ rest ≡ [] → A
none_left e rest h = absurd (cc)

pub round_event : (d d' : DeskState) → HasRest d → IsFrontDue d → TookFrom d d' → RoundFrom d turns.Went d'
round_event d d' rest due took s is =
    let (s', takes, is') = took s is in
    (s', record { goes_on = λ f. none_left due.event due.rest (sym due.front ∙ (finished_in d s is f).no_event); budget = omega (arith, rest, work_in d s is); does = inl takes }, is')

-- no task has a turn exactly where none can make a step
none_above : (last n : ℕ) (xs : List Task) → ((i : ℕ) (x : Task) → slice_get xs i ≡ Some x → can_step x ≡ false) → first_above last n xs ≡ None
none_above last n [] f = refl
none_above last n (x ∷ xs) f = by (can_step x) (f 0 x refl) (nat_lt last n) (none_above last (suc n) xs (λ i. f (suc i)))
  where
    by : (a : Bool) → a ≡ false → (b : Bool) → first_above last (suc n) xs ≡ None → cond (a && b) (Some n) (first_above last (suc n) xs) ≡ None
    by true e b h = absurd (cc)
    by false e b h = h

none_of : (n : ℕ) (xs : List Task) → 1 ≤ n → first_above 0 n xs ≡ None → (i : ℕ) (x : Task) → slice_get xs i ≡ Some x → can_step x ≡ true → ⊥
none_of n [] le e i x at can = cc
none_of n (y ∷ xs) le e i x at can = by (can_step y) refl (nat_lt 0 n) (lt-ltb 0 n (omega arith)) e i at (λ rest i at. none_of (suc n) xs (omega arith) rest i x at can)
  where
    by : (a : Bool) → can_step y ≡ a → (b : Bool) → b ≡ true → cond (a && b) (Some n) (first_above 0 (suc n) xs) ≡ None → (i : ℕ) → slice_get (y ∷ xs) i ≡ Some x → (first_above 0 (suc n) xs ≡ None → (i : ℕ) → slice_get xs i ≡ Some x → ⊥) → ⊥
    by true ey true eb found i at f = cc found
    by true ey false eb found i at f = cc eb
    by false ey b eb found zero at f = let same : y ≡ x = cc at in let both : true ≡ false = sym can ∙ ap can_step (sym same) ∙ ey in cc both
    by false ey b eb found (suc i) at f = f found i at

bool_false : (b : Bool) → (b ≡ true → ⊥) → b ≡ false
bool_false true f = absurd (f refl)
bool_false false f = refl

none_chosen : (d : DeskState) → NoneCanStep (shared_of d) → next_task d ≡ None
none_chosen d none =
    let xs = (shared_of d).roster.tasks in
    let f : (i : ℕ) (x : Task) → slice_get xs i ≡ Some x → can_step x ≡ false = λ i x at. bool_false (can_step x) (λ can. none (suc i) (x, at, can)) in
    ap (λ (x : Option ℕ). or_else x (first_above 0 1 xs)) (none_above d.last 1 xs f) ∙ none_above 0 1 xs f

none_steps : (d : DeskState) → next_task d ≡ None → NoneCanStep (shared_of d)
none_steps d e t (x, at, can) = by (first_above d.last 1 (shared_of d).roster.tasks) (first_above 0 1 (shared_of d).roster.tasks) refl e t at
  where
    by : (a b : Option ℕ) → first_above 0 1 (shared_of d).roster.tasks ≡ b → or_else a b ≡ None → (t : ℕ) → at_task (shared_of d).roster.tasks t ≡ Some x → ⊥
    by a b eb e zero at = cc at
    by None b eb e (suc i) at = none_of 1 (shared_of d).roster.tasks (omega arith) (eb ∙ e) i x at can
    by (Some n) b eb e (suc i) at = cc e

no_some : {A : Type 0} (t : ℕ) → Some t ≡ None → A
no_some t h = absurd (cc)

-- which rule of a round applies
empty_of : (xs : List Event) → None ≡ option_map (λ (e : Event). e.soon) (slice_get xs 0) → xs ≡ []
empty_of [] e = refl
empty_of (x ∷ xs) e = absurd (cc)

full_of : (xs : List Event) (soon : Bool) → Some soon ≡ option_map (λ (e : Event). e.soon) (slice_get xs 0) → (e : Event) × (rest : List Event) × (xs ≡ e ∷ rest) × (soon ≡ e.soon)
full_of [] soon e = absurd (cc)
full_of (x ∷ xs) soon e = let same : soon ≡ x.soon = cc e in (x, xs, refl, same)

pub drop_first : (n : ℕ) (xs : List Event) → slice_get xs n ≡ slice_get (drop n xs) 0
drop_first zero [] = refl
drop_first (suc n) [] = refl
drop_first zero (x ∷ xs) = refl
drop_first (suc n) (x ∷ xs) = drop_first n xs

pub not_finished : (d : DeskState) (t : ℕ) → Some t ≡ next_task d → IsAtEnd d → ⊥
not_finished d t e f = no_some t (e ∙ none_chosen d f.none_can_step)

chooses : (d : DeskState) (front : Option Bool) (ready : Option ℕ) (spent : Bool) → front ≡ option_map (λ (e : Event). e.soon) (slice_get (left_of d) 0) → ready ≡ next_task d → (spent ≡ true → d.limits.budget - work_of d ≤ 100) → (spent ≡ false → HasRest d) → Chooses d (choice_of front ready spent)
chooses d None None spent fe re st sf = record { no_event = empty_of (left_of d) fe; none_can_step = none_steps d (sym re) }
chooses d None (Some t) true fe re st sf = (not_finished d t re, st refl)
chooses d None (Some t) false fe re st sf = (sf refl, sym re, λ e rest h. none_left e rest (sym h ∙ empty_of (left_of d) fe))
chooses d (Some soon) ready true fe re st sf = let (e, rest, is, same) = full_of (left_of d) soon fe in ((λ f. none_left e rest (sym is ∙ f.no_event)), st refl)
chooses d (Some soon) ready false fe re st sf = let (e, rest, is, same) = full_of (left_of d) soon fe in by soon ready re e rest is same
  where
    same_soon : (e e' : Event) (rest rest' : List Event) → left_of d ≡ e ∷ rest → left_of d ≡ e' ∷ rest' → e.soon ≡ false → IsFalse e'.soon
    same_soon e e' rest rest' h h' is = let both : e ∷ rest ≡ e' ∷ rest' = sym h ∙ h' in let same : e ≡ e' = cc both in ap (λ (x : Event). x.soon) (sym same) ∙ is

    by : (b : Bool) (ready : Option ℕ) → ready ≡ next_task d → (e : Event) (rest : List Event) → left_of d ≡ e ∷ rest → b ≡ e.soon → Chooses d (event_or_turn b ready)
    by true ready re e rest is same = (sf refl, record { event = e; rest = rest; front = is; due = inl (sym same) })
    by false None re e rest is same = (sf refl, record { event = e; rest = rest; front = is; due = inr (none_steps d (sym re)) })
    by false (Some t) re e rest is same = (sf refl, sym re, λ e' rest' h. same_soon e e' rest rest' is h (sym same))

pub choose_all : (d : DeskState) (o : Origin) (code : RawParts) (limits : Limits) (b : Board) (front : Option Bool) (ready : Option ℕ) (spent : Bool) (result : Choice) → IsKept o code limits b → desk_of o limits b ≡ d →
    front ≡ option_map (λ (e : Event). e.soon) (slice_get o.events b.next) → ready ≡ or_else (first_above b.last 1 b.store.shared.roster.tasks) (first_above 0 1 b.store.shared.roster.tasks) →
    (spent ≡ true → limits.budget - b.work ≤ 100) → (spent ≡ false → 100 < limits.budget - b.work) → result ≡ choice_of front ready spent → Chooses d result
choose_all d o code limits b front ready spent result k same fe re st sf is =
    subst (λ (x : DeskState). Chooses x result) same
    (subst (λ (x : Choice). Chooses (desk_of o limits b) x) (sym is)
    (chooses (desk_of o limits b) front ready spent (fe ∙ ap (option_map (λ (e : Event). e.soon)) (drop_first b.next o.events) ∙ ap (λ (l : List Event). option_map (λ (e : Event). e.soon) (slice_get l 0)) k.left_is)
    (re ∙ ap (λ (x : Shared). or_else (first_above b.last 1 x.roster.tasks) (first_above 0 1 x.roster.tasks)) k.shared_is)
    (λ e. let x = st e in omega (arith, x, k.work_is)) (λ e. let x = sf e in omega (arith, x, k.work_is))))

chosen_step : (d : DeskState) (t : ℕ) → next_task d ≡ Some t → CanStep (shared_of d) t
chosen_step d t e = chosen_can (record { world = record { common = common_after d.origin d.history; configurations = [] }; history = d.history; ticks = d.ticks; last = d.last }) t e

pub turn_can : (d : DeskState) (t left : ℕ) → Chooses d (choices.Turn t) → 0 < left → CanGoOn (record d { last = t }) t left
turn_can d t left c lt = record { can = chosen_step d t c.1; some = lt; rest = c.0 }

pub round_turn : (d d' : DeskState) (t : ℕ) → Chooses d (choices.Turn t) → TurnFrom (record d { last = t }) t d.limits.slice d' → RoundFrom d turns.Went d'
round_turn d d' t c turn s is =
    let eq = common_is d s is in
    let (s', r, is') = turn (record s { last = t }) (record { run = is.run; history = is.history; ticks = is.ticks; last = refl }) in
    let pick : chosen s ≡ Some t = ap₂ (λ (x : ℕ) (y : Common). or_else (first_above x 1 y.shared.roster.tasks) (first_above 0 1 y.shared.roster.tasks)) is.last eq ∙ c.1 in (
      s',
      record {
        goes_on = λ f. not_finished d t (sym c.1) (finished_in d s is f);
        budget = omega (arith, c.0, work_in d s is);
        does = inr ((λ e rest left. c.2 e rest (ap (λ (x : Common). x.left) (sym eq) ∙ left)), (t, pick, r));
      },
      is',
    )

pub can_in : (d : DeskState) (o : Origin) (limits : Limits) (b : Board) (t : ℕ) → desk_of o limits b ≡ d → Chooses d (choices.Turn t) → 0 < d.limits.slice → CanGoOn (desk_of o limits (record b { last = t })) t limits.slice
can_in d o limits b t same c lt = turn_can (desk_of o limits b) t limits.slice (subst (λ (x : DeskState). Chooses x (choices.Turn t)) (sym same) c) (subst (λ (x : DeskState). 0 < x.limits.slice) (sym same) lt)

pub turn_in : (d d' : DeskState) (o : Origin) (limits : Limits) (b : Board) (t : ℕ) → desk_of o limits b ≡ d → Chooses d (choices.Turn t) → TurnFrom (desk_of o limits (record b { last = t })) t limits.slice d' → RoundFrom d turns.Went d'
turn_in d d' o limits b t same c turn =
    subst (λ (x : DeskState). RoundFrom x turns.Went d') same (round_turn (desk_of o limits b) d' t (subst (λ (x : DeskState). Chooses x (choices.Turn t)) (sym same) c) turn)

-- a round that goes on
pub not_end_event : (d : DeskState) → Chooses d choices.Happen → GoesBy d turns.Went
not_end_event d c = ((λ f. none_left c.1.event c.1.rest (sym c.1.front ∙ f.no_event)), c.0)

pub not_end_turn : (d : DeskState) (t : ℕ) → Chooses d (choices.Turn t) → GoesBy d turns.Went
not_end_turn d t c = ((λ f. not_finished d t (sym c.1) f), c.0)
