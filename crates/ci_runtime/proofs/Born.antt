-- Each task that is started fits its function in the code, and there is room for it.
use Rattle.std.proofs.Common.{◌≡◌, ◌<◌, ◌≤◌, ◌++◌, ℕ, suc, Bool, true, false, cond, List, [], ◌∷◌, length, map, count_by, Option, Some, None, slice_get, refl, sym, ap, ◌∙◌, subst, arith, eqb, length-append}
use Rattle.std.proofs.lemmas.Bool.{or_parts, leb-false}
use Rattle.std.proofs.lemmas.List.{length-map, map-append}
use Rattle.std.proofs.lemmas.List.Elements.{All-append, All-cons, All-nil}
use Rattle.std.proofs.lemmas.List.Sums.{sum_by-cons}
use Rattle.std.specs.Prelude.{nat_le, All}
use Rattle.ci_base.specs.declared.bounds.TheConstants.{MOST_LIVE_TASKS, MOST_TASKS}
use Rattle.ci_base.specs.declared.entry.Entry.{Entry}
use Rattle.ci_base.specs.declared.layout.Head.{Head}
use Rattle.ci_base.specs.declared.layout.Layout.{Layout}
use Rattle.ci_base.specs.declared.reply.Answer.{Answer}
use Rattle.ci_base.specs.declared.task.Birth.{Birth}
use Rattle.ci_base.specs.declared.task.Trail.{Trail}
use Rattle.ci_base.specs.Values.{kind_of}
use Rattle.ci_code.specs.declared.raw.RawParts.{RawParts}
use Rattle.ci_code.specs.Code.{IsCode}
use Rattle.ci_code.specs.Moves.{parameters_in}
use Rattle.ci_runtime.specs.Along.{AllBorn, IsBorn}
use Rattle.ci_runtime.specs.Notes.{functions_with}
use Rattle.ci_runtime.specs.Seats.{Seat, is_taken, Changed, IsSeated, AreSeated, CanBegin}
use Rattle.ci_shared.proofs.Fitted.{arguments_fit}
use Rattle.ci_shared.specs.Laws.{Grows, functions, woken}
use Rattle.ci_shared.specs.Roster.{Standing, Ready, Waiting, Ended, Killed, Task, count_live, is_full, is_live}
use Rattle.ci_shared.specs.Started.{fresh}
use Rattle.ci_task.specs.Moved.{ArgsFit}
use Rattle.ci_tree.specs.Layouts.{layout_of}
use Rattle.ci_world.proofs.Lists.{at_there, at_within, standing_at_task}
use Rattle.ci_world.proofs.Served.{trail_snoc}
use Rattle.ci_world.specs.Trails.{common_after, next_by, told, trail, with_answers}
use Rattle.ci_world.specs.World.{Origin, basis}

-- a task that is started has a function of the code, whose parameters its arguments fit
abbrev pub IfBorn : RawParts → Option Birth → Type 0
IfBorn code None = Unit {0}
IfBorn code (Some b) = IsBorn code b

module _ (o : Origin) (code : RawParts) (layout : code.layout ≡ layout_of o.project) where
  pub born_fits : (old new : List Task) (birth : Option Birth) → Grows (basis o) old new birth → IfBorn code birth
  born_fits old new None g = tt
  born_fits old new (Some b) (new_is, number, below, free, (list, args)) =
      let P : Layout → Type 0 = λ l. (h : Head) × (slice_get l.functions b.function ≡ Some h) × (map kind_of b.args ≡ h.kinds) in
      subst P (sym layout) (arguments_fit (basis o).functions b.function list b.args args)

  births_after : (h : List Entry) (e : Entry) (birth : Option Birth) → (told o (common_after o h) e).birth ≡ birth → IfBorn code birth → AllBorn code o h → AllBorn code o (h ++ e ∷ [])
  births_after h e birth is fit all t b has = by birth (ap (λ (x : Trail). x.birth) (sym trail_is) ∙ has) fit
    where
      trail_is : trail o t (h ++ e ∷ []) ≡ next_by t (trail o t h) (woken t (told o (common_after o h) e).deliveries) birth
      trail_is = trail_snoc o t h e ∙ ap (λ (x : Option Birth). next_by t (trail o t h) (woken t (told o (common_after o h) e).deliveries) x) is

      pick : (more : List Answer) (c : Birth) (q : Bool) → (cond q (record { birth = Some c; answers = [] }) (with_answers (trail o t h) more)).birth ≡ Some b → IsBorn code c → IsBorn code b
      pick more c true born fit = let same : c ≡ b = cc born in subst (λ (x : Birth). IsBorn code x) same fit
      pick more c false born fit = all t b born

      by : (x : Option Birth) → (next_by t (trail o t h) (woken t (told o (common_after o h) e).deliveries) x).birth ≡ Some b → IfBorn code x → IsBorn code b
      by None born fit = all t b born
      by (Some c) born fit = pick (woken t (told o (common_after o h) e).deliveries) c (eqb c.task t) born fit

  pub births_snoc : (h : List Entry) (e : Entry) (old new : List Task) → Grows (basis o) old new (told o (common_after o h) e).birth → AllBorn code o h → AllBorn code o (h ++ e ∷ [])
  births_snoc h e old new grows all = births_after h e (told o (common_after o h) e).birth refl (born_fits old new (told o (common_after o h) e).birth grows) all

-- the arguments of a task that is started
args_fit : (code : RawParts) → IsCode code → (b : Birth) → IsBorn code b → ArgsFit code b.function b.args
args_fit code is b (h, found, kinds) =
    let w = at_within code.layout.functions (suc b.function) h found in
    let (f, at) = at_there code.functions (suc b.function) w.0 (omega (arith, w.1, is.one_each)) in
    record { function = f; found = at; kinds = kinds ∙ ap parameters_in (sym found) }

-- as many machines as live tasks at most
counts_in : (tasks : List Task) (seats : List Seat) → length seats ≡ length tasks → ((i : ℕ) (x : Task) (seat : Seat) → slice_get tasks i ≡ Some x → slice_get seats i ≡ Some seat → is_live x.standing ≡ false → seat ≡ None) → count_by is_taken seats ≤ count_live tasks
counts_in [] [] l f = omega arith
counts_in [] (x ∷ xs) l f = absurd (omega (arith, l))
counts_in (s ∷ ss) [] l f = absurd (omega (arith, l))
counts_in (s ∷ ss) (x ∷ xs) l f = by (is_live s.standing) refl x (f 0 s x refl refl) (counts_in ss xs (omega (arith, l)) (λ i. f (suc i)))
  where
    by : (b : Bool) → is_live s.standing ≡ b → (y : Seat) → (is_live s.standing ≡ false → y ≡ None) → count_by is_taken xs ≤ count_live ss → count_by is_taken (y ∷ xs) ≤ cond b (suc (count_live ss)) (count_live ss)
    by true e y g le = omega (arith, le, sum_by-cons (λ (z : Seat). cond (is_taken z) 1 0) y xs, most y)
      where
        most : (z : Seat) → cond (is_taken z) 1 0 ≤ 1
        most None = omega arith
        most (Some m) = omega arith
    by false e None g le = omega (arith, le, sum_by-cons (λ (z : Seat). cond (is_taken z) 1 0) None xs)
    by false e (Some m) g le = absurd (none (g e))
      where
        none : Some m ≡ None → ⊥
        none h = cc

dead_empty : (code : RawParts) (x : Trail) (k : ℕ) (y : Standing) (seat : Seat) → is_live y ≡ false → IsSeated code x k y seat → seat ≡ None
dead_empty code x k Ready seat e h = absurd (cc)
dead_empty code x k (Waiting p) seat e h = absurd (cc)
dead_empty code x k (Ended c) seat e h = h
dead_empty code x k Killed seat e h = h

taken_live : (code : RawParts) (o : Origin) (h : List Entry) (tasks : List Task) (ticks : List ℕ) (seats : List Seat) → AreSeated code o h tasks ticks seats → count_by is_taken seats ≤ count_live tasks
taken_live code o h tasks ticks seats home = counts_in tasks seats home.many_seats (λ i x seat xat at dead.
    let w = at_within tasks (suc i) x xat in
    let (k, kat) = at_there ticks (suc i) w.0 (omega (arith, w.1, home.many_ticks)) in
    dead_empty code (trail o (suc i) h) k x.standing seat dead (home.each (suc i) x.standing k seat (standing_at_task tasks (suc i) x xat) kat at))

full_parts : (tasks : List Task) → is_full tasks ≡ false → (count_live tasks < MOST_LIVE_TASKS) × (length tasks < MOST_TASKS)
full_parts tasks e = let x = or_parts (nat_le MOST_LIVE_TASKS (count_live tasks)) (nat_le MOST_TASKS (length tasks)) e in (leb-false MOST_LIVE_TASKS (count_live tasks) x.0, leb-false MOST_TASKS (length tasks) x.1)

-- the tasks stay within their number
pub still_few : (o : Origin) (old new : List Task) (birth : Option Birth) → Grows (basis o) old new birth → length old ≤ MOST_TASKS → length new ≤ MOST_TASKS
still_few o old new None g le = omega (arith, le, sym (length-map old (λ (x : Task). x.function)) ∙ ap (λ (l : List ℕ). length l) (sym g) ∙ length-map new (λ (x : Task). x.function))
still_few o old new (Some b) (new_is, number, below, free, args) le = let x = full_parts old free in omega (arith, x.1, ap (λ (l : List Task). length l) new_is, length-append old (fresh b.function ∷ []))

-- their functions are noted
pub functions_after : (o : Origin) (old new : List Task) (birth : Option Birth) (noted : List ℕ) → Grows (basis o) old new birth → noted ≡ functions old → functions_with noted birth ≡ functions new
functions_after o old new None noted g e = e ∙ sym g
functions_after o old new (Some b) noted (new_is, number, below, free, args) e =
    ap (λ (l : List ℕ). l ++ b.function ∷ []) e ∙ sym (map-append (λ (x : Task). x.function) old (fresh b.function ∷ [])) ∙ ap functions (sym new_is)

-- and are functions of the code
pub named_after : (o : Origin) (code : RawParts) → code.layout ≡ layout_of o.project → (old new : List Task) (birth : Option Birth) (noted : List ℕ) → Grows (basis o) old new birth →
    All (λ f. f < length code.layout.functions) noted → All (λ f. f < length code.layout.functions) (functions_with noted birth)
named_after o code layout old new None noted g all = all
named_after o code layout old new (Some b) noted g all =
    let P : ℕ → Type 0 = λ f. f < length code.layout.functions in
    All-append P noted (b.function ∷ []) all (All-cons P b.function [] (subst (λ (l : Layout). b.function < length l.functions) (sym layout) g.2) (All-nil P))

-- where a task is started there is room for it
pub can_begin : (o : Origin) (code : RawParts) → IsCode code → code.layout ≡ layout_of o.project → (h : List Entry) (old new : List Task) (ticks : List ℕ) (seats mid : List Seat) (birth : Option Birth) (t : ℕ) → Grows (basis o) old new birth → AreSeated code o h old ticks seats → Changed t seats mid → CanBegin code birth mid ticks
can_begin o code is layout h old new ticks seats mid None t g home changed = (tt, tt)
can_begin o code is layout h old new ticks seats mid (Some b) t g home changed =
    let x = full_parts old g.3 in
    let c = taken_live code o h old ticks seats home in
    ((args_fit code is b (born_fits o code layout old new (Some b) g), omega (arith, c, x.0, changed.few), omega (arith, x.1, home.many_seats, changed.long)), omega (arith, x.1, home.many_ticks))
