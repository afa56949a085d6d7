-- The end of a run: how it ends, and its loose ticks.
use Rattle.std.proofs.Common.{◌≡◌, ◌<◌, ◌≤◌, ◌+◌, ◌++◌, ℕ, zero, suc, Bool, true, false, cond, List, [], ◌∷◌, length, drop, Some, get_or, slice_get, refl, sym, ap, ◌∙◌, subst, arith, add-one, append-nil, append_assoc}
use Rattle.std.proofs.lemmas.Bool.{eqb-true}
use Rattle.std.proofs.lemmas.List.{nil_from_length}
use Rattle.std.specs.Prelude.{◌==◌, if◌then◌else◌}
use Rattle.ci_base.specs.declared.limits.Ending.{Ending}
use Rattle.ci_base.specs.declared.limits.Ending.TheVariants as endings
use Rattle.ci_base.specs.declared.limits.Limits.{Limits}
use Rattle.ci_base.specs.declared.limits.Turn.TheVariants as turns
use Rattle.ci_base.specs.declared.list.Loose.{Loose}
use Rattle.ci_code.specs.declared.raw.RawParts.{RawParts}
use Rattle.ci_runtime.specs.declared.board.Board.{Board}
use Rattle.ci_runtime.specs.Desks.{DeskState, GoesBy, IsAtEnd, IsKept, desk_of, shared_of}
use Rattle.ci_runtime.specs.Runs.{EndsSo}
use Rattle.ci_shared.specs.Roster.{Task, is_live}
use Rattle.ci_shared.specs.State.{Shared}
use Rattle.ci_store.specs.Stored.{live_tasks}
use Rattle.ci_world.specs.Tasks.{IsLive}
use Rattle.ci_world.specs.Trails.{common_after}
use Rattle.ci_world.specs.Work.{IsFinished, loose_from}
use Rattle.ci_world.specs.World.{Origin}

none_live : (n : ℕ) (xs : List Task) → live_tasks n xs ≡ [] → (i : ℕ) (x : Task) → slice_get xs i ≡ Some x → is_live x.standing ≡ true → ⊥
none_live n [] e i x at l = cc at
none_live n (y ∷ xs) e i x at l = by (is_live y.standing) refl e i at (λ rest j found. none_live (suc n) xs rest j x found l)
  where
    by : (b : Bool) → is_live y.standing ≡ b → cond b (n ∷ live_tasks (suc n) xs) (live_tasks (suc n) xs) ≡ [] → (i : ℕ) → slice_get (y ∷ xs) i ≡ Some x → (live_tasks (suc n) xs ≡ [] → (j : ℕ) → slice_get xs j ≡ Some x → ⊥) → ⊥
    by true ey found i at f = cc found
    by false ey found zero at f = let same : y ≡ x = cc at in let both : true ≡ false = sym l ∙ ap (λ (z : Task). is_live z.standing) (sym same) ∙ ey in cc both
    by false ey found (suc j) at f = f found j at

some_live : (n : ℕ) (xs : List Task) → ((i : ℕ) (x : Task) → slice_get xs i ≡ Some x → is_live x.standing ≡ true → ⊥) → live_tasks n xs ≡ []
some_live n [] f = refl
some_live n (y ∷ xs) f = by (is_live y.standing) refl (some_live (suc n) xs (λ i. f (suc i)))
  where
    by : (b : Bool) → is_live y.standing ≡ b → live_tasks (suc n) xs ≡ [] → cond b (n ∷ live_tasks (suc n) xs) (live_tasks (suc n) xs) ≡ []
    by true ey e = absurd (f 0 y refl ey)
    by false ey e = e

-- how a run ends that is at rest
at_end_is : (d : DeskState) → IsAtEnd d → IsFinished (common_after d.origin d.history)
at_end_is d f = record { no_event = f.no_event; none_can_step = f.none_can_step }

ends_finished : (d : DeskState) → IsAtEnd d → live_tasks 1 (shared_of d).roster.tasks ≡ [] → EndsSo d endings.Finished
ends_finished d f e = (at_end_is d f, λ t live. none t live)
  where
    none : (t : ℕ) → IsLive (shared_of d) t → ⊥
    none zero (x, at, l) = cc at
    none (suc i) (x, at, l) = none_live 1 (shared_of d).roster.tasks e i x at l

ends_resting : (d : DeskState) → IsAtEnd d → (live_tasks 1 (shared_of d).roster.tasks ≡ [] → ⊥) → EndsSo d endings.Resting
ends_resting d f n = (at_end_is d f, λ none. n (some_live 1 (shared_of d).roster.tasks (λ i x at l. none (suc i) (x, at, l))))

ends_at_rest : (d : DeskState) (e : Ending) → IsAtEnd d → e ≡ (if length (live_tasks 1 (shared_of d).roster.tasks) == 0 then endings.Finished else endings.Resting) → EndsSo d e
ends_at_rest d e f is = by (length (live_tasks 1 (shared_of d).roster.tasks) == 0) refl is
  where
    not_empty : (xs : List ℕ) → (length xs == 0) ≡ false → xs ≡ [] → ⊥
    not_empty [] h e = cc h
    not_empty (x ∷ xs) h e = cc e

    by : (b : Bool) → (length (live_tasks 1 (shared_of d).roster.tasks) == 0) ≡ b → e ≡ (if b then endings.Finished else endings.Resting) → EndsSo d e
    by true none is = subst (λ (x : Ending). EndsSo d x) (sym is) (ends_finished d f (nil_from_length (live_tasks 1 (shared_of d).roster.tasks) (eqb-true (length (live_tasks 1 (shared_of d).roster.tasks)) 0 none)))
    by false some is = subst (λ (x : Ending). EndsSo d x) (sym is) (ends_resting d f (not_empty (live_tasks 1 (shared_of d).roster.tasks) some))

pub at_rest : (d : DeskState) (o : Origin) (code : RawParts) (limits : Limits) (b : Board) (e : Ending) → IsKept o code limits b → desk_of o limits b ≡ d → IsAtEnd d → e ≡ (if length (live_tasks 1 b.store.shared.roster.tasks) == 0 then endings.Finished else endings.Resting) → EndsSo d e
at_rest d o code limits b e k same f is =
    subst (λ (x : DeskState). EndsSo x e) same
    (ends_at_rest (desk_of o limits b) e (subst (λ (x : DeskState). IsAtEnd x) (sym same) f)
    (subst (λ (x : Shared). e ≡ (if length (live_tasks 1 x.roster.tasks) == 0 then endings.Finished else endings.Resting)) k.shared_is is))

pub spent : (d : DeskState) → GoesBy d turns.Spent → EndsSo d endings.Spent
spent d by = ((λ f. by.0 (record { no_event = f.no_event; none_can_step = f.none_can_step })), by.1)

-- the loose ticks of one task
pub one_some : (n k : ℕ) → 0 < k → loose_from n (k ∷ []) ≡ record { task = n; ticks = k } ∷ []
one_some n zero some = absurd (omega arith)
one_some n (suc k) some = refl

pub one_none : (n k : ℕ) → k ≤ 0 → loose_from n (k ∷ []) ≡ []
one_none n zero none = refl
one_none n (suc k) none = absurd (omega arith)

-- the loose ticks, one task after another
from_at : (ticks : List ℕ) (i d n m : ℕ) → i < length ticks → n ≡ m → loose_from n (get_or ticks i d ∷ []) ++ loose_from (suc m) (drop (suc i) ticks) ≡ loose_from m (drop i ticks)
from_at [] i d n m lt is = absurd (omega arith)
from_at (zero ∷ xs) zero d n m lt is = refl
from_at (suc k ∷ xs) zero d n m lt is = ap (λ (x : ℕ). record { task = x; ticks = suc k } ∷ loose_from (suc m) xs) is
from_at (x ∷ xs) (suc i) d n m lt is = from_at xs i d n m (omega (arith, lt)) is

pub loose_more : (before : List Loose) (ticks : List ℕ) (i d n : ℕ) → i < length ticks → n ≡ i + 1 → (before ++ loose_from n (get_or ticks i d ∷ [])) ++ loose_from (i + 1 + 1) (drop (i + 1) ticks) ≡ before ++ loose_from (i + 1) (drop i ticks)
loose_more before ticks i d n lt is =
    ap (λ (k : ℕ). (before ++ loose_from n (get_or ticks i d ∷ [])) ++ loose_from k (drop (i + 1) ticks)) (add-one (i + 1)) ∙
    ap (λ (k : ℕ). (before ++ loose_from n (get_or ticks i d ∷ [])) ++ loose_from (suc (i + 1)) (drop k ticks)) (add-one i) ∙
    append_assoc before (loose_from n (get_or ticks i d ∷ [])) (loose_from (suc (i + 1)) (drop (suc i) ticks)) ∙ ap (λ (l : List Loose). before ++ l) (from_at ticks i d n (i + 1) lt is)

pub loose_end : (before : List Loose) (ticks : List ℕ) (i m : ℕ) → length ticks ≤ i → before ++ loose_from m (drop i ticks) ≡ before
loose_end before ticks i m le = ap (λ (l : List Loose). before ++ l) (rest ticks i m le) ∙ append-nil before
  where
    rest : (ticks : List ℕ) (i m : ℕ) → length ticks ≤ i → loose_from m (drop i ticks) ≡ []
    rest [] zero m le = refl
    rest [] (suc i) m le = refl
    rest (x ∷ xs) zero m le = absurd (omega arith)
    rest (x ∷ xs) (suc i) m le = rest xs i m (omega arith)
