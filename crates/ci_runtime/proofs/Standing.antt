-- How the tasks stand at the end of a run, one after another.
use Rattle.std.proofs.Common.{◌≡◌, ◌≤◌, ◌+◌, ◌++◌, ℕ, zero, suc, List, [], ◌∷◌, length, map, drop, Option, Some, slice_get, sym, ap, ◌∙◌, add-one, append_assoc}
use Rattle.std.proofs.lemmas.Option.{slice_get-map}
use Rattle.std.specs.Option.{option_map, option_map_or}
use Rattle.ci_base.specs.declared.layout.Head.{Head}
use Rattle.ci_history.specs.declared.end.TaskEnd.{TaskEnd}
use Rattle.ci_runtime.specs.EndStates.{function_name, owner_at, task_end}
use Rattle.ci_shared.specs.Laws.{functions}
use Rattle.ci_shared.specs.Roster.{Task, standing_at, status_of}
use Rattle.ci_shared.specs.Started.{Basis}
use Rattle.ci_shared.specs.State.{Shared}
use Rattle.ci_store.specs.Stored.{mark_at, place_of}
use Rattle.ci_world.proofs.Lists.{at_there, one_at, standing_at_task}
use Rattle.ci_world.specs.Lists.{at_task}

function_at : (xs : List Task) (t : ℕ) (x : Task) → at_task xs t ≡ Some x → at_task (functions xs) t ≡ Some x.function
function_at xs zero x e = absurd (cc)
function_at xs (suc n) x e = slice_get-map (λ (z : Task). z.function) xs n ∙ ap (option_map (λ (z : Task). z.function)) e

mark_is : (xs : List Task) (t : ℕ) (x : Task) → at_task xs t ≡ Some x → mark_at xs t ≡ Some x.suspended
mark_is xs zero x e = absurd (cc)
mark_is xs (suc n) x e = ap (option_map (λ (z : Task). z.suspended)) e

-- what the store tells of a task is how it stands
pub stands_so : (b : Basis) (s : Shared) (t f : ℕ) (head : Head) (e : TaskEnd) → 1 ≤ t → t ≤ length s.roster.tasks → at_task (functions s.roster.tasks) t ≡ Some f → slice_get b.functions f ≡ Some head →
    e.name ≡ head.name → option_map status_of (standing_at s.roster t) ≡ Some e.status → mark_at s.roster.tasks t ≡ Some e.suspended → e.place ≡ place_of (standing_at s.roster t) → e.owner ≡ owner_at s.sections e.place →
    option_map (task_end b s) (at_task s.roster.tasks t) ≡ Some e
stands_so b s t f head e least most of found name status mark place owner =
    let (x, at) = at_there s.roster.tasks t least most in
    let standing : standing_at s.roster t ≡ Some x.standing = standing_at_task s.roster.tasks t x at in
    let same : f ≡ x.function = one_at f x.function (at_task (functions s.roster.tasks) t) of (function_at s.roster.tasks t x at) in
    let named : e.name ≡ function_name b.functions x.function =
    name ∙ ap (λ (h : Option Head). option_map_or (λ (y : Head). y.name) h []) (sym found) ∙ ap (function_name b.functions) same in
    let stands : e.status ≡ status_of x.standing = one_at e.status (status_of x.standing) (option_map status_of (standing_at s.roster t)) status (ap (option_map status_of) standing) in
    let marked : e.suspended ≡ x.suspended = one_at e.suspended x.suspended (mark_at s.roster.tasks t) mark (mark_is s.roster.tasks t x at) in
    let placed : e.place ≡ place_of (Some x.standing) = place ∙ ap place_of standing in
    let owned : e.owner ≡ owner_at s.sections (place_of (Some x.standing)) = owner ∙ ap (owner_at s.sections) placed in
    let is : e ≡ task_end b s x = λ i. record { name = named i; status = stands i; suspended = marked i; place = placed i; owner = owned i } in
    ap (option_map (task_end b s)) at ∙ ap Some (sym is)

module _ (f : Task → TaskEnd) where
  from_at : (tasks : List Task) (i : ℕ) (e : TaskEnd) → option_map f (slice_get tasks i) ≡ Some e → e ∷ map f (drop (suc i) tasks) ≡ map f (drop i tasks)
  from_at [] i e is = absurd (cc)
  from_at (x ∷ xs) zero e is = let same : e ≡ f x = cc in ap (λ (y : TaskEnd). y ∷ map f xs) same
  from_at (x ∷ xs) (suc i) e is = from_at xs i e is

  pub ends_more : (before : List TaskEnd) (tasks : List Task) (i t : ℕ) (e : TaskEnd) → t ≡ i + 1 → option_map f (at_task tasks t) ≡ Some e → (before ++ e ∷ []) ++ map f (drop (i + 1) tasks) ≡ before ++ map f (drop i tasks)
  ends_more before tasks i t e next is =
      let at : option_map f (slice_get tasks i) ≡ Some e = ap (λ (n : ℕ). option_map f (at_task tasks n)) (sym (add-one i) ∙ sym next) ∙ is in
      ap (λ (n : ℕ). (before ++ e ∷ []) ++ map f (drop n tasks)) (add-one i) ∙ append_assoc before (e ∷ []) (map f (drop (suc i) tasks)) ∙ ap (λ (l : List TaskEnd). before ++ l) (from_at tasks i e at)
