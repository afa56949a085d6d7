-- What serving does to the tasks, whatever the kinds of the cells and of what is asked for.
use Rattle.std.proofs.Common.{◌≡◌, ◌≢◌, ◌≤◌, ℕ, Bool, true, false, List, [], map, Option, Some, None, refl, sym, ◌∙◌, subst}
use Rattle.std.specs.Prelude.{slice_get}
use Rattle.ci_base.specs.declared.bounds.TheConstants.{MOST_LIVE_TASKS}
use Rattle.ci_base.specs.declared.event.EventKind.{EventKind}
use Rattle.ci_base.specs.declared.event.EventKind.TheVariants as events
use Rattle.ci_base.specs.declared.event.EventReply.{EventReply}
use Rattle.ci_base.specs.declared.place.Place.{Place}
use Rattle.ci_base.specs.declared.reply.Reply.{Reply}
use Rattle.ci_base.specs.declared.reply.Reply.TheVariants as replies
use Rattle.ci_base.specs.declared.request.Request.{Request}
use Rattle.ci_base.specs.declared.request.Request.TheVariants as requests
use Rattle.ci_base.specs.declared.task.Birth.{Birth}
use Rattle.ci_base.specs.declared.task.Delivery.{Delivery}
use Rattle.ci_base.specs.declared.value.Kind.{Kind}
use Rattle.ci_base.specs.declared.value.Value.{Value}
use Rattle.ci_base.specs.Values.{kind_of}
use Rattle.ci_shared.specs.Laws.{Keeps, Seated, Other, Own, Grows, victims, victims_of, woken, opening}
use Rattle.ci_shared.specs.Roster.{Standing, Ready, Waiting, Roster, Task, standing_at, is_live, count_live}
use Rattle.ci_shared.specs.Serving.{apply, script}
use Rattle.ci_shared.specs.Started.{Basis}
use Rattle.ci_shared.specs.State.{Shared, Served, attempted}
use Rattle.ci_shared.specs.Steps.{read, cell_named, set_cell, set_kind}
use Rattle.ci_shared.specs.Words.{same_kind}
use Rattle.ci_shared.proofs.Proved as laws

-- who waits stands in one line, and few are live
pub record Orderly (s : Shared) : Type 0 where
  pub seated : Seated s.roster
  pub few : count_live s.roster.tasks ≤ MOST_LIVE_TASKS

-- the same basis, but with the kinds of these cells: it serves all but an event on cells in the same way
abbrev pub fitted : Basis → List Value → Basis
fitted b cells = record { functions = b.functions; globals = b.globals; kinds = map kind_of cells }

keeps : (b : Basis) (s : Shared) → Orderly s → Keeps (fitted b s.cells) s
keeps b s k = record { seated = k.seated; few = k.few; kinds = refl }

apply_fitted : (b : Basis) (cells : List Value) (s : Shared) (u : ℕ) (q : Request) → apply (fitted b cells) s u q ≡ apply b s u q
unfolding apply
apply_fitted b cells s u _ = refl

-- what tasks see of an event
pub record Seen : Type 0 where
  pub roster : Roster
  pub deliveries : List Delivery
  pub birth : Option Birth

abbrev pub seen : Served EventReply → Seen
seen x = record { roster = x.shared.roster; deliveries = x.deliveries; birth = x.birth }

abbrev pub unseen : Shared → Seen
unseen s = record { roster = s.roster; deliveries = []; birth = None }

set_kind_unseen : (s : Shared) (v : Value) (cell : ℕ) (k : Option Kind) → seen (set_kind s v cell k) ≡ unseen s
set_kind_unseen s v cell None = refl
set_kind_unseen s v cell (Some k) = by (same_kind k (kind_of v)) refl
  where
    by : (b : Bool) → same_kind k (kind_of v) ≡ b → seen (set_kind s v cell (Some k)) ≡ unseen s
    by true e = rw e
    by false e = rw e

set_unseen : (b : Basis) (s : Shared) (v : Value) (cell : Option ℕ) → seen (set_cell b s v cell) ≡ unseen s
set_unseen b s v None = refl
set_unseen b s v (Some cell) = set_kind_unseen s v cell (slice_get b.kinds cell)

script_fitted : (b : Basis) (cells : List Value) (s : Shared) (e : EventKind) → seen (script (fitted b cells) s e) ≡ seen (script b s e)
unfolding script
script_fitted b cells s (events.Set name v) =
    let cell = cell_named name b.globals in
    set_unseen (fitted b cells) s v cell ∙ sym (set_unseen b s v cell)
script_fitted b cells s _ = refl

same_grows : (b : Basis) (cells : List Value) (old new : List Task) (birth : Option Birth) → Grows (fitted b cells) old new birth → Grows b old new birth
same_grows b cells old new None g = g
same_grows b cells old new (Some x) g = g

-- how the task that asked stands
abbrev pub StandsBy : Reply → Standing → Type 0
StandsBy (replies.Answer a) y = y ≡ Ready
StandsBy replies.Waits y = (p : Place) × (y ≡ Waiting p)
StandsBy replies.Ends y = is_live y ≡ false

pub record Owns (u : ℕ) (x : Served Reply) : Type 0 where
  pub now : Standing
  pub at : standing_at x.shared.roster u ≡ Some now
  pub stands : StandsBy x.reply now
  pub alone : woken u x.deliveries ≡ []

own_stands : (b : Basis) (q : Request) (r : Reply) (y : Standing) → Own b q r y → StandsBy r y
own_stands b q (replies.Answer a) y h = h.0
own_stands b q replies.Waits y h = (h.0, h.1)
own_stands b q replies.Ends y h = h

module _ (b : Basis) (s : Shared) (k : Orderly s) where
  module _ (u : ℕ) (q : Request) (ready : standing_at s.roster u ≡ Some Ready) where
    pub other_ask : (t : ℕ) (y : Standing) → t ≢ u → standing_at s.roster t ≡ Some y →
        (z : Standing) × (standing_at (apply b s u q).shared.roster t ≡ Some z) × Other (victims q) t y z (woken t (apply b s u q).deliveries)
    other_ask t y n is =
        subst (λ (x : Served Reply). (z : Standing) × (standing_at x.shared.roster t ≡ Some z) × Other (victims q) t y z (woken t x.deliveries)) (apply_fitted b s.cells s u q)
        (laws.other_ask (fitted b s.cells) s u q t y (keeps b s k) ready n is)

    pub ask_grows : Grows b s.roster.tasks (apply b s u q).shared.roster.tasks (apply b s u q).birth
    ask_grows =
        same_grows b s.cells s.roster.tasks (apply b s u q).shared.roster.tasks (apply b s u q).birth
        (subst (λ (x : Served Reply). Grows (fitted b s.cells) s.roster.tasks x.shared.roster.tasks x.birth) (apply_fitted b s.cells s u q)
        (laws.ask_grows (fitted b s.cells) s u q (keeps b s k) ready))

  read_owns : (u : ℕ) → standing_at s.roster u ≡ Some Ready → (v : Option Value) → Owns u (attempted s u (read v))
  read_owns u ready None = record { now = Ready; at = ready; stands = refl; alone = refl }
  read_owns u ready (Some v) = record { now = Ready; at = ready; stands = refl; alone = refl }

  owns_by : (u : ℕ) (q : Request) → (y : Standing) × (standing_at (apply (fitted b s.cells) s u q).shared.roster u ≡ Some y) × Own (fitted b s.cells) q (apply (fitted b s.cells) s u q).reply y × (woken u (apply (fitted b s.cells) s u q).deliveries ≡ []) → Owns u (apply b s u q)
  owns_by u q (y, at, own, none) =
      subst (λ (x : Served Reply). Owns u x) (apply_fitted b s.cells s u q) (record { now = y; at = at; stands = own_stands (fitted b s.cells) q _ y own; alone = none })

  pub own_ask : (u : ℕ) (q : Request) → standing_at s.roster u ≡ Some Ready → Owns u (apply b s u q)
  unfolding apply
  own_ask u (requests.Read cell) ready = read_owns u ready (slice_get s.cells cell)
  own_ask u (requests.Write cell v) ready = record { now = Ready; at = ready; stands = refl; alone = refl }
  own_ask u q ready = owns_by u q (laws.own_ask (fitted b s.cells) s u q (keeps b s k) tt ready)

  read_orderly : (u : ℕ) (v : Option Value) → Orderly (attempted s u (read v)).shared
  read_orderly u None = k
  read_orderly u (Some v) = k

  orderly_by : (u : ℕ) (q : Request) → Keeps (fitted b s.cells) (apply (fitted b s.cells) s u q).shared → Orderly (apply b s u q).shared
  orderly_by u q h = subst (λ (x : Served Reply). Orderly x.shared) (apply_fitted b s.cells s u q) (record { seated = h.seated; few = h.few })

  pub ask_orderly : (u : ℕ) (q : Request) → standing_at s.roster u ≡ Some Ready → Orderly (apply b s u q).shared
  unfolding apply
  ask_orderly u (requests.Read cell) ready = read_orderly u (slice_get s.cells cell)
  ask_orderly u (requests.Write cell v) ready = record { seated = k.seated; few = k.few }
  ask_orderly u q ready = orderly_by u q (laws.ask_keeps (fitted b s.cells) s u q (keeps b s k) tt ready)

  pub other_script : (e : EventKind) (t : ℕ) (y : Standing) → standing_at s.roster t ≡ Some y →
      (z : Standing) × (standing_at (script b s e).shared.roster t ≡ Some z) × Other (victims_of e) t y z (woken t (script b s e).deliveries)
  other_script e t y is =
      subst (λ (x : Seen). (z : Standing) × (standing_at x.roster t ≡ Some z) × Other (victims_of e) t y z (woken t x.deliveries)) (script_fitted b s.cells s e)
      (laws.other_script (fitted b s.cells) s e t y (keeps b s k) is)

  pub script_grows : (e : EventKind) → Grows b s.roster.tasks (script b s e).shared.roster.tasks (script b s e).birth
  script_grows e =
      same_grows b s.cells s.roster.tasks (script b s e).shared.roster.tasks (script b s e).birth
      (subst (λ (x : Seen). Grows (fitted b s.cells) s.roster.tasks x.roster.tasks x.birth) (script_fitted b s.cells s e)
      (laws.script_grows (fitted b s.cells) s e (keeps b s k)))

  pub script_orderly : (e : EventKind) → Orderly (script b s e).shared
  script_orderly e =
      let h = laws.script_keeps (fitted b s.cells) s e (keeps b s k) in
      let now : (x : Seen) → Type 0 = λ x. Seated x.roster × (count_live x.roster.tasks ≤ MOST_LIVE_TASKS) in
      let both : now (seen (script b s e)) = subst now (script_fitted b s.cells s e) (h.seated, h.few) in
      record { seated = both.0; few = both.1 }

pub opening_orderly : (b : Basis) (cells : List Value) → Orderly (opening cells)
opening_orderly b cells =
    let h = laws.opening_keeps (fitted b cells) cells refl in
    record { seated = h.seated; few = h.few }
