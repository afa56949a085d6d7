-- The ways through a start.
use Rattle.std.proofs.Common.{◌≡◌, ℕ, suc, true, false, cond, List, [], ◌∷◌, ◌++◌, length, Option, Some, None, refl, sym, ap, ◌∙◌, subst, Result, Err, Ok}
use Rattle.ci_base.specs.declared.layout.Head.{Head}
use Rattle.ci_base.specs.declared.task.Birth.{Birth}
use Rattle.ci_base.specs.declared.value.Value.{Value}
use Rattle.ci_shared.specs.Arguments.{arguments}
use Rattle.ci_shared.specs.declared.waiter.Waiter.{Waiter}
use Rattle.ci_shared.specs.Started.{Refused, Started, Starts, public_from, spawn, spawn_of, spawn_with}
use Rattle.ci_tasktab.proofs.Living.{crowded_is, length_is}
use Rattle.ci_tasktab.specs.declared.slot.Slot.{Slot}
use Rattle.ci_tasktab.specs.Births.{Spawns, fresh_slot}
use Rattle.ci_tasktab.specs.Slots.{is_crowded, tasks_in}

module _ (hs : List Head) (name list : List ℕ) (xs : List Slot) (ws : List Waiter) where
  along : (s s' : Started) (r : Result Birth ℕ) (new : List Slot) → s' ≡ s → Spawns s r xs new → Spawns s' r xs new
  along s s' r new e h = subst (λ (z : Started). Spawns z r xs new) (sym e) h

  pub unknown : (o : Option ℕ) → o ≡ public_from 0 name hs → o ≡ None → Spawns (spawn hs (tasks_in ws xs) name list) (Err 5) xs xs
  unknown o is none = along (Refused 5) _ (Err 5) xs (ap (λ (z : Option ℕ). spawn_of hs (tasks_in ws xs) list z) (sym is ∙ none)) (refl, refl)

  module _ (f : ℕ) (o : Option ℕ) (is : o ≡ public_from 0 name hs) (found : o ≡ Some f) (args : Option (List Value)) (takes : args ≡ arguments hs f list) where
    takes_is : spawn hs (tasks_in ws xs) name list ≡ spawn_with (tasks_in ws xs) f args
    takes_is = ap (λ (z : Option ℕ). spawn_of hs (tasks_in ws xs) list z) (sym is ∙ found) ∙ ap (λ (z : Option (List Value)). spawn_with (tasks_in ws xs) f z) (sym takes)

    pub unfit : args ≡ None → Spawns (spawn hs (tasks_in ws xs) name list) (Err 10) xs xs
    unfit none = along (Refused 10) _ (Err 10) xs (takes_is ∙ ap (λ (z : Option (List Value)). spawn_with (tasks_in ws xs) f z) none) (refl, refl)

    abbrev birth : List Value → Birth
    birth vs = record { task = suc (length (tasks_in ws xs)); function = f; args = vs }

    fits : (vs : List Value) → args ≡ Some vs → spawn hs (tasks_in ws xs) name list ≡ cond (is_crowded xs) (Refused 11) (Starts (birth vs))
    fits vs e =
        takes_is ∙ ap (λ (z : Option (List Value)). spawn_with (tasks_in ws xs) f z) e
        ∙ ap (λ b. cond b (Refused 11) (Starts (birth vs))) (sym (crowded_is ws xs))

    pub crowded : (vs : List Value) → args ≡ Some vs → is_crowded xs ≡ true → Spawns (spawn hs (tasks_in ws xs) name list) (Err 11) xs xs
    crowded vs e full = along (Refused 11) _ (Err 11) xs (fits vs e ∙ ap (λ b. cond b (Refused 11) (Starts (birth vs))) full) (refl, refl)

    pub born : (vs : List Value) (b : Birth) (new : List Slot) → args ≡ Some vs → is_crowded xs ≡ false → b ≡ record { task = suc (length xs); function = f; args = vs } → new ≡ xs ++ fresh_slot f ∷ [] → Spawns (spawn hs (tasks_in ws xs) name list) (Ok b) xs new
    born vs b new e free is_b is_new = along (Starts (birth vs)) _ (Ok b) new (fits vs e ∙ ap (λ b. cond b (Refused 11) (Starts (birth vs))) free) (is_b ∙ ap (λ (n : ℕ). record { task = suc n; function = f; args = vs }) (sym (length_is ws xs)), is_new)
