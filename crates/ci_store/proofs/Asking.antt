-- What is known of the task that asks, and of the room that there is.
use Rattle.std.proofs.Common.{◌≡◌, ◌≤◌, ◌<◌, ◌+◌, ℕ, true, List, [], length, Option, refl, sym, ap, ◌∙◌, subst, arith}
use Rattle.ci_base.specs.declared.bounds.TheConstants.{MOST_LIVE_TASKS, MOST_TASKS}
use Rattle.ci_base.specs.declared.task.Delivery.{Delivery}
use Rattle.ci_shared.proofs.Fit.{AreFit}
use Rattle.ci_shared.proofs.Proved.{few_wait, room_to_wait_law}
use Rattle.ci_shared.specs.Laws.{seat_of}
use Rattle.ci_shared.specs.Roster.{Ready, Standing, seats}
use Rattle.ci_tasktab.proofs.Placing.{live_within}
use Rattle.ci_tasktab.specs.Slots.{is_live_at}
use Rattle.ci_store.proofs.Placed.{fit_lives, stands_live}
use Rattle.ci_store.specs.declared.parts.Parts.{Parts}
use Rattle.ci_store.specs.Done.{AllLive, CanAsk, IsClear}
use Rattle.ci_store.specs.Stored.{IsSound, basis_in, roster_of, shared_of}

-- there is room for all answers
pub room : (p : Parts) → IsClear p → length p.woken + length p.lines ≤ MOST_LIVE_TASKS
room p k =
    let few : length p.lines ≤ MOST_LIVE_TASKS = few_wait (basis_in p) (shared_of p) k.sound.keeps in
    let none : length p.woken ≡ 0 = ap (λ (l : List Delivery). length l) k.deliveries in
    omega (arith, few, none)

-- the task that asks
pub record Asker (p : Parts) (u : ℕ) : Type 0 where
  pub least : 1 ≤ u
  pub most : u ≤ MOST_TASKS
  pub nowhere : seats u p.lines ≡ []
  pub room : length p.lines < MOST_LIVE_TASKS
  pub live : is_live_at p.tasks u ≡ true

pub asker : (p : Parts) (u : ℕ) → IsSound p → CanAsk p u → Asker p u
asker p u k ready =
    let live : is_live_at p.tasks u ≡ true = stands_live p.lines p.tasks u Ready ready refl in
    let within : (1 ≤ u) × (u ≤ length p.tasks) = live_within p.tasks u live in
    let many : length p.tasks ≤ MOST_TASKS = k.many in
    record {
      least = within.0;
      most = omega (arith, within.1, many);
      nowhere = k.keeps.seated u ∙ ap (λ (o : Option Standing). seat_of o) ready;
      room = room_to_wait_law (basis_in p) (shared_of p) u k.keeps ready;
      live = live;
    }

-- those who are answered are live
pub lives : (p : Parts) (ds got : List Delivery) → AreFit (roster_of p) ds → got ≡ ds → AllLive got p.tasks
lives p ds got fit e = subst (λ (l : List Delivery). AllLive l p.tasks) (sym e) (fit_lives p.lines p.tasks ds fit)
