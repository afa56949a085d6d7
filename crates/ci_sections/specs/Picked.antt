-- Which sections are given on, and what becomes of one.
use Rattle.std.specs.Prelude.{◌≡◌, ℕ, Bool, true, false, nat_eq, List, ◌++◌, Option, None, Some, slice_get, slice_set}
use Rattle.std.specs.List.{remove}
use Rattle.ci_base.specs.declared.place.Place.TheVariants as places
use Rattle.ci_base.specs.declared.task.Delivery.{Delivery}
use Rattle.ci_shared.specs.declared.object.Section.{Section}
use Rattle.ci_shared.specs.declared.waiter.Waiter.{Waiter}
use Rattle.ci_shared.specs.Roster.{first_in, without}
use Rattle.ci_shared.specs.Sections.{handed_to}
use Rattle.ci_shared.specs.Words.{same_text}
use Rattle.ci_sections.specs.declared.find.Hold.{Hold}
use Rattle.ci_sections.specs.declared.giving.Given.{Given}
use Rattle.ci_sections.specs.declared.giving.Given.TheVariants.{Named, OwnedBy}

abbrev pub picks : Given → Section → Bool
picks (Named text) x = same_text x.name text.now
picks (OwnedBy task) x = nat_eq x.owner task

abbrev pub hold_of : Option Section → Option Hold
hold_of None = None
hold_of (Some x) = Some (record { owner = x.owner; count = x.count })

abbrev pub owner_of : Option Section → Option ℕ
owner_of None = None
owner_of (Some x) = Some x.owner

-- the section at a place of the list goes to this one, who leaves its line and is answered; or it is no longer owned
abbrev pub Gives : Section → ℕ → Option Waiter → Bool → List Section → List Section → List Waiter → List Waiter → List Delivery → List Delivery → Type 0
Gives x at (Some w) true old new ws ws' woken woken' = (new ≡ slice_set old at (record x { owner = w.task; count = 1 })) × (ws' ≡ without w.task ws) × (woken' ≡ woken ++ handed_to (Some w))
Gives x at (Some w) false old new ws ws' woken woken' = ⊥
Gives x at None true old new ws ws' woken woken' = ⊥
Gives x at None false old new ws ws' woken woken' = (new ≡ remove old at) × (ws' ≡ ws) × (woken' ≡ woken)

pub record GivesAt (at : ℕ) (stays : Bool) (old new : List Section) (ws ws' : List Waiter) (woken woken' : List Delivery) : Type 0 where
  pub section : Section
  pub there : slice_get old at ≡ Some section
  pub gives : Gives section at (first_in (places.Section section.name) ws) stays old new ws ws' woken woken'
