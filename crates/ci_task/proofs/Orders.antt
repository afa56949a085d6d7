-- Where a relation holds, its orders and the order have a bit in common.
use Rattle.std.proofs.Common.{◌≡◌, true, false, refl}
use Rattle.std.specs.Prelude.{bit_and}
use Rattle.std.specs.declared.cmp.Ordering.{Ordering}
use Rattle.std.specs.declared.cmp.Ordering.TheVariants as orders
use Rattle.ci_base.specs.declared.relation.Relation.{Relation}
use Rattle.ci_base.specs.declared.relation.Relation.TheVariants as relations
use Rattle.ci_base.specs.Comparisons.{relates}
use Rattle.ci_task.specs.Orders.{orders_of, bit_of}

pub holds_not : (r : Relation) (o : Ordering) → bit_and (orders_of r) (bit_of o) ≡ 0 → relates r o ≡ false
holds_not relations.Less orders.Less h = absurd (cc h)
holds_not relations.Less orders.Equal h = refl
holds_not relations.Less orders.Greater h = refl
holds_not relations.Equal orders.Less h = refl
holds_not relations.Equal orders.Equal h = absurd (cc h)
holds_not relations.Equal orders.Greater h = refl
holds_not relations.AtMost orders.Less h = absurd (cc h)
holds_not relations.AtMost orders.Equal h = absurd (cc h)
holds_not relations.AtMost orders.Greater h = refl
holds_not relations.Greater orders.Less h = refl
holds_not relations.Greater orders.Equal h = refl
holds_not relations.Greater orders.Greater h = absurd (cc h)
holds_not relations.Unequal orders.Less h = absurd (cc h)
holds_not relations.Unequal orders.Equal h = refl
holds_not relations.Unequal orders.Greater h = absurd (cc h)
holds_not relations.AtLeast orders.Less h = refl
holds_not relations.AtLeast orders.Equal h = absurd (cc h)
holds_not relations.AtLeast orders.Greater h = absurd (cc h)

pub holds_so : (r : Relation) (o : Ordering) → (bit_and (orders_of r) (bit_of o) ≡ 0 → ⊥) → relates r o ≡ true
holds_so relations.Less orders.Less h = refl
holds_so relations.Less orders.Equal h = absurd (h refl)
holds_so relations.Less orders.Greater h = absurd (h refl)
holds_so relations.Equal orders.Less h = absurd (h refl)
holds_so relations.Equal orders.Equal h = refl
holds_so relations.Equal orders.Greater h = absurd (h refl)
holds_so relations.AtMost orders.Less h = refl
holds_so relations.AtMost orders.Equal h = refl
holds_so relations.AtMost orders.Greater h = absurd (h refl)
holds_so relations.Greater orders.Less h = absurd (h refl)
holds_so relations.Greater orders.Equal h = absurd (h refl)
holds_so relations.Greater orders.Greater h = refl
holds_so relations.Unequal orders.Less h = refl
holds_so relations.Unequal orders.Equal h = absurd (h refl)
holds_so relations.Unequal orders.Greater h = refl
holds_so relations.AtLeast orders.Less h = absurd (h refl)
holds_so relations.AtLeast orders.Equal h = refl
holds_so relations.AtLeast orders.Greater h = refl
