-- A relation as the set of the orders for which it holds, a bit for each.
use Rattle.std.specs.Prelude.{ℕ}
use Rattle.std.specs.declared.cmp.Ordering.{Ordering}
use Rattle.std.specs.declared.cmp.Ordering.TheVariants as orders
use Rattle.ci_base.specs.declared.relation.Relation.{Relation}
use Rattle.ci_base.specs.declared.relation.Relation.TheVariants as relations

-- the orders for which the relation holds
abbrev pub orders_of : Relation → ℕ
orders_of relations.Less = 1
orders_of relations.Equal = 2
orders_of relations.AtMost = 3
orders_of relations.Greater = 4
orders_of relations.Unequal = 5
orders_of relations.AtLeast = 6

-- the bit of an order
abbrev pub bit_of : Ordering → ℕ
bit_of orders.Less = 1
bit_of orders.Equal = 2
bit_of orders.Greater = 4
