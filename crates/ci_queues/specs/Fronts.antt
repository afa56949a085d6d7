-- The front of a queue.
use Rattle.std.specs.Prelude.{◌≡◌, ℤ, List, [], ◌∷◌, Option, None, Some}
use Rattle.ci_shared.specs.declared.object.Item.{Item}
use Rattle.ci_shared.specs.Queues.{Queue, queue_of, with_items}

abbrev pub items_at : Option Queue → List Item
items_at None = []
items_at (Some x) = x.items

-- the elements of the queue of a number; none where there is no such queue
abbrev pub items_in : ℤ → List Queue → List Item
items_in h xs = items_at (queue_of h xs)

-- of these elements the front one leaves the queue, if there is one
abbrev pub TakesFront : ℤ → List Item → List Queue → Option Item → List Queue → Type 0
TakesFront h [] xs None new = new ≡ xs
TakesFront h [] xs (Some j) new = ⊥
TakesFront h (i ∷ is) xs None new = ⊥
TakesFront h (i ∷ is) xs (Some j) new = (j ≡ i) × (new ≡ with_items h is xs)
