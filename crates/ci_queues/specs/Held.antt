-- The queues and their elements, as they are kept: in two lists.
use Rattle.std.specs.Prelude.{◌≡◌, ◌≤◌, ℤ, Bool, true, false, if◌then◌else◌, List, [], ◌∷◌, length}
use Rattle.std.specs.List.{list_any}
use Rattle.std.specs.Ordering.{int_eq}
use Rattle.ci_base.specs.declared.bounds.TheConstants.{MOST_ELEMENTS}
use Rattle.ci_shared.specs.declared.object.Item.{Item}
use Rattle.ci_shared.specs.Queues.{Queue}
use Rattle.ci_queues.specs.declared.held.Element.{Element}
use Rattle.ci_queues.specs.declared.held.Head.{Head}

-- the elements of a queue
abbrev pub items_of : ℤ → List Element → List Item
items_of h [] = []
items_of h (e ∷ es) = if int_eq e.queue h then e.item ∷ items_of h es else items_of h es

-- the queues, each with its elements
abbrev pub queues_of : List Head → List Element → List Queue
queues_of [] es = []
queues_of (x ∷ xs) es = record { number = x.number; name = x.name; items = items_of x.number es } ∷ queues_of xs es

abbrev pub has_number : ℤ → List Head → Bool
has_number h xs = list_any (λ x. int_eq x.number h) xs

-- no two have one number
abbrev pub AreApart : List Head → Type 0
AreApart [] = Unit {0}
AreApart (x ∷ xs) = (has_number x.number xs ≡ false) × AreApart xs

-- each element has a queue
abbrev pub AreHeld : List Head → List Element → Type 0
AreHeld xs [] = Unit {0}
AreHeld xs (e ∷ es) = (has_number e.queue xs ≡ true) × AreHeld xs es

pub record IsSound (xs : List Head) (es : List Element) : Type 0 where
  pub apart : AreApart xs
  pub held : AreHeld xs es
  pub few : length es ≤ MOST_ELEMENTS
