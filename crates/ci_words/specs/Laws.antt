use Rattle.std.specs.Prelude.{◌≡◌, ℕ, Result, List}
use Rattle.ci_words.specs.declared.fault.WordFault.{WordFault}
use Rattle.ci_words.specs.declared.order.Order.{Order}
use Rattle.ci_words.specs.Order.{Orders}

-- Words come to one order or one fault, and to nothing else.
abbrev pub OneAnswer : Type 0
OneAnswer =
    (words : List (List ℕ))
    → (result : Result Order WordFault) × Orders words result × ((other : Result Order WordFault) → Orders words other → other ≡ result)
