use Rattle.std.proofs.Common.{◌≡◌, ◌++◌, ◌∷◌, [], ◌∙◌, ap, List, ℕ, ℤ, arith}
use Rattle.ci_stack.specs.Places.{values}
use Rattle.ci_stack.proofs.Placing.{values_longer}
use Rattle.ci_stack.proofs.table.reach.Goals as goal

pub reach-preserved : goal.reach-preserved
reach-preserved c =
    let items : c.push.new.self.items ≡ c.reach.texts.items ++ [] ∷ [] = c.in-Ok.ensures.items ∙ ap (λ (s : List ℕ). c.reach.texts.items ++ s ∷ []) c.none.ensures in (
      λ (words : List ℤ). ap (λ (l : List (List ℕ)). values words l) items ∙ values_longer words c.reach.texts.items 1 ∙ c.reach.invariant.0 words,
      omega (arith, c.in-Ok.ensures.capacity, c.reach.invariant.1),
    )
