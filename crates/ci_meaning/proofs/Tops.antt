-- A step that uses its value for the top of what is wanted is the next step of a task whose top is that.
use Rattle.std.proofs.Common.{◌≡◌, List, ◌∷◌, sym, ap, ◌∙◌, subst}
use Rattle.std.specs.Prelude.{map, reverse}
use Rattle.ci_base.specs.declared.value.Value.{Value}
use Rattle.ci_tree.specs.Bound.{Project}
use Rattle.ci_tree.specs.LeftOut.{Heads}
use Rattle.ci_meaning.specs.declared.parts.Want.{Want}
use Rattle.ci_meaning.specs.declared.tree_task.TreeTask.{TreeTask}
use Rattle.ci_meaning.specs.declared.tree_task.TreeMove.{TreeMove}
use Rattle.ci_meaning.specs.Configuration.{give}
use Rattle.ci_meaning.specs.Held.{aim_of, below, configuration_of, task_of, want_of, wants_of, Did, Uses}
use Rattle.ci_meaning.specs.Meaning.{act, used}

pub used_top : (p : Project) (heads : Heads) (v : Value) (old new : TreeTask) (m : TreeMove) (x top : Want) →
    reverse old.frame.wants ≡ x ∷ below old.frame.wants → x ≡ top → Uses heads (used p v (want_of heads top)) old m new →
    Did (act p (give v (wants_of heads old.frame.wants) (aim_of heads old.frame.aim)) (task_of heads old)) m (configuration_of heads old) (configuration_of heads new)
used_top p heads v old new m x top e same uses =
    subst (λ (l : List Want). Did (act p (give v (map (want_of heads) l) (aim_of heads old.frame.aim)) (task_of heads old)) m (configuration_of heads old) (configuration_of heads new))
    (sym (e ∙ ap (λ (y : Want). y ∷ below old.frame.wants) same)) uses
