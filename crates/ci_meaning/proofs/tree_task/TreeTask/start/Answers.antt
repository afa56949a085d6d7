use Rattle.std.proofs.Common.{List, sym, ap, subst}
use Rattle.std.specs.Prelude.{map, reverse}
use Rattle.ci_tree.specs.SeenBound.{heads_of, project_of}
use Rattle.ci_meaning.specs.declared.parts.Frame.{Frame}
use Rattle.ci_meaning.specs.Configuration.{Caller, Left}
use Rattle.ci_meaning.specs.Held.{caller_of}
use Rattle.ci_meaning.specs.Within.{lefts_within, callers_within}
use Rattle.ci_meaning.proofs.Within.{opening_within}
use Rattle.ci_meaning.proofs.tree_task.TreeTask.start.Goals as goal

pub returns-clause-of : goal.returns-clause-of
returns-clause-of c =
    let p = project_of c.args.project.now in
    let heads = heads_of c.args.project.now.functions in
    let opens = opening_within p c.args.function c.args.args.now c.texts_and_cells_fit.ensures in (
      tt,
      (
        subst (λ (l : List Left). lefts_within l) (sym (ap (λ (x : Caller). x.left) c.in_ok-frame.ensures)) opens.1.0,
        subst (λ (l : List Frame). callers_within (map (caller_of heads) (reverse l))) (sym c.new.ensures) tt,
      ),
    )
