use Rattle.ci_tree.specs.SeenBound.{heads_of, project_of}
use Rattle.ci_meaning.specs.Held.{configuration_of}
use Rattle.ci_meaning.specs.Meaning.{next}
use Rattle.ci_meaning.proofs.Within.{did_within, next_within}
use Rattle.ci_meaning.proofs.tree_task.TreeTask.tree_step.Goals as goal

pub returns-clause-of : goal.returns-clause-of
returns-clause-of c =
    let p = project_of c.args.project.now in
    let heads = heads_of c.args.project.now.functions in
    let old = configuration_of heads c.args.self.now in
    did_within (next p old) c.in_ok-step.field-0 old (configuration_of heads c.step.new.task) c.in_ok-step.ensures.ok (next_within p old c.texts_and_cells_fit.ensures c.requires) c.requires
