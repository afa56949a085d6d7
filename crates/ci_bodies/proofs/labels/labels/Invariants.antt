use Rattle.std.proofs.Common.{drop}
use Rattle.ci_scopes.specs.Seen.{scope_of}
use Rattle.ci_bodies.proofs.LabelSteps.{LabelsAt}
use Rattle.ci_bodies.proofs.labels.labels.Given as goal

abbrev pub invariant-loop-one : goal.invariant-loop-one
invariant-loop-one l = LabelsAt (scope_of l.scope) l.subject l.made l.found (drop l.one-index l.labels) l.fn.found l.labels
