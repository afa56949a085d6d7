use Rattle.std.proofs.Common.{ap, ◌∙◌}
use Rattle.ci_names.specs.declared.fault.BindKind.TheVariants as kinds
use Rattle.ci_names.specs.Kinds.{kind_of}
use Rattle.ci_names.specs.Expressions.{broken, differ, expr_faults}
use Rattle.ci_tree.specs.Seen.{expr_of}
use Rattle.ci_scopes.specs.Seen.{scope_of}
use Rattle.ci_bodies.proofs.Noted.{part_noted, rule_noted}
use Rattle.ci_bodies.proofs.simple.alike.Goals as goal

pub returns-clause-found : goal.returns-clause-found
returns-clause-found c =
    let s = scope_of c.args.scope.now in
    let e = expr_of c.args.value.now in
    let other = c.args.other in
    part_noted c.args.found.now c.note_if.new.found c.expression.new.found c.note_also.new.found (broken (differ other (kind_of s e)) s c.args.token kinds.KindsDiffer) (expr_faults s e)
    (rule_noted c.args.found.now c.note_if.new.found s c.args.token kinds.KindsDiffer c.differ.result (differ other (kind_of s e)) (c.differ.ensures ∙ ap (differ other) c.in_ok-bound.ensures.kind) c.note_if.ensures)
    c.in_ok-bound.ensures.found c.note_also.ensures
