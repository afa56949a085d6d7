use Rattle.ci_scopes.specs.Seen.{scope_of}
use Rattle.ci_binder.proofs.Told.{param_told}
use Rattle.ci_binder.proofs.parameters.note_param.Goals as goal

pub returns : goal.returns
returns c before is after =
    param_told (scope_of c.args.scope.now) before c.args.param.now c.kind_of_type.result c.count-count.result c.lacks_default.result c.args.behind_default
    c.args.found.now c.note_type.new.found c.note_local.new.found c.note_if.new.found c.note_if-2.new.found c.note_first.new.found
    is c.kind_of_type.ensures c.count-count.ensures after c.lacks_default.ensures
    c.note_type.ensures c.note_local.ensures c.note_if.ensures c.note_if-2.ensures c.note_first.ensures
