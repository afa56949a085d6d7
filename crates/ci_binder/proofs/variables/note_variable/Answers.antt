use Rattle.std.proofs.Common.{take}
use Rattle.ci_scopes.specs.Seen.{scope_of, declared_of}
use Rattle.ci_scopes.specs.Listed.{variable_at}
use Rattle.ci_binder.proofs.Told.{variable_told}
use Rattle.ci_binder.proofs.variables.note_variable.Goals as goal

pub returns : goal.returns
returns c =
    let d = declared_of c.args.names.now in
    variable_told d (take c.args.count d.variables) (variable_at c.args.v.now) (scope_of c.args.scope.now) c.kind_of_type.result c.is_variable_declared-twice.result c.passes_cells.result c.args.cells c.size.result
    c.args.found.now c.note_if.new.found c.note_if-2.new.found c.note_type.new.found c.note_length.new.found c.note_first.new.found
    c.requires.scope c.kind_of_type.ensures c.is_variable_declared-twice.ensures c.requires.cells c.size.ensures.value c.passes_cells.ensures
    c.note_if.ensures c.note_if-2.ensures c.note_type.ensures c.note_length.ensures c.note_first.ensures
