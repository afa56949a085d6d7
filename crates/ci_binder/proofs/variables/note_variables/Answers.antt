use Rattle.std.proofs.Common.{◌+◌, take}
use Rattle.ci_names.specs.Faults.{variable_faults}
use Rattle.ci_scopes.specs.Seen.{declared_of}
use Rattle.ci_scopes.specs.Listed.{variable_at}
use Rattle.ci_binder.proofs.Steps.{next, listed_at, noted_more}
use Rattle.ci_binder.proofs.Told.{cells_more}
use Rattle.ci_binder.proofs.variables.note_variables.Goals as goal

pub loop-count-preserved : goal.loop-count-preserved
loop-count-preserved c =
    let d = declared_of c.args.names.now in
    let vs = d.variables in
    let i = c.loop-count.count in
    let v = c.index-all-count.result in
    let at = listed_at variable_at c.variables-all.result.now vs i v c.variables-all.ensures c.index-all-count.is c.loop-count-test.true in
    let more = next vs i (variable_at v) at.0 at.1 in
    record {
      faults = noted_more c.args.found.now c.loop-count.found c.note_variable.new.found (variable_faults d) (take i vs) (take (i + 1) vs) (variable_at v) c.loop-count.invariant.faults c.note_variable.ensures more;
      cells = cells_more (take i vs) (take (i + 1) vs) (variable_at v) c.loop-count.cells c.size.result c.counted_with-cells.result c.loop-count.invariant.cells c.size.ensures.value c.counted_with-cells.ensures more;
    }
