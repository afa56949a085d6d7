use Rattle.std.proofs.lemmas.Result.{err_from_is_err_and}
use Rattle.std.proofs.Common.{◌++◌}
use Rattle.ci_outside.proofs.Putting.{Puts-then, Puts-stop}
use Rattle.ci_outside.proofs.sink.put_three.Goals as goal

pub returns-in_err-put_two : goal.returns-in_err-put_two
returns-in_err-put_two g c =
    let p = err_from_is_err_and c.from_residual.result c.from_residual.ensures.1 in
    rw p.1 (Puts-stop g.K.Sink.bytes g.K.Sink.faults _ _ _ p.0 (c.args.first.now ++ c.args.second.now) c.args.third.now c.in_err-put_two.ensures)

pub returns : goal.returns
returns g c =
    Puts-then g.K.Sink.bytes g.K.Sink.faults _ _ _ _ _ (c.args.first.now ++ c.args.second.now) c.args.third.now c.in_ok-put_two.ensures c.put_all.ensures
