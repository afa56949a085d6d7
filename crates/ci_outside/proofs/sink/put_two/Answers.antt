use Rattle.std.proofs.lemmas.Result.{err_from_is_err_and}
use Rattle.ci_outside.proofs.Putting.{Puts-then, Puts-stop}
use Rattle.ci_outside.proofs.sink.put_two.Goals as goal

pub returns-in_err-put_all : goal.returns-in_err-put_all
returns-in_err-put_all g c =
    let p = err_from_is_err_and c.from_residual.result c.from_residual.ensures.1 in
    rw p.1 (Puts-stop g.K.Sink.bytes g.K.Sink.faults _ _ _ p.0 c.args.first.now c.args.second.now c.in_err-put_all.ensures)

pub returns : goal.returns
returns g c = Puts-then g.K.Sink.bytes g.K.Sink.faults _ _ _ _ _ c.args.first.now c.args.second.now c.in_ok-put_all.ensures c.put_all-2.ensures
