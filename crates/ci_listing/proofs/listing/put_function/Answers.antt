use Rattle.std.proofs.lemmas.Result.{err_from_is_err_and}
use Rattle.ci_outside.proofs.Putting.{Puts-then, Puts-stop}
use Rattle.ci_listing.specs.Listing.{function_line}
use Rattle.ci_listing.proofs.listing.put_function.Goals as goal

pub returns-in_err-put_first_line : goal.returns-in_err-put_first_line
returns-in_err-put_first_line g c =
    let p = err_from_is_err_and c.from_residual.result c.from_residual.ensures.1 in
    rw p.1 (Puts-stop g.K.Sink.bytes g.K.Sink.faults _ _ _ p.0 _ _ c.in_err-put_first_line.ensures)

pub returns : goal.returns
unfolding function_line
returns g c =
    rw (← c.members.ensures, ← c.members-2.ensures)
    (Puts-then g.K.Sink.bytes g.K.Sink.faults _ _ _ _ _ (function_line c.args.code.now c.args.number c.args.function.now) _ c.in_ok-put_first_line.ensures c.put_steps.ensures)
