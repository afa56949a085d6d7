use Rattle.std.proofs.Common.{subst}
use Rattle.ci_runtime.specs.Desks.{DeskState, IsSame, origin_of, state}
use Rattle.ci_runtime.specs.Runs.{RoundsFrom}
use Rattle.ci_runtime.proofs.Running.{is_run}
use Rattle.ci_runtime.proofs.rounds.run.Goals as goal

pub returns : goal.returns
returns c =
    is_run (origin_of c.args.program.now c.args.script) c.args.limits (state c.finish-ending.new.desk) _ (subst (λ (d : DeskState). RoundsFrom d (state c.finish-ending.new.desk)) c.in_ok-desk.ensures c.finish-ending.ensures.rounds)
    (subst (λ (d : DeskState). IsSame d (state c.finish-ending.new.desk)) c.in_ok-desk.ensures c.finish-ending.ensures.frame) c.into_ended.ensures
