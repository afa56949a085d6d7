use Rattle.std.proofs.Common.{◌∙◌, refl, subst}
use Rattle.ci_base.specs.declared.limits.Turn.{Turn}
use Rattle.ci_runtime.specs.Desks.{RoundFrom, state}
use Rattle.ci_runtime.proofs.Running.{rounds_begin, rounds_go, spent_ends}
use Rattle.ci_runtime.proofs.rounds.finish.Goals as goal

pub loop-desk-init : goal.loop-desk-init
loop-desk-init c = record { same = record { origin = refl; limits = refl }; so_far = rounds_begin (state c.args.desk.now) }

pub loop-desk-preserved : goal.loop-desk-preserved
loop-desk-preserved c =
    let i = c.loop-desk.invariant in
    let f = c.turn_serial.ensures.frame in
    record {
      same = record { origin = f.origin ∙ i.same.origin; limits = f.limits ∙ i.same.limits };
      so_far = rounds_go _ _ _ i.so_far i.same (subst (λ (t : Turn). RoundFrom (state c.loop-desk.desk) t (state c.turn_serial.new.self)) c.in-Went.is c.turn_serial.ensures.round);
    }

pub returns-in-Spent-clause-ends : goal.returns-in-Spent-clause-ends
returns-in-Spent-clause-ends c = spent_ends c.loop-desk.desk c.turn_serial.new.self c.turn_serial.result c.in-Spent.is c.turn_serial.ensures.still c.turn_serial.ensures.by
