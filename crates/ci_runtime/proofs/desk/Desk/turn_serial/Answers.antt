use Rattle.std.proofs.Common.{ap, subst}
use Rattle.ci_runtime.specs.Desks.{Chooses, state}
use Rattle.ci_runtime.specs.declared.choice.Choice.{Choice}
use Rattle.ci_runtime.proofs.Rounding.{round_end, round_stop, round_event, can_in, turn_in, not_end_event, not_end_turn}
use Rattle.ci_runtime.proofs.desk.Desk.turn_serial.Goals as goal

pub take_event-requires-clause-rest : goal.take_event-requires-clause-rest
take_event-requires-clause-rest c = (subst (λ (x : Choice). Chooses (state c.args.self.now) x) c.in-Happen.is c.choose.ensures).0

pub take_event-requires-clause-due : goal.take_event-requires-clause-due
take_event-requires-clause-due c = (subst (λ (x : Choice). Chooses (state c.args.self.now) x) c.in-Happen.is c.choose.ensures).1

pub turn-requires : goal.turn-requires
turn-requires c = can_in _ _ _ c.self.inside.board _ (ap state c.self.view_is) (subst (λ (x : Choice). Chooses (state c.args.self.now) x) c.in-Turn.is c.choose.ensures) c.requires

pub returns-in-End-clause-round : goal.returns-in-End-clause-round
returns-in-End-clause-round c = round_end (state c.args.self.now) (subst (λ (x : Choice). Chooses (state c.args.self.now) x) c.in-End.is c.choose.ensures)

pub returns-in-End-clause-by : goal.returns-in-End-clause-by
returns-in-End-clause-by c = subst (λ (x : Choice). Chooses (state c.args.self.now) x) c.in-End.is c.choose.ensures

pub returns-in-Stop-clause-round : goal.returns-in-Stop-clause-round
returns-in-Stop-clause-round c = round_stop (state c.args.self.now) (subst (λ (x : Choice). Chooses (state c.args.self.now) x) c.in-Stop.is c.choose.ensures)

pub returns-in-Stop-clause-by : goal.returns-in-Stop-clause-by
returns-in-Stop-clause-by c = subst (λ (x : Choice). Chooses (state c.args.self.now) x) c.in-Stop.is c.choose.ensures

pub returns-in-Happen-clause-round : goal.returns-in-Happen-clause-round
returns-in-Happen-clause-round c = let x = subst (λ (x : Choice). Chooses (state c.args.self.now) x) c.in-Happen.is c.choose.ensures in round_event (state c.args.self.now) (state c.take_event.new.self) x.0 x.1 c.take_event.ensures.took

pub returns-in-Happen-clause-by : goal.returns-in-Happen-clause-by
returns-in-Happen-clause-by c = not_end_event (state c.args.self.now) (subst (λ (x : Choice). Chooses (state c.args.self.now) x) c.in-Happen.is c.choose.ensures)

pub returns-in-Turn-clause-round : goal.returns-in-Turn-clause-round
returns-in-Turn-clause-round c = turn_in (state c.args.self.now) (state c.turn.new.self) _ _ c.self.inside.board _ (ap state c.self.view_is) (subst (λ (x : Choice). Chooses (state c.args.self.now) x) c.in-Turn.is c.choose.ensures) c.turn.ensures.turned

pub returns-in-Turn-clause-by : goal.returns-in-Turn-clause-by
returns-in-Turn-clause-by c = not_end_turn (state c.args.self.now) _ (subst (λ (x : Choice). Chooses (state c.args.self.now) x) c.in-Turn.is c.choose.ensures)
