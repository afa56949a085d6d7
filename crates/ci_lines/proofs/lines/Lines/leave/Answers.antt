use Rattle.std.proofs.Common.{◌≡◌, ℕ, Option, Some, None, List, subst, sym, ap, ◌∙◌, refl, true≢false}
use Rattle.ci_shared.specs.declared.waiter.Waiter.{Waiter}
use Rattle.ci_shared.specs.Roster.{without}
use Rattle.ci_lines.specs.Found.{IsAt, waiter_of}
use Rattle.ci_lines.proofs.Taking.{nowhere, seat_taken, stays}
use Rattle.ci_lines.proofs.lines.Lines.leave.Goals as goal

along : (t : ℕ) (r : Option ℕ) (inside ws : List Waiter) → inside ≡ ws → IsAt inside (waiter_of t inside) r → IsAt ws (waiter_of t ws) r
along t r inside ws e h = subst (λ (l : List Waiter). IsAt l (waiter_of t l) r) e h

pub returns-in-Some-clause-nowhere : goal.returns-in-Some-clause-nowhere
returns-in-Some-clause-nowhere c =
    let seat = seat_taken c.args.task c.args.self.now c.in-Some.at c.take_at.result c.take_at.ensures.once (along c.args.task (Some c.in-Some.at) c.self.inside.waiting.items c.args.self.now c.self.view_is c.in-Some.ensures) c.take_at.ensures.taken in
    (λ e. absurd (true≢false e), λ e. absurd (cc (sym seat.1 ∙ e)))

pub returns-in-Some-clause-place : goal.returns-in-Some-clause-place
returns-in-Some-clause-place c =
    (seat_taken c.args.task c.args.self.now c.in-Some.at c.take_at.result c.take_at.ensures.once (along c.args.task (Some c.in-Some.at) c.self.inside.waiting.items c.args.self.now c.self.view_is c.in-Some.ensures) c.take_at.ensures.taken).1

pub returns-in-Some-clause-rest : goal.returns-in-Some-clause-rest
returns-in-Some-clause-rest c =
    c.take_at.ensures.rest ∙ ap (λ (t : ℕ). without t c.args.self.now)
    ((seat_taken c.args.task c.args.self.now c.in-Some.at c.take_at.result c.take_at.ensures.once (along c.args.task (Some c.in-Some.at) c.self.inside.waiting.items c.args.self.now c.self.view_is c.in-Some.ensures) c.take_at.ensures.taken).0)

pub returns-in-None-clause-nowhere : goal.returns-in-None-clause-nowhere
returns-in-None-clause-nowhere c =
    (λ e. nowhere c.args.task c.args.self.now (along c.args.task None c.self.inside.waiting.items c.args.self.now c.self.view_is c.in-None.ensures), λ e. refl)

pub returns-in-None-clause-rest : goal.returns-in-None-clause-rest
returns-in-None-clause-rest c = stays c.args.task c.args.self.now (along c.args.task None c.self.inside.waiting.items c.args.self.now c.self.view_is c.in-None.ensures)
