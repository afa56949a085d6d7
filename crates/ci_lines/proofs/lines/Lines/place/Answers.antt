use Rattle.std.proofs.Common.{◌≡◌, ◌∷◌, [], get_or, ℕ, Option, Some, None, List, subst, sym, ap, ◌∙◌, refl, true≢false}
use Rattle.ci_base.specs.declared.place.Place.{Place}
use Rattle.ci_shared.specs.declared.waiter.Waiter.{Waiter}
use Rattle.ci_shared.specs.Roster.{Once, seats}
use Rattle.ci_lines.specs.Found.{IsAt, waiter_of}
use Rattle.ci_lines.proofs.Taking.{nowhere, seat_at}
use Rattle.ci_lines.proofs.lines.Lines.place.Goals as goal
use Rattle.ci_lines.proofs.lines.Lines.place.Goals.{After-copy}

along : (t : ℕ) (r : Option ℕ) (inside ws : List Waiter) → inside ≡ ws → IsAt inside (waiter_of t inside) r → IsAt ws (waiter_of t ws) r
along t r inside ws e h = subst (λ (l : List Waiter). IsAt l (waiter_of t l) r) e h

there : (c : After-copy) → seats c.args.task c.args.self.now ≡ c.copy.result ∷ []
there c =
    let w = c.index-waiter.result.now in
    let once : Once c.args.self.now = subst (λ (l : List Waiter). Once l) c.self.view_is c.self.invariant.1 in
    seat_at c.args.task c.args.self.now c.in-Some.at w once
    (along c.args.task (Some c.in-Some.at) c.self.inside.waiting.items c.args.self.now c.self.view_is c.in-Some.ensures)
    (c.index-waiter.ensures ∙ ap (λ (l : List Waiter). get_or l c.in-Some.at w) c.self.view_is)
    ∙ ap (λ (p : Place). p ∷ []) (sym c.copy.ensures)

pub returns-in-Some-clause-nowhere : goal.returns-in-Some-clause-nowhere
returns-in-Some-clause-nowhere c = (λ e. absurd (true≢false e), λ e. absurd (cc (sym (there c) ∙ e)))

pub returns-in-Some-clause-place : goal.returns-in-Some-clause-place
returns-in-Some-clause-place c = there c

pub returns-in-None-clause-nowhere : goal.returns-in-None-clause-nowhere
returns-in-None-clause-nowhere c =
    (λ e. nowhere c.args.task c.args.self.now (along c.args.task None c.self.inside.waiting.items c.args.self.now c.self.view_is c.in-None.ensures), λ e. refl)
