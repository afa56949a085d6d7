use Rattle.std.proofs.Common.{◌≡◌, ◌∙◌, ℕ, ap, sym, refl, subst, arith, Option}
use Rattle.ci_runtime.specs.Desks.{CanGoOn, DeskValue, DoesFrom, state}
use Rattle.ci_runtime.proofs.Rounding.{TurnSoFar, turn_begins, turn_goes, turn_ends}
use Rattle.ci_runtime.proofs.desk.Desk.turn.Goals as goal

pub loop-rest-init : goal.loop-rest-init
loop-rest-init c =
    let slice : c.args.self.now.limits.slice ≡ c.self.inside.limits.slice = ap (λ (v : DeskValue). v.limits.slice) (sym c.self.view_is) in
    let d = state c.args.self.now in
    record {
      same = record { origin = refl; limits = refl };
      can = subst (λ (x : ℕ). CanGoOn d c.args.task x) slice c.requires;
      so_far = subst (λ (x : ℕ). TurnSoFar d c.args.task c.args.self.now.limits.slice d x) slice (turn_begins d c.args.task c.args.self.now.limits.slice);
      grew = omega arith;
    }

pub loop-rest-preserved : goal.loop-rest-preserved
loop-rest-preserved c =
    let i = c.loop-rest.invariant in
    let m = c.in-Some.ensures in
    record {
      same = record { origin = c.go_on.ensures.frame.origin ∙ i.same.origin; limits = c.go_on.ensures.frame.limits ∙ i.same.limits };
      can = m.more;
      so_far = turn_goes _ _ _ _ _ _ _ i.so_far i.same (subst (λ (r : Option ℕ). DoesFrom (state c.loop-rest.self) c.args.task c.loop-rest.left r (state c.go_on.new.self)) c.in-Some.is c.go_on.ensures.does);
      grew = omega (arith, i.grew, c.go_on.ensures.grows);
    }

pub returns-clause-turned : goal.returns-clause-turned
returns-clause-turned c =
    let i = c.loop-rest.invariant in
    turn_ends _ _ _ _ _ _ i.so_far i.same (subst (λ (r : Option ℕ). DoesFrom (state c.loop-rest.self) c.args.task c.loop-rest.left r (state c.go_on.new.self)) c.in_default.is c.go_on.ensures.does)
