use Rattle.std.proofs.Common.{◌≡◌, ◌≢◌, ℤ, None, subst, rules, w32, to_z, of_z}
use Rattle.std.proofs.lemmas.Int.{to_z-of_z}
use Rattle.ci_sems.specs.Found.{Stands}
use Rattle.ci_shared.specs.Semaphores.{semaphore_of}
use Rattle.ci_sems.proofs.Finding.{number_here, number_nowhere, number_passed}
use Rattle.ci_sems.proofs.find.by_number.Goals as goal

pub returns-then-has_number : goal.returns-then-has_number
returns-then-has_number c =
    let same : c.index-kept-i.result.number ≡ to_z w32 (of_z w32 c.args.number) = search rules in
    subst (λ (h : ℤ). Stands h c.args.kept.now c.loop-i.i) (to_z-of_z w32 c.args.number c.ranges.number)
    (number_here (to_z w32 (of_z w32 c.args.number)) c.args.kept.now c.loop-i.i c.index-kept-i.result c.loop-i-test.true c.index-kept-i.is c.loop-i.invariant same)

pub loop-i-preserved : goal.loop-i-preserved
loop-i-preserved c =
    let other : c.index-kept-i.result.number ≢ to_z w32 (of_z w32 c.args.number) = search rules in
    number_passed (to_z w32 (of_z w32 c.args.number)) c.args.kept.now c.loop-i.i c.index-kept-i.result c.loop-i-test.true c.index-kept-i.is c.loop-i.invariant other

pub returns : goal.returns
returns c =
    subst (λ (h : ℤ). semaphore_of h c.args.kept.now ≡ None) (to_z-of_z w32 c.args.number c.ranges.number)
    (number_nowhere (to_z w32 (of_z w32 c.args.number)) c.args.kept.now c.loop-i.i c.loop-i-test.false c.loop-i.invariant)
