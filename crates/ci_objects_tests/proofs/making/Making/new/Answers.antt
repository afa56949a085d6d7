use Rattle.std.proofs.Common.{pos, sym, subst, ℤ, w32}
use Rattle.std.specs.Prelude.{◌≤ℤ◌}
use Rattle.std.proofs.lemmas.Int.{to_z-of_z}
use Rattle.ci_objects_tests.proofs.Numbers.{at_first}
use Rattle.ci_objects_tests.specs.Opening.{queue_number}
use Rattle.ci_objects_tests.proofs.making.Making.new.Goals as goal

pub invariant_of-result : goal.invariant_of-result
invariant_of-result c = at_first _ queue_number _ _ (subst (λ (n : ℤ). pos 1 ≤ℤ n) (sym (to_z-of_z w32 c.args.next c.ranges.next)) c.requires) c.in-Ok.ensures
