use Rattle.std.proofs.Common.{to_z, of_z, w32}
use Rattle.ci_objects_tests.proofs.Numbers.{above_of, least_of, semaphores_keep}
use Rattle.ci_objects_tests.specs.Opening.{semaphore_number}
use Rattle.ci_objects_tests.proofs.semaphores.Making.open.Goals as goal

pub name-requires : goal.name-requires
name-requires c = record {
  least = least_of _ semaphore_number c.self.inside.next c.self.inside.sems c.self.invariant;
  above = above_of _ semaphore_number c.self.inside.next c.self.inside.sems c.self.invariant;
}

pub invariant_of-self : goal.invariant_of-self
invariant_of-self c =
    semaphores_keep c.args.name.now (to_z w32 (of_z w32 c.args.mode)) c.self.inside.next c.self.inside.sems c.name.result c.name.new.self c.name.new.next c.self.invariant c.name.ensures
