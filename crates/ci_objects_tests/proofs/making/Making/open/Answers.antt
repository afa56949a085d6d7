use Rattle.std.proofs.Common.{to_z, of_z, w32}
use Rattle.ci_objects_tests.proofs.Numbers.{above_of, least_of, queues_keep}
use Rattle.ci_objects_tests.specs.Opening.{queue_number}
use Rattle.ci_objects_tests.proofs.making.Making.open.Goals as goal

pub name-requires : goal.name-requires
name-requires c = record {
  least = least_of _ queue_number c.self.inside.next c.self.inside.queues c.self.invariant;
  above = above_of _ queue_number c.self.inside.next c.self.inside.queues c.self.invariant;
}

pub invariant_of-self : goal.invariant_of-self
invariant_of-self c =
    queues_keep c.args.name.now (to_z w32 (of_z w32 c.args.mode)) c.self.inside.next c.self.inside.queues c.name.result c.name.new.self c.name.new.next c.self.invariant c.name.ensures
