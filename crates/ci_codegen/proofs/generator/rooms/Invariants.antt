use Rattle.std.proofs.Common.{◌≡◌, map, take}
use Rattle.ci_tree.specs.Rooms.{room}
use Rattle.ci_tree.specs.SeenBound.{project_of}
use Rattle.ci_codegen.proofs.generator.rooms.Given as goal

abbrev pub invariant-loop-number : goal.invariant-loop-number
invariant-loop-number l = l.rooms.items ≡ map room (take l.number (project_of l.project).functions)
