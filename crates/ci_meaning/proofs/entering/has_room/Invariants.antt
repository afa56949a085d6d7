use Rattle.std.proofs.Common.{◌≡◌, ◌+◌, take}
use Rattle.std.specs.Prelude.{sum_by}
use Rattle.ci_tree.specs.Rooms.{room}
use Rattle.ci_tree.specs.SeenBound.{project_of}
use Rattle.ci_meaning.specs.Configuration.{function_at}
use Rattle.ci_meaning.proofs.Taken.{room_in}
use Rattle.ci_meaning.proofs.entering.has_room.Given as goal

abbrev pub invariant-loop-caller : goal.invariant-loop-caller
invariant-loop-caller l =
    let p = project_of l.project in
    l.taken ≡ room (function_at p l.function) + room (function_at p l.task.frame.function) + sum_by (room_in p) (take l.caller-index l.task.callers)
