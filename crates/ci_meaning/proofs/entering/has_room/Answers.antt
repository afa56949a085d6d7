use Rattle.std.proofs.Common.{◌≡◌, ◌+◌, length, sym, ap, arith}
use Rattle.std.specs.Prelude.{nat_le, sum_by}
use Rattle.std.proofs.lemmas.Bool.{lt-leb}
use Rattle.std.proofs.lemmas.List.{take_all}
use Rattle.std.proofs.lemmas.List.Sums.{sum_by-take-le}
use Rattle.ci_base.specs.declared.bounds.TheConstants.{MOST_ROOM}
use Rattle.ci_tree.specs.Rooms.{room}
use Rattle.ci_tree.specs.SeenBound.{project_of}
use Rattle.ci_meaning.specs.Configuration.{function_at}
use Rattle.ci_meaning.specs.Held.{task_of}
use Rattle.ci_meaning.specs.Moves.{rooms}
use Rattle.ci_meaning.proofs.Taken.{room_in, rooms_sum}
use Rattle.ci_meaning.proofs.entering.has_room.Goals as goal

pub returns-then-taken-gt-MOST_ROOM : goal.returns-then-taken-gt-MOST_ROOM
returns-then-taken-gt-MOST_ROOM c heads =
    let p = project_of c.args.project.now in
    let callers = c.args.task.now.callers in
    let whole = rooms_sum p heads callers in
    let part = sum_by-take-le (room_in p) callers c.loop-caller.caller-index in
    sym (lt-leb (room (function_at p c.args.function) + rooms p (task_of heads c.args.task.now)) MOST_ROOM (omega (arith, whole, part)))

pub returns : goal.returns
returns c heads =
    let p = project_of c.args.project.now in
    let callers = c.args.task.now.callers in
    let whole = rooms_sum p heads callers in
    let all = ap (λ l. sum_by (room_in p) l) (take_all c.loop-caller.caller-index callers (omega (arith, ap (λ l. length l) c.as_slice-caller-items.ensures))) in
    let same : c.loop-caller.taken ≡ room (function_at p c.args.function) + rooms p (task_of heads c.args.task.now) = omega (arith, whole, all) in
    ap (λ n. nat_le n MOST_ROOM) same
