use Rattle.std.proofs.Common.{◌≡◌, to_z, of_z, w32, true}
use Rattle.std.proofs.lemmas.Int.{to_z-of_z}
use Rattle.ci_shared.specs.Words.{whole}
use Rattle.ci_store.proofs.Ending.{mark_does}
use Rattle.ci_store.proofs.tasks.suspend.Goals as goal

pub returns : goal.returns
returns c =
    let number_is : to_z w32 (of_z w32 c.args.number) ≡ c.args.number = to_z-of_z w32 c.args.number c.ranges.number in
    mark_does c.args.parts.now c.requires true (whole c.args.number) c.suspend.result c.suspend.new.self (rw number_is at c.suspend.ensures.answer) (rw number_is at c.suspend.ensures.tasks)
