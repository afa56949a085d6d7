use Rattle.ci_store.proofs.Ending.{end_leaves, end_lives, end_room}
use Rattle.ci_store.proofs.tasks.end.Goals as goal

pub depart_all-requires : goal.depart_all-requires
depart_all-requires c = end_room c.args.parts.now c.requires.clear c.args.task c.args.code c.leave-place.new.self c.leave-place.ensures.rest

pub free-requires : goal.free-requires
free-requires c =
    end_lives c.args.parts.now c.requires.clear c.args.task c.args.code c.set_dead.new.tasks c.leave-place.new.self c.depart_all.new.woken c.deliveries.result.now
    c.set_dead.ensures c.leave-place.ensures.rest c.depart_all.ensures.woken c.deliveries.ensures.value

pub returns : goal.returns
returns c =
    end_leaves c.args.parts.now c.requires.clear c.args.task c.args.code c.set_dead.new.tasks c.free.new.tasks c.leave-place.new.self c.depart_all.new.lines c.depart_all.new.self c.depart_all.new.woken c.deliveries.result.now
    c.set_dead.ensures c.leave-place.ensures.rest c.depart_all.ensures.sections c.depart_all.ensures.lines c.depart_all.ensures.woken c.deliveries.ensures.value c.free.ensures
