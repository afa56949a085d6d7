use Rattle.std.proofs.Common.{◌≡◌, to_z, of_z, w32, rules}
use Rattle.ci_base.specs.declared.event.EventKind.TheVariants as events
use Rattle.ci_shared.specs.Serving.{script}
use Rattle.ci_store.proofs.Whole.{happened_so}
use Rattle.ci_store.proofs.serving.answer_event.Goals as goal

pub returns-in-Run : goal.returns-in-Run
unfolding script
returns-in-Run c =
    let p = c.args.parts.now in
    happened_so p c.start.new.parts (events.Run c.in-Run.name c.in-Run.list) c.args.event.now c.start.result c.in-Run.is c.start.ensures

pub returns-in-Tick : goal.returns-in-Tick
unfolding script
returns-in-Tick c =
    let p = c.args.parts.now in
    let ms_is : to_z w32 (of_z w32 c.in-Tick.ms) ≡ c.in-Tick.ms = search rules in
    let done = rw ms_is at c.tick.ensures in
    happened_so p c.tick.new.parts (events.Tick c.in-Tick.ms) c.args.event.now c.tick.result c.in-Tick.is done

pub returns-in-Kill : goal.returns-in-Kill
unfolding script
returns-in-Kill c =
    let p = c.args.parts.now in
    let n_is : to_z w32 (of_z w32 c.in-Kill.n) ≡ c.in-Kill.n = search rules in
    let done = rw n_is at c.kill.ensures in
    happened_so p c.kill.new.parts (events.Kill c.in-Kill.n) c.args.event.now c.kill.result c.in-Kill.is done

pub returns-in-Suspend : goal.returns-in-Suspend
unfolding script
returns-in-Suspend c =
    let p = c.args.parts.now in
    let n_is : to_z w32 (of_z w32 c.in-Suspend.n) ≡ c.in-Suspend.n = search rules in
    let done = rw n_is at c.suspend.ensures in
    happened_so p c.suspend.new.parts (events.Suspend c.in-Suspend.n) c.args.event.now c.suspend.result c.in-Suspend.is done

pub returns-in-Resume : goal.returns-in-Resume
unfolding script
returns-in-Resume c =
    let p = c.args.parts.now in
    let n_is : to_z w32 (of_z w32 c.in-Resume.n) ≡ c.in-Resume.n = search rules in
    let done = rw n_is at c.resume.ensures in
    happened_so p c.resume.new.parts (events.Resume c.in-Resume.n) c.args.event.now c.resume.result c.in-Resume.is done

pub returns-in-Put : goal.returns-in-Put
unfolding script
returns-in-Put c =
    let p = c.args.parts.now in
    let sort_is : to_z w32 (of_z w32 c.in-Put.sort) ≡ c.in-Put.sort = search rules in
    let done = rw sort_is at c.put_named.ensures in
    happened_so p c.put_named.new.parts (events.Put c.in-Put.name c.in-Put.sort c.in-Put.text) c.args.event.now c.put_named.result c.in-Put.is done

pub returns-in-Signal : goal.returns-in-Signal
unfolding script
returns-in-Signal c =
    let p = c.args.parts.now in
    happened_so p c.signal_named.new.parts (events.Signal c.in-Signal.name) c.args.event.now c.signal_named.result c.in-Signal.is c.signal_named.ensures

pub returns-in-Set : goal.returns-in-Set
unfolding script
returns-in-Set c =
    let p = c.args.parts.now in
    happened_so p c.set.new.parts (events.Set c.in-Set.name c.in-Set.value) c.args.event.now c.set.result c.in-Set.is c.set.ensures
