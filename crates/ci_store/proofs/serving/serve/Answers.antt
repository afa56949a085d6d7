use Rattle.std.proofs.Common.{◌≡◌, pos, sym, to_z, of_z, w32, rules}
use Rattle.std.specs.Prelude.{slice_get}
use Rattle.ci_base.specs.declared.request.Request.TheVariants as requests
use Rattle.ci_base.specs.Numbers.{wrap}
use Rattle.ci_shared.specs.Queues.{que_length}
use Rattle.ci_shared.specs.Rows.{coded, number}
use Rattle.ci_shared.specs.Serving.{apply}
use Rattle.ci_shared.specs.Started.{task_named}
use Rattle.ci_shared.specs.Steps.{read}
use Rattle.ci_tasktab.specs.Slots.{tasks_in}
use Rattle.ci_store.proofs.Answering.{answers_at_once}
use Rattle.ci_store.proofs.Asking.{asker}
use Rattle.ci_store.proofs.Ending.{says}
use Rattle.ci_store.proofs.Whole.{asked_so, does_serves, told_so}
use Rattle.ci_store.proofs.serving.serve.Goals as goal
use Rattle.ci_store.proofs.serving.serve.Goals.{in-Read, in-Write, in-TaskNew, in-TaskSuspend, in-TaskResume, in-TaskHnd, in-SemOpen, in-SemSignal, in-SemClose, in-QueOpen, in-QueWrite, in-QueLength, in-QueClose, in-Leave, in-Trace, in-SysTime}

pub handle-answer-requires : goal.handle-answer-requires
handle-answer-requires c = (asker c.args.parts.now c.args.task c.requires.clear.sound c.requires.asker).most

pub returns-in-TaskKill : goal.returns-in-TaskKill
unfolding apply
returns-in-TaskKill c =
    let p = c.args.parts.now in
    let n_is : to_z w32 (of_z w32 c.in-TaskKill.n) ≡ c.in-TaskKill.n = search rules in
    let done = rw n_is at c.kill.ensures in
    asked_so p c.kill.new.parts c.args.task (requests.TaskKill c.in-TaskKill.n) c.args.request.now c.kill.result c.in-TaskKill.is done

pub returns-in-Sleep : goal.returns-in-Sleep
unfolding apply
returns-in-Sleep c =
    let p = c.args.parts.now in
    let n_is : to_z w32 (of_z w32 c.in-Sleep.n) ≡ c.in-Sleep.n = search rules in
    let done = rw n_is at c.sleep.ensures in
    asked_so p c.sleep.new.parts c.args.task (requests.Sleep c.in-Sleep.n) c.args.request.now c.sleep.result c.in-Sleep.is done

pub returns-in-SleepMS : goal.returns-in-SleepMS
unfolding apply
returns-in-SleepMS c =
    let p = c.args.parts.now in
    let n_is : to_z w32 (of_z w32 c.in-SleepMS.n) ≡ c.in-SleepMS.n = search rules in
    let done = rw n_is at c.sleep-in-SleepMS.ensures in
    asked_so p c.sleep-in-SleepMS.new.parts c.args.task (requests.SleepMS c.in-SleepMS.n) c.args.request.now c.sleep-in-SleepMS.result c.in-SleepMS.is done

pub returns-in-SemWait : goal.returns-in-SemWait
unfolding apply
returns-in-SemWait c =
    let p = c.args.parts.now in
    let number_is : to_z w32 (of_z w32 c.in-SemWait.number) ≡ c.in-SemWait.number = search rules in
    let n_is : to_z w32 (of_z w32 c.in-SemWait.n) ≡ c.in-SemWait.n = search rules in
    let done = rw (number_is, n_is) at c.wait.ensures in
    asked_so p c.wait.new.parts c.args.task (requests.SemWait c.in-SemWait.number c.in-SemWait.n) c.args.request.now c.wait.result c.in-SemWait.is done

pub returns-in-QueRead : goal.returns-in-QueRead
unfolding apply
returns-in-QueRead c =
    let p = c.args.parts.now in
    let number_is : to_z w32 (of_z w32 c.in-QueRead.number) ≡ c.in-QueRead.number = search rules in
    let mode_is : to_z w32 (of_z w32 c.in-QueRead.mode) ≡ c.in-QueRead.mode = search rules in
    let done = rw (number_is, mode_is) at c.read.ensures in
    asked_so p c.read.new.parts c.args.task (requests.QueRead c.in-QueRead.number c.in-QueRead.mode) c.args.request.now c.read.result c.in-QueRead.is done

pub returns-in-Enter : goal.returns-in-Enter
unfolding apply
returns-in-Enter c =
    let p = c.args.parts.now in
    asked_so p c.enter.new.parts c.args.task (requests.Enter c.in-Enter.text) c.args.request.now c.enter.result c.in-Enter.is c.enter.ensures

pub returns-in-End : goal.returns-in-End
unfolding apply
returns-in-End c =
    let p = c.args.parts.now in
    asked_so p c.finish.new.parts c.args.task (requests.End c.in-End.code) c.args.request.now c.finish.result c.in-End.is c.finish.ensures

pub returns : goal.returns
unfolding apply
returns c =
    let p = c.args.parts.now in
    elim c.match-request.branch [
      | in-Read w ↦
          told_so w.parts-is w.answer-is (asked_so p p c.args.task (requests.Read w.in-Read.cell) c.args.request.now _ w.in-Read.is (answers_at_once p c.requires.clear c.args.task (asker p c.args.task c.requires.clear.sound c.requires.asker).nowhere (read (slice_get p.vars w.in-Read.cell)) w.read-answer.result (sym w.read-answer.ensures)))
      | in-Write w ↦
          told_so w.parts-is w.answer-is (asked_so p w.write-answer.new.parts c.args.task (requests.Write w.in-Write.cell w.in-Write.value) c.args.request.now _ w.in-Write.is (does_serves _ w.write-answer.result p w.write-answer.new.parts w.write-answer.ensures))
      | in-TaskNew w ↦
          told_so w.parts-is w.answer-is (asked_so p w.start-answer.new.parts c.args.task (requests.TaskNew w.in-TaskNew.name w.in-TaskNew.list w.in-TaskNew.mode) c.args.request.now _ w.in-TaskNew.is (does_serves _ w.start-answer.result p w.start-answer.new.parts w.start-answer.ensures))
      | in-TaskSuspend w ↦
          let n_is : to_z w32 (of_z w32 w.in-TaskSuspend.n) ≡ w.in-TaskSuspend.n = search rules in
          let done = rw n_is at w.suspend-answer.ensures in
          told_so w.parts-is w.answer-is (asked_so p w.suspend-answer.new.parts c.args.task (requests.TaskSuspend w.in-TaskSuspend.n) c.args.request.now _ w.in-TaskSuspend.is (does_serves _ w.suspend-answer.result p w.suspend-answer.new.parts done))
      | in-TaskResume w ↦
          let n_is : to_z w32 (of_z w32 w.in-TaskResume.n) ≡ w.in-TaskResume.n = search rules in
          let done = rw n_is at w.resume-answer.ensures in
          told_so w.parts-is w.answer-is (asked_so p w.resume-answer.new.parts c.args.task (requests.TaskResume w.in-TaskResume.n) c.args.request.now _ w.in-TaskResume.is (does_serves _ w.resume-answer.result p w.resume-answer.new.parts done))
      | in-TaskHnd w ↦
          told_so w.parts-is w.answer-is (asked_so p p c.args.task (requests.TaskHnd w.in-TaskHnd.name) c.args.request.now _ w.in-TaskHnd.is (does_serves _ w.handle-answer.result p p (says p c.requires.clear w.handle-answer.result (task_named p.layout.functions c.args.task w.in-TaskHnd.name (tasks_in p.lines p.tasks)) w.handle-answer.ensures)))
      | in-SemOpen w ↦
          let mode_is : to_z w32 (of_z w32 w.in-SemOpen.mode) ≡ w.in-SemOpen.mode = search rules in
          let done = rw mode_is at w.open_semaphore-answer.ensures in
          told_so w.parts-is w.answer-is (asked_so p w.open_semaphore-answer.new.parts c.args.task (requests.SemOpen w.in-SemOpen.name w.in-SemOpen.mode) c.args.request.now _ w.in-SemOpen.is (does_serves _ w.open_semaphore-answer.result p w.open_semaphore-answer.new.parts done))
      | in-SemSignal w ↦
          let number_is : to_z w32 (of_z w32 w.in-SemSignal.number) ≡ w.in-SemSignal.number = search rules in
          let done = rw number_is at w.signal-answer.ensures in
          told_so w.parts-is w.answer-is (asked_so p w.signal-answer.new.parts c.args.task (requests.SemSignal w.in-SemSignal.number) c.args.request.now _ w.in-SemSignal.is (does_serves _ w.signal-answer.result p w.signal-answer.new.parts done))
      | in-SemClose w ↦
          let number_is : to_z w32 (of_z w32 w.in-SemClose.number) ≡ w.in-SemClose.number = search rules in
          let done = rw number_is at w.close_semaphore-answer.ensures in
          told_so w.parts-is w.answer-is (asked_so p w.close_semaphore-answer.new.parts c.args.task (requests.SemClose w.in-SemClose.number) c.args.request.now _ w.in-SemClose.is (does_serves _ w.close_semaphore-answer.result p w.close_semaphore-answer.new.parts done))
      | in-QueOpen w ↦
          let mode_is : to_z w32 (of_z w32 w.in-QueOpen.mode) ≡ w.in-QueOpen.mode = search rules in
          let done = rw mode_is at w.open_queue-answer.ensures in
          told_so w.parts-is w.answer-is (asked_so p w.open_queue-answer.new.parts c.args.task (requests.QueOpen w.in-QueOpen.name w.in-QueOpen.mode) c.args.request.now _ w.in-QueOpen.is (does_serves _ w.open_queue-answer.result p w.open_queue-answer.new.parts done))
      | in-QueWrite w ↦
          let number_is : to_z w32 (of_z w32 w.in-QueWrite.number) ≡ w.in-QueWrite.number = search rules in
          let sort_is : to_z w32 (of_z w32 w.in-QueWrite.sort) ≡ w.in-QueWrite.sort = search rules in
          let done = rw (number_is, sort_is) at w.write-answer-in-QueWrite.ensures in
          told_so w.parts-is w.answer-is (asked_so p w.write-answer-in-QueWrite.new.parts c.args.task (requests.QueWrite w.in-QueWrite.number w.in-QueWrite.sort w.in-QueWrite.text) c.args.request.now _ w.in-QueWrite.is (does_serves _ w.write-answer-in-QueWrite.result p w.write-answer-in-QueWrite.new.parts done))
      | in-QueLength w ↦
          let number_is : to_z w32 (of_z w32 w.in-QueLength.number) ≡ w.in-QueLength.number = search rules in
          let done = rw number_is at w.length-answer.ensures in
          told_so w.parts-is w.answer-is (asked_so p p c.args.task (requests.QueLength w.in-QueLength.number) c.args.request.now _ w.in-QueLength.is (does_serves _ w.length-answer.result p p (says p c.requires.clear w.length-answer.result (que_length w.in-QueLength.number p.queues) done)))
      | in-QueClose w ↦
          let number_is : to_z w32 (of_z w32 w.in-QueClose.number) ≡ w.in-QueClose.number = search rules in
          let done = rw number_is at w.close_queue-answer.ensures in
          told_so w.parts-is w.answer-is (asked_so p w.close_queue-answer.new.parts c.args.task (requests.QueClose w.in-QueClose.number) c.args.request.now _ w.in-QueClose.is (does_serves _ w.close_queue-answer.result p w.close_queue-answer.new.parts done))
      | in-Leave w ↦
          told_so w.parts-is w.answer-is (asked_so p w.depart-answer.new.parts c.args.task (requests.Leave w.in-Leave.text) c.args.request.now _ w.in-Leave.is (does_serves _ w.depart-answer.result p w.depart-answer.new.parts w.depart-answer.ensures))
      | in-Trace w ↦
          told_so w.parts-is w.answer-is (asked_so p p c.args.task (requests.Trace w.in-Trace.text) c.args.request.now _ w.in-Trace.is (does_serves _ w.coded-answer.result p p (says p c.requires.clear w.coded-answer.result (coded 0) w.coded-answer.ensures)))
      | in-SysTime w ↦
          told_so w.parts-is w.answer-is (asked_so p p c.args.task requests.SysTime c.args.request.now _ w.in-SysTime.is (does_serves _ w.system_time-answer.result p p (says p c.requires.clear w.system_time-answer.result (number (wrap (pos p.clock))) w.system_time-answer.ensures)))
    ]
