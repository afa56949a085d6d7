-- How requests and events are served: a row for each.
use Rattle.std.specs.Prelude.{ℕ, pos, true, false, if◌then◌else◌, nat_eq, slice_get}
use Rattle.ci_base.specs.Numbers.{wrap}
use Rattle.ci_base.specs.declared.event.EventKind.{EventKind}
use Rattle.ci_base.specs.declared.event.EventKind.TheVariants as events
use Rattle.ci_base.specs.declared.event.EventReply.{EventReply}
use Rattle.ci_base.specs.declared.reply.Reply.{Reply}
use Rattle.ci_base.specs.declared.reply.Reply.TheVariants as replies
use Rattle.ci_base.specs.declared.request.Request.{Request}
use Rattle.ci_base.specs.declared.request.Request.TheVariants as requests
use Rattle.ci_shared.specs.Queues.{que_open, que_write, que_read, que_length, que_close, put_named, queue_named}
use Rattle.ci_shared.specs.Roster.{Ended, Killed}
use Rattle.ci_shared.specs.Rows.{coded, number}
use Rattle.ci_shared.specs.Sections.{enter, depart}
use Rattle.ci_shared.specs.Semaphores.{sem_open, sem_wait, sem_signal, sem_close, signal_named, semaphore_named}
use Rattle.ci_shared.specs.Started.{Basis, spawn, task_named}
use Rattle.ci_shared.specs.State.{Shared, Served, as_reply, said, attempted}
use Rattle.ci_shared.specs.Steps.{by_semaphores, by_queues, by_sections, try_semaphores, try_queues, try_sections, open_semaphore, open_queue, start, gone, kill, mark, read, written, cell_named, set_cell, sleep, tick}
use Rattle.ci_shared.specs.Words.{whole}

-- a request of task u
unfoldable pub apply : Basis → Shared → ℕ → Request → Served Reply
apply b s u (requests.Read cell) = attempted s u (read (slice_get s.cells cell))
apply b s u (requests.Write cell v) = said (written s cell v) (coded 0)
apply b s u (requests.TaskNew name list mode) = as_reply (start s (spawn b.functions s.roster.tasks name list))
apply b s u (requests.TaskKill n) = if nat_eq (whole n) u then gone Killed u s replies.Ends else as_reply (kill s (whole n))
apply b s u (requests.TaskSuspend n) = as_reply (mark true s (whole n))
apply b s u (requests.TaskResume n) = as_reply (mark false s (whole n))
apply b s u (requests.TaskHnd name) = said s (task_named b.functions u name s.roster.tasks)
apply b s u (requests.Sleep n) = attempted s u (sleep s.clock n 1000)
apply b s u (requests.SleepMS n) = attempted s u (sleep s.clock n 1)
apply b s u (requests.SemOpen name mode) = as_reply (open_semaphore s (sem_open name mode s.next s.semaphores))
apply b s u (requests.SemWait h n) = try_semaphores s u (sem_wait h n s.clock s.semaphores)
apply b s u (requests.SemSignal h) = as_reply (by_semaphores s (sem_signal h s.semaphores s.roster.waiting))
apply b s u (requests.SemClose h) = as_reply (by_semaphores s (sem_close h s.semaphores s.roster.waiting))
apply b s u (requests.QueOpen name mode) = as_reply (open_queue s (que_open name mode s.next s.queues))
apply b s u (requests.QueWrite h sort text) = as_reply (by_queues s (que_write h sort text s.queues s.roster.waiting))
apply b s u (requests.QueRead h mode) = try_queues s u (que_read h mode s.queues)
apply b s u (requests.QueLength h) = said s (que_length h s.queues)
apply b s u (requests.QueClose h) = as_reply (by_queues s (que_close h s.queues s.roster.waiting))
apply b s u (requests.Enter name) = try_sections s u (enter u name s.sections)
apply b s u (requests.Leave name) = as_reply (by_sections s (depart u name s.sections s.roster.waiting))
apply b s u (requests.Trace text) = said s (coded 0)
apply b s u requests.SysTime = said s (number (wrap (pos s.clock)))
apply b s u (requests.End code) = gone (Ended code) u s replies.Ends

-- an event
unfoldable pub script : Basis → Shared → EventKind → Served EventReply
script b s (events.Run name list) = start s (spawn b.functions s.roster.tasks name list)
script b s (events.Tick ms) = tick s (whole ms)
script b s (events.Kill n) = kill s (whole n)
script b s (events.Suspend n) = mark true s (whole n)
script b s (events.Resume n) = mark false s (whole n)
script b s (events.Put name sort text) = by_queues s (put_named sort text s.queues s.roster.waiting (queue_named name s.queues))
script b s (events.Signal name) = by_semaphores s (signal_named s.semaphores s.roster.waiting (semaphore_named name s.semaphores))
script b s (events.Set name v) = set_cell b s v (cell_named name b.globals)
