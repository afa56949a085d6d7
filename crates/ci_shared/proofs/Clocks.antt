-- What moves the clock.
use Rattle.std.proofs.Common.{◌≡◌, ◌+◌, ℕ, Bool, true, false, cond, Option, Some, None, refl, arith}
use Rattle.std.specs.Prelude.{slice_get, nat_eq}
use Rattle.ci_base.specs.declared.value.Kind.{Kind}
use Rattle.ci_base.specs.declared.value.Value.{Value}
use Rattle.ci_base.specs.Values.{kind_of}
use Rattle.ci_shared.specs.Laws.{AskClock, ScriptClock}
use Rattle.ci_shared.specs.Roster.{Killed, is_live_at, standing_at}
use Rattle.ci_shared.specs.Rows.{Answers, Joins, Outcome}
use Rattle.ci_shared.specs.Serving.{apply, script}
use Rattle.ci_shared.specs.Started.{Basis, Refused, Started, Starts, spawn}
use Rattle.ci_shared.specs.State.{Served, Shared, as_reply, attempted}
use Rattle.ci_shared.specs.Words.{same_kind, whole}
use Rattle.ci_base.specs.declared.event.EventKind.TheVariants as events
use Rattle.ci_base.specs.declared.reply.Reply.TheVariants as replies
use Rattle.ci_base.specs.declared.request.Request.TheVariants as requests
use Rattle.ci_shared.specs.Steps

choose : {R : Type 0} (n : ℕ) (b : Bool) (x y : Served R) → x.shared.clock ≡ n → y.shared.clock ≡ n → (cond b x y).shared.clock ≡ n
choose n true x y hx hy = hx
choose n false x y hx hy = hy

started : (s : Shared) (r : Started) → (Steps.start s r).shared.clock ≡ s.clock
started s (Refused c) = refl
started s (Starts b) = refl

came : (s : Shared) (u : ℕ) (o : Outcome) → (attempted s u o).shared.clock ≡ s.clock
came s u (Answers a) = refl
came s u (Joins p limit) = refl

set_kept : (s : Shared) (v : Value) (cell : ℕ) (o : Option Kind) → (Steps.set_kind s v cell o).shared.clock ≡ s.clock
set_kept s v cell None = refl
set_kept s v cell (Some k) = choose s.clock (same_kind k (kind_of v)) _ _ refl refl

cell_kept : (l : Basis) (s : Shared) (v : Value) (o : Option ℕ) → (Steps.set_cell l s v o).shared.clock ≡ s.clock
cell_kept l s v None = refl
cell_kept l s v (Some cell) = set_kept s v cell (slice_get l.kinds cell)

kill_kept : (s : Shared) (n : ℕ) → (Steps.kill s n).shared.clock ≡ s.clock
kill_kept s n = choose s.clock (is_live_at (standing_at s.roster n)) _ _ refl refl

mark_kept : (b : Bool) (s : Shared) (n : ℕ) → (Steps.mark b s n).shared.clock ≡ s.clock
mark_kept b s n = choose s.clock (is_live_at (standing_at s.roster n)) _ _ refl refl

pub ask_clock : AskClock
unfolding apply
ask_clock l s u (requests.Read cell) = came s u (Steps.read (slice_get s.cells cell))
ask_clock l s u (requests.Write cell v) = refl
ask_clock l s u (requests.TaskNew name list mode) = started s (spawn l.functions s.roster.tasks name list)
ask_clock l s u (requests.TaskKill n) = by (nat_eq (whole n) u)
  where
    by : (b : Bool) → (cond b (Steps.gone Killed u s replies.Ends) (as_reply (Steps.kill s (whole n)))).shared.clock ≡ s.clock
    by true = refl
    by false = kill_kept s (whole n)
ask_clock l s u (requests.TaskSuspend n) = mark_kept true s (whole n)
ask_clock l s u (requests.TaskResume n) = mark_kept false s (whole n)
ask_clock l s u (requests.TaskHnd name) = refl
ask_clock l s u (requests.Sleep n) = came s u _
ask_clock l s u (requests.SleepMS n) = came s u _
ask_clock l s u (requests.SemOpen name mode) = refl
ask_clock l s u (requests.SemWait h n) = came _ u _
ask_clock l s u (requests.SemSignal h) = refl
ask_clock l s u (requests.SemClose h) = refl
ask_clock l s u (requests.QueOpen name mode) = refl
ask_clock l s u (requests.QueWrite h sort text) = refl
ask_clock l s u (requests.QueRead h mode) = came _ u _
ask_clock l s u (requests.QueLength h) = refl
ask_clock l s u (requests.QueClose h) = refl
ask_clock l s u (requests.Enter name) = came _ u _
ask_clock l s u (requests.Leave name) = refl
ask_clock l s u (requests.Trace text) = refl
ask_clock l s u requests.SysTime = refl
ask_clock l s u (requests.End code) = refl

plus_none : (n m : ℕ) → n ≡ m → n ≡ m + 0
plus_none n m e = omega (arith, e)

pub script_clock : ScriptClock
unfolding script
script_clock l s (events.Run name list) = plus_none _ _ (started s (spawn l.functions s.roster.tasks name list))
script_clock l s (events.Tick ms) = refl
script_clock l s (events.Kill n) = plus_none _ _ (kill_kept s (whole n))
script_clock l s (events.Suspend n) = plus_none _ _ (mark_kept true s (whole n))
script_clock l s (events.Resume n) = plus_none _ _ (mark_kept false s (whole n))
script_clock l s (events.Put name sort text) = plus_none _ _ refl
script_clock l s (events.Signal name) = plus_none _ _ refl
script_clock l s (events.Set name v) = plus_none _ _ (cell_kept l s v _)
