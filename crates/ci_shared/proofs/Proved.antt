-- The laws, read off the rows.
use Rattle.std.proofs.Common.{◌≡◌, ◌≤◌, ◌<◌, length, arith, ℕ, zero, suc, true, false, [], None, refl}
use Rattle.ci_base.specs.declared.bounds.TheConstants.{MOST_LIVE_TASKS}
use Rattle.ci_base.specs.declared.event.EventKind.{EventKind}
use Rattle.ci_base.specs.declared.event.EventReply.{EventReply}
use Rattle.ci_shared.proofs.Asks.{asked_lawful}
use Rattle.ci_shared.proofs.Counting.{room_to_wait, waiting_live}
use Rattle.ci_shared.proofs.Fair.{Fair, nobody}
use Rattle.ci_shared.proofs.Named.{first_named}
use Rattle.ci_shared.specs.Laws.{AskAnswers, AskGrows, AskKeeps, Keeps, OpeningKeeps, OtherAsk, OtherScript, OwnAsk, RoomToWait, ScriptAnswers, ScriptGrows, ScriptKeeps, opening, seat_of, victims_of}
use Rattle.ci_shared.specs.Queues.{queue_named}
use Rattle.ci_shared.specs.Roster.{count_live, standing_at}
use Rattle.ci_shared.specs.Semaphores.{semaphore_named}
use Rattle.ci_shared.specs.Serving.{script}
use Rattle.ci_shared.specs.Started.{Basis}
use Rattle.ci_shared.specs.State.{Shared}
use Rattle.ci_shared.specs.Steps.{cell_named}
use Rattle.ci_shared.specs.Words.{whole}
use Rattle.ci_base.specs.declared.event.EventKind.TheVariants as events
use Rattle.ci_base.specs.declared.place.Place.TheVariants as places
use Rattle.ci_shared.proofs.Owed as rows

-- all events
scripted_fair : (l : Basis) (s : Shared) → Keeps l s → (e : EventKind) → Fair EventReply (Unit {0}) l (victims_of e) 0 s (script l s e)
unfolding script
scripted_fair l s k (events.Run name list) = rows.start_fair l s k _ [] 0 name list
scripted_fair l s k (events.Tick ms) = rows.tick_fair l s k _ [] 0 (whole ms)
scripted_fair l s k (events.Kill n) = rows.kill_fair l s k _ _ 0 (whole n) (first_named (whole n) [])
scripted_fair l s k (events.Suspend n) = rows.mark_fair l s k _ [] 0 true (whole n)
scripted_fair l s k (events.Resume n) = rows.mark_fair l s k _ [] 0 false (whole n)
scripted_fair l s k (events.Put name sort text) = rows.by_queues_fair l s k _ [] 0 _ (rows.put_named_fit s.roster k.seated sort text s.queues (queue_named name s.queues))
scripted_fair l s k (events.Signal name) = rows.by_semaphores_fair l s k _ [] 0 _ (rows.signal_named_fit s.roster k.seated s.semaphores (semaphore_named name s.semaphores))
scripted_fair l s k (events.Set name v) = rows.set_cell_fair l s k _ [] 0 v (cell_named name l.globals)

pub other_ask : OtherAsk
other_ask l s u q t x k ready n is = (asked_lawful l s k u ready q).fair.others t x n is

pub own_ask : OwnAsk
own_ask l s u q k formed ready = (asked_lawful l s k u ready q).own formed

pub other_script : OtherScript
other_script l s e t x k is = (scripted_fair l s k e).others t x (nobody s.roster t x is) is

pub ask_grows : AskGrows
ask_grows l s u q k ready = (asked_lawful l s k u ready q).fair.grows

pub script_grows : ScriptGrows
script_grows l s e k = (scripted_fair l s k e).grows

pub ask_keeps : AskKeeps
ask_keeps l s u q k formed ready = (asked_lawful l s k u ready q).fair.keeps formed

pub script_keeps : ScriptKeeps
script_keeps l s e k = (scripted_fair l s k e).keeps tt

pub opening_keeps : OpeningKeeps
opening_keeps l cells e = record { seated = seats; few = omega arith; kinds = e }
  where
    seats : (t : ℕ) → [] ≡ seat_of (standing_at (opening cells).roster t)
    seats zero = refl
    seats (suc n) = refl

pub few_wait : (l : Basis) (s : Shared) → Keeps l s → length s.roster.waiting ≤ MOST_LIVE_TASKS
few_wait l s k =
    let live : length s.roster.waiting ≤ count_live s.roster.tasks = waiting_live s.roster.waiting s.roster.tasks k.seated in
    let few : count_live s.roster.tasks ≤ MOST_LIVE_TASKS = k.few in
    omega (arith, live, few)

pub ask_answers : AskAnswers
ask_answers l s u q k ready =
    let f = (asked_lawful l s k u ready q).fair.answers in
    (f.0, omega (arith, f.1, few_wait l s k))

pub script_answers : ScriptAnswers
script_answers l s e k =
    let f = (scripted_fair l s k e).answers in
    (f.0, omega (arith, f.1, few_wait l s k))

pub room_to_wait_law : RoomToWait
room_to_wait_law l s u k ready =
    let room : length s.roster.waiting < count_live s.roster.tasks = room_to_wait s.roster u places.Clock None k.seated ready in
    let few : count_live s.roster.tasks ≤ MOST_LIVE_TASKS = k.few in
    omega (arith, room, few)
