-- Each answer of each row, worked out by hand and computed by the check: in the order of a row's tests, with cases in
-- which two of them would hold.
use Rattle.std.specs.Int.{int_wrap}
use Rattle.std.specs.Prelude.{◌≡◌, ℕ, pos, negsuc, true, false, List, [], ◌∷◌, ◌++◌, None, Some, replicate, refl}
use Rattle.ci_base.specs.declared.layout.Head.{Head}
use Rattle.ci_base.specs.declared.place.Place.{Place}
use Rattle.ci_base.specs.declared.place.Place.TheVariants as places
use Rattle.ci_base.specs.declared.reply.Extra.TheVariants as extras
use Rattle.ci_base.specs.declared.reply.Reply.TheVariants as replies
use Rattle.ci_base.specs.declared.request.Request.TheVariants as requests
use Rattle.ci_base.specs.declared.event.EventKind.TheVariants as events
use Rattle.ci_base.specs.declared.value.Kind.TheVariants as kinds
use Rattle.ci_base.specs.declared.value.Value.TheVariants as values
use Rattle.ci_base.specs.Letters.{is_digit, is_hex_digit}
use Rattle.ci_base.specs.Texts.{escape, is_plain}
use Rattle.ci_literals.specs.Digits.{natural}
use Rattle.ci_literals.specs.Ints.{int_of}
use Rattle.ci_literals.specs.Texts.{items_at, text_at}
use Rattle.ci_shared.specs.Arguments.{arguments, list_of, values_in}
use Rattle.ci_shared.specs.declared.object.Item.{Item}
use Rattle.ci_shared.specs.declared.object.Section.{Section}
use Rattle.ci_shared.specs.declared.object.Semaphore.{Semaphore}
use Rattle.ci_shared.specs.declared.waiter.Waiter.{Waiter}
use Rattle.ci_shared.specs.Queues as queues
use Rattle.ci_shared.specs.Roster.{Task, Waiting, Killed}
use Rattle.ci_shared.specs.Rows.{Answers, Joins, coded, refused, number, plain, element, opens, last_number}
use Rattle.ci_shared.specs.Sections as sections
use Rattle.ci_shared.specs.Semaphores as sems
use Rattle.ci_shared.specs.Serving.{apply, script}
use Rattle.ci_shared.specs.Started.{Basis, Refused, fresh, spawn}
use Rattle.ci_shared.specs.State.{Shared}

abbrev waits : ℕ → Place → Waiter
waits t p = record { task = t; place = p; limit = None }

abbrev waits_to : ℕ → Place → ℕ → Waiter
waits_to t p n = record { task = t; place = p; limit = Some n }

-- SEMAPHORES

-- number 3, named "a"
abbrev sem : ℕ → Semaphore
sem count = record { number = pos 3; name = 97 ∷ []; count = count }

abbrev named_b : ℕ → Semaphore
named_b count = record { number = pos 5; name = 98 ∷ []; count = count }

open_without_name : (sems.sem_open [] (pos 9) (pos 1) []).reply ≡ refused 10
open_without_name = refl

-- 10 before 5
open_bad_before_unknown : (sems.sem_open [] (pos 0) (pos 1) []).reply ≡ refused 10
open_bad_before_unknown = refl

-- 10 before the number of one that exists
open_mode_before_number : (sems.sem_open (97 ∷ []) (pos 3) (pos 6) (sem 1 ∷ [])).reply ≡ refused 10
open_mode_before_number = refl

open_negative_mode : (sems.sem_open (97 ∷ []) (negsuc 0) (pos 6) []).reply ≡ refused 10
open_negative_mode = refl

open_exists : (sems.sem_open (97 ∷ []) (pos 1) (pos 6) (sem 1 ∷ [])).reply ≡ refused 4
open_exists = refl

open_finds : sems.sem_open (98 ∷ []) (pos 0) (pos 6) (sem 1 ∷ named_b 7 ∷ []) ≡ record { objects = sem 1 ∷ named_b 7 ∷ []; next = pos 6; reply = number (pos 5) }
open_finds = refl

open_finds_in_mode_2 : (sems.sem_open (97 ∷ []) (pos 2) (pos 6) (sem 1 ∷ named_b 7 ∷ [])).reply ≡ number (pos 3)
open_finds_in_mode_2 = refl

-- names are compared by bytes
open_other_case : (sems.sem_open (65 ∷ []) (pos 0) (pos 6) (sem 1 ∷ [])).reply ≡ refused 5
open_other_case = refl

-- 4 before 11
open_exists_before_full : (opens (pos 1) last_number (Some (pos 3)) 256 (sem 1 ∷ []) []).reply ≡ refused 4
open_exists_before_full = refl

-- 5 before 11
open_unknown_before_full : (opens (pos 0) last_number None 256 (sem 1 ∷ []) []).reply ≡ refused 5
open_unknown_before_full = refl

open_full : opens (pos 2) (pos 300) None 256 (sem 1 ∷ []) [] ≡ record { objects = sem 1 ∷ []; next = pos 300; reply = refused 11 }
open_full = refl

open_room_for_one : (opens (pos 2) (pos 300) None 255 (sem 1 ∷ []) []).reply ≡ number (pos 300)
open_room_for_one = refl

open_last_number : (opens (pos 2) (pos 2147483647) None 0 [] (sem 1 ∷ [])).reply ≡ refused 11
open_last_number = refl

open_number_before_last : opens (pos 1) (pos 2147483646) None 0 [] (sem 1 ∷ []) ≡ record { objects = sem 1 ∷ []; next = pos 2147483647; reply = number (pos 2147483646) }
open_number_before_last = refl

open_new : sems.sem_open (98 ∷ []) (pos 1) (pos 5) (sem 1 ∷ []) ≡ record { objects = sem 1 ∷ named_b 1 ∷ []; next = pos 6; reply = number (pos 5) }
open_new = refl

-- 1 before 10
wait_unknown : (sems.sem_wait (pos 4) (negsuc 1) 0 (sem 1 ∷ [])).outcome ≡ Answers (plain (coded 1))
wait_unknown = refl

wait_negative_number : (sems.sem_wait (negsuc 2) (pos 0) 0 (sem 1 ∷ [])).outcome ≡ Answers (plain (coded 1))
wait_negative_number = refl

-- 10 before a unit
wait_bad : sems.sem_wait (pos 3) (negsuc 1) 0 (sem 1 ∷ []) ≡ record { objects = sem 1 ∷ []; outcome = Answers (plain (coded 10)) }
wait_bad = refl

-- a unit before 2
wait_takes : sems.sem_wait (pos 3) (pos 0) 0 (named_b 4 ∷ sem 2 ∷ []) ≡ record { objects = named_b 4 ∷ sem 1 ∷ []; outcome = Answers (plain (coded 0)) }
wait_takes = refl

wait_at_once : (sems.sem_wait (pos 3) (pos 0) 0 (sem 0 ∷ [])).outcome ≡ Answers (plain (coded 2))
wait_at_once = refl

wait_for_ever : (sems.sem_wait (pos 3) (negsuc 0) 7 (sem 0 ∷ [])).outcome ≡ Joins (places.Semaphore (pos 3)) None
wait_for_ever = refl

wait_two_seconds : sems.sem_wait (pos 3) (pos 2) 7 (sem 0 ∷ []) ≡ record { objects = sem 0 ∷ []; outcome = Joins (places.Semaphore (pos 3)) (Some 2007) }
wait_two_seconds = refl

-- a line in which others wait elsewhere
abbrev at_semaphore : List Waiter
at_semaphore = waits 9 (places.Queue (pos 3)) ∷ waits 2 (places.Semaphore (pos 3)) ∷ waits 4 places.Clock ∷ waits 1 (places.Semaphore (pos 3)) ∷ []

signal_unknown : sems.sem_signal (pos 4) (sem 1 ∷ []) at_semaphore ≡ record { objects = sem 1 ∷ []; reply = coded 1; deliveries = [] }
signal_unknown = refl

-- a line before 11; the count stays
signal_line : sems.sem_signal (pos 3) (sem 65535 ∷ []) at_semaphore ≡ record { objects = sem 65535 ∷ []; reply = coded 0; deliveries = record { task = 2; answer = plain (coded 0) } ∷ [] }
signal_line = refl

signal_full : (sems.sem_signal (pos 3) (sem 65535 ∷ []) []).reply ≡ coded 11
signal_full = refl

signal_last : sems.sem_signal (pos 3) (sem 65534 ∷ []) [] ≡ record { objects = sem 65535 ∷ []; reply = coded 0; deliveries = [] }
signal_last = refl

signal_by_name : (sems.signal_named (sem 1 ∷ []) [] (sems.semaphore_named (98 ∷ []) (sem 1 ∷ []))).reply ≡ coded 5
signal_by_name = refl

close_unknown : (sems.sem_close (pos 4) (sem 1 ∷ []) at_semaphore).reply ≡ coded 1
close_unknown = refl

-- all in the order of the line
close_line : sems.sem_close (pos 3) (named_b 0 ∷ sem 0 ∷ []) at_semaphore
    ≡ record { objects = named_b 0 ∷ []; reply = coded 0; deliveries = record { task = 2; answer = plain (coded 1) } ∷ record { task = 1; answer = plain (coded 1) } ∷ [] }
close_line = refl

-- QUEUES

abbrev item : ℕ → Item
item n = record { sort = pos n; text = 120 ∷ [] }

abbrev queue : List Item → queues.Queue
queue items = record { number = pos 3; name = 97 ∷ []; items = items }

abbrev other : List Item → queues.Queue
other items = record { number = pos 8; name = 98 ∷ []; items = items }

que_open_new : queues.que_open (98 ∷ []) (pos 2) (pos 8) (queue (item 1 ∷ []) ∷ []) ≡ record { objects = queue (item 1 ∷ []) ∷ other [] ∷ []; next = pos 9; reply = number (pos 8) }
que_open_new = refl

que_open_bad : (queues.que_open [] (pos 0) (pos 8) []).reply ≡ refused 10
que_open_bad = refl

que_open_exists : (queues.que_open (97 ∷ []) (pos 1) (pos 8) (queue [] ∷ [])).reply ≡ refused 4
que_open_exists = refl

abbrev at_queue : List Waiter
at_queue = waits 5 (places.Semaphore (pos 3)) ∷ waits 6 (places.Queue (pos 8)) ∷ waits 2 (places.Queue (pos 3)) ∷ waits 1 (places.Queue (pos 3)) ∷ []

write_unknown : (queues.que_write (pos 4) (pos 7) [] (queue [] ∷ []) at_queue).reply ≡ coded 1
write_unknown = refl

-- a reader before 11; nothing is put
write_reader : queues.que_write (pos 3) (negsuc 6) (104 ∷ []) (queue [] ∷ []) at_queue ≡ record { objects = queue [] ∷ []; reply = coded 0; deliveries = record { task = 2; answer = element (negsuc 6) (104 ∷ []) } ∷ [] }
write_reader = refl

-- the elements of all queues count
write_full : (queues.que_write (pos 3) (pos 7) [] (queue [] ∷ other (replicate 4096 (item 1)) ∷ []) []).reply ≡ coded 11
write_full = refl

write_last : (queues.que_write (pos 3) (pos 7) [] (queue [] ∷ other (replicate 4095 (item 1)) ∷ []) []).reply ≡ coded 0
write_last = refl

write_behind : queues.que_write (pos 3) (pos 2) (120 ∷ []) (queue (item 1 ∷ []) ∷ other (item 9 ∷ []) ∷ []) [] ≡ record { objects = queue (item 1 ∷ item 2 ∷ []) ∷ other (item 9 ∷ []) ∷ []; reply = coded 0; deliveries = [] }
write_behind = refl

put_unknown : (queues.put_named (pos 1) [] (queue [] ∷ []) at_queue (queues.queue_named (99 ∷ []) (queue [] ∷ []))).reply ≡ coded 5
put_unknown = refl

-- 1 before 10
read_unknown : (queues.que_read (pos 4) (pos 2) (queue [] ∷ [])).outcome ≡ Answers (plain (coded 1))
read_unknown = refl

-- 10 before an element
read_bad : queues.que_read (pos 3) (pos 2) (queue (item 1 ∷ []) ∷ []) ≡ record { objects = queue (item 1 ∷ []) ∷ []; outcome = Answers (plain (coded 10)) }
read_bad = refl

-- an element before 3
read_front : queues.que_read (pos 3) (pos 0) (queue (item 1 ∷ item 2 ∷ []) ∷ []) ≡ record { objects = queue (item 2 ∷ []) ∷ []; outcome = Answers (element (pos 1) (120 ∷ [])) }
read_front = refl

read_empty : (queues.que_read (pos 3) (pos 0) (queue [] ∷ [])).outcome ≡ Answers (plain (coded 3))
read_empty = refl

read_waits : queues.que_read (pos 3) (pos 1) (queue [] ∷ []) ≡ record { objects = queue [] ∷ []; outcome = Joins (places.Queue (pos 3)) None }
read_waits = refl

length_unknown : queues.que_length (pos 4) (queue [] ∷ []) ≡ refused 1
length_unknown = refl

length_two : queues.que_length (pos 3) (queue (item 1 ∷ item 2 ∷ []) ∷ []) ≡ number (pos 2)
length_two = refl

que_close_line : queues.que_close (pos 3) (queue [] ∷ other (item 1 ∷ []) ∷ []) at_queue
    ≡ record { objects = other (item 1 ∷ []) ∷ []; reply = coded 0; deliveries = record { task = 2; answer = plain (coded 1) } ∷ record { task = 1; answer = plain (coded 1) } ∷ [] }
que_close_line = refl

que_close_unknown : (queues.que_close (pos 4) (queue [] ∷ []) at_queue).reply ≡ coded 1
que_close_unknown = refl

-- SECTIONS

abbrev held : ℕ → ℕ → ℕ → Section
held name owner count = record { name = name ∷ []; owner = owner; count = count }

enter_without_name : (sections.enter 1 [] []).outcome ≡ Answers (plain (coded 10))
enter_without_name = refl

enter_full_count : (sections.enter 1 (97 ∷ []) (held 97 1 65535 ∷ [])).outcome ≡ Answers (plain (coded 11))
enter_full_count = refl

enter_again : sections.enter 1 (97 ∷ []) (held 97 1 65534 ∷ []) ≡ record { objects = held 97 1 65535 ∷ []; outcome = Answers (plain (coded 0)) }
enter_again = refl

-- owned by another, even where as many are owned as may be
enter_waits : (sections.enter 2 (97 ∷ []) (replicate 256 (held 97 1 1))).outcome ≡ Joins (places.Section (97 ∷ [])) None
enter_waits = refl

enter_full : (sections.enter 2 (98 ∷ []) (replicate 256 (held 97 1 1))).outcome ≡ Answers (plain (coded 11))
enter_full = refl

enter_last : (sections.enter 2 (98 ∷ []) (replicate 255 (held 97 1 1))).outcome ≡ Answers (plain (coded 0))
enter_last = refl

-- in its place by the order of bytes
enter_between : (sections.enter 2 (98 ∷ []) (held 97 1 1 ∷ held 99 1 1 ∷ [])).objects ≡ held 97 1 1 ∷ held 98 2 1 ∷ held 99 1 1 ∷ []
enter_between = refl

abbrev at_section : List Waiter
at_section = waits 6 (places.Section (98 ∷ [])) ∷ waits 2 (places.Section (97 ∷ [])) ∷ waits 3 (places.Section (97 ∷ [])) ∷ []

leave_unowned : (sections.depart 1 (97 ∷ []) [] at_section).reply ≡ coded 6
leave_unowned = refl

leave_of_another : sections.depart 2 (97 ∷ []) (held 97 1 1 ∷ []) at_section ≡ record { objects = held 97 1 1 ∷ []; reply = coded 6; deliveries = [] }
leave_of_another = refl

leave_once : sections.depart 1 (97 ∷ []) (held 97 1 2 ∷ []) at_section ≡ record { objects = held 97 1 1 ∷ []; reply = coded 0; deliveries = [] }
leave_once = refl

leave_to_first : sections.depart 1 (97 ∷ []) (held 97 1 1 ∷ held 98 1 4 ∷ []) at_section ≡ record { objects = held 97 2 1 ∷ held 98 1 4 ∷ []; reply = coded 0; deliveries = record { task = 2; answer = plain (coded 0) } ∷ [] }
leave_to_first = refl

leave_to_nobody : sections.depart 1 (97 ∷ []) (held 97 1 1 ∷ []) [] ≡ record { objects = []; reply = coded 0; deliveries = [] }
leave_to_nobody = refl

-- both sections of a dead task are given on, in the order of their names
leave_all : sections.depart_all 1 (held 97 1 3 ∷ held 98 1 1 ∷ held 99 4 1 ∷ []) at_section
    ≡ record { objects = held 97 2 1 ∷ held 98 6 1 ∷ held 99 4 1 ∷ []; reply = coded 0; deliveries = record { task = 2; answer = plain (coded 0) } ∷ record { task = 6; answer = plain (coded 0) } ∷ [] }
leave_all = refl

-- THE WHOLE

-- functions Main (PUBLIC), hid, Work (PUBLIC); cells INT, STRING; GLOBAL G at cell 0
abbrev basis : Basis
basis = record {
  functions = record { name = 77 ∷ 97 ∷ []; public = true; kinds = []; defaults = [] } ∷ record { name = 104 ∷ []; public = false; kinds = []; defaults = [] } ∷ record { name = 87 ∷ []; public = true; kinds = []; defaults = [] } ∷ [];
  globals = record { name = 71 ∷ []; cell = 0 } ∷ [];
  kinds = kinds.Int ∷ kinds.Str ∷ [];
}

abbrev ready : ℕ → Task
ready f = fresh f

abbrev at_place : Place → Task
at_place p = record { function = 0; standing = Waiting p; suspended = false }

-- four tasks: 1 is ready, 2 waits for semaphore 3 up to 1000, 3 sleeps up to 1000, 4 was killed
abbrev state : Shared
state = record {
  roster = record {
    tasks = ready 0 ∷ at_place (places.Semaphore (pos 3)) ∷ at_place places.Clock ∷ record { function = 2; standing = Killed; suspended = false } ∷ [];
    waiting = waits_to 3 places.Clock 1000 ∷ waits_to 2 (places.Semaphore (pos 3)) 1000 ∷ [];
  };
  cells = values.Int (pos 5) ∷ values.Str [] ∷ [];
  semaphores = sem 0 ∷ [];
  queues = [];
  sections = [];
  clock = 0;
  next = pos 4;
}

reads : (apply basis state 1 (requests.Read 0)).reply ≡ replies.Answer (record { value = values.Int (pos 5); code = 0; extra = extras.Nothing })
unfolding apply
reads = refl

writes : (apply basis state 1 (requests.Write 1 (values.Str (97 ∷ [])))).shared.cells ≡ values.Int (pos 5) ∷ values.Str (97 ∷ []) ∷ []
unfolding apply
writes = refl

-- a millisecond early nobody is answered, and then both, by number
ticks_early : (script basis state (events.Tick (pos 999))).deliveries ≡ []
unfolding script
ticks_early = refl

ticks_due : (script basis state (events.Tick (pos 1000))).deliveries ≡ record { task = 2; answer = plain (coded 2) } ∷ record { task = 3; answer = plain (coded 0) } ∷ []
unfolding script
ticks_due = refl

-- the answered leave their lines and are ready
ticks_wake : (script basis state (events.Tick (pos 1000))).shared.roster ≡ record { tasks = ready 0 ∷ ready 0 ∷ ready 0 ∷ record { function = 2; standing = Killed; suspended = false } ∷ []; waiting = [] }
unfolding script
ticks_wake = refl

kills_dead : (apply basis state 1 (requests.TaskKill (pos 4))).reply ≡ replies.Answer (plain (coded 1))
unfolding apply
kills_dead = refl

kills_nobody : (apply basis state 1 (requests.TaskKill (negsuc 0))).reply ≡ replies.Answer (plain (coded 1))
unfolding apply
kills_nobody = refl

kills_itself : (apply basis state 1 (requests.TaskKill (pos 1))).reply ≡ replies.Ends
unfolding apply
kills_itself = refl

kills_waiting : (script basis state (events.Kill (pos 2))).shared.roster.waiting ≡ waits_to 3 places.Clock 1000 ∷ []
unfolding script
kills_waiting = refl

-- 5 before 10
starts_unknown : spawn basis.functions [] (120 ∷ []) (49 ∷ []) ≡ Refused 5
starts_unknown = refl

starts_hidden : spawn basis.functions [] (104 ∷ []) [] ≡ Refused 5
starts_hidden = refl

-- 10 before 11
starts_bad_list : spawn basis.functions (replicate 64 (ready 0)) (77 ∷ 97 ∷ []) (49 ∷ []) ≡ Refused 10
unfolding arguments list_of values_in int_of natural
starts_bad_list = refl

starts_full : spawn basis.functions (replicate 64 (ready 0)) (77 ∷ 97 ∷ []) [] ≡ Refused 11
unfolding arguments list_of
starts_full = refl

-- the case of letters doesn't count
starts : (apply basis state 1 (requests.TaskNew (119 ∷ []) [] (pos 7))).birth ≡ Some (record { task = 5; function = 2; args = [] })
unfolding apply arguments list_of
starts = refl

handle_own : (apply basis state 1 (requests.TaskHnd [])).reply ≡ replies.Answer (plain (number (pos 1)))
unfolding apply
handle_own = refl

-- a killed task isn't found
handle_none : (apply basis state 1 (requests.TaskHnd (87 ∷ []))).reply ≡ replies.Answer (plain (refused 5))
unfolding apply
handle_none = refl

handle_least : (apply basis state 3 (requests.TaskHnd (109 ∷ 65 ∷ []))).reply ≡ replies.Answer (plain (number (pos 1)))
unfolding apply
handle_least = refl

sleeps_back : (apply basis state 1 (requests.Sleep (negsuc 0))).reply ≡ replies.Answer (plain (coded 10))
unfolding apply
sleeps_back = refl

sleeps_not : (apply basis state 1 (requests.SleepMS (pos 0))).reply ≡ replies.Answer (plain (coded 0))
unfolding apply
sleeps_not = refl

sleeps : (apply basis state 1 (requests.Sleep (pos 2))).shared.roster.waiting ≡ state.roster.waiting ++ waits_to 1 places.Clock 2000 ∷ []
unfolding apply
sleeps = refl

sets_unknown : (script basis state (events.Set (72 ∷ []) (values.Str []))).reply ≡ coded 5
unfolding script
sets_unknown = refl

sets_other_kind : (script basis state (events.Set (103 ∷ []) (values.Str []))).reply ≡ coded 10
unfolding script
sets_other_kind = refl

sets : (script basis state (events.Set (103 ∷ []) (values.Int (pos 9)))).shared.cells ≡ values.Int (pos 9) ∷ values.Str [] ∷ []
unfolding script
sets = refl

-- 2^32 + 2^31 milliseconds are the least INT
clock_turns : (apply basis (record state { clock = 6442450944 }) 1 requests.SysTime).reply ≡ replies.Answer (plain (number (negsuc 2147483647)))
unfolding apply int_wrap
clock_turns = refl

-- F(INT n, STRING s = "d")
abbrev given : List Head
given = record { name = 70 ∷ []; public = true; kinds = kinds.Int ∷ kinds.Str ∷ []; defaults = values.Str (100 ∷ []) ∷ [] } ∷ []

-- 7
one_given : arguments given 0 (55 ∷ []) ≡ Some (values.Int (pos 7) ∷ values.Str (100 ∷ []) ∷ [])
unfolding arguments list_of values_in int_of natural
one_given = refl

-- 7,8
other_kind_given : arguments given 0 (55 ∷ 44 ∷ 56 ∷ []) ≡ None
unfolding arguments list_of values_in int_of natural
other_kind_given = refl

-- 0x10 and the empty text, with spaces round them
both_given : arguments given 0 (32 ∷ 48 ∷ 120 ∷ 49 ∷ 48 ∷ 32 ∷ 44 ∷ 32 ∷ 34 ∷ 34 ∷ 32 ∷ []) ≡ Some (values.Int (pos 16) ∷ values.Str [] ∷ [])
unfolding arguments list_of values_in int_of natural int_wrap text_at items_at is_plain escape is_hex_digit is_digit
both_given = refl

-- none, too many, no value behind a comma, a tab
none_given : arguments given 0 (32 ∷ []) ≡ None
unfolding arguments list_of
none_given = refl

three_given : arguments given 0 (55 ∷ 44 ∷ 34 ∷ 34 ∷ 44 ∷ 55 ∷ []) ≡ None
unfolding arguments list_of values_in int_of natural text_at items_at is_plain escape is_hex_digit is_digit
three_given = refl

comma_given : arguments given 0 (55 ∷ 44 ∷ []) ≡ None
unfolding arguments list_of values_in int_of natural
comma_given = refl

tab_given : arguments given 0 (9 ∷ 55 ∷ []) ≡ None
unfolding arguments list_of values_in int_of natural
tab_given = refl
