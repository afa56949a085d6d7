-- What serving does to each task, and what it keeps.
use Rattle.std.specs.Prelude.{true, ◌≡◌, ◌≢◌, ◌≤◌, ◌<◌, ◌+◌, ◌⊎◌, ℕ, suc, ℤ, pos, ◌≤ℤ◌, ◌<ℤ◌, false, if◌then◌else◌, nat_eq, List, [], ◌∷◌, ◌++◌, length, map, Option, None, Some, slice_get}
use Rattle.std.specs.List.{All, Contains}
use Rattle.ci_base.specs.declared.bounds.TheConstants.{MOST_LIVE_TASKS}
use Rattle.ci_base.specs.declared.event.EventKind.{EventKind}
use Rattle.ci_base.specs.declared.event.EventKind.TheVariants as events
use Rattle.ci_base.specs.declared.layout.Head.{Head}
use Rattle.ci_base.specs.declared.place.Place.{Place}
use Rattle.ci_base.specs.declared.place.Place.TheVariants as places
use Rattle.ci_base.specs.declared.reply.Answer.{Answer}
use Rattle.ci_base.specs.declared.reply.Reply.{Reply}
use Rattle.ci_base.specs.declared.reply.Reply.TheVariants as replies
use Rattle.ci_base.specs.declared.request.Request.{Request}
use Rattle.ci_base.specs.declared.request.Request.TheVariants as requests
use Rattle.ci_base.specs.declared.task.Birth.{Birth}
use Rattle.ci_base.specs.declared.task.Delivery.{Delivery}
use Rattle.ci_base.specs.declared.value.Kind.{Kind}
use Rattle.ci_base.specs.declared.value.Value.{Value}
use Rattle.ci_base.specs.Requests.{Fits}
use Rattle.ci_base.specs.Values.{kind_of}
use Rattle.ci_shared.specs.declared.object.Section.{Section}
use Rattle.ci_shared.specs.declared.waiter.Waiter.{Waiter}
use Rattle.ci_shared.specs.Arguments.{arguments}
use Rattle.ci_shared.specs.Roster.{Standing, Ready, Waiting, Ended, Killed, Task, Roster, standing_at, is_live, is_full, count_live, seats, is_sooner, by_limit, first_in}
use Rattle.ci_shared.specs.Rows.{coded, plain, element}
use Rattle.ci_shared.specs.Sections.{section_of}
use Rattle.ci_shared.specs.Serving.{apply, script}
use Rattle.ci_shared.specs.Started.{Basis, fresh}
use Rattle.ci_shared.specs.State.{Shared}
use Rattle.ci_shared.specs.Words.{whole, comes_first}

-- the places at which a task should stand in line, by how it stands
abbrev pub seat_of : Option Standing → List Place
seat_of None = []
seat_of (Some Ready) = []
seat_of (Some (Waiting p)) = p ∷ []
seat_of (Some (Ended c)) = []
seat_of (Some Killed) = []

-- who waits stands in one line, once, and nobody else stands in one
abbrev pub Seated : Roster → Type 0
Seated r = (t : ℕ) → seats t r.waiting ≡ seat_of (standing_at r t)

-- the invariant of serving
pub record Keeps (b : Basis) (s : Shared) : Type 0 where
  pub seated : Seated s.roster
  pub few : count_live s.roster.tasks ≤ MOST_LIVE_TASKS
  pub kinds : map kind_of s.cells ≡ b.kinds

-- the answers that come to a task which waits at a place
abbrev pub FitsPlace : Place → Answer → Type 0
FitsPlace (places.Semaphore n) a = (code : ℕ) × (code ≤ 2) × (a ≡ plain (coded code))
FitsPlace (places.Queue n) a = (a ≡ plain (coded 1)) ⊎ ((sort : ℤ) × (text : List ℕ) × (a ≡ element sort text))
FitsPlace (places.Section name) a = a ≡ plain (coded 0)
FitsPlace places.Clock a = a ≡ plain (coded 0)

-- a read or a write names a cell that exists, and a write has a value of its kind
abbrev pub IsFormed : Basis → Request → Type 0
IsFormed b (requests.Read cell) = (k : Kind) × (slice_get b.kinds cell ≡ Some k)
IsFormed b (requests.Write cell v) = slice_get b.kinds cell ≡ Some (kind_of v)
IsFormed b q = Unit {0}

-- the answers that deliveries bring to a task
abbrev pub woken : ℕ → List Delivery → List Answer
woken t [] = []
woken t (d ∷ ds) = if nat_eq d.task t then d.answer ∷ woken t ds else woken t ds

-- nothing happened to a task
abbrev pub Same : Standing → Standing → List Answer → Type 0
Same x x' got = (x' ≡ x) × (got ≡ [])

-- it waited, got one answer that fits its place, and is ready
abbrev pub Woke : Standing → Standing → List Answer → Type 0
Woke x x' got = (p : Place) × (a : Answer) × (x ≡ Waiting p) × (x' ≡ Ready) × (got ≡ a ∷ []) × FitsPlace p a

-- the tasks that a request or an event may kill
abbrev pub victims : Request → List ℕ
victims (requests.TaskKill n) = whole n ∷ []
victims _ = []

abbrev pub victims_of : EventKind → List ℕ
victims_of (events.Kill n) = whole n ∷ []
victims_of _ = []

-- it is one of these, and is dead
abbrev pub Died : List ℕ → ℕ → Standing → List Answer → Type 0
Died vs t x' got = Contains vs t × (is_live x' ≡ false) × (got ≡ [])

-- what may happen to a task that doesn't ask
abbrev pub Other : List ℕ → ℕ → Standing → Standing → List Answer → Type 0
Other vs t x x' got = Same x x' got ⊎ (Woke x x' got ⊎ Died vs t x' got)

-- what may happen to the task that asks
abbrev pub Own : Basis → Request → Reply → Standing → Type 0
Own b q (replies.Answer a) x' = (x' ≡ Ready) × Fits b.kinds q a
Own b q replies.Waits x' = (p : Place) × (x' ≡ Waiting p) × ((a : Answer) → FitsPlace p a → Fits b.kinds q a)
Own b q replies.Ends x' = is_live x' ≡ false

-- each answer goes to a task that waited, and fits its place
abbrev pub AllWaited : Roster → List Delivery → Type 0
AllWaited r [] = Unit {0}
AllWaited r (d ∷ ds) = ((p : Place) × (standing_at r d.task ≡ Some (Waiting p)) × FitsPlace p d.answer) × AllWaited r ds

-- the functions of the tasks
abbrev pub functions : List Task → List ℕ
functions xs = map (λ x. x.function) xs

-- the tasks are as many as before, with their functions; or there is one more, ready, of a function that exists
abbrev pub Grows : Basis → List Task → List Task → Option Birth → Type 0
Grows b old new None = functions new ≡ functions old
Grows b old new (Some birth) =
    (new ≡ old ++ fresh birth.function ∷ []) × (birth.task ≡ suc (length old)) × (birth.function < length b.functions) × (is_full old ≡ false)
    × ((list : List ℕ) × (arguments b.functions birth.function list ≡ Some birth.args))

-- the laws: of a request of a ready task, and of an event
abbrev pub OtherAsk : Type 0
OtherAsk = (b : Basis) (s : Shared) (u : ℕ) (q : Request) (t : ℕ) (x : Standing) → Keeps b s → standing_at s.roster u ≡ Some Ready → t ≢ u → standing_at s.roster t ≡ Some x →
    (x' : Standing) × (standing_at (apply b s u q).shared.roster t ≡ Some x') × Other (victims q) t x x' (woken t (apply b s u q).deliveries)

abbrev pub OwnAsk : Type 0
OwnAsk = (b : Basis) (s : Shared) (u : ℕ) (q : Request) → Keeps b s → IsFormed b q → standing_at s.roster u ≡ Some Ready →
    (x' : Standing) × (standing_at (apply b s u q).shared.roster u ≡ Some x') × Own b q (apply b s u q).reply x' × (woken u (apply b s u q).deliveries ≡ [])

abbrev pub OtherScript : Type 0
OtherScript = (b : Basis) (s : Shared) (e : EventKind) (t : ℕ) (x : Standing) → Keeps b s → standing_at s.roster t ≡ Some x →
    (x' : Standing) × (standing_at (script b s e).shared.roster t ≡ Some x') × Other (victims_of e) t x x' (woken t (script b s e).deliveries)

abbrev pub AskGrows : Type 0
AskGrows = (b : Basis) (s : Shared) (u : ℕ) (q : Request) → Keeps b s → standing_at s.roster u ≡ Some Ready → Grows b s.roster.tasks (apply b s u q).shared.roster.tasks (apply b s u q).birth

abbrev pub ScriptGrows : Type 0
ScriptGrows = (b : Basis) (s : Shared) (e : EventKind) → Keeps b s → Grows b s.roster.tasks (script b s e).shared.roster.tasks (script b s e).birth

abbrev pub AskKeeps : Type 0
AskKeeps = (b : Basis) (s : Shared) (u : ℕ) (q : Request) → Keeps b s → IsFormed b q → standing_at s.roster u ≡ Some Ready → Keeps b (apply b s u q).shared

abbrev pub ScriptKeeps : Type 0
ScriptKeeps = (b : Basis) (s : Shared) (e : EventKind) → Keeps b s → Keeps b (script b s e).shared

abbrev pub AskAnswers : Type 0
AskAnswers = (b : Basis) (s : Shared) (u : ℕ) (q : Request) → Keeps b s → standing_at s.roster u ≡ Some Ready →
    AllWaited s.roster (apply b s u q).deliveries × (length (apply b s u q).deliveries ≤ MOST_LIVE_TASKS)

abbrev pub ScriptAnswers : Type 0
ScriptAnswers = (b : Basis) (s : Shared) (e : EventKind) → Keeps b s →
    AllWaited s.roster (script b s e).deliveries × (length (script b s e).deliveries ≤ MOST_LIVE_TASKS)

-- a ready task finds room in the lines
abbrev pub RoomToWait : Type 0
RoomToWait = (b : Basis) (s : Shared) (u : ℕ) → Keeps b s → standing_at s.roster u ≡ Some Ready → length s.roster.waiting < MOST_LIVE_TASKS

-- the state at the beginning, with these cells
abbrev pub opening : List Value → Shared
opening cells = record { roster = record { tasks = []; waiting = [] }; cells = cells; semaphores = []; queues = []; sections = []; clock = 0; next = pos 1 }

abbrev pub OpeningKeeps : Type 0
OpeningKeeps = (b : Basis) (cells : List Value) → map kind_of cells ≡ b.kinds → Keeps b (opening cells)

-- by how much an event moves the clock
abbrev pub gained : EventKind → ℕ
gained (events.Tick ms) = whole ms
gained _ = 0

abbrev pub AskClock : Type 0
AskClock = (b : Basis) (s : Shared) (u : ℕ) (q : Request) → (apply b s u q).shared.clock ≡ s.clock

abbrev pub ScriptClock : Type 0
ScriptClock = (b : Basis) (s : Shared) (e : EventKind) → (script b s e).shared.clock ≡ s.clock + gained e

-- the owned sections stand in the order of bytes, each name once
abbrev pub AllAfter : List ℕ → List Section → Type 0
AllAfter name [] = Unit {0}
AllAfter name (x ∷ xs) = (comes_first name x.name ≡ true) × AllAfter name xs

abbrev pub Ordered : List Section → Type 0
Ordered [] = Unit {0}
Ordered (x ∷ xs) = AllAfter x.name xs × Ordered xs

abbrev pub AskOrders : Type 0
AskOrders = (b : Basis) (s : Shared) (u : ℕ) (q : Request) → Ordered s.sections → Ordered (apply b s u q).shared.sections

abbrev pub ScriptOrders : Type 0
ScriptOrders = (b : Basis) (s : Shared) (e : EventKind) → Ordered s.sections → Ordered (script b s e).shared.sections

-- a task stands in the line of the section of this name
abbrev pub IsAwaited : List ℕ → List Waiter → Type 0
IsAwaited name ws = (w : Waiter) × (first_in (places.Section name) ws ≡ Some w)

-- a task owns it
abbrev pub IsOwned : List ℕ → List Section → Type 0
IsOwned name xs = (x : Section) × (section_of name xs ≡ Some x)

-- who waits for a section waits for one that is owned
abbrev pub AwaitedAreOwned : Shared → Type 0
AwaitedAreOwned s = (name : List ℕ) → IsAwaited name s.roster.waiting → IsOwned name s.sections

abbrev pub AskOwns : Type 0
AskOwns = (b : Basis) (s : Shared) (u : ℕ) (q : Request) → AwaitedAreOwned s → AwaitedAreOwned (apply b s u q).shared

abbrev pub ScriptOwns : Type 0
ScriptOwns = (b : Basis) (s : Shared) (e : EventKind) → AwaitedAreOwned s → AwaitedAreOwned (script b s e).shared

abbrev pub OpeningOwns : Type 0
OpeningOwns = (cells : List Value) → AwaitedAreOwned (opening cells)

-- those that a tick answers come by limit and then by task
abbrev pub AllLater : Waiter → List Waiter → Type 0
AllLater x [] = Unit {0}
AllLater x (y ∷ ys) = (is_sooner y x ≡ false) × AllLater x ys

abbrev pub InOrder : List Waiter → Type 0
InOrder [] = Unit {0}
InOrder (x ∷ xs) = AllLater x xs × InOrder xs

abbrev pub DuesInOrder : Type 0
DuesInOrder = (ws : List Waiter) → InOrder (by_limit ws)

-- the next number is at least 1, and above those of the semaphores and the queues
pub record IsNumbered (s : Shared) : Type 0 where
  pub least : pos 1 ≤ℤ s.next
  pub semaphores : All (λ x. x.number <ℤ s.next) s.semaphores
  pub queues : All (λ x. x.number <ℤ s.next) s.queues

abbrev pub AskNumbers : Type 0
AskNumbers = (b : Basis) (s : Shared) (u : ℕ) (q : Request) → IsNumbered s → IsNumbered (apply b s u q).shared

abbrev pub ScriptNumbers : Type 0
ScriptNumbers = (b : Basis) (s : Shared) (e : EventKind) → IsNumbered s → IsNumbered (script b s e).shared

abbrev pub OpeningNumbers : Type 0
OpeningNumbers = (cells : List Value) → IsNumbered (opening cells)

-- what a function takes from a list is of the kinds of its parameters
abbrev pub ArgumentsFit : Type 0
ArgumentsFit = (hs : List Head) (f : ℕ) (list : List ℕ) (args : List Value) → arguments hs f list ≡ Some args → (h : Head) × (slice_get hs f ≡ Some h) × (map kind_of args ≡ h.kinds)
