-- Laws of a task on the tree.
use Rattle.std.specs.Prelude.{ℕ, ◌≤◌, All}
use Rattle.ci_base.specs.declared.bounds.TheConstants.{MOST_ROOM}
use Rattle.ci_base.specs.declared.reply.Answer.{Answer}
use Rattle.ci_base.specs.Steps.{tick, quiet, asks, stuck, Steps}
use Rattle.ci_tree.specs.Bound.{Function, Project}
use Rattle.ci_tree.specs.Rooms.{room}
use Rattle.ci_meaning.specs.Configuration.{Configuration, opening}
use Rattle.ci_meaning.specs.Moves.{Move, rooms}
use Rattle.ci_meaning.specs.Meaning.{next, resume}
use Rattle.std.specs.Prelude.{List}
use Rattle.ci_base.specs.declared.value.Value.{Value}

-- the move is a tick, or a request
abbrev pub TicksOrAsks : Move → Type 0
TicksOrAsks (tick c) = Unit {0}
TicksOrAsks (quiet c) = ⊥
TicksOrAsks (asks q) = Unit {0}
TicksOrAsks stuck = ⊥

-- from each configuration finitely many private steps lead to a tick or a request
abbrev pub SoonTicksOrAsks : Type 0
SoonTicksOrAsks = (p : Project) (c : Configuration) → (n : ℕ) × (d : Configuration) × Steps (next p) n c 0 d × TicksOrAsks (next p d)

-- the move can be made: each configuration has exactly one of a private step with a tick, one without, and a request
abbrev pub IsMove : Move → Type 0
IsMove (tick c) = Unit {0}
IsMove (quiet c) = Unit {0}
IsMove (asks q) = Unit {0}
IsMove stuck = ⊥

abbrev pub AlwaysMoves : Type 0
AlwaysMoves = (p : Project) (c : Configuration) → IsMove (next p c)

-- each function of the project has a room that is small enough
abbrev pub RoomsAreSmall : Project → Type 0
RoomsAreSmall p = All (λ (f : Function). room f ≤ MOST_ROOM) p.functions

-- what holds of the next configuration, where there is one
abbrev pub AtNext : Move → (Configuration → Type 0) → Type 0
AtNext (tick c) F = F c
AtNext (quiet c) F = F c
AtNext (asks q) F = Unit {0}
AtNext stuck F = Unit {0}

-- the rooms of the active functions are together at most 4,096: at the start of a task, after each private step, and after an answer
abbrev pub RoomsStaySmall : Type 0
RoomsStaySmall =
    (p : Project) → RoomsAreSmall p →
    ((f : ℕ) (args : List Value) → rooms p (opening p f args).task ≤ MOST_ROOM)
    × ((c : Configuration) → rooms p c.task ≤ MOST_ROOM → AtNext (next p c) (λ (d : Configuration). rooms p d.task ≤ MOST_ROOM))
    × ((c : Configuration) (a : Answer) → rooms p c.task ≤ MOST_ROOM → rooms p (resume c a).task ≤ MOST_ROOM)
