-- Critical sections: those that are owned, by their names in the order of bytes.
use Rattle.std.specs.Prelude.{ℕ, suc, ◌-◌, Bool, not, if◌then◌else◌, nat_le, nat_eq, nat_lt, List, [], ◌∷◌, ◌++◌, length, Option, None, Some}
use Rattle.ci_base.specs.declared.bounds.TheConstants.{MOST_COUNT, MOST_OBJECTS}
use Rattle.ci_base.specs.declared.place.Place.TheVariants as places
use Rattle.ci_base.specs.declared.task.Delivery.{Delivery}
use Rattle.ci_shared.specs.declared.object.Section.{Section}
use Rattle.ci_shared.specs.declared.waiter.Waiter.{Waiter}
use Rattle.ci_shared.specs.Roster.{first_in, without}
use Rattle.ci_shared.specs.Rows.{Row, Attempt, coded, plain, replying, given, stands}
use Rattle.ci_shared.specs.Words.{is_empty, same_text, comes_first}

abbrev pub section_of : List ℕ → List Section → Option Section
section_of name [] = None
section_of name (x ∷ xs) = if same_text x.name name then Some x else section_of name xs

abbrev pub with_held : List ℕ → ℕ → List Section → List Section
with_held name n [] = []
with_held name n (x ∷ xs) = if same_text x.name name then record x { count = n } ∷ xs else x ∷ with_held name n xs

-- a section comes in at its place
abbrev pub with_section : Section → List Section → List Section
with_section y [] = y ∷ []
with_section y (x ∷ xs) = if comes_first y.name x.name then y ∷ x ∷ xs else x ∷ with_section y xs

-- a section that is given on belongs to the first in its line, or to nobody
abbrev pub handed : Section → Option Waiter → List Section
handed x None = []
handed x (Some w) = record x { owner = w.task; count = 1 } ∷ []

abbrev pub handed_to : Option Waiter → List Delivery
handed_to None = []
handed_to (Some w) = record { task = w.task; answer = plain (coded 0) } ∷ []

abbrev pub after : Option Waiter → List Waiter → List Waiter
after None ws = ws
after (Some w) ws = without w.task ws

-- the sections that a test picks are given on, one after another: what is owned then, and who is answered
abbrev pub given_sections : (Section → Bool) → List Section → List Waiter → List Section
given_sections f [] ws = []
given_sections f (x ∷ xs) ws =
    if f x then handed x (first_in (places.Section x.name) ws) ++ given_sections f xs (after (first_in (places.Section x.name) ws) ws)
    else x ∷ given_sections f xs ws

abbrev pub given_answers : (Section → Bool) → List Section → List Waiter → List Delivery
given_answers f [] ws = []
given_answers f (x ∷ xs) ws =
    if f x then handed_to (first_in (places.Section x.name) ws) ++ given_answers f xs (after (first_in (places.Section x.name) ws) ws)
    else given_answers f xs ws

-- entering: of an owned section one more for its owner, 11 where the count is full, and the line for others; 11 where
-- as many are owned as may be; else it is owned
abbrev pub enter_at : ℕ → List ℕ → List Section → Option Section → Attempt (List Section)
enter_at u name xs None =
    if nat_le MOST_OBJECTS (length xs) then given xs (plain (coded 11))
    else given (with_section (record { name = name; owner = u; count = 1 }) xs) (plain (coded 0))
enter_at u name xs (Some x) =
    if nat_eq x.owner u then (
    if nat_le MOST_COUNT x.count then given xs (plain (coded 11))
    else given (with_held name (suc x.count) xs) (plain (coded 0)))
    else stands xs (places.Section name) None

abbrev pub enter : ℕ → List ℕ → List Section → Attempt (List Section)
enter u name xs = if is_empty name then given xs (plain (coded 10)) else enter_at u name xs (section_of name xs)

abbrev pub giving : (Section → Bool) → List Section → List Waiter → Row (List Section)
giving f xs ws = record { objects = given_sections f xs ws; reply = coded 0; deliveries = given_answers f xs ws }

-- leaving: 6 for all but the owner; one less; the last time it is given on
abbrev pub depart_at : ℕ → List ℕ → List Section → List Waiter → Option Section → Row (List Section)
depart_at u name xs ws None = replying xs (coded 6)
depart_at u name xs ws (Some x) =
    if not (nat_eq x.owner u) then replying xs (coded 6)
    else if nat_lt 1 x.count then replying (with_held name (x.count - 1) xs) (coded 0)
    else giving (λ y. same_text y.name name) xs ws

abbrev pub depart : ℕ → List ℕ → List Section → List Waiter → Row (List Section)
depart u name xs ws = depart_at u name xs ws (section_of name xs)

-- all sections of a task that is no longer live are given on
abbrev pub depart_all : ℕ → List Section → List Waiter → Row (List Section)
depart_all u xs ws = giving (λ x. nat_eq x.owner u) xs ws
