-- Semaphores.
use Rattle.std.specs.Prelude.{ℕ, suc, ℤ, pos, negsuc, ◌+◌, ◌-◌, ◌*◌, ◌||◌, not, if◌then◌else◌, nat_le, nat_lt, int_lt, List, [], ◌∷◌, ◌++◌, length, Option, None, Some}
use Rattle.std.specs.Ordering.{int_eq}
use Rattle.ci_base.specs.declared.bounds.TheConstants.{MOST_COUNT}
use Rattle.ci_base.specs.declared.place.Place.TheVariants as places
use Rattle.ci_shared.specs.declared.object.Semaphore.{Semaphore}
use Rattle.ci_shared.specs.declared.waiter.Waiter.{Waiter}
use Rattle.ci_shared.specs.Roster.{first_in}
use Rattle.ci_shared.specs.Rows.{Row, Attempt, Naming, coded, refused, plain, replying, given, stands, turned_away, opens}
use Rattle.ci_shared.specs.Words.{is_empty, is_mode, same_text}

-- the number of the semaphore with a name
abbrev pub semaphore_named : List ℕ → List Semaphore → Option ℤ
semaphore_named name [] = None
semaphore_named name (x ∷ xs) = if same_text x.name name then Some x.number else semaphore_named name xs

abbrev pub semaphore_of : ℤ → List Semaphore → Option Semaphore
semaphore_of h [] = None
semaphore_of h (x ∷ xs) = if int_eq x.number h then Some x else semaphore_of h xs

abbrev pub with_count : ℤ → ℕ → List Semaphore → List Semaphore
with_count h n [] = []
with_count h n (x ∷ xs) = if int_eq x.number h then record x { count = n } ∷ xs else x ∷ with_count h n xs

abbrev pub no_semaphore : ℤ → List Semaphore → List Semaphore
no_semaphore h [] = []
no_semaphore h (x ∷ xs) = if int_eq x.number h then xs else x ∷ no_semaphore h xs

-- a new one has one unit
abbrev pub sem_open : List ℕ → ℤ → ℤ → List Semaphore → Naming (List Semaphore)
sem_open name mode next xs =
    if is_empty name || not (is_mode mode) then record { objects = xs; next = next; reply = refused 10 }
    else opens mode next (semaphore_named name xs) (length xs) xs (xs ++ record { number = next; name = name; count = 1 } ∷ [])

-- so many seconds from now; a negative number is for ever
abbrev pub limit_in : ℕ → ℤ → Option ℕ
limit_in now (pos n) = Some (now + n * 1000)
limit_in now (negsuc n) = None

-- waiting for a unit: 1 no such semaphore; 10 below -1; a unit is there; 2 at once where none is to be waited for; else in line
abbrev pub wait_at : ℤ → ℤ → ℕ → List Semaphore → Option Semaphore → Attempt (List Semaphore)
wait_at h n now xs None = given xs (plain (coded 1))
wait_at h n now xs (Some x) =
    if int_lt n (negsuc 0) then given xs (plain (coded 10))
    else if nat_lt 0 x.count then given (with_count h (x.count - 1) xs) (plain (coded 0))
    else if int_eq n (pos 0) then given xs (plain (coded 2))
    else stands xs (places.Semaphore h) (limit_in now n)

abbrev pub sem_wait : ℤ → ℤ → ℕ → List Semaphore → Attempt (List Semaphore)
sem_wait h n now xs = wait_at h n now xs (semaphore_of h xs)

-- giving a unit: the first in line has it; else 11 where the count is full, else one more
abbrev pub raise : ℤ → List Semaphore → Semaphore → Option Waiter → Row (List Semaphore)
raise h xs x (Some w) = record { objects = xs; reply = coded 0; deliveries = record { task = w.task; answer = plain (coded 0) } ∷ [] }
raise h xs x None = if nat_le MOST_COUNT x.count then replying xs (coded 11) else replying (with_count h (suc x.count) xs) (coded 0)

abbrev pub signal_at : ℤ → List Semaphore → List Waiter → Option Semaphore → Row (List Semaphore)
signal_at h xs ws None = replying xs (coded 1)
signal_at h xs ws (Some x) = raise h xs x (first_in (places.Semaphore h) ws)

abbrev pub sem_signal : ℤ → List Semaphore → List Waiter → Row (List Semaphore)
sem_signal h xs ws = signal_at h xs ws (semaphore_of h xs)

-- giving a unit from outside, by the name
abbrev pub signal_named : List Semaphore → List Waiter → Option ℤ → Row (List Semaphore)
signal_named xs ws None = replying xs (coded 5)
signal_named xs ws (Some h) = sem_signal h xs ws

abbrev pub close_at : ℤ → List Semaphore → List Waiter → Option Semaphore → Row (List Semaphore)
close_at h xs ws None = replying xs (coded 1)
close_at h xs ws (Some x) = record { objects = no_semaphore h xs; reply = coded 0; deliveries = turned_away (places.Semaphore h) ws }

abbrev pub sem_close : ℤ → List Semaphore → List Waiter → Row (List Semaphore)
sem_close h xs ws = close_at h xs ws (semaphore_of h xs)
