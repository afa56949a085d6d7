-- Queues.
use Rattle.std.specs.Prelude.{ℕ, ℤ, pos, ◌+◌, ◌||◌, not, if◌then◌else◌, nat_le, List, [], ◌∷◌, ◌++◌, length, Option, None, Some}
use Rattle.std.specs.Ordering.{int_eq}
use Rattle.ci_base.specs.declared.bounds.TheConstants.{MOST_ELEMENTS}
use Rattle.ci_base.specs.declared.event.EventReply.{EventReply}
use Rattle.ci_base.specs.declared.place.Place.TheVariants as places
use Rattle.ci_shared.specs.declared.object.Item.{Item}
use Rattle.ci_shared.specs.declared.waiter.Waiter.{Waiter}
use Rattle.ci_shared.specs.Roster.{first_in}
use Rattle.ci_shared.specs.Rows.{Row, Attempt, Naming, coded, refused, number, plain, element, replying, given, stands, turned_away, opens}
use Rattle.ci_shared.specs.Words.{is_empty, is_mode, same_text}

-- the elements stand in the order in which they were written
pub record Queue : Type 0 where
  pub number : ℤ
  pub name : List ℕ
  pub items : List Item

-- the number of the queue with a name
abbrev pub queue_named : List ℕ → List Queue → Option ℤ
queue_named name [] = None
queue_named name (x ∷ xs) = if same_text x.name name then Some x.number else queue_named name xs

abbrev pub queue_of : ℤ → List Queue → Option Queue
queue_of h [] = None
queue_of h (x ∷ xs) = if int_eq x.number h then Some x else queue_of h xs

abbrev pub with_items : ℤ → List Item → List Queue → List Queue
with_items h items [] = []
with_items h items (x ∷ xs) = if int_eq x.number h then record x { items = items } ∷ xs else x ∷ with_items h items xs

abbrev pub no_queue : ℤ → List Queue → List Queue
no_queue h [] = []
no_queue h (x ∷ xs) = if int_eq x.number h then xs else x ∷ no_queue h xs

-- the elements of all queues
abbrev pub count_items : List Queue → ℕ
count_items [] = 0
count_items (x ∷ xs) = length x.items + count_items xs

abbrev pub que_open : List ℕ → ℤ → ℤ → List Queue → Naming (List Queue)
que_open name mode next xs =
    if is_empty name || not (is_mode mode) then record { objects = xs; next = next; reply = refused 10 }
    else opens mode next (queue_named name xs) (length xs) xs (xs ++ record { number = next; name = name; items = [] } ∷ [])

-- an element comes: the first reader in line has it; else 11 where there are as many elements as there may be, else it is put last
abbrev pub put_at : ℤ → ℤ → List ℕ → List Queue → Queue → Option Waiter → Row (List Queue)
put_at h sort text xs x (Some w) = record { objects = xs; reply = coded 0; deliveries = record { task = w.task; answer = element sort text } ∷ [] }
put_at h sort text xs x None =
    if nat_le MOST_ELEMENTS (count_items xs) then replying xs (coded 11)
    else replying (with_items h (x.items ++ record { sort = sort; text = text } ∷ []) xs) (coded 0)

abbrev pub write_at : ℤ → ℤ → List ℕ → List Queue → List Waiter → Option Queue → Row (List Queue)
write_at h sort text xs ws None = replying xs (coded 1)
write_at h sort text xs ws (Some x) = put_at h sort text xs x (first_in (places.Queue h) ws)

abbrev pub que_write : ℤ → ℤ → List ℕ → List Queue → List Waiter → Row (List Queue)
que_write h sort text xs ws = write_at h sort text xs ws (queue_of h xs)

-- an element comes from outside, by the queue's name
abbrev pub put_named : ℤ → List ℕ → List Queue → List Waiter → Option ℤ → Row (List Queue)
put_named sort text xs ws None = replying xs (coded 5)
put_named sort text xs ws (Some h) = que_write h sort text xs ws

-- the front element; of an empty queue 3 in mode 0, else the reader joins the line
abbrev pub take_at : ℤ → ℤ → List Queue → List Item → Attempt (List Queue)
take_at h mode xs (i ∷ is) = given (with_items h is xs) (element i.sort i.text)
take_at h mode xs [] = if int_eq mode (pos 0) then given xs (plain (coded 3)) else stands xs (places.Queue h) None

abbrev pub read_at : ℤ → ℤ → List Queue → Option Queue → Attempt (List Queue)
read_at h mode xs None = given xs (plain (coded 1))
read_at h mode xs (Some x) = if int_eq mode (pos 0) || int_eq mode (pos 1) then take_at h mode xs x.items else given xs (plain (coded 10))

abbrev pub que_read : ℤ → ℤ → List Queue → Attempt (List Queue)
que_read h mode xs = read_at h mode xs (queue_of h xs)

abbrev pub length_at : Option Queue → EventReply
length_at None = refused 1
length_at (Some x) = number (pos (length x.items))

abbrev pub que_length : ℤ → List Queue → EventReply
que_length h xs = length_at (queue_of h xs)

abbrev pub close_at : ℤ → List Queue → List Waiter → Option Queue → Row (List Queue)
close_at h xs ws None = replying xs (coded 1)
close_at h xs ws (Some x) = record { objects = no_queue h xs; reply = coded 0; deliveries = turned_away (places.Queue h) ws }

abbrev pub que_close : ℤ → List Queue → List Waiter → Row (List Queue)
que_close h xs ws = close_at h xs ws (queue_of h xs)
