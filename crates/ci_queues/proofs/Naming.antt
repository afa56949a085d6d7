-- The last ways out of the row that opens a queue.
use Rattle.std.proofs.Common.{◌≡◌, ◌++◌, ℤ, ℕ, true, false, List, [], ◌∷◌, length, None, pos}
use Rattle.std.specs.Prelude.{◌+ℤ◌, nat_le}
use Rattle.std.specs.Ordering.{int_eq}
use Rattle.ci_base.specs.declared.bounds.TheConstants.{MOST_OBJECTS}
use Rattle.ci_base.specs.declared.reply.Answer.{Answer}
use Rattle.ci_shared.proofs.Opening.{crowded_out, is_made, numbers_end}
use Rattle.ci_shared.specs.Queues.{Queue, que_open, queue_named}
use Rattle.ci_shared.specs.Rows.{FollowsNaming, last_number, number, plain, refused}
use Rattle.ci_shared.specs.Words.{is_empty, is_mode}

module _ (text : List ℕ) (mode next : ℤ) (xs : List Queue) (full : is_empty text ≡ false) (allowed : is_mode mode ≡ true) (unknown : queue_named text xs ≡ None) (making : int_eq mode (pos 0) ≡ false) where
  abbrev new_one : List Queue
  new_one = xs ++ record { number = next; name = text; items = [] } ∷ []

  pub name_full : (a : Answer) → nat_le MOST_OBJECTS (length xs) ≡ true → a ≡ plain (refused 11) → FollowsNaming (que_open text mode next xs) a xs next
  name_full a m is_a = crowded_out (List Queue) (is_empty text) (is_mode mode) mode next (queue_named text xs) (length xs) xs new_one full allowed unknown making a m is_a

  pub name_ends : (a : Answer) → nat_le MOST_OBJECTS (length xs) ≡ false → int_eq next last_number ≡ true → a ≡ plain (refused 11) → FollowsNaming (que_open text mode next xs) a xs next
  name_ends a m l is_a = numbers_end (List Queue) (is_empty text) (is_mode mode) mode next (queue_named text xs) (length xs) xs new_one full allowed unknown making a m l is_a

  pub name_makes : (a : Answer) (new : List Queue) (next' : ℤ) → nat_le MOST_OBJECTS (length xs) ≡ false → int_eq next last_number ≡ false → a ≡ plain (number next) → new ≡ new_one → next' ≡ next +ℤ pos 1 → FollowsNaming (que_open text mode next xs) a new next'
  name_makes a new next' m l is_a is_new is_next =
      is_made (List Queue) (is_empty text) (is_mode mode) mode next (queue_named text xs) (length xs) xs new_one full allowed unknown making a new next' m l is_a is_new is_next
