-- An opening keeps the next number above those of the objects.
use Rattle.std.proofs.Common.{◌≡◌, ◌++◌, ℕ, ℤ, pos, Bool, true, false, cond, List, [], ◌∷◌, Option, Some, None, refl, sym, subst, arith}
use Rattle.std.specs.Prelude.{◌||◌, ◌<ℤ◌, ◌≤ℤ◌, ◌+ℤ◌, not, nat_le, length}
use Rattle.std.specs.List.{All}
use Rattle.std.specs.Ordering.{int_eq}
use Rattle.std.proofs.lemmas.Int.{ints}
use Rattle.std.proofs.lemmas.List.Elements.{All-nil, All-push, All-weaker}
use Rattle.ci_base.specs.declared.bounds.TheConstants.{MOST_OBJECTS}
use Rattle.ci_base.specs.declared.reply.Answer.{Answer}
use Rattle.ci_shared.specs.declared.object.Semaphore.{Semaphore}
use Rattle.ci_shared.specs.Queues.{Queue, que_open, queue_named}
use Rattle.ci_shared.specs.Rows.{FollowsNaming, Naming, last_number, opens, refused}
use Rattle.ci_shared.specs.Semaphores.{sem_open, semaphore_named}
use Rattle.ci_shared.specs.Words.{is_empty, is_mode}
use Rattle.ci_objects_tests.specs.Opening.{IsBelow, queue_number, semaphore_number}

below_more : (n next : ℤ) → n <ℤ next → n <ℤ (next +ℤ pos 1)
below_more n next h = omega (arith, ints, h)

below_next : (next : ℤ) → next <ℤ (next +ℤ pos 1)
below_next next = omega (arith, ints)

least_more : (next : ℤ) → pos 1 ≤ℤ next → pos 1 ≤ℤ (next +ℤ pos 1)
least_more next h = omega (arith, ints, h)

module _ (X : Type 0) (number : X → ℤ) where
  pub at_first : (next : ℤ) (xs : List X) → pos 1 ≤ℤ next → xs ≡ [] → IsBelow number next xs
  unfolding IsBelow
  at_first next xs least e = (least, subst (λ (l : List X). All (λ (x : X). number x <ℤ next) l) (sym e) (All-nil (λ (x : X). number x <ℤ next)))

  pub least_of : (next : ℤ) (xs : List X) → IsBelow number next xs → pos 1 ≤ℤ next
  unfolding IsBelow
  least_of next xs h = h.0

  pub above_of : (next : ℤ) (xs : List X) → IsBelow number next xs → All (λ (x : X). number x <ℤ next) xs
  unfolding IsBelow
  above_of next xs h = h.1

  pick : (b : Bool) (x y : Naming (List X)) → IsBelow number x.next x.objects → IsBelow number y.next y.objects → IsBelow number (cond b x y).next (cond b x y).objects
  pick true x y hx hy = hx
  pick false x y hx hy = hy

  grown : (next : ℤ) (xs : List X) (x : X) → number x ≡ next → IsBelow number next xs → IsBelow number (next +ℤ pos 1) (xs ++ x ∷ [])
  unfolding IsBelow
  grown next xs x is below = (
    least_more next below.0,
    All-push (λ (y : X). number y <ℤ (next +ℤ pos 1)) xs x
        (All-weaker (λ (y : X). number y <ℤ next) (λ (y : X). number y <ℤ (next +ℤ pos 1)) (λ y h. below_more (number y) next h) xs below.1) (subst (λ (n : ℤ). n <ℤ (next +ℤ pos 1)) (sym is) (below_next next)),
  )

  opened : (mode next : ℤ) (o : Option ℤ) (xs : List X) (x : X) → number x ≡ next → IsBelow number next xs → IsBelow number (opens mode next o (length xs) xs (xs ++ x ∷ [])).next (opens mode next o (length xs) xs (xs ++ x ∷ [])).objects
  opened mode next (Some n) xs x is below = below
  opened mode next None xs x is below = pick (int_eq mode (pos 0)) _ _ below (pick (nat_le MOST_OBJECTS (length xs) || int_eq next last_number) _ _ below (grown next xs x is below))

  pub keeps : (b : Bool) (mode next : ℤ) (o : Option ℤ) (xs : List X) (x : X) (a : Answer) (new : List X) (next' : ℤ) → number x ≡ next → IsBelow number next xs →
      FollowsNaming (cond b (record { objects = xs; next = next; reply = refused 10 }) (opens mode next o (length xs) xs (xs ++ x ∷ []))) a new next' → IsBelow number next' new
  keeps b mode next o xs x a new next' is below f =
      subst (λ (n : ℤ). IsBelow number n new) (sym f.next_is)
      (subst (λ (l : List X). IsBelow number row.next l) (sym f.objects_are)
      (pick b _ _ below (opened mode next o xs x is below)))
    where
      row : Naming (List X)
      row = cond b (record { objects = xs; next = next; reply = refused 10 }) (opens mode next o (length xs) xs (xs ++ x ∷ []))

pub queues_keep : (text : List ℕ) (mode next : ℤ) (xs : List Queue) (a : Answer) (new : List Queue) (next' : ℤ) → IsBelow queue_number next xs → FollowsNaming (que_open text mode next xs) a new next' → IsBelow queue_number next' new
queues_keep text mode next xs a new next' below f =
    keeps Queue queue_number (is_empty text || not (is_mode mode)) mode next (queue_named text xs) xs (record { number = next; name = text; items = [] }) a new next' refl below f

pub semaphores_keep : (text : List ℕ) (mode next : ℤ) (xs : List Semaphore) (a : Answer) (new : List Semaphore) (next' : ℤ) → IsBelow semaphore_number next xs → FollowsNaming (sem_open text mode next xs) a new next' → IsBelow semaphore_number next' new
semaphores_keep text mode next xs a new next' below f =
    keeps Semaphore semaphore_number (is_empty text || not (is_mode mode)) mode next (semaphore_named text xs) xs (record { number = next; name = text; count = 1 }) a new next' refl below f
