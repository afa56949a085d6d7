-- Those whose limit has come, in order.
use Rattle.std.proofs.Common.{◌≡◌, ℕ, Bool, true, false, cond, List, [], ◌∷◌, refl, arith}
use Rattle.std.specs.Prelude.{nat_eq, nat_lt, ◌||◌, ◌&&◌}
use Rattle.std.proofs.lemmas.Bool.Decides.{nat_tests}
use Rattle.ci_shared.specs.Laws.{AllLater, DuesInOrder, InOrder}
use Rattle.ci_shared.specs.Roster.{by_limit, is_sooner, limit_of, put_by_limit}
use Rattle.ci_shared.specs.declared.waiter.Waiter.{Waiter}

-- of pairs of numbers, by the first and then by the second
back : (a s b t : ℕ) → (nat_lt a b || (nat_eq a b && nat_lt s t)) ≡ true → (nat_lt b a || (nat_eq b a && nat_lt t s)) ≡ false
back a s b t e = grind (arith, nat_tests)

along : (a s b t c u : ℕ) → (nat_lt a b || (nat_eq a b && nat_lt s t)) ≡ true → (nat_lt c b || (nat_eq c b && nat_lt u t)) ≡ false → (nat_lt c a || (nat_eq c a && nat_lt u s)) ≡ false
along a s b t c u e f = grind (arith, nat_tests)

pub all_later : (w x : Waiter) (ys : List Waiter) → is_sooner w x ≡ true → AllLater x ys → AllLater w ys
all_later w x [] e h = tt
all_later w x (y ∷ ys) e h = (along (limit_of w) w.task (limit_of x) x.task (limit_of y) y.task e h.0, all_later w x ys e h.1)

put_later : (x w : Waiter) (ys : List Waiter) → is_sooner w x ≡ false → AllLater x ys → AllLater x (put_by_limit w ys)
put_later x w [] e h = (e, tt)
put_later x w (y ∷ ys) e h = by (is_sooner w y) (put_later x w ys e h.1)
  where
    by : (b : Bool) → AllLater x (put_by_limit w ys) → AllLater x (cond b (w ∷ y ∷ ys) (y ∷ put_by_limit w ys))
    by true more = (e, h)
    by false more = (h.0, more)

put_in_order : (w : Waiter) (xs : List Waiter) → InOrder xs → InOrder (put_by_limit w xs)
put_in_order w [] h = (tt, tt)
put_in_order w (x ∷ xs) h = by (is_sooner w x) refl (put_in_order w xs h.1)
  where
    by : (b : Bool) → is_sooner w x ≡ b → InOrder (put_by_limit w xs) → InOrder (cond b (w ∷ x ∷ xs) (x ∷ put_by_limit w xs))
    by true e more = ((back (limit_of w) w.task (limit_of x) x.task e, all_later w x xs e h.0), h)
    by false e more = (put_later x w xs e h.0, more)

pub dues_in_order : DuesInOrder
dues_in_order [] = tt
dues_in_order (w ∷ ws) = put_in_order w (by_limit ws) (dues_in_order ws)
