-- The four arguments of a call of QueRead.
use Rattle.std.proofs.Common.{◌≡◌, ◌<◌, ◌≤◌, List, [], ◌∷◌, length, get_or, Some, None, refl, sym, ap, ◌∙◌, arith}
use Rattle.std.specs.Prelude.{slice_get, remove}
use Rattle.ci_base.specs.declared.function.SharedName.TheVariants as requests
use Rattle.ci_tree.specs.declared.bound.Expr as code_expr
use Rattle.ci_tree.specs.Bound as to
use Rattle.ci_tree.specs.LeftOut.{Heads, call_given}
use Rattle.ci_tree.specs.SeenBound.{expr_of, exprs_of}
use Rattle.ci_names.specs.Binding.{called_with}
use Rattle.ci_bodies.specs.QueRead.{as_scalar, both, set_scalars}

pub of_four : (heads : Heads) (xs : List code_expr.Expr) (a b : code_expr.Expr) → 4 ≤ length xs → length xs < 5 → a ≡ get_or xs 1 a → b ≡ get_or xs 2 b
    → both (as_scalar (expr_of heads a)) (as_scalar (expr_of heads b)) ≡ set_scalars (exprs_of heads xs)
of_four heads [] a b low high i j = absurd (omega arith)
of_four heads (q ∷ []) a b low high i j = absurd (omega arith)
of_four heads (q ∷ s ∷ []) a b low high i j = absurd (omega arith)
of_four heads (q ∷ s ∷ t ∷ []) a b low high i j = absurd (omega arith)
of_four heads (q ∷ s ∷ t ∷ m ∷ []) a b low high i j = ap (λ x. both (as_scalar (expr_of heads x)) (as_scalar (expr_of heads b))) i ∙ ap (λ x. both (as_scalar (expr_of heads s)) (as_scalar (expr_of heads x))) j
of_four heads (q ∷ s ∷ t ∷ m ∷ x ∷ xs) a b low high i j = absurd (omega arith)

pub of_fewer : (heads : Heads) (xs : List code_expr.Expr) → length xs < 4 → None ≡ set_scalars (exprs_of heads xs)
of_fewer heads [] high = refl
of_fewer heads (q ∷ []) high = refl
of_fewer heads (q ∷ s ∷ []) high = refl
of_fewer heads (q ∷ s ∷ t ∷ []) high = refl
of_fewer heads (q ∷ s ∷ t ∷ m ∷ xs) high = absurd (omega arith)

pub of_more : (heads : Heads) (xs : List code_expr.Expr) → 5 ≤ length xs → None ≡ set_scalars (exprs_of heads xs)
of_more heads [] low = absurd (omega arith)
of_more heads (q ∷ []) low = absurd (omega arith)
of_more heads (q ∷ s ∷ []) low = absurd (omega arith)
of_more heads (q ∷ s ∷ t ∷ []) low = absurd (omega arith)
of_more heads (q ∷ s ∷ t ∷ m ∷ []) low = absurd (omega arith)
of_more heads (q ∷ s ∷ t ∷ m ∷ x ∷ xs) low = refl

-- where both are scalars, the arguments are these four
abbrev pub AreSet : to.Exprs → to.Scalar → to.Scalar → Type 0
AreSet args sort text = (queue : to.Expr) × ((mode : to.Expr) × (args ≡ to.more queue (to.more (to.scalar sort) (to.more (to.scalar text) (to.more mode to.no_expr)))))

set_two : (queue second third mode : to.Expr) (sort text : to.Scalar) → both (as_scalar second) (as_scalar third) ≡ Some (sort, text)
    → AreSet (to.more queue (to.more second (to.more third (to.more mode to.no_expr)))) sort text
set_two queue (to.scalar x) (to.scalar y) mode sort text h =
    let i : x ≡ sort = ap (λ p. p.0) (some_same h) in
    let j : y ≡ text = ap (λ p. p.1) (some_same h) in
    (queue, (mode, ap (λ s. to.more queue (to.more (to.scalar s) (to.more (to.scalar y) (to.more mode to.no_expr)))) i ∙ ap (λ s. to.more queue (to.more (to.scalar sort) (to.more (to.scalar s) (to.more mode to.no_expr)))) j))
  where
    some_same : {A : Type 0} {x y : A} → Some x ≡ Some y → x ≡ y
    some_same e = cc
set_two queue (to.scalar x) (to.number v) mode sort text h = absurd (cc)
set_two queue (to.scalar x) (to.literal v) mode sort text h = absurd (cc)
set_two queue (to.scalar x) (to.element a i) mode sort text h = absurd (cc)
set_two queue (to.scalar x) (to.called a) mode sort text h = absurd (cc)
set_two queue (to.scalar x) (to.unary a i) mode sort text h = absurd (cc)
set_two queue (to.scalar x) (to.chain a i) mode sort text h = absurd (cc)
set_two queue (to.number v) third mode sort text h = absurd (cc)
set_two queue (to.literal v) third mode sort text h = absurd (cc)
set_two queue (to.element a i) third mode sort text h = absurd (cc)
set_two queue (to.called a) third mode sort text h = absurd (cc)
set_two queue (to.unary a i) third mode sort text h = absurd (cc)
set_two queue (to.chain a i) third mode sort text h = absurd (cc)

pub are_set : (args : to.Exprs) (sort text : to.Scalar) → set_scalars args ≡ Some (sort, text) → AreSet args sort text
are_set to.no_expr sort text h = absurd (cc)
are_set (to.more q to.no_expr) sort text h = absurd (cc)
are_set (to.more q (to.more s to.no_expr)) sort text h = absurd (cc)
are_set (to.more q (to.more s (to.more t to.no_expr))) sort text h = absurd (cc)
are_set (to.more q (to.more s (to.more t (to.more m to.no_expr)))) sort text h = set_two q s t m sort text h
are_set (to.more q (to.more s (to.more t (to.more m (to.more x xs))))) sort text h = absurd (cc)

-- where they aren't, the call is like any other
abbrev IsPlain : Heads → to.Exprs → Type 0
IsPlain heads args = called_with heads (to.shared requests.QueRead) args ≡ call_given heads (to.shared requests.QueRead) args

by_mode : (heads : Heads) (q : to.Expr) (x y : to.Scalar) (rest : to.Exprs) → set_scalars (to.more q (to.more (to.scalar x) (to.more (to.scalar y) rest))) ≡ None → IsPlain heads (to.more q (to.more (to.scalar x) (to.more (to.scalar y) rest)))
by_mode heads q x y to.no_expr h = refl
by_mode heads q x y (to.more m to.no_expr) h = absurd (cc)
by_mode heads q x y (to.more m (to.more z zs)) h = refl

by_third : (heads : Heads) (q : to.Expr) (x : to.Scalar) (t : to.Expr) (rest : to.Exprs) → set_scalars (to.more q (to.more (to.scalar x) (to.more t rest))) ≡ None → IsPlain heads (to.more q (to.more (to.scalar x) (to.more t rest)))
by_third heads q x (to.scalar y) rest h = by_mode heads q x y rest h
by_third heads q x (to.number v) rest h = refl
by_third heads q x (to.literal v) rest h = refl
by_third heads q x (to.element a i) rest h = refl
by_third heads q x (to.called a) rest h = refl
by_third heads q x (to.unary a i) rest h = refl
by_third heads q x (to.chain a i) rest h = refl

by_second : (heads : Heads) (q s : to.Expr) (rest : to.Exprs) → set_scalars (to.more q (to.more s rest)) ≡ None → IsPlain heads (to.more q (to.more s rest))
by_second heads q (to.scalar x) to.no_expr h = refl
by_second heads q (to.scalar x) (to.more t rest) h = by_third heads q x t rest h
by_second heads q (to.number v) rest h = refl
by_second heads q (to.literal v) rest h = refl
by_second heads q (to.element a i) rest h = refl
by_second heads q (to.called a) rest h = refl
by_second heads q (to.unary a i) rest h = refl
by_second heads q (to.chain a i) rest h = refl

pub plain_call : (heads : Heads) (args : to.Exprs) → set_scalars args ≡ None → called_with heads (to.shared requests.QueRead) args ≡ call_given heads (to.shared requests.QueRead) args
plain_call heads to.no_expr h = refl
plain_call heads (to.more q to.no_expr) h = refl
plain_call heads (to.more q (to.more s rest)) h = by_second heads q s rest h

-- four parts are four arguments
pub four_long : (heads : Heads) (xs : List code_expr.Expr) (q s t m : to.Expr) → exprs_of heads xs ≡ to.more q (to.more s (to.more t (to.more m to.no_expr))) → length xs ≡ 4
four_long heads [] q s t m h = absurd (cc)
four_long heads (a ∷ []) q s t m h = absurd (cc)
four_long heads (a ∷ b ∷ []) q s t m h = absurd (cc)
four_long heads (a ∷ b ∷ c ∷ []) q s t m h = absurd (cc)
four_long heads (a ∷ b ∷ c ∷ d ∷ []) q s t m h = refl
four_long heads (a ∷ b ∷ c ∷ d ∷ x ∷ xs) q s t m h = absurd (cc)

-- the first and the last of them
pub ends : (heads : Heads) (xs rest : List code_expr.Expr) (mode queue : code_expr.Expr) (q s t m : to.Expr) → slice_get xs 3 ≡ Some mode → rest ≡ remove xs 3 → slice_get rest 0 ≡ Some queue
    → exprs_of heads xs ≡ to.more q (to.more s (to.more t (to.more m to.no_expr))) → (expr_of heads queue ≡ q) × (expr_of heads mode ≡ m)
ends heads [] rest mode queue q s t m i j k h = absurd (cc)
ends heads (a ∷ []) rest mode queue q s t m i j k h = absurd (cc)
ends heads (a ∷ b ∷ []) rest mode queue q s t m i j k h = absurd (cc)
ends heads (a ∷ b ∷ c ∷ []) rest mode queue q s t m i j k h = absurd (cc)
ends heads (a ∷ b ∷ c ∷ d ∷ []) rest mode queue q s t m i j k h =
    let first : Some a ≡ Some queue = sym (ap (λ ys. slice_get ys 0) j) ∙ k in
    let e : a ≡ queue = cc in
    let f : expr_of heads a ≡ q = cc in
    let o : d ≡ mode = cc in
    let g : expr_of heads d ≡ m = cc in
    (sym (ap (expr_of heads) e) ∙ f, sym (ap (expr_of heads) o) ∙ g)
ends heads (a ∷ b ∷ c ∷ d ∷ x ∷ xs) rest mode queue q s t m i j k h = absurd (cc)
