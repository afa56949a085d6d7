-- A bound tree has at most the nodes of its tree.
use Rattle.std.specs.Prelude.{◌≡◌, ℕ, ◌+◌, ◌≤◌, List, [], ◌∷◌, map, sum_by, Option, Some, None}
use Rattle.std.proofs.lemmas.List.Sums.{sum_by-cons}
use native.Mathlib.Omega.{arith}
use Rattle.ci_base.specs.declared.value.Kind.{Kind}
use Rattle.ci_base.specs.declared.function.SharedName.TheVariants as requests
use Rattle.ci_tree.specs.Tree as from
use Rattle.ci_tree.specs.Bound as to
use Rattle.ci_tree.specs.Bound.{Callee}
use Rattle.ci_tree.specs.Nodes as source
use Rattle.ci_tree.specs.BoundNodes as made
use Rattle.ci_tree.specs.LeftOut.{Heads, count_of, followed, left_out, call_given}
use Rattle.ci_names.specs.Declarations.{kind_of_type}
use Rattle.ci_names.specs.Scopes.{Scope, Meaning, with_locals, declared_local, locals_in, locals_in_clauses, locals_in_block, meaning, callee}
use Rattle.ci_names.specs.Binding.{callee_of, heads_in, called_with, bound_expr, bound_what, bound_links, bound_args, bound_call, set_before, locals_before, bound_assign, bound_label, returned, bound_before, bound_other, bound_last, bound_clauses, bound_block}

-- the nodes of all these arguments
abbrev all_nodes : to.Exprs → ℕ
all_nodes to.no_expr = 0
all_nodes (to.more first rest) = made.expr_nodes first + all_nodes rest

-- Calls

-- the arguments that stand in the source alone are counted
first_few : (args behind : to.Exprs) → made.exprs_nodes (count_of args) (followed args behind) ≤ all_nodes args
first_few to.no_expr to.no_expr = omega arith
first_few to.no_expr (to.more first rest) = omega arith
first_few (to.more first rest) behind = let h = first_few rest behind in omega arith

given_few : (heads : Heads) (callee : Callee) (args : to.Exprs) → made.call_nodes (call_given heads callee args) ≤ all_nodes args
unfolding call_given
given_few heads callee args = first_few args (left_out heads callee (count_of args))

called_few : (heads : Heads) (callee : Callee) (args : to.Exprs) → made.call_nodes (called_with heads callee args) ≤ all_nodes args
called_few heads (to.shared requests.QueRead) (to.more queue (to.more (to.scalar sort) (to.more (to.scalar text) (to.more mode to.no_expr)))) = omega arith
called_few heads callee args = given_few heads callee args

call_few : (s : Scope) (name : List ℕ) (args : from.Exprs) → all_nodes (bound_args s args) ≤ source.exprs_nodes args → 1 + made.call_nodes (bound_call s name args) ≤ 1 + source.exprs_nodes args
call_few s name args h = let c = called_few (heads_in s.declared) (callee_of (callee s name)) (bound_args s args) in omega arith

-- Expressions

one_part : (a x : ℕ) → a ≤ x → 1 + a ≤ 1 + x
one_part a x h = omega arith

two_parts : (a b x y : ℕ) → a ≤ x → b ≤ y → a + b ≤ x + y
two_parts a b x y h i = omega arith

chain_sum : (a b x y : ℕ) → a ≤ x → b ≤ y → 1 + a + b ≤ 1 + (x + y)
chain_sum a b x y h i = omega arith

mutual
  expr_few : (s : Scope) (e : from.Expr) → made.expr_nodes (bound_expr s e) ≤ source.expr_nodes e
  expr_few s (from.expr start at what) = what_few s what

  what_few : (s : Scope) (what : from.What) → made.expr_nodes (bound_what s what) ≤ 1 + source.what_nodes what
  what_few s (from.number value) = omega arith
  what_few s (from.literal text) = omega arith
  what_few s (from.name name) = omega arith
  what_few s (from.element name index) = one_part (made.expr_nodes (bound_expr s index)) (source.expr_nodes index) (expr_few s index)
  what_few s (from.call name args) = call_few s name args (args_few s args)
  what_few s (from.unary minus operand) = one_part (made.expr_nodes (bound_expr s operand)) (source.expr_nodes operand) (expr_few s operand)
  what_few s (from.chain first rest) =
      chain_sum (made.expr_nodes (bound_expr s first)) (made.links_nodes (bound_links s rest)) (source.expr_nodes first) (source.links_nodes rest) (expr_few s first) (links_few s rest)

  links_few : (s : Scope) (rest : from.Links) → made.links_nodes (bound_links s rest) ≤ source.links_nodes rest
  links_few s from.no_link = omega arith
  links_few s (from.operand at op right rest) =
      two_parts (made.expr_nodes (bound_expr s right)) (made.links_nodes (bound_links s rest)) (source.expr_nodes right) (source.links_nodes rest) (expr_few s right) (links_few s rest)
  links_few s (from.hashes at count rest) = links_few s rest

  args_few : (s : Scope) (args : from.Exprs) → all_nodes (bound_args s args) ≤ source.exprs_nodes args
  args_few s from.no_expr = omega arith
  args_few s (from.more first rest) = two_parts (made.expr_nodes (bound_expr s first)) (all_nodes (bound_args s rest)) (source.expr_nodes first) (source.exprs_nodes rest) (expr_few s first) (args_few s rest)

-- Statements

maybe_few : (s : Scope) (o : Option from.Expr) (block : to.Block) (at : ℕ) → made.block_nodes (set_before s at o block) ≤ 1 + source.option_nodes o + made.block_nodes block
maybe_few s None block at = omega arith
maybe_few s (Some e) block at = let h = expr_few s e in set_sum (made.expr_nodes (bound_expr s e)) (source.expr_nodes e) (made.block_nodes block) h
  where
    set_sum : (a x b : ℕ) → a ≤ x → 1 + a + b ≤ 1 + x + b
    set_sum a x b h = omega arith

-- a local that is declared, and what is set to it
local_sum : (w x n r k b : ℕ) → w ≤ 1 + x + n → n ≤ r + b → k ≡ (1 + x) + r → w ≤ k + b
local_sum w x n r k b h i e = omega arith

locals_few : (s : Scope) (kind : Kind) (ls : List from.Local) (block : to.Block) → made.block_nodes (locals_before s kind ls block) ≤ sum_by source.local_nodes ls + made.block_nodes block
locals_few s kind [] block = omega arith
locals_few s kind (l ∷ ls) block =
    let next = with_locals s (declared_local kind l ∷ []) in
    local_sum (made.block_nodes (locals_before s kind (l ∷ ls) block)) (source.option_nodes l.value) (made.block_nodes (locals_before next kind ls block)) (sum_by source.local_nodes ls) (sum_by source.local_nodes (l ∷ ls)) (made.block_nodes block)
    (maybe_few s l.value (locals_before next kind ls block) l.at) (locals_few next kind ls block) (sum_by-cons source.local_nodes l ls)

assigned_few : (s : Scope) (at : ℕ) (variable : Meaning) (index : Option from.Expr) (value : from.Expr) →
    made.stmt_nodes (bound_assign s at variable index value) ≤ 1 + source.option_nodes index + source.expr_nodes value
assigned_few s at variable None value = let h = expr_few s value in omega arith
assigned_few s at variable (Some index) value = let h = expr_few s index in let i = expr_few s value in omega arith

label_few : (s : Scope) (label : from.Label) → made.label_nodes (bound_label s label) ≤ source.label_nodes label
label_few s (from.one value) = expr_few s value
label_few s (from.range low high) = two_parts (made.expr_nodes (bound_expr s low)) (made.expr_nodes (bound_expr s high)) (source.expr_nodes low) (source.expr_nodes high) (expr_few s low) (expr_few s high)
label_few s (from.compared at relation value) = expr_few s value

labels_few : (s : Scope) (labels : List from.Label) → sum_by made.label_nodes (map (bound_label s) labels) ≤ sum_by source.label_nodes labels
labels_few s [] = omega arith
labels_few s (label ∷ labels) =
    label_sum (sum_by made.label_nodes (map (bound_label s) (label ∷ labels))) (made.label_nodes (bound_label s label)) (sum_by made.label_nodes (map (bound_label s) labels)) (sum_by source.label_nodes (label ∷ labels)) (source.label_nodes label) (sum_by source.label_nodes labels)
    (sum_by-cons made.label_nodes (bound_label s label) (map (bound_label s) labels)) (sum_by-cons source.label_nodes label labels) (label_few s label) (labels_few s labels)
  where
    label_sum : (n a b m x y : ℕ) → n ≡ a + b → m ≡ x + y → a ≤ x → b ≤ y → n ≤ m
    label_sum n a b m x y e f h i = omega arith

-- a RETURN counts with its value as one
returned_few : (s : Scope) (value : Option from.Expr) → made.expr_nodes (returned s value) ≤ 1 + source.option_nodes value
returned_few s None = omega arith
returned_few s (Some value) = let h = expr_few s value in omega arith

-- a statement before others: alone, with a body, with an expression more, and with two bodies
alone_sum : (a x b : ℕ) → a ≤ x → a + b ≤ x + b
alone_sum a x b h = omega arith

body_sum : (t u p q b : ℕ) → t ≤ u → p ≤ q → (1 + t + p) + b ≤ (1 + u + q) + b
body_sum t u p q b h i = omega arith

two_sum : (t u p q v w b : ℕ) → t ≤ u → p ≤ q → v ≤ w → (1 + t + p + v) + b ≤ (1 + u + q + w) + b
two_sum t u p q v w b h i j = omega arith

-- one clause before others, and one statement
clause_sum : (t u p q v w : ℕ) → t ≤ u → p ≤ q → v ≤ w → 1 + t + p + v ≤ 1 + u + q + w
clause_sum t u p q v w h i j = omega arith

then_sum : (p q v w : ℕ) → p ≤ q + v → v ≤ w → p ≤ q + w
then_sum p q v w h i = omega arith

mutual
  before_few : (s : Scope) (stmt : from.Stmt) (block : to.Block) → made.block_nodes (bound_before s stmt block) ≤ source.stmt_nodes stmt + made.block_nodes block
  before_few s (from.declare at kind locals) block = let h = locals_few s (kind_of_type kind.name) locals block in omega arith
  before_few s (from.assign at name index equals value) block =
      alone_sum (made.stmt_nodes (bound_assign s at (meaning s name) index value)) (1 + source.option_nodes index + source.expr_nodes value) (made.block_nodes block) (assigned_few s at (meaning s name) index value)
  before_few s (from.call_of at name args) block =
      alone_sum (1 + made.call_nodes (bound_call s name args)) (1 + source.exprs_nodes args) (made.block_nodes block) (call_few s name args (args_few s args))
  before_few s (from.choose at test body last) block =
      let behind = with_locals s (locals_in_block body) in
      two_sum (made.expr_nodes (bound_expr s test)) (source.expr_nodes test) (made.block_nodes (bound_block s body)) (source.block_nodes body) (made.other_nodes (bound_other behind last)) (source.other_nodes last) (made.block_nodes block)
      (expr_few s test) (block_few s body) (other_few behind last)
  before_few s (from.while at test body) block =
      body_sum (made.expr_nodes (bound_expr s test)) (source.expr_nodes test) (made.block_nodes (bound_block s body)) (source.block_nodes body) (made.block_nodes block) (expr_few s test) (block_few s body)
  before_few s (from.for at name_at name first last body) block =
      two_sum (made.expr_nodes (bound_expr s first)) (source.expr_nodes first) (made.expr_nodes (bound_expr s last)) (source.expr_nodes last) (made.block_nodes (bound_block s body)) (source.block_nodes body) (made.block_nodes block)
      (expr_few s first) (expr_few s last) (block_few s body)
  before_few s (from.select at subject clauses last) block =
      let behind = with_locals s (locals_in_clauses clauses) in
      two_sum (made.expr_nodes (bound_expr s subject)) (source.expr_nodes subject) (made.clauses_nodes (bound_clauses s clauses)) (source.clauses_nodes clauses) (made.block_nodes (bound_last behind last)) (source.other_nodes last) (made.block_nodes block)
      (expr_few s subject) (clauses_few s clauses) (last_few behind last)
  before_few s (from.return at value) block = alone_sum (made.expr_nodes (returned s value)) (1 + source.option_nodes value) (made.block_nodes block) (returned_few s value)

  other_few : (s : Scope) (last : from.Other) → made.other_nodes (bound_other s last) ≤ source.other_nodes last
  other_few s from.no_other = omega arith
  other_few s (from.other body) = block_few s body

  last_few : (s : Scope) (last : from.Other) → made.block_nodes (bound_last s last) ≤ source.other_nodes last
  last_few s from.no_other = omega arith
  last_few s (from.other body) = block_few s body

  clauses_few : (s : Scope) (clauses : from.Clauses) → made.clauses_nodes (bound_clauses s clauses) ≤ source.clauses_nodes clauses
  clauses_few s from.no_clause = omega arith
  clauses_few s (from.clause at labels body more) =
      let behind = with_locals s (locals_in_block body) in
      clause_sum (sum_by made.label_nodes (map (bound_label s) labels)) (sum_by source.label_nodes labels) (made.block_nodes (bound_block s body)) (source.block_nodes body) (made.clauses_nodes (bound_clauses behind more)) (source.clauses_nodes more)
      (labels_few s labels) (block_few s body) (clauses_few behind more)

  pub block_few : (s : Scope) (block : from.Block) → made.block_nodes (bound_block s block) ≤ source.block_nodes block
  block_few s from.done = omega arith
  block_few s (from.then first more) =
      let behind = with_locals s (locals_in first) in
      then_sum (made.block_nodes (bound_before s first (bound_block behind more))) (source.stmt_nodes first) (made.block_nodes (bound_block behind more)) (source.block_nodes more)
      (before_few s first (bound_block behind more)) (block_few behind more)
