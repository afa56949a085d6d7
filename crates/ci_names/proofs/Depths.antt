-- A bound tree has at most as many levels open at once as its tree.
use Rattle.std.specs.Prelude.{ℕ, ◌+◌, ◌≤◌, max, List, [], ◌∷◌, map, drop, Option, Some, None}
use native.Mathlib.Omega.{arith}
use Rattle.ci_base.specs.declared.value.Kind.{Kind}
use Rattle.ci_base.specs.declared.value.Value.{Value}
use Rattle.ci_base.specs.declared.value.Value.TheVariants as values
use Rattle.ci_base.specs.declared.function.SharedName.TheVariants as requests
use Rattle.ci_tree.specs.Tree as from
use Rattle.ci_tree.specs.Bound as to
use Rattle.ci_tree.specs.Bound.{Callee}
use Rattle.ci_tree.specs.Depth.{depth, call_depth, links_depth, args_depth, label_depth, labels_depth, stmt_depth, other_depth, clauses_depth, block_depth}
use Rattle.ci_names.specs.Declarations.{kind_of_type}
use Rattle.ci_names.specs.Scopes.{Scope, Meaning, with_locals, declared_local, locals_in, locals_in_block, locals_in_clauses, meaning, callee}
use Rattle.ci_tree.specs.LeftOut.{Heads, constant, constants, followed, left_out, count_of, firsts, call_given}
use Rattle.ci_names.specs.Binding.{callee_of, heads_in, called_with, bound_expr, bound_what, bound_links, bound_args, bound_call, set_before, locals_before, bound_assign, bound_label, returned, bound_before, bound_other, bound_last, bound_clauses, bound_block}
use Rattle.ci_names.proofs.Deep.{deep, what_deep, links_deep, args_deep, maybe_deep, index_deep, locals_deep, label_deep, labels_deep, stmt_deep, other_deep, clauses_deep, block_deep}
use Rattle.ci_names.proofs.Maxima.{max_least, max_both}

one_more : (a x : ℕ) → a ≤ x → 1 + a ≤ 1 + x
one_more a x h = omega arith

constant_flat : (v : Value) → depth (constant v) ≤ 0
constant_flat (values.Int n) = omega arith
constant_flat (values.Str t) = omega arith

-- the arguments that are left out are constants
left_flat : (values : List (Option Value)) → args_depth (constants values) ≤ 0
left_flat [] = omega arith
left_flat (None ∷ values) = left_flat values
left_flat ((Some v) ∷ values) = max_least (depth (constant v)) (args_depth (constants values)) 0 (constant_flat v) (left_flat values)

-- constants behind arguments open no level
followed_flat : (args behind : to.Exprs) → args_depth behind ≤ 0 → args_depth (followed args behind) ≤ args_depth args
followed_flat to.no_expr behind h = h
followed_flat (to.more first rest) behind h = let r = followed_flat rest behind h in omega arith

read_sum : (q s t m : ℕ) → 1 + max q m ≤ 1 + max q (max s (max t (max m 0)))
read_sum q s t m = omega arith

-- a call has no level but its own and those of its arguments
given_deep : (heads : Heads) (callee : Callee) (args : to.Exprs) → call_depth (call_given heads callee args) ≤ 1 + args_depth args
unfolding call_given
given_deep heads callee args = one_more (args_depth (followed args (left_out heads callee (count_of args)))) (args_depth args) (followed_flat args (left_out heads callee (count_of args)) (left_flat (drop (count_of args) (firsts heads callee))))

called_deep : (heads : Heads) (callee : Callee) (args : to.Exprs) → call_depth (called_with heads callee args) ≤ 1 + args_depth args
called_deep heads (to.shared requests.QueRead) (to.more queue (to.more (to.scalar sort) (to.more (to.scalar text) (to.more mode to.no_expr)))) = read_sum (depth queue) 0 0 (depth mode)
called_deep heads callee args = given_deep heads callee args

call_shallow : (heads : Heads) (callee : Callee) (args : to.Exprs) (x : ℕ) → args_depth args ≤ x → call_depth (called_with heads callee args) ≤ 1 + x
call_shallow heads callee args x h = let c = called_deep heads callee args in omega arith

mutual
  expr_shallow : (s : Scope) (e : from.Expr) → depth (bound_expr s e) ≤ deep e
  expr_shallow s (from.expr start at what) = what_shallow s what

  what_shallow : (s : Scope) (what : from.What) → depth (bound_what s what) ≤ what_deep what
  what_shallow s (from.number value) = omega arith
  what_shallow s (from.literal text) = omega arith
  what_shallow s (from.name name) = omega arith
  what_shallow s (from.element name index) = one_more (depth (bound_expr s index)) (deep index) (expr_shallow s index)
  what_shallow s (from.call name args) =
      call_shallow (heads_in s.declared) (callee_of (callee s name)) (bound_args s args) (args_deep args) (args_shallow s args)
  what_shallow s (from.unary minus operand) = one_more (depth (bound_expr s operand)) (deep operand) (expr_shallow s operand)
  what_shallow s (from.chain first rest) = max_both (depth (bound_expr s first)) (links_depth (bound_links s rest)) (deep first) (links_deep rest) (expr_shallow s first) (links_shallow s rest)

  links_shallow : (s : Scope) (rest : from.Links) → links_depth (bound_links s rest) ≤ links_deep rest
  links_shallow s from.no_link = omega arith
  links_shallow s (from.operand at op right rest) = max_both (depth (bound_expr s right)) (links_depth (bound_links s rest)) (deep right) (links_deep rest) (expr_shallow s right) (links_shallow s rest)
  links_shallow s (from.hashes at count rest) = links_shallow s rest

  args_shallow : (s : Scope) (args : from.Exprs) → args_depth (bound_args s args) ≤ args_deep args
  args_shallow s from.no_expr = omega arith
  args_shallow s (from.more first rest) = max_both (depth (bound_expr s first)) (args_depth (bound_args s rest)) (deep first) (args_deep rest) (expr_shallow s first) (args_shallow s rest)

-- Statements

-- an assignment in front
set_shallow : (s : Scope) (at : ℕ) (o : Option from.Expr) (block : to.Block) → block_depth (set_before s at o block) ≤ max (maybe_deep o) (block_depth block)
set_shallow s at None block = omega arith
set_shallow s at (Some e) block = let h = expr_shallow s e in max_both (depth (bound_expr s e)) (block_depth block) (deep e) (block_depth block) h (omega arith)

max_assoc : (a b c x y : ℕ) → a ≤ max b c → c ≤ max x y → a ≤ max (max b x) y
max_assoc a b c x y h i = omega arith

locals_shallow : (s : Scope) (kind : Kind) (ls : List from.Local) (block : to.Block) → block_depth (locals_before s kind ls block) ≤ max (locals_deep ls) (block_depth block)
locals_shallow s kind [] block = omega arith
locals_shallow s kind (l ∷ ls) block =
    let next = with_locals s (declared_local kind l ∷ []) in
    max_assoc (block_depth (set_before s l.at l.value (locals_before next kind ls block))) (maybe_deep l.value) (block_depth (locals_before next kind ls block)) (locals_deep ls) (block_depth block)
    (set_shallow s l.at l.value (locals_before next kind ls block)) (locals_shallow next kind ls block)

assigned_shallow : (s : Scope) (at : ℕ) (variable : Meaning) (index : Option from.Expr) (value : from.Expr) → stmt_depth (bound_assign s at variable index value) ≤ max (index_deep index) (deep value)
assigned_shallow s at variable None value = let h = expr_shallow s value in omega arith
assigned_shallow s at variable (Some index) value =
    max_both (1 + depth (bound_expr s index)) (depth (bound_expr s value)) (1 + deep index) (deep value) (one_more (depth (bound_expr s index)) (deep index) (expr_shallow s index)) (expr_shallow s value)

label_shallow : (s : Scope) (label : from.Label) → label_depth (bound_label s label) ≤ label_deep label
label_shallow s (from.one value) = expr_shallow s value
label_shallow s (from.range low high) = max_both (depth (bound_expr s low)) (depth (bound_expr s high)) (deep low) (deep high) (expr_shallow s low) (expr_shallow s high)
label_shallow s (from.compared at relation value) = expr_shallow s value

labels_shallow : (s : Scope) (labels : List from.Label) → labels_depth (map (bound_label s) labels) ≤ labels_deep labels
labels_shallow s [] = omega arith
labels_shallow s (label ∷ labels) = max_both (label_depth (bound_label s label)) (labels_depth (map (bound_label s) labels)) (label_deep label) (labels_deep labels) (label_shallow s label) (labels_shallow s labels)

returned_shallow : (s : Scope) (value : Option from.Expr) → depth (returned s value) ≤ maybe_deep value
returned_shallow s None = omega arith
returned_shallow s (Some value) = expr_shallow s value

-- two and three parts behind a level that a statement opens
two_opened : (a b x y : ℕ) → a ≤ x → b ≤ y → 1 + max a b ≤ 1 + max x y
two_opened a b x y h i = one_more (max a b) (max x y) (max_both a b x y h i)

three_opened : (a b c x y z : ℕ) → a ≤ x → b ≤ y → c ≤ z → 1 + max a (max b c) ≤ 1 + max x (max y z)
three_opened a b c x y z h i j = two_opened a (max b c) x (max y z) h (max_both b c y z i j)

behind_first : (a b c y : ℕ) → a ≤ max b c → c ≤ y → a ≤ max b y
behind_first a b c y h i = omega arith

in_front : (a x b : ℕ) → a ≤ x → max a b ≤ max x b
in_front a x b h = omega arith

mutual
  before_shallow : (s : Scope) (stmt : from.Stmt) (block : to.Block) → block_depth (bound_before s stmt block) ≤ max (stmt_deep stmt) (block_depth block)
  before_shallow s (from.declare at kind locals) block = locals_shallow s (kind_of_type kind.name) locals block
  before_shallow s (from.assign at name index equals value) block =
      in_front (stmt_depth (bound_assign s at (meaning s name) index value)) (max (index_deep index) (deep value)) (block_depth block) (assigned_shallow s at (meaning s name) index value)
  before_shallow s (from.call_of at name args) block =
      in_front (call_depth (bound_call s name args)) (1 + args_deep args) (block_depth block)
      (call_shallow (heads_in s.declared) (callee_of (callee s name)) (bound_args s args) (args_deep args) (args_shallow s args))
  before_shallow s (from.choose at test body last) block =
      let behind = with_locals s (locals_in_block body) in
      in_front (1 + max (depth (bound_expr s test)) (max (block_depth (bound_block s body)) (other_depth (bound_other behind last)))) (1 + max (deep test) (max (block_deep body) (other_deep last))) (block_depth block)
      (three_opened (depth (bound_expr s test)) (block_depth (bound_block s body)) (other_depth (bound_other behind last)) (deep test) (block_deep body) (other_deep last) (expr_shallow s test) (block_shallow s body) (other_shallow behind last))
  before_shallow s (from.while at test body) block =
      in_front (1 + max (depth (bound_expr s test)) (block_depth (bound_block s body))) (1 + max (deep test) (block_deep body)) (block_depth block)
      (two_opened (depth (bound_expr s test)) (block_depth (bound_block s body)) (deep test) (block_deep body) (expr_shallow s test) (block_shallow s body))
  before_shallow s (from.for at name_at name first last body) block =
      in_front (1 + max (depth (bound_expr s first)) (max (depth (bound_expr s last)) (block_depth (bound_block s body)))) (1 + max (deep first) (max (deep last) (block_deep body))) (block_depth block)
      (three_opened (depth (bound_expr s first)) (depth (bound_expr s last)) (block_depth (bound_block s body)) (deep first) (deep last) (block_deep body) (expr_shallow s first) (expr_shallow s last) (block_shallow s body))
  before_shallow s (from.select at subject clauses last) block =
      let behind = with_locals s (locals_in_clauses clauses) in
      in_front (1 + max (depth (bound_expr s subject)) (max (clauses_depth (bound_clauses s clauses)) (block_depth (bound_last behind last)))) (1 + max (deep subject) (max (clauses_deep clauses) (other_deep last))) (block_depth block)
      (three_opened (depth (bound_expr s subject)) (clauses_depth (bound_clauses s clauses)) (block_depth (bound_last behind last)) (deep subject) (clauses_deep clauses) (other_deep last) (expr_shallow s subject) (clauses_shallow s clauses) (last_shallow behind last))
  before_shallow s (from.return at value) block = in_front (depth (returned s value)) (maybe_deep value) (block_depth block) (returned_shallow s value)

  other_shallow : (s : Scope) (last : from.Other) → other_depth (bound_other s last) ≤ other_deep last
  other_shallow s from.no_other = omega arith
  other_shallow s (from.other body) = block_shallow s body

  last_shallow : (s : Scope) (last : from.Other) → block_depth (bound_last s last) ≤ other_deep last
  last_shallow s from.no_other = omega arith
  last_shallow s (from.other body) = block_shallow s body

  clauses_shallow : (s : Scope) (clauses : from.Clauses) → clauses_depth (bound_clauses s clauses) ≤ clauses_deep clauses
  clauses_shallow s from.no_clause = omega arith
  clauses_shallow s (from.clause at labels body more) =
      let behind = with_locals s (locals_in_block body) in
      max_both (labels_depth (map (bound_label s) labels)) (max (block_depth (bound_block s body)) (clauses_depth (bound_clauses behind more))) (labels_deep labels) (max (block_deep body) (clauses_deep more))
      (labels_shallow s labels)
      (max_both (block_depth (bound_block s body)) (clauses_depth (bound_clauses behind more)) (block_deep body) (clauses_deep more) (block_shallow s body) (clauses_shallow behind more))

  pub block_shallow : (s : Scope) (block : from.Block) → block_depth (bound_block s block) ≤ block_deep block
  block_shallow s from.done = omega arith
  block_shallow s (from.then first more) =
      let behind = with_locals s (locals_in first) in
      let rest = block_shallow behind more in
      let whole = before_shallow s first (bound_block behind more) in
      behind_first (block_depth (bound_before s first (bound_block behind more))) (stmt_deep first) (block_depth (bound_block behind more)) (block_deep more) whole rest
