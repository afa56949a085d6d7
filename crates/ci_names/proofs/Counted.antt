-- A bound project has at most the nodes of its trees.
use Rattle.std.specs.Prelude.{◌≡◌, ℕ, ◌+◌, ◌≤◌, List, [], ◌∷◌, ◌++◌, length, map, sum_by}
use Rattle.std.proofs.Common.{sym, subst}
use Rattle.std.proofs.lemmas.List.{length-map}
use Rattle.std.proofs.lemmas.List.Sums.{sum_by-cons, sum_by-append}
use native.Mathlib.Omega.{arith}
use Rattle.ci_tree.specs.Tree as tree
use Rattle.ci_tree.specs.Tree.{Item}
use Rattle.ci_tree.specs.Bound.{Project}
use Rattle.ci_tree.specs.Nodes as source
use Rattle.ci_tree.specs.BoundNodes as made
use Rattle.ci_names.specs.Declarations.{Function, Declared, declared_in, functions_in, functions_from}
use Rattle.ci_names.specs.Scopes.{scope_of}
use Rattle.ci_names.specs.Binding.{bound_param, bound_function, bound_block, binds}
use Rattle.ci_names.proofs.Counts.{block_few}

-- the nodes of a function in its tree
abbrev declared_nodes : Function → ℕ
declared_nodes f = 1 + length f.params + source.block_nodes f.body

function_sum : (p q b x : ℕ) → p ≡ q → b ≤ x → 1 + p + b ≤ 1 + q + x
function_sum p q b x e h = omega arith

function_few : (d : Declared) (f : Function) → made.function_nodes (bound_function d f) ≤ declared_nodes f
function_few d f =
    function_sum (length (map bound_param f.params)) (length f.params) (made.block_nodes (bound_block (scope_of d f) f.body)) (source.block_nodes f.body) (length-map f.params bound_param) (block_few (scope_of d f) f.body)

-- one member more on both sides
both_more : (n a b m x y : ℕ) → n ≡ a + b → m ≡ x + y → a ≤ x → b ≤ y → n ≤ m
both_more n a b m x y e f h i = omega arith

functions_few : (d : Declared) (fs : List Function) → sum_by made.function_nodes (map (bound_function d) fs) ≤ sum_by declared_nodes fs
functions_few d [] = omega arith
functions_few d (f ∷ fs) =
    both_more (sum_by made.function_nodes (map (bound_function d) (f ∷ fs))) (made.function_nodes (bound_function d f)) (sum_by made.function_nodes (map (bound_function d) fs)) (sum_by declared_nodes (f ∷ fs)) (declared_nodes f) (sum_by declared_nodes fs)
    (sum_by-cons made.function_nodes (bound_function d f) (map (bound_function d) fs)) (sum_by-cons declared_nodes f fs) (function_few d f) (functions_few d fs)

-- the functions of a file have at most the nodes of its tree
same_more : (n a b m y : ℕ) → n ≡ a + b → m ≡ a + y → b ≤ y → n ≤ m
same_more n a b m y e f h = omega arith

variable_more : (n m y : ℕ) → m ≡ 1 + y → n ≤ y → n ≤ m
variable_more n m y e h = omega arith

items_few : (file : ℕ) (items : List Item) → sum_by declared_nodes (functions_in file items) ≤ source.nodes items
items_few file [] = omega arith
items_few file ((tree.function at name private gives params body) ∷ items) =
    let item = tree.function at name private gives params body in
    let f : Function = record { file = file; at = at; name = name; private = private; gives = gives; params = params; body = body } in
    same_more (sum_by declared_nodes (f ∷ functions_in file items)) (source.item_nodes item) (sum_by declared_nodes (functions_in file items)) (source.nodes (item ∷ items)) (source.nodes items)
    (sum_by-cons declared_nodes f (functions_in file items)) (sum_by-cons source.item_nodes item items) (items_few file items)
items_few file ((tree.variable at name global kind length first) ∷ items) =
    let item = tree.variable at name global kind length first in
    variable_more (sum_by declared_nodes (functions_in file items)) (source.nodes (item ∷ items)) (source.nodes items) (sum_by-cons source.item_nodes item items) (items_few file items)

files_few : (file : ℕ) (files : List (List Item)) → sum_by declared_nodes (functions_from file files) ≤ sum_by source.nodes files
files_few file [] = omega arith
files_few file (items ∷ files) =
    both_more (sum_by declared_nodes (functions_in file items ++ functions_from (file + 1) files)) (sum_by declared_nodes (functions_in file items)) (sum_by declared_nodes (functions_from (file + 1) files)) (sum_by source.nodes (items ∷ files)) (source.nodes items) (sum_by source.nodes files)
    (sum_by-append declared_nodes (functions_in file items) (functions_from (file + 1) files)) (sum_by-cons source.nodes items files) (items_few file items) (files_few (file + 1) files)

whole_sum : (n f k : ℕ) → n ≤ f → f ≤ k → n ≤ k
whole_sum n f k h i = omega arith

pub nodes_are_few : (files : List (List Item)) (project : Project) → binds files project → made.nodes project ≤ sum_by source.nodes files
nodes_are_few files project h =
    let d = declared_in files in
    let whole = whole_sum (sum_by made.function_nodes (map (bound_function d) d.functions)) (sum_by declared_nodes d.functions) (sum_by source.nodes files) (functions_few d d.functions) (files_few 0 files) in
    subst (λ (p : Project). made.nodes p ≤ sum_by source.nodes files) (sym h.1) whole
