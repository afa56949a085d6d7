-- What files declare, read one by one.
use Rattle.std.proofs.Common.{◌≡◌, ◌∙◌, ℕ, ◌+◌, ◌≤◌, ◌<◌, List, [], ◌∷◌, ◌++◌, map, length, take, get_or, refl, sym, ap, arith, append_assoc, All, subst}
use Rattle.std.proofs.lemmas.List.{map-append, take_more, length-take-le, length-map, append-nil}
use Rattle.ci_base.specs.declared.bounds.TheConstants.{MOST_TOKENS}
use Rattle.ci_tree.specs.Files.{IsFileTree}
use Rattle.std.proofs.lemmas.List.Sums.{sum_by-cons}
use Rattle.std.proofs.lemmas.List.Elements.{All-same, All-push}
use Rattle.ci_tree.specs.declared.tree.Item as code_item
use Rattle.ci_tree.specs.Nodes.{nodes, item_nodes}
use Rattle.ci_tree.specs.Seen.{item_of, items_of}
use Rattle.ci_tree.specs.Tree.{Item, function, variable}
use Rattle.ci_names.specs.Declarations.{Declared, functions_in, variables_in, functions_from, variables_from, declared_in}
use Rattle.std.proofs.Math.ListN.{get_or-map}
use Rattle.ci_tree.specs.Written.{IsShortItem}
use Rattle.ci_scopes.specs.Stands.{with_items}

functions_in-append : (file : ℕ) (xs ys : List Item) → functions_in file (xs ++ ys) ≡ functions_in file xs ++ functions_in file ys
functions_in-append file [] ys = refl
functions_in-append file ((function at name private gives params body) ∷ xs) ys =
    ap (λ fs. record { file = file; at = at; name = name; private = private; gives = gives; params = params; body = body } ∷ fs) (functions_in-append file xs ys)
functions_in-append file ((variable at name global kind size first) ∷ xs) ys = functions_in-append file xs ys

variables_in-append : (file : ℕ) (xs ys : List Item) → variables_in file (xs ++ ys) ≡ variables_in file xs ++ variables_in file ys
variables_in-append file [] ys = refl
variables_in-append file ((function at name private gives params body) ∷ xs) ys = variables_in-append file xs ys
variables_in-append file ((variable at name global kind size first) ∷ xs) ys =
    ap (λ vs. record { file = file; at = at; name = name; global = global; kind = kind; length = size; first = first } ∷ vs) (variables_in-append file xs ys)

-- items, and then more of the same file
with_items-append : (file : ℕ) (d : Declared) (xs ys : List Item) → with_items file (with_items file d xs) ys ≡ with_items file d (xs ++ ys)
with_items-append file d xs ys = λ i. record {
  functions = (append_assoc d.functions (functions_in file xs) (functions_in file ys) ∙ ap (λ fs. d.functions ++ fs) (sym (functions_in-append file xs ys))) i;
  variables = (append_assoc d.variables (variables_in file xs) (variables_in file ys) ∙ ap (λ vs. d.variables ++ vs) (sym (variables_in-append file xs ys))) i;
}

-- one item more of a file
pub with_items-more : (file : ℕ) (d : Declared) (xs : List code_item.Item) (i : ℕ) (x : code_item.Item) → i < length xs → x ≡ get_or xs i x →
    with_items file (with_items file d (items_of (take i xs))) (item_of x ∷ []) ≡ with_items file d (items_of (take (i + 1) xs))
with_items-more file d xs i x h e =
    with_items-append file d (items_of (take i xs)) (item_of x ∷ [])
    ∙ ap (with_items file d) (sym (ap items_of (take_more xs i x h) ∙ map-append item_of (take i xs) (get_or xs i x ∷ []) ∙ ap (λ y. items_of (take i xs) ++ item_of y ∷ []) (sym e)))

functions_from-push : (n : ℕ) (files : List (List Item)) (items : List Item) → functions_from n (files ++ items ∷ []) ≡ functions_from n files ++ functions_in (n + length files) items
functions_from-push n [] items =
    let e : n ≡ n + 0 = omega arith in
    append-nil (functions_in n items) ∙ ap (λ m. functions_in m items) e
functions_from-push n (f ∷ fs) items =
    let e : (n + 1) + length fs ≡ n + length (f ∷ fs) = omega arith in
    ap (λ rest. functions_in n f ++ rest) (functions_from-push (n + 1) fs items) ∙ sym (append_assoc (functions_in n f) (functions_from (n + 1) fs) (functions_in ((n + 1) + length fs) items))
    ∙ ap (λ m. (functions_in n f ++ functions_from (n + 1) fs) ++ functions_in m items) e

variables_from-push : (n : ℕ) (files : List (List Item)) (items : List Item) → variables_from n (files ++ items ∷ []) ≡ variables_from n files ++ variables_in (n + length files) items
variables_from-push n [] items =
    let e : n ≡ n + 0 = omega arith in
    append-nil (variables_in n items) ∙ ap (λ m. variables_in m items) e
variables_from-push n (f ∷ fs) items =
    let e : (n + 1) + length fs ≡ n + length (f ∷ fs) = omega arith in
    ap (λ rest. variables_in n f ++ rest) (variables_from-push (n + 1) fs items) ∙ sym (append_assoc (variables_in n f) (variables_from (n + 1) fs) (variables_in ((n + 1) + length fs) items))
    ∙ ap (λ m. (variables_in n f ++ variables_from (n + 1) fs) ++ variables_in m items) e

-- one file more
declared_in-push : (files : List (List Item)) (items : List Item) → with_items (length files) (declared_in files) items ≡ declared_in (files ++ items ∷ [])
declared_in-push files items =
    let e : length files ≡ 0 + length files = omega arith in
    λ i. record {
      functions = (ap (λ m. functions_from 0 files ++ functions_in m items) e ∙ sym (functions_from-push 0 files items)) i;
      variables = (ap (λ m. variables_from 0 files ++ variables_in m items) e ∙ sym (variables_from-push 0 files items)) i;
    }

-- one tree more of a list
pub declared_in-more : (trees : List (List code_item.Item)) (i : ℕ) (d tree : List code_item.Item) → i < length trees → tree ≡ get_or trees i d →
    with_items i (declared_in (map items_of (take i trees))) (items_of tree) ≡ declared_in (map items_of (take (i + 1) trees))
declared_in-more trees i d tree h e =
    let count : i ≡ length (map items_of (take i trees)) = sym (length-map (take i trees) items_of ∙ length-take-le i trees (omega arith)) in
    ap (λ n. with_items n (declared_in (map items_of (take i trees))) (items_of tree)) count ∙ declared_in-push (map items_of (take i trees)) (items_of tree)
    ∙ ap declared_in (ap (λ t. map items_of (take i trees) ++ items_of t ∷ []) e ∙ sym (map-append items_of (take i trees) (get_or trees i d ∷ [])) ∙ ap (map items_of) (sym (take_more trees i d h)))

-- a file has no more items than nodes
length-le-nodes : (tree : List Item) → length tree ≤ nodes tree
length-le-nodes [] = omega arith
length-le-nodes (x ∷ xs) = omega (arith, sum_by-cons item_nodes x xs, one_node x, length-le-nodes xs)
  where
    one_node : (y : Item) → 1 ≤ item_nodes y
    one_node (function at name private gives params body) = omega arith
    one_node (variable at name global kind size first) = omega arith

-- so it has at most so many
pub few_items : (items : List code_item.Item) → IsFileTree (items_of items) → length items ≤ MOST_TOKENS
few_items items is = omega (arith, length-map items item_of, length-le-nodes (items_of items), is.within)

-- an item of short ones is short
pub short_at : (items : List code_item.Item) (i : ℕ) (x : code_item.Item) → i < length items → x ≡ get_or items i x → All IsShortItem (items_of items) → IsShortItem (item_of x)
short_at items i x h e short =
    let within : i < length (items_of items) = omega (arith, length-map items item_of) in
    subst IsShortItem (get_or-map item_of items i x ∙ ap item_of (sym e)) (short i (item_of x) within)

-- the trees so far were kept, and so is this one
pub kept_more : (trees : List (List code_item.Item)) (i : ℕ) (tree items : List code_item.Item) → i < length trees → tree ≡ get_or trees i tree → items ≡ tree → IsFileTree (items_of items) →
    All IsFileTree (map items_of (take i trees)) → All IsFileTree (map items_of (take (i + 1) trees))
kept_more trees i tree items h is same kept so_far =
    let more : map items_of (take (i + 1) trees) ≡ map items_of (take i trees) ++ items_of items ∷ [] =
    ap (map items_of) (take_more trees i tree h) ∙ map-append items_of (take i trees) (get_or trees i tree ∷ []) ∙ ap (λ t. map items_of (take i trees) ++ items_of t ∷ []) (sym is ∙ sym same) in
    All-same IsFileTree _ _ more (All-push IsFileTree (map items_of (take i trees)) (items_of items) so_far kept)
