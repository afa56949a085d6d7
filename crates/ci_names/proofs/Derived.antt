-- What holds of each body that the grammar gives holds of each function of derived trees.
use Rattle.std.specs.Prelude.{◌≡◌, ℕ, zero, suc, ◌+◌, Bool, List, [], ◌∷◌, ◌++◌, Option, Some, None, is_some, slice_get}
use Rattle.std.proofs.Common.{sym, ap, subst}
use Rattle.std.proofs.lemmas.Bool.{true≢false}
use Rattle.ci_base.specs.declared.bounds.TheConstants.{MOST_LEVELS}
use Rattle.ci_tree.specs.declared.tree.TypeAt.{TypeAt}
use Rattle.ci_tree.specs.Tree as tree
use Rattle.ci_tree.specs.Tree.{Block, Item}
use Rattle.ci_tree.specs.Grammar as said
use Rattle.ci_tree.specs.Grammar.{AreAll, IsBody, IsDefinition, tree_body, tree_var, tree_others, after_var, tree_function, tree_definition, tree_file, after_definition}
use Rattle.ci_names.specs.Declarations.{Function, functions_in, functions_from}
use Rattle.ci_names.specs.Laws.{AreDerived}

-- it holds of each body that the grammar gives
abbrev pub OfBodies : (Block → Type 0) → Type 0
OfBodies P = (i : ℕ) (b : said.Body) → IsBody MOST_LEVELS b → P (tree_body i b)

-- it holds of the body of each function among the items
abbrev OfItems : (Block → Type 0) → List Item → Type 0
OfItems P [] = Unit {0}
OfItems P ((tree.function at name private gives params body) ∷ items) = P body × OfItems P items
OfItems P ((tree.variable at name global kind length first) ∷ items) = OfItems P items

items_append : (P : Block → Type 0) (is js : List Item) → OfItems P is → OfItems P js → OfItems P (is ++ js)
items_append P [] js h k = k
items_append P ((tree.function at name private gives params body) ∷ is) js h k = (h.0, items_append P is js h.1 k)
items_append P ((tree.variable at name global kind length first) ∷ is) js h k = items_append P is js h k

of_var : (P : Block → Type 0) (global : Bool) (kind : TypeAt) (i : ℕ) (v : said.Var) (items : List Item) → OfItems P items → OfItems P (tree_var global kind i v ∷ items)
of_var P global kind i (said.plain_var x) items h = h
of_var P global kind i (said.array_var x n) items h = h
of_var P global kind i (said.valued_var x v) items h = h

of_vars : (P : Block → Type 0) (global : Bool) (kind : TypeAt) (i : ℕ) (vs : List said.Var) → OfItems P (tree_others after_var (tree_var global kind) i vs)
of_vars P global kind i [] = tt
of_vars P global kind i (v ∷ vs) = of_var P global kind (suc i) v (tree_others after_var (tree_var global kind) (after_var (suc i) v) vs) (of_vars P global kind (after_var (suc i) v) vs)

of_function : (P : Block → Type 0) → OfBodies P → (private : Bool) (gives : Option TypeAt) (i : ℕ) (f : said.Function) → said.IsFunction MOST_LEVELS f → OfItems P (tree_function private gives i f ∷ [])
of_function P of private gives i (said.function x ps b) h = (of (suc (said.after_parameters (suc (suc (suc i))) ps)) b h, tt)

of_definition : (P : Block → Type 0) → OfBodies P → (i : ℕ) (d : said.Definition) → IsDefinition MOST_LEVELS d → OfItems P (tree_definition i d)
of_definition P of i said.blank h = tt
of_definition P of i (said.plain_function f) h = of_function P of _ _ i f h
of_definition P of i (said.typed_function t f) h = of_function P of _ _ (suc i) f h
of_definition P of i (said.seen_function p f) h = of_function P of _ _ (suc i) f h
of_definition P of i (said.seen_typed_function p t f) h = of_function P of _ _ (suc (suc i)) f h
of_definition P of i (said.variables t v vs) h = of_var P _ _ (suc i) v _ (of_vars P _ _ (after_var (suc i) v) vs)
of_definition P of i (said.scoped_variables g t v vs) h = of_var P _ _ (suc (suc i)) v _ (of_vars P _ _ (after_var (suc (suc i)) v) vs)

of_file : (P : Block → Type 0) → OfBodies P → (i : ℕ) (ds : List said.Definition) → AreAll (IsDefinition MOST_LEVELS) ds → OfItems P (tree_file i ds)
of_file P of i [] h = tt
of_file P of i (d ∷ ds) h = items_append P (tree_definition i d) (tree_file (after_definition i d) ds) (of_definition P of i d h.0) (of_file P of (after_definition i d) ds h.1)

abbrev OfFunctions : (Block → Type 0) → List Function → Type 0
OfFunctions P [] = Unit {0}
OfFunctions P (f ∷ fs) = P f.body × OfFunctions P fs

functions_append : (P : Block → Type 0) (fs gs : List Function) → OfFunctions P fs → OfFunctions P gs → OfFunctions P (fs ++ gs)
functions_append P [] gs h k = k
functions_append P (f ∷ fs) gs h k = (h.0, functions_append P fs gs h.1 k)

of_functions_in : (P : Block → Type 0) (file : ℕ) (items : List Item) → OfItems P items → OfFunctions P (functions_in file items)
of_functions_in P file [] h = tt
of_functions_in P file ((tree.function at name private gives params body) ∷ items) h = (h.0, of_functions_in P file items h.1)
of_functions_in P file ((tree.variable at name global kind length first) ∷ items) h = of_functions_in P file items h

of_functions_from : (P : Block → Type 0) → OfBodies P → (file : ℕ) (files : List (List Item)) → AreDerived files → OfFunctions P (functions_from file files)
of_functions_from P of file [] h = tt
of_functions_from P of file (items ∷ files) h =
    functions_append P (functions_in file items) (functions_from (file + 1) files)
    (of_functions_in P file items (subst (OfItems P) (sym h.0.1.means) (of_file P of 0 h.0.1.file h.0.1.within)))
    (of_functions_from P of (file + 1) files h.1)

at_function : (P : Block → Type 0) (fs : List Function) (n : ℕ) (f : Function) → OfFunctions P fs → slice_get fs n ≡ Some f → P f.body
at_function P [] n f h e = absurd (true≢false (sym (ap is_some e)))
at_function P (g ∷ gs) zero f h e = subst (λ o. P (body_or g o)) e h.0
  where
    body_or : Function → Option Function → Block
    body_or d None = d.body
    body_or d (Some x) = x.body
at_function P (g ∷ gs) (suc n) f h e = at_function P gs n f h.1 e

pub of_derived : (P : Block → Type 0) → OfBodies P → (files : List (List Item)) → AreDerived files → (n : ℕ) (f : Function) → slice_get (functions_from 0 files) n ≡ Some f → P f.body
of_derived P of files derived n f e = at_function P (functions_from 0 files) n f (of_functions_from P of 0 files derived) e
