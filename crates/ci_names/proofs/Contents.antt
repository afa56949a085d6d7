-- What stands in a bound project: its names, texts, formats and calls.
use Rattle.std.specs.Prelude.{◌≡◌, refl, ℕ, zero, suc, ◌+◌, Bool, true, false, not, ◌&&◌, if◌then◌else◌, List, [], ◌∷◌, ◌++◌, length, map, Option, Some, None, is_some, slice_get, All}
use Rattle.std.specs.List.{list_all}
use Rattle.std.proofs.Common.{sym, ap, subst}
use Rattle.std.proofs.lemmas.Bool.{true≢false, le-leb}
use Rattle.std.proofs.lemmas.List.Elements.{All-nil, All-cons, All-head, All-tail, All-append, All-map, All-weaker}
use Rattle.ci_base.specs.declared.bounds.TheConstants.{MOST_TEXT_BYTES, MOST_HASHES}
use Rattle.ci_tree.specs.declared.token.TokenKind.TheVariants.{Name}
use Rattle.ci_tree.specs.declared.tree.Const.{Const}
use Rattle.ci_tree.specs.declared.tree.Const.TheVariants as const
use Rattle.ci_tree.specs.declared.tree.Param.{Param}
use Rattle.ci_tree.specs.Tree as tree
use Rattle.ci_tree.specs.Tree.{Item}
use Rattle.ci_tree.specs.Bound as to
use Rattle.ci_tree.specs.BoundTests.{Test, block_passes, texts_fit, formats_fit, reads_set}
use Rattle.ci_tree.specs.Files.{IsFileTree}
use Rattle.ci_tree.specs.Sound.{context_of}
use Rattle.ci_tree.specs.Tokens.{IsKept}
use Rattle.ci_tree.specs.Written.{IsShortFirst, IsShortParam, IsWrittenBlock, IsWrittenItem}
use Rattle.ci_tree.proofs.Written.{written_tree}
use Rattle.ci_names.specs.Declarations.{Function, Variable, Declared, each_behind, functions_in, variables_in, functions_from, variables_from, kind_of_type, taken, is_array, cells_of}
use Rattle.ci_names.specs.Scopes.{scope_of}
use Rattle.ci_names.specs.Faults.{function_faults}
use Rattle.ci_names.specs.Binding.{bound_function, bound_global, bound_declared}
use Rattle.ci_names.proofs.Free.{is_free}
use Rattle.ci_names.proofs.Leads.{both_true}
use Rattle.ci_names.proofs.CalledTests.{callee_passes}
use Rattle.ci_names.proofs.Nested.{all_at}
use Rattle.ci_names.proofs.Passing.{IsMild, Within, is_short_taken, is_short_called, block_pass}
use Rattle.ci_names.proofs.Whole.{member_at, function_body, function_stood, defaults_right}

-- Declarations of written sources

abbrev pub IsWrittenFunction : Function → Type 0
IsWrittenFunction f = IsKept (Name f.name) × All IsShortParam f.params × IsWrittenBlock f.body

abbrev pub IsWrittenVariable : Variable → Type 0
IsWrittenVariable v = IsKept (Name v.name) × IsShortFirst v.first

functions_written : (file : ℕ) (items : List Item) → All IsWrittenItem items → All IsWrittenFunction (functions_in file items)
functions_written file [] h = All-nil IsWrittenFunction
functions_written file ((tree.function at name private gives params body) ∷ items) h =
    All-cons IsWrittenFunction (record { file = file; at = at; name = name; private = private; gives = gives; params = params; body = body }) (functions_in file items)
    (All-head IsWrittenItem (tree.function at name private gives params body) items h)
    (functions_written file items (All-tail IsWrittenItem (tree.function at name private gives params body) items h))
functions_written file ((tree.variable at name global kind size first) ∷ items) h = functions_written file items (All-tail IsWrittenItem (tree.variable at name global kind size first) items h)

variables_written : (file : ℕ) (items : List Item) → All IsWrittenItem items → All IsWrittenVariable (variables_in file items)
variables_written file [] h = All-nil IsWrittenVariable
variables_written file ((tree.function at name private gives params body) ∷ items) h = variables_written file items (All-tail IsWrittenItem (tree.function at name private gives params body) items h)
variables_written file ((tree.variable at name global kind size first) ∷ items) h =
    All-cons IsWrittenVariable (record { file = file; at = at; name = name; global = global; kind = kind; length = size; first = first }) (variables_in file items)
    (All-head IsWrittenItem (tree.variable at name global kind size first) items h)
    (variables_written file items (All-tail IsWrittenItem (tree.variable at name global kind size first) items h))

pub all_functions : (file : ℕ) (files : List (List Item)) → All IsFileTree files → All IsWrittenFunction (functions_from file files)
all_functions file [] h = All-nil IsWrittenFunction
all_functions file (items ∷ files) h =
    All-append IsWrittenFunction (functions_in file items) (functions_from (file + 1) files) (functions_written file items (written_tree items (All-head IsFileTree items files h)))
    (all_functions (file + 1) files (All-tail IsFileTree items files h))

pub all_variables : (file : ℕ) (files : List (List Item)) → All IsFileTree files → All IsWrittenVariable (variables_from file files)
all_variables file [] h = All-nil IsWrittenVariable
all_variables file (items ∷ files) h =
    All-append IsWrittenVariable (variables_in file items) (variables_from (file + 1) files) (variables_written file items (written_tree items (All-head IsFileTree items files h)))
    (all_variables (file + 1) files (All-tail IsFileTree items files h))

-- Names

pub function_names : (d : Declared) → All IsWrittenFunction d.functions → All (λ (f : to.Function). IsKept (Name f.name)) (bound_declared d).functions
function_names d h = All-map (λ (f : to.Function). IsKept (Name f.name)) (bound_function d) d.functions (All-weaker IsWrittenFunction (λ (f : Function). IsKept (Name f.name)) (λ f is. is.0) d.functions h)

all_if : {A : Type 0} (P : A → Type 0) (b : Bool) (x : A) → P x → All P (if b then x ∷ [] else [])
all_if P true x h = All-cons P x [] h (All-nil P)
all_if P false x h = All-nil P

names_from : (before vs : List Variable) → All IsWrittenVariable vs → All (λ (g : to.Global). IsKept (Name g.name)) (each_behind bound_global before vs)
names_from before [] h = All-nil (λ (g : to.Global). IsKept (Name g.name))
names_from before (v ∷ vs) h =
    All-append (λ (g : to.Global). IsKept (Name g.name)) (bound_global before v) (each_behind bound_global (before ++ v ∷ []) vs)
    (all_if (λ (g : to.Global). IsKept (Name g.name)) (v.global && not (is_array v)) (record { name = v.name; cell = cells_of before }) (All-head IsWrittenVariable v vs h).0)
    (names_from (before ++ v ∷ []) vs (All-tail IsWrittenVariable v vs h))

pub global_names : (d : Declared) → All IsWrittenVariable d.variables → All (λ (g : to.Global). IsKept (Name g.name)) (bound_declared d).globals
global_names d h = names_from [] d.variables h

-- Texts, formats and calls

short_param : (p : Param) → IsShortParam p → is_short_taken (taken (kind_of_type p.kind.name) p.first) ≡ true
short_param p h = by_first (kind_of_type p.kind.name) p.first h
  where
    by_first : (kind : _) (first : Option Const) → IsShortFirst first → is_short_taken (taken kind first) ≡ true
    by_first kind None is = refl
    by_first kind (Some (const.Number at value)) is = refl
    by_first kind (Some (const.Literal at text)) is = le-leb (length text) MOST_TEXT_BYTES is

short_params : (ps : List Param) → All IsShortParam ps → list_all is_short_taken (map (λ (p : Param). taken (kind_of_type p.kind.name) p.first) ps) ≡ true
short_params [] h = refl
short_params (p ∷ ps) h =
    both_true (is_short_taken (taken (kind_of_type p.kind.name) p.first)) (list_all is_short_taken (map (λ (q : Param). taken (kind_of_type q.kind.name) q.first) ps))
    (short_param p (All-head IsShortParam p ps h)) (short_params ps (All-tail IsShortParam p ps h))

abbrev some_or : {A : Type 0} → A → Option A → A
some_or y None = y
some_or y (Some z) = z

-- what holds of all holds at each place
at_place : {A : Type 0} (P : A → Type 0) (xs : List A) (n : ℕ) (x : A) → All P xs → slice_get xs n ≡ Some x → P x
at_place P [] n x h e = absurd (true≢false (sym (ap is_some e)))
at_place P (y ∷ ys) zero x h e = subst (λ o. P (some_or y o)) e (All-head P y ys h)
at_place P (y ∷ ys) (suc n) x h e = at_place P ys n x (All-tail P y ys h) e

within : (t : Test) (d : Declared) → IsMild t → All IsWrittenFunction d.functions → Within t d
within t d mild h = record {
  mild = mild;
  short = callee_passes is_short_called d (λ n f e. short_params f.params (at_place IsWrittenFunction d.functions n f h e).1) refl;
}

-- a mild test passes the bodies of all functions
pub bodies_pass : (t : Test) (d : Declared) → IsMild t → is_free (each_behind (function_faults d) [] d.functions) ≡ true → All IsWrittenFunction d.functions →
    All (λ (f : to.Function). block_passes t f.body ≡ true) (bound_declared d).functions
bodies_pass t d mild free h =
    All-map (λ (f : to.Function). block_passes t f.body ≡ true) (bound_function d) d.functions
    (all_at (λ (f : Function). block_passes t (bound_function d f).body ≡ true) d.functions (λ n f e.
    let found = member_at (function_faults d) [] d.functions n f free e in
    block_pass t d (within t d mild h) (context_of (bound_declared d) (bound_function d f)) (scope_of d f) f.body [] (function_stood d f (defaults_right d free))
    (at_place IsWrittenFunction d.functions n f h e).2 (function_body d found.0 f found.1)))

pub texts_mild : IsMild texts_fit
texts_mild = record { literals = λ text h. le-leb (length text) MOST_TEXT_BYTES h; formats = λ count h. refl; calls = λ callee h. refl }

pub formats_mild : IsMild formats_fit
formats_mild = record { literals = λ text h. refl; formats = λ count h. both_true _ _ (le-leb 1 count h.0) (le-leb count MOST_HASHES h.1); calls = λ callee h. refl }

pub reads_mild : IsMild reads_set
reads_mild = record { literals = λ text h. refl; formats = λ count h. refl; calls = λ callee h. h }
