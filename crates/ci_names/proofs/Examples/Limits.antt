-- The limits, at their number and one past it.
use Rattle.std.specs.Prelude.{◌≡◌, ℕ, refl, [], ◌∷◌, zero, suc, false, replicate, codes, List, ◌+◌, ◌*◌, None, pos, negsuc}
use Rattle.ci_names.specs.declared.fault.BindKind.TheVariants as kinds
use Rattle.ci_names.specs.declared.fault.Limit.TheVariants as limits
use Rattle.ci_tree.specs.Tree as tree
use Rattle.ci_tree.specs.declared.tree.Param.{Param}
use Prim.Native.String.{String}
use Rattle.ci_names.specs.Faults.{faults, function_faults}
use Rattle.ci_names.specs.Fault.{Fault}
use Rattle.ci_names.specs.Declarations.{Function, declared_in}
use Rattle.ci_tree.specs.Tree.{Block, Item}
use Rattle.ci_names.proofs.Examples.Trees.{fault, int, string, num, plain, variable, variable_array, global}

-- Lengths of arrays

-- INT a[1]; INT b[TRUE];
least_length : faults ((variable_array 1 "a" (int 0) 3 (pos 1) ∷ variable_array 7 "b" (int 6) 9 (pos 1) ∷ []) ∷ []) ≡ []
least_length = refl

-- INT a[0]; INT b[FALSE];
no_length : faults ((variable_array 1 "a" (int 0) 3 (pos 0) ∷ variable_array 7 "b" (int 6) 9 (pos 0) ∷ []) ∷ []) ≡ (fault 0 3 (kinds.Limit limits.Array) ∷ fault 0 9 (kinds.Limit limits.Array) ∷ [])
no_length = refl

-- INT a[100000];
greatest_length : faults ((variable_array 1 "a" (int 0) 3 (pos 100000) ∷ []) ∷ []) ≡ []
greatest_length = refl

-- INT a[100001];
length_too_great : faults ((variable_array 1 "a" (int 0) 3 (pos 100001) ∷ []) ∷ []) ≡ (fault 0 3 (kinds.Limit limits.Array) ∷ [])
length_too_great = refl

-- INT a[0xFFFFFFFF]; STRING b[2147483648];
negative_length : faults ((variable_array 1 "a" (int 0) 3 (negsuc 0) ∷ variable_array 7 "b" (string 6) 9 (negsuc 2147483647) ∷ []) ∷ []) ≡ (fault 0 3 (kinds.Limit limits.Array) ∷ fault 0 9 (kinds.Limit limits.Array) ∷ [])
negative_length = refl

-- Cells of all variables

-- INT a[99999]; STRING b;
all_cells : faults ((variable_array 1 "a" (int 0) 3 (pos 99999) ∷ variable 7 "b" (string 6) ∷ []) ∷ []) ≡ []
all_cells = refl

-- INT a[100000]; STRING b;
one_cell_too_many : faults ((variable_array 1 "a" (int 0) 3 (pos 100000) ∷ variable 7 "b" (string 6) ∷ []) ∷ []) ≡ (fault 0 7 (kinds.Limit limits.Cells) ∷ [])
one_cell_too_many = refl

-- INT a[60000]; INT b[60000]; INT c; INT d[2];
only_the_one_that_passes : faults ((variable_array 1 "a" (int 0) 3 (pos 60000) ∷ variable_array 7 "b" (int 6) 9 (pos 60000) ∷ variable 13 "c" (int 12) ∷ variable_array 16 "d" (int 15) 18 (pos 2) ∷ []) ∷ []) ≡ (fault 0 7 (kinds.Limit limits.Cells) ∷ [])
only_the_one_that_passes = refl

-- a.ci: INT a[100000];
-- b.ci: GLOBAL INT b;
cells_of_two_files : faults ((variable_array 1 "a" (int 0) 3 (pos 100000) ∷ []) ∷ (global 2 "b" (int 1) ∷ []) ∷ []) ≡ (fault 1 2 (kinds.Limit limits.Cells) ∷ [])
cells_of_two_files = refl

-- INT a[100001]; INT b[100000];
refused_length_has_no_cells : faults ((variable_array 1 "a" (int 0) 3 (pos 100001) ∷ variable_array 7 "b" (int 6) 9 (pos 100000) ∷ []) ∷ []) ≡ (fault 0 3 (kinds.Limit limits.Array) ∷ [])
refused_length_has_no_cells = refl

-- INT a[100000]; INT b[0]; INT c;
no_cell_is_left_for_a_refused_length : faults ((variable_array 1 "a" (int 0) 3 (pos 100000) ∷ variable_array 7 "b" (int 6) 9 (pos 0) ∷ variable 13 "c" (int 12) ∷ []) ∷ []) ≡ (fault 0 9 (kinds.Limit limits.Array) ∷ fault 0 13 (kinds.Limit limits.Cells) ∷ [])
no_cell_is_left_for_a_refused_length = refl

-- INT a[100000]; INT a;
limit_beside_another_fault : faults ((variable_array 1 "a" (int 0) 3 (pos 100000) ∷ variable 7 "a" (int 6) ∷ []) ∷ []) ≡ (fault 0 7 kinds.DeclaredTwice ∷ fault 0 7 (kinds.Limit limits.Cells) ∷ [])
limit_beside_another_fault = refl

-- Parameters

-- so many parameters from the one of this number on; each has a name of its own
abbrev params_from : ℕ → ℕ → List Param
params_from k zero = []
params_from k (suc n) = record { at = 4 + 3 * k; name = replicate (k + 1) 97; kind = int (3 + 3 * k); first = None } ∷ params_from (k + 1) n

-- FUNCTION F(INT a, INT aa, ..) END
abbrev with_params : ℕ → List (List Item)
with_params n = (tree.function 1 (codes "F") false None (params_from 0 n) tree.done ∷ []) ∷ []

params_16 : faults (with_params 16) ≡ []
params_16 = refl

params_17 : faults (with_params 17) ≡ (fault 0 52 (kinds.Limit limits.Parameters) ∷ [])
params_17 = refl

-- the 17th alone passes it
params_18 : faults (with_params 18) ≡ (fault 0 52 (kinds.Limit limits.Parameters) ∷ [])
params_18 = refl

-- the 65th is a local too many
params_65 : faults (with_params 65) ≡ (fault 0 52 (kinds.Limit limits.Parameters) ∷ fault 0 196 (kinds.Limit limits.Locals) ∷ [])
params_65 = refl

-- Locals

-- so many declarations from the one of this number on, before the rest
abbrev locals_from : ℕ → ℕ → Block → Block
locals_from k zero rest = rest
locals_from k (suc n) rest = tree.then (tree.declare (4 + 3 * k) (int (4 + 3 * k)) (record { at = 5 + 3 * k; name = replicate (k + 1) 98; value = None } ∷ [])) (locals_from (k + 1) n rest)

-- FUNCTION F() INT b; INT bb; .. END
abbrev with_locals : ℕ → List (List Item)
with_locals n = (tree.function 1 (codes "F") false None [] (locals_from 0 n tree.done) ∷ []) ∷ []

locals_64 : faults (with_locals 64) ≡ []
locals_64 = refl

locals_65 : faults (with_locals 65) ≡ (fault 0 197 (kinds.Limit limits.Locals) ∷ [])
locals_65 = refl

-- the 65th alone passes it
locals_66 : faults (with_locals 66) ≡ (fault 0 197 (kinds.Limit limits.Locals) ∷ [])
locals_66 = refl

-- FUNCTION F(INT a, INT aa, ..) INT b; INT bb; .. END, as if its declarations began at token 4
abbrev with_both : ℕ → ℕ → List (List Item)
with_both m n = (tree.function 1 (codes "F") false None (params_from 0 m) (locals_from 0 n tree.done) ∷ []) ∷ []

params_and_locals_64 : faults (with_both 16 48) ≡ []
params_and_locals_64 = refl

params_and_locals_65 : faults (with_both 16 49) ≡ (fault 0 149 (kinds.Limit limits.Locals) ∷ [])
params_and_locals_65 = refl

-- FUNCTION F() IF 1 THEN INT b; INT bb; .. END INT c; END, with the last declaration at token 1000
abbrev with_body : ℕ → List (List Item)
with_body n =
    (tree.function 1 (codes "F") false None [] (tree.then (tree.choose 4 (num 5 1) (locals_from 1 n tree.done) tree.no_other) (tree.then (tree.declare 1000 (int 1000) (plain 1001 "c" ∷ [])) tree.done)) ∷ []) ∷ []

body_and_behind_64 : faults (with_body 63) ≡ []
body_and_behind_64 = refl

body_and_behind_65 : faults (with_body 64) ≡ (fault 0 1001 (kinds.Limit limits.Locals) ∷ [])
body_and_behind_65 = refl

-- Functions. All 1,001 of them are too many to write; what is shown is the rule at one, given those before it.

abbrev empty_function : String → Function
empty_function name = record { file = 0; at = 7; name = codes name; private = false; gives = None; params = []; body = tree.done }

abbrev behind : ℕ → List Fault
behind n = function_faults (declared_in []) (replicate n (empty_function "F")) (empty_function "G")

functions_1000 : behind 999 ≡ []
functions_1000 = refl

functions_1001 : behind 1000 ≡ (fault 0 7 (kinds.Limit limits.Functions) ∷ [])
functions_1001 = refl

-- the 1,001st alone passes it
functions_1002 : behind 1001 ≡ []
functions_1002 = refl
