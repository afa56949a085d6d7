-- How many nodes trees have, and the functions that are bound from them.
use Rattle.std.specs.Prelude.{◌≡◌, refl, ℕ, List, [], ◌∷◌, map, None, Some}
use Rattle.ci_tree.specs.declared.tree.Operator.TheVariants as operator
use Rattle.ci_tree.specs.Tree.{Item}
use Rattle.ci_tree.specs.Nodes as source
use Rattle.ci_tree.specs.BoundNodes as made
use Rattle.ci_tree.specs.LeftOut.{call_given}
use Rattle.ci_names.specs.Binding.{bound}
use Rattle.ci_names.proofs.Examples.Trees.{int, string, num, var, minus, chain, op, plain, valued, declare, assign, do_call, if_else, while, for, range, case, select_else, return, return_value, first_number, param, param_first, function, public_function, variable}

-- the nodes of each function of a project of one file
abbrev counts : List Item → List ℕ
counts file = map made.function_nodes (bound (file ∷ [])).functions

-- FUNCTION F(INT a, INT b = 1, INT c = 2) F(0); END FUNCTION G() F(0, 3); TaskHnd(); END INT n; STRING s; FUNCTION H() QueRead(1, n, s, 0); END
abbrev calls : List Item
calls = public_function 1 "F" None (param 4 "a" (int 3) ∷ param_first 7 "b" (int 6) (first_number 9 1) ∷ param_first 12 "c" (int 11) (first_number 14 2) ∷ []) (do_call 16 "F" (num 18 0 ∷ []) ∷ []) ∷ function 23 "G" (do_call 26 "F" (num 28 0 ∷ num 30 3 ∷ []) ∷ do_call 33 "TaskHnd" [] ∷ []) ∷ variable 39 "n" (int 38) ∷ variable 42 "s" (string 41) ∷ function 45 "H" (do_call 48 "QueRead" (num 50 1 ∷ var 52 "n" ∷ var 54 "s" ∷ num 56 0 ∷ []) ∷ []) ∷ []

-- the arguments that are left out don't count where names are replaced
nodes_of_calls : counts calls ≡ (6 ∷ 5 ∷ 6 ∷ [])
unfolding call_given
nodes_of_calls = refl

nodes_of_the_tree : source.nodes calls ≡ 19
nodes_of_the_tree = refl

nodes_of_the_project : made.nodes (bound (calls ∷ [])) ≡ 17
unfolding call_given
nodes_of_the_project = refl

-- FUNCTION F() INT i; INT j = 1, k = i; RETURN; END INT FUNCTION G() RETURN -1 + 2 * 3; END
nodes_of_locals : counts (function 1 "F" (declare 4 (int 4) (plain 5 "i" ∷ []) ∷ declare 7 (int 7) (valued 8 "j" (num 10 1) ∷ valued 12 "k" (var 14 "i") ∷ []) ∷ return 16 ∷ []) ∷ public_function 21 "G" (Some (int 19)) [] (return_value 24 (chain 25 27 (minus 25 (num 26 1)) (op 27 operator.Plus (chain 28 29 (num 28 2) (op 29 operator.Times (num 30 3) ∷ [])) ∷ [])) ∷ []) ∷ []) ≡ (6 ∷ 7 ∷ [])
nodes_of_locals = refl

-- FUNCTION F() SELECT CASE 1 CASE 1 TO 2 RETURN; CASE ELSE RETURN; END SELECT END FUNCTION G() INT i; FOR i = 1 TO 2 DO IF i THEN i = 1; ELSE WHILE i DO END END END END
nodes_of_bodies : counts (function 1 "F" (select_else 4 (num 6 1) (case 7 (range (num 8 1) (num 10 2) ∷ []) (return 11 ∷ []) ∷ []) (return 15 ∷ []) ∷ []) ∷ function 21 "G" (declare 24 (int 24) (plain 25 "i" ∷ []) ∷ for 27 28 "i" (num 30 1) (num 32 2) (if_else 34 (var 35 "i") (assign 37 "i" 38 (num 39 1) ∷ []) (while 42 (var 43 "i") [] ∷ []) ∷ []) ∷ []) ∷ []) ≡ (8 ∷ 10 ∷ [])
nodes_of_bodies = refl
