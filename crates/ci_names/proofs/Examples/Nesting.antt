-- How many levels are open at once in the functions of bound projects.
use Rattle.std.specs.Prelude.{◌≡◌, refl, ℕ, List, [], ◌∷◌, map, None, pos}
use Rattle.ci_tree.specs.declared.tree.Operator.TheVariants as operator
use Rattle.ci_tree.specs.Tree.{Item}
use Rattle.ci_tree.specs.Bound.{Function}
use Rattle.ci_tree.specs.Depth.{block_depth}
use Rattle.ci_tree.specs.LeftOut.{call_given}
use Rattle.ci_names.specs.Binding.{bound}
use Rattle.ci_names.proofs.Examples.Trees.{int, string, num, var, elem, call, minus, not, parens, chain, op, plain, valued, declare, assign, set_element, do_call, if_then, if_else, while, for, one, case, select, return, first_number, param_first, function, public_function, variable, variable_array}

-- the levels of each function of a project of one file
abbrev levels : List Item → List ℕ
levels file = map (λ (f : Function). block_depth f.body) (bound (file ∷ [])).functions

-- FUNCTION F() END FUNCTION G() IF 1 THEN IF 2 THEN RETURN; END END END FUNCTION H() IF 1 THEN ELSE WHILE 1 DO RETURN; END END END FUNCTION I() INT i; FOR i = 1 TO 2 DO SELECT CASE i CASE 1 WHILE 1 DO END END SELECT END END
levels_of_bodies : levels (function 1 "F" [] ∷ function 6 "G" (if_then 9 (num 10 1) (if_then 12 (num 13 2) (return 15 ∷ []) ∷ []) ∷ []) ∷ function 21 "H" (if_else 24 (num 25 1) [] (while 28 (num 29 1) (return 31 ∷ []) ∷ []) ∷ []) ∷ function 37 "I" (declare 40 (int 40) (plain 41 "i" ∷ []) ∷ for 43 44 "i" (num 46 1) (num 48 2) (select 50 (var 52 "i") (case 53 (one (num 54 1) ∷ []) (while 55 (num 56 1) [] ∷ []) ∷ []) ∷ []) ∷ []) ∷ []) ≡ (0 ∷ 2 ∷ 2 ∷ 3 ∷ [])
levels_of_bodies = refl

-- INT a[2]; INT b[2]; FUNCTION F() a[b[1]] = 2; END FUNCTION G() a[1] = b[0]; END FUNCTION H() INT i = a[b[1]]; i = NOT -(1); END FUNCTION I() IF a[1] < Max(-1, 2) THEN Max(1, 2); END END
levels_of_expressions : levels (variable_array 1 "a" (int 0) 3 (pos 2) ∷ variable_array 7 "b" (int 6) 9 (pos 2) ∷ function 13 "F" (set_element 16 "a" (elem 18 "b" (num 20 1)) 23 (num 24 2) ∷ []) ∷ function 28 "G" (set_element 31 "a" (num 33 1) 35 (elem 36 "b" (num 38 0)) ∷ []) ∷ function 43 "H" (declare 46 (int 46) (valued 47 "i" (elem 49 "a" (elem 51 "b" (num 53 1))) ∷ []) ∷ assign 57 "i" 58 (not 59 (minus 60 (parens 61 (num 62 1)))) ∷ []) ∷ function 67 "I" (if_then 70 (chain 71 75 (elem 71 "a" (num 73 1)) (op 75 operator.Less (call 76 "Max" (minus 78 (num 79 1) ∷ num 81 2 ∷ [])) ∷ [])) (do_call 84 "Max" (num 86 1 ∷ num 88 2 ∷ []) ∷ []) ∷ []) ∷ []) ≡ (2 ∷ 1 ∷ 2 ∷ 3 ∷ [])
unfolding call_given
levels_of_expressions = refl

-- INT n; STRING s; FUNCTION F(INT a = 1) F(); END FUNCTION G() QueRead(Abs(1), n, s, -1); TaskHnd(); END
levels_of_calls : levels (variable 1 "n" (int 0) ∷ variable 4 "s" (string 3) ∷ public_function 7 "F" None (param_first 10 "a" (int 9) (first_number 12 1) ∷ []) (do_call 14 "F" [] ∷ []) ∷ function 20 "G" (do_call 23 "QueRead" (call 25 "Abs" (num 27 1 ∷ []) ∷ var 30 "n" ∷ var 32 "s" ∷ minus 34 (num 35 1) ∷ []) ∷ do_call 38 "TaskHnd" [] ∷ []) ∷ []) ≡ (1 ∷ 2 ∷ [])
unfolding call_given
levels_of_calls = refl
