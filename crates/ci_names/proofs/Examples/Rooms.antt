-- The rooms of functions: their locals, and the operands that stand at once.
use Rattle.std.specs.Prelude.{◌≡◌, refl, [], ◌∷◌, map, None, Some, pos}
use Rattle.ci_tree.specs.declared.tree.Operator.TheVariants as operator
use Rattle.ci_base.specs.declared.relation.Relation.TheVariants as relation
use Rattle.ci_tree.specs.Rooms.{room}
use Rattle.ci_tree.specs.LeftOut.{call_given}
use Rattle.ci_names.specs.Binding.{bound}
use Rattle.ci_names.proofs.Examples.Trees.{int, string, num, txt, var, elem, call, chain, op, form, plain, valued, declare, assign, set_element, do_call, if_then, if_else, while, for, range, compared, case, select, select_else, return, return_value, first_number, param, param_first, function, public_function, variable, variable_array}

-- FUNCTION Main() TraceMsg("hi"); END FUNCTION F() END FUNCTION G() WHILE 1 DO END END FUNCTION H(INT a) INT b; END FUNCTION I(INT a) INT b = 1; END
rooms_of_statements : map room (bound ((function 1 "Main" (do_call 4 "TraceMsg" (txt 6 "hi" ∷ []) ∷ []) ∷ function 11 "F" [] ∷ function 16 "G" (while 19 (num 20 1) [] ∷ []) ∷ public_function 25 "H" None (param 28 "a" (int 27) ∷ []) (declare 30 (int 30) (plain 31 "b" ∷ []) ∷ []) ∷ public_function 35 "I" None (param 38 "a" (int 37) ∷ []) (declare 40 (int 40) (valued 41 "b" (num 43 1) ∷ []) ∷ []) ∷ []) ∷ [])).functions ≡ (1 ∷ 1 ∷ 1 ∷ 3 ∷ 3 ∷ [])
unfolding call_given
rooms_of_statements = refl

-- FUNCTION F(INT a) a = 1 + 2; END FUNCTION G(INT a) a = 1 + 2 * 3; END FUNCTION H(INT a) a = 1 * 2 + 3 - 4; END FUNCTION I() TraceMsg(1:## + 2:#); END
room_of_sums : map room (bound ((public_function 1 "F" None (param 4 "a" (int 3) ∷ []) (assign 6 "a" 7 (chain 8 9 (num 8 1) (op 9 operator.Plus (num 10 2) ∷ [])) ∷ []) ∷ public_function 14 "G" None (param 17 "a" (int 16) ∷ []) (assign 19 "a" 20 (chain 21 22 (num 21 1) (op 22 operator.Plus (chain 23 24 (num 23 2) (op 24 operator.Times (num 25 3) ∷ [])) ∷ [])) ∷ []) ∷ public_function 29 "H" None (param 32 "a" (int 31) ∷ []) (assign 34 "a" 35 (chain 36 39 (chain 36 37 (num 36 1) (op 37 operator.Times (num 38 2) ∷ [])) (op 39 operator.Plus (num 40 3) ∷ op 41 operator.Minus (num 42 4) ∷ [])) ∷ []) ∷ function 46 "I" (do_call 49 "TraceMsg" (chain 51 54 (chain 51 52 (num 51 1) (form 52 2 ∷ [])) (op 54 operator.Plus (chain 55 56 (num 55 2) (form 56 1 ∷ [])) ∷ []) ∷ []) ∷ []) ∷ []) ∷ [])).functions ≡ (3 ∷ 4 ∷ 3 ∷ 2 ∷ [])
unfolding call_given
room_of_sums = refl

-- FUNCTION F() StrMid("a", 1, 2); END FUNCTION G() StrMid("a", 1, StrSearch(1, "b", "c")); END FUNCTION H() Max(Max(1, 2), 3); END FUNCTION I(INT a = 1) Max(1, 2); END FUNCTION J() SysTime(); END
room_of_calls : map room (bound ((function 1 "F" (do_call 4 "StrMid" (txt 6 "a" ∷ num 8 1 ∷ num 10 2 ∷ []) ∷ []) ∷ function 15 "G" (do_call 18 "StrMid" (txt 20 "a" ∷ num 22 1 ∷ call 24 "StrSearch" (num 26 1 ∷ txt 28 "b" ∷ txt 30 "c" ∷ []) ∷ []) ∷ []) ∷ function 36 "H" (do_call 39 "Max" (call 41 "Max" (num 43 1 ∷ num 45 2 ∷ []) ∷ num 48 3 ∷ []) ∷ []) ∷ public_function 53 "I" None (param_first 56 "a" (int 55) (first_number 58 1) ∷ []) (do_call 60 "Max" (num 62 1 ∷ num 64 2 ∷ []) ∷ []) ∷ function 69 "J" (do_call 72 "SysTime" [] ∷ []) ∷ []) ∷ [])).functions ≡ (3 ∷ 5 ∷ 2 ∷ 3 ∷ 1 ∷ [])
unfolding call_given
room_of_calls = refl

-- FUNCTION F(INT a, INT b = 1, INT c = 2) F(0); END FUNCTION G() F(0); END
room_of_defaults : map room (bound ((public_function 1 "F" None (param 4 "a" (int 3) ∷ param_first 7 "b" (int 6) (first_number 9 1) ∷ param_first 12 "c" (int 11) (first_number 14 2) ∷ []) (do_call 16 "F" (num 18 0 ∷ []) ∷ []) ∷ function 23 "G" (do_call 26 "F" (num 28 0 ∷ []) ∷ []) ∷ []) ∷ [])).functions ≡ (6 ∷ 3 ∷ [])
unfolding call_given
room_of_defaults = refl

-- INT n; STRING s; FUNCTION F() INT a; STRING t; QueRead(1, a, t, 0); END FUNCTION G() INT a; STRING t; QueRead(1, a, t, 1 + a); END FUNCTION H() QueRead(Max(1, Max(1, Max(1, 2))), n, s, 0); END
room_of_reads : map room (bound ((variable 1 "n" (int 0) ∷ variable 4 "s" (string 3) ∷ function 7 "F" (declare 10 (int 10) (plain 11 "a" ∷ []) ∷ declare 13 (string 13) (plain 14 "t" ∷ []) ∷ do_call 16 "QueRead" (num 18 1 ∷ var 20 "a" ∷ var 22 "t" ∷ num 24 0 ∷ []) ∷ []) ∷ function 29 "G" (declare 32 (int 32) (plain 33 "a" ∷ []) ∷ declare 35 (string 35) (plain 36 "t" ∷ []) ∷ do_call 38 "QueRead" (num 40 1 ∷ var 42 "a" ∷ var 44 "t" ∷ chain 46 47 (num 46 1) (op 47 operator.Plus (var 48 "a") ∷ []) ∷ []) ∷ []) ∷ function 53 "H" (do_call 56 "QueRead" (call 58 "Max" (num 60 1 ∷ call 62 "Max" (num 64 1 ∷ call 66 "Max" (num 68 1 ∷ num 70 2 ∷ []) ∷ []) ∷ []) ∷ var 75 "n" ∷ var 77 "s" ∷ num 79 0 ∷ []) ∷ []) ∷ []) ∷ [])).functions ≡ (4 ∷ 5 ∷ 4 ∷ [])
unfolding call_given
room_of_reads = refl

-- INT a[2]; FUNCTION F() a[1] = 2; END FUNCTION G() a[1] = 1 + 2; END FUNCTION H() TraceMsg("a"); END FUNCTION I() a[1 + a[0]] = 1; END
room_of_elements : map room (bound ((variable_array 1 "a" (int 0) 3 (pos 2) ∷ function 7 "F" (set_element 10 "a" (num 12 1) 14 (num 15 2) ∷ []) ∷ function 19 "G" (set_element 22 "a" (num 24 1) 26 (chain 27 28 (num 27 1) (op 28 operator.Plus (num 29 2) ∷ [])) ∷ []) ∷ function 33 "H" (do_call 36 "TraceMsg" (txt 38 "a" ∷ []) ∷ []) ∷ function 43 "I" (set_element 46 "a" (chain 48 49 (num 48 1) (op 49 operator.Plus (elem 50 "a" (num 52 0)) ∷ [])) 55 (num 56 1) ∷ []) ∷ []) ∷ [])).functions ≡ (2 ∷ 3 ∷ 1 ∷ 2 ∷ [])
unfolding call_given
room_of_elements = refl

-- FUNCTION F() INT i; FOR i = 1 TO 2 DO END END FUNCTION G() INT i; FOR i = 1 TO 2 DO FOR i = 1 TO 2 DO FOR i = 1 TO 2 DO StrMid("a", 1, Max(1, 2)); END END END END FUNCTION H() INT i; FOR i = 1 TO Max(1, 2) DO i = 1; END END FUNCTION I() INT i; FOR i = 1 TO Max(1, Max(1, Max(2, 3))) DO END END
room_of_loops : map room (bound ((function 1 "F" (declare 4 (int 4) (plain 5 "i" ∷ []) ∷ for 7 8 "i" (num 10 1) (num 12 2) [] ∷ []) ∷ function 17 "G" (declare 20 (int 20) (plain 21 "i" ∷ []) ∷ for 23 24 "i" (num 26 1) (num 28 2) (for 30 31 "i" (num 33 1) (num 35 2) (for 37 38 "i" (num 40 1) (num 42 2) (do_call 44 "StrMid" (txt 46 "a" ∷ num 48 1 ∷ call 50 "Max" (num 52 1 ∷ num 54 2 ∷ []) ∷ []) ∷ []) ∷ []) ∷ []) ∷ []) ∷ function 63 "H" (declare 66 (int 66) (plain 67 "i" ∷ []) ∷ for 69 70 "i" (num 72 1) (call 74 "Max" (num 76 1 ∷ num 78 2 ∷ [])) (assign 81 "i" 82 (num 83 1) ∷ []) ∷ []) ∷ function 88 "I" (declare 91 (int 91) (plain 92 "i" ∷ []) ∷ for 94 95 "i" (num 97 1) (call 99 "Max" (num 101 1 ∷ call 103 "Max" (num 105 1 ∷ call 107 "Max" (num 109 2 ∷ num 111 3 ∷ []) ∷ []) ∷ [])) [] ∷ []) ∷ []) ∷ [])).functions ≡ (5 ∷ 8 ∷ 5 ∷ 6 ∷ [])
unfolding call_given
room_of_loops = refl

-- FUNCTION F() SELECT CASE 1 CASE 1 TO 2 END SELECT END FUNCTION G() SELECT CASE 1 CASE 1 TO Max(2, 3) END SELECT END FUNCTION H() SELECT CASE 1 CASE IS < 2 RETURN; CASE ELSE END SELECT END FUNCTION I() SELECT CASE 1 CASE ELSE TraceMsg("a"); END SELECT END FUNCTION J() SELECT CASE Max(1, 2) END SELECT END
room_of_clauses : map room (bound ((function 1 "F" (select 4 (num 6 1) (case 7 (range (num 8 1) (num 10 2) ∷ []) [] ∷ []) ∷ []) ∷ function 15 "G" (select 18 (num 20 1) (case 21 (range (num 22 1) (call 24 "Max" (num 26 2 ∷ num 28 3 ∷ [])) ∷ []) [] ∷ []) ∷ []) ∷ function 34 "H" (select_else 37 (num 39 1) (case 40 (compared 41 relation.Less (num 43 2) ∷ []) (return 44 ∷ []) ∷ []) [] ∷ []) ∷ function 52 "I" (select_else 55 (num 57 1) [] (do_call 60 "TraceMsg" (txt 62 "a" ∷ []) ∷ []) ∷ []) ∷ function 69 "J" (select 72 (call 74 "Max" (num 76 1 ∷ num 78 2 ∷ [])) [] ∷ []) ∷ []) ∷ [])).functions ≡ (4 ∷ 5 ∷ 3 ∷ 1 ∷ 2 ∷ [])
unfolding call_given
room_of_clauses = refl

-- FUNCTION F() IF 1 THEN ELSE StrMid("a", 1, 2); END END FUNCTION G() IF 1 < 2 THEN END END STRING FUNCTION H() RETURN StrMid("a", 1, 2); END
room_of_branches : map room (bound ((function 1 "F" (if_else 4 (num 5 1) [] (do_call 8 "StrMid" (txt 10 "a" ∷ num 12 1 ∷ num 14 2 ∷ []) ∷ []) ∷ []) ∷ function 20 "G" (if_then 23 (chain 24 25 (num 24 1) (op 25 operator.Less (num 26 2) ∷ [])) [] ∷ []) ∷ public_function 32 "H" (Some (string 30)) [] (return_value 35 (call 36 "StrMid" (txt 38 "a" ∷ num 40 1 ∷ num 42 2 ∷ [])) ∷ []) ∷ []) ∷ [])).functions ≡ (3 ∷ 2 ∷ 3 ∷ [])
unfolding call_given
room_of_branches = refl
