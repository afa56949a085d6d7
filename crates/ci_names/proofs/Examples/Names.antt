-- Which names are declared twice, are seen, and are of the other sort.
use Rattle.std.specs.Prelude.{◌≡◌, refl, [], ◌∷◌, None, Some, pos}
use Rattle.ci_tree.specs.declared.tree.Operator.TheVariants as operator
use Rattle.ci_base.specs.declared.relation.Relation.TheVariants as relation
use Rattle.ci_names.specs.declared.fault.BindKind.TheVariants as kinds
use Rattle.ci_names.specs.Faults.{faults}
use Rattle.ci_names.proofs.Examples.Trees.{fault, int, string, num, var, elem, call, chain, op, plain, valued, declare, assign, set_element, do_call, if_else, while, for, one, range, compared, case, select_else, return, return_value, param, function, public_function, private_function, variable, variable_array, global}

-- Declared twice: locals

-- FUNCTION Main() INT a; INT a; END
two_locals : faults ((function 1 "Main" (declare 4 (int 4) (plain 5 "a" ∷ []) ∷ declare 7 (int 7) (plain 8 "a" ∷ []) ∷ []) ∷ []) ∷ []) ≡ (fault 0 8 kinds.DeclaredTwice ∷ [])
two_locals = refl

-- FUNCTION Main() INT a, a; END
two_locals_of_one_declaration : faults ((function 1 "Main" (declare 4 (int 4) (plain 5 "a" ∷ plain 7 "a" ∷ []) ∷ []) ∷ []) ∷ []) ≡ (fault 0 7 kinds.DeclaredTwice ∷ [])
two_locals_of_one_declaration = refl

-- FUNCTION Main() INT Level; STRING lEVEL; END
two_locals_of_other_case : faults ((function 1 "Main" (declare 4 (int 4) (plain 5 "Level" ∷ []) ∷ declare 7 (string 7) (plain 8 "lEVEL" ∷ []) ∷ []) ∷ []) ∷ []) ≡ (fault 0 8 kinds.DeclaredTwice ∷ [])
two_locals_of_other_case = refl

-- FUNCTION Main() INT a, a; STRING a; END
each_later_local : faults ((function 1 "Main" (declare 4 (int 4) (plain 5 "a" ∷ plain 7 "a" ∷ []) ∷ declare 9 (string 9) (plain 10 "a" ∷ []) ∷ []) ∷ []) ∷ []) ≡ (fault 0 7 kinds.DeclaredTwice ∷ fault 0 10 kinds.DeclaredTwice ∷ [])
each_later_local = refl

-- FUNCTION F(INT a) INT a; END
local_named_as_a_parameter : faults ((public_function 1 "F" None (param 4 "a" (int 3) ∷ []) (declare 6 (int 6) (plain 7 "a" ∷ []) ∷ []) ∷ []) ∷ []) ≡ (fault 0 7 kinds.DeclaredTwice ∷ [])
local_named_as_a_parameter = refl

-- FUNCTION F(INT a, STRING A) END
two_parameters : faults ((public_function 1 "F" None (param 4 "a" (int 3) ∷ param 7 "A" (string 6) ∷ []) [] ∷ []) ∷ []) ≡ (fault 0 7 kinds.DeclaredTwice ∷ [])
two_parameters = refl

-- FUNCTION Main() IF 1 THEN INT a; ELSE INT a; END END
locals_of_two_bodies : faults ((function 1 "Main" (if_else 4 (num 5 1) (declare 7 (int 7) (plain 8 "a" ∷ []) ∷ []) (declare 11 (int 11) (plain 12 "a" ∷ []) ∷ []) ∷ []) ∷ []) ∷ []) ≡ (fault 0 12 kinds.DeclaredTwice ∷ [])
locals_of_two_bodies = refl

-- FUNCTION Main() WHILE 1 DO INT a; END INT a; END
locals_of_a_body_and_behind_it : faults ((function 1 "Main" (while 4 (num 5 1) (declare 7 (int 7) (plain 8 "a" ∷ []) ∷ []) ∷ declare 11 (int 11) (plain 12 "a" ∷ []) ∷ []) ∷ []) ∷ []) ≡ (fault 0 12 kinds.DeclaredTwice ∷ [])
locals_of_a_body_and_behind_it = refl

-- FUNCTION Main() SELECT CASE 1 CASE 1 INT a; CASE 2 INT a; CASE ELSE INT a; END SELECT END
locals_of_clauses : faults ((function 1 "Main" (select_else 4 (num 6 1) (case 7 (one (num 8 1) ∷ []) (declare 9 (int 9) (plain 10 "a" ∷ []) ∷ []) ∷ case 12 (one (num 13 2) ∷ []) (declare 14 (int 14) (plain 15 "a" ∷ []) ∷ []) ∷ []) (declare 19 (int 19) (plain 20 "a" ∷ []) ∷ []) ∷ []) ∷ []) ∷ []) ≡ (fault 0 15 kinds.DeclaredTwice ∷ fault 0 20 kinds.DeclaredTwice ∷ [])
locals_of_clauses = refl

-- FUNCTION F(INT a) INT b; END FUNCTION G(INT a) INT b; END
locals_of_two_functions : faults ((public_function 1 "F" None (param 4 "a" (int 3) ∷ []) (declare 6 (int 6) (plain 7 "b" ∷ []) ∷ []) ∷ public_function 11 "G" None (param 14 "a" (int 13) ∷ []) (declare 16 (int 16) (plain 17 "b" ∷ []) ∷ []) ∷ []) ∷ []) ≡ []
locals_of_two_functions = refl

-- INT a; FUNCTION F() INT a; END
local_named_as_a_variable : faults ((variable 1 "a" (int 0) ∷ function 4 "F" (declare 7 (int 7) (plain 8 "a" ∷ []) ∷ []) ∷ []) ∷ []) ≡ []
local_named_as_a_variable = refl

-- Declared twice: variables

-- INT a; INT a;
two_variables : faults ((variable 1 "a" (int 0) ∷ variable 4 "a" (int 3) ∷ []) ∷ []) ≡ (fault 0 4 kinds.DeclaredTwice ∷ [])
two_variables = refl

-- STRING a, A;
two_variables_of_one_declaration : faults ((variable 1 "a" (string 0) ∷ variable 3 "A" (string 0) ∷ []) ∷ []) ≡ (fault 0 3 kinds.DeclaredTwice ∷ [])
two_variables_of_one_declaration = refl

-- GLOBAL INT a; MODULE INT a;
module_and_global_of_one_file : faults ((global 2 "a" (int 1) ∷ variable 6 "a" (int 5) ∷ []) ∷ []) ≡ (fault 0 6 kinds.DeclaredTwice ∷ [])
module_and_global_of_one_file = refl

-- INT a[2]; INT a;
array_and_scalar : faults ((variable_array 1 "a" (int 0) 3 (pos 2) ∷ variable 7 "a" (int 6) ∷ []) ∷ []) ≡ (fault 0 7 kinds.DeclaredTwice ∷ [])
array_and_scalar = refl

-- a.ci: GLOBAL INT a;
-- b.ci: GLOBAL STRING a;
two_globals_of_two_files : faults ((global 2 "a" (int 1) ∷ []) ∷ (global 2 "a" (string 1) ∷ []) ∷ []) ≡ (fault 1 2 kinds.DeclaredTwice ∷ [])
two_globals_of_two_files = refl

-- a.ci: INT a;
-- b.ci: INT a;
modules_of_two_files : faults ((variable 1 "a" (int 0) ∷ []) ∷ (variable 1 "a" (int 0) ∷ []) ∷ []) ≡ []
modules_of_two_files = refl

-- a.ci: GLOBAL INT a;
-- b.ci: INT a;
global_and_module_of_two_files : faults ((global 2 "a" (int 1) ∷ []) ∷ (variable 1 "a" (int 0) ∷ []) ∷ []) ≡ []
global_and_module_of_two_files = refl

-- Declared twice: functions

-- FUNCTION F() END FUNCTION f() END
two_functions : faults ((function 1 "F" [] ∷ function 6 "f" [] ∷ []) ∷ []) ≡ (fault 0 6 kinds.DeclaredTwice ∷ [])
two_functions = refl

-- PRIVATE FUNCTION F() END FUNCTION F() END
private_and_public_of_one_file : faults ((private_function 2 "F" None [] [] ∷ function 7 "F" [] ∷ []) ∷ []) ≡ (fault 0 7 kinds.DeclaredTwice ∷ [])
private_and_public_of_one_file = refl

-- a.ci: FUNCTION F() END
-- b.ci: PUBLIC FUNCTION F() END
two_publics_of_two_files : faults ((function 1 "F" [] ∷ []) ∷ (function 2 "F" [] ∷ []) ∷ []) ≡ (fault 1 2 kinds.DeclaredTwice ∷ [])
two_publics_of_two_files = refl

-- a.ci: PRIVATE FUNCTION F() END
-- b.ci: FUNCTION F() END
private_and_public_of_two_files : faults ((private_function 2 "F" None [] [] ∷ []) ∷ (function 1 "F" [] ∷ []) ∷ []) ≡ []
private_and_public_of_two_files = refl

-- a.ci: FUNCTION F() END
-- b.ci: PRIVATE FUNCTION F() END
public_and_private_of_two_files : faults ((function 1 "F" [] ∷ []) ∷ (private_function 2 "F" None [] [] ∷ []) ∷ []) ≡ []
public_and_private_of_two_files = refl

-- a.ci: PRIVATE FUNCTION F() END
-- b.ci: PRIVATE FUNCTION F() END
privates_of_two_files : faults ((private_function 2 "F" None [] [] ∷ []) ∷ (private_function 2 "F" None [] [] ∷ []) ∷ []) ≡ []
privates_of_two_files = refl

-- FUNCTION abs() END
named_as_a_private_function : faults ((function 1 "abs" [] ∷ []) ∷ []) ≡ (fault 0 1 kinds.DeclaredTwice ∷ [])
named_as_a_private_function = refl

-- PRIVATE INT FUNCTION TRACEMSG(INT n) END
named_as_a_shared_function : faults ((private_function 3 "TRACEMSG" (Some (int 1)) (param 6 "n" (int 5) ∷ []) [] ∷ []) ∷ []) ≡ (fault 0 3 kinds.DeclaredTwice ∷ [])
named_as_a_shared_function = refl

-- FUNCTION Trace() END FUNCTION Enter() END
named_as_a_request : faults ((function 1 "Trace" [] ∷ function 6 "Enter" [] ∷ []) ∷ []) ≡ []
named_as_a_request = refl

-- INT F; FUNCTION F() INT F; END INT Abs;
functions_and_variables_are_named_apart : faults ((variable 1 "F" (int 0) ∷ function 4 "F" (declare 7 (int 7) (plain 8 "F" ∷ []) ∷ []) ∷ variable 12 "Abs" (int 11) ∷ []) ∷ []) ≡ []
functions_and_variables_are_named_apart = refl

-- Name unknown

-- INT a[2]; FUNCTION Main() x = 1; y[0] = 2; a[z] = u; TraceMsg(IntToStr(v[w])); F(); TraceMsg(G(1)); END
unknown_everywhere : faults ((variable_array 1 "a" (int 0) 3 (pos 2) ∷ function 7 "Main" (assign 10 "x" 11 (num 12 1) ∷ set_element 14 "y" (num 16 0) 18 (num 19 2) ∷ set_element 21 "a" (var 23 "z") 25 (var 26 "u") ∷ do_call 28 "TraceMsg" (call 30 "IntToStr" (elem 32 "v" (var 34 "w") ∷ []) ∷ []) ∷ do_call 39 "F" [] ∷ do_call 43 "TraceMsg" (call 45 "G" (num 47 1 ∷ []) ∷ []) ∷ []) ∷ []) ∷ []) ≡ (fault 0 10 kinds.NameUnknown ∷ fault 0 14 kinds.NameUnknown ∷ fault 0 23 kinds.NameUnknown ∷ fault 0 26 kinds.NameUnknown ∷ fault 0 32 kinds.NameUnknown ∷ fault 0 34 kinds.NameUnknown ∷ fault 0 39 kinds.NameUnknown ∷ fault 0 45 kinds.NameUnknown ∷ [])
unknown_everywhere = refl

-- FUNCTION Main() IF a THEN b = 1; ELSE c = 1; END WHILE d DO e = 1; END FOR f = g TO h DO i(); END END
unknown_in_statements : faults ((function 1 "Main" (if_else 4 (var 5 "a") (assign 7 "b" 8 (num 9 1) ∷ []) (assign 12 "c" 13 (num 14 1) ∷ []) ∷ while 17 (var 18 "d") (assign 20 "e" 21 (num 22 1) ∷ []) ∷ for 25 26 "f" (var 28 "g") (var 30 "h") (do_call 32 "i" [] ∷ []) ∷ []) ∷ []) ∷ []) ≡ (fault 0 5 kinds.NameUnknown ∷ fault 0 7 kinds.NameUnknown ∷ fault 0 12 kinds.NameUnknown ∷ fault 0 18 kinds.NameUnknown ∷ fault 0 20 kinds.NameUnknown ∷ fault 0 26 kinds.NameUnknown ∷ fault 0 28 kinds.NameUnknown ∷ fault 0 30 kinds.NameUnknown ∷ fault 0 32 kinds.NameUnknown ∷ [])
unknown_in_statements = refl

-- FUNCTION Main() SELECT CASE a CASE b, c TO d, IS < e f(); CASE ELSE g(); END SELECT RETURN; END
unknown_in_clauses : faults ((function 1 "Main" (select_else 4 (var 6 "a") (case 7 (one (var 8 "b") ∷ range (var 10 "c") (var 12 "d") ∷ compared 14 relation.Less (var 16 "e") ∷ []) (do_call 17 "f" [] ∷ []) ∷ []) (do_call 23 "g" [] ∷ []) ∷ return 29 ∷ []) ∷ []) ∷ []) ≡ (fault 0 6 kinds.NameUnknown ∷ fault 0 8 kinds.NameUnknown ∷ fault 0 10 kinds.NameUnknown ∷ fault 0 12 kinds.NameUnknown ∷ fault 0 16 kinds.NameUnknown ∷ fault 0 17 kinds.NameUnknown ∷ fault 0 23 kinds.NameUnknown ∷ [])
unknown_in_clauses = refl

-- INT FUNCTION F() RETURN x; END
unknown_returned : faults ((public_function 2 "F" (Some (int 0)) [] (return_value 5 (var 6 "x") ∷ []) ∷ []) ∷ []) ≡ (fault 0 6 kinds.NameUnknown ∷ [])
unknown_returned = refl

-- a.ci: INT m;
-- b.ci: FUNCTION Main() m = 1; END
module_of_another_file : faults ((variable 1 "m" (int 0) ∷ []) ∷ (function 1 "Main" (assign 4 "m" 5 (num 6 1) ∷ []) ∷ []) ∷ []) ≡ (fault 1 4 kinds.NameUnknown ∷ [])
module_of_another_file = refl

-- a.ci: PRIVATE FUNCTION F() END
-- b.ci: FUNCTION Main() F(); END
private_of_another_file : faults ((private_function 2 "F" None [] [] ∷ []) ∷ (function 1 "Main" (do_call 4 "F" [] ∷ []) ∷ []) ∷ []) ≡ (fault 1 4 kinds.NameUnknown ∷ [])
private_of_another_file = refl

-- FUNCTION F() INT x; END FUNCTION G() x = 1; END
local_of_another_function : faults ((function 1 "F" (declare 4 (int 4) (plain 5 "x" ∷ []) ∷ []) ∷ function 9 "G" (assign 12 "x" 13 (num 14 1) ∷ []) ∷ []) ∷ []) ≡ (fault 0 12 kinds.NameUnknown ∷ [])
local_of_another_function = refl

-- FUNCTION F(INT x) END FUNCTION G() x = 1; END
parameter_of_another_function : faults ((public_function 1 "F" None (param 4 "x" (int 3) ∷ []) [] ∷ function 8 "G" (assign 11 "x" 12 (num 13 1) ∷ []) ∷ []) ∷ []) ≡ (fault 0 11 kinds.NameUnknown ∷ [])
parameter_of_another_function = refl

-- FUNCTION Main() x = 1; INT x; x = 1; END
before_the_declaration : faults ((function 1 "Main" (assign 4 "x" 5 (num 6 1) ∷ declare 8 (int 8) (plain 9 "x" ∷ []) ∷ assign 11 "x" 12 (num 13 1) ∷ []) ∷ []) ∷ []) ≡ (fault 0 4 kinds.NameUnknown ∷ [])
before_the_declaration = refl

-- FUNCTION Main() INT x = x + 1; END
in_the_own_first_value : faults ((function 1 "Main" (declare 4 (int 4) (valued 5 "x" (chain 7 8 (var 7 "x") (op 8 operator.Plus (num 9 1) ∷ [])) ∷ []) ∷ []) ∷ []) ∷ []) ≡ (fault 0 7 kinds.NameUnknown ∷ [])
in_the_own_first_value = refl

-- FUNCTION Main() INT x = y, y = x; END
in_an_earlier_first_value : faults ((function 1 "Main" (declare 4 (int 4) (valued 5 "x" (var 7 "y") ∷ valued 9 "y" (var 11 "x") ∷ []) ∷ []) ∷ []) ∷ []) ≡ (fault 0 7 kinds.NameUnknown ∷ [])
in_an_earlier_first_value = refl

-- Not a function

-- INT a[1]; GLOBAL STRING g; FUNCTION F(INT p) INT x; a(); G(1); p(u); x = x(); END
variables_that_are_called : faults ((variable_array 1 "a" (int 0) 3 (pos 1) ∷ global 8 "g" (string 7) ∷ public_function 11 "F" None (param 14 "p" (int 13) ∷ []) (declare 16 (int 16) (plain 17 "x" ∷ []) ∷ do_call 19 "a" [] ∷ do_call 23 "G" (num 25 1 ∷ []) ∷ do_call 28 "p" (var 30 "u" ∷ []) ∷ assign 33 "x" 34 (call 35 "x" []) ∷ []) ∷ []) ∷ []) ≡ (fault 0 19 kinds.NotAFunction ∷ fault 0 23 kinds.NotAFunction ∷ fault 0 28 kinds.NotAFunction ∷ fault 0 30 kinds.NameUnknown ∷ fault 0 35 kinds.NotAFunction ∷ [])
variables_that_are_called = refl

-- a.ci: GLOBAL INT g;
-- b.ci: FUNCTION Main() g(); END
global_of_another_file_that_is_called : faults ((global 2 "g" (int 1) ∷ []) ∷ (function 1 "Main" (do_call 4 "g" [] ∷ []) ∷ []) ∷ []) ≡ (fault 1 4 kinds.NotAFunction ∷ [])
global_of_another_file_that_is_called = refl

-- a.ci: INT g;
-- b.ci: FUNCTION Main() g(); END
module_of_another_file_that_is_called : faults ((variable 1 "g" (int 0) ∷ []) ∷ (function 1 "Main" (do_call 4 "g" [] ∷ []) ∷ []) ∷ []) ≡ (fault 1 4 kinds.NameUnknown ∷ [])
module_of_another_file_that_is_called = refl

-- FUNCTION Main() x(); INT x; x(); END
local_that_is_called_too_early : faults ((function 1 "Main" (do_call 4 "x" [] ∷ declare 8 (int 8) (plain 9 "x" ∷ []) ∷ do_call 11 "x" [] ∷ []) ∷ []) ∷ []) ≡ (fault 0 4 kinds.NameUnknown ∷ fault 0 11 kinds.NotAFunction ∷ [])
local_that_is_called_too_early = refl

-- INT F; FUNCTION F() F(); F = 1; END
variable_and_function_of_one_name : faults ((variable 1 "F" (int 0) ∷ function 4 "F" (do_call 7 "F" [] ∷ assign 11 "F" 12 (num 13 1) ∷ []) ∷ []) ∷ []) ≡ []
variable_and_function_of_one_name = refl

-- Not a variable

-- FUNCTION F() INT n; F = 1; F[0] = 1; n = f; n = F[0]; FOR F = 1 TO 2 DO END END
functions_as_variables : faults ((function 1 "F" (declare 4 (int 4) (plain 5 "n" ∷ []) ∷ assign 7 "F" 8 (num 9 1) ∷ set_element 11 "F" (num 13 0) 15 (num 16 1) ∷ assign 18 "n" 19 (var 20 "f") ∷ assign 22 "n" 23 (elem 24 "F" (num 26 0)) ∷ for 29 30 "F" (num 32 1) (num 34 2) [] ∷ []) ∷ []) ∷ []) ≡ (fault 0 7 kinds.NotAVariable ∷ fault 0 11 kinds.NotAVariable ∷ fault 0 20 kinds.NotAVariable ∷ fault 0 24 kinds.NotAVariable ∷ fault 0 30 kinds.NotAVariable ∷ [])
functions_as_variables = refl

-- FUNCTION Main() INT x; x = StrLength; abs = 1; x = TraceMsg[0]; x = HALT; END
given_functions_as_variables : faults ((function 1 "Main" (declare 4 (int 4) (plain 5 "x" ∷ []) ∷ assign 7 "x" 8 (var 9 "StrLength") ∷ assign 11 "abs" 12 (num 13 1) ∷ assign 15 "x" 16 (elem 17 "TraceMsg" (num 19 0)) ∷ assign 22 "x" 23 (var 24 "HALT") ∷ []) ∷ []) ∷ []) ≡ (fault 0 9 kinds.NotAVariable ∷ fault 0 11 kinds.NotAVariable ∷ fault 0 17 kinds.NotAVariable ∷ fault 0 24 kinds.NotAVariable ∷ [])
given_functions_as_variables = refl

-- a.ci: PRIVATE FUNCTION F() END
-- b.ci: FUNCTION Main() F = 1; END
private_of_another_file_as_a_variable : faults ((private_function 2 "F" None [] [] ∷ []) ∷ (function 1 "Main" (assign 4 "F" 5 (num 6 1) ∷ []) ∷ []) ∷ []) ≡ (fault 1 4 kinds.NameUnknown ∷ [])
private_of_another_file_as_a_variable = refl

-- a.ci: FUNCTION F() END
-- b.ci: FUNCTION Main() F = 1; END
public_of_another_file_as_a_variable : faults ((function 1 "F" [] ∷ []) ∷ (function 1 "Main" (assign 4 "F" 5 (num 6 1) ∷ []) ∷ []) ∷ []) ≡ (fault 1 4 kinds.NotAVariable ∷ [])
public_of_another_file_as_a_variable = refl
