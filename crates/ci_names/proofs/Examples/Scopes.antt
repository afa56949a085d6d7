-- Which declaration a name means. Where a text is assigned to an INT, the `=` tells which was meant.
use Rattle.std.specs.Prelude.{◌≡◌, refl, [], ◌∷◌, None}
use Rattle.ci_names.specs.declared.fault.BindKind.TheVariants as kinds
use Rattle.ci_names.specs.Faults.{faults}
use Rattle.ci_names.proofs.Examples.Trees.{fault, int, string, num, txt, var, plain, valued, declare, assign, do_call, if_then, if_else, while, for, one, case, select_else, param, function, public_function, private_function, variable, global}

-- Locals

-- STRING x; FUNCTION Main() STRING s = x; INT x = x; x = 1; s = "a"; END
own_first_value_means_the_variable : faults ((variable 1 "x" (string 0) ∷ function 4 "Main" (declare 7 (string 7) (valued 8 "s" (var 10 "x") ∷ []) ∷ declare 12 (int 12) (valued 13 "x" (var 15 "x") ∷ []) ∷ assign 17 "x" 18 (num 19 1) ∷ assign 21 "s" 22 (txt 23 "a") ∷ []) ∷ []) ∷ []) ≡ (fault 0 15 kinds.KindsDiffer ∷ [])
own_first_value_means_the_variable = refl

-- FUNCTION Main() INT x = 1, y = x; END
later_local_of_one_declaration : faults ((function 1 "Main" (declare 4 (int 4) (valued 5 "x" (num 7 1) ∷ valued 9 "y" (var 11 "x") ∷ []) ∷ []) ∷ []) ∷ []) ≡ []
later_local_of_one_declaration = refl

-- FUNCTION Main() IF 0 THEN INT x; END x = 1; END
local_of_a_body_holds_behind_it : faults ((function 1 "Main" (if_then 4 (num 5 0) (declare 7 (int 7) (plain 8 "x" ∷ []) ∷ []) ∷ assign 11 "x" 12 (num 13 1) ∷ []) ∷ []) ∷ []) ≡ []
local_of_a_body_holds_behind_it = refl

-- FUNCTION Main() IF 0 THEN INT x; ELSE x = 1; END END
local_of_a_body_holds_in_else : faults ((function 1 "Main" (if_else 4 (num 5 0) (declare 7 (int 7) (plain 8 "x" ∷ []) ∷ []) (assign 11 "x" 12 (num 13 1) ∷ []) ∷ []) ∷ []) ∷ []) ≡ []
local_of_a_body_holds_in_else = refl

-- FUNCTION Main() SELECT CASE 1 CASE 1 INT x; CASE x x = 2; CASE ELSE x = 3; END SELECT x = 4; END
local_of_a_clause_holds_in_the_next : faults ((function 1 "Main" (select_else 4 (num 6 1) (case 7 (one (num 8 1) ∷ []) (declare 9 (int 9) (plain 10 "x" ∷ []) ∷ []) ∷ case 12 (one (var 13 "x") ∷ []) (assign 14 "x" 15 (num 16 2) ∷ []) ∷ []) (assign 20 "x" 21 (num 22 3) ∷ []) ∷ assign 26 "x" 27 (num 28 4) ∷ []) ∷ []) ∷ []) ≡ []
local_of_a_clause_holds_in_the_next = refl

-- FUNCTION Main() FOR i = 1 TO 2 DO INT i; END FOR i = 1 TO 2 DO END WHILE i DO INT j; END j = 1; END
local_of_a_loop_holds_behind_it : faults ((function 1 "Main" (for 4 5 "i" (num 7 1) (num 9 2) (declare 11 (int 11) (plain 12 "i" ∷ []) ∷ []) ∷ for 15 16 "i" (num 18 1) (num 20 2) [] ∷ while 23 (var 24 "i") (declare 26 (int 26) (plain 27 "j" ∷ []) ∷ []) ∷ assign 30 "j" 31 (num 32 1) ∷ []) ∷ []) ∷ []) ≡ (fault 0 5 kinds.NameUnknown ∷ [])
local_of_a_loop_holds_behind_it = refl

-- INT a; FUNCTION Main() a = 1; STRING a; a = "x"; a = 1; END
local_before_variable : faults ((variable 1 "a" (int 0) ∷ function 4 "Main" (assign 7 "a" 8 (num 9 1) ∷ declare 11 (string 11) (plain 12 "a" ∷ []) ∷ assign 14 "a" 15 (txt 16 "x") ∷ assign 18 "a" 19 (num 20 1) ∷ []) ∷ []) ∷ []) ≡ (fault 0 19 kinds.KindsDiffer ∷ [])
local_before_variable = refl

-- INT a; FUNCTION F(STRING a) a = "x"; a = 1; END
parameter_before_variable : faults ((variable 1 "a" (int 0) ∷ public_function 4 "F" None (param 7 "a" (string 6) ∷ []) (assign 9 "a" 10 (txt 11 "x") ∷ assign 13 "a" 14 (num 15 1) ∷ []) ∷ []) ∷ []) ≡ (fault 0 14 kinds.KindsDiffer ∷ [])
parameter_before_variable = refl

-- Variables

-- FUNCTION Main() a = 1; a = "x"; END INT a;
use_before_the_variable : faults ((function 1 "Main" (assign 4 "a" 5 (num 6 1) ∷ assign 8 "a" 9 (txt 10 "x") ∷ []) ∷ variable 14 "a" (int 13) ∷ []) ∷ []) ≡ (fault 0 9 kinds.KindsDiffer ∷ [])
use_before_the_variable = refl

-- a.ci: GLOBAL INT a;
-- b.ci: STRING a; FUNCTION Main() a = "x"; a = 1; END
module_before_global_of_another_file : faults ((global 2 "a" (int 1) ∷ []) ∷ (variable 1 "a" (string 0) ∷ function 4 "Main" (assign 7 "a" 8 (txt 9 "x") ∷ assign 11 "a" 12 (num 13 1) ∷ []) ∷ []) ∷ []) ≡ (fault 1 12 kinds.KindsDiffer ∷ [])
module_before_global_of_another_file = refl

-- a.ci: GLOBAL INT a;
-- b.ci: FUNCTION Main() a = 1; a = "x"; END
global_of_an_earlier_file : faults ((global 2 "a" (int 1) ∷ []) ∷ (function 1 "Main" (assign 4 "a" 5 (num 6 1) ∷ assign 8 "a" 9 (txt 10 "x") ∷ []) ∷ []) ∷ []) ≡ (fault 1 9 kinds.KindsDiffer ∷ [])
global_of_an_earlier_file = refl

-- a.ci: FUNCTION Main() a = 1; a = "x"; END
-- b.ci: GLOBAL INT a;
global_of_a_later_file : faults ((function 1 "Main" (assign 4 "a" 5 (num 6 1) ∷ assign 8 "a" 9 (txt 10 "x") ∷ []) ∷ []) ∷ (global 2 "a" (int 1) ∷ []) ∷ []) ≡ (fault 0 9 kinds.KindsDiffer ∷ [])
global_of_a_later_file = refl

-- INT Total; FUNCTION Main() TOTAL = 1; traceMSG("x"); MAIN(); END
letter_case_has_no_meaning : faults ((variable 1 "Total" (int 0) ∷ function 4 "Main" (assign 7 "TOTAL" 8 (num 9 1) ∷ do_call 11 "traceMSG" (txt 13 "x" ∷ []) ∷ do_call 16 "MAIN" [] ∷ []) ∷ []) ∷ []) ≡ []
letter_case_has_no_meaning = refl

-- Functions

-- a.ci: FUNCTION F(INT a) END
-- b.ci: PRIVATE FUNCTION F() END FUNCTION Main() F(); F(1); END
private_before_public_of_another_file : faults ((public_function 1 "F" None (param 4 "a" (int 3) ∷ []) [] ∷ []) ∷ (private_function 2 "F" None [] [] ∷ function 7 "Main" (do_call 10 "F" [] ∷ do_call 14 "F" (num 16 1 ∷ []) ∷ []) ∷ []) ∷ []) ≡ (fault 1 14 kinds.ArgumentCount ∷ [])
private_before_public_of_another_file = refl

-- a.ci: FUNCTION F(INT a) END
-- b.ci: PRIVATE FUNCTION G() END FUNCTION Main() F(1); F(); END
public_of_another_file : faults ((public_function 1 "F" None (param 4 "a" (int 3) ∷ []) [] ∷ []) ∷ (private_function 2 "G" None [] [] ∷ function 7 "Main" (do_call 10 "F" (num 12 1 ∷ []) ∷ do_call 15 "F" [] ∷ []) ∷ []) ∷ []) ≡ (fault 1 15 kinds.ArgumentCount ∷ [])
public_of_another_file = refl

-- FUNCTION Main() F(1); F(); END FUNCTION F(INT a) END
use_before_the_function : faults ((function 1 "Main" (do_call 4 "F" (num 6 1 ∷ []) ∷ do_call 9 "F" [] ∷ []) ∷ public_function 15 "F" None (param 18 "a" (int 17) ∷ []) [] ∷ []) ∷ []) ≡ (fault 0 9 kinds.ArgumentCount ∷ [])
use_before_the_function = refl

-- FUNCTION Abs() END FUNCTION Main() Abs(); Abs(1); END
own_function_before_a_given_one : faults ((function 1 "Abs" [] ∷ function 6 "Main" (do_call 9 "Abs" [] ∷ do_call 13 "Abs" (num 15 1 ∷ []) ∷ []) ∷ []) ∷ []) ≡ (fault 0 1 kinds.DeclaredTwice ∷ fault 0 13 kinds.ArgumentCount ∷ [])
own_function_before_a_given_one = refl

-- a.ci: PRIVATE FUNCTION Abs() END
-- b.ci: FUNCTION Main() Abs(1); Abs(); END
given_function_beside_a_private_of_another_file : faults ((private_function 2 "Abs" None [] [] ∷ []) ∷ (function 1 "Main" (do_call 4 "Abs" (num 6 1 ∷ []) ∷ do_call 9 "Abs" [] ∷ []) ∷ []) ∷ []) ≡ (fault 0 2 kinds.DeclaredTwice ∷ fault 1 9 kinds.ArgumentCount ∷ [])
given_function_beside_a_private_of_another_file = refl

-- The first of two declarations

-- FUNCTION Main() F(1); END FUNCTION F() END FUNCTION F(INT a) END
first_of_two_functions : faults ((function 1 "Main" (do_call 4 "F" (num 6 1 ∷ []) ∷ []) ∷ function 11 "F" [] ∷ public_function 16 "F" None (param 19 "a" (int 18) ∷ []) [] ∷ []) ∷ []) ≡ (fault 0 4 kinds.ArgumentCount ∷ fault 0 16 kinds.DeclaredTwice ∷ [])
first_of_two_functions = refl

-- a.ci: FUNCTION F() END
-- b.ci: FUNCTION F(INT a) F(); F(1); END
-- c.ci: FUNCTION Main() F(); F(1); END
first_of_two_publics : faults ((function 1 "F" [] ∷ []) ∷ (public_function 1 "F" None (param 4 "a" (int 3) ∷ []) (do_call 6 "F" [] ∷ do_call 10 "F" (num 12 1 ∷ []) ∷ []) ∷ []) ∷ (function 1 "Main" (do_call 4 "F" [] ∷ do_call 8 "F" (num 10 1 ∷ []) ∷ []) ∷ []) ∷ []) ≡ (fault 1 1 kinds.DeclaredTwice ∷ fault 1 10 kinds.ArgumentCount ∷ fault 2 8 kinds.ArgumentCount ∷ [])
first_of_two_publics = refl

-- a.ci: FUNCTION F() END
-- b.ci: FUNCTION G() F(1); END FUNCTION F(INT a) END
first_of_two_publics_before_the_second : faults ((function 1 "F" [] ∷ []) ∷ (function 1 "G" (do_call 4 "F" (num 6 1 ∷ []) ∷ []) ∷ public_function 11 "F" None (param 14 "a" (int 13) ∷ []) [] ∷ []) ∷ []) ≡ (fault 1 4 kinds.ArgumentCount ∷ fault 1 11 kinds.DeclaredTwice ∷ [])
first_of_two_publics_before_the_second = refl

-- FUNCTION Main() F(1); END FUNCTION F() END PRIVATE FUNCTION F(INT a) END
first_of_public_and_private : faults ((function 1 "Main" (do_call 4 "F" (num 6 1 ∷ []) ∷ []) ∷ function 11 "F" [] ∷ private_function 17 "F" None (param 20 "a" (int 19) ∷ []) [] ∷ []) ∷ []) ≡ (fault 0 4 kinds.ArgumentCount ∷ fault 0 17 kinds.DeclaredTwice ∷ [])
first_of_public_and_private = refl

-- FUNCTION Main() F(); END PRIVATE FUNCTION F(INT a) END FUNCTION F() END
first_of_private_and_public : faults ((function 1 "Main" (do_call 4 "F" [] ∷ []) ∷ private_function 11 "F" None (param 14 "a" (int 13) ∷ []) [] ∷ function 18 "F" [] ∷ []) ∷ []) ≡ (fault 0 4 kinds.ArgumentCount ∷ fault 0 18 kinds.DeclaredTwice ∷ [])
first_of_private_and_public = refl

-- INT a; STRING a; FUNCTION Main() a = 1; a = "x"; END
first_of_two_variables : faults ((variable 1 "a" (int 0) ∷ variable 4 "a" (string 3) ∷ function 7 "Main" (assign 10 "a" 11 (num 12 1) ∷ assign 14 "a" 15 (txt 16 "x") ∷ []) ∷ []) ∷ []) ≡ (fault 0 4 kinds.DeclaredTwice ∷ fault 0 15 kinds.KindsDiffer ∷ [])
first_of_two_variables = refl

-- a.ci: GLOBAL INT a;
-- b.ci: GLOBAL STRING a; FUNCTION F() a = "x"; END
-- c.ci: FUNCTION Main() a = 1; a = "x"; END
first_of_two_globals : faults ((global 2 "a" (int 1) ∷ []) ∷ (global 2 "a" (string 1) ∷ function 5 "F" (assign 8 "a" 9 (txt 10 "x") ∷ []) ∷ []) ∷ (function 1 "Main" (assign 4 "a" 5 (num 6 1) ∷ assign 8 "a" 9 (txt 10 "x") ∷ []) ∷ []) ∷ []) ≡ (fault 1 2 kinds.DeclaredTwice ∷ fault 2 9 kinds.KindsDiffer ∷ [])
first_of_two_globals = refl

-- FUNCTION Main() INT a; STRING a; a = 1; a = "x"; END
first_of_two_locals : faults ((function 1 "Main" (declare 4 (int 4) (plain 5 "a" ∷ []) ∷ declare 7 (string 7) (plain 8 "a" ∷ []) ∷ assign 10 "a" 11 (num 12 1) ∷ assign 14 "a" 15 (txt 16 "x") ∷ []) ∷ []) ∷ []) ≡ (fault 0 8 kinds.DeclaredTwice ∷ fault 0 15 kinds.KindsDiffer ∷ [])
first_of_two_locals = refl

-- FUNCTION F(STRING a) INT a; a = "x"; a = 1; END
first_of_a_parameter_and_a_local : faults ((public_function 1 "F" None (param 4 "a" (string 3) ∷ []) (declare 6 (int 6) (plain 7 "a" ∷ []) ∷ assign 9 "a" 10 (txt 11 "x") ∷ assign 13 "a" 14 (num 15 1) ∷ []) ∷ []) ∷ []) ≡ (fault 0 7 kinds.DeclaredTwice ∷ fault 0 14 kinds.KindsDiffer ∷ [])
first_of_a_parameter_and_a_local = refl
