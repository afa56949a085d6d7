-- RETURN, indexes, and types that are out of scope.
use Rattle.std.specs.Prelude.{◌≡◌, refl, [], ◌∷◌, None, Some, pos}
use Rattle.ci_names.specs.declared.fault.BindKind.TheVariants as kinds
use Rattle.ci_names.specs.Faults.{faults}
use Rattle.ci_names.proofs.Examples.Trees.{fault, int, string, real, object, quality, timestamp, num, txt, var, elem, call, minus, plain, valued, declare, assign, set_element, do_call, if_then, while, for, one, case, select_else, return, return_value, first_text, param, function, public_function, private_function, variable, variable_first, variable_array, global, global_array}

-- Return value

-- FUNCTION F() RETURN; RETURN 1; RETURN y; RETURN "a"; END
value_without_a_type : faults ((function 1 "F" (return 4 ∷ return_value 6 (num 7 1) ∷ return_value 9 (var 10 "y") ∷ return_value 12 (txt 13 "a") ∷ []) ∷ []) ∷ []) ≡ (fault 0 6 kinds.ReturnValue ∷ fault 0 9 kinds.ReturnValue ∷ fault 0 10 kinds.NameUnknown ∷ fault 0 12 kinds.ReturnValue ∷ [])
value_without_a_type = refl

-- INT FUNCTION F() RETURN 1; RETURN; END STRING FUNCTION G() IF 1 THEN RETURN; END RETURN "a"; END
type_without_a_value : faults ((public_function 2 "F" (Some (int 0)) [] (return_value 5 (num 6 1) ∷ return 8 ∷ []) ∷ public_function 13 "G" (Some (string 11)) [] (if_then 16 (num 17 1) (return 19 ∷ []) ∷ return_value 22 (txt 23 "a") ∷ []) ∷ []) ∷ []) ≡ (fault 0 8 kinds.ReturnValue ∷ fault 0 19 kinds.ReturnValue ∷ [])
type_without_a_value = refl

-- STRING FUNCTION F() END
typed_function_without_return : faults ((public_function 2 "F" (Some (string 0)) [] [] ∷ []) ∷ []) ≡ []
typed_function_without_return = refl

-- FUNCTION F() WHILE 1 DO RETURN 1; END SELECT CASE 1 CASE 1 RETURN 2; CASE ELSE RETURN 3; END SELECT END
returns_in_bodies : faults ((function 1 "F" (while 4 (num 5 1) (return_value 7 (num 8 1) ∷ []) ∷ select_else 11 (num 13 1) (case 14 (one (num 15 1) ∷ []) (return_value 16 (num 17 2) ∷ []) ∷ []) (return_value 21 (num 22 3) ∷ []) ∷ []) ∷ []) ∷ []) ≡ (fault 0 7 kinds.ReturnValue ∷ fault 0 16 kinds.ReturnValue ∷ fault 0 21 kinds.ReturnValue ∷ [])
returns_in_bodies = refl

-- Index missing, and index on a scalar

-- INT a[2]; GLOBAL STRING b[3]; FUNCTION Main() INT x; a = 1; x = a; FOR a = 1 TO 2 DO END TraceMsg(b); x = -a; b = a; END
arrays_without_an_index : faults ((variable_array 1 "a" (int 0) 3 (pos 2) ∷ global_array 8 "b" (string 7) 10 (pos 3) ∷ function 14 "Main" (declare 17 (int 17) (plain 18 "x" ∷ []) ∷ assign 20 "a" 21 (num 22 1) ∷ assign 24 "x" 25 (var 26 "a") ∷ for 28 29 "a" (num 31 1) (num 33 2) [] ∷ do_call 36 "TraceMsg" (var 38 "b" ∷ []) ∷ assign 41 "x" 42 (minus 43 (var 44 "a")) ∷ assign 46 "b" 47 (var 48 "a") ∷ []) ∷ []) ∷ []) ≡ (fault 0 20 kinds.IndexMissing ∷ fault 0 26 kinds.IndexMissing ∷ fault 0 29 kinds.IndexMissing ∷ fault 0 38 kinds.IndexMissing ∷ fault 0 44 kinds.IndexMissing ∷ fault 0 46 kinds.IndexMissing ∷ fault 0 48 kinds.IndexMissing ∷ [])
arrays_without_an_index = refl

-- STRING t; FUNCTION F(INT p) INT x; x[0] = 1; x = p[0]; t[p] = "a"; x = t[u]; END INT u[1];
scalars_with_an_index : faults ((variable 1 "t" (string 0) ∷ public_function 4 "F" None (param 7 "p" (int 6) ∷ []) (declare 9 (int 9) (plain 10 "x" ∷ []) ∷ set_element 12 "x" (num 14 0) 16 (num 17 1) ∷ assign 19 "x" 20 (elem 21 "p" (num 23 0)) ∷ set_element 26 "t" (var 28 "p") 30 (txt 31 "a") ∷ assign 33 "x" 34 (elem 35 "t" (var 37 "u")) ∷ []) ∷ variable_array 42 "u" (int 41) 44 (pos 1) ∷ []) ∷ []) ≡ (fault 0 12 kinds.IndexOnScalar ∷ fault 0 21 kinds.IndexOnScalar ∷ fault 0 26 kinds.IndexOnScalar ∷ fault 0 35 kinds.IndexOnScalar ∷ fault 0 37 kinds.IndexMissing ∷ [])
scalars_with_an_index = refl

-- Type out of scope

-- REAL x;
type_of_a_variable : faults ((variable 1 "x" (real 0) ∷ []) ∷ []) ≡ (fault 0 0 kinds.TypeOutOfScope ∷ [])
type_of_a_variable = refl

-- GLOBAL OBJECT x; MODULE QUALITY y; TIMESTAMP z[2]; INT i;
types_of_variables : faults ((global 2 "x" (object 1) ∷ variable 6 "y" (quality 5) ∷ variable_array 9 "z" (timestamp 8) 11 (pos 2) ∷ variable 15 "i" (int 14) ∷ []) ∷ []) ≡ (fault 0 1 kinds.TypeOutOfScope ∷ fault 0 5 kinds.TypeOutOfScope ∷ fault 0 8 kinds.TypeOutOfScope ∷ [])
types_of_variables = refl

-- REAL x, y;
type_of_two_variables : faults ((variable 1 "x" (real 0) ∷ variable 3 "y" (real 0) ∷ []) ∷ []) ≡ (fault 0 0 kinds.TypeOutOfScope ∷ [])
type_of_two_variables = refl

-- REAL FUNCTION F() END PRIVATE OBJECT FUNCTION G() END PUBLIC STRING FUNCTION H() END
types_of_functions : faults ((public_function 2 "F" (Some (real 0)) [] [] ∷ private_function 9 "G" (Some (object 7)) [] [] ∷ public_function 16 "H" (Some (string 14)) [] [] ∷ []) ∷ []) ≡ (fault 0 0 kinds.TypeOutOfScope ∷ fault 0 7 kinds.TypeOutOfScope ∷ [])
types_of_functions = refl

-- FUNCTION F(QUALITY a, INT b, TIMESTAMP c) END
types_of_parameters : faults ((public_function 1 "F" None (param 4 "a" (quality 3) ∷ param 7 "b" (int 6) ∷ param 10 "c" (timestamp 9) ∷ []) [] ∷ []) ∷ []) ≡ (fault 0 3 kinds.TypeOutOfScope ∷ fault 0 9 kinds.TypeOutOfScope ∷ [])
types_of_parameters = refl

-- FUNCTION Main() REAL x, y; IF 1 THEN OBJECT z; END END
types_of_locals : faults ((function 1 "Main" (declare 4 (real 4) (plain 5 "x" ∷ plain 7 "y" ∷ []) ∷ if_then 9 (num 10 1) (declare 12 (object 12) (plain 13 "z" ∷ []) ∷ []) ∷ []) ∷ []) ∷ []) ≡ (fault 0 4 kinds.TypeOutOfScope ∷ fault 0 12 kinds.TypeOutOfScope ∷ [])
types_of_locals = refl

-- REAL x = "a"; OBJECT FUNCTION F(QUALITY p) TIMESTAMP t = "b"; x = 1; x = "c"; t = p; RETURN; RETURN "d"; RETURN F(1); END
out_of_scope_counts_as_int : faults ((variable_first 1 "x" (real 0) (first_text 3 "a") ∷ public_function 7 "F" (Some (object 5)) (param 10 "p" (quality 9) ∷ []) (declare 12 (timestamp 12) (valued 13 "t" (txt 15 "b") ∷ []) ∷ assign 17 "x" 18 (num 19 1) ∷ assign 21 "x" 22 (txt 23 "c") ∷ assign 25 "t" 26 (var 27 "p") ∷ return 29 ∷ return_value 31 (txt 32 "d") ∷ return_value 34 (call 35 "F" (num 37 1 ∷ [])) ∷ []) ∷ []) ∷ []) ≡ (fault 0 0 kinds.TypeOutOfScope ∷ fault 0 3 kinds.KindsDiffer ∷ fault 0 5 kinds.TypeOutOfScope ∷ fault 0 9 kinds.TypeOutOfScope ∷ fault 0 12 kinds.TypeOutOfScope ∷ fault 0 15 kinds.KindsDiffer ∷ fault 0 22 kinds.KindsDiffer ∷ fault 0 29 kinds.ReturnValue ∷ fault 0 32 kinds.KindsDiffer ∷ [])
out_of_scope_counts_as_int = refl
