-- Where two kinds differ.
use Rattle.std.specs.Prelude.{◌≡◌, refl, [], ◌∷◌, None, Some, pos}
use Rattle.ci_tree.specs.declared.tree.Operator.TheVariants as operator
use Rattle.ci_base.specs.declared.relation.Relation.TheVariants as relation
use Rattle.ci_names.specs.declared.fault.BindKind.TheVariants as kinds
use Rattle.ci_names.specs.Faults.{faults}
use Rattle.ci_names.proofs.Examples.Trees.{fault, int, string, num, txt, var, elem, call, minus, not, parens, chain, op, form, plain, valued, declare, assign, set_element, do_call, if_then, while, for, one, range, compared, case, select, return_value, first_number, first_negative, first_text, param, param_first, function, public_function, variable, variable_first, variable_array, global, global_first}

-- Operators

-- FUNCTION Main() INT x; STRING s; x = 1 + 2; s = "a" + "b"; x = 1 + "a"; x = "a" + 1; END
sums : faults ((function 1 "Main" (declare 4 (int 4) (plain 5 "x" ∷ []) ∷ declare 7 (string 7) (plain 8 "s" ∷ []) ∷ assign 10 "x" 11 (chain 12 13 (num 12 1) (op 13 operator.Plus (num 14 2) ∷ [])) ∷ assign 16 "s" 17 (chain 18 19 (txt 18 "a") (op 19 operator.Plus (txt 20 "b") ∷ [])) ∷ assign 22 "x" 23 (chain 24 25 (num 24 1) (op 25 operator.Plus (txt 26 "a") ∷ [])) ∷ assign 28 "x" 29 (chain 30 31 (txt 30 "a") (op 31 operator.Plus (num 32 1) ∷ [])) ∷ []) ∷ []) ∷ []) ≡ (fault 0 25 kinds.KindsDiffer ∷ fault 0 31 kinds.KindsDiffer ∷ [])
sums = refl

-- FUNCTION Main() INT x; x = "a" < "b"; x = 1 = 2; x = "a" <> 1; x = 1 < "a"; x = 1 >= "a"; x = "a" = 1; END
comparisons : faults ((function 1 "Main" (declare 4 (int 4) (plain 5 "x" ∷ []) ∷ assign 7 "x" 8 (chain 9 10 (txt 9 "a") (op 10 operator.Less (txt 11 "b") ∷ [])) ∷ assign 13 "x" 14 (chain 15 16 (num 15 1) (op 16 operator.Equal (num 17 2) ∷ [])) ∷ assign 19 "x" 20 (chain 21 22 (txt 21 "a") (op 22 operator.Unequal (num 23 1) ∷ [])) ∷ assign 25 "x" 26 (chain 27 28 (num 27 1) (op 28 operator.Less (txt 29 "a") ∷ [])) ∷ assign 31 "x" 32 (chain 33 34 (num 33 1) (op 34 operator.AtLeast (txt 35 "a") ∷ [])) ∷ assign 37 "x" 38 (chain 39 40 (txt 39 "a") (op 40 operator.Equal (num 41 1) ∷ [])) ∷ []) ∷ []) ∷ []) ≡ (fault 0 22 kinds.KindsDiffer ∷ fault 0 28 kinds.KindsDiffer ∷ fault 0 34 kinds.KindsDiffer ∷ fault 0 40 kinds.KindsDiffer ∷ [])
comparisons = refl

-- FUNCTION Main() INT x; x = 1 * 2 / 3 MOD 4; x = "a" * 1; x = 1 / "a"; x = "a" MOD "b"; END
products : faults ((function 1 "Main" (declare 4 (int 4) (plain 5 "x" ∷ []) ∷ assign 7 "x" 8 (chain 9 10 (num 9 1) (op 10 operator.Times (num 11 2) ∷ op 12 operator.Over (num 13 3) ∷ op 14 operator.Mod (num 15 4) ∷ [])) ∷ assign 17 "x" 18 (chain 19 20 (txt 19 "a") (op 20 operator.Times (num 21 1) ∷ [])) ∷ assign 23 "x" 24 (chain 25 26 (num 25 1) (op 26 operator.Over (txt 27 "a") ∷ [])) ∷ assign 29 "x" 30 (chain 31 32 (txt 31 "a") (op 32 operator.Mod (txt 33 "b") ∷ [])) ∷ []) ∷ []) ∷ []) ≡ (fault 0 20 kinds.KindsDiffer ∷ fault 0 26 kinds.KindsDiffer ∷ fault 0 32 kinds.KindsDiffer ∷ [])
products = refl

-- FUNCTION Main() INT x; x = 2 - 1; x = "a" - "b"; x = 1 - "b"; END
differences : faults ((function 1 "Main" (declare 4 (int 4) (plain 5 "x" ∷ []) ∷ assign 7 "x" 8 (chain 9 10 (num 9 2) (op 10 operator.Minus (num 11 1) ∷ [])) ∷ assign 13 "x" 14 (chain 15 16 (txt 15 "a") (op 16 operator.Minus (txt 17 "b") ∷ [])) ∷ assign 19 "x" 20 (chain 21 22 (num 21 1) (op 22 operator.Minus (txt 23 "b") ∷ [])) ∷ []) ∷ []) ∷ []) ≡ (fault 0 16 kinds.KindsDiffer ∷ fault 0 22 kinds.KindsDiffer ∷ [])
differences = refl

-- FUNCTION Main() INT x; x = 1 AND 2 OR 3; x = 1 BITAND 2 BITOR 3 BITXOR 4; x = "a" AND 1; x = 1 OR "a"; x = "a" BITAND 1; x = 1 BITOR "a"; x = "a" BITXOR "b"; END
words : faults ((function 1 "Main" (declare 4 (int 4) (plain 5 "x" ∷ []) ∷ assign 7 "x" 8 (chain 9 12 (chain 9 10 (num 9 1) (op 10 operator.And (num 11 2) ∷ [])) (op 12 operator.Or (num 13 3) ∷ [])) ∷ assign 15 "x" 16 (chain 17 18 (num 17 1) (op 18 operator.BitAnd (num 19 2) ∷ op 20 operator.BitOr (num 21 3) ∷ op 22 operator.BitXor (num 23 4) ∷ [])) ∷ assign 25 "x" 26 (chain 27 28 (txt 27 "a") (op 28 operator.And (num 29 1) ∷ [])) ∷ assign 31 "x" 32 (chain 33 34 (num 33 1) (op 34 operator.Or (txt 35 "a") ∷ [])) ∷ assign 37 "x" 38 (chain 39 40 (txt 39 "a") (op 40 operator.BitAnd (num 41 1) ∷ [])) ∷ assign 43 "x" 44 (chain 45 46 (num 45 1) (op 46 operator.BitOr (txt 47 "a") ∷ [])) ∷ assign 49 "x" 50 (chain 51 52 (txt 51 "a") (op 52 operator.BitXor (txt 53 "b") ∷ [])) ∷ []) ∷ []) ∷ []) ≡ (fault 0 28 kinds.KindsDiffer ∷ fault 0 34 kinds.KindsDiffer ∷ fault 0 40 kinds.KindsDiffer ∷ fault 0 46 kinds.KindsDiffer ∷ fault 0 52 kinds.KindsDiffer ∷ [])
words = refl

-- FUNCTION Main() INT x; x = -1; x = NOT 1; x = -"a"; x = NOT "a"; x = --"a"; END
signs : faults ((function 1 "Main" (declare 4 (int 4) (plain 5 "x" ∷ []) ∷ assign 7 "x" 8 (minus 9 (num 10 1)) ∷ assign 12 "x" 13 (not 14 (num 15 1)) ∷ assign 17 "x" 18 (minus 19 (txt 20 "a")) ∷ assign 22 "x" 23 (not 24 (txt 25 "a")) ∷ assign 27 "x" 28 (minus 29 (minus 30 (txt 31 "a"))) ∷ []) ∷ []) ∷ []) ≡ (fault 0 19 kinds.KindsDiffer ∷ fault 0 24 kinds.KindsDiffer ∷ fault 0 30 kinds.KindsDiffer ∷ [])
signs = refl

-- FUNCTION Main() STRING s; INT x; s = 1:## + "a"; s = "a":##; x = 1:#; s = 1:#:#; END
formed_texts : faults ((function 1 "Main" (declare 4 (string 4) (plain 5 "s" ∷ []) ∷ declare 7 (int 7) (plain 8 "x" ∷ []) ∷ assign 10 "s" 11 (chain 12 15 (chain 12 13 (num 12 1) (form 13 2 ∷ [])) (op 15 operator.Plus (txt 16 "a") ∷ [])) ∷ assign 18 "s" 19 (chain 20 21 (txt 20 "a") (form 21 2 ∷ [])) ∷ assign 24 "x" 25 (chain 26 27 (num 26 1) (form 27 1 ∷ [])) ∷ assign 30 "s" 31 (chain 32 33 (num 32 1) (form 33 1 ∷ form 35 1 ∷ [])) ∷ []) ∷ []) ∷ []) ≡ (fault 0 21 kinds.KindsDiffer ∷ fault 0 25 kinds.KindsDiffer ∷ fault 0 35 kinds.KindsDiffer ∷ [])
formed_texts = refl

-- FUNCTION Main() INT x; STRING s; x = ("a" = "b") + 1; s = "a" = "b"; END
comparison_gives_a_number : faults ((function 1 "Main" (declare 4 (int 4) (plain 5 "x" ∷ []) ∷ declare 7 (string 7) (plain 8 "s" ∷ []) ∷ assign 10 "x" 11 (chain 12 17 (parens 12 (chain 13 14 (txt 13 "a") (op 14 operator.Equal (txt 15 "b") ∷ []))) (op 17 operator.Plus (num 18 1) ∷ [])) ∷ assign 20 "s" 21 (chain 22 23 (txt 22 "a") (op 23 operator.Equal (txt 24 "b") ∷ [])) ∷ []) ∷ []) ∷ []) ≡ (fault 0 21 kinds.KindsDiffer ∷ [])
comparison_gives_a_number = refl

-- Assignments, arguments and parts of statements

-- STRING t; INT a[2]; STRING b[2]; FUNCTION F(INT p) STRING s; s = 1; t = p; p = "a"; a[0] = "a"; b[1] = 2; b[p] = "a"; END
assignments : faults ((variable 1 "t" (string 0) ∷ variable_array 4 "a" (int 3) 6 (pos 2) ∷ variable_array 10 "b" (string 9) 12 (pos 2) ∷ public_function 16 "F" None (param 19 "p" (int 18) ∷ []) (declare 21 (string 21) (plain 22 "s" ∷ []) ∷ assign 24 "s" 25 (num 26 1) ∷ assign 28 "t" 29 (var 30 "p") ∷ assign 32 "p" 33 (txt 34 "a") ∷ set_element 36 "a" (num 38 0) 40 (txt 41 "a") ∷ set_element 43 "b" (num 45 1) 47 (num 48 2) ∷ set_element 50 "b" (var 52 "p") 54 (txt 55 "a") ∷ []) ∷ []) ∷ []) ≡ (fault 0 25 kinds.KindsDiffer ∷ fault 0 29 kinds.KindsDiffer ∷ fault 0 33 kinds.KindsDiffer ∷ fault 0 40 kinds.KindsDiffer ∷ fault 0 47 kinds.KindsDiffer ∷ [])
assignments = refl

-- FUNCTION F(INT n, STRING s = "") F(1, "a"); F("a", 1); F("b"); TraceMsg(2); TraceMsg((3)); END
arguments : faults ((public_function 1 "F" None (param 4 "n" (int 3) ∷ param_first 7 "s" (string 6) (first_text 9 "") ∷ []) (do_call 11 "F" (num 13 1 ∷ txt 15 "a" ∷ []) ∷ do_call 18 "F" (txt 20 "a" ∷ num 22 1 ∷ []) ∷ do_call 25 "F" (txt 27 "b" ∷ []) ∷ do_call 30 "TraceMsg" (num 32 2 ∷ []) ∷ do_call 35 "TraceMsg" (parens 37 (num 38 3) ∷ []) ∷ []) ∷ []) ∷ []) ≡ (fault 0 20 kinds.KindsDiffer ∷ fault 0 22 kinds.KindsDiffer ∷ fault 0 27 kinds.KindsDiffer ∷ fault 0 32 kinds.KindsDiffer ∷ fault 0 37 kinds.KindsDiffer ∷ [])
arguments = refl

-- FUNCTION Main() IF "a" THEN END WHILE ("a" + "b") DO END IF 1:# = " 1" THEN END END
conditions : faults ((function 1 "Main" (if_then 4 (txt 5 "a") [] ∷ while 8 (parens 9 (chain 10 11 (txt 10 "a") (op 11 operator.Plus (txt 12 "b") ∷ []))) [] ∷ if_then 16 (chain 17 20 (chain 17 18 (num 17 1) (form 18 1 ∷ [])) (op 20 operator.Equal (txt 21 " 1") ∷ [])) [] ∷ []) ∷ []) ∷ []) ≡ (fault 0 5 kinds.KindsDiffer ∷ fault 0 9 kinds.KindsDiffer ∷ [])
conditions = refl

-- INT a[2]; FUNCTION Main() INT x; a["0"] = 1; x = a[("1")]; x = a[a[0]]; a[x:#] = a[1]; END
indexes : faults ((variable_array 1 "a" (int 0) 3 (pos 2) ∷ function 7 "Main" (declare 10 (int 10) (plain 11 "x" ∷ []) ∷ set_element 13 "a" (txt 15 "0") 17 (num 18 1) ∷ assign 20 "x" 21 (elem 22 "a" (parens 24 (txt 25 "1"))) ∷ assign 29 "x" 30 (elem 31 "a" (elem 33 "a" (num 35 0))) ∷ set_element 39 "a" (chain 41 42 (var 41 "x") (form 42 1 ∷ [])) 45 (elem 46 "a" (num 48 1)) ∷ []) ∷ []) ∷ []) ≡ (fault 0 15 kinds.KindsDiffer ∷ fault 0 24 kinds.KindsDiffer ∷ fault 0 41 kinds.KindsDiffer ∷ [])
indexes = refl

-- FUNCTION Main() INT i; FOR i = "a" TO "b" DO END FOR i = ("1") TO 2 DO END END
bounds : faults ((function 1 "Main" (declare 4 (int 4) (plain 5 "i" ∷ []) ∷ for 7 8 "i" (txt 10 "a") (txt 12 "b") [] ∷ for 15 16 "i" (parens 18 (txt 19 "1")) (num 22 2) [] ∷ []) ∷ []) ∷ []) ≡ (fault 0 10 kinds.KindsDiffer ∷ fault 0 12 kinds.KindsDiffer ∷ fault 0 18 kinds.KindsDiffer ∷ [])
bounds = refl

-- STRING t; GLOBAL INT g; FUNCTION F(INT p) STRING s; FOR s = 1 TO 2 DO END FOR t = 1 TO 2 DO END FOR g = 1 TO 2 DO END FOR p = 1 TO 2 DO END END
counters : faults ((variable 1 "t" (string 0) ∷ global 5 "g" (int 4) ∷ public_function 8 "F" None (param 11 "p" (int 10) ∷ []) (declare 13 (string 13) (plain 14 "s" ∷ []) ∷ for 16 17 "s" (num 19 1) (num 21 2) [] ∷ for 24 25 "t" (num 27 1) (num 29 2) [] ∷ for 32 33 "g" (num 35 1) (num 37 2) [] ∷ for 40 41 "p" (num 43 1) (num 45 2) [] ∷ []) ∷ []) ∷ []) ≡ (fault 0 17 kinds.KindsDiffer ∷ fault 0 25 kinds.KindsDiffer ∷ [])
counters = refl

-- FUNCTION Main() SELECT CASE 1 CASE 1, "a", 1 TO "b", "c" TO 2, "d" TO "e", IS > "f", IS = 2 CASE ("g") END SELECT END
labels_of_a_number : faults ((function 1 "Main" (select 4 (num 6 1) (case 7 (one (num 8 1) ∷ one (txt 10 "a") ∷ range (num 12 1) (txt 14 "b") ∷ range (txt 16 "c") (num 18 2) ∷ range (txt 20 "d") (txt 22 "e") ∷ compared 24 relation.Greater (txt 26 "f") ∷ compared 28 relation.Equal (num 30 2) ∷ []) [] ∷ case 31 (one (parens 32 (txt 33 "g")) ∷ []) [] ∷ []) ∷ []) ∷ []) ∷ []) ≡ (fault 0 10 kinds.KindsDiffer ∷ fault 0 14 kinds.KindsDiffer ∷ fault 0 16 kinds.KindsDiffer ∷ fault 0 20 kinds.KindsDiffer ∷ fault 0 22 kinds.KindsDiffer ∷ fault 0 26 kinds.KindsDiffer ∷ fault 0 32 kinds.KindsDiffer ∷ [])
labels_of_a_number = refl

-- FUNCTION Main() SELECT CASE "a" CASE 1 CASE "a" TO "b", 1 TO "b", "a" TO 2, IS < 3 END SELECT END
labels_of_a_text : faults ((function 1 "Main" (select 4 (txt 6 "a") (case 7 (one (num 8 1) ∷ []) [] ∷ case 9 (range (txt 10 "a") (txt 12 "b") ∷ range (num 14 1) (txt 16 "b") ∷ range (txt 18 "a") (num 20 2) ∷ compared 22 relation.Less (num 24 3) ∷ []) [] ∷ []) ∷ []) ∷ []) ∷ []) ≡ (fault 0 8 kinds.KindsDiffer ∷ fault 0 14 kinds.KindsDiffer ∷ fault 0 20 kinds.KindsDiffer ∷ fault 0 24 kinds.KindsDiffer ∷ [])
labels_of_a_text = refl

-- STRING FUNCTION F() RETURN 1; END INT FUNCTION G() RETURN ("a"); END INT FUNCTION H() RETURN H(); END
returned_values : faults ((public_function 2 "F" (Some (string 0)) [] (return_value 5 (num 6 1) ∷ []) ∷ public_function 11 "G" (Some (int 9)) [] (return_value 14 (parens 15 (txt 16 "a")) ∷ []) ∷ public_function 22 "H" (Some (int 20)) [] (return_value 25 (call 26 "H" []) ∷ []) ∷ []) ∷ []) ≡ (fault 0 6 kinds.KindsDiffer ∷ fault 0 15 kinds.KindsDiffer ∷ [])
returned_values = refl

-- FUNCTION Main() INT x = "a", y = 1; STRING s = -1, t = "b", u = (x); END
first_values_of_locals : faults ((function 1 "Main" (declare 4 (int 4) (valued 5 "x" (txt 7 "a") ∷ valued 9 "y" (num 11 1) ∷ []) ∷ declare 13 (string 13) (valued 14 "s" (minus 16 (num 17 1)) ∷ valued 19 "t" (txt 21 "b") ∷ valued 23 "u" (parens 25 (var 26 "x")) ∷ []) ∷ []) ∷ []) ∷ []) ≡ (fault 0 7 kinds.KindsDiffer ∷ fault 0 16 kinds.KindsDiffer ∷ fault 0 25 kinds.KindsDiffer ∷ [])
first_values_of_locals = refl

-- INT x = "a"; STRING s = 1, t = -1, u = "b"; GLOBAL INT y = -1;
first_values_of_variables : faults ((variable_first 1 "x" (int 0) (first_text 3 "a") ∷ variable_first 6 "s" (string 5) (first_number 8 1) ∷ variable_first 10 "t" (string 5) (first_negative 12 1) ∷ variable_first 15 "u" (string 5) (first_text 17 "b") ∷ global_first 21 "y" (int 20) (first_negative 23 1) ∷ []) ∷ []) ≡ (fault 0 3 kinds.KindsDiffer ∷ fault 0 8 kinds.KindsDiffer ∷ fault 0 12 kinds.KindsDiffer ∷ [])
first_values_of_variables = refl

-- FUNCTION F(INT a = "a", STRING b = -1, STRING c = "", INT d = 2) END
first_values_of_parameters : faults ((public_function 1 "F" None (param_first 4 "a" (int 3) (first_text 6 "a") ∷ param_first 9 "b" (string 8) (first_negative 11 1) ∷ param_first 15 "c" (string 14) (first_text 17 "") ∷ param_first 20 "d" (int 19) (first_number 22 2) ∷ []) [] ∷ []) ∷ []) ≡ (fault 0 6 kinds.KindsDiffer ∷ fault 0 11 kinds.KindsDiffer ∷ [])
first_values_of_parameters = refl

-- FUNCTION P() P(); END INT FUNCTION F() INT x = P(); x = 1 + P(); TraceMsg(P()); IF P() THEN END RETURN P(); END
value_of_a_function_without_a_type : faults ((function 1 "P" (do_call 4 "P" [] ∷ []) ∷ public_function 11 "F" (Some (int 9)) [] (declare 14 (int 14) (valued 15 "x" (call 17 "P" []) ∷ []) ∷ assign 21 "x" 22 (chain 23 24 (num 23 1) (op 24 operator.Plus (call 25 "P" []) ∷ [])) ∷ do_call 29 "TraceMsg" (call 31 "P" [] ∷ []) ∷ if_then 36 (call 37 "P" []) [] ∷ return_value 42 (call 43 "P" []) ∷ []) ∷ []) ∷ []) ≡ (fault 0 17 kinds.KindsDiffer ∷ fault 0 25 kinds.KindsDiffer ∷ fault 0 31 kinds.KindsDiffer ∷ fault 0 37 kinds.KindsDiffer ∷ fault 0 43 kinds.KindsDiffer ∷ [])
value_of_a_function_without_a_type = refl

-- FUNCTION Main() INT n; STRING s; n = StrLength("a"); s = StrLeft("a", 1); s = StrRight("a", 1); s = StrMid("a", 1, 2); n = StrSearch(0, "a", "b"); s = StrUpper("a"); s = StrLower("a"); s = StrTrim("a"); s = StrFill("a", 1); END
private_functions : faults ((function 1 "Main" (declare 4 (int 4) (plain 5 "n" ∷ []) ∷ declare 7 (string 7) (plain 8 "s" ∷ []) ∷ assign 10 "n" 11 (call 12 "StrLength" (txt 14 "a" ∷ [])) ∷ assign 17 "s" 18 (call 19 "StrLeft" (txt 21 "a" ∷ num 23 1 ∷ [])) ∷ assign 26 "s" 27 (call 28 "StrRight" (txt 30 "a" ∷ num 32 1 ∷ [])) ∷ assign 35 "s" 36 (call 37 "StrMid" (txt 39 "a" ∷ num 41 1 ∷ num 43 2 ∷ [])) ∷ assign 46 "n" 47 (call 48 "StrSearch" (num 50 0 ∷ txt 52 "a" ∷ txt 54 "b" ∷ [])) ∷ assign 57 "s" 58 (call 59 "StrUpper" (txt 61 "a" ∷ [])) ∷ assign 64 "s" 65 (call 66 "StrLower" (txt 68 "a" ∷ [])) ∷ assign 71 "s" 72 (call 73 "StrTrim" (txt 75 "a" ∷ [])) ∷ assign 78 "s" 79 (call 80 "StrFill" (txt 82 "a" ∷ num 84 1 ∷ [])) ∷ []) ∷ []) ∷ []) ≡ []
private_functions = refl

-- FUNCTION Main() INT n; STRING s; n = StrToInt("1"); s = IntToStr(1); n = StrGetChar("a", 0); s = CharToStr(65); n = Abs(1); n = Max(1, 2); n = Min(1, 2); n = Assert(1); n = ErrSet(1); n = IsError(); END
more_private_functions : faults ((function 1 "Main" (declare 4 (int 4) (plain 5 "n" ∷ []) ∷ declare 7 (string 7) (plain 8 "s" ∷ []) ∷ assign 10 "n" 11 (call 12 "StrToInt" (txt 14 "1" ∷ [])) ∷ assign 17 "s" 18 (call 19 "IntToStr" (num 21 1 ∷ [])) ∷ assign 24 "n" 25 (call 26 "StrGetChar" (txt 28 "a" ∷ num 30 0 ∷ [])) ∷ assign 33 "s" 34 (call 35 "CharToStr" (num 37 65 ∷ [])) ∷ assign 40 "n" 41 (call 42 "Abs" (num 44 1 ∷ [])) ∷ assign 47 "n" 48 (call 49 "Max" (num 51 1 ∷ num 53 2 ∷ [])) ∷ assign 56 "n" 57 (call 58 "Min" (num 60 1 ∷ num 62 2 ∷ [])) ∷ assign 65 "n" 66 (call 67 "Assert" (num 69 1 ∷ [])) ∷ assign 72 "n" 73 (call 74 "ErrSet" (num 76 1 ∷ [])) ∷ assign 79 "n" 80 (call 81 "IsError" []) ∷ []) ∷ []) ∷ []) ≡ []
more_private_functions = refl

-- FUNCTION F() INT n; n = TaskNew("F", "", 0); n = TaskKill(1); n = TaskSuspend(1); n = TaskResume(1); n = TaskHnd("F"); n = TaskHnd(); n = Sleep(1); n = SleepMS(1); n = SysTime(); n = Halt(); END
shared_functions : faults ((function 1 "F" (declare 4 (int 4) (plain 5 "n" ∷ []) ∷ assign 7 "n" 8 (call 9 "TaskNew" (txt 11 "F" ∷ txt 13 "" ∷ num 15 0 ∷ [])) ∷ assign 18 "n" 19 (call 20 "TaskKill" (num 22 1 ∷ [])) ∷ assign 25 "n" 26 (call 27 "TaskSuspend" (num 29 1 ∷ [])) ∷ assign 32 "n" 33 (call 34 "TaskResume" (num 36 1 ∷ [])) ∷ assign 39 "n" 40 (call 41 "TaskHnd" (txt 43 "F" ∷ [])) ∷ assign 46 "n" 47 (call 48 "TaskHnd" []) ∷ assign 52 "n" 53 (call 54 "Sleep" (num 56 1 ∷ [])) ∷ assign 59 "n" 60 (call 61 "SleepMS" (num 63 1 ∷ [])) ∷ assign 66 "n" 67 (call 68 "SysTime" []) ∷ assign 72 "n" 73 (call 74 "Halt" []) ∷ []) ∷ []) ∷ []) ≡ []
shared_functions = refl

-- FUNCTION Main() INT n; STRING s; n = SemOpen("s", 1); n = SemWait(n, 1); n = SemSignal(n); n = SemClose(n); n = QueOpen("q", 1); n = QueWrite(n, 1, "a"); n = QueRead(n, n, s, 0); n = QueLength(n); n = QueClose(n); END
shared_functions_on_objects : faults ((function 1 "Main" (declare 4 (int 4) (plain 5 "n" ∷ []) ∷ declare 7 (string 7) (plain 8 "s" ∷ []) ∷ assign 10 "n" 11 (call 12 "SemOpen" (txt 14 "s" ∷ num 16 1 ∷ [])) ∷ assign 19 "n" 20 (call 21 "SemWait" (var 23 "n" ∷ num 25 1 ∷ [])) ∷ assign 28 "n" 29 (call 30 "SemSignal" (var 32 "n" ∷ [])) ∷ assign 35 "n" 36 (call 37 "SemClose" (var 39 "n" ∷ [])) ∷ assign 42 "n" 43 (call 44 "QueOpen" (txt 46 "q" ∷ num 48 1 ∷ [])) ∷ assign 51 "n" 52 (call 53 "QueWrite" (var 55 "n" ∷ num 57 1 ∷ txt 59 "a" ∷ [])) ∷ assign 62 "n" 63 (call 64 "QueRead" (var 66 "n" ∷ var 68 "n" ∷ var 70 "s" ∷ num 72 0 ∷ [])) ∷ assign 75 "n" 76 (call 77 "QueLength" (var 79 "n" ∷ [])) ∷ assign 82 "n" 83 (call 84 "QueClose" (var 86 "n" ∷ [])) ∷ []) ∷ []) ∷ []) ≡ []
shared_functions_on_objects = refl

-- FUNCTION Main() INT n; n = EnterCriticalSection("c"); n = LeaveCriticalSection("c"); n = TraceMsg("t"); n = 1 + "a"; END
shared_functions_on_texts : faults ((function 1 "Main" (declare 4 (int 4) (plain 5 "n" ∷ []) ∷ assign 7 "n" 8 (call 9 "EnterCriticalSection" (txt 11 "c" ∷ [])) ∷ assign 14 "n" 15 (call 16 "LeaveCriticalSection" (txt 18 "c" ∷ [])) ∷ assign 21 "n" 22 (call 23 "TraceMsg" (txt 25 "t" ∷ [])) ∷ assign 28 "n" 29 (chain 30 31 (num 30 1) (op 31 operator.Plus (txt 32 "a") ∷ [])) ∷ []) ∷ []) ∷ []) ≡ (fault 0 31 kinds.KindsDiffer ∷ [])
shared_functions_on_texts = refl

-- FUNCTION Main() StrLength(1); StrFill(1, "a"); StrSearch("0", 1, 2); IntToStr("a"); TaskNew(1, 2, "0"); TaskHnd(1); QueWrite("q", "n", 1); Sleep("1"); END
arguments_of_other_kinds : faults ((function 1 "Main" (do_call 4 "StrLength" (num 6 1 ∷ []) ∷ do_call 9 "StrFill" (num 11 1 ∷ txt 13 "a" ∷ []) ∷ do_call 16 "StrSearch" (txt 18 "0" ∷ num 20 1 ∷ num 22 2 ∷ []) ∷ do_call 25 "IntToStr" (txt 27 "a" ∷ []) ∷ do_call 30 "TaskNew" (num 32 1 ∷ num 34 2 ∷ txt 36 "0" ∷ []) ∷ do_call 39 "TaskHnd" (num 41 1 ∷ []) ∷ do_call 44 "QueWrite" (txt 46 "q" ∷ txt 48 "n" ∷ num 50 1 ∷ []) ∷ do_call 53 "Sleep" (txt 55 "1" ∷ []) ∷ []) ∷ []) ∷ []) ≡ (fault 0 6 kinds.KindsDiffer ∷ fault 0 11 kinds.KindsDiffer ∷ fault 0 13 kinds.KindsDiffer ∷ fault 0 18 kinds.KindsDiffer ∷ fault 0 20 kinds.KindsDiffer ∷ fault 0 22 kinds.KindsDiffer ∷ fault 0 27 kinds.KindsDiffer ∷ fault 0 32 kinds.KindsDiffer ∷ fault 0 34 kinds.KindsDiffer ∷ fault 0 36 kinds.KindsDiffer ∷ fault 0 41 kinds.KindsDiffer ∷ fault 0 46 kinds.KindsDiffer ∷ fault 0 48 kinds.KindsDiffer ∷ fault 0 50 kinds.KindsDiffer ∷ fault 0 55 kinds.KindsDiffer ∷ [])
arguments_of_other_kinds = refl

-- A part with a fault has no kind

-- FUNCTION Main() INT x; x = 1 + y; x = "a" = y; x = y; x = "a" * (1 + "b"); x = "a" + (1 + "b"); END
operators_beside_a_fault : faults ((function 1 "Main" (declare 4 (int 4) (plain 5 "x" ∷ []) ∷ assign 7 "x" 8 (chain 9 10 (num 9 1) (op 10 operator.Plus (var 11 "y") ∷ [])) ∷ assign 13 "x" 14 (chain 15 16 (txt 15 "a") (op 16 operator.Equal (var 17 "y") ∷ [])) ∷ assign 19 "x" 20 (var 21 "y") ∷ assign 23 "x" 24 (chain 25 26 (txt 25 "a") (op 26 operator.Times (parens 27 (chain 28 29 (num 28 1) (op 29 operator.Plus (txt 30 "b") ∷ []))) ∷ [])) ∷ assign 33 "x" 34 (chain 35 36 (txt 35 "a") (op 36 operator.Plus (parens 37 (chain 38 39 (num 38 1) (op 39 operator.Plus (txt 40 "b") ∷ []))) ∷ [])) ∷ []) ∷ []) ∷ []) ≡ (fault 0 11 kinds.NameUnknown ∷ fault 0 17 kinds.NameUnknown ∷ fault 0 21 kinds.NameUnknown ∷ fault 0 26 kinds.KindsDiffer ∷ fault 0 29 kinds.KindsDiffer ∷ fault 0 39 kinds.KindsDiffer ∷ [])
operators_beside_a_fault = refl

-- FUNCTION Main() INT x; x = "a" - 1 + "b"; x = 1 - "a" - "b"; x = y - 1 - "a"; x = ("a" - 1):# + 2; END
operators_behind_a_fault : faults ((function 1 "Main" (declare 4 (int 4) (plain 5 "x" ∷ []) ∷ assign 7 "x" 8 (chain 9 10 (txt 9 "a") (op 10 operator.Minus (num 11 1) ∷ op 12 operator.Plus (txt 13 "b") ∷ [])) ∷ assign 15 "x" 16 (chain 17 18 (num 17 1) (op 18 operator.Minus (txt 19 "a") ∷ op 20 operator.Minus (txt 21 "b") ∷ [])) ∷ assign 23 "x" 24 (chain 25 26 (var 25 "y") (op 26 operator.Minus (num 27 1) ∷ op 28 operator.Minus (txt 29 "a") ∷ [])) ∷ assign 31 "x" 32 (chain 33 40 (chain 33 38 (parens 33 (chain 34 35 (txt 34 "a") (op 35 operator.Minus (num 36 1) ∷ []))) (form 38 1 ∷ [])) (op 40 operator.Plus (num 41 2) ∷ [])) ∷ []) ∷ []) ∷ []) ≡ (fault 0 10 kinds.KindsDiffer ∷ fault 0 18 kinds.KindsDiffer ∷ fault 0 20 kinds.KindsDiffer ∷ fault 0 25 kinds.NameUnknown ∷ fault 0 28 kinds.KindsDiffer ∷ fault 0 35 kinds.KindsDiffer ∷ [])
operators_behind_a_fault = refl

-- INT a[2]; STRING FUNCTION F() IF y THEN END a[y] = 1; TraceMsg(G()); TraceMsg(IntToStr("a")); RETURN y; END
parts_with_a_fault : faults ((variable_array 1 "a" (int 0) 3 (pos 2) ∷ public_function 8 "F" (Some (string 6)) [] (if_then 11 (var 12 "y") [] ∷ set_element 15 "a" (var 17 "y") 19 (num 20 1) ∷ do_call 22 "TraceMsg" (call 24 "G" [] ∷ []) ∷ do_call 29 "TraceMsg" (call 31 "IntToStr" (txt 33 "a" ∷ []) ∷ []) ∷ return_value 37 (var 38 "y") ∷ []) ∷ []) ∷ []) ≡ (fault 0 12 kinds.NameUnknown ∷ fault 0 17 kinds.NameUnknown ∷ fault 0 24 kinds.NameUnknown ∷ fault 0 33 kinds.KindsDiffer ∷ fault 0 38 kinds.NameUnknown ∷ [])
parts_with_a_fault = refl

-- FUNCTION Main() SELECT CASE y CASE 1, "a" TO 2 CASE IS < "b" END SELECT END
subject_with_a_fault : faults ((function 1 "Main" (select 4 (var 6 "y") (case 7 (one (num 8 1) ∷ range (txt 10 "a") (num 12 2) ∷ []) [] ∷ case 13 (compared 14 relation.Less (txt 16 "b") ∷ []) [] ∷ []) ∷ []) ∷ []) ∷ []) ≡ (fault 0 6 kinds.NameUnknown ∷ [])
subject_with_a_fault = refl

-- FUNCTION Main() STRING s; s = Abs(y) + "a"; s = Abs("b") + "a"; s = Abs() + "a"; s = Abs(1, 2); END
calls_with_a_fault : faults ((function 1 "Main" (declare 4 (string 4) (plain 5 "s" ∷ []) ∷ assign 7 "s" 8 (chain 9 13 (call 9 "Abs" (var 11 "y" ∷ [])) (op 13 operator.Plus (txt 14 "a") ∷ [])) ∷ assign 16 "s" 17 (chain 18 22 (call 18 "Abs" (txt 20 "b" ∷ [])) (op 22 operator.Plus (txt 23 "a") ∷ [])) ∷ assign 25 "s" 26 (chain 27 30 (call 27 "Abs" []) (op 30 operator.Plus (txt 31 "a") ∷ [])) ∷ assign 33 "s" 34 (call 35 "Abs" (num 37 1 ∷ num 39 2 ∷ [])) ∷ []) ∷ []) ∷ []) ≡ (fault 0 11 kinds.NameUnknown ∷ fault 0 20 kinds.KindsDiffer ∷ fault 0 27 kinds.ArgumentCount ∷ fault 0 35 kinds.ArgumentCount ∷ [])
calls_with_a_fault = refl

-- INT a[2]; FUNCTION Main() INT x; y = "a"; x[0] = "a"; a = "a"; a["b"] = "c"; x["d"] = z; END
target_with_a_fault : faults ((variable_array 1 "a" (int 0) 3 (pos 2) ∷ function 7 "Main" (declare 10 (int 10) (plain 11 "x" ∷ []) ∷ assign 13 "y" 14 (txt 15 "a") ∷ set_element 17 "x" (num 19 0) 21 (txt 22 "a") ∷ assign 24 "a" 25 (txt 26 "a") ∷ set_element 28 "a" (txt 30 "b") 32 (txt 33 "c") ∷ set_element 35 "x" (txt 37 "d") 39 (var 40 "z") ∷ []) ∷ []) ∷ []) ≡ (fault 0 13 kinds.NameUnknown ∷ fault 0 17 kinds.IndexOnScalar ∷ fault 0 24 kinds.IndexMissing ∷ fault 0 30 kinds.KindsDiffer ∷ fault 0 35 kinds.IndexOnScalar ∷ fault 0 37 kinds.KindsDiffer ∷ fault 0 40 kinds.NameUnknown ∷ [])
target_with_a_fault = refl
