-- Numbers of arguments, defaults, and the arguments that QueRead sets.
use Rattle.std.specs.Prelude.{◌≡◌, refl, [], ◌∷◌, None, pos}
use Rattle.ci_tree.specs.declared.tree.Operator.TheVariants as operator
use Rattle.ci_names.specs.declared.fault.BindKind.TheVariants as kinds
use Rattle.ci_names.specs.Faults.{faults}
use Rattle.ci_names.proofs.Examples.Trees.{fault, int, string, num, txt, var, elem, call, minus, parens, chain, op, plain, declare, assign, do_call, first_number, first_text, param, param_first, function, public_function, variable, variable_array}

-- Argument count

-- FUNCTION F(INT a, STRING b) F(1, "a"); F(); F(1); F(1, "a", 2); END
counts : faults ((public_function 1 "F" None (param 4 "a" (int 3) ∷ param 7 "b" (string 6) ∷ []) (do_call 9 "F" (num 11 1 ∷ txt 13 "a" ∷ []) ∷ do_call 16 "F" [] ∷ do_call 20 "F" (num 22 1 ∷ []) ∷ do_call 25 "F" (num 27 1 ∷ txt 29 "a" ∷ num 31 2 ∷ []) ∷ []) ∷ []) ∷ []) ≡ (fault 0 16 kinds.ArgumentCount ∷ fault 0 20 kinds.ArgumentCount ∷ fault 0 25 kinds.ArgumentCount ∷ [])
counts = refl

-- FUNCTION Main() INT x; x = StrLength(); x = IsError(1); x = Abs(Max(1)); Halt(0); TraceMsg("a", "b"); END
counts_in_expressions : faults ((function 1 "Main" (declare 4 (int 4) (plain 5 "x" ∷ []) ∷ assign 7 "x" 8 (call 9 "StrLength" []) ∷ assign 13 "x" 14 (call 15 "IsError" (num 17 1 ∷ [])) ∷ assign 20 "x" 21 (call 22 "Abs" (call 24 "Max" (num 26 1 ∷ []) ∷ [])) ∷ do_call 30 "Halt" (num 32 0 ∷ []) ∷ do_call 35 "TraceMsg" (txt 37 "a" ∷ txt 39 "b" ∷ []) ∷ []) ∷ []) ∷ []) ≡ (fault 0 9 kinds.ArgumentCount ∷ fault 0 15 kinds.ArgumentCount ∷ fault 0 24 kinds.ArgumentCount ∷ fault 0 30 kinds.ArgumentCount ∷ fault 0 35 kinds.ArgumentCount ∷ [])
counts_in_expressions = refl

-- FUNCTION F(INT a, INT b = 1, STRING c = "") F(); F(1); F(1, 2); F(1, 2, "c"); F(1, 2, "c", 4); END
counts_with_defaults : faults ((public_function 1 "F" None (param 4 "a" (int 3) ∷ param_first 7 "b" (int 6) (first_number 9 1) ∷ param_first 12 "c" (string 11) (first_text 14 "") ∷ []) (do_call 16 "F" [] ∷ do_call 20 "F" (num 22 1 ∷ []) ∷ do_call 25 "F" (num 27 1 ∷ num 29 2 ∷ []) ∷ do_call 32 "F" (num 34 1 ∷ num 36 2 ∷ txt 38 "c" ∷ []) ∷ do_call 41 "F" (num 43 1 ∷ num 45 2 ∷ txt 47 "c" ∷ num 49 4 ∷ []) ∷ []) ∷ []) ∷ []) ≡ (fault 0 16 kinds.ArgumentCount ∷ fault 0 41 kinds.ArgumentCount ∷ [])
counts_with_defaults = refl

-- FUNCTION Main() TaskHnd(); TaskHnd("F"); TaskHnd("F", 1); TaskKill(); END
name_of_a_task_may_be_left_out : faults ((function 1 "Main" (do_call 4 "TaskHnd" [] ∷ do_call 8 "TaskHnd" (txt 10 "F" ∷ []) ∷ do_call 13 "TaskHnd" (txt 15 "F" ∷ num 17 1 ∷ []) ∷ do_call 20 "TaskKill" [] ∷ []) ∷ []) ∷ []) ≡ (fault 0 13 kinds.ArgumentCount ∷ fault 0 20 kinds.ArgumentCount ∷ [])
name_of_a_task_may_be_left_out = refl

-- FUNCTION F() F(x, 1 + "a"); Abs("a", y); StrLeft(1); END
faults_of_too_many_arguments : faults ((function 1 "F" (do_call 4 "F" (var 6 "x" ∷ chain 8 9 (num 8 1) (op 9 operator.Plus (txt 10 "a") ∷ []) ∷ []) ∷ do_call 13 "Abs" (txt 15 "a" ∷ var 17 "y" ∷ []) ∷ do_call 20 "StrLeft" (num 22 1 ∷ []) ∷ []) ∷ []) ∷ []) ≡ (fault 0 4 kinds.ArgumentCount ∷ fault 0 6 kinds.NameUnknown ∷ fault 0 9 kinds.KindsDiffer ∷ fault 0 13 kinds.ArgumentCount ∷ fault 0 15 kinds.KindsDiffer ∷ fault 0 17 kinds.NameUnknown ∷ fault 0 20 kinds.ArgumentCount ∷ fault 0 22 kinds.KindsDiffer ∷ [])
faults_of_too_many_arguments = refl

-- FUNCTION F(INT a = 1, INT b) END
parameter_without_a_default : faults ((public_function 1 "F" None (param_first 4 "a" (int 3) (first_number 6 1) ∷ param 9 "b" (int 8) ∷ []) [] ∷ []) ∷ []) ≡ (fault 0 9 kinds.ArgumentCount ∷ [])
parameter_without_a_default = refl

-- FUNCTION F(INT a, INT b = 1, INT c, INT d = 2, STRING e) END
parameters_without_defaults : faults ((public_function 1 "F" None (param 4 "a" (int 3) ∷ param_first 7 "b" (int 6) (first_number 9 1) ∷ param 12 "c" (int 11) ∷ param_first 15 "d" (int 14) (first_number 17 2) ∷ param 20 "e" (string 19) ∷ []) [] ∷ []) ∷ []) ≡ (fault 0 12 kinds.ArgumentCount ∷ fault 0 20 kinds.ArgumentCount ∷ [])
parameters_without_defaults = refl

-- FUNCTION Main() F(1); F(1, 2); END FUNCTION F(INT a = 1, INT b) END
call_with_a_default_too_early : faults ((function 1 "Main" (do_call 4 "F" (num 6 1 ∷ []) ∷ do_call 9 "F" (num 11 1 ∷ num 13 2 ∷ []) ∷ []) ∷ public_function 18 "F" None (param_first 21 "a" (int 20) (first_number 23 1) ∷ param 26 "b" (int 25) ∷ []) [] ∷ []) ∷ []) ≡ (fault 0 4 kinds.ArgumentCount ∷ fault 0 26 kinds.ArgumentCount ∷ [])
call_with_a_default_too_early = refl

-- Not a variable argument

-- INT c; STRING t; FUNCTION F(INT n, STRING s) QueRead(1, n, s, 0); QueRead(1, c, t, 1); QueRead(n, N, S, n); END
elements_read : faults ((variable 1 "c" (int 0) ∷ variable 4 "t" (string 3) ∷ public_function 7 "F" None (param 10 "n" (int 9) ∷ param 13 "s" (string 12) ∷ []) (do_call 15 "QueRead" (num 17 1 ∷ var 19 "n" ∷ var 21 "s" ∷ num 23 0 ∷ []) ∷ do_call 26 "QueRead" (num 28 1 ∷ var 30 "c" ∷ var 32 "t" ∷ num 34 1 ∷ []) ∷ do_call 37 "QueRead" (var 39 "n" ∷ var 41 "N" ∷ var 43 "S" ∷ var 45 "n" ∷ []) ∷ []) ∷ []) ∷ []) ≡ []
elements_read = refl

-- FUNCTION Main() INT n; STRING s; QueRead(1, 1, s, 0); QueRead(1, n, "s", 0); QueRead(1, n + 1, s + s, 0); QueRead(1, -n, s, 0); END
read_into_no_name : faults ((function 1 "Main" (declare 4 (int 4) (plain 5 "n" ∷ []) ∷ declare 7 (string 7) (plain 8 "s" ∷ []) ∷ do_call 10 "QueRead" (num 12 1 ∷ num 14 1 ∷ var 16 "s" ∷ num 18 0 ∷ []) ∷ do_call 21 "QueRead" (num 23 1 ∷ var 25 "n" ∷ txt 27 "s" ∷ num 29 0 ∷ []) ∷ do_call 32 "QueRead" (num 34 1 ∷ chain 36 37 (var 36 "n") (op 37 operator.Plus (num 38 1) ∷ []) ∷ chain 40 41 (var 40 "s") (op 41 operator.Plus (var 42 "s") ∷ []) ∷ num 44 0 ∷ []) ∷ do_call 47 "QueRead" (num 49 1 ∷ minus 51 (var 52 "n") ∷ var 54 "s" ∷ num 56 0 ∷ []) ∷ []) ∷ []) ∷ []) ≡ (fault 0 14 kinds.NotAVariableArgument ∷ fault 0 27 kinds.NotAVariableArgument ∷ fault 0 36 kinds.NotAVariableArgument ∷ fault 0 40 kinds.NotAVariableArgument ∷ fault 0 51 kinds.NotAVariableArgument ∷ [])
read_into_no_name = refl

-- FUNCTION Main() INT n; STRING s; QueRead(1, (n), (s), 0); END
read_into_parentheses : faults ((function 1 "Main" (declare 4 (int 4) (plain 5 "n" ∷ []) ∷ declare 7 (string 7) (plain 8 "s" ∷ []) ∷ do_call 10 "QueRead" (num 12 1 ∷ parens 14 (var 15 "n") ∷ parens 18 (var 19 "s") ∷ num 22 0 ∷ []) ∷ []) ∷ []) ∷ []) ≡ (fault 0 14 kinds.NotAVariableArgument ∷ fault 0 18 kinds.NotAVariableArgument ∷ [])
read_into_parentheses = refl

-- INT a[2]; FUNCTION Main() STRING s; QueRead(1, a[0], s, 0); QueRead(1, a, s, 0); QueRead(1, (a), s, 0); END
read_into_an_element : faults ((variable_array 1 "a" (int 0) 3 (pos 2) ∷ function 7 "Main" (declare 10 (string 10) (plain 11 "s" ∷ []) ∷ do_call 13 "QueRead" (num 15 1 ∷ elem 17 "a" (num 19 0) ∷ var 22 "s" ∷ num 24 0 ∷ []) ∷ do_call 27 "QueRead" (num 29 1 ∷ var 31 "a" ∷ var 33 "s" ∷ num 35 0 ∷ []) ∷ do_call 38 "QueRead" (num 40 1 ∷ parens 42 (var 43 "a") ∷ var 46 "s" ∷ num 48 0 ∷ []) ∷ []) ∷ []) ∷ []) ≡ (fault 0 17 kinds.NotAVariableArgument ∷ fault 0 31 kinds.IndexMissing ∷ fault 0 42 kinds.NotAVariableArgument ∷ fault 0 43 kinds.IndexMissing ∷ [])
read_into_an_element = refl

-- FUNCTION Main() INT n; STRING s; QueRead(1, s, n, 0); QueRead("1", n, s, "0"); END
read_into_the_other_kind : faults ((function 1 "Main" (declare 4 (int 4) (plain 5 "n" ∷ []) ∷ declare 7 (string 7) (plain 8 "s" ∷ []) ∷ do_call 10 "QueRead" (num 12 1 ∷ var 14 "s" ∷ var 16 "n" ∷ num 18 0 ∷ []) ∷ do_call 21 "QueRead" (txt 23 "1" ∷ var 25 "n" ∷ var 27 "s" ∷ txt 29 "0" ∷ []) ∷ []) ∷ []) ∷ []) ≡ (fault 0 14 kinds.KindsDiffer ∷ fault 0 16 kinds.KindsDiffer ∷ fault 0 23 kinds.KindsDiffer ∷ fault 0 29 kinds.KindsDiffer ∷ [])
read_into_the_other_kind = refl

-- FUNCTION P() STRING s; INT x; QueRead(1, nosuch(1), s, 0); QueRead(1, y, P, 0); QueRead(1, x[0], s, 0); QueRead(1, P(), s, 0); END
read_into_unknown_names : faults ((function 1 "P" (declare 4 (string 4) (plain 5 "s" ∷ []) ∷ declare 7 (int 7) (plain 8 "x" ∷ []) ∷ do_call 10 "QueRead" (num 12 1 ∷ call 14 "nosuch" (num 16 1 ∷ []) ∷ var 19 "s" ∷ num 21 0 ∷ []) ∷ do_call 24 "QueRead" (num 26 1 ∷ var 28 "y" ∷ var 30 "P" ∷ num 32 0 ∷ []) ∷ do_call 35 "QueRead" (num 37 1 ∷ elem 39 "x" (num 41 0) ∷ var 44 "s" ∷ num 46 0 ∷ []) ∷ do_call 49 "QueRead" (num 51 1 ∷ call 53 "P" [] ∷ var 57 "s" ∷ num 59 0 ∷ []) ∷ []) ∷ []) ∷ []) ≡ (fault 0 14 kinds.NameUnknown ∷ fault 0 14 kinds.NotAVariableArgument ∷ fault 0 28 kinds.NameUnknown ∷ fault 0 30 kinds.NotAVariable ∷ fault 0 39 kinds.NotAVariableArgument ∷ fault 0 39 kinds.IndexOnScalar ∷ fault 0 53 kinds.KindsDiffer ∷ fault 0 53 kinds.NotAVariableArgument ∷ [])
read_into_unknown_names = refl

-- FUNCTION Main() INT n; STRING s; QueRead(1, n, s); QueRead(1, 2); QueRead(1, n, s, 0, 1); END
read_too_few : faults ((function 1 "Main" (declare 4 (int 4) (plain 5 "n" ∷ []) ∷ declare 7 (string 7) (plain 8 "s" ∷ []) ∷ do_call 10 "QueRead" (num 12 1 ∷ var 14 "n" ∷ var 16 "s" ∷ []) ∷ do_call 19 "QueRead" (num 21 1 ∷ num 23 2 ∷ []) ∷ do_call 26 "QueRead" (num 28 1 ∷ var 30 "n" ∷ var 32 "s" ∷ num 34 0 ∷ num 36 1 ∷ []) ∷ []) ∷ []) ∷ []) ≡ (fault 0 10 kinds.ArgumentCount ∷ fault 0 19 kinds.ArgumentCount ∷ fault 0 23 kinds.NotAVariableArgument ∷ fault 0 26 kinds.ArgumentCount ∷ [])
read_too_few = refl

-- FUNCTION Main() INT n; STRING s; s = "a" + QueRead(1, 1, s, 0); s = "a" + QueRead(1, n, s, 0); END
value_of_a_read_with_a_fault : faults ((function 1 "Main" (declare 4 (int 4) (plain 5 "n" ∷ []) ∷ declare 7 (string 7) (plain 8 "s" ∷ []) ∷ assign 10 "s" 11 (chain 12 13 (txt 12 "a") (op 13 operator.Plus (call 14 "QueRead" (num 16 1 ∷ num 18 1 ∷ var 20 "s" ∷ num 22 0 ∷ [])) ∷ [])) ∷ assign 25 "s" 26 (chain 27 28 (txt 27 "a") (op 28 operator.Plus (call 29 "QueRead" (num 31 1 ∷ var 33 "n" ∷ var 35 "s" ∷ num 37 0 ∷ [])) ∷ [])) ∷ []) ∷ []) ∷ []) ≡ (fault 0 18 kinds.NotAVariableArgument ∷ fault 0 28 kinds.KindsDiffer ∷ [])
value_of_a_read_with_a_fault = refl
