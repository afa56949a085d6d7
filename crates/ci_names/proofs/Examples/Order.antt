-- The order of faults, and the first one.
use Rattle.std.specs.Prelude.{◌≡◌, refl, [], ◌∷◌, None, Some, pos}
use Rattle.ci_tree.specs.declared.tree.Operator.TheVariants as operator
use Rattle.ci_names.specs.declared.fault.BindKind.TheVariants as kinds
use Rattle.ci_names.specs.declared.fault.Limit.TheVariants as limits
use Rattle.ci_names.specs.Fault.{noted}
use Rattle.ci_names.specs.Faults.{faults}
use Rattle.ci_names.proofs.Examples.Trees.{fault, int, string, real, num, txt, var, call, parens, chain, op, form, plain, declare, assign, do_call, while, for, first_number, first_negative, param, param_first, function, public_function, variable, variable_first, variable_array, global_first}

-- no file at all
no_file : faults [] ≡ []
no_file = refl

-- a.ci: nothing
-- b.ci: nothing
empty_files : faults ([] ∷ [] ∷ []) ≡ []
empty_files = refl

-- a.ci: FUNCTION Main() y = 1; END
-- b.ci: INT a; INT a;
-- c.ci: FUNCTION F() TraceMsg(1); END
by_files : faults ((function 1 "Main" (assign 4 "y" 5 (num 6 1) ∷ []) ∷ []) ∷ (variable 1 "a" (int 0) ∷ variable 4 "a" (int 3) ∷ []) ∷ (function 1 "F" (do_call 4 "TraceMsg" (num 6 1 ∷ []) ∷ []) ∷ []) ∷ []) ≡ (fault 0 4 kinds.NameUnknown ∷ fault 1 4 kinds.DeclaredTwice ∷ fault 2 6 kinds.KindsDiffer ∷ [])
by_files = refl

-- FUNCTION F() x = 1; END INT a; INT a; FUNCTION G() z = 1; END INT b[0];
by_tokens : faults ((function 1 "F" (assign 4 "x" 5 (num 6 1) ∷ []) ∷ variable 10 "a" (int 9) ∷ variable 13 "a" (int 12) ∷ function 16 "G" (assign 19 "z" 20 (num 21 1) ∷ []) ∷ variable_array 25 "b" (int 24) 27 (pos 0) ∷ []) ∷ []) ≡ (fault 0 4 kinds.NameUnknown ∷ fault 0 13 kinds.DeclaredTwice ∷ fault 0 19 kinds.NameUnknown ∷ fault 0 27 (kinds.Limit limits.Array) ∷ [])
by_tokens = refl

-- FUNCTION P() INT x; x = P(1); x = P(y) + P(); END
by_kinds : faults ((function 1 "P" (declare 4 (int 4) (plain 5 "x" ∷ []) ∷ assign 7 "x" 8 (call 9 "P" (num 11 1 ∷ [])) ∷ assign 14 "x" 15 (chain 16 20 (call 16 "P" (var 18 "y" ∷ [])) (op 20 operator.Plus (call 21 "P" []) ∷ [])) ∷ []) ∷ []) ∷ []) ≡ (fault 0 9 kinds.KindsDiffer ∷ fault 0 9 kinds.ArgumentCount ∷ fault 0 16 kinds.KindsDiffer ∷ fault 0 16 kinds.ArgumentCount ∷ fault 0 18 kinds.NameUnknown ∷ fault 0 21 kinds.KindsDiffer ∷ [])
by_kinds = refl

-- FUNCTION F(INT a = 1, INT a) END
by_kinds_at_a_parameter : faults ((public_function 1 "F" None (param_first 4 "a" (int 3) (first_number 6 1) ∷ param 9 "a" (int 8) ∷ []) [] ∷ []) ∷ []) ≡ (fault 0 9 kinds.DeclaredTwice ∷ fault 0 9 kinds.ArgumentCount ∷ [])
by_kinds_at_a_parameter = refl

-- FUNCTION Main() INT x; x = "a" * (1 + "b"); END
part_before_its_faults : faults ((function 1 "Main" (declare 4 (int 4) (plain 5 "x" ∷ []) ∷ assign 7 "x" 8 (chain 9 10 (txt 9 "a") (op 10 operator.Times (parens 11 (chain 12 13 (num 12 1) (op 13 operator.Plus (txt 14 "b") ∷ []))) ∷ [])) ∷ []) ∷ []) ∷ []) ≡ (fault 0 10 kinds.KindsDiffer ∷ fault 0 13 kinds.KindsDiffer ∷ [])
part_before_its_faults = refl

-- INT a; FUNCTION F() u(); END REAL b; FUNCTION F() v(); END STRING a = 1;
variables_among_functions : faults ((variable 1 "a" (int 0) ∷ function 4 "F" (do_call 7 "u" [] ∷ []) ∷ variable 13 "b" (real 12) ∷ function 16 "F" (do_call 19 "v" [] ∷ []) ∷ variable_first 25 "a" (string 24) (first_number 27 1) ∷ []) ∷ []) ≡ (fault 0 7 kinds.NameUnknown ∷ fault 0 12 kinds.TypeOutOfScope ∷ fault 0 16 kinds.DeclaredTwice ∷ fault 0 19 kinds.NameUnknown ∷ fault 0 25 kinds.DeclaredTwice ∷ fault 0 27 kinds.KindsDiffer ∷ [])
variables_among_functions = refl

-- GLOBAL INT hLog = -1; FUNCTION Main() hLog = QueOpen("alarms", 2); TaskNew("Logger", "", 0); TaskNew("Producer", "10", 0); END FUNCTION Logger() INT nType; STRING sText; WHILE QueRead(hLog, nType, sText, 1) = 0 DO EnterCriticalSection("print"); TraceMsg("alarm " + nType:### + " " + sText); LeaveCriticalSection("print"); END END FUNCTION Producer(INT nCount) INT i; FOR i = 1 TO nCount DO Sleep(1); QueWrite(hLog, i, "level high"); END END
logger : faults ((global_first 2 "hLog" (int 1) (first_negative 4 1) ∷ function 8 "Main" (assign 11 "hLog" 12 (call 13 "QueOpen" (txt 15 "alarms" ∷ num 17 2 ∷ [])) ∷ do_call 20 "TaskNew" (txt 22 "Logger" ∷ txt 24 "" ∷ num 26 0 ∷ []) ∷ do_call 29 "TaskNew" (txt 31 "Producer" ∷ txt 33 "10" ∷ num 35 0 ∷ []) ∷ []) ∷ function 40 "Logger" (declare 43 (int 43) (plain 44 "nType" ∷ []) ∷ declare 46 (string 46) (plain 47 "sText" ∷ []) ∷ while 49 (chain 50 60 (call 50 "QueRead" (var 52 "hLog" ∷ var 54 "nType" ∷ var 56 "sText" ∷ num 58 1 ∷ [])) (op 60 operator.Equal (num 61 0) ∷ [])) (do_call 63 "EnterCriticalSection" (txt 65 "print" ∷ []) ∷ do_call 68 "TraceMsg" (chain 70 71 (txt 70 "alarm ") (op 71 operator.Plus (chain 72 73 (var 72 "nType") (form 73 3 ∷ [])) ∷ op 75 operator.Plus (txt 76 " ") ∷ op 77 operator.Plus (var 78 "sText") ∷ []) ∷ []) ∷ do_call 81 "LeaveCriticalSection" (txt 83 "print" ∷ []) ∷ []) ∷ []) ∷ public_function 89 "Producer" None (param 92 "nCount" (int 91) ∷ []) (declare 94 (int 94) (plain 95 "i" ∷ []) ∷ for 97 98 "i" (num 100 1) (var 102 "nCount") (do_call 104 "Sleep" (num 106 1 ∷ []) ∷ do_call 109 "QueWrite" (var 111 "hLog" ∷ var 113 "i" ∷ txt 115 "level high" ∷ []) ∷ []) ∷ []) ∷ []) ∷ []) ≡ []
logger = refl

-- of two faults at one place and of one kind, one pass keeps the later
later_kept : noted None (fault 0 4 kinds.NameUnknown ∷ fault 0 1 (kinds.Limit limits.Parameters) ∷ fault 0 1 (kinds.Limit limits.Locals) ∷ fault 0 2 kinds.ReturnValue ∷ []) ≡ Some (fault 0 1 (kinds.Limit limits.Locals))
later_kept = refl
