-- Bound projects that are sound, and projects that are not.
use Rattle.std.specs.Prelude.{◌≡◌, refl, [], ◌∷◌, true, false, codes, List, None, Some, pos}
use Rattle.ci_tree.specs.declared.tree.Operator.TheVariants as operator
use Rattle.ci_base.specs.declared.relation.Relation.TheVariants as relation
use Rattle.ci_base.specs.declared.function.PrivateName.TheVariants as names
use Rattle.ci_base.specs.declared.value.Value.TheVariants as values
use Rattle.ci_tree.specs.Bound as to
use Rattle.ci_tree.specs.LeftOut.{call_given}
use Rattle.ci_names.specs.Binding.{bound}
use Rattle.ci_tree.specs.Sound.{is_sound}
use Rattle.ci_tree.specs.Bound.{Expr, Stmt, Project, block_from}
use Rattle.ci_base.specs.declared.value.Kind.TheVariants.{Int, Str}
use Rattle.ci_names.proofs.Examples.Trees.{int, string, num, txt, var, elem, call, minus, chain, op, form, plain, valued, declare, assign, set_element, do_call, if_else, while, for, one, range, compared, case, select, select_else, return, return_value, first_number, first_negative, first_text, param, param_first, function, public_function, variable, variable_array, global_first}

-- Bound projects

-- no file at all
no_project : is_sound (bound []) ≡ true
no_project = refl

-- GLOBAL INT hLog = -1; FUNCTION Main() hLog = QueOpen("alarms", 2); TaskNew("Logger", "", 0); TaskNew("Producer", "10", 0); END FUNCTION Logger() INT nType; STRING sText; WHILE QueRead(hLog, nType, sText, 1) = 0 DO EnterCriticalSection("print"); TraceMsg("alarm " + nType:### + " " + sText); LeaveCriticalSection("print"); END END FUNCTION Producer(INT nCount) INT i; FOR i = 1 TO nCount DO Sleep(1); QueWrite(hLog, i, "level high"); END END
logger_is_sound : is_sound (bound ((global_first 2 "hLog" (int 1) (first_negative 4 1) ∷ function 8 "Main" (assign 11 "hLog" 12 (call 13 "QueOpen" (txt 15 "alarms" ∷ num 17 2 ∷ [])) ∷ do_call 20 "TaskNew" (txt 22 "Logger" ∷ txt 24 "" ∷ num 26 0 ∷ []) ∷ do_call 29 "TaskNew" (txt 31 "Producer" ∷ txt 33 "10" ∷ num 35 0 ∷ []) ∷ []) ∷ function 40 "Logger" (declare 43 (int 43) (plain 44 "nType" ∷ []) ∷ declare 46 (string 46) (plain 47 "sText" ∷ []) ∷ while 49 (chain 50 60 (call 50 "QueRead" (var 52 "hLog" ∷ var 54 "nType" ∷ var 56 "sText" ∷ num 58 1 ∷ [])) (op 60 operator.Equal (num 61 0) ∷ [])) (do_call 63 "EnterCriticalSection" (txt 65 "print" ∷ []) ∷ do_call 68 "TraceMsg" (chain 70 71 (txt 70 "alarm ") (op 71 operator.Plus (chain 72 73 (var 72 "nType") (form 73 3 ∷ [])) ∷ op 75 operator.Plus (txt 76 " ") ∷ op 77 operator.Plus (var 78 "sText") ∷ []) ∷ []) ∷ do_call 81 "LeaveCriticalSection" (txt 83 "print" ∷ []) ∷ []) ∷ []) ∷ public_function 89 "Producer" None (param 92 "nCount" (int 91) ∷ []) (declare 94 (int 94) (plain 95 "i" ∷ []) ∷ for 97 98 "i" (num 100 1) (var 102 "nCount") (do_call 104 "Sleep" (num 106 1 ∷ []) ∷ do_call 109 "QueWrite" (var 111 "hLog" ∷ var 113 "i" ∷ txt 115 "level high" ∷ []) ∷ []) ∷ []) ∷ []) ∷ [])) ≡ true
unfolding call_given
logger_is_sound = refl

-- INT i; INT FUNCTION F() FOR i = 1 TO 2 DO IF i THEN ELSE RETURN 3; END END WHILE Abs(i) DO END SELECT CASE i CASE 1, 2 TO 3, IS > 4 RETURN 5; CASE ELSE i = 6; END SELECT SELECT CASE 1 END SELECT RETURN 7; END FUNCTION P() RETURN; END
bodies_are_sound : is_sound (bound ((variable 1 "i" (int 0) ∷ public_function 5 "F" (Some (int 3)) [] (for 8 9 "i" (num 11 1) (num 13 2) (if_else 15 (var 16 "i") [] (return_value 19 (num 20 3) ∷ []) ∷ []) ∷ while 24 (call 25 "Abs" (var 27 "i" ∷ [])) [] ∷ select_else 31 (var 33 "i") (case 34 (one (num 35 1) ∷ range (num 37 2) (num 39 3) ∷ compared 41 relation.Greater (num 43 4) ∷ []) (return_value 44 (num 45 5) ∷ []) ∷ []) (assign 49 "i" 50 (num 51 6) ∷ []) ∷ select 55 (num 57 1) [] ∷ return_value 60 (num 61 7) ∷ []) ∷ function 65 "P" (return 68 ∷ []) ∷ []) ∷ [])) ≡ true
unfolding call_given
bodies_are_sound = refl

-- FUNCTION F(INT a, INT b = -2, STRING c = "z") F(1); F(1, 3); TaskHnd(); TaskHnd("F"); END STRING FUNCTION G() RETURN StrLeft("a", Max(1, 2)) + IntToStr(Abs(3)); END
calls_are_sound : is_sound (bound ((public_function 1 "F" None (param 4 "a" (int 3) ∷ param_first 7 "b" (int 6) (first_negative 9 2) ∷ param_first 13 "c" (string 12) (first_text 15 "z") ∷ []) (do_call 17 "F" (num 19 1 ∷ []) ∷ do_call 22 "F" (num 24 1 ∷ num 26 3 ∷ []) ∷ do_call 29 "TaskHnd" [] ∷ do_call 33 "TaskHnd" (txt 35 "F" ∷ []) ∷ []) ∷ public_function 41 "G" (Some (string 39)) [] (return_value 44 (chain 45 56 (call 45 "StrLeft" (txt 47 "a" ∷ call 49 "Max" (num 51 1 ∷ num 53 2 ∷ []) ∷ [])) (op 56 operator.Plus (call 57 "IntToStr" (call 59 "Abs" (num 61 3 ∷ []) ∷ [])) ∷ [])) ∷ []) ∷ []) ∷ [])) ≡ true
unfolding call_given
calls_are_sound = refl

-- STRING b[2]; INT i, a[2]; GLOBAL INT g = 3; FUNCTION Main() a[0] = -a[1] * 2; b[i] = "x"; TraceMsg(a[i]:### + b[g]); END
elements_are_sound : is_sound (bound ((variable_array 1 "b" (string 0) 3 (pos 2) ∷ variable 7 "i" (int 6) ∷ variable_array 9 "a" (int 6) 11 (pos 2) ∷ global_first 16 "g" (int 15) (first_number 18 3) ∷ function 21 "Main" (set_element 24 "a" (num 26 0) 28 (chain 29 34 (minus 29 (elem 30 "a" (num 32 1))) (op 34 operator.Times (num 35 2) ∷ [])) ∷ set_element 37 "b" (var 39 "i") 41 (txt 42 "x") ∷ do_call 44 "TraceMsg" (chain 46 52 (chain 46 50 (elem 46 "a" (var 48 "i")) (form 50 3 ∷ [])) (op 52 operator.Plus (elem 53 "b" (var 55 "g")) ∷ []) ∷ []) ∷ []) ∷ []) ∷ [])) ≡ true
unfolding call_given
elements_are_sound = refl

-- FUNCTION Main() IF 0 THEN INT a = 1; ELSE STRING b = "t"; END SELECT CASE a CASE 1 INT c = 2; CASE c END SELECT INT d = c; END
locals_are_sound : is_sound (bound ((function 1 "Main" (if_else 4 (num 5 0) (declare 7 (int 7) (valued 8 "a" (num 10 1) ∷ []) ∷ []) (declare 13 (string 13) (valued 14 "b" (txt 16 "t") ∷ []) ∷ []) ∷ select 19 (var 21 "a") (case 22 (one (num 23 1) ∷ []) (declare 24 (int 24) (valued 25 "c" (num 27 2) ∷ []) ∷ []) ∷ case 29 (one (var 30 "c") ∷ []) [] ∷ []) ∷ declare 33 (int 33) (valued 34 "d" (var 36 "c") ∷ []) ∷ []) ∷ []) ∷ [])) ≡ true
locals_are_sound = refl

-- Projects that are not

-- a project of one function with one INT local, which gives a text, over one INT cell and one array of two texts
abbrev with_body : List Stmt → Project
with_body ss = record {
  functions = record { file = 0; name = codes "F"; public = true; gives = Some Str; params = record { kind = Int; first = None } ∷ []; others = []; body = block_from ss } ∷ [];
  cells = record { kind = Int; first = values.Int (pos 0) } ∷ record { kind = Str; first = values.Str [] } ∷ record { kind = Str; first = values.Str [] } ∷ [];
  arrays = record { first = 1; kind = Str; length = 2 } ∷ [];
  globals = record { name = codes "g"; cell = 0 } ∷ [];
}

abbrev some_number : Expr
some_number = to.number (pos 1)

abbrev some_text : Expr
some_text = to.literal (codes "a")

nothing_wrong : is_sound (with_body (
    to.assign 4 (to.local 0) some_number
    ∷ to.assign 4 (to.cell 0) some_number
    ∷ to.assign_element 4 0 some_number some_text
    ∷ to.call_of 4 (to.call (to.function 0) 1 (to.more some_number to.no_expr))
    ∷ to.call_of 4 (to.call (to.private names.Abs) 1 (to.more some_number to.no_expr))
    ∷ to.call_of 4 (to.que_read some_number (to.local 0) (to.cell 1) some_number)
    ∷ to.return 4 some_text
    ∷ []))
    ≡ true
nothing_wrong = refl

no_local : is_sound (with_body (to.assign 4 (to.local 1) some_number ∷ [])) ≡ false
no_local = refl

no_cell : is_sound (with_body (to.assign 4 (to.cell 3) some_number ∷ [])) ≡ false
no_cell = refl

no_array : is_sound (with_body (to.assign_element 4 1 some_number some_text ∷ [])) ≡ false
no_array = refl

no_function : is_sound (with_body (to.call_of 4 (to.call (to.function 1) 0 to.no_expr) ∷ [])) ≡ false
no_function = refl

kind_of_a_value : is_sound (with_body (to.assign 4 (to.local 0) some_text ∷ [])) ≡ false
kind_of_a_value = refl

kind_of_an_index : is_sound (with_body (to.assign_element 4 0 some_text some_text ∷ [])) ≡ false
kind_of_an_index = refl

kind_of_an_operand : is_sound (with_body (to.assign 4 (to.local 0) (to.chain some_number (to.operand operator.Plus some_text to.no_link)) ∷ [])) ≡ false
kind_of_an_operand = refl

kind_of_an_argument : is_sound (with_body (to.call_of 4 (to.call (to.private names.Abs) 1 (to.more some_text to.no_expr)) ∷ [])) ≡ false
kind_of_an_argument = refl

number_of_arguments : is_sound (with_body (to.call_of 4 (to.call (to.function 0) 0 to.no_expr) ∷ [])) ≡ false
number_of_arguments = refl

kind_of_what_is_read : is_sound (with_body (to.call_of 4 (to.que_read some_number (to.local 0) (to.local 0) some_number) ∷ [])) ≡ false
kind_of_what_is_read = refl

kind_of_a_condition : is_sound (with_body (to.while 4 some_text to.done ∷ [])) ≡ false
kind_of_a_condition = refl

kind_of_a_counter : is_sound (with_body (to.for 4 (to.cell 1) some_number some_number to.done ∷ [])) ≡ false
kind_of_a_counter = refl

kind_of_a_label : is_sound (with_body (to.select 4 some_number (to.clause (to.one some_text ∷ []) to.done to.no_clause) to.done ∷ [])) ≡ false
kind_of_a_label = refl

kind_of_what_is_returned : is_sound (with_body (to.return 4 some_number ∷ [])) ≡ false
kind_of_what_is_returned = refl

array_beyond_the_cells : is_sound (record (with_body []) { arrays = record { first = 2; kind = Str; length = 2 } ∷ [] }) ≡ false
array_beyond_the_cells = refl

array_of_another_kind : is_sound (record (with_body []) { arrays = record { first = 0; kind = Str; length = 2 } ∷ [] }) ≡ false
array_of_another_kind = refl

global_beyond_the_cells : is_sound (record (with_body []) { globals = record { name = codes "g"; cell = 3 } ∷ [] }) ≡ false
global_beyond_the_cells = refl
