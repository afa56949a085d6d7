-- Bound projects: what each name is replaced by.
use Rattle.std.specs.Prelude.{ℕ, refl, [], ◌∷◌, ◌++◌, length, true, false, codes, neg_ℤ, List, None, Some, pos}
use Rattle.ci_tree.specs.declared.tree.Operator.TheVariants as operator
use Rattle.ci_base.specs.declared.relation.Relation.TheVariants as relation
use Rattle.ci_base.specs.declared.function.SharedName.TheVariants as requests
use Rattle.ci_base.specs.declared.function.PrivateName.TheVariants as names
use Rattle.ci_base.specs.declared.function.SharedName.{SharedName}
use Rattle.ci_base.specs.declared.function.PrivateName.{PrivateName}
use Rattle.ci_base.specs.declared.value.Kind.{Kind}
use Rattle.ci_base.specs.declared.value.Value.TheVariants as values
use Rattle.ci_tree.specs.Bound as to
use Prim.Native.String.{String}
use Rattle.ci_base.specs.declared.value.Kind.TheVariants.{Int, Str}
use Rattle.ci_tree.specs.Bound.{Callee, Expr, Exprs, Call, Stmt, Block, Function, Cell, Array, Global, Project}
use Rattle.ci_tree.specs.LeftOut.{call_given}
use Rattle.ci_names.specs.Binding.{binds}
use Rattle.ci_names.proofs.Examples.Trees.{int, string, num, txt, var, elem, call, minus, chain, op, form, plain, valued, declare, assign, set_element, do_call, if_then, if_else, while, for, one, range, compared, case, select, select_else, return, return_value, first_number, first_negative, first_text, param, param_first, function, public_function, private_function, variable, variable_first, variable_array, global, global_array}

abbrev body : List Stmt → Block
body [] = to.done
body (s ∷ ss) = to.then s (body ss)

abbrev args : List Expr → Exprs
args [] = to.no_expr
args (e ∷ es) = to.more e (args es)

abbrev local : ℕ → Expr
local i = to.scalar (to.local i)

abbrev cell : ℕ → Expr
cell c = to.scalar (to.cell c)

abbrev number : ℕ → Expr
number n = to.number (pos n)

abbrev text : String → Expr
text t = to.literal (codes t)

-- a call with these arguments, and these values for those that are left out
abbrev call_with : Callee → List Expr → List Expr → Call
call_with callee given behind = to.call callee (length given) (args (given ++ behind))

abbrev shared : SharedName → List Expr → Call
shared name es = call_with (to.shared name) es []

abbrev private : PrivateName → List Expr → Call
private name es = call_with (to.private name) es []

-- a PUBLIC function of the first file, without a type and parameters: the kinds of its locals, and its statements
abbrev plain_function : String → List Kind → List Stmt → Function
plain_function name others ss = record { file = 0; name = codes name; public = true; gives = None; params = []; others = others; body = body ss }

-- a project of functions alone
abbrev of_functions : List Function → Project
of_functions functions = record { functions = functions; cells = []; arrays = []; globals = [] }

-- a project of variables alone
abbrev of_variables : List Cell → List Array → List Global → Project
of_variables cells arrays globals = record { functions = []; cells = cells; arrays = arrays; globals = globals }

-- cells as they are at first
abbrev int_cell : ℕ → Cell
int_cell n = record { kind = Int; first = values.Int (pos n) }

abbrev text_cell : String → Cell
text_cell t = record { kind = Str; first = values.Str (codes t) }

-- no file at all
no_file_bound : binds []
    (of_functions [])
unfolding call_given
no_file_bound = (refl, refl)

-- FUNCTION Main() TraceMsg("hi"); END
one_trace : binds ((function 1 "Main" (do_call 4 "TraceMsg" (txt 6 "hi" ∷ []) ∷ []) ∷ []) ∷ [])
    (of_functions (plain_function "Main" [] (to.call_of 4 (shared requests.Trace (text "hi" ∷ [])) ∷ []) ∷ []))
unfolding call_given
one_trace = (refl, refl)

-- INT a = 5; GLOBAL STRING b[3]; GLOBAL INT c; STRING d = "x"; GLOBAL INT e[2];
cells_and_arrays : binds ((variable_first 1 "a" (int 0) (first_number 3 5) ∷ global_array 7 "b" (string 6) 9 (pos 3) ∷ global 14 "c" (int 13) ∷ variable_first 17 "d" (string 16) (first_text 19 "x") ∷ global_array 23 "e" (int 22) 25 (pos 2) ∷ []) ∷ [])
    (of_variables (int_cell 5 ∷ text_cell "" ∷ text_cell "" ∷ text_cell "" ∷ int_cell 0 ∷ text_cell "x" ∷ int_cell 0 ∷ int_cell 0 ∷ [])
    (record { first = 1; kind = Str; length = 3 } ∷ record { first = 6; kind = Int; length = 2 } ∷ [])
    (record { name = codes "c"; cell = 4 } ∷ []))
unfolding call_given
cells_and_arrays = (refl, refl)

-- a.ci: GLOBAL INT a; FUNCTION F() END
-- b.ci: INT b; PRIVATE FUNCTION G() b = a; END FUNCTION Main() F(); G(); END
numbers_go_on_over_files : binds ((global 2 "a" (int 1) ∷ function 5 "F" [] ∷ []) ∷ (variable 1 "b" (int 0) ∷ private_function 5 "G" None [] (assign 8 "b" 9 (var 10 "a") ∷ []) ∷ function 14 "Main" (do_call 17 "F" [] ∷ do_call 21 "G" [] ∷ []) ∷ []) ∷ [])
    (record {
      functions =
          plain_function "F" [] []
          ∷ record { file = 1; name = codes "G"; public = false; gives = None; params = []; others = []; body = body (to.assign 8 (to.cell 1) (cell 0) ∷ []) }
          ∷ record { file = 1; name = codes "Main"; public = true; gives = None; params = []; others = []; body = body (to.call_of 17 (call_with (to.function 0) [] []) ∷ to.call_of 21 (call_with (to.function 1) [] []) ∷ []) }
          ∷ [];
      cells = int_cell 0 ∷ int_cell 0 ∷ [];
      arrays = [];
      globals = record { name = codes "a"; cell = 0 } ∷ [];
    })
unfolding call_given
numbers_go_on_over_files = (refl, refl)

-- STRING FUNCTION F(INT p, STRING q = "d") INT x = p, y; STRING z = q; y = x; RETURN z; END
locals_behind_parameters : binds ((public_function 2 "F" (Some (string 0)) (param 5 "p" (int 4) ∷ param_first 8 "q" (string 7) (first_text 10 "d") ∷ []) (declare 12 (int 12) (valued 13 "x" (var 15 "p") ∷ plain 17 "y" ∷ []) ∷ declare 19 (string 19) (valued 20 "z" (var 22 "q") ∷ []) ∷ assign 24 "y" 25 (var 26 "x") ∷ return_value 28 (var 29 "z") ∷ []) ∷ []) ∷ [])
    (of_functions (record {
      file = 0;
      name = codes "F";
      public = true;
      gives = Some Str;
      params = record { kind = Int; first = None } ∷ record { kind = Str; first = Some (values.Str (codes "d")) } ∷ [];
      others = Int ∷ Int ∷ Str ∷ [];
      body = body (to.assign 13 (to.local 2) (local 0) ∷ to.assign 20 (to.local 4) (local 1) ∷ to.assign 24 (to.local 3) (local 2) ∷ to.return 28 (local 4) ∷ []);
    } ∷ []))
unfolding call_given
locals_behind_parameters = (refl, refl)

-- INT x; FUNCTION Main() x = 1; INT x = x; x = 2; END
a_local_shadows_from_its_end_on : binds ((variable 1 "x" (int 0) ∷ function 4 "Main" (assign 7 "x" 8 (num 9 1) ∷ declare 11 (int 11) (valued 12 "x" (var 14 "x") ∷ []) ∷ assign 16 "x" 17 (num 18 2) ∷ []) ∷ []) ∷ [])
    (record {
      functions = plain_function "Main" (Int ∷ []) (to.assign 7 (to.cell 0) (number 1) ∷ to.assign 12 (to.local 0) (cell 0) ∷ to.assign 16 (to.local 0) (number 2) ∷ []) ∷ [];
      cells = int_cell 0 ∷ [];
      arrays = [];
      globals = [];
    })
unfolding call_given
a_local_shadows_from_its_end_on = (refl, refl)

-- FUNCTION F(INT a, INT b = -2, STRING c = "z") F(1); F(1, 3); TaskHnd(); TaskHnd("F"); END
defaults_are_arguments : binds ((public_function 1 "F" None (param 4 "a" (int 3) ∷ param_first 7 "b" (int 6) (first_negative 9 2) ∷ param_first 13 "c" (string 12) (first_text 15 "z") ∷ []) (do_call 17 "F" (num 19 1 ∷ []) ∷ do_call 22 "F" (num 24 1 ∷ num 26 3 ∷ []) ∷ do_call 29 "TaskHnd" [] ∷ do_call 33 "TaskHnd" (txt 35 "F" ∷ []) ∷ []) ∷ []) ∷ [])
    (of_functions (record {
      file = 0;
      name = codes "F";
      public = true;
      gives = None;
      params = record { kind = Int; first = None } ∷ record { kind = Int; first = Some (values.Int (neg_ℤ (pos 2))) } ∷ record { kind = Str; first = Some (values.Str (codes "z")) } ∷ [];
      others = [];
      body = body (
          to.call_of 17 (call_with (to.function 0) (number 1 ∷ []) (to.number (neg_ℤ (pos 2)) ∷ text "z" ∷ []))
          ∷ to.call_of 22 (call_with (to.function 0) (number 1 ∷ number 3 ∷ []) (text "z" ∷ []))
          ∷ to.call_of 29 (call_with (to.shared requests.TaskHnd) [] (text "" ∷ []))
          ∷ to.call_of 33 (shared requests.TaskHnd (text "F" ∷ []))
          ∷ []);
    } ∷ []))
unfolding call_given
defaults_are_arguments = (refl, refl)

-- INT n; FUNCTION Main() STRING s; IF QueRead(1, n, s, 0) = 0 THEN QueRead(2, n, s, n); END END
queue_reads : binds ((variable 1 "n" (int 0) ∷ function 4 "Main" (declare 7 (string 7) (plain 8 "s" ∷ []) ∷ if_then 10 (chain 11 21 (call 11 "QueRead" (num 13 1 ∷ var 15 "n" ∷ var 17 "s" ∷ num 19 0 ∷ [])) (op 21 operator.Equal (num 22 0) ∷ [])) (do_call 24 "QueRead" (num 26 2 ∷ var 28 "n" ∷ var 30 "s" ∷ var 32 "n" ∷ []) ∷ []) ∷ []) ∷ []) ∷ [])
    (record {
      functions = plain_function "Main" (Str ∷ []) (
          to.choose 10 (to.chain (to.called (to.que_read (number 1) (to.cell 0) (to.local 0) (number 0))) (to.operand operator.Equal (number 0) to.no_link))
          (body (to.call_of 24 (to.que_read (number 2) (to.cell 0) (to.local 0) (cell 0)) ∷ [])) to.no_other
          ∷ []) ∷ [];
      cells = int_cell 0 ∷ [];
      arrays = [];
      globals = [];
    })
unfolding call_given
queue_reads = (refl, refl)

-- STRING b[2]; INT i, a[2]; FUNCTION Main() a[0] = -a[1] * 2; TraceMsg(a[i]:### + "x"); END
elements_and_chains : binds ((variable_array 1 "b" (string 0) 3 (pos 2) ∷ variable 7 "i" (int 6) ∷ variable_array 9 "a" (int 6) 11 (pos 2) ∷ function 15 "Main" (set_element 18 "a" (num 20 0) 22 (chain 23 28 (minus 23 (elem 24 "a" (num 26 1))) (op 28 operator.Times (num 29 2) ∷ [])) ∷ do_call 31 "TraceMsg" (chain 33 39 (chain 33 37 (elem 33 "a" (var 35 "i")) (form 37 3 ∷ [])) (op 39 operator.Plus (txt 40 "x") ∷ []) ∷ []) ∷ []) ∷ []) ∷ [])
    (record {
      functions = plain_function "Main" [] (
          to.assign_element 18 1 (number 0) (to.chain (to.unary true (to.element 1 (number 1))) (to.operand operator.Times (number 2) to.no_link))
          ∷ to.call_of 31 (shared requests.Trace (to.chain (to.chain (to.element 1 (cell 2)) (to.hashes 3 to.no_link)) (to.operand operator.Plus (text "x") to.no_link) ∷ []))
          ∷ []) ∷ [];
      cells = text_cell "" ∷ text_cell "" ∷ int_cell 0 ∷ int_cell 0 ∷ int_cell 0 ∷ [];
      arrays = record { first = 0; kind = Str; length = 2 } ∷ record { first = 3; kind = Int; length = 2 } ∷ [];
      globals = [];
    })
unfolding call_given
elements_and_chains = (refl, refl)

-- INT i; INT FUNCTION F() FOR i = 1 TO 2 DO IF i THEN ELSE RETURN 3; END END WHILE Abs(i) DO END SELECT CASE i CASE 1, 2 TO 3, IS > 4 RETURN 5; CASE ELSE i = 6; END SELECT SELECT CASE 1 END SELECT RETURN 7; END FUNCTION P() RETURN; END
bodies : binds ((variable 1 "i" (int 0) ∷ public_function 5 "F" (Some (int 3)) [] (for 8 9 "i" (num 11 1) (num 13 2) (if_else 15 (var 16 "i") [] (return_value 19 (num 20 3) ∷ []) ∷ []) ∷ while 24 (call 25 "Abs" (var 27 "i" ∷ [])) [] ∷ select_else 31 (var 33 "i") (case 34 (one (num 35 1) ∷ range (num 37 2) (num 39 3) ∷ compared 41 relation.Greater (num 43 4) ∷ []) (return_value 44 (num 45 5) ∷ []) ∷ []) (assign 49 "i" 50 (num 51 6) ∷ []) ∷ select 55 (num 57 1) [] ∷ return_value 60 (num 61 7) ∷ []) ∷ function 65 "P" (return 68 ∷ []) ∷ []) ∷ [])
    (record {
      functions =
          record {
            file = 0;
            name = codes "F";
            public = true;
            gives = Some Int;
            params = [];
            others = [];
            body = body (
                to.for 8 (to.cell 0) (number 1) (number 2) (body (to.choose 15 (cell 0) to.done (to.other (body (to.return 19 (number 3) ∷ []))) ∷ []))
                ∷ to.while 24 (to.called (private names.Abs (cell 0 ∷ []))) to.done
                ∷ to.select 31 (cell 0)
                (to.clause (to.one (number 1) ∷ to.range (number 2) (number 3) ∷ to.compared relation.Greater (number 4) ∷ []) (body (to.return 44 (number 5) ∷ [])) to.no_clause)
                (body (to.assign 49 (to.cell 0) (number 6) ∷ []))
                ∷ to.select 55 (number 1) to.no_clause to.done
                ∷ to.return 60 (number 7)
                ∷ []);
          }
          ∷ plain_function "P" [] (to.return 68 (number 0) ∷ [])
          ∷ [];
      cells = int_cell 0 ∷ [];
      arrays = [];
      globals = [];
    })
unfolding call_given
bodies = (refl, refl)

-- FUNCTION Main() IF 0 THEN INT a = 1; ELSE STRING b = "t"; END SELECT CASE a CASE 1 INT c = 2; CASE c END SELECT INT d = c; END
locals_of_bodies : binds ((function 1 "Main" (if_else 4 (num 5 0) (declare 7 (int 7) (valued 8 "a" (num 10 1) ∷ []) ∷ []) (declare 13 (string 13) (valued 14 "b" (txt 16 "t") ∷ []) ∷ []) ∷ select 19 (var 21 "a") (case 22 (one (num 23 1) ∷ []) (declare 24 (int 24) (valued 25 "c" (num 27 2) ∷ []) ∷ []) ∷ case 29 (one (var 30 "c") ∷ []) [] ∷ []) ∷ declare 33 (int 33) (valued 34 "d" (var 36 "c") ∷ []) ∷ []) ∷ []) ∷ [])
    (of_functions (plain_function "Main" (Int ∷ Str ∷ Int ∷ Int ∷ [])
    (to.choose 4 (number 0) (body (to.assign 8 (to.local 0) (number 1) ∷ [])) (to.other (body (to.assign 14 (to.local 1) (text "t") ∷ [])))
    ∷ to.select 19 (local 0) (to.clause (to.one (number 1) ∷ []) (body (to.assign 25 (to.local 2) (number 2) ∷ [])) (to.clause (to.one (local 2) ∷ []) to.done to.no_clause)) to.done
    ∷ to.assign 34 (to.local 3) (local 2)
    ∷ []) ∷ []))
unfolding call_given
locals_of_bodies = (refl, refl)

-- a.ci: GLOBAL INT a; FUNCTION F() END
-- b.ci: INT a; PRIVATE FUNCTION F() END FUNCTION Main() F(); a = 1; END
-- c.ci: FUNCTION G() F(); a = 2; END
first_and_nearest_declarations : binds ((global 2 "a" (int 1) ∷ function 5 "F" [] ∷ []) ∷ (variable 1 "a" (int 0) ∷ private_function 5 "F" None [] [] ∷ function 10 "Main" (do_call 13 "F" [] ∷ assign 17 "a" 18 (num 19 1) ∷ []) ∷ []) ∷ (function 1 "G" (do_call 4 "F" [] ∷ assign 8 "a" 9 (num 10 2) ∷ []) ∷ []) ∷ [])
    (record {
      functions =
          plain_function "F" [] []
          ∷ record { file = 1; name = codes "F"; public = false; gives = None; params = []; others = []; body = to.done }
          ∷ record { file = 1; name = codes "Main"; public = true; gives = None; params = []; others = []; body = body (to.call_of 13 (call_with (to.function 1) [] []) ∷ to.assign 17 (to.cell 1) (number 1) ∷ []) }
          ∷ record { file = 2; name = codes "G"; public = true; gives = None; params = []; others = []; body = body (to.call_of 4 (call_with (to.function 0) [] []) ∷ to.assign 8 (to.cell 0) (number 2) ∷ []) }
          ∷ [];
      cells = int_cell 0 ∷ int_cell 0 ∷ [];
      arrays = [];
      globals = record { name = codes "a"; cell = 0 } ∷ [];
    })
unfolding call_given
first_and_nearest_declarations = (refl, refl)
