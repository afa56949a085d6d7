-- The requests of small tasks, and the ticks before each. Each was worked out by hand from its source, which stands above it.
use Rattle.std.specs.Prelude.{◌≡◌, refl, pos, [], ◌∷◌, None, Some, codes}
use Rattle.ci_base.specs.declared.function.PrivateName.TheVariants as p
use Rattle.ci_base.specs.declared.function.SharedName.TheVariants as q
use Rattle.ci_base.specs.declared.relation.Relation.TheVariants as relation
use Rattle.ci_base.specs.declared.request.Request.TheVariants.{Trace, End, Read, Write, QueRead, SemSignal}
use Rattle.ci_base.specs.declared.value.Kind.TheVariants as kinds
use Rattle.ci_base.specs.declared.value.Value.TheVariants.{Int, Str}
use Rattle.ci_tree.specs.declared.tree.Operator.TheVariants as op
use Rattle.ci_tree.specs.Bound as to
use Rattle.ci_tree.specs.Bound.{block_from, clauses_from}
use Rattle.ci_meaning.proofs.Examples.Projects.{asked, fine, coded, element, int, str, local, cell, private, shared, two, say, function, alone, sharing}

-- TraceMsg("hi");
says : asked (alone [] (say (codes "hi") ∷ [])) (fine ∷ []) ≡ (2, Trace (codes "hi")) ∷ (0, End 0) ∷ []
says = refl

-- RETURN; TraceMsg("no");
leaves_early : asked (alone [] (to.return 0 (int 0) ∷ say (codes "no") ∷ [])) ([]) ≡ (2, End 0) ∷ []
leaves_early = refl

-- TraceMsg(IntToStr(1 + Halt()));
halts_within : asked (alone [] (to.call_of 0 (shared q.Trace (private p.IntToStr (two (int 1) op.Plus (to.called (shared q.End [])) ∷ []) ∷ [])) ∷ [])) ([]) ≡ (2, End 0) ∷ []
halts_within = refl

-- INT g; INT h; x = g AND h; with g = 0
both_sides : asked (sharing (kinds.Int ∷ kinds.Int ∷ []) [] (kinds.Int ∷ []) (to.assign 0 (to.local 0) (two (cell 0) op.And (cell 1)) ∷ [])) (fine ∷ fine ∷ []) ≡ (2, Read 0) ∷ (0, Read 1) ∷ (0, End 0) ∷ []
both_sides = refl

-- INT g; WHILE g DO END with g = 1 and then 0
tests_while : asked (sharing (kinds.Int ∷ []) [] [] (to.while 0 (cell 0) to.done ∷ [])) (coded (pos 1) 0 ∷ fine ∷ []) ≡ (3, Read 0) ∷ (1, Read 0) ∷ (0, End 0) ∷ []
tests_while = refl

-- INT i; FOR i = 2147483647 TO 2147483647 DO TraceMsg("x"); END
at_the_largest : asked (alone (kinds.Int ∷ []) (to.for 0 (to.local 0) (int 2147483647) (int 2147483647) (block_from (say (codes "x") ∷ [])) ∷ [])) (fine ∷ []) ≡ (4, Trace (codes "x")) ∷ (0, End 0) ∷ []
at_the_largest = refl

-- INT g; FOR g = 1 TO 0 DO END with g = 1 at the test
shared_counter : asked (sharing (kinds.Int ∷ []) [] [] (to.for 0 (to.cell 0) (int 1) (int 0) to.done ∷ [])) (fine ∷ coded (pos 1) 0 ∷ []) ≡ (2, Write 0 (Int (pos 1))) ∷ (1, Read 0) ∷ (0, End 0) ∷ []
shared_counter = refl

-- INT g; FOR g = 1 TO 2 DO END with g = 2 at the test and 2147483647 behind the body
counter_raised_elsewhere : asked (sharing (kinds.Int ∷ []) [] [] (to.for 0 (to.cell 0) (int 1) (int 2) to.done ∷ [])) (fine ∷ coded (pos 2) 0 ∷ coded (pos 2147483647) 0 ∷ []) ≡ (2, Write 0 (Int (pos 1))) ∷ (1, Read 0) ∷ (0, Read 0) ∷ (0, End 0) ∷ []
counter_raised_elsewhere = refl

-- IF 1 THEN TraceMsg("a"); ELSE TraceMsg("b"); END
runs_then : asked (alone [] (to.choose 0 (int 1) (block_from (say (codes "a") ∷ [])) (to.other (block_from (say (codes "b") ∷ []))) ∷ [])) (fine ∷ []) ≡ (3, Trace (codes "a")) ∷ (0, End 0) ∷ []
runs_then = refl

-- IF 0 THEN TraceMsg("a"); ELSE TraceMsg("b"); END
runs_else : asked (alone [] (to.choose 0 (int 0) (block_from (say (codes "a") ∷ [])) (to.other (block_from (say (codes "b") ∷ []))) ∷ [])) (fine ∷ []) ≡ (3, Trace (codes "b")) ∷ (0, End 0) ∷ []
runs_else = refl

-- SELECT CASE 1 CASE 1 TraceMsg("a"); CASE IS > 5, 2 TO 4 TraceMsg("b"); CASE ELSE TraceMsg("c"); END SELECT
selects_one : asked (alone [] (to.select 0 (int 1) (clauses_from (record { labels = to.one (int 1) ∷ []; body = block_from (say (codes "a") ∷ []) } ∷ record { labels = to.compared relation.Greater (int 5) ∷ to.range (int 2) (int 4) ∷ []; body = block_from (say (codes "b") ∷ []) } ∷ [])) (block_from (say (codes "c") ∷ [])) ∷ [])) (fine ∷ []) ≡ (3, Trace (codes "a")) ∷ (0, End 0) ∷ []
selects_one = refl

-- SELECT CASE 6 CASE 1 TraceMsg("a"); CASE IS > 5, 2 TO 4 TraceMsg("b"); CASE ELSE TraceMsg("c"); END SELECT
selects_relation : asked (alone [] (to.select 0 (int 6) (clauses_from (record { labels = to.one (int 1) ∷ []; body = block_from (say (codes "a") ∷ []) } ∷ record { labels = to.compared relation.Greater (int 5) ∷ to.range (int 2) (int 4) ∷ []; body = block_from (say (codes "b") ∷ []) } ∷ [])) (block_from (say (codes "c") ∷ [])) ∷ [])) (fine ∷ []) ≡ (3, Trace (codes "b")) ∷ (0, End 0) ∷ []
selects_relation = refl

-- SELECT CASE 4 CASE 1 TraceMsg("a"); CASE IS > 5, 2 TO 4 TraceMsg("b"); CASE ELSE TraceMsg("c"); END SELECT
selects_range : asked (alone [] (to.select 0 (int 4) (clauses_from (record { labels = to.one (int 1) ∷ []; body = block_from (say (codes "a") ∷ []) } ∷ record { labels = to.compared relation.Greater (int 5) ∷ to.range (int 2) (int 4) ∷ []; body = block_from (say (codes "b") ∷ []) } ∷ [])) (block_from (say (codes "c") ∷ [])) ∷ [])) (fine ∷ []) ≡ (3, Trace (codes "b")) ∷ (0, End 0) ∷ []
selects_range = refl

-- SELECT CASE 0 CASE 1 TraceMsg("a"); CASE IS > 5, 2 TO 4 TraceMsg("b"); CASE ELSE TraceMsg("c"); END SELECT
selects_else : asked (alone [] (to.select 0 (int 0) (clauses_from (record { labels = to.one (int 1) ∷ []; body = block_from (say (codes "a") ∷ []) } ∷ record { labels = to.compared relation.Greater (int 5) ∷ to.range (int 2) (int 4) ∷ []; body = block_from (say (codes "b") ∷ []) } ∷ [])) (block_from (say (codes "c") ∷ [])) ∷ [])) (fine ∷ []) ≡ (3, Trace (codes "c")) ∷ (0, End 0) ∷ []
selects_else = refl

-- SELECT CASE "b" CASE "a" TO "c" TraceMsg("in"); END SELECT
selects_text : asked (alone [] (to.select 0 (str (codes "b")) (clauses_from (record { labels = to.range (str (codes "a")) (str (codes "c")) ∷ []; body = block_from (say (codes "in") ∷ []) } ∷ [])) to.done ∷ [])) (fine ∷ []) ≡ (3, Trace (codes "in")) ∷ (0, End 0) ∷ []
selects_text = refl

-- an array of five cells behind three others: IF a[4] THEN END
reads_element : asked (sharing (kinds.Int ∷ kinds.Int ∷ kinds.Int ∷ kinds.Int ∷ kinds.Int ∷ kinds.Int ∷ kinds.Int ∷ kinds.Int ∷ []) (record { first = 3; kind = kinds.Int; length = 5 } ∷ []) [] (to.choose 0 (to.element 0 (int 4)) to.done to.no_other ∷ [])) (fine ∷ []) ≡ (2, Read 7) ∷ (0, End 0) ∷ []
reads_element = refl

-- a[0] = 1;
writes_element : asked (sharing (kinds.Int ∷ kinds.Int ∷ kinds.Int ∷ kinds.Int ∷ kinds.Int ∷ kinds.Int ∷ kinds.Int ∷ kinds.Int ∷ []) (record { first = 3; kind = kinds.Int; length = 5 } ∷ []) [] (to.assign_element 0 0 (int 0) (int 1) ∷ [])) (fine ∷ []) ≡ (2, Write 3 (Int (pos 1))) ∷ (0, End 0) ∷ []
writes_element = refl

-- a[5] = 1; ends with error 7, and makes no request
index_ends_task : asked (sharing (kinds.Int ∷ kinds.Int ∷ kinds.Int ∷ kinds.Int ∷ kinds.Int ∷ kinds.Int ∷ kinds.Int ∷ kinds.Int ∷ []) (record { first = 3; kind = kinds.Int; length = 5 } ∷ []) [] (to.assign_element 0 0 (int 5) (int 1) ∷ [])) ([]) ≡ (2, End 7) ∷ []
index_ends_task = refl

-- ErrSet(1); a[5] = 1; IF IsError() = 7 THEN TraceMsg("7"); END IF IsError() = 0 THEN TraceMsg("0"); END
store_dropped : asked (sharing (kinds.Int ∷ kinds.Int ∷ kinds.Int ∷ kinds.Int ∷ kinds.Int ∷ kinds.Int ∷ kinds.Int ∷ kinds.Int ∷ []) (record { first = 3; kind = kinds.Int; length = 5 } ∷ []) [] (to.call_of 0 (to.call (to.private p.ErrSet) 1 (to.more (int 1) to.no_expr)) ∷ to.assign_element 0 0 (int 5) (int 1) ∷ to.choose 0 (two (private p.IsError []) op.Equal (int 7)) (block_from (say (codes "7") ∷ [])) to.no_other ∷ to.choose 0 (two (private p.IsError []) op.Equal (int 0)) (block_from (say (codes "0") ∷ [])) to.no_other ∷ [])) (fine ∷ fine ∷ []) ≡ (5, Trace (codes "7")) ∷ (2, Trace (codes "0")) ∷ (0, End 0) ∷ []
store_dropped = refl

-- x = 1 / 0;
division_ends_task : asked (alone (kinds.Int ∷ []) (to.assign 0 (to.local 0) (two (int 1) op.Over (int 0)) ∷ [])) ([]) ≡ (2, End 8) ∷ []
division_ends_task = refl

-- ErrSet(1); IF 1 / 0 THEN TraceMsg("a"); ELSE TraceMsg("b"); END
zero_stands_for_it : asked (alone [] (to.call_of 0 (to.call (to.private p.ErrSet) 1 (to.more (int 1) to.no_expr)) ∷ to.choose 0 (two (int 1) op.Over (int 0)) (block_from (say (codes "a") ∷ [])) (to.other (block_from (say (codes "b") ∷ []))) ∷ [])) (fine ∷ []) ≡ (4, Trace (codes "b")) ∷ (0, End 0) ∷ []
zero_stands_for_it = refl

-- Assert(0);
assertion_ends_task : asked (alone [] (to.call_of 0 (to.call (to.private p.Assert) 1 (to.more (int 0) to.no_expr)) ∷ [])) ([]) ≡ (2, End 14) ∷ []
assertion_ends_task = refl

-- SemSignal(9); answered 1, and then IF IsError() = 1 THEN TraceMsg("1"); END
code_is_kept : asked (alone [] (to.call_of 0 (shared q.SemSignal (int 9 ∷ [])) ∷ to.choose 0 (two (private p.IsError []) op.Equal (int 1)) (block_from (say (codes "1") ∷ [])) to.no_other ∷ [])) (coded (pos 1) 1 ∷ fine ∷ []) ≡ (2, SemSignal (pos 9)) ∷ (2, Trace (codes "1")) ∷ (0, End 0) ∷ []
code_is_kept = refl

-- INT n; STRING t; QueRead(1, n, t, 1); TraceMsg(t);
element_is_kept : asked (alone (kinds.Int ∷ kinds.Str ∷ []) (to.call_of 0 (to.que_read (int 1) (to.local 0) (to.local 1) (int 1)) ∷ to.call_of 0 (shared q.Trace (local 1 ∷ [])) ∷ [])) (element (pos 5) (codes "x") ∷ fine ∷ []) ≡ (2, QueRead (pos 1) (pos 1)) ∷ (1, Trace (codes "x")) ∷ (0, End 0) ∷ []
element_is_kept = refl

-- the same in mode 0 from an empty queue
nothing_is_kept : asked (alone (kinds.Int ∷ kinds.Str ∷ []) (to.call_of 0 (to.que_read (int 1) (to.local 0) (to.local 1) (int 0)) ∷ to.call_of 0 (shared q.Trace (local 1 ∷ [])) ∷ [])) (coded (pos 3) 3 ∷ fine ∷ []) ≡ (2, QueRead (pos 1) (pos 0)) ∷ (1, Trace []) ∷ (0, End 0) ∷ []
nothing_is_kept = refl

-- the same with two shared variables: each assignment is a request of its own
element_is_shared : asked (sharing (kinds.Int ∷ kinds.Str ∷ []) [] [] (to.call_of 0 (to.que_read (int 1) (to.cell 0) (to.cell 1) (int 1)) ∷ [])) (element (pos 5) (codes "x") ∷ fine ∷ fine ∷ []) ≡ (2, QueRead (pos 1) (pos 1)) ∷ (0, Write 0 (Int (pos 5))) ∷ (0, Write 1 (Str (codes "x"))) ∷ (0, End 0) ∷ []
element_is_shared = refl

-- INT FUNCTION G(INT a) RETURN a; END and in the first function IF G(1) THEN TraceMsg("y"); END
gives_value : asked (record { functions = function [] [] None (to.choose 0 (to.called (to.call (to.function 1) 1 (to.more (int 1) to.no_expr))) (block_from (say (codes "y") ∷ [])) to.no_other ∷ []) ∷ function (kinds.Int ∷ []) [] (Some kinds.Int) (to.return 0 (local 0) ∷ []) ∷ []; cells = []; arrays = []; globals = [] }) (fine ∷ []) ≡ (5, Trace (codes "y")) ∷ (0, End 0) ∷ []
gives_value = refl

-- STRING FUNCTION G() END and in the first function TraceMsg(G());
end_gives_empty_text : asked (record { functions = function [] [] None (to.call_of 0 (shared q.Trace (to.called (to.call (to.function 1) 0 to.no_expr) ∷ [])) ∷ []) ∷ function [] [] (Some kinds.Str) [] ∷ []; cells = []; arrays = []; globals = [] }) (fine ∷ []) ≡ (3, Trace []) ∷ (0, End 0) ∷ []
end_gives_empty_text = refl
