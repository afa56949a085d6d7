use Rattle.std.proofs.Common.{rules, ◌≡◌, ◌+◌, List, ◌++◌, [], ◌∷◌, drop, length, map, refl, sym, ap, ◌∙◌, subst, arith}
use Rattle.std.proofs.lemmas.List.{drop_all}
use Rattle.ci_base.specs.declared.value.Kind.{Kind}
use Rattle.ci_base.specs.declared.value.Kind.TheVariants.{Int}
use Rattle.ci_code.specs.declared.instruction.Instruction.TheVariants as does
use Rattle.ci_translation.specs.Drafts.{step, kind_in, labels_size, clauses_size, block_size, clauses_code, block_code}
use Rattle.ci_translation.specs.Instructions.{past, writing}
use Rattle.ci_tree.specs.declared.bound.Function.{Function}
use Rattle.ci_tree.specs.declared.bound.Stmt.{the_lemmas}
use Rattle.ci_tree.specs.Bound as to
use Rattle.ci_tree.specs.Bound.{Stmt, Clause}
use Rattle.ci_tree.specs.SeenBound.{scalar_of, expr_of, call_of, label_of, stmt_of, clause_of, block_of, clauses_of, heads_of}
use Rattle.ci_emit.specs.Contexts.{context, heads}
use Rattle.ci_emit.specs.Pads.{word}
use Rattle.ci_emit.specs.Writing.{Writes}
use Rattle.ci_emit.proofs.Loops.{next}
use Rattle.ci_emit.proofs.Steps.{count_then, seen_stmt, word_again, jump_word, place_behind, block_then, block_over_then, block_next, block_done, labels_then, clauses_next, clauses_done, clauses_then}
use Rattle.ci_emit.proofs.Writings.{one_then, plain_then, expr_then, nothing, here, over}
use Rattle.ci_emit.proofs.statements.+statements.Goals as goal

-- Each form

pub statement-returns-in-Assign : goal.statement-returns-in-Assign
statement-returns-in-Assign t c =
    let hs = heads c.args.parts.now in
    let seen : stmt_of hs c.args.stmt.now ≡ to.assign c.in-Assign.at (scalar_of c.in-Assign.to) (expr_of hs c.in-Assign.value) = search (rules, the_lemmas) in
    seen_stmt _ (context c.args.parts.now c.args.function.now) _ _ (stmt_of hs c.args.stmt.now) (to.assign c.in-Assign.at (scalar_of c.in-Assign.to) (expr_of hs c.in-Assign.value)) seen (c.assign.ensures c.in-Assign.at)

pub statement-returns-in-AssignElement : goal.statement-returns-in-AssignElement
statement-returns-in-AssignElement t c =
    let hs = heads c.args.parts.now in
    let seen : stmt_of hs c.args.stmt.now ≡ to.assign_element c.in-AssignElement.at c.in-AssignElement.array (expr_of hs c.get.result.now) (expr_of hs c.in-AssignElement.value) = search (rules, the_lemmas) in
    seen_stmt _ (context c.args.parts.now c.args.function.now) _ _ (stmt_of hs c.args.stmt.now) (to.assign_element c.in-AssignElement.at c.in-AssignElement.array (expr_of hs c.get.result.now) (expr_of hs c.in-AssignElement.value)) seen (c.assign_element.ensures c.in-AssignElement.at)

pub statement-returns-in-CallOf : goal.statement-returns-in-CallOf
statement-returns-in-CallOf t c =
    let hs = heads c.args.parts.now in
    let seen : stmt_of hs c.args.stmt.now ≡ to.call_of c.in-CallOf.at (call_of hs c.in-CallOf.call) = search (rules, the_lemmas) in
    seen_stmt _ (context c.args.parts.now c.args.function.now) _ _ (stmt_of hs c.args.stmt.now) (to.call_of c.in-CallOf.at (call_of hs c.in-CallOf.call)) seen (c.call_alone.ensures c.in-CallOf.at)

pub statement-returns-in-None : goal.statement-returns-in-None
statement-returns-in-None t c =
    let hs = heads c.args.parts.now in
    let seen : stmt_of hs c.args.stmt.now ≡ to.choose c.in-If.at (expr_of hs c.get-in-None.result.now) (block_of hs c.as_slice.result.now) to.no_other = search (rules, the_lemmas) in
    seen_stmt _ (context c.args.parts.now c.args.function.now) _ _ (stmt_of hs c.args.stmt.now) (to.choose c.in-If.at (expr_of hs c.get-in-None.result.now) (block_of hs c.as_slice.result.now) to.no_other) seen (c.choice.ensures c.in-If.at)

pub statement-returns-in-Some : goal.statement-returns-in-Some
statement-returns-in-Some t c =
    let hs = heads c.args.parts.now in
    let seen : stmt_of hs c.args.stmt.now ≡ to.choose c.in-If.at (expr_of hs c.get-in-Some.result.now) (block_of hs c.as_slice-body.result.now) (to.other (block_of hs c.as_slice-last.result.now)) = search (rules, the_lemmas) in
    seen_stmt _ (context c.args.parts.now c.args.function.now) _ _ (stmt_of hs c.args.stmt.now) (to.choose c.in-If.at (expr_of hs c.get-in-Some.result.now) (block_of hs c.as_slice-body.result.now) (to.other (block_of hs c.as_slice-last.result.now))) seen (c.choice_of_two.ensures c.in-If.at)

pub statement-returns-in-While : goal.statement-returns-in-While
statement-returns-in-While t c =
    let hs = heads c.args.parts.now in
    let seen : stmt_of hs c.args.stmt.now ≡ to.while c.in-While.at (expr_of hs c.in-While.test) (block_of hs c.as_slice-in-While.result.now) = search (rules, the_lemmas) in
    seen_stmt _ (context c.args.parts.now c.args.function.now) _ _ (stmt_of hs c.args.stmt.now) (to.while c.in-While.at (expr_of hs c.in-While.test) (block_of hs c.as_slice-in-While.result.now)) seen (c.repetition.ensures c.in-While.at)

pub statement-returns-in-For : goal.statement-returns-in-For
statement-returns-in-For t c =
    let hs = heads c.args.parts.now in
    let seen : stmt_of hs c.args.stmt.now ≡ to.for c.in-For.at (scalar_of c.in-For.counter) (expr_of hs c.get-from.result.now) (expr_of hs c.get-to.result.now) (block_of hs c.as_slice-in-For.result.now) = search (rules, the_lemmas) in
    seen_stmt _ (context c.args.parts.now c.args.function.now) _ _ (stmt_of hs c.args.stmt.now) (to.for c.in-For.at (scalar_of c.in-For.counter) (expr_of hs c.get-from.result.now) (expr_of hs c.get-to.result.now) (block_of hs c.as_slice-in-For.result.now)) seen (c.iteration.ensures c.in-For.at)

pub statement-returns-in-Select : goal.statement-returns-in-Select
statement-returns-in-Select t c =
    let hs = heads c.args.parts.now in
    let seen : stmt_of hs c.args.stmt.now ≡ to.select c.in-Select.at (expr_of hs c.get-in-Select.result.now) (clauses_of hs c.as_slice-clauses.result.now) (block_of hs c.as_slice-last-in-Select.result.now) = search (rules, the_lemmas) in
    seen_stmt _ (context c.args.parts.now c.args.function.now) _ _ (stmt_of hs c.args.stmt.now) (to.select c.in-Select.at (expr_of hs c.get-in-Select.result.now) (clauses_of hs c.as_slice-clauses.result.now) (block_of hs c.as_slice-last-in-Select.result.now)) seen (c.selection.ensures c.in-Select.at)

pub statement-returns-in-Return : goal.statement-returns-in-Return
statement-returns-in-Return t c =
    let hs = heads c.args.parts.now in
    let seen : stmt_of hs c.args.stmt.now ≡ to.return c.in-Return.at (expr_of hs c.in-Return.value) = search (rules, the_lemmas) in
    seen_stmt _ (context c.args.parts.now c.args.function.now) _ _ (stmt_of hs c.args.stmt.now) (to.return c.in-Return.at (expr_of hs c.in-Return.value)) seen (c.give_back.ensures c.in-Return.at)

-- IF

pub choice-returns : goal.choice-returns
choice-returns t c at =
    let hs = heads c.args.parts.now in
    let k = context c.args.parts.now c.args.function.now in
    let body = block_of hs c.args.body.now in
    let n = block_size body in
    let p = length c.expression.new.writer.pad.steps in
    let size : c.block_size-size.result ≡ word n = c.block_size-size.ensures ∙ ap (λ (fs : List Function). word (block_size (block_of (heads_of fs) c.args.body.now))) c.as_slice.ensures in
    one_then (c.in_ok-put.ensures does.Tick refl)
    (plain_then k (expr_of hs c.args.test.now) c.in_ok-expression.ensures.code
    (one_then (here (λ b p. step (b ++ Int ∷ []) (does.JumpIfZero (p + 1 + n)) ∷ []) (c.in_ok-jump_if_zero.ensures (p + 1 + n) (jump_word p 1 n c.block_size-size.result (p + 1 + n) size (omega arith))))
    (block_then k body c.in_ok-block.ensures nothing)))

pub choice_of_two-returns : goal.choice_of_two-returns
choice_of_two-returns t c at =
    let hs = heads c.args.parts.now in
    let k = context c.args.parts.now c.args.function.now in
    let body = block_of hs c.args.body.now in
    let n = block_size body in
    let p = length c.expression.new.writer.pad.steps in
    let size : c.block_size-size.result ≡ word n = c.block_size-size.ensures ∙ ap (λ (fs : List Function). word (block_size (block_of (heads_of fs) c.args.body.now))) c.as_slice.ensures in
    one_then (c.in_ok-put.ensures does.Tick refl)
    (plain_then k (expr_of hs c.args.test.now) c.in_ok-expression.ensures.code
    (one_then (here (λ b p. step (b ++ Int ∷ []) (does.JumpIfZero (p + 1 + n + 1)) ∷ []) (c.in_ok-jump_if_zero.ensures (p + 1 + n + 1) (jump_word p 2 n c.block_size-size.result (p + 1 + n + 1) size (omega arith))))
    (block_then k body c.in_ok-block.ensures c.in_ok-otherwise.ensures)))

pub otherwise-returns : goal.otherwise-returns
otherwise-returns t c =
    let hs = heads c.args.parts.now in
    let last = block_of hs c.args.last.now in
    let n = block_size last in
    let p = length c.args.writer.now.pad.steps in
    let size : c.block_size-size.result ≡ word n = c.block_size-size.ensures ∙ ap (λ (fs : List Function). word (block_size (block_of (heads_of fs) c.args.last.now))) c.as_slice.ensures in
    let end = c.word_behind-behind.ensures ∙ ap (λ m. word (m + (1 + c.block_size-size.result))) c.place.ensures ∙ sym (jump_word p 1 n c.block_size-size.result (p + 1 + n) size (omega arith)) in
    one_then (here (λ b p. step b (does.Jump (p + 1 + n)) ∷ []) (c.in_ok-put.ensures (does.Jump (p + 1 + n)) (ap does.Jump end))) c.in_ok-block.ensures

-- WHILE

pub repetition-returns : goal.repetition-returns
repetition-returns t c at =
    let hs = heads c.args.parts.now in
    let k = context c.args.parts.now c.args.function.now in
    let w = c.args.writer.now in
    let body = block_of hs c.args.body.now in
    let n = block_size body in
    let p = length c.expression.new.writer.pad.steps in
    let size : c.block_size-inside.result ≡ word n = c.block_size-inside.ensures ∙ ap (λ (fs : List Function). word (block_size (block_of (heads_of fs) c.args.body.now))) c.as_slice.ensures in
    let tick = c.in_ok-put.ensures does.Tick refl in
    let again = c.word-again.ensures ∙ ap word (c.place.ensures ∙ place_behind tick) in
    let all =
    one_then tick
    (one_then (c.in_ok-put-2.ensures does.Tick refl)
    (plain_then k (expr_of hs c.args.test.now) c.in_ok-expression.ensures.code
    (one_then (here (λ b p. step (b ++ Int ∷ []) (does.JumpIfZero (p + 1 + n + 1)) ∷ []) (c.in_ok-jump_if_zero.ensures (p + 1 + n + 1) (jump_word p 2 n c.block_size-inside.result (p + 1 + n + 1) size (omega arith))))
    (block_then k body c.in_ok-block.ensures (c.in_ok-put-3.ensures (does.Jump (length w.pad.steps + 1)) (ap does.Jump again)))))) in
    record { pad = all.pad; below = all.below }

-- FOR

pub iteration-returns : goal.iteration-returns
iteration-returns t c at =
    let hs = heads c.args.parts.now in
    let k = context c.args.parts.now c.args.function.now in
    one_then (c.in_ok-put.ensures does.Tick refl)
    (plain_then k (expr_of hs c.args.from.now) c.in_ok-expression.ensures.code
    (expr_then k (Int ∷ []) (expr_of hs c.args.to.now) c.in_ok-expression_over.ensures.code
    (one_then (c.in_ok-put_over.ensures does.Swap refl)
    (one_then (c.in_ok-put_over-2.ensures (writing (scalar_of c.args.counter)) c.writing.ensures) c.in_ok-rounds.ensures))))

pub rounds-returns : goal.rounds-returns
rounds-returns t c =
    let hs = heads c.args.parts.now in
    let k = context c.args.parts.now c.args.function.now in
    let w = c.args.writer.now in
    let p = length w.pad.steps in
    let body = block_of hs c.args.body.now in
    let n = block_size body in
    let size : c.block_size-size.result ≡ word n = c.block_size-size.ensures ∙ ap (λ (fs : List Function). word (block_size (block_of (heads_of fs) c.args.body.now))) c.as_slice.ensures in
    let inside = over (Int ∷ []) c.depth-depth.result c.depth-depth.ensures c.in_ok-over.ensures.pad c.in_ok-over.ensures.below c.in_ok-block.ensures c.back_to.ensures.pad c.back_to.ensures.below in
    let all =
    count_then (scalar_of c.args.counter) n (c.in_ok-count.ensures n size)
    (block_over_then k (Int ∷ []) body inside (c.in_ok-raise.ensures p (c.word-test.ensures ∙ ap word c.place.ensures))) in
    record { pad = all.pad; below = all.below }

-- SELECT

pub selection-returns : goal.selection-returns
selection-returns t c at =
    let hs = heads c.args.parts.now in
    let k = context c.args.parts.now c.args.function.now in
    let subject = expr_of hs c.args.subject.now in
    let cases = clauses_of hs c.args.cases.now in
    let last = block_of hs c.args.last.now in
    let j = kind_in k subject in
    let v = c.expression.new.writer in
    let p = length v.pad.steps in
    let z = p + clauses_size cases + 1 + block_size last in
    let first : c.clauses_size-size.result ≡ word (clauses_size cases) = c.clauses_size-size.ensures ∙ ap (λ (fs : List Function). word (clauses_size (clauses_of (heads_of fs) c.args.cases.now))) c.as_slice.ensures in
    let second : c.block_size-size.result ≡ word (block_size last) = c.block_size-size.ensures ∙ ap (λ (fs : List Function). word (block_size (block_of (heads_of fs) c.args.last.now))) c.as_slice-2.ensures in
    let behind : c.word_behind-behind.result ≡ word (p + clauses_size cases + 1) =
    c.word_behind-behind.ensures ∙ ap (λ m. word (m + (1 + c.clauses_size-size.result))) c.place.ensures ∙ sym (jump_word p 1 (clauses_size cases) c.clauses_size-size.result (p + clauses_size cases + 1) first (omega arith)) in
    let end : c.word_behind-end.result ≡ word z =
    c.word_behind-end.ensures
    ∙ ap (λ m. word (m + (0 + c.block_size-size.result))) behind
    ∙ sym (jump_word (word (p + clauses_size cases + 1)) 0 (block_size last) c.block_size-size.result (word (p + clauses_size cases + 1) + block_size last) second (omega arith))
    ∙ word_again (p + clauses_size cases + 1) (block_size last) in
    let same = c.in_ok-kind.ensures.kind in
    let put = subst (λ (m : Kind). Writes v c.clauses.new.writer (λ b p. clauses_code k b m z p cases)) same (c.in_ok-clauses.ensures z end) in
    let dropped = subst (λ (m : Kind). Writes c.clauses.new.writer c.put_over.new.self (λ b p. step (b ++ m ∷ []) does.Drop ∷ [])) same (c.in_ok-put_over.ensures does.Drop refl) in
    one_then (c.in_ok-put.ensures does.Tick refl)
    (plain_then k subject c.in_ok-kind.ensures.code
    (here (λ b p. clauses_code k b j (p + clauses_size cases + 1 + block_size last) p cases ++ step (b ++ j ∷ []) does.Drop ∷ block_code k b (p + clauses_size cases + 1) last)
    (let rest = clauses_then k j z cases put (one_then dropped c.in_ok-block.ensures) in record { pad = rest.pad; below = rest.below })))

pub clauses-loop-case-init : goal.clauses-loop-case-init
clauses-loop-case-init t c = record { goes = λ z e x h. h }

pub clauses-loop-case-preserved : goal.clauses-loop-case-preserved
clauses-loop-case-preserved t c =
    let i = c.loop-case.case-index in
    let all = c.args.cases.now in
    let hs = heads c.args.parts.now in
    let one : Clause = record { labels = map (label_of hs) c.as_slice-tests.result.now; body = block_of hs c.as_slice-body.result.now } in
    let seen : clause_of hs c.case-item.result ≡ one = search (rules, the_lemmas) in
    clauses_next (context c.args.parts.now c.args.function.now) c.args.subject c.args.end c.args.writer.now c.loop-case.writer c.clause.new.writer (clauses_of hs all) (clauses_of hs (drop i all)) one (clauses_of hs (drop (i + 1) all))
    (ap (clauses_of hs) (next all i c.case-item.result c.case-item.is c.loop-case-test.true) ∙ ap (λ (x : Clause). to.clause x.labels x.body (clauses_of hs (drop (i + 1) all))) seen) c.in_ok-clause.ensures c.loop-case.invariant

pub clauses-returns : goal.clauses-returns
clauses-returns t c z e =
    let hs = heads c.args.parts.now in
    clauses_done (context c.args.parts.now c.args.function.now) c.args.subject c.args.end c.args.writer.now c.loop-case.writer (clauses_of hs c.args.cases.now) (clauses_of hs (drop c.loop-case.case-index c.args.cases.now))
    (ap (clauses_of hs) (drop_all c.loop-case.case-index c.args.cases.now c.loop-case-test.false)) c.loop-case.invariant z e

pub clause-returns : goal.clause-returns
clause-returns t c z e =
    let hs = heads c.args.parts.now in
    let k = context c.args.parts.now c.args.function.now in
    let j = c.args.subject in
    let tests = map (label_of hs) c.args.tests.now in
    let body = block_of hs c.args.body.now in
    let n = labels_size tests in
    let m = block_size body in
    let p = length c.args.writer.now.pad.steps in
    let x = length c.labels.new.writer.pad.steps in
    let first : c.labels_size-size.result ≡ word n = c.labels_size-size.ensures ∙ ap (λ (fs : List Function). word (labels_size (map (label_of (heads_of fs)) c.args.tests.now))) c.as_slice.ensures in
    let second : c.block_size-size.result ≡ word m = c.block_size-size.ensures ∙ ap (λ (fs : List Function). word (block_size (block_of (heads_of fs) c.args.body.now))) c.as_slice-2.ensures in
    let begin : c.word_behind-begin.result ≡ word (p + n + 1) =
    c.word_behind-begin.ensures ∙ ap (λ a. word (a + (1 + c.labels_size-size.result))) c.place.ensures ∙ sym (jump_word p 1 n c.labels_size-size.result (p + n + 1) first (omega arith)) in
    let all =
    labels_then k j (p + n + 1) tests (c.in_ok-labels.ensures (p + n + 1) begin)
    (one_then (here (λ b q. step (b ++ j ∷ []) (does.Jump (past 2 q + m + 1)) ∷ []) (c.in_ok-jump.ensures (past 2 x + m + 1) (jump_word x 3 m c.block_size-size.result (past 2 x + m + 1) second (omega arith))))
    (one_then (c.in_ok-put_over.ensures does.Drop refl) (block_then k body c.in_ok-block.ensures (c.in_ok-put.ensures (does.Jump z) (ap does.Jump e))))) in
    record { pad = all.pad; below = all.below }

-- Bodies

pub block-loop-stmt-init : goal.block-loop-stmt-init
block-loop-stmt-init t c = record { goes = λ x h. h }

pub block-loop-stmt-preserved : goal.block-loop-stmt-preserved
block-loop-stmt-preserved t c =
    let i = c.loop-stmt.stmt-index in
    let all = c.args.body.now in
    let hs = heads c.args.parts.now in
    block_next (context c.args.parts.now c.args.function.now) c.args.writer.now c.loop-stmt.writer c.statement.new.writer (block_of hs all) (block_of hs (drop i all)) (stmt_of hs c.stmt-item.result) (block_of hs (drop (i + 1) all))
    (ap (block_of hs) (next all i c.stmt-item.result c.stmt-item.is c.loop-stmt-test.true)) c.in_ok-statement.ensures c.loop-stmt.invariant

pub block-returns : goal.block-returns
block-returns t c =
    let hs = heads c.args.parts.now in
    block_done (context c.args.parts.now c.args.function.now) c.args.writer.now c.loop-stmt.writer (block_of hs c.args.body.now) (block_of hs (drop c.loop-stmt.stmt-index c.args.body.now))
    (ap (block_of hs) (drop_all c.loop-stmt.stmt-index c.args.body.now c.loop-stmt-test.false)) c.loop-stmt.invariant
