use Rattle.std.proofs.Common.{rules, ◌≡◌, ◌+◌, ◌++◌, drop, map, None, sym, ap, ◌∙◌, refl, option_map}
use Rattle.std.proofs.lemmas.List.{drop_all}
use Rattle.ci_base.specs.declared.value.Kind.TheVariants.{Int}
use Rattle.ci_tree.specs.Tree as tree
use Rattle.ci_tree.specs.Bound as to
use Rattle.ci_tree.specs.Seen.{expr_of, exprs_of, label_of, stmt_of, clause_of, block_of, clauses_of}
use Rattle.ci_tree.specs.declared.tree.Stmt.{the_lemmas}
use Rattle.ci_names.specs.Fault.{noted}
use Rattle.ci_names.specs.Scopes.{with_locals, locals_in_block, locals_in_clauses, locals_in_other}
use Rattle.ci_names.specs.Kinds.{kind_of}
use Rattle.ci_names.specs.Expressions.{expr_faults}
use Rattle.ci_names.specs.Statements.{target, part_faults, labels_faults, clauses_faults, block_faults, other_faults}
use Rattle.ci_names.specs.Binding.{heads_in, bound_label, bound_block}
use Rattle.ci_scopes.specs.Seen.{scope_of}
use Rattle.ci_bodies.specs.Made.{expr_in, stmt_in, block_in, clauses_in, other_in}
use Rattle.ci_bodies.specs.Walk.{other_of}
use Rattle.ci_bodies.proofs.BodySteps.{body_more, body_end, clauses_more, clauses_end}
use Rattle.ci_bodies.proofs.Loops.{next}
use Rattle.ci_bodies.proofs.Noted.{both_noted, three_noted}
use Rattle.ci_bodies.proofs.Scopes.{with_more}
use Rattle.ci_bodies.proofs.Statements.{added, other_behind, last_behind}
use Rattle.ci_bodies.proofs.bodies.+bodies.Goals as goal

-- Bodies

pub body-loop-stmt-preserved : goal.body-loop-stmt-preserved
body-loop-stmt-preserved t c =
    let i = c.loop-stmt.stmt-index in
    let all = c.args.body.now in
    body_more (scope_of c.loop-stmt.scope) (scope_of c.statement.new.scope) c.loop-stmt.made c.statement.new.into c.loop-stmt.found c.statement.new.found (drop i all) (drop (i + 1) all) c.stmt-item.result
    (scope_of c.args.scope.now) c.args.found.now all c.in_ok-statement.ensures.tree c.in_ok-statement.ensures.found c.in_ok-statement.ensures.scope
    (next all i c.stmt-item.result c.stmt-item.is c.loop-stmt-test.true) c.loop-stmt.invariant

pub clauses-loop-one-preserved : goal.clauses-loop-one-preserved
clauses-loop-one-preserved t c =
    let i = c.loop-one.one-index in
    let all = c.args.clauses.now in
    clauses_more (scope_of c.loop-one.scope) (scope_of c.clause.new.scope) c.args.subject c.loop-one.made c.push.new.items c.in_ok-bound.bound c.loop-one.found c.clause.new.found (drop i all) (drop (i + 1) all) c.one-item.result
    (scope_of c.args.scope.now) c.args.found.now all c.in_ok-push.ensures c.in_ok-bound.ensures.labels c.in_ok-bound.ensures.body c.in_ok-bound.ensures.found c.in_ok-bound.ensures.scope
    (next all i c.one-item.result c.one-item.is c.loop-one-test.true) c.loop-one.invariant

pub clause-returns-clause-found : goal.clause-returns-clause-found
clause-returns-clause-found t c =
    let s = scope_of c.args.scope.now in
    let labels = map label_of c.as_slice.result.now in
    let body = block_of c.as_slice-2.result.now in
    let is_labels : (clause_of c.args.clause.now).labels ≡ labels = search (rules, the_lemmas) in
    let is_body : (clause_of c.args.clause.now).body ≡ body = search (rules, the_lemmas) in
    both_noted c.args.found.now c.labels.new.found c.body.new.found (labels_faults s c.args.subject labels) (block_faults s body) c.in_ok-labels.ensures.found c.in_ok-block.ensures.found
    ∙ ap (λ x. noted c.args.found.now (labels_faults s c.args.subject x ++ block_faults s body)) (sym is_labels)
    ∙ ap (λ x. noted c.args.found.now (labels_faults s c.args.subject (clause_of c.args.clause.now).labels ++ block_faults s x)) (sym is_body)

pub body-returns-clause-tree : goal.body-returns-clause-tree
body-returns-clause-tree t c =
    let i = c.loop-stmt.stmt-index in
    let all = c.args.body.now in
    (body_end (scope_of c.loop-stmt.scope) c.loop-stmt.made c.loop-stmt.found (drop i all) (scope_of c.args.scope.now) c.args.found.now all (drop_all i all c.loop-stmt-test.false) c.loop-stmt.invariant).0

pub clauses-returns-clause-tree : goal.clauses-returns-clause-tree
clauses-returns-clause-tree t c =
    let i = c.loop-one.one-index in
    let all = c.args.clauses.now in
    (clauses_end (scope_of c.loop-one.scope) c.args.subject c.loop-one.made c.loop-one.found (drop i all) (scope_of c.args.scope.now) c.args.found.now all (drop_all i all c.loop-one-test.false) c.loop-one.invariant).0

-- Clauses

pub clause-returns-clause-labels : goal.clause-returns-clause-labels
clause-returns-clause-labels t c =
    let s = scope_of c.args.scope.now in
    let is_labels : (clause_of c.args.clause.now).labels ≡ map label_of c.as_slice.result.now = search (rules, the_lemmas) in
    c.new.ensures.labels (heads_in s.declared) ∙ c.in_ok-labels.ensures.tree ∙ ap (map (bound_label s)) (sym is_labels)

pub clause-returns-clause-body : goal.clause-returns-clause-body
clause-returns-clause-body t c =
    let s = scope_of c.args.scope.now in
    let is_body : (clause_of c.args.clause.now).body ≡ block_of c.as_slice-2.result.now = search (rules, the_lemmas) in
    c.new.ensures.body (heads_in s.declared) ∙ c.in_ok-block.ensures.tree ∙ ap (bound_block s) (sym is_body)

-- Assignments, calls and RETURN

pub statement-returns-in_ok-push-in-Assign-clause-tree : goal.statement-returns-in_ok-push-in-Assign-clause-tree
statement-returns-in_ok-push-in-Assign-clause-tree t c =
    let s = scope_of c.args.scope.now in
    let a = c.in-Assign in
    let given = tree.assign a.at a.name (option_map expr_of a.index) a.equals (expr_of a.value) in
    let seen : stmt_of c.args.stmt.now ≡ given = search (rules, the_lemmas) in
    let one = c.in_ok-assign-in-Assign.field-0 in
    added s (stmt_of c.args.stmt.now) given c.args.into.now c.push.new.items one (stmt_in s one) seen c.in_ok-push-in-Assign.ensures refl c.in_ok-assign-in-Assign.ensures.tree

pub statement-returns-in_ok-push-in-CallOf-clause-tree : goal.statement-returns-in_ok-push-in-CallOf-clause-tree
statement-returns-in_ok-push-in-CallOf-clause-tree t c =
    let s = scope_of c.args.scope.now in
    let given = tree.call_of c.in-CallOf.at c.in-CallOf.name (exprs_of c.as_slice-in-CallOf.result.now) in
    let seen : stmt_of c.args.stmt.now ≡ given = search (rules, the_lemmas) in
    let one = c.in_ok-call-in-CallOf.field-0 in
    added s (stmt_of c.args.stmt.now) given c.args.into.now c.push-in-CallOf.new.items one (stmt_in s one) seen c.in_ok-push-in-CallOf.ensures refl c.in_ok-call-in-CallOf.ensures.tree

pub statement-returns-in_ok-push-in-Return-clause-tree : goal.statement-returns-in_ok-push-in-Return-clause-tree
statement-returns-in_ok-push-in-Return-clause-tree t c =
    let s = scope_of c.args.scope.now in
    let given = tree.return c.in-Return.at (option_map expr_of c.in-Return.value) in
    let seen : stmt_of c.args.stmt.now ≡ given = search (rules, the_lemmas) in
    let one = c.in_ok-give_back-in-Return.field-0 in
    added s (stmt_of c.args.stmt.now) given c.args.into.now c.push-in-Return.new.items one (stmt_in s one) seen c.in_ok-push-in-Return.ensures refl c.in_ok-give_back-in-Return.ensures.tree

-- IF

pub statement-returns-in_ok-push-in-If-clause-tree : goal.statement-returns-in_ok-push-in-If-clause-tree
statement-returns-in_ok-push-in-If-clause-tree t c =
    let s = scope_of c.args.scope.now in
    let given = tree.choose c.in-If.at (expr_of c.in-If.test) (block_of c.as_slice-in-If.result.now) (other_of c.in-If.other) in
    let seen : stmt_of c.args.stmt.now ≡ given = search (rules, the_lemmas) in
    let one = c.in_ok-one-in-If.one in
    added s (stmt_of c.args.stmt.now) given c.args.into.now c.push-in-If.new.items one (stmt_in s one) seen c.in_ok-push-in-If.ensures refl c.in_ok-one-in-If.ensures.tree

pub choice-returns-clause-tree : goal.choice-returns-clause-tree
choice-returns-clause-tree t c rest =
    let s = scope_of c.args.scope.now in
    let at = c.args.at in
    let inside = block_of c.args.inside.now in
    let other = other_of c.args.other.now in
    let is_other = other_behind s (scope_of c.body.new.scope) (locals_in_block inside) c.in_ok-other.other other c.in_ok-inside.ensures.scope c.in_ok-other.ensures.tree in
    ap (λ x. to.then x rest) (sym (c.choose.ensures (heads_in s.declared)
    ∙ (λ i. to.choose at (expr_in s (c.in_ok-test-2.ensures i)) (block_in s c.in_ok-inside.inside) (other_in s c.in_ok-other.other))
    ∙ (λ i. to.choose at (c.in_ok-test.ensures.tree i) (c.in_ok-inside.ensures.tree i) (is_other i))))

pub choice-returns-clause-found : goal.choice-returns-clause-found
choice-returns-clause-found t c =
    let s = scope_of c.args.scope.now in
    let inside = block_of c.args.inside.now in
    let other = other_of c.args.other.now in
    three_noted c.args.found.now c.part.new.found c.body.new.found c.otherwise.new.found (part_faults s Int (expr_of c.args.test.now)) (block_faults s inside) (other_faults (with_locals s (locals_in_block inside)) other)
    c.in_ok-test.ensures.found c.in_ok-inside.ensures.found (c.in_ok-other.ensures.found ∙ ap (λ x. noted c.body.new.found (other_faults x other)) c.in_ok-inside.ensures.scope)

pub choice-returns-clause-scope : goal.choice-returns-clause-scope
choice-returns-clause-scope t c =
    let s = scope_of c.args.scope.now in
    let inside = locals_in_block (block_of c.args.inside.now) in
    let other = locals_in_other (other_of c.args.other.now) in
    c.in_ok-other.ensures.scope ∙ ap (λ x. with_locals x other) c.in_ok-inside.ensures.scope ∙ with_more s inside other

-- WHILE and FOR

pub statement-returns-in_ok-push-in-While-clause-tree : goal.statement-returns-in_ok-push-in-While-clause-tree
statement-returns-in_ok-push-in-While-clause-tree t c =
    let s = scope_of c.args.scope.now in
    let given = tree.while c.in-While.at (expr_of c.in-While.test) (block_of c.as_slice-in-While.result.now) in
    let seen : stmt_of c.args.stmt.now ≡ given = search (rules, the_lemmas) in
    let one = c.in_ok-one-in-While.one in
    added s (stmt_of c.args.stmt.now) given c.args.into.now c.push-in-While.new.items one (stmt_in s one) seen c.in_ok-push-in-While.ensures refl c.in_ok-one-in-While.ensures.tree

pub repetition-returns-clause-tree : goal.repetition-returns-clause-tree
repetition-returns-clause-tree t c rest =
    let s = scope_of c.args.scope.now in
    ap (λ x. to.then x rest) (sym (c.repeat.ensures (heads_in s.declared) ∙ (λ i. to.while c.args.at (c.in_ok-test.ensures.tree i) (c.in_ok-inside.ensures.tree i))))

pub repetition-returns-clause-found : goal.repetition-returns-clause-found
repetition-returns-clause-found t c =
    let s = scope_of c.args.scope.now in
    both_noted c.args.found.now c.part.new.found c.body.new.found (part_faults s Int (expr_of c.args.test.now)) (block_faults s (block_of c.args.inside.now)) c.in_ok-test.ensures.found c.in_ok-inside.ensures.found

pub statement-returns-in_ok-push-in-For-clause-tree : goal.statement-returns-in_ok-push-in-For-clause-tree
statement-returns-in_ok-push-in-For-clause-tree t c =
    let s = scope_of c.args.scope.now in
    let f = c.in-For in
    let given = tree.for f.at f.name_at f.name (expr_of f.from) (expr_of f.to) (block_of c.as_slice-in-For.result.now) in
    let seen : stmt_of c.args.stmt.now ≡ given = search (rules, the_lemmas) in
    let one = c.in_ok-one-in-For.one in
    added s (stmt_of c.args.stmt.now) given c.args.into.now c.push-in-For.new.items one (stmt_in s one) seen c.in_ok-push-in-For.ensures refl c.in_ok-one-in-For.ensures.tree

pub iteration-returns-clause-tree : goal.iteration-returns-clause-tree
iteration-returns-clause-tree t c rest =
    let s = scope_of c.args.scope.now in
    let head = c.in_ok-counter.ensures in
    ap (λ x. to.then x rest) (sym (c.count.ensures (heads_in s.declared) ∙ (λ i. to.for c.args.at (head.counter i) (head.from i) (head.to i) (c.in_ok-inside.ensures.tree i))))

pub iteration-returns-clause-found : goal.iteration-returns-clause-found
iteration-returns-clause-found t c =
    let s = scope_of c.args.scope.now in
    let f = c.args.counting in
    let faults = part_faults s Int in
    both_noted c.args.found.now c.head.new.found c.body.new.found (faults (target f.at f.name.now None) ++ faults (expr_of f.from.now) ++ faults (expr_of f.to.now)) (block_faults s (block_of c.args.inside.now))
    c.in_ok-counter.ensures.found c.in_ok-inside.ensures.found

-- SELECT

pub statement-returns-in_ok-push-in-Select-clause-tree : goal.statement-returns-in_ok-push-in-Select-clause-tree
statement-returns-in_ok-push-in-Select-clause-tree t c =
    let s = scope_of c.args.scope.now in
    let given = tree.select c.in-Select.at (expr_of c.in-Select.subject) (clauses_of c.as_slice-in-Select.result.now) (other_of c.in-Select.other) in
    let seen : stmt_of c.args.stmt.now ≡ given = search (rules, the_lemmas) in
    let one = c.in_ok-one-in-Select.one in
    added s (stmt_of c.args.stmt.now) given c.args.into.now c.push-in-Select.new.items one (stmt_in s one) seen c.in_ok-push-in-Select.ensures refl c.in_ok-one-in-Select.ensures.tree

pub selection-returns-clause-tree : goal.selection-returns-clause-tree
selection-returns-clause-tree t c rest =
    let s = scope_of c.args.scope.now in
    let at = c.args.at in
    let cases = clauses_of c.args.cases.now in
    let other = other_of c.args.other.now in
    let is_last = last_behind s (scope_of c.clauses.new.scope) (locals_in_clauses cases) c.in_ok-last.last other c.in_ok-cases.ensures.scope c.in_ok-last.ensures.tree in
    ap (λ x. to.then x rest) (sym (c.select.ensures (heads_in s.declared)
    ∙ (λ i. to.select at (expr_in s (c.in_ok-subject-2.ensures i)) (clauses_in s c.in_ok-cases.cases) (block_in s c.in_ok-last.last))
    ∙ (λ i. to.select at (c.in_ok-subject.ensures.tree i) (c.in_ok-cases.ensures.tree i) (is_last i))))

pub selection-returns-clause-found : goal.selection-returns-clause-found
selection-returns-clause-found t c =
    let s = scope_of c.args.scope.now in
    let subject = expr_of c.args.subject.now in
    let cases = clauses_of c.args.cases.now in
    let other = other_of c.args.other.now in
    three_noted c.args.found.now c.expression.new.found c.clauses.new.found c.else_part.new.found (expr_faults s subject) (clauses_faults s (kind_of s subject) cases) (other_faults (with_locals s (locals_in_clauses cases)) other)
    c.in_ok-subject.ensures.found
    (c.in_ok-cases.ensures.found ∙ ap (λ k. noted c.expression.new.found (clauses_faults s k cases)) c.in_ok-subject.ensures.kind)
    (c.in_ok-last.ensures.found ∙ ap (λ x. noted c.clauses.new.found (other_faults x other)) c.in_ok-cases.ensures.scope)

pub selection-returns-clause-scope : goal.selection-returns-clause-scope
selection-returns-clause-scope t c =
    let s = scope_of c.args.scope.now in
    let cases = locals_in_clauses (clauses_of c.args.cases.now) in
    let other = locals_in_other (other_of c.args.other.now) in
    c.in_ok-last.ensures.scope ∙ ap (λ x. with_locals x other) c.in_ok-cases.ensures.scope ∙ with_more s cases other
