use Rattle.std.proofs.Common.{◌≡◌, ◌∙◌, ◌+◌, ◌-◌, ◌++◌, ◌∷◌, [], zero, suc, length, map, option_map, ap, sym, refl, Ok, arith}
use Rattle.std.proofs.lemmas.Result.{err_from_is_err_and}
use Rattle.std.proofs.lemmas.List.{map_push}
use Rattle.std.specs.Option.{option_to_list}
use Rattle.ci_tree.specs.Tree.{other_from}
use Rattle.ci_tree.specs.Seen.{stmt_of, clause_of, block_of}
use Rattle.ci_expressions.specs.Gives.{kinds}
use Rattle.ci_parser.specs.Reading as reading
use Rattle.ci_expressions.proofs.Loops.{gives_same, length_kinds}
use Rattle.ci_parser.proofs.Bodies.{same_ok, body_begins, body_ends, body_fails, body_last, body_goes_on, cases_begin, cases_close, close_fails, clause_fails, clause_goes_on, cases_spent}
use Rattle.ci_parser.proofs.Constructs.{statement_opens, statement_simple}
use Rattle.ci_parser.proofs.statements.+statements.Goals as goal

pub statement-returns-in-None : goal.statement-returns-in-None
statement-returns-in-None t c =
    gives_same _ c.simple_statement.result _ _ (sym (statement_simple (reading.expression c.args.free) (reading.inside_of c.args.free) c.args.here.at (kinds c.args.here.left.now) (sym c.in-None.ensures))) c.simple_statement.ensures

pub statement-returns-in-Some : goal.statement-returns-in-Some
statement-returns-in-Some t c =
    gives_same _ c.opened.result _ _ (sym (statement_opens (reading.expression c.args.free) (reading.inside_of c.args.free) c.args.here.at (kinds c.args.here.left.now) (c.in-Some.word, c.in-Some.behind.at, kinds c.in-Some.behind.left.now) (sym c.in-Some.ensures))) c.opened.ensures

pub body-loop-init : goal.body-loop-init
body-loop-init t c = body_begins c.args.free _ c.args.from.at (kinds c.args.from.left.now) (map stmt_of c.in_ok-found.found) (ap (map stmt_of) c.in_ok-found.ensures) (length_kinds c.args.from.left.now)

pub body-returns-then-not-begins_statement : goal.body-returns-then-not-begins_statement
body-returns-then-not-begins_statement t c =
    body_ends (reading.expression c.args.free) (reading.inside_of c.args.free) (length c.args.from.left.now - c.loop.counter) c.loop.here.at (kinds c.loop.here.left.now) (map stmt_of c.loop.found) _
    (sym c.begins_statement.ensures ∙ c.if-not-begins_statement.true) c.loop.invariant

pub body-returns-in_err-one : goal.body-returns-in_err-one
body-returns-in_err-one t c =
    let p = err_from_is_err_and c.from_residual-in_err-one.result c.from_residual-in_err-one.ensures.1 in
    rw (p.1, p.2) (body_fails c.in_err-one.field-0.0 (reading.expression c.args.free) (reading.inside_of c.args.free) (length c.args.from.left.now) c.loop.counter c.loop.here.at (kinds c.loop.here.left.now) (map stmt_of c.loop.found) _
    c.loop-test.true (sym c.begins_statement.ensures ∙ c.if-not-begins_statement.false) c.loop.invariant c.in_err-one.ensures)

pub body-loop-preserved : goal.body-loop-preserved
body-loop-preserved t c =
    let more : map stmt_of c.in_ok-found-2.found ≡ map stmt_of c.loop.found ++ option_to_list (option_map stmt_of c.in_ok-one.one) = same_ok (Ok (map stmt_of c.in_ok-found-2.found)) _ _ refl (sym c.in_ok-found-2.ensures) in
    body_goes_on (reading.expression c.args.free) (reading.inside_of c.args.free) (length c.args.from.left.now) c.loop.counter c.loop.here.at (kinds c.loop.here.left.now) (map stmt_of c.loop.found) (map stmt_of c.in_ok-found-2.found) _ (option_map stmt_of c.in_ok-one.one) c.in_ok-one.behind.at (kinds c.in_ok-one.behind.left.now)
    c.loop-test.true (sym c.begins_statement.ensures ∙ c.if-not-begins_statement.false) c.loop.invariant c.in_ok-one.ensures more

pub body-returns : goal.body-returns
body-returns t c =
    let spent : length c.args.from.left.now - c.loop.counter ≡ zero = omega arith in
    body_last (reading.expression c.args.free) (reading.inside_of c.args.free) (length c.args.from.left.now - c.loop.counter) c.loop.here.at (kinds c.loop.here.left.now) (map stmt_of c.loop.found) _ spent c.loop.invariant

pub cases-loop-init : goal.cases-loop-init
cases-loop-init t c =
    let same : length c.args.from.left.now + 1 - 0 ≡ suc (length (kinds c.args.from.left.now)) = omega (arith, length_kinds c.args.from.left.now) in
    cases_begin (reading.within c.args.inside) _ _ c.args.from.at (kinds c.args.from.left.now) (map clause_of c.in_ok-clauses.clauses) (ap (map clause_of) c.in_ok-clauses.ensures) same

pub cases-returns-in_err-other : goal.cases-returns-in_err-other
cases-returns-in_err-other t c =
    let p = err_from_is_err_and c.from_residual-in_err-other.result c.from_residual-in_err-other.ensures.1 in
    rw (p.1, p.2) (close_fails c.in_err-other.field-0.0 (reading.within c.args.inside) (length c.args.from.left.now + 1) c.loop.counter c.loop.here.at (kinds c.loop.here.left.now) (map clause_of c.loop.clauses) _
    c.loop-test.true (sym c.begins_clause.ensures ∙ c.if-not-begins_clause.true) c.loop.invariant c.in_err-other.ensures)

pub cases-returns-then-not-begins_clause : goal.cases-returns-then-not-begins_clause
cases-returns-then-not-begins_clause t c =
    cases_close (reading.within c.args.inside) (length c.args.from.left.now + 1) c.loop.counter c.loop.here.at (kinds c.loop.here.left.now) (map clause_of c.loop.clauses) _ (other_from (option_map block_of c.in_ok-other.other)) c.in_ok-other.end.at (kinds c.in_ok-other.end.left.now)
    c.loop-test.true (sym c.begins_clause.ensures ∙ c.if-not-begins_clause.true) c.loop.invariant c.in_ok-other.ensures

pub cases-returns-in_err-one : goal.cases-returns-in_err-one
cases-returns-in_err-one t c =
    let p = err_from_is_err_and c.from_residual-in_err-one.result c.from_residual-in_err-one.ensures.1 in
    rw (p.1, p.2) (clause_fails c.in_err-one.field-0.0 (reading.within c.args.inside) (length c.args.from.left.now + 1) c.loop.counter c.loop.here.at (kinds c.loop.here.left.now) (map clause_of c.loop.clauses) _
    c.loop-test.true (sym c.begins_clause.ensures ∙ c.if-not-begins_clause.false) c.loop.invariant c.in_err-one.ensures)

pub cases-loop-preserved : goal.cases-loop-preserved
cases-loop-preserved t c =
    let more : map clause_of c.push.new.self ≡ map clause_of c.loop.clauses ++ clause_of c.in_ok-one.one ∷ [] = ap (map clause_of) c.in_ok-push.ensures.ok ∙ map_push clause_of c.loop.clauses c.in_ok-one.one in
    clause_goes_on (reading.within c.args.inside) (length c.args.from.left.now + 1) c.loop.counter c.loop.here.at (kinds c.loop.here.left.now) (map clause_of c.loop.clauses) (map clause_of c.push.new.self) _ (clause_of c.in_ok-one.one) c.in_ok-one.behind.at (kinds c.in_ok-one.behind.left.now)
    c.loop-test.true (sym c.begins_clause.ensures ∙ c.if-not-begins_clause.false) c.loop.invariant c.in_ok-one.ensures more

pub cases-returns : goal.cases-returns
cases-returns t c =
    let spent : length c.args.from.left.now + 1 - c.loop.counter ≡ zero = omega arith in
    cases_spent (reading.within c.args.inside) (length c.args.from.left.now + 1 - c.loop.counter) c.loop.here.at (kinds c.loop.here.left.now) (map clause_of c.loop.clauses) _ spent c.loop.invariant
