use Rattle.std.proofs.Common.{◌≡◌, ◌∙◌, ◌++◌, ◌∷◌, [], suc, length, map, ap, sym, Ok, arith}
use Rattle.std.proofs.lemmas.Result.{err_from_is_err_and}
use Rattle.std.proofs.lemmas.List.{map_push}
use Rattle.ci_tree.specs.Tree.{links_from, exprs_from}
use Rattle.ci_tree.specs.Seen.{expr_of, link_of}
use Rattle.ci_expressions.specs.Gives.{kinds}
use Rattle.ci_expressions.specs.Reading as reading
use Rattle.ci_expressions.proofs.Levels.{level_next, stays, fails_above, fails_next}
use Rattle.ci_expressions.proofs.Loops.{unary_is, rest_is, arguments_some, members_first, goes_on_with, fails, begin, gives_value, gives_same, found_some, found_none, round_none, length_kinds}
use Rattle.ci_expressions.proofs.expressions.+expressions.Goals as goal

pub unary-returns : goal.unary-returns
unary-returns t c = gives_same _ c.member.result _ _ (sym (unary_is c.args.free c.args.here.at (kinds c.args.here.left.now))) c.member.ensures

pub level-returns-in_err-first : goal.level-returns-in_err-first
level-returns-in_err-first t c =
    let p = err_from_is_err_and c.from_residual.result c.from_residual.ensures.1 in
    rw (p.1, p.2) (fails_above c.in_err-first.field-0.0 (reading.unary c.args.free) 0 c.args.group c.args.here.at (kinds c.args.here.left.now) (omega arith) c.in_err-first.ensures)

pub level-loop-lower-init : goal.level-loop-lower-init
level-loop-lower-init t c =
    let first = c.in_ok-first.first in
    let behind = c.in_ok-first.behind in
    (c.joining-lower.ensures.most, stays (reading.unary c.args.free) 0 c.joining-lower.result c.args.here.at (kinds c.args.here.left.now) (expr_of first) behind.at (kinds behind.left.now) c.in_ok-first.ensures (omega arith) c.joining-lower.ensures.before)

pub level-returns-in_err-joined : goal.level-returns-in_err-joined
level-returns-in_err-joined t c =
    let p = err_from_is_err_and c.from_residual-in_err-joined.result c.from_residual-in_err-joined.ensures.1 in
    rw (p.1, p.2) (fails_next c.in_err-joined.field-0.0 (reading.unary c.args.free) c.loop-lower.lower c.args.group c.args.here.at (kinds c.args.here.left.now) (expr_of c.loop-lower.first) c.loop-lower.behind.at (kinds c.loop-lower.behind.left.now) c.loop-lower-test.true c.loop-lower.invariant.1 c.in_err-joined.ensures)

pub level-loop-lower-preserved : goal.level-loop-lower-preserved
level-loop-lower-preserved t c =
    let joined = c.in_ok-joined.joined in
    let after = c.in_ok-joined.after in
    let joins = c.joining-lower-in-loop-lower in
    let base = reading.unary c.args.free in
    let lower = c.loop-lower.lower in
    let next : reading.level_on base (suc lower) c.args.here.at (kinds c.args.here.left.now) ≡ Ok (expr_of joined, after.at, kinds after.left.now) =
    level_next base lower c.args.here.at (kinds c.args.here.left.now) (expr_of c.loop-lower.first) c.loop-lower.behind.at (kinds c.loop-lower.behind.left.now) c.loop-lower.invariant.1 ∙ c.in_ok-joined.ensures in
    (joins.ensures.most, stays base (suc lower) joins.result c.args.here.at (kinds c.args.here.left.now) (expr_of joined) after.at (kinds after.left.now) next (omega (arith, joins.ensures.least)) (λ k least less. joins.ensures.before k (omega arith) less))

pub rest-returns : goal.rest-returns
rest-returns t c =
    gives_same _ c.links.result _ _ (sym (rest_is (reading.level_on (reading.unary c.args.free) c.args.group) c.args.group (length (kinds c.args.from.left.now)) c.args.from.at (kinds c.args.from.left.now)))
    (gives_value _ links_from c.links.result _ c.links.ensures)

pub arguments-returns : goal.arguments-returns
arguments-returns t c =
    gives_same _ c.some_arguments.result _ _ (sym (arguments_some (reading.expression c.args.free) c.args.from.at (kinds c.args.from.left.now) (sym c.begins_expression.ensures.arguments ∙ c.if-not-begins_expression.false)))
    (gives_value _ exprs_from c.some_arguments.result _ c.some_arguments.ensures)

pub links-returns-in_err-link : goal.links-returns-in_err-link
links-returns-in_err-link t c =
    let p = err_from_is_err_and c.from_residual-in_err-link.result c.from_residual-in_err-link.ensures.1 in
    rw (p.1, p.2) (fails c.in_err-link.field-0.0 (reading.link_at (reading.level_on (reading.unary c.args.free) c.args.group) c.args.group) (map link_of c.loop.links) (length c.args.from.left.now) c.loop.counter c.loop.here.at (kinds c.loop.here.left.now) _ c.loop-test.true c.in_err-link.ensures c.loop.invariant)

pub links-loop-preserved : goal.links-loop-preserved
links-loop-preserved t c =
    let more : map link_of c.push.new.self ≡ map link_of c.loop.links ++ link_of c.in-Some.link ∷ [] = ap (map link_of) c.in_ok-push.ensures.ok ∙ map_push link_of c.loop.links c.in-Some.link in
    goes_on_with (reading.link_at (reading.level_on (reading.unary c.args.free) c.args.group) c.args.group) (map link_of c.loop.links) _ (length c.args.from.left.now) c.loop.counter c.loop.here.at (kinds c.loop.here.left.now) (link_of c.in-Some.link) c.in-Some.behind.at (kinds c.in-Some.behind.left.now) _
    more c.loop-test.true (found_some _ _ _ _ c.in_ok-link.ensures c.in-Some.is) c.loop.invariant

pub some_arguments-loop-init : goal.some_arguments-loop-init
some_arguments-loop-init t c =
    let first = c.in_ok-first.first in
    let behind = c.in_ok-first.behind in
    let one : map expr_of c.push.new.self ≡ expr_of first ∷ [] = ap (map expr_of) (c.in_ok-push.ensures.ok ∙ ap (λ xs. xs ++ first ∷ []) c.in_ok-args.ensures) in
    begin _ _ _ _ _ _ _ _ one (length_kinds behind.left.now) (members_first (reading.expression c.args.free) c.args.from.at (kinds c.args.from.left.now) (expr_of first) behind.at (kinds behind.left.now) c.in_ok-first.ensures)

pub some_arguments-loop-preserved : goal.some_arguments-loop-preserved
some_arguments-loop-preserved t c =
    let more : map expr_of c.push-in-loop.new.self ≡ map expr_of c.loop.args ++ expr_of c.in-Some.arg ∷ [] = ap (map expr_of) c.in_ok-push-2.ensures.ok ∙ map_push expr_of c.loop.args c.in-Some.arg in
    goes_on_with (reading.comma_step (reading.expression c.args.free)) (map expr_of c.loop.args) _ (length c.in_ok-first.behind.left.now) c.loop.counter c.loop.here.at (kinds c.loop.here.left.now) (expr_of c.in-Some.arg) c.in-Some.after.at (kinds c.in-Some.after.left.now) _
    more c.loop-test.true (found_some _ _ _ _ c.in_ok-arg.ensures c.in-Some.is) c.loop.invariant

pub links-returns-in_default : goal.links-returns-in_default
links-returns-in_default t c =
    round_none (reading.link_at (reading.level_on (reading.unary c.args.free) c.args.group) c.args.group) _ c.loop.here.at (kinds c.loop.here.left.now) (map link_of c.loop.links) _ c.loop.invariant (found_none _ _ _ c.in_ok-link.ensures c.in_default.is)

pub some_arguments-returns-in_default : goal.some_arguments-returns-in_default
some_arguments-returns-in_default t c =
    round_none (reading.comma_step (reading.expression c.args.free)) _ c.loop.here.at (kinds c.loop.here.left.now) (map expr_of c.loop.args) _ c.loop.invariant (found_none _ _ _ c.in_ok-arg.ensures c.in_default.is)

pub some_arguments-returns-in_err-arg : goal.some_arguments-returns-in_err-arg
some_arguments-returns-in_err-arg t c =
    let p = err_from_is_err_and c.from_residual-in_err-arg.result c.from_residual-in_err-arg.ensures.1 in
    rw (p.1, p.2) (fails c.in_err-arg.field-0.0 (reading.comma_step (reading.expression c.args.free)) (map expr_of c.loop.args) (length c.in_ok-first.behind.left.now) c.loop.counter c.loop.here.at (kinds c.loop.here.left.now) _ c.loop-test.true c.in_err-arg.ensures c.loop.invariant)
