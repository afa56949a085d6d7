use Rattle.std.proofs.Common.{◌≡◌, ◌∙◌, ◌++◌, ◌∷◌, [], length, ap}
use Rattle.std.proofs.lemmas.Result.{err_from_is_err_and}
use Rattle.ci_expressions.specs.Gives.{kinds}
use Rattle.ci_parser.specs.Reading as reading
use Rattle.ci_expressions.proofs.Loops.{fails, members_first, goes_on_with, begin, found_some, found_none, round_none, length_kinds}
use Rattle.ci_parser.proofs.members.some_parameters.Goals as goal

pub loop-init : goal.loop-init
loop-init c =
    let first = c.in_ok-first.first in
    let behind = c.in_ok-first.behind in
    let one : c.push.new.self ≡ first ∷ [] = c.in_ok-push.ensures.ok ∙ ap (λ xs. xs ++ first ∷ []) c.in_ok-params.ensures in
    begin _ _ _ _ _ _ _ _ one (length_kinds behind.left.now) (members_first reading.parameter c.args.from.at (kinds c.args.from.left.now) first behind.at (kinds behind.left.now) c.in_ok-first.ensures)

pub loop-preserved : goal.loop-preserved
loop-preserved c =
    let more : c.push-in-loop.new.self ≡ c.loop.params ++ c.in-Some.other ∷ [] = c.in_ok-push-2.ensures.ok in
    goes_on_with (reading.comma_step reading.parameter) c.loop.params _ (length c.in_ok-first.behind.left.now) c.loop.counter c.loop.here.at (kinds c.loop.here.left.now) c.in-Some.other c.in-Some.after.at (kinds c.in-Some.after.left.now) _
    more c.loop-test.true (found_some _ _ _ _ c.in_ok-other.ensures c.in-Some.is) c.loop.invariant

pub returns-in_default : goal.returns-in_default
returns-in_default c = round_none (reading.comma_step reading.parameter) _ c.loop.here.at (kinds c.loop.here.left.now) c.loop.params _ c.loop.invariant (found_none _ _ _ c.in_ok-other.ensures c.in_default.is)

pub returns-in_err-other : goal.returns-in_err-other
returns-in_err-other c =
    let p = err_from_is_err_and c.from_residual-in_err-other.result c.from_residual-in_err-other.ensures.1 in
    rw (p.1, p.2) (fails c.in_err-other.field-0.0 (reading.comma_step reading.parameter) c.loop.params (length c.in_ok-first.behind.left.now) c.loop.counter c.loop.here.at (kinds c.loop.here.left.now) _ c.loop-test.true c.in_err-other.ensures c.loop.invariant)
