use Rattle.std.proofs.Common.{◌≡◌, ◌∙◌, ◌-◌, ◌++◌, ◌∷◌, [], zero, length, map, ap, arith}
use Rattle.std.proofs.lemmas.Result.{err_from_is_err_and}
use Rattle.std.proofs.lemmas.List.{map_push}
use Rattle.ci_tree.specs.Seen.{label_of}
use Rattle.ci_expressions.specs.Gives.{kinds}
use Rattle.ci_parser.specs.Reading as reading
use Rattle.ci_expressions.proofs.Loops.{members_first, goes_on_with, begin, found_some, found_none, fails, round_none, round_last, length_kinds}
use Rattle.ci_parser.proofs.members.labels.Goals as goal

pub loop-init : goal.loop-init
loop-init c =
    let first = c.in_ok-first.first in
    let behind = c.in_ok-first.behind in
    let one : map label_of c.push.new.self ≡ label_of first ∷ [] = ap (map label_of) (c.in_ok-push.ensures.ok ∙ ap (λ xs. xs ++ first ∷ []) c.in_ok-labels.ensures) in
    begin _ _ _ _ _ _ _ _ one (length_kinds behind.left.now) (members_first (reading.label (reading.expression c.args.free)) c.args.from.at (kinds c.args.from.left.now) (label_of first) behind.at (kinds behind.left.now) c.in_ok-first.ensures)

pub loop-preserved : goal.loop-preserved
loop-preserved c =
    let more : map label_of c.push-in-loop.new.self ≡ map label_of c.loop.labels ++ label_of c.in-Some.other ∷ [] = ap (map label_of) c.in_ok-push-2.ensures.ok ∙ map_push label_of c.loop.labels c.in-Some.other in
    goes_on_with (reading.comma_step (reading.label (reading.expression c.args.free))) (map label_of c.loop.labels) _ (length c.in_ok-first.behind.left.now) c.loop.counter c.loop.here.at (kinds c.loop.here.left.now) (label_of c.in-Some.other) c.in-Some.after.at (kinds c.in-Some.after.left.now) _
    more c.loop-test.true (found_some _ _ _ _ c.in_ok-other.ensures c.in-Some.is) c.loop.invariant

pub returns-in_default : goal.returns-in_default
returns-in_default c = round_none (reading.comma_step (reading.label (reading.expression c.args.free))) _ c.loop.here.at (kinds c.loop.here.left.now) (map label_of c.loop.labels) _ c.loop.invariant (found_none _ _ _ c.in_ok-other.ensures c.in_default.is)

pub returns-in_err-other : goal.returns-in_err-other
returns-in_err-other c =
    let p = err_from_is_err_and c.from_residual-in_err-other.result c.from_residual-in_err-other.ensures.1 in
    rw (p.1, p.2) (fails c.in_err-other.field-0.0 (reading.comma_step (reading.label (reading.expression c.args.free))) (map label_of c.loop.labels) (length c.in_ok-first.behind.left.now) c.loop.counter c.loop.here.at (kinds c.loop.here.left.now) _ c.loop-test.true c.in_err-other.ensures c.loop.invariant)

pub returns : goal.returns
returns c =
    let spent : length c.in_ok-first.behind.left.now - c.loop.counter ≡ zero = omega arith in
    round_last (reading.comma_step (reading.label (reading.expression c.args.free))) _ c.loop.here.at (kinds c.loop.here.left.now) (map label_of c.loop.labels) _ c.loop.invariant spent
