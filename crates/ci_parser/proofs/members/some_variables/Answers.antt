use Rattle.std.proofs.Common.{◌≡◌, ◌∙◌, ◌++◌, ◌∷◌, [], length, map, ap}
use Rattle.std.proofs.lemmas.Result.{err_from_is_err_and}
use Rattle.std.proofs.lemmas.List.{map_push}
use Rattle.ci_tree.specs.Seen.{item_of}
use Rattle.ci_expressions.specs.Gives.{kinds}
use Rattle.ci_parser.specs.Reading as reading
use Rattle.ci_expressions.proofs.Loops.{fails, members_first, goes_on_with, begin, found_some, found_none, round_none, length_kinds}
use Rattle.ci_parser.proofs.members.some_variables.Goals as goal

pub loop-init : goal.loop-init
loop-init c =
    let first = c.in_ok-first.first in
    let behind = c.in_ok-first.behind in
    let one : map item_of c.push.new.self ≡ item_of first ∷ [] = ap (map item_of) (c.in_ok-push.ensures.ok ∙ ap (λ xs. xs ++ first ∷ []) c.in_ok-variables.ensures) in
    begin _ _ _ _ _ _ _ _ one (length_kinds behind.left.now) (members_first (reading.var c.args.global c.args.kind) c.args.from.at (kinds c.args.from.left.now) (item_of first) behind.at (kinds behind.left.now) c.in_ok-first.ensures)

pub loop-preserved : goal.loop-preserved
loop-preserved c =
    let more : map item_of c.push-in-loop.new.self ≡ map item_of c.loop.variables ++ item_of c.in-Some.other ∷ [] = ap (map item_of) c.in_ok-push-2.ensures.ok ∙ map_push item_of c.loop.variables c.in-Some.other in
    goes_on_with (reading.comma_step (reading.var c.args.global c.args.kind)) (map item_of c.loop.variables) _ (length c.in_ok-first.behind.left.now) c.loop.counter c.loop.here.at (kinds c.loop.here.left.now) (item_of c.in-Some.other) c.in-Some.after.at (kinds c.in-Some.after.left.now) _
    more c.loop-test.true (found_some _ _ _ _ c.in_ok-other.ensures c.in-Some.is) c.loop.invariant

pub returns-in_default : goal.returns-in_default
returns-in_default c = round_none (reading.comma_step (reading.var c.args.global c.args.kind)) _ c.loop.here.at (kinds c.loop.here.left.now) (map item_of c.loop.variables) _ c.loop.invariant (found_none _ _ _ c.in_ok-other.ensures c.in_default.is)

pub returns-in_err-other : goal.returns-in_err-other
returns-in_err-other c =
    let p = err_from_is_err_and c.from_residual-in_err-other.result c.from_residual-in_err-other.ensures.1 in
    rw (p.1, p.2) (fails c.in_err-other.field-0.0 (reading.comma_step (reading.var c.args.global c.args.kind)) (map item_of c.loop.variables) (length c.in_ok-first.behind.left.now) c.loop.counter c.loop.here.at (kinds c.loop.here.left.now) _ c.loop-test.true c.in_err-other.ensures c.loop.invariant)
