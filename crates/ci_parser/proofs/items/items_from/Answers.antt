use Rattle.std.proofs.Common.{◌≡◌, ◌∙◌, ◌++◌, length, ap}
use Rattle.std.proofs.lemmas.Result.{err_from_is_err_and}
use Rattle.std.proofs.lemmas.List.{map-append}
use Rattle.ci_tree.specs.Seen.{item_of, items_of}
use Rattle.ci_expressions.specs.Gives.{kinds}
use Rattle.ci_parser.proofs.ItemLoop.{items_fail, items_more}
use Rattle.ci_parser.proofs.items.items_from.Goals as goal

pub returns-in_err-more : goal.returns-in_err-more
returns-in_err-more c =
    let p = err_from_is_err_and c.from_residual.result c.from_residual.ensures.1 in
    rw (p.1, p.2) (items_fail c.in_err-more.field-0.0 c.args.free (length c.args.from.left.now) c.loop.counter c.loop.here.at (kinds c.loop.here.left.now) _ _ (items_of c.loop.items) _ c.in-Some.ensures.0 c.loop-test.true c.in_err-more.ensures c.loop.invariant)

pub loop-preserved : goal.loop-preserved
loop-preserved c =
    let more : items_of c.append.new.self ≡ items_of c.loop.items ++ items_of c.in_ok-more.more = ap items_of c.in_ok-append.ensures ∙ map-append item_of c.loop.items c.in_ok-more.more in
    items_more c.args.free (length c.args.from.left.now) c.loop.counter c.loop.here.at (kinds c.loop.here.left.now) (items_of c.loop.items) _ (items_of c.in_ok-more.more) c.in_ok-more.behind.at (kinds c.in_ok-more.behind.left.now) _
    more c.loop-test.true c.in_ok-more.ensures c.loop.invariant
