use Rattle.std.proofs.Common.{◌≡◌, rules, arith}
use Rattle.ci_lines.proofs.Searching.{place_here}
use Rattle.ci_lines.proofs.search.at_place.Goals as goal

pub returns-then-eq : goal.returns-then-eq
returns-then-eq c =
    let same : c.index-waiter.result.now.place ≡ c.args.place.now = search rules in
    place_here c.args.place.now c.args.waiting.now.items c.loop-i.i c.index-waiter.result.now (omega (arith, c.loop-i-test.true, c.len-i-end.ensures)) c.index-waiter.ensures c.loop-i.invariant same
