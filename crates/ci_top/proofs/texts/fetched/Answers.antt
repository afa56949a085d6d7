use Rattle.std.proofs.Common.{ap, arith, length}
use Rattle.std.proofs.lemmas.Result.{err_from_is_err_and}
use Rattle.ci_base.specs.declared.bounds.TheConstants.{MOST_SOURCE_BYTES}
use Rattle.ci_top.proofs.Fetching.{Fetched-length, Fetched-within, length-wanted, stops-script}
use Rattle.ci_top.proofs.texts.fetched.Goals as goal

pub returns-in_err-given-clause-stopped : goal.returns-in_err-given-clause-stopped
returns-in_err-given-clause-stopped g c =
    let p = err_from_is_err_and c.from_residual-in_err-given.result c.from_residual-in_err-given.ensures.1 in
    rw (p.1, p.2)
    (stops-script _ _ _ _ _ c.args.words.now c.args.order.now _ _ (rw c.indexes-indexes.ensures.value at c.in_ok-sources.ensures.fetched)
    (omega (arith, length-wanted MOST_SOURCE_BYTES c.args.words.now c.args.order.now.files, ap length c.indexes-indexes.ensures.value)) c.fetch_all.ensures.later
    (rw c.fetch_all.ensures.kept at c.in_err-given.ensures.stopped))

pub invariant_of-result : goal.invariant_of-result
invariant_of-result g c = record {
  few = omega (arith, c.indexes-indexes.ensures.within, Fetched-length _ _ _ c.in_ok-sources.ensures.fetched, length-wanted MOST_SOURCE_BYTES c.args.words.now c.indexes-indexes.result.now);
  within = Fetched-within _ _ _ _ c.in_ok-sources.ensures.fetched;
}
