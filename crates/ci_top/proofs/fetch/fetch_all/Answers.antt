use Rattle.std.proofs.Common.{◌∙◌, arith}
use Rattle.std.proofs.lemmas.Result.{err_from_is_err_and}
use Rattle.ci_top.proofs.Fetching.{Fetched-next, stops-next, wanted-at}
use Rattle.ci_top.proofs.fetch.fetch_all.Goals as goal

pub returns-in_err-content-clause-stopped : goal.returns-in_err-content-clause-stopped
returns-in_err-content-clause-stopped g c =
    let p = err_from_is_err_and c.from_residual.result c.from_residual.ensures.1 in
    rw (p.1, p.2)
    (stops-next _ _ (g.S.Shelf.faults c.loop-file.shelf) _ _ c.loop-file.contents.items c.loop-file.file _ _
    (wanted-at c.args.limit _ c.loop-file.file c.name_of-name.result.now c.name_of-name.ensures) c.loop-file.invariant.fetched c.loop-file.invariant.later
    (rw c.loop-file.invariant.kept at c.in_err-content.ensures.stopped))

pub loop-file-preserved : goal.loop-file-preserved
loop-file-preserved g c = record {
  fetched = rw c.in-Ok.ensures.items
      (Fetched-next _ _ _ c.loop-file.file (record { name = c.name_of-name.result.now; limit = c.args.limit }) c.in_ok-content.content
      (wanted-at c.args.limit _ c.loop-file.file c.name_of-name.result.now c.name_of-name.ensures) c.loop-file.invariant.fetched
      (rw c.loop-file.invariant.kept at c.in_ok-content.ensures.has) c.in_ok-content.ensures.within);
  kept = c.fetch_one.ensures.kept ∙ c.loop-file.invariant.kept;
  later = omega (arith, c.loop-file.invariant.later, c.fetch_one.ensures.later);
}
