use Rattle.std.proofs.Common.{◌≡◌, ◌≤◌, take}
use Rattle.ci_top.specs.Asked.{words_at}
use Rattle.ci_top.specs.Fetching.{Fetched, each_within}
use Rattle.ci_top.proofs.fetch.fetch_all.Given as goal

abbrev pub invariant-loop-file : goal.invariant-loop-file
invariant-loop-file g l = record {
  fetched : Fetched (g.S.Shelf.files l.initial.shelf) (take l.file (each_within l.limit (words_at l.words l.indexes))) l.contents.items;
  kept : g.S.Shelf.files l.shelf ≡ g.S.Shelf.files l.initial.shelf;
  later : g.S.Shelf.faults l.initial.shelf ≤ g.S.Shelf.faults l.shelf;
}
