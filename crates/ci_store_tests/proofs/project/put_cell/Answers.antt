use Rattle.std.proofs.Common.{List, sym, subst}
use Rattle.std.specs.List.{All}
use Rattle.std.proofs.lemmas.List.Elements.{All-push}
use Rattle.ci_base.specs.declared.layout.CellHead.{CellHead}
use Rattle.ci_store_tests.specs.Cells.{IsOwn}
use Rattle.ci_store_tests.proofs.project.put_cell.Goals as goal

pub returns-in-Ok : goal.returns-in-Ok
returns-in-Ok c = subst (λ (l : List CellHead). All IsOwn l) (sym c.in-Ok.ensures.items) (All-push IsOwn c.args.cells.now.items c.args.cell c.requires.all c.requires.own)
