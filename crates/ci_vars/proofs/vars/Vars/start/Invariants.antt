use Rattle.std.proofs.Common.{◌≡◌, map, take}
use Rattle.ci_base.specs.declared.layout.CellHead.{CellHead}
use Rattle.ci_vars.proofs.vars.Vars.start.Given as goal

abbrev pub invariant-loop-head : goal.invariant-loop-head
invariant-loop-head l = l.kept.items ≡ map (λ (cell : CellHead). cell.first) (take l.head-index l.heads)
