use Rattle.std.proofs.Common.{◌≡◌, drop}
use Rattle.std.specs.FinMap.{get}
use Rattle.ci_outside.specs.Memory.{by_name}
use Rattle.ci_outside.proofs.files.NamedFiles.find.Given as goal

abbrev pub invariant-loop-file : goal.invariant-loop-file
invariant-loop-file l = get (by_name (drop l.file-index l.file-items)) l.name ≡ get (by_name l.file-items) l.name
