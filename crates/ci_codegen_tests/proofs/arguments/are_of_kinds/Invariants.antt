use Rattle.std.proofs.Common.{◌≡◌, map, take}
use Rattle.ci_base.specs.Values.{kind_of}
use Rattle.ci_codegen_tests.proofs.arguments.are_of_kinds.Given as goal

abbrev pub invariant-loop-place : goal.invariant-loop-place
invariant-loop-place l = map kind_of (take l.place l.values) ≡ take l.place l.kinds
