use Rattle.std.proofs.Common.{◌≡◌, List, length, ap, arith}
use Rattle.ci_base.specs.declared.layout.Head.{Head}
use Rattle.ci_store_tests.proofs.project.put.Goals as goal

pub add-requires-clause-few : goal.add-requires-clause-few
add-requires-clause-few c =
    let long : length c.as_slice.result.now ≡ length c.args.heads.now.items = ap (λ (l : List Head). length l) c.as_slice.ensures.value in
    omega (arith, long)
