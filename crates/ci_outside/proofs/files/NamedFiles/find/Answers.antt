use Rattle.std.proofs.Common.{◌≡◌, ◌≤◌, length, true, false, sym, ◌∙◌, ap, arith}
use Rattle.std.proofs.Math.ListN.{drop_of_length-le}
use Rattle.std.specs.Str.{bytes_eq}
use Rattle.std.specs.FinMap.{get}
use Rattle.ci_outside.specs.Memory.{by_name}
use Rattle.ci_outside.proofs.Named.{get-no_file, get-here, get-later}
use Rattle.ci_outside.proofs.files.NamedFiles.find.Goals as goal

pub returns-then-eq : goal.returns-then-eq
returns-then-eq c =
    let same : bytes_eq c.args.name.now c.file-item.result.name ≡ true = cc in
    sym (get-here c.as_slice-file-items.result.now c.loop-file.file-index c.file-item.result c.args.name.now c.loop-file-test.true c.file-item.is same)
    ∙ c.loop-file.invariant
    ∙ ap (λ l. get (by_name l) c.args.name.now) (c.as_slice-file-items.ensures.value ∙ c.self.view_is)

pub loop-file-preserved : goal.loop-file-preserved
loop-file-preserved c =
    let other : bytes_eq c.args.name.now c.file-item.result.name ≡ false = cc in
    sym (get-later c.as_slice-file-items.result.now c.loop-file.file-index c.file-item.result c.args.name.now c.loop-file-test.true c.file-item.is other)
    ∙ c.loop-file.invariant

pub returns : goal.returns
returns c =
    let past : length c.as_slice-file-items.result.now ≤ c.loop-file.file-index = omega arith in
    sym (ap (λ l. get (by_name l) c.args.name.now) (drop_of_length-le c.as_slice-file-items.result.now past) ∙ get-no_file c.args.name.now)
    ∙ c.loop-file.invariant
    ∙ ap (λ l. get (by_name l) c.args.name.now) (c.as_slice-file-items.ensures.value ∙ c.self.view_is)
