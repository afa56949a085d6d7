use Rattle.std.proofs.Common.{◌∙◌, ap}
use Rattle.ci_scopes.specs.declared.table.Key.{Key}
use Rattle.ci_scopes.specs.Table.{number_of}
use Rattle.ci_scopes.proofs.Tables.{lookup-seen}
use Rattle.ci_scopes.proofs.table.NameTable.get.Goals as goal

pub returns : goal.returns
returns c =
    let key : Key = record { file = c.args.file; name = c.of-name.result } in
    c.copied.ensures ∙ c.get.ensures.value ∙ lookup-seen c.self.inside.kept.entries key
    ∙ ap (λ es. number_of es c.args.file key.name.bytes.now) c.self.view_is ∙ ap (number_of c.args.self.now c.args.file) c.of-name.ensures
