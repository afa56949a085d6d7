use Rattle.std.proofs.Common.{◌≡◌, ◌∙◌, ap, sym, false, is_some, map, refl}
use Rattle.ci_scopes.specs.declared.table.Key.{Key}
use Rattle.ci_scopes.specs.Table.{number_of, noted}
use Rattle.ci_scopes.proofs.Tables.{seen, seen-insert}
use Rattle.ci_scopes.proofs.table.NameTable.note.Goals.{in-Ok, in-Err}
use Rattle.ci_scopes.proofs.table.NameTable.note.Goals as goal

pub returns-clause-ok : goal.returns-clause-ok
returns-clause-ok c =
    let from = c.self.inside.kept.entries in
    let file = c.args.file in
    let name = c.args.name.now in
    let key : Key = record { file = file; name = c.of-name.result } in
    let absent : is_some (number_of (map seen from) file name) ≡ false =
    ap (λ es. is_some (number_of es file name)) c.self.view_is ∙ ap is_some (sym c.get.ensures) ∙ sym c.is_some.ensures ∙ c.if-is_some.false in
    elim c.match-insert.branch [
      | in-Ok w ↦ rw w.result-is (ap (map seen) w.in-Ok.ensures.entries ∙ seen-insert c.self.inside.kept key c.args.number file name refl c.of-name.ensures absent
          ∙ ap (λ es. noted es file name c.args.number) c.self.view_is)
      | in-Err w ↦ rw w.result-is tt
    ]
