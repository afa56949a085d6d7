use Rattle.std.proofs.Common.{◌∙◌}
use Rattle.ci_scopes.specs.declared.functions.Functions.{Functions}
use Rattle.ci_scopes.proofs.Pushes.{functions-push}
use Rattle.ci_scopes.proofs.functions.Functions.add.Goals as goal

pub returns : goal.returns
returns c = λ fs is.
    let new : Functions = record { rows = c.add.new.all; headings = c.add-2.new.all; publics = c.note_where.new.self; own = c.note.new.self; privates = c.note_where-2.new.self } in
    functions-push c.args.self.now new fs c.args.function c.in_ok-heading.heading c.bytes-name.result.now c.len-number.result
    c.bytes-name.ensures (c.len-number.ensures ∙ c.args.self.now.rows.ok.0) c.in_ok-add.ensures c.in_ok-add-2.ensures c.in_ok-heading.ensures
    c.in_ok-note_where.ensures.ok c.in_ok-note.ensures.ok c.in_ok-note_where-2.ensures.ok is
