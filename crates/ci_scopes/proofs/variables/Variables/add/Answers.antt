use Rattle.std.proofs.Common.{◌∙◌, ap, ◌+◌}
use Rattle.ci_scopes.specs.declared.variables.Variables.{Variables}
use Rattle.ci_scopes.proofs.Pushes.{variables-push}
use Rattle.ci_scopes.proofs.variables.Variables.add.Goals as goal

pub returns-clause-stands : goal.returns-clause-stands
returns-clause-stands c = λ vs is.
    let new : Variables = record { rows = c.add.new.all; meanings = c.add-2.new.all; globals = c.note_where.new.self; own = c.note.new.self; cells = c.args.self.now.cells + c.size.result; arrays = c.args.self.now.arrays + c.count.result } in
    variables-push c.args.self.now new vs c.args.variable c.next-meaning.result c.bytes-name.result.now c.len-number.result
    c.bytes-name.ensures (c.len-number.ensures ∙ c.args.self.now.rows.ok.0) c.in_ok-add.ensures c.in_ok-add-2.ensures (c.next-meaning.ensures vs is)
    c.in_ok-note_where.ensures.ok c.in_ok-note.ensures.ok (ap (λ n. c.args.self.now.cells + n) c.size.ensures.value) (ap (λ n. c.args.self.now.arrays + n) c.count.ensures.value) is
