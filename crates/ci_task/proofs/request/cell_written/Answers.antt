use Rattle.std.proofs.Common.{sym, ap, ◌∙◌}
use Rattle.ci_base.specs.declared.request.Request.TheVariants.{Write}
use Rattle.ci_base.specs.declared.value.Value.{Value}
use Rattle.ci_task.proofs.Asking.{write_told}
use Rattle.ci_task.proofs.request.cell_written.Goals as goal

pub last_value-requires : goal.last_value-requires
last_value-requires c =
    let t = write_told c.args.code.now c.args.cell c.args.stack.now c.requires.0 c.requires.1 in
    (t.0, t.1, t.2)

pub returns : goal.returns
returns c = λ q asks.
    let t = write_told c.args.code.now c.args.cell c.args.stack.now q asks in
    ap (λ (v : Value). Write c.args.cell v) (c.last_value.ensures t.0 t.1 t.2) ∙ sym t.3
