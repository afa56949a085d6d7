use Rattle.std.proofs.Common.{sym, ap, ◌∙◌, w32, to_z, of_z}
use Rattle.ci_base.specs.declared.request.Request.TheVariants.{Read}
use Rattle.ci_stack.proofs.Placing.{trip}
use Rattle.ci_task.proofs.Asking.{read_at_told, cell_same, same_cell, read_small}
use Rattle.ci_task.proofs.request.element_read.Goals as goal

pub last_number-index-requires : goal.last_number-index-requires
last_number-index-requires c =
    let t = read_at_told c.args.code.now c.args.number c.args.stack.now c.requires.asks.0 c.requires.asks.1 in
    (t.2, t.1, t.5)

pub cell_in-requires : goal.cell_in-requires
cell_in-requires c =
    let t = read_at_told c.args.code.now c.args.number c.args.stack.now c.requires.asks.0 c.requires.asks.1 in
    (t.3, cell_same c.args.code.now c.args.number t.3 c.array_at-array.result.now t.0 (to_z w32 (of_z w32 c.last_number-index.result)) c.last_number-index.result t.1 c.array_at-array.ensures t.4 (trip c.last_number-index.result c.last_number-index.type_inv) (c.last_number-index.ensures t.2 t.1 t.5) t.6, read_small c.args.code.now t.3 c.requires.asks.0 c.requires.code c.requires.asks.2 t.7)

pub returns : goal.returns
returns c = λ q asks.
    let u = read_at_told c.args.code.now c.args.number c.args.stack.now q asks in
    ap (λ n. Read n) (same_cell c.cell_in.result u.3 _ c.cell_in.ensures (cell_same c.args.code.now c.args.number u.3 c.array_at-array.result.now u.0 (to_z w32 (of_z w32 c.last_number-index.result)) c.last_number-index.result u.1 c.array_at-array.ensures u.4 (trip c.last_number-index.result c.last_number-index.type_inv) (c.last_number-index.ensures u.2 u.1 u.5) u.6)) ∙ sym u.7
