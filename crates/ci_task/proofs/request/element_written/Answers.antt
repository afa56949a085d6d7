use Rattle.std.proofs.Common.{[], ◌∷◌, ◌++◌, sym, ap, ◌∙◌, w32, to_z, of_z, append_assoc}
use Rattle.ci_base.specs.declared.request.Request.TheVariants.{Write}
use Rattle.ci_base.specs.declared.value.Value.{Value}
use Rattle.ci_base.specs.declared.value.Value.TheVariants.{Int}
use Rattle.ci_stack.proofs.Placing.{trip}
use Rattle.ci_task.proofs.Asking.{write_at_told, cell_same, same_cell, write_small}
use Rattle.ci_task.proofs.request.element_written.Goals as goal

pub second_number-index-requires : goal.second_number-index-requires
second_number-index-requires c =
    let t = write_at_told c.args.code.now c.args.number c.args.stack.now c.requires.asks.0 c.requires.asks.1 in
    (t.3, t.1, t.2, t.6)

pub cell_in-requires : goal.cell_in-requires
cell_in-requires c =
    let t = write_at_told c.args.code.now c.args.number c.args.stack.now c.requires.asks.0 c.requires.asks.1 in
    (t.4, cell_same c.args.code.now c.args.number t.4 c.array_at-array.result.now t.0 (to_z w32 (of_z w32 c.second_number-index.result)) c.second_number-index.result t.1 c.array_at-array.ensures t.5 (trip c.second_number-index.result c.second_number-index.type_inv) (c.second_number-index.ensures t.3 t.1 t.2 t.6) t.7, write_small c.args.code.now t.4 t.2 c.requires.asks.0 c.requires.code c.requires.asks.2 t.8)

pub last_value-requires : goal.last_value-requires
last_value-requires c =
    let t = write_at_told c.args.code.now c.args.number c.args.stack.now c.requires.asks.0 c.requires.asks.1 in
    (t.3 ++ Int t.1 ∷ [], t.2, t.6 ∙ sym (append_assoc t.3 (Int t.1 ∷ []) (t.2 ∷ [])))

pub returns : goal.returns
returns c = λ q asks.
    let u = write_at_told c.args.code.now c.args.number c.args.stack.now q asks in
    ap (λ n. Write n c.last_value.result) (same_cell c.cell_in.result u.4 _ c.cell_in.ensures (cell_same c.args.code.now c.args.number u.4 c.array_at-array.result.now u.0 (to_z w32 (of_z w32 c.second_number-index.result)) c.second_number-index.result u.1 c.array_at-array.ensures u.5 (trip c.second_number-index.result c.second_number-index.type_inv) (c.second_number-index.ensures u.3 u.1 u.2 u.6) u.7))
    ∙ ap (λ (v : Value). Write u.4 v) (c.last_value.ensures (u.3 ++ Int u.1 ∷ []) u.2 (u.6 ∙ sym (append_assoc u.3 (Int u.1 ∷ []) (u.2 ∷ []))))
    ∙ sym u.8
