use Rattle.std.proofs.Common.{◌≡◌, ℤ, true, false, sym, ap, ◌∙◌, arith}
use Rattle.std.proofs.lemmas.Option.{slice_get_within}
use Rattle.ci_base.specs.declared.value.Value.TheVariants.{Int}
use Rattle.ci_stack.proofs.Placing.{trip}
use Rattle.ci_stack.proofs.Topping.{length_last}
use Rattle.ci_task.specs.Going.{is_inside}
use Rattle.ci_task.proofs.Coming.{read_at_there, read_at_asks, read_at_fails, inside_cell, outside_cell}
use Rattle.ci_task.proofs.arrays.read_at.Goals as goal

pub array_at-array-requires : goal.array_at-array-requires
array_at-array-requires c =
    let t = read_at_there c.args.code.now c.args.number c.args.at c.args.stack.now c.args.heard.now c.requires.can in
    slice_get_within c.args.code.now.arrays c.args.number t.0 t.3

pub last_number-index-requires : goal.last_number-index-requires
last_number-index-requires c =
    let t = read_at_there c.args.code.now c.args.number c.args.at c.args.stack.now c.args.heard.now c.requires.can in
    (t.2, t.1, t.4)

pub returns-then-is_inside : goal.returns-then-is_inside
returns-then-is_inside c =
    let inside : is_inside c.array_at-array.result.now c.last_number-index.result ≡ true = ap (λ (z : ℤ). is_inside c.array_at-array.result.now z) (sym (trip c.last_number-index.result c.last_number-index.type_inv)) ∙ sym c.is_inside.ensures ∙ c.if-is_inside.true in
    let cell = inside_cell c.array_at-array.result.now c.last_number-index.result inside in
    read_at_asks c.args.code.now c.args.number cell.0 c.args.at c.args.stack.now c.args.heard.now c.array_at-array.result.now c.last_number-index.result c.array_at-array.ensures c.last_number-index.ensures cell.1

pub fail-requires-clause-there : goal.fail-requires-clause-there
fail-requires-clause-there c =
    let t = read_at_there c.args.code.now c.args.number c.args.at c.args.stack.now c.args.heard.now c.requires.can in
    omega (arith, length_last c.args.stack.now t.2 (Int t.1) t.4)

pub fail-requires-clause-room : goal.fail-requires-clause-room
fail-requires-clause-room c =
    let t = read_at_there c.args.code.now c.args.number c.args.at c.args.stack.now c.args.heard.now c.requires.can in
    omega (arith, c.count-count.ensures.within, c.count-count.ensures.value, length_last c.args.stack.now t.2 (Int t.1) t.4)

pub returns : goal.returns
returns c =
    let inside : is_inside c.array_at-array.result.now c.last_number-index.result ≡ false = ap (λ (z : ℤ). is_inside c.array_at-array.result.now z) (sym (trip c.last_number-index.result c.last_number-index.type_inv)) ∙ sym c.is_inside.ensures ∙ c.if-is_inside.false in
    read_at_fails c.args.code.now c.args.number c.args.at c.args.stack.now c.fail.new.stack c.args.heard.now c.fail.new.heard c.fail.result c.array_at-array.result.now c.last_number-index.result c.array_at-array.ensures c.last_number-index.ensures (outside_cell c.array_at-array.result.now c.last_number-index.result inside) c.fail.ensures
