use Rattle.std.proofs.Common.{◌≡◌, ℤ, true, false, refl, sym, ap, ◌∙◌, arith}
use Rattle.std.proofs.lemmas.Option.{slice_get_within}
use Rattle.ci_base.specs.declared.value.Value.TheVariants.{Int}
use Rattle.ci_stack.proofs.Placing.{trip}
use Rattle.ci_stack.proofs.Topping.{length_two}
use Rattle.ci_task.specs.Going.{is_inside}
use Rattle.ci_task.proofs.Coming.{write_at_there, write_at_asks, write_at_goes_on, write_at_ends, inside_cell, outside_cell}
use Rattle.ci_task.proofs.arrays.write_at.Goals as goal

pub array_at-array-requires : goal.array_at-array-requires
array_at-array-requires c =
    let t = write_at_there c.args.code.now c.args.number c.args.at c.args.stack.now c.args.heard.now c.requires.can in
    slice_get_within c.args.code.now.arrays c.args.number t.0 t.4

pub second_number-index-requires : goal.second_number-index-requires
second_number-index-requires c =
    let t = write_at_there c.args.code.now c.args.number c.args.at c.args.stack.now c.args.heard.now c.requires.can in
    (t.2, t.1, t.3, t.5)

pub returns-then-is_inside : goal.returns-then-is_inside
returns-then-is_inside c =
    let inside : is_inside c.array_at-array.result.now c.second_number-index.result ≡ true = ap (λ (z : ℤ). is_inside c.array_at-array.result.now z) (sym (trip c.second_number-index.result c.second_number-index.type_inv)) ∙ sym c.is_inside.ensures ∙ c.if-is_inside.true in
    let cell = inside_cell c.array_at-array.result.now c.second_number-index.result inside in
    write_at_asks c.args.code.now c.args.number cell.0 c.args.at c.args.stack.now c.args.heard.now c.array_at-array.result.now c.second_number-index.result c.array_at-array.ensures c.second_number-index.ensures cell.1

pub take_off-requires : goal.take_off-requires
take_off-requires c =
    let t = write_at_there c.args.code.now c.args.number c.args.at c.args.stack.now c.args.heard.now c.requires.can in
    omega (arith, length_two c.args.stack.now t.2 (Int t.1) t.3 t.5)

pub returns-then-heard : goal.returns-then-heard
returns-then-heard c =
    let inside : is_inside c.array_at-array.result.now c.second_number-index.result ≡ false = ap (λ (z : ℤ). is_inside c.array_at-array.result.now z) (sym (trip c.second_number-index.result c.second_number-index.type_inv)) ∙ sym c.is_inside.ensures ∙ c.if-is_inside.false in
    write_at_goes_on c.args.code.now c.args.number c.args.at c.args.stack.now c.take_off.new.self c.args.heard.now (record c.args.heard.now { error = 7 }) c.array_at-array.result.now c.second_number-index.result c.array_at-array.ensures c.second_number-index.ensures (outside_cell c.array_at-array.result.now c.second_number-index.result inside) c.if-heard.true refl c.take_off.ensures

pub returns : goal.returns
returns c =
    let inside : is_inside c.array_at-array.result.now c.second_number-index.result ≡ false = ap (λ (z : ℤ). is_inside c.array_at-array.result.now z) (sym (trip c.second_number-index.result c.second_number-index.type_inv)) ∙ sym c.is_inside.ensures ∙ c.if-is_inside.false in
    write_at_ends c.args.code.now c.args.number c.args.at c.args.stack.now c.args.heard.now c.array_at-array.result.now c.second_number-index.result c.array_at-array.ensures c.second_number-index.ensures (outside_cell c.array_at-array.result.now c.second_number-index.result inside) c.if-heard.false
