use Rattle.std.proofs.Common.{◌≡◌, List, length, Err, sym, ap, ◌∙◌, subst, arith}
use Rattle.ci_base.specs.declared.value.Kind.{Kind}
use Rattle.ci_base.specs.declared.value.Value.{Value}
use Rattle.ci_base.specs.Functions.{private_takes, private_gives}
use Rattle.ci_base.specs.PrivateFunctions.{private_value, error_after, goes_on_after}
use Rattle.ci_task.specs.Going.{Came, Replaces}
use Rattle.ci_task.proofs.Coming.{private_can, private_few, private_room, private_gives_value, private_fails}
use Rattle.ci_task.proofs.operators.compute.Goals as goal

pub last_values-given-requires-clause-few : goal.last_values-given-requires-clause-few
last_values-given-requires-clause-few c = omega (arith, ap length c.takes-taken.ensures, private_few c.args.name)

pub last_values-given-requires-clause-there : goal.last_values-given-requires-clause-there
last_values-given-requires-clause-there c = omega (arith, ap length c.takes-taken.ensures, private_can c.args.code.now c.args.name c.args.at c.args.stack.now c.args.heard.now c.requires.can)

pub replace_by-requires-clause-there : goal.replace_by-requires-clause-there
replace_by-requires-clause-there c = omega (arith, ap length c.takes-taken.ensures, private_can c.args.code.now c.args.name c.args.at c.args.stack.now c.args.heard.now c.requires.can)

pub replace_by-requires-clause-room : goal.replace_by-requires-clause-room
replace_by-requires-clause-room c = omega (arith, ap length c.takes-taken.ensures, private_room c.args.code.now c.args.name c.args.at c.args.stack.now c.args.heard.now c.requires.can c.last_values-given.ensures.within)

pub fail-requires-clause-there : goal.fail-requires-clause-there
fail-requires-clause-there c = omega (arith, ap length c.takes-taken.ensures, private_can c.args.code.now c.args.name c.args.at c.args.stack.now c.args.heard.now c.requires.can)

pub fail-requires-clause-room : goal.fail-requires-clause-room
fail-requires-clause-room c = omega (arith, ap length c.takes-taken.ensures, private_room c.args.code.now c.args.name c.args.at c.args.stack.now c.args.heard.now c.requires.can c.last_values-given.ensures.within)

pub returns-in-Ok : goal.returns-in-Ok
returns-in-Ok c =
    let many : length c.takes-taken.result.now ≡ length (private_takes c.args.name) = ap length c.takes-taken.ensures in
    private_gives_value c.args.code.now c.args.name c.args.at c.args.stack.now c.replace_by.new.self c.last_values-given.result.items c.args.heard.now (record c.args.heard.now { error = c.error_after-heard.result; goes_on = c.goes_on_after-heard.result }) c.in-Ok.value
    (λ low high split few. c.last_values-given.ensures.value low high split (few ∙ sym many))
    (ap (λ (l : List Value). private_value c.args.heard.now.error c.args.name l) (sym c.as_slice.ensures.value) ∙ sym c.private_value.ensures ∙ c.in-Ok.is)
    (ap (λ n. record c.args.heard.now { error = n; goes_on = c.goes_on_after-heard.result }) c.error_after-heard.ensures
    ∙ ap (λ b. record c.args.heard.now { error = error_after c.args.name c.args.heard.now.error; goes_on = b }) (c.goes_on_after-heard.ensures ∙ ap (λ (l : List Value). goes_on_after c.args.name l c.args.heard.now.goes_on) c.as_slice-in-Ok.ensures.value))
    (subst (λ n. Replaces n c.args.stack.now c.in-Ok.value c.replace_by.new.self) many c.replace_by.ensures)

pub returns-in-Err : goal.returns-in-Err
returns-in-Err c =
    let many : length c.takes-taken.result.now ≡ length (private_takes c.args.name) = ap length c.takes-taken.ensures in
    private_fails c.args.code.now c.args.name c.args.at c.args.stack.now c.fail.new.stack c.last_values-given.result.items c.args.heard.now c.fail.new.heard c.fail.result c.in-Err.code
    (λ low high split few. c.last_values-given.ensures.value low high split (few ∙ sym many))
    (ap (λ (l : List Value). private_value c.args.heard.now.error c.args.name l) (sym c.as_slice.ensures.value) ∙ sym c.private_value.ensures ∙ c.in-Err.is)
    (subst (λ n. Came n (private_gives c.args.name) (Err c.in-Err.code) c.args.stack.now c.args.heard.now c.fail.result c.fail.new.stack c.fail.new.heard) many
    (subst (λ (k : Kind). Came (length c.takes-taken.result.now) k (Err c.in-Err.code) c.args.stack.now c.args.heard.now c.fail.result c.fail.new.stack c.fail.new.heard) c.gives.ensures c.fail.ensures))
