use Rattle.std.proofs.Common.{sym, ◌∙◌, ap, arith, rules, to_z, w32, to_z-of_z}
use mir.Val.{SFits}
use Rattle.ci_lexer.proofs.Steps.{number_step, number_fault, run_on_fault}
use Rattle.ci_lexer.proofs.number.number.Goals as goal

pub returns-in-None-clause-err : goal.returns-in-None-clause-err
returns-in-None-clause-err c =
    let large = rw c.in-None.is at c.requires.value in
    number_fault c.args.rest.now c.args.spelled.now c.args.behind.now c.args.at c.requires.whole c.requires.number c.requires.longest large

pub returns-in-Some-clause-err : goal.returns-in-Some-clause-err
returns-in-Some-clause-err c =
    let value = rw c.in-Some.is at c.requires.value in
    run_on_fault c.args.rest.now c.args.spelled.now c.args.behind.now c.args.at c.requires.whole c.requires.number c.requires.longest (omega (arith, value.0, value.1)) (sym c.begins_letter.ensures ∙ c.if-begins_letter.true)

pub returns-in-Some-2-clause-ok : goal.returns-in-Some-2-clause-ok
returns-in-Some-2-clause-ok c =
    let value = rw c.in-Some-2.is at c.requires.value in
    let fits : SFits w32 c.cast_signed.result = search rules in
    number_step c.args.rest.now c.args.spelled.now c.args.behind.now _ c.requires.whole c.requires.number c.requires.longest (omega (arith, value.0, value.1))
    (to_z-of_z fits ∙ c.cast_signed.ensures ∙ ap (to_z w32) value.0)
    (sym c.begins_letter.ensures ∙ c.if-begins_letter.false)
