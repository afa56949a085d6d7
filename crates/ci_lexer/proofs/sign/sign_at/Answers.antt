use Rattle.std.proofs.Common.{length, ◌-◌, take, drop, get_or, ◌∷◌, sym, ap, ◌∙◌}
use Rattle.ci_lexer.specs.declared.lead.Lead.TheVariants.{Other}
use Rattle.ci_lexer.proofs.Steps.{first_rest, first_lead, double_front, double_at_sign, single_at_sign, no_sign}
use Rattle.ci_lexer.proofs.sign.sign_at.Goals as goal

pub returns-in-Some-clause-some : goal.returns-in-Some-clause-some
returns-in-Some-clause-some c =
    let s = c.args.rest.now in
    let behind = take (length s - 1) (drop 1 s) in
    let found = double_front behind (get_or s 0 0) c.in-Some.sign (sym c.double_at.ensures ∙ c.in-Some.is) in
    double_at_sign s (take (length behind - 1) (drop 1 behind)) (get_or s 0 0) found.0 c.in-Some.sign (first_rest Other s c.requires ∙ ap (λ l. get_or s 0 0 ∷ l) found.1) found.2

pub returns-in-Some-single-clause-some : goal.returns-in-Some-single-clause-some
returns-in-Some-single-clause-some c =
    let s = c.args.rest.now in
    let behind = take (length s - 1) (drop 1 s) in
    single_at_sign s behind (get_or s 0 0) c.in-Some-single.sign (first_rest Other s c.requires) (sym c.single.ensures ∙ c.in-Some-single.is) (sym c.double_at.ensures ∙ c.in-None.is)

pub returns-in-None-single-clause-none : goal.returns-in-None-single-clause-none
returns-in-None-single-clause-none c =
    let s = c.args.rest.now in
    no_sign (get_or s 0 0) (drop 1 s) (first_lead Other s c.requires) (sym c.single.ensures ∙ c.in-None-single.is)
