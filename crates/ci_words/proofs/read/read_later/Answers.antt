use Rattle.std.proofs.Common.{◌≤◌, length, arith, subst, sym}
use Rattle.ci_words.specs.Bounds.{IsInBounds}
use Rattle.ci_words.proofs.Few.{few_words, fault_within}
use Rattle.ci_words.proofs.InBounds.{order_within}
use Rattle.ci_words.proofs.read.read_later.Goals as goal

pub overflow_cast-result : goal.overflow_cast-result
overflow_cast-result c =
    let within = fault_within c.args.command c.args.words.now c.in-Some.found.fault c.in-Some.found.at c.in-Some.ensures.0.0 in
    let few : c.in-Some.found.at ≤ 77 = few_words c.args.command c.args.words.now c.in-Some.found.at within c.in-Some.ensures.1 in
    omega arith

pub order_of-requires-clause-few : goal.order_of-requires-clause-few
order_of-requires-clause-few c =
    let few : length c.args.words.now ≤ 77 = few_words c.args.command c.args.words.now (length c.args.words.now) (omega arith) (λ at below. c.in-None.ensures at) in
    omega arith

pub returns-in-None-clause-within : goal.returns-in-None-clause-within
returns-in-None-clause-within c =
    subst (IsInBounds c.args.words.now) (sym c.order_of.ensures) (order_within c.args.command c.args.words.now c.in-None.ensures)
