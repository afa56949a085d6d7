use Rattle.std.proofs.Common.{◌≡◌, List, sym, ap, ◌∙◌, subst, arith}
use Rattle.ci_base.specs.declared.value.Kind.{Kind}
use Rattle.ci_base.specs.declared.value.Value.{Value}
use Rattle.ci_base.specs.Values.{Outcome}
use Rattle.ci_task.specs.Going.{Came}
use Rattle.ci_task.specs.Operators.{given_by, operated, taken_by}
use Rattle.ci_task.proofs.Coming.{operator_can, operator_does, taken_some}
use Rattle.ci_task.proofs.operators.operate.Goals as goal

pub last_values-given-requires-clause-few : goal.last_values-given-requires-clause-few
last_values-given-requires-clause-few c = omega (arith, c.taken_by-taken.ensures, taken_some c.args.what)

pub last_values-given-requires-clause-there : goal.last_values-given-requires-clause-there
last_values-given-requires-clause-there c = omega (arith, c.taken_by-taken.ensures, operator_can c.args.code.now c.args.what c.args.at c.args.stack.now c.args.heard.now c.requires.operator c.requires.can)

pub come-requires-clause-there : goal.come-requires-clause-there
come-requires-clause-there c = omega (arith, c.taken_by-taken.ensures, operator_can c.args.code.now c.args.what c.args.at c.args.stack.now c.args.heard.now c.requires.operator c.requires.can)

pub come-requires-clause-room : goal.come-requires-clause-room
come-requires-clause-room c = omega (arith, c.taken_by-taken.ensures, taken_some c.args.what, c.last_values-given.ensures.within, operator_can c.args.code.now c.args.what c.args.at c.args.stack.now c.args.heard.now c.requires.operator c.requires.can)

pub returns : goal.returns
returns c =
    let taken : c.taken_by-taken.result ≡ taken_by c.args.what = c.taken_by-taken.ensures in
    let outcome : c.operated-outcome.result ≡ operated c.args.what c.last_values-given.result.items = c.operated-outcome.ensures ∙ ap (λ (l : List Value). operated c.args.what l) c.as_slice.ensures.value in
    operator_does c.args.code.now c.args.what c.args.at c.args.stack.now c.come.new.stack c.last_values-given.result.items c.args.heard.now c.come.new.heard c.come.result c.requires.operator
    (λ low high split many. c.last_values-given.ensures.value low high split (many ∙ sym taken))
    (subst (λ n. Came n (given_by c.args.what) (operated c.args.what c.last_values-given.result.items) c.args.stack.now c.args.heard.now c.come.result c.come.new.stack c.come.new.heard) taken
    (subst (λ (k : Kind). Came c.taken_by-taken.result k (operated c.args.what c.last_values-given.result.items) c.args.stack.now c.args.heard.now c.come.result c.come.new.stack c.come.new.heard) c.given_by.ensures
    (subst (λ (o : Outcome). Came c.taken_by-taken.result c.given_by.result o c.args.stack.now c.args.heard.now c.come.result c.come.new.stack c.come.new.heard) outcome c.come.ensures)))
