use Rattle.std.proofs.Common.{◌+◌, List, [], ◌∷◌, drop, map, ap, ◌∙◌}
use Rattle.std.proofs.lemmas.List.{drop_all}
use Rattle.ci_tree.specs.declared.bound.Param as code
use Rattle.ci_tree.specs.Bound.{Param, Exprs}
use Rattle.ci_tree.specs.LeftOut.{constants}
use Rattle.ci_tree.specs.SeenBound.{param_of}
use Rattle.ci_emit.proofs.Loops.{next, args_next, args_done, constants_more}
use Rattle.ci_emit.proofs.arguments.defaults.Goals as goal

values : List code.Param → Exprs
values ps = constants (map (λ (p : Param). p.first) (map param_of ps))

pub loop-param-init : goal.loop-param-init
loop-param-init c k = record { goes = λ x h. h }

pub loop-param-preserved : goal.loop-param-preserved
unfolding values
loop-param-preserved c k =
    let i = c.loop-param.param-index in
    let all = c.args.params.now in
    let p = c.param-item.result in
    args_next k c.args.writer.now c.loop-param.writer c.default_argument.new.writer (values all) (constants (p.first ∷ [])) (values (drop (i + 1) all)) (values (drop i all))
    (ap values (next all i p c.param-item.is c.loop-param-test.true) ∙ constants_more p.first (map (λ (q : Param). q.first) (map param_of (drop (i + 1) all)))) (c.in_ok-default_argument.ensures k) (c.loop-param.invariant k)

pub returns : goal.returns
unfolding values
returns c k =
    args_done k c.args.writer.now c.loop-param.writer (values c.args.params.now) (values (drop c.loop-param.param-index c.args.params.now)) (ap values (drop_all c.loop-param.param-index c.args.params.now c.loop-param-test.false)) (c.loop-param.invariant k)
