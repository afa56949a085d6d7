use Rattle.std.proofs.Common.{◌+◌, drop, sym, ap, ◌∙◌, arith}
use Rattle.ci_base.specs.declared.value.Value.{Value}
use Rattle.ci_tree.specs.Bound as tree
use Rattle.ci_tree.specs.LeftOut.{constant, constants}
use Rattle.ci_meaning.specs.Held.{values_of}
use Rattle.ci_meaning.proofs.LeftOut.{default_there, default_missing}
use Rattle.ci_meaning.proofs.calling.next_default.Goals as goal

pub returns-in-Some-clause-next : goal.returns-in-Some-clause-next
returns-in-Some-clause-next c =
    sym c.loop-place.invariant.same
    ∙ default_there c.args.params.now c.loop-place.place c.index-params-place.result c.in-Some.value c.loop-place-test.true c.in-Some.is
    ∙ ap (λ (v : Value). tree.more (constant v) (constants (drop (c.loop-place.place + 1) (values_of c.args.params.now)))) (sym c.copy.ensures)

pub loop-place-preserved : goal.loop-place-preserved
loop-place-preserved c = record {
  later = omega arith;
  same = default_missing c.args.params.now c.loop-place.place c.index-params-place.result c.loop-place-test.true c.in-None.is ∙ c.loop-place.invariant.same;
}
