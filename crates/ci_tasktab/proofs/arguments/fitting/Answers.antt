use Rattle.std.proofs.Common.{List, sym, ap, length, arith}
use Rattle.ci_base.specs.declared.value.Kind.{Kind}
use Rattle.ci_base.specs.declared.value.Value.{Value}
use Rattle.ci_tasktab.proofs.Fitting.{too_few, too_many}
use Rattle.ci_tasktab.proofs.arguments.fitting.Goals as goal

pub returns-then-count-kinds : goal.returns-then-count-kinds
returns-then-count-kinds c = sym (too_many c.args.head.now c.args.given (omega (arith, c.if-count-kinds.true, ap (λ (l : List Kind). length l) c.members-kinds.ensures, ap (λ (l : List Value). length l) c.values-count.ensures.value)))

pub returns-then-count-defaults : goal.returns-then-count-defaults
returns-then-count-defaults c = sym (too_few c.args.head.now c.args.given
    (omega (arith, c.if-count-defaults.true, ap (λ (l : List Kind). length l) c.members-kinds.ensures, ap (λ (l : List Value). length l) c.members-defaults.ensures, ap (λ (l : List Value). length l) c.values-count.ensures.value)))
