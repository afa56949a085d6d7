use Rattle.std.proofs.Common.{◌≡◌, ◌-◌, List, length, take, drop, map, sym, ap, ◌∙◌, subst}
use Rattle.ci_base.specs.declared.value.Value.{Value}
use Rattle.std.proofs.Common.{Option}
use Rattle.std.proofs.lemmas.List.{take_rest}
use Rattle.ci_tree.specs.declared.bound.Param as code
use Rattle.ci_tree.specs.Bound.{Param}
use Rattle.ci_tree.specs.LeftOut.{constants}
use Rattle.ci_tree.specs.SeenBound.{param_of}
use Rattle.ci_emit.specs.Writing.{Argues}
use Rattle.ci_emit.proofs.Loops.{drop_mapped}
use Rattle.ci_emit.proofs.arguments.defaults_behind.Goals as goal

pub returns-in_ok-defaults : goal.returns-in_ok-defaults
returns-in_ok-defaults c k =
    let ps = c.args.params.now in
    let tail : take (length ps - c.args.given) (drop c.args.given ps) ≡ drop c.args.given ps = take_rest ps c.args.given in
    let same : drop c.args.given (map (λ (p : Param). p.first) (map param_of ps)) ≡ map (λ (p : Param). p.first) (map param_of (take (length ps - c.args.given) (drop c.args.given ps))) =
    drop_mapped (λ (p : Param). p.first) c.args.given (map param_of ps) ∙ ap (map (λ (p : Param). p.first)) (drop_mapped param_of c.args.given ps) ∙ ap (λ (l : List code.Param). map (λ (p : Param). p.first) (map param_of l)) (sym tail) in
    subst (λ (l : List (Option Value)). Argues k c.args.writer.now c.defaults.new.writer (constants l)) (sym same) (c.in_ok-defaults.ensures k)
