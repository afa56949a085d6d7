use Rattle.std.proofs.Common.{rules, ◌≡◌, List, drop, map, Some, None, sym, ap, ◌∙◌, subst, OnOk}
use Rattle.std.specs.Prelude.{slice_get}
use Rattle.ci_tree.specs.declared.bound.Param as code_param
use Rattle.ci_tree.specs.declared.bound.Callee.{Callee}
use Rattle.ci_tree.specs.Bound as to
use Rattle.ci_tree.specs.Bound.{Param, Exprs}
use Rattle.ci_tree.specs.LeftOut.{constants, left_out}
use Rattle.ci_tree.specs.SeenBound.{callee_of, param_of}
use Rattle.ci_emit.specs.Contexts.{heads}
use Rattle.ci_emit.specs.Writing.{Argues}
use Rattle.ci_emit.proofs.Loops.{left_there, left_missing}
use Rattle.ci_emit.proofs.Writings.{argued_none}
use Rattle.ci_emit.proofs.arguments.left_out.Goals as goal

pub returns-in-Some : goal.returns-in-Some
returns-in-Some c k =
    let given = c.args.given in
    let there : slice_get c.args.parts.now.functions c.in-Function.f ≡ Some c.in-Some.function.now = search (rules, c.get.ensures.value) in
    let same : left_out (heads c.args.parts.now) (callee_of c.args.callee) given ≡ constants (drop given (map (λ (p : Param). p.first) (map param_of c.as_slice.result.now))) =
    ap (λ (x : Callee). left_out (heads c.args.parts.now) (callee_of x) given) c.in-Function.is
    ∙ left_there c.args.parts.now.functions c.in-Function.f c.in-Some.function.now given there
    ∙ ap (λ (ps : List code_param.Param). constants (drop given (map (λ (p : Param). p.first) (map param_of ps)))) (sym c.as_slice.ensures) in
    subst (λ (l : Exprs). OnOk c.defaults_behind.result (Argues k c.args.writer.now c.defaults_behind.new.writer l)) (sym same) (c.defaults_behind.ensures k)

pub returns-in-None : goal.returns-in-None
returns-in-None c k =
    let there : slice_get c.args.parts.now.functions c.in-Function.f ≡ None = search (rules, c.get.ensures.value) in
    let same : left_out (heads c.args.parts.now) (callee_of c.args.callee) c.args.given ≡ to.no_expr =
    ap (λ (x : Callee). left_out (heads c.args.parts.now) (callee_of x) c.args.given) c.in-Function.is ∙ left_missing c.args.parts.now.functions c.in-Function.f c.args.given there in
    subst (λ (l : Exprs). Argues k c.args.writer.now c.args.writer.now l) (sym same) (argued_none k)
