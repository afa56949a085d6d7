use Rattle.std.proofs.Common.{rules, ◌≡◌, ℕ, false, List, [], length, sym, ap, ◌∙◌, subst}
use Rattle.std.specs.Prelude.{reverse}
use Rattle.ci_base.specs.declared.value.Value.{Value}
use Rattle.ci_tree.specs.declared.bound.Call.{the_lemmas}
use Rattle.ci_tree.specs.Bound as tree
use Rattle.ci_tree.specs.LeftOut.{followed, left_out, call_given}
use Rattle.ci_tree.specs.SeenBound.{callee_of, call_of, exprs_of, heads_of, project_of}
use Rattle.ci_meaning.specs.Held.{Calls, Makes}
use Rattle.ci_meaning.specs.Meaning.{argued, evaluated}
use Rattle.ci_meaning.proofs.Widths.{given_call}
use Rattle.ci_meaning.proofs.calling.begin_call.Goals as goal

pub returns-in_ok-argue-in-Plain-clause-ok : goal.returns-in_ok-argue-in-Plain-clause-ok
returns-in_ok-argue-in-Plain-clause-ok c =
    let heads = heads_of c.args.project.now.functions in
    let p = project_of c.args.project.now in
    let callee = callee_of c.in-Plain.callee in
    let args = c.as_slice.result.now in
    let old = c.args.task.now in
    let move = c.in_ok-argue-in-Plain.field-0 in
    let new = c.argue.new.task in
    let none = subst (λ (before : List Value). Calls heads false (argued p callee (reverse before) (followed (exprs_of heads args) (left_out heads callee c.len.result))) old move new) c.new.ensures c.in_ok-argue-in-Plain.ensures.ok in
    let count : c.len.result ≡ length args = c.len.ensures ∙ ap (λ l. length l) (sym c.as_slice.ensures) in
    let all = subst (λ (n : ℕ). Calls heads false (argued p callee [] (followed (exprs_of heads args) (left_out heads callee n))) old move new) count none in
    let seen : call_of heads c.args.call.now ≡ call_given heads callee (exprs_of heads args) = search (rules, the_lemmas) in
    subst (λ (x : tree.Call). Makes heads (evaluated p (tree.called x)) old move new) (sym (seen ∙ given_call heads callee args)) all
