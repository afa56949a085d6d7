use Rattle.std.proofs.Common.{◌≡◌, ◌∙◌, [], ap, sym, Some, None}
use Rattle.std.proofs.lemmas.Result.{IfOk-weaker}
use Rattle.ci_base.specs.declared.function.SharedName.TheVariants as requests
use Rattle.ci_tree.specs.Bound as to
use Rattle.ci_tree.specs.LeftOut.{Heads}
use Rattle.ci_tree.specs.SeenBound.{scalar_of, exprs_of, call_of}
use Rattle.ci_names.specs.Binding.{called_with}
use Rattle.ci_bodies.specs.QueRead.{set_scalars}
use Rattle.ci_bodies.proofs.QueRead.{are_set, four_long, plain_call}
use Rattle.ci_bodies.proofs.que_read.que_read.Goals as goal

pub setting-requires : goal.setting-requires
setting-requires c =
    let set : set_scalars (exprs_of [] c.args.args) ≡ Some (scalar_of c.in-Some.sort, scalar_of c.in-Some.text) = ap (λ xs. set_scalars (exprs_of [] xs)) (sym c.as_slice.ensures) ∙ sym (c.in-Some.ensures []) in
    let four = are_set (exprs_of [] c.args.args) _ _ set in
    four_long [] c.args.args four.0 _ _ four.1.0 four.1.1

pub returns-in-None : goal.returns-in-None
returns-in-None c = λ heads.
    let none : set_scalars (exprs_of heads c.args.args) ≡ None = ap (λ xs. set_scalars (exprs_of heads xs)) (sym c.as_slice.ensures) ∙ sym (c.in-None.ensures heads) in
    c.plain.ensures heads ∙ sym (plain_call heads (exprs_of heads c.args.args) none)

pub returns-in-Some : goal.returns-in-Some
returns-in-Some c =
    let sort = scalar_of c.in-Some.sort in
    let text = scalar_of c.in-Some.text in
    IfOk-weaker c.setting.result (λ call. (heads : Heads) (queue second third mode : to.Expr) → exprs_of heads c.args.args ≡ to.more queue (to.more second (to.more third (to.more mode to.no_expr))) → call_of heads call ≡ to.que_read queue sort text mode)
    (λ call. (heads : Heads) → call_of heads call ≡ called_with heads (to.shared requests.QueRead) (exprs_of heads c.args.args))
    (λ call p heads.
    let set : set_scalars (exprs_of heads c.args.args) ≡ Some (sort, text) = ap (λ xs. set_scalars (exprs_of heads xs)) (sym c.as_slice.ensures) ∙ sym (c.in-Some.ensures heads) in
    let four = are_set (exprs_of heads c.args.args) sort text set in
    p heads four.0 (to.scalar sort) (to.scalar text) four.1.0 four.1.1 ∙ sym (ap (called_with heads (to.shared requests.QueRead)) four.1.1))
    c.setting.ensures
