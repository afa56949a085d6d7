use Rattle.std.proofs.Common.{rules, ◌≡◌, sym, subst}
use Rattle.std.specs.Prelude.{IfOk}
use Rattle.ci_base.specs.declared.function.SharedName.TheVariants as requests
use Rattle.ci_tree.specs.Bound as to
use Rattle.ci_tree.specs.LeftOut.{Heads}
use Rattle.ci_tree.specs.SeenBound.{callee_of, call_of, exprs_of}
use Rattle.ci_names.specs.Binding.{called_with}
use Rattle.ci_bodies.proofs.que_read.called_with.Goals as goal

pub returns-in-Shared-QueRead : goal.returns-in-Shared-QueRead
returns-in-Shared-QueRead c =
    let same : callee_of c.args.callee ≡ to.shared requests.QueRead = search rules in
    subst (λ callee. IfOk c.que_read.result (λ call. (heads : Heads) → call_of heads call ≡ called_with heads callee (exprs_of heads c.args.args))) (sym same) c.que_read.ensures
