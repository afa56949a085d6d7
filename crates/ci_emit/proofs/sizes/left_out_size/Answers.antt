use Rattle.std.proofs.Common.{refl, sym, ap, ◌∙◌, drop, length}
use Rattle.std.proofs.lemmas.Option.{slice_get_read, slice_get_past}
use Rattle.std.specs.Prelude.{count_by}
use Rattle.ci_tree.specs.LeftOut.{left_out}
use Rattle.ci_tree.specs.SeenBound.{callee_of, heads_of}
use Rattle.ci_tree.specs.declared.bound.Callee.{Callee}
use Rattle.ci_translation.specs.Drafts as drafts
use Rattle.ci_emit.specs.Sizes.{has_first}
use Rattle.ci_emit.proofs.Sizing.{there_size, missing_size}
use Rattle.ci_emit.proofs.sizes.left_out_size.Goals as goal

pub returns-in-Some : goal.returns-in-Some
returns-in-Some c =
    c.defaults.ensures
    ∙ ap (λ ps. count_by has_first (drop c.args.given ps)) c.as_slice.ensures
    ∙ sym (there_size c.args.functions.now c.in-Function.f c.args.given c.in-Some.function.now (slice_get_read c.args.functions.now (length c.args.functions.now) c.in-Function.f c.in-Some.function.now refl c.in-Some.ensures.lookup.3.0 c.in-Some.ensures.lookup.1))
    ∙ ap (λ (x : Callee). drafts.args_size (left_out (heads_of c.args.functions.now) (callee_of x) c.args.given)) (sym c.in-Function.is)

pub returns-in-None : goal.returns-in-None
returns-in-None c =
    sym (missing_size c.args.functions.now c.in-Function.f c.args.given (slice_get_past c.args.functions.now c.in-Function.f c.in-None.ensures.lookup.3))
    ∙ ap (λ (x : Callee). drafts.args_size (left_out (heads_of c.args.functions.now) (callee_of x) c.args.given)) (sym c.in-Function.is)
