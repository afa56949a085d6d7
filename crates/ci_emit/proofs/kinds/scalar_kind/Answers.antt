use Rattle.std.proofs.Common.{◌++◌, List, map, sym, ap, ◌∙◌}
use Rattle.std.specs.Prelude.{slice_get}
use Rattle.ci_base.specs.declared.value.Kind.{Kind}
use Rattle.ci_translation.specs.Instructions.{left_kind}
use Rattle.ci_tree.specs.declared.bound.Param as code
use Rattle.ci_tree.specs.declared.bound.Scalar.{Scalar}
use Rattle.ci_tree.specs.Bound.{Param}
use Rattle.ci_tree.specs.SeenBound.{scalar_of, param_of}
use Rattle.ci_tree.specs.Sound as sound
use Rattle.ci_emit.specs.Contexts.{context}
use Rattle.ci_emit.proofs.Emitting.{kinds_seen}
use Rattle.ci_emit.proofs.kinds.scalar_kind.Goals as goal

pub returns-in-Local : goal.returns-in-Local
unfolding context
returns-in-Local c =
    c.local_kind.ensures
    ∙ ap (λ (ks : List Kind). left_kind (slice_get (ks ++ c.as_slice-in-Local.result.now) c.in-Local.i)) (ap (map (λ (p : code.Param). p.kind)) c.as_slice.ensures ∙ kinds_seen c.args.function.now.params)
    ∙ ap (λ (ks : List Kind). left_kind (slice_get (map (λ (p : Param). p.kind) (map param_of c.args.function.now.params) ++ ks) c.in-Local.i)) c.as_slice-in-Local.ensures
    ∙ ap (λ (x : Scalar). left_kind (sound.scalar_kind (context c.args.parts.now c.args.function.now) (scalar_of x))) (sym c.in-Local.is)
