use Rattle.std.proofs.Common.{◌≡◌, ◌∙◌, List, Some, slice_get, refl, sym, ap, subst}
use Rattle.std.proofs.lemmas.Option.{slice_get_read}
use Rattle.ci_base.specs.declared.layout.Head.{Head}
use Rattle.ci_runtime.proofs.Standing.{stands_so}
use Rattle.ci_runtime.proofs.ends.end_of.Goals as goal

pub returns : goal.returns
returns c =
    let found : slice_get c.args.heads.now c.args.function ≡ Some c.index-heads-function.result =
    slice_get_read c.args.heads.now _ c.args.function c.index-heads-function.result refl c.requires.named c.index-heads-function.is in
    stands_so c.args.store.now.basis c.args.store.now.shared c.args.task c.args.function c.index-heads-function.result _ c.requires.least c.requires.most c.requires.function
    (subst (λ (hs : List Head). slice_get hs c.args.function ≡ Some c.index-heads-function.result) c.requires.heads found) (c.copy.ensures.value ∙ ap (λ (h : Head). h.name) (sym c.index-heads-function.is)) c.status.ensures c.is_suspended.ensures c.place-place.ensures
    c.owner_of-owner.ensures
