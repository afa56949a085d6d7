use Rattle.std.proofs.Common.{◌≡◌, ◌<◌, ◌∙◌, ℕ, List, length, ap, sym, subst}
use Rattle.std.specs.List.{All}
use Rattle.ci_base.specs.declared.layout.Head.{Head}
use Rattle.ci_code.specs.declared.raw.RawParts.{RawParts}
use Rattle.ci_runtime.specs.Desks.{state}
use Rattle.ci_runtime.proofs.Running.{heads_are, is_end}
use Rattle.ci_runtime.proofs.desk.Desk.into_ended.Goals as goal

pub into_ended-requires : goal.into_ended-requires
into_ended-requires c =
    let k = c.self.invariant in
    let there : c.members-heads.result.now ≡ c.self.inside.code.now.layout.functions = c.members-heads.ensures ∙ ap (λ (x : RawParts). x.layout.functions) c.parts-parts.ensures.value in
    record {
      heads = there ∙ heads_are _ _ _ _ k;
      functions = k.functions_are;
      named = subst (λ (hs : List Head). All (λ (f : ℕ). f < length hs) c.self.inside.board.notes.functions) (sym there) k.named;
    }

pub returns : goal.returns
returns c =
    is_end _ _ _ _ c.self.inside.board _ _ _ _ c.self.invariant (ap state c.self.view_is) c.into_ended.ensures.history c.into_ended.ensures.loose c.into_ended.ensures.end c.work-work.ensures
    c.instructions-instructions.ensures c.requires
