use Rattle.std.proofs.Common.{◌∙◌, ℕ, List, refl, sym, ap}
use Rattle.std.specs.List.{insert}
use Rattle.ci_shared.specs.declared.object.Section.{Section}
use Rattle.ci_shared.specs.Sections.{with_section}
use Rattle.ci_sections.proofs.sections.Sections.own.Goals as goal

pub returns : goal.returns
returns c =
    (rw c.unwrap.ensures at c.insert.ensures.items)
    ∙ ap (λ (name : List ℕ). insert c.self.inside.kept.items c.place_for-at.result (record { name = name; owner = c.args.task; count = 1 })) c.copy.ensures.value
    ∙ ap (λ (l : List Section). insert l c.place_for-at.result (record { name = c.args.text.now; owner = c.args.task; count = 1 })) (sym c.as_slice.ensures.value)
    ∙ c.place_for-at.ensures.place (record { name = c.args.text.now; owner = c.args.task; count = 1 }) refl
    ∙ ap (λ (l : List Section). with_section (record { name = c.args.text.now; owner = c.args.task; count = 1 }) l) (c.as_slice.ensures.value ∙ c.self.view_is)
