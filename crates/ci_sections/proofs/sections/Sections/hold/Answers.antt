use Rattle.std.proofs.Common.{◌∙◌, ◌<◌, Some, length, ap, sym}
use Rattle.std.specs.Prelude.{Option}
use Rattle.ci_shared.specs.declared.object.Section.{Section}
use Rattle.ci_shared.proofs.First.{FirstAt, first_within}
use Rattle.ci_sections.specs.declared.find.Hold.{Hold}
use Rattle.ci_sections.specs.Picked.{hold_of}
use Rattle.ci_sections.proofs.Held.{got_in, named, section_here, section_nowhere, stands, stands_nowhere}
use Rattle.ci_sections.proofs.sections.Sections.hold.Goals as goal

pub returns-in-Some : goal.returns-in-Some
returns-in-Some c =
    let there : FirstAt (named c.args.text.now) c.self.inside.kept.items c.in-Some.at = stands (named c.args.text.now) c.as_slice.result.now c.self.inside.kept.items c.in-Some.at c.as_slice.ensures.value c.in-Some.ensures.first in
    let lt : c.in-Some.at < length c.self.inside.kept.items = first_within (named c.args.text.now) c.self.inside.kept.items c.in-Some.at there in
    ap (λ (x : Hold). Some x) c.hold_in.ensures
    ∙ ap (λ (o : Option Section). hold_of o)
    (sym (section_here c.args.text.now c.args.self.now c.in-Some.at c.index.result.now
    (stands (named c.args.text.now) c.as_slice.result.now c.args.self.now c.in-Some.at (c.as_slice.ensures.value ∙ c.self.view_is) c.in-Some.ensures.first)
    (got_in c.self.inside.kept.items c.args.self.now c.in-Some.at c.index.result.now c.self.view_is lt c.index.ensures)))

pub returns-in-None : goal.returns-in-None
returns-in-None c =
    ap (λ (o : Option Section). hold_of o)
    (sym (section_nowhere c.args.text.now c.args.self.now (stands_nowhere (named c.args.text.now) c.as_slice.result.now c.args.self.now (c.as_slice.ensures.value ∙ c.self.view_is) c.in-None.ensures.first)))
