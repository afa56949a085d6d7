use Rattle.std.proofs.Common.{◌≡◌, ◌∙◌, ◌<◌, List, length, ap}
use Rattle.std.specs.Prelude.{slice_set}
use Rattle.ci_shared.specs.declared.object.Section.{Section}
use Rattle.ci_shared.proofs.First.{FirstAt, first_within}
use Rattle.ci_sections.proofs.Held.{got_in, held_here, held_nowhere, named, stands, stands_nowhere}
use Rattle.ci_sections.proofs.sections.Sections.count.Goals as goal

pub returns-in-Some : goal.returns-in-Some
returns-in-Some c =
    let same : c.as_slice.result.now ≡ c.args.self.now = c.as_slice.ensures.value ∙ c.self.view_is in
    let there : FirstAt (named c.args.text.now) c.self.inside.kept.items c.in-Some.at = stands (named c.args.text.now) c.as_slice.result.now c.self.inside.kept.items c.in-Some.at c.as_slice.ensures.value c.in-Some.ensures.first in
    let lt : c.in-Some.at < length c.self.inside.kept.items = first_within (named c.args.text.now) c.self.inside.kept.items c.in-Some.at there in
    ap (λ (l : List Section). slice_set l c.in-Some.at (record c.index_mut.result.now { count = c.args.count })) c.self.view_is
    ∙ held_here c.args.text.now c.args.count c.args.self.now c.in-Some.at c.index_mut.result.now
    (stands (named c.args.text.now) c.as_slice.result.now c.args.self.now c.in-Some.at same c.in-Some.ensures.first)
    (got_in c.self.inside.kept.items c.args.self.now c.in-Some.at c.index_mut.result.now c.self.view_is lt c.index_mut.ensures.value)

pub returns-in_default : goal.returns-in_default
returns-in_default c =
    held_nowhere c.args.text.now c.args.count c.args.self.now
    (stands_nowhere (named c.args.text.now) c.as_slice.result.now c.args.self.now (c.as_slice.ensures.value ∙ c.self.view_is) c.in_default.ensures.first)
