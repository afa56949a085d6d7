use Rattle.std.proofs.Common.{◌≡◌, Some, None, sym, ap, ◌∙◌, subst, arith}
use Rattle.std.specs.Prelude.{slice_get}
use Rattle.ci_tree.specs.declared.bound.ProjectParts.{ProjectParts}
use Rattle.ci_tree.specs.Projects.{IsProject}
use Rattle.ci_tree.specs.Rooms as rooms
use Rattle.ci_tree.specs.SeenBound.{project_of}
use Rattle.ci_meaning.proofs.ProjectWithin.{room_small, function_there, function_missing}
use Rattle.ci_meaning.proofs.sizes.room.Goals as goal

pub function_room-requires : goal.function_room-requires
function_room-requires c =
    let project = c.args.project.now in
    let found : slice_get project.functions c.args.function ≡ Some c.in-Some.found.now = ap (λ (x : ProjectParts). slice_get x.functions c.args.function) (sym c.parts.ensures.value) ∙ sym c.in-Some.ensures.value in
    let kept : IsProject (project_of project) = subst (λ (x : ProjectParts). IsProject (project_of x)) c.parts.ensures.value c.parts.ensures.kept in
    room_small project kept c.args.function c.in-Some.found.now found

pub returns-in-Some-clause-value : goal.returns-in-Some-clause-value
returns-in-Some-clause-value c =
    let project = c.args.project.now in
    let found : slice_get project.functions c.args.function ≡ Some c.in-Some.found.now = ap (λ (x : ProjectParts). slice_get x.functions c.args.function) (sym c.parts.ensures.value) ∙ sym c.in-Some.ensures.value in
    c.function_room.ensures ∙ ap rooms.room (sym (function_there project c.args.function c.in-Some.found.now found))

pub returns-in-Some-clause-small : goal.returns-in-Some-clause-small
returns-in-Some-clause-small c =
    let project = c.args.project.now in
    let found : slice_get project.functions c.args.function ≡ Some c.in-Some.found.now = ap (λ (x : ProjectParts). slice_get x.functions c.args.function) (sym c.parts.ensures.value) ∙ sym c.in-Some.ensures.value in
    let kept : IsProject (project_of project) = subst (λ (x : ProjectParts). IsProject (project_of x)) c.parts.ensures.value c.parts.ensures.kept in
    omega (arith, room_small project kept c.args.function c.in-Some.found.now found, c.function_room.ensures)

pub returns-in-None-clause-value : goal.returns-in-None-clause-value
returns-in-None-clause-value c =
    let project = c.args.project.now in
    let missing : slice_get project.functions c.args.function ≡ None = ap (λ (x : ProjectParts). slice_get x.functions c.args.function) (sym c.parts.ensures.value) ∙ sym c.in-None.ensures.value in
    ap rooms.room (sym (function_missing project c.args.function missing))
