use Rattle.std.proofs.Common.{◌+◌, List, [], drop, map, sym, ap, ◌∙◌, subst, arith}
use Rattle.std.proofs.lemmas.List.{drop_all}
use Rattle.ci_code.specs.declared.raw.RawFunction.{RawFunction}
use Rattle.ci_tree.specs.declared.bound.Function as code
use Rattle.ci_tree.specs.declared.bound.ProjectParts.{ProjectParts}
use Rattle.ci_tree.specs.Projects.{IsProject}
use Rattle.ci_tree.specs.Rooms.{room}
use Rattle.ci_tree.specs.SeenBound.{function_of, project_of}
use Rattle.ci_emit.specs.Contexts.{heads}
use Rattle.ci_emit.proofs.InTurn.{FunctionsAt, functions_begin, functions_next, functions_done, room_at, as_many_rooms}
use Rattle.ci_emit.proofs.Loops.{next}
use Rattle.ci_emit.proofs.functions.functions.Goals as goal

pub loop-number-init : goal.loop-number-init
loop-number-init c =
    let p = project_of c.args.project.now in
    let same = c.as_slice-all.ensures ∙ ap (λ (x : ProjectParts). x.functions) c.parts.ensures.value in
    let begun = subst (λ (fs : List code.Function). FunctionsAt p c.args.writer.now [] (map (function_of (heads c.args.project.now)) fs)) (sym same) (functions_begin p c.args.writer.now c.requires.nothing) in
    subst (λ (made : List RawFunction). FunctionsAt p c.args.writer.now made (map (function_of (heads c.args.project.now)) c.as_slice-all.result.now)) (sym c.new-made.ensures.items) begun

pub loop-number-preserved : goal.loop-number-preserved
loop-number-preserved c =
    let p = project_of c.args.project.now in
    let seen = function_of (heads c.args.project.now) in
    let all = c.as_slice-all.result.now in
    let i = c.loop-number.number in
    functions_next p c.loop-number.writer c.raw_function.new.writer c.loop-number.made.items c.push.new.self.items (map seen (drop i all)) (seen c.index-all-number.result) (map seen (drop (i + 1) all)) c.in_ok-one.one
    (ap (map seen) (next all i c.index-all-number.result c.index-all-number.is c.loop-number-test.true)) c.in_ok-one.ensures.made c.in_ok-one.ensures.pad c.in_ok-one.ensures.below c.in-Ok.ensures.items c.loop-number.invariant

pub returns-clause-functions : goal.returns-clause-functions
returns-clause-functions c =
    let p = project_of c.args.project.now in
    let is : IsProject p = subst (λ (x : ProjectParts). IsProject (project_of x)) c.parts.ensures.value c.parts.ensures.kept in
    let all = c.as_slice-all.result.now in
    let seen = function_of (heads c.args.project.now) in
    c.of.ensures
    ∙ (functions_done p c.loop-number.writer c.loop-number.made.items (map seen (drop c.loop-number.number all)) (c.translation_keeps_rules.ensures p is) (c.translation_fits.ensures p is (c.code_is_short.ensures c.args.project.now is)) (ap (map seen) (drop_all c.loop-number.number all c.loop-number-test.false)) c.loop-number.invariant).0

pub returns-clause-texts : goal.returns-clause-texts
returns-clause-texts c =
    let p = project_of c.args.project.now in
    let is : IsProject p = subst (λ (x : ProjectParts). IsProject (project_of x)) c.parts.ensures.value c.parts.ensures.kept in
    let all = c.as_slice-all.result.now in
    let seen = function_of (heads c.args.project.now) in
    (functions_done p c.loop-number.writer c.loop-number.made.items (map seen (drop c.loop-number.number all)) (c.translation_keeps_rules.ensures p is) (c.translation_fits.ensures p is (c.code_is_short.ensures c.args.project.now is)) (ap (map seen) (drop_all c.loop-number.number all c.loop-number-test.false)) c.loop-number.invariant).1

pub returns-clause-shapes : goal.returns-clause-shapes
returns-clause-shapes c =
    let p = project_of c.args.project.now in
    let is : IsProject p = subst (λ (x : ProjectParts). IsProject (project_of x)) c.parts.ensures.value c.parts.ensures.kept in
    let all = c.as_slice-all.result.now in
    let seen = function_of (heads c.args.project.now) in
    (functions_done p c.loop-number.writer c.loop-number.made.items (map seen (drop c.loop-number.number all)) (c.translation_keeps_rules.ensures p is) (c.translation_fits.ensures p is (c.code_is_short.ensures c.args.project.now is)) (ap (map seen) (drop_all c.loop-number.number all c.loop-number-test.false)) c.loop-number.invariant).2

pub raw_function-requires-clause-room : goal.raw_function-requires-clause-room
raw_function-requires-clause-room c =
    let same = c.as_slice-all.ensures ∙ ap (λ (x : ProjectParts). x.functions) c.parts.ensures.value in
    let rooms = c.requires.rooms ∙ ap (λ (fs : List code.Function). map room (map (function_of (heads c.args.project.now)) fs)) (sym same) in
    room_at (heads c.args.project.now) c.args.rooms.now c.as_slice-all.result.now c.loop-number.number c.index-all-number.result rooms c.index-all-number.is c.loop-number-test.true

pub raw_function-requires-clause-steps : goal.raw_function-requires-clause-steps
raw_function-requires-clause-steps c = c.loop-number.invariant.steps

pub raw_function-requires-clause-below : goal.raw_function-requires-clause-below
raw_function-requires-clause-below c = c.loop-number.invariant.below

pub bounds-rooms-number : goal.bounds-rooms-number
bounds-rooms-number c =
    let same = c.as_slice-all.ensures ∙ ap (λ (x : ProjectParts). x.functions) c.parts.ensures.value in
    let rooms = c.requires.rooms ∙ ap (λ (fs : List code.Function). map room (map (function_of (heads c.args.project.now)) fs)) (sym same) in
    let many = as_many_rooms (heads c.args.project.now) c.args.rooms.now c.as_slice-all.result.now rooms in
    omega (arith, many)
