use Rattle.std.proofs.Common.{◌≡◌, ℕ, ◌<◌, List, [], ◌∷◌, ◌++◌, length, take, map, sym, ap, ◌∙◌, arith}
use Rattle.std.proofs.lemmas.List.{length-map}
use Rattle.ci_tree.specs.declared.bound.ProjectParts.{ProjectParts}
use Rattle.ci_tree.specs.Bound.{Function}
use Rattle.ci_tree.specs.Rooms.{room}
use Rattle.ci_tree.specs.SeenBound.{heads_of, function_of, project_of}
use Rattle.ci_codegen.proofs.Rooms.{rooms_more}
use Rattle.ci_codegen.proofs.generator.rooms.Goals as goal

pub loop-number-preserved : goal.loop-number-preserved
loop-number-preserved c =
    let project : ProjectParts = c.args.project.now in
    let fs : List Function = (project_of project).functions in
    let number : ℕ = c.loop-number.number in
    let within : number < length fs =
    omega (arith, length-map project.functions (function_of (heads_of project.functions)), c.loop-number-test.true, c.len-count.ensures, ap (λ (x : ProjectParts). length x.functions) c.parts.ensures.value) in
    c.in-Ok.ensures.items
    ∙ ap (λ rooms. rooms ++ c.room.result ∷ []) c.loop-number.invariant
    ∙ ap (λ r. map room (take number fs) ++ r ∷ []) c.room.ensures.value
    ∙ sym (rooms_more fs number within)
