use Rattle.std.proofs.Common.{◌+◌, ◌∷◌, [], ◌++◌, length, take, map, flat_map, refl, sym, ap, ◌∙◌}
use Rattle.std.proofs.lemmas.List.{append-nil, length-map, map_push}
use Rattle.std.proofs.lemmas.List.Concat.{flat_map-append}
use Rattle.ci_tree.specs.SeenBound.{cell_of}
use Rattle.ci_names.specs.Binding.{bound_cells, bound_array, bound_global}
use Rattle.ci_names.proofs.Meant.{length_cells}
use Rattle.ci_scopes.specs.Listed.{variable_at}
use Rattle.ci_scopes.specs.Short.{IsShortVariable}
use Rattle.ci_binder.proofs.Steps.{next, holds, listed_at, each_more}
use Rattle.ci_binder.proofs.shared.Shared.of.Goals as goal

pub add-requires : goal.add-requires
add-requires c =
    let all = c.args.all.now in
    let i = c.loop-v.v-index in
    let v = c.v-item.result in
    let at = listed_at variable_at all (map variable_at all) i v refl c.v-item.is c.loop-v-test.true in
    holds IsShortVariable (map variable_at all) i (variable_at v) at.0 at.1 c.requires

pub loop-v-preserved : goal.loop-v-preserved
loop-v-preserved c =
    let all = c.args.all.now in
    let i = c.loop-v.v-index in
    let v = c.v-item.result in
    let vs = map variable_at (take i all) in
    let more = ap (map variable_at) (next all i v c.v-item.is c.loop-v-test.true) ∙ map_push variable_at (take i all) v in
    let many = sym (length_cells vs) ∙ sym (ap length c.loop-v.invariant.cells) ∙ length-map c.loop-v.shared.cells cell_of in
    record {
      cells =
          c.in_ok-add.ensures.cells
          ∙ ap (λ xs. xs ++ bound_cells (variable_at v)) c.loop-v.invariant.cells
          ∙ ap (λ xs. flat_map bound_cells vs ++ xs) (sym (append-nil (bound_cells (variable_at v))))
          ∙ sym (flat_map-append bound_cells vs (variable_at v ∷ []))
          ∙ ap (flat_map bound_cells) (sym more);
      arrays =
          c.in_ok-add.ensures.arrays vs many
          ∙ ap (λ xs. xs ++ bound_array vs (variable_at v)) c.loop-v.invariant.arrays
          ∙ sym (each_more bound_array vs (map variable_at (take (i + 1) all)) (variable_at v) more);
      globals =
          c.in_ok-add.ensures.globals vs many
          ∙ ap (λ xs. xs ++ bound_global vs (variable_at v)) c.loop-v.invariant.globals
          ∙ sym (each_more bound_global vs (map variable_at (take (i + 1) all)) (variable_at v) more);
    }
