use Rattle.ci_tree.proofs.LayoutSteps.{function_names_fit, global_names_fit, global_cells_fit}
use Rattle.ci_tree.proofs.layouts.layout.Goals as goal

pub heads-requires : goal.heads-requires
heads-requires c = function_names_fit c.parts-parts.result.now c.parts-parts.ensures.kept c.as_slice.result.now c.as_slice.ensures

pub global_heads-requires-clause-names : goal.global_heads-requires-clause-names
global_heads-requires-clause-names c = global_names_fit c.parts-parts.result.now c.parts-parts.ensures.kept c.as_slice-3.result.now c.as_slice-3.ensures

pub global_heads-requires-clause-cells : goal.global_heads-requires-clause-cells
global_heads-requires-clause-cells c = global_cells_fit c.parts-parts.result.now c.parts-parts.ensures.kept c.as_slice-3.result.now c.as_slice-3.ensures
