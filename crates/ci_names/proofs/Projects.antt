-- What trees of files bind to is a project.
use Rattle.std.specs.Prelude.{◌≡◌, refl, ℕ, ◌*◌, ◌≤◌, List, [], ◌∷◌, length, map, sum_by, All}
use Rattle.std.proofs.Common.{sym, subst}
use Rattle.std.proofs.lemmas.List.Elements.{All-head, All-tail, All-weaker}
use Rattle.std.proofs.lemmas.List.Sums.{sum_by-le}
use native.Mathlib.Omega.{arith}
use Rattle.ci_base.specs.declared.bounds.TheConstants.{MOST_FILES, MOST_TOKENS, MOST_NODES, MOST_ROOM}
use Rattle.ci_tree.specs.declared.token.Token.{Token}
use Rattle.ci_tree.specs.Tree.{Item}
use Rattle.ci_tree.specs.Bound.{Function, Project}
use Rattle.ci_tree.specs.Nodes as source
use Rattle.ci_tree.specs.BoundNodes as made
use Rattle.ci_tree.specs.BoundTests.{texts_fit, formats_fit, reads_set}
use Rattle.ci_tree.specs.Rooms.{room}
use Rattle.ci_tree.specs.Files.{IsFileTree}
use Rattle.ci_tree.specs.Projects.{IsProject}
use Rattle.ci_names.specs.Declarations.{declared_in, each_behind}
use Rattle.ci_names.specs.Faults.{function_faults, variable_faults, declared_faults, faults}
use Rattle.ci_names.specs.Binding.{bound, binds}
use Rattle.ci_names.specs.Laws.{AreDerived}
use Rattle.ci_names.proofs.Bodies.{free_left, free_right}
use Rattle.ci_names.proofs.Cells.{cells_rise, arrays_apart, globals_few, arrays_few}
use Rattle.ci_names.proofs.Contents.{all_functions, all_variables, function_names, global_names, bodies_pass, texts_mild, formats_mild, reads_mild}
use Rattle.ci_names.proofs.Counted.{nodes_are_few}
use Rattle.ci_names.proofs.Nested.{all_at, nesting_is_small}
use Rattle.ci_names.proofs.Small.{rooms_are_small}
use Rattle.ci_names.proofs.Whole.{sorted_none, bound_is_sound}

-- the tree of a file is derived from the kinds of its tokens
are_derived : (files : List (List Item)) → All IsFileTree files → AreDerived files
are_derived [] h = tt
are_derived (items ∷ files) h =
    let tree = All-head IsFileTree items files h in
    ((map (λ (t : Token). t.what) tree.tokens, tree.derived), are_derived files (All-tail IsFileTree items files h))

nodes_within : (n k l : ℕ) → n ≤ k → k ≤ l * MOST_TOKENS → l ≤ MOST_FILES → n ≤ MOST_NODES
nodes_within n k l h i j = omega arith

-- what the files declare
declared_is_project : (files : List (List Item)) → length files ≤ MOST_FILES → All IsFileTree files → faults files ≡ [] → IsProject (bound files)
declared_is_project files few trees h =
    let d = declared_in files in
    let derived = are_derived files trees in
    let free = sorted_none (declared_faults d) h in
    let functions = free_left (each_behind (function_faults d) [] d.functions) (each_behind (variable_faults d) [] d.variables) free in
    let variables = free_right (each_behind (function_faults d) [] d.functions) (each_behind (variable_faults d) [] d.variables) free in
    let written = all_functions 0 files trees in
    record {
      sound = bound_is_sound files (bound files) (h, refl);
      rooms = all_at (λ (f : Function). room f ≤ MOST_ROOM) (bound files).functions (rooms_are_small files (bound files) derived (h, refl));
      nested = nesting_is_small files (bound files) derived (h, refl);
      within = nodes_within (made.nodes (bound files)) (sum_by source.nodes files) (length files) (nodes_are_few files (bound files) (h, refl))
          (sum_by-le source.nodes MOST_TOKENS files (All-weaker IsFileTree (λ (tree : List Item). source.nodes tree ≤ MOST_TOKENS) (λ tree is. is.within) files trees)) few;
      function_names = function_names d written;
      global_names = global_names d (all_variables 0 files trees);
      texts = bodies_pass texts_fit d texts_mild functions written;
      formats = bodies_pass formats_fit d formats_mild functions written;
      reads = bodies_pass reads_set d reads_mild functions written;
      cells_rise = cells_rise d;
      arrays_apart = arrays_apart d;
      globals_few = globals_few d variables;
      arrays_few = arrays_few d variables;
    }

pub bound_is_project : (files : List (List Item)) (project : Project) → length files ≤ MOST_FILES → All IsFileTree files → binds files project → IsProject project
bound_is_project files project few trees h = subst IsProject (sym h.1) (declared_is_project files few trees h.0)
