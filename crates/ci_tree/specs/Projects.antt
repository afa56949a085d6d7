-- What holds of every project that is bound.
use Rattle.std.specs.Prelude.{◌≡◌, ◌+◌, ◌≤◌, ◌<◌, true, length, All, AllPairs}
use Rattle.ci_base.specs.declared.bounds.TheConstants.{MOST_ROOM, MOST_LEVELS, MOST_NODES, MOST_CELLS}
use Rattle.ci_tree.specs.declared.token.TokenKind.TheVariants.{Name}
use Rattle.ci_tree.specs.Bound.{Function, Array, Global, Project}
use Rattle.ci_tree.specs.BoundNodes.{nodes}
use Rattle.ci_tree.specs.BoundTests.{block_passes, texts_fit, formats_fit, reads_set}
use Rattle.ci_tree.specs.Depth.{block_depth}
use Rattle.ci_tree.specs.Rooms.{room}
use Rattle.ci_tree.specs.Sound.{is_sound}
use Rattle.ci_tree.specs.Tokens.{IsKept}

-- The project is right, and within its limits. The names are names of the language: no keywords, and short enough.
pub record IsProject (p : Project) : Type 0 where
  pub sound : is_sound p ≡ true
  pub rooms : All (λ (f : Function). room f ≤ MOST_ROOM) p.functions
  pub nested : All (λ (f : Function). block_depth f.body ≤ MOST_LEVELS) p.functions
  pub within : nodes p ≤ MOST_NODES
  pub function_names : All (λ (f : Function). IsKept (Name f.name)) p.functions
  pub global_names : All (λ (g : Global). IsKept (Name g.name)) p.globals
  pub texts : All (λ (f : Function). block_passes texts_fit f.body ≡ true) p.functions
  pub formats : All (λ (f : Function). block_passes formats_fit f.body ≡ true) p.functions
  pub reads : All (λ (f : Function). block_passes reads_set f.body ≡ true) p.functions
  pub cells_rise : AllPairs (λ (g h : Global). g.cell < h.cell) p.globals
  -- each array ends before the next begins
  pub arrays_apart : AllPairs (λ (a b : Array). a.first + a.length ≤ b.first) p.arrays
  pub globals_few : length p.globals ≤ MOST_CELLS
  pub arrays_few : length p.arrays ≤ MOST_CELLS
