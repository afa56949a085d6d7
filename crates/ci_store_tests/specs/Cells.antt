-- The cells of the tests.
use Rattle.std.specs.Prelude.{◌≡◌, List, Some, slice_get}
use Rattle.ci_base.specs.declared.layout.CellHead.{CellHead}
use Rattle.ci_base.specs.declared.value.Kind.{Kind}
use Rattle.ci_base.specs.declared.value.Kind.TheVariants as kinds
use Rattle.ci_base.specs.Values.{kind_of}

-- the first cell has a number, and the next one a text
pub record HasCells (cells : List Kind) : Type 0 where
  pub number : slice_get cells 0 ≡ Some kinds.Int
  pub text : slice_get cells 1 ≡ Some kinds.Str

-- its first value is of its kind
abbrev pub IsOwn : CellHead → Type 0
IsOwn cell = kind_of cell.first ≡ cell.kind
