-- What code asks of its parts, table by table.
use Rattle.std.specs.Prelude.{◌≡◌, ℕ, ◌<◌, List, length, take, All, AllPairs, slice_get, slice_index_or, Some}
use Rattle.ci_base.specs.declared.layout.CellHead.{CellHead}
use Rattle.ci_base.specs.declared.layout.Global.{Global}
use Rattle.ci_base.specs.declared.layout.Head.{Head}
use Rattle.ci_base.specs.declared.value.Kind.{Kind}
use Rattle.ci_base.specs.Values.{kind_of}
use Rattle.ci_tree.specs.declared.token.TokenKind.TheVariants.{Name}
use Rattle.ci_tree.specs.Tokens.{IsKept}
use Rattle.ci_code.specs.declared.raw.RawFunction.{RawFunction}
use Rattle.ci_code.specs.declared.raw.RawParts.{RawParts}
use Rattle.ci_code.specs.Code.{HasDefaults, IsCounted, IsFunctionCounted}

-- a cell begins with a value of its kind
abbrev pub IsCell : CellHead → Type 0
IsCell cell = kind_of cell.first ≡ cell.kind

-- a GLOBAL scalar has a name
abbrev pub IsNamed : Global → Type 0
IsNamed g = IsKept (Name g.name)

-- a GLOBAL scalar's cell is below that of another one
abbrev pub IsLower : Global → Global → Type 0
IsLower g h = g.cell < h.cell

-- a shape has fewer than 2^32 kinds
abbrev pub IsShapeCounted : List Kind → Type 0
IsShapeCounted shape = IsCounted shape

-- the cells of the GLOBAL scalars with a number below this one rise
abbrev pub RiseBefore : ℕ → List Global → Type 0
RiseBefore n globals = (i j : ℕ) (d : Global) → i < j → j < n → j < length globals → (slice_index_or globals i d).cell < (slice_index_or globals j d).cell

-- a function of the layout, by itself
pub record IsHead (head : Head) : Type 0 where
  pub few_kinds : IsCounted head.kinds
  pub few_defaults : IsCounted head.defaults
  pub defaults : HasDefaults head
  pub name : IsKept (Name head.name)

-- the first locals of each function are of its parameters' kinds
abbrev pub BeginWithParameters : List Head → List RawFunction → Type 0
BeginWithParameters heads functions =
    (f : ℕ) (head : Head) (function : RawFunction) → slice_get heads f ≡ Some head → slice_get functions f ≡ Some function → take (length head.kinds) function.locals ≡ head.kinds

-- those of the functions with a number below this one
abbrev pub BeginBefore : ℕ → List Head → List RawFunction → Type 0
BeginBefore n heads functions =
    (f : ℕ) (head : Head) (function : RawFunction) → f < n → slice_get heads f ≡ Some head → slice_get functions f ≡ Some function → take (length head.kinds) function.locals ≡ head.kinds

-- the lists that are tables, and each shape, are counted
pub record AreListsCounted (code : RawParts) : Type 0 where
  pub heads : IsCounted code.layout.functions
  pub cells : IsCounted code.layout.cells
  pub globals : IsCounted code.layout.globals
  pub texts : IsCounted code.texts
  pub arrays : IsCounted code.arrays
  pub shapes : IsCounted code.shapes
  pub functions : IsCounted code.functions
  pub each_shape : All IsShapeCounted code.shapes

-- All that code asks of its parts.
pub record DoFit (code : RawParts) : Type 0 where
  pub one_each : length code.functions ≡ length code.layout.functions
  pub parameters : BeginWithParameters code.layout.functions code.functions
  pub heads : All IsHead code.layout.functions
  pub cells : All IsCell code.layout.cells
  pub named : All IsNamed code.layout.globals
  pub rise : AllPairs IsLower code.layout.globals
  pub each_function : All IsFunctionCounted code.functions
  pub lists : AreListsCounted code
