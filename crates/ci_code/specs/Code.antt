-- What holds of all code, whether it is verified or not: its lists fit one another.
use Rattle.std.specs.Prelude.{◌≡◌, ℕ, ◌-◌, ◌^◌, ◌<◌, ◌≤◌, List, length, map, take, drop, All, AllPairs, slice_get, Some}
use Rattle.ci_base.specs.declared.layout.CellHead.{CellHead}
use Rattle.ci_base.specs.declared.layout.Global.{Global}
use Rattle.ci_base.specs.declared.layout.Head.{Head}
use Rattle.ci_base.specs.declared.layout.Layout.{Layout}
use Rattle.ci_base.specs.declared.value.Kind.{Kind}
use Rattle.ci_base.specs.Values.{kind_of}
use Rattle.ci_tree.specs.declared.token.TokenKind.TheVariants.{Name}
use Rattle.ci_tree.specs.Tokens.{IsKept}
use Rattle.ci_code.specs.declared.raw.RawFunction.{RawFunction}
use Rattle.ci_code.specs.declared.raw.RawParts.{RawParts}

-- so few that a number of 32 bits names each
abbrev pub IsCounted : {A : Type 0} → List A → Type 0
IsCounted members = length members < 2 ^ 32

-- the defaults are those of the last parameters: there are no more, and each is of its parameter's kind
pub record HasDefaults (head : Head) : Type 0 where
  pub few : length head.defaults ≤ length head.kinds
  pub kinds : map kind_of head.defaults ≡ drop (length head.kinds - length head.defaults) head.kinds

-- a function's lists are counted
pub record IsFunctionCounted (function : RawFunction) : Type 0 where
  pub locals : IsCounted function.locals
  pub steps : IsCounted function.steps

-- the layout's lists are counted
pub record IsLayoutCounted (layout : Layout) : Type 0 where
  pub functions : IsCounted layout.functions
  pub cells : IsCounted layout.cells
  pub globals : IsCounted layout.globals
  pub parameters : All (λ (head : Head). IsCounted head.kinds) layout.functions
  pub defaults : All (λ (head : Head). IsCounted head.defaults) layout.functions

-- each list is counted
pub record IsCodeCounted (code : RawParts) : Type 0 where
  pub layout : IsLayoutCounted code.layout
  pub texts : IsCounted code.texts
  pub arrays : IsCounted code.arrays
  pub shapes : IsCounted code.shapes
  pub each_shape : All (λ (shape : List Kind). IsCounted shape) code.shapes
  pub functions : IsCounted code.functions
  pub each_function : All IsFunctionCounted code.functions

-- The lists of code fit one another.
pub record IsCode (code : RawParts) : Type 0 where
  pub one_each : length code.functions ≡ length code.layout.functions
  -- a function's first locals have its parameters' kinds
  pub parameters : (f : ℕ) (head : Head) (function : RawFunction) → slice_get code.layout.functions f ≡ Some head → slice_get code.functions f ≡ Some function → take (length head.kinds) function.locals ≡ head.kinds
  pub defaults : All HasDefaults code.layout.functions
  pub function_names : All (λ (head : Head). IsKept (Name head.name)) code.layout.functions
  pub global_names : All (λ (g : Global). IsKept (Name g.name)) code.layout.globals
  pub first_values : All (λ (cell : CellHead). kind_of cell.first ≡ cell.kind) code.layout.cells
  pub globals_rise : AllPairs (λ (g h : Global). g.cell < h.cell) code.layout.globals
  pub counted : IsCodeCounted code
