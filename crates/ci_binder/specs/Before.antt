-- What stands before a declaration.
use Rattle.std.specs.Prelude.{ℕ, ◌+◌, min, Bool, false, nat_lt, List, Option, Some, None}
use Rattle.ci_base.specs.declared.bounds.TheConstants.{MOST_CELLS}
use Rattle.ci_names.specs.Declarations.{Variable, cells_of}

-- the number is one of the first so many
abbrev pub is_among : ℕ → Option ℕ → Bool
is_among count None = false
is_among count (Some number) = nat_lt number count

-- the cells of variables, counted no further than one above their limit
abbrev pub counted : List Variable → ℕ
counted vs = min (cells_of vs) (MOST_CELLS + 1)
