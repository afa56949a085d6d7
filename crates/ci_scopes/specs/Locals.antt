-- The locals that hold at a place of a function.
use Rattle.std.specs.Prelude.{◌≡◌, ℕ, List, [], ◌∷◌, length, position, None, Bool}
use Rattle.std.specs.Borrow.{Bor}
use Rattle.std.specs.Str.{str_eq_ignore_ascii_case}
use Rattle.ci_base.specs.declared.value.Kind.{Kind}
use Rattle.ci_names.specs.Scopes.{Local}
use Rattle.ci_scopes.specs.Table.{Noted, number_of}

-- the locals with these names and kinds
abbrev pub locals_from : List (Bor (List ℕ)) → List Kind → List Local
locals_from [] kinds = []
locals_from (name ∷ names) [] = []
locals_from (name ∷ names) (kind ∷ kinds) = record { name = name.now; kind = kind } ∷ locals_from names kinds

-- the local has this name
abbrev pub is_local : List ℕ → Local → Bool
is_local name l = str_eq_ignore_ascii_case l.name name

-- there is a kind for each name, and the table has the first of each name
pub record AreLocals (names : List (Bor (List ℕ))) (kinds : List Kind) (numbers : List Noted) : Type 0 where
  pub paired : length names ≡ length kinds
  pub first : (name : List ℕ) → number_of numbers None name ≡ position (is_local name) (locals_from names kinds)
