-- What is known of the files of a shelf.
use Rattle.std.specs.Prelude.{◌≡◌, ℕ, ◌<◌, List, length, Option, None, Some, IfSome, IsSomeAnd}
use Rattle.std.specs.Ordering.{nat_cmp}
use Rattle.std.specs.Cmp.Lexicographic.{slice_cmp}
use Rattle.std.specs.FinMap.{FinMap, get}

-- the contents of files by their names
abbrev pub Files : Type 0
Files = FinMap (slice_cmp nat_cmp) (List ℕ)

-- if the files are told, the one of this name has this content
abbrev pub HasFile : Option Files → List ℕ → List ℕ → Type 0
HasFile files name content = IfSome files (λ told. get told name ≡ Some content)

-- if the files are told, none has this name
abbrev pub LacksFile : Option Files → List ℕ → Type 0
LacksFile files name = IfSome files (λ told. get told name ≡ None)

-- if the files are told, the one of this name is longer than the limit
abbrev pub HasLongFile : Option Files → List ℕ → ℕ → Type 0
HasLongFile files name limit = IfSome files (λ told. IsSomeAnd (get told name) (λ content. limit < length content))
