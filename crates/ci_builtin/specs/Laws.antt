-- Laws of the definitions.
use Rattle.std.specs.Prelude.{◌≡◌, ℕ, ◌<◌, ◌≤◌, ℤ, pos, negsuc, true, false, List, IfOk}
use Rattle.ci_base.specs.declared.value.Value.{Value}
use Rattle.ci_base.specs.declared.function.PrivateName.{PrivateName}
use Rattle.ci_base.specs.Functions.{private_gives}
use Rattle.ci_base.specs.Values.{kind_of}
use Rattle.ci_base.specs.TextFunctions.{stands_at, search}
use Rattle.ci_base.specs.PrivateFunctions.{private_value}

-- what a private function gives is of its kind, whatever it is given
abbrev pub GivesItsKind : Type 0
GivesItsKind = (last_error : ℕ) (name : PrivateName) (given : List Value) → IfOk (private_value last_error name given) (λ value. kind_of value ≡ private_gives name)

-- the number is the least offset at or after `from` at which the pattern stands, or negative where there is none
abbrev pub IsLeastOffset : List ℕ → List ℕ → ℕ → ℤ → Type 0
IsLeastOffset s pattern from (pos offset) =
    (from ≤ offset) × (stands_at s pattern offset ≡ true) × ((k : ℕ) → from ≤ k → k < offset → stands_at s pattern k ≡ false)
IsLeastOffset s pattern from (negsuc n) = (k : ℕ) → from ≤ k → stands_at s pattern k ≡ false

-- a search gives the least offset
abbrev pub SearchesLeast : Type 0
SearchesLeast = (s pattern : List ℕ) (from : ℕ) → IsLeastOffset s pattern from (search (pos from) s pattern)
