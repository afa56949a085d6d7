-- What stands on top of a stack.
use Rattle.std.specs.Prelude.{◌≡◌, ◌+◌, ◌≤◌, ℕ, ℤ, List, [], ◌∷◌, ◌++◌, length, Option, Some, None}
use Rattle.ci_base.specs.declared.bounds.TheConstants.{MOST_TEXT_BYTES}
use Rattle.ci_base.specs.declared.value.Value.{Value}
use Rattle.ci_base.specs.declared.value.Value.TheVariants.{Int, Str}

-- the value on top, and what is below it
abbrev pub last_of : List Value → Option Value
last_of [] = None
last_of (v ∷ []) = Some v
last_of (v ∷ w ∷ more) = last_of (w ∷ more)

abbrev pub without_last : List Value → List Value
without_last [] = []
without_last (v ∷ []) = []
without_last (v ∷ w ∷ more) = v ∷ without_last (w ∷ more)

-- an INT is on top, or is below the value on top
abbrev pub EndsInNumber : List Value → Type 0
EndsInNumber stack = (low : List Value) × (n : ℤ) × (stack ≡ low ++ Int n ∷ [])

abbrev pub SecondIsNumber : List Value → Type 0
SecondIsNumber stack = (low : List Value) × (n : ℤ) × (v : Value) × (stack ≡ low ++ Int n ∷ v ∷ [])

-- a text is below so many values on top
abbrev pub IsTextBelow : List Value → ℕ → Type 0
IsTextBelow stack above = (low : List Value) × (s : List ℕ) × (high : List Value) × (stack ≡ low ++ Str s ∷ high) × (length high ≡ above)

-- two texts are on top, and both together are no longer than a text may be
abbrev pub EndsInShortTexts : List Value → Type 0
EndsInShortTexts stack = (low : List Value) × (a : List ℕ) × (b : List ℕ) × (stack ≡ low ++ Str a ∷ Str b ∷ []) × (length a + length b ≤ MOST_TEXT_BYTES)
