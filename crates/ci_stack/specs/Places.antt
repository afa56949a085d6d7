-- How the values of a stack lie: a word at each place, and beside the words a table of texts.
use Rattle.std.specs.Prelude.{◌≡◌, ◌==◌, ℕ, ◌+◌, ◌<◌, ◌≤◌, ◌⊎◌, ℤ, pos, negsuc, if◌then◌else◌, List, [], ◌∷◌, length, All, Some, slice_get}
use Rattle.std.specs.Int.Signed.{mag}
use Rattle.ci_base.specs.declared.bounds.TheConstants.{MOST_ROOM, MOST_TEXT_BYTES}
use Rattle.ci_base.specs.declared.value.Value.{Value}
use Rattle.ci_base.specs.declared.value.Value.TheVariants.{Int, Str}

-- the word of a place that holds a text
abbrev pub text_word : ℕ
text_word = 4294967296

-- the value of a place: the text there where the word says so, otherwise the number that the word is
abbrev pub held : ℤ → List ℕ → Value
held (pos n) text = if n == text_word then Str text else Int (pos n)
held (negsuc n) text = Int (negsuc n)

-- the values of all places; behind the table the texts are empty
abbrev pub values : List ℤ → List (List ℕ) → List Value
values [] texts = []
values (w ∷ words) [] = held w [] ∷ values words []
values (w ∷ words) (t ∷ texts) = held w t ∷ values words texts

-- the word says that a text stands there, or is an INT
abbrev pub IsWord : ℤ → Type 0
IsWord w = (w ≡ pos text_word) ⊎ (mag w < 2147483648)

-- there are as many words as a stack has places, and each is one; and there is room for as many texts
pub record IsSound (words : List ℤ) (texts : List (List ℕ)) (room : ℕ) : Type 0 where
  pub places : length words ≡ MOST_ROOM
  pub each : All IsWord words
  pub texts_room : MOST_ROOM ≤ room

-- an INT stands at that place, and a text
abbrev pub IsNumberAt : List Value → ℕ → Type 0
IsNumberAt stack place = (n : ℤ) × (slice_get stack place ≡ Some (Int n))

abbrev pub IsTextAt : List Value → ℕ → Type 0
IsTextAt stack place = (s : List ℕ) × (slice_get stack place ≡ Some (Str s))

-- texts stand at that place and behind it, and both together are no longer than a text may be
abbrev pub JoinsNext : List Value → ℕ → Type 0
JoinsNext stack place = (a : List ℕ) × (b : List ℕ) × (slice_get stack place ≡ Some (Str a)) × (slice_get stack (place + 1) ≡ Some (Str b)) × (length a + length b ≤ MOST_TEXT_BYTES)
