-- What stands in a text.
use Rattle.std.specs.Prelude.{◌≡◌, ℕ, ◌+◌, Bool, true, false, ◌&&◌, List, [], ◌∷◌, ◌++◌, length, ◌==◌}
use Rattle.ci_base.specs.declared.bounds.TheConstants.{MOST_TEXT_BYTES}
use Rattle.ci_base.specs.Letters.{is_hex_digit, is_line_end}
use Rattle.ci_base.specs.Texts.{IsItem, AreItems, BeginsItem}
use Rattle.ci_literals.specs.declared.items.Item.{Item}
use Rattle.ci_literals.specs.declared.items.Item.TheVariants as items
use Rattle.ci_literals.specs.declared.items.TextEnd.{TextEnd}
use Rattle.ci_literals.specs.declared.items.TextEnd.TheVariants as ends

-- nothing is left, or a line ends
abbrev pub stops_text : List ℕ → Bool
stops_text [] = true
stops_text (b ∷ s) = is_line_end b

-- a caret, 0, x and two hexadecimal digits stand at the front
abbrev pub hex_escape : List ℕ → Bool
hex_escape (c ∷ z ∷ x ∷ high ∷ low ∷ s) = c == 94 && z == 48 && x == 120 && is_hex_digit high && is_hex_digit low
hex_escape _ = false

-- what stands at a place in a text
abbrev pub ItemAt : Item → List ℕ → Type 0
ItemAt (items.Byte value rest) s = (item : List ℕ) × IsItem item value × (s ≡ item ++ rest.now)
ItemAt items.BadEscape s = (rest : List ℕ) × (s ≡ 94 ∷ rest) × (BeginsItem s → ⊥)
ItemAt (items.Close rest) s = s ≡ 34 ∷ rest.now
ItemAt items.LineEnd s = stops_text s ≡ true

-- how the items of a text end which stand for these bytes
abbrev pub EndsText : TextEnd → List ℕ → List ℕ → Type 0
EndsText (ends.Closed rest) s value = (items : List ℕ) × AreItems items value × (s ≡ items ++ 34 ∷ rest.now)
EndsText ends.BadEscape s value =
    (items : List ℕ) × (rest : List ℕ) × AreItems items value × (s ≡ items ++ 94 ∷ rest) × (BeginsItem (94 ∷ rest) → ⊥)
EndsText ends.TooLong s value =
    (items : List ℕ) × (rest : List ℕ) × (bytes : List ℕ) × AreItems items bytes × (s ≡ items ++ rest) × (length bytes ≡ MOST_TEXT_BYTES + 1)
EndsText ends.LineEnd s value =
    (items : List ℕ) × (rest : List ℕ) × AreItems items value × (s ≡ items ++ rest) × (stops_text rest ≡ true)
