-- How texts are spelled.
use Rattle.std.specs.Prelude.{◌≡◌, ℕ, ◌+◌, ◌*◌, Bool, not, ◌||◌, List, [], ◌∷◌, ◌++◌, ◌==◌, Option, Some, None, IsTrue, if◌then◌else◌}
use Rattle.std.specs.Char.{digit_value}
use Rattle.ci_base.specs.Letters.{is_hex_digit, is_line_end}

-- any byte but `"`, `^`, LF and CR
unfoldable pub is_plain : ℕ → Bool
is_plain b = not (b == 34 || b == 94 || is_line_end b)

-- the byte for which a caret with this byte stands: `"`, `^` and `'` for themselves, n for LF, r for CR, t for tab
unfoldable pub escape : ℕ → Option ℕ
escape b =
    if b == 34 || b == 94 || b == 39 then Some b
    else (if b == 110 then Some 10
    else (if b == 114 then Some 13
    else (if b == 116 then Some 9
    else None)))

-- an item of a text, and the byte that it stands for
pub data IsItem : List ℕ → ℕ → Type 0 where
  plain : (b : ℕ) → IsTrue (is_plain b) → IsItem (b ∷ []) b
  escaped : (letter b : ℕ) → escape letter ≡ Some b → IsItem (94 ∷ letter ∷ []) b
  -- ^0xhh
  hexadecimal : (high low : ℕ) → IsTrue (is_hex_digit high) → IsTrue (is_hex_digit low) → IsItem (94 ∷ 48 ∷ 120 ∷ high ∷ low ∷ []) (16 * digit_value high + digit_value low)

-- items one after another, and the bytes that they stand for
pub data AreItems : List ℕ → List ℕ → Type 0 where
  none : AreItems [] []
  more : (item items : List ℕ) (b : ℕ) (bs : List ℕ) → IsItem item b → AreItems items bs → AreItems (item ++ items) (b ∷ bs)

-- `"`, items, `"`, and the bytes that the items stand for
abbrev pub IsText : List ℕ → List ℕ → Type 0
IsText s value = (items : List ℕ) × AreItems items value × (s ≡ 34 ∷ items ++ 34 ∷ [])

-- an item stands at the front
abbrev pub BeginsItem : List ℕ → Type 0
BeginsItem s = (item : List ℕ) × (rest : List ℕ) × (b : ℕ) × IsItem item b × (s ≡ item ++ rest)
