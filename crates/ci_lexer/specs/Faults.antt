-- Sources that have no tokens.
use Rattle.std.specs.Prelude.{◌≡◌, ℕ, ◌+◌, ◌<◌, ◌≤◌, true, List, ◌∷◌, ◌++◌, length, IsTrue, ℤ}
use Rattle.ci_base.specs.declared.bounds.TheConstants.{MOST_NAME_BYTES, MOST_TEXT_BYTES, MOST_HASHES}
use Rattle.ci_base.specs.Letters.{is_letter, is_run}
use Rattle.ci_base.specs.Names.{is_name}
use Rattle.ci_base.specs.Numbers.{is_number, number_value, number_limit}
use Rattle.ci_base.specs.Texts.{AreItems, BeginsItem}
use Rattle.ci_literals.specs.Items.{stops_text}
use Rattle.ci_tree.specs.declared.token.Token.{Token}
use Rattle.ci_tree.specs.declared.token.TokenKind.TheVariants.{Number}
use Rattle.ci_tree.specs.Comments.{IsOpenComment}
use Rattle.ci_tree.specs.Shapes.{Shape, IsWhole, is_hash}
use Rattle.ci_tree.specs.Tokens.{Spells, Reads, after_mark}
use Rattle.ci_lexer.specs.declared.fault.LexFault.{LexFault}
use Rattle.ci_lexer.specs.declared.fault.LexFault.TheVariants.{StrayByte, OpenString, OpenComment, BadEscape, NumberTooLarge, TextTooLong, NameTooLong}

-- in a source of this size, its end s begins with what is refused; a place is the number of bytes before it
pub data FaultAt (size : ℕ) : List ℕ → LexFault → Type 0 where
  -- a byte with which nothing begins
  stray : (s : List ℕ) (at b : ℕ) (rest : List ℕ) → s ≡ b ∷ rest → at + length s ≡ size → ((more : List ℕ) → Shape (b ∷ more) → ⊥) → FaultAt size s (StrayByte at)
  -- a letter or `_` directly behind a number
  run_on : (s : List ℕ) (at : ℕ) (value : ℤ) (spelled : List ℕ) (b : ℕ) (rest : List ℕ) → s ≡ spelled ++ b ∷ rest → at + length (b ∷ rest) ≡ size → Spells (Number value) spelled → IsTrue (is_number spelled) → IsWhole spelled (b ∷ rest) → IsTrue (is_letter b) → FaultAt size s (StrayByte at)
  number_too_large : (s : List ℕ) (at : ℕ) (spelled rest : List ℕ) → s ≡ spelled ++ rest → at + length s ≡ size → IsTrue (is_number spelled) → IsWhole spelled rest → number_limit spelled < number_value spelled → FaultAt size s (NumberTooLarge at)
  name_too_long : (s : List ℕ) (at : ℕ) (spelled rest : List ℕ) → s ≡ spelled ++ rest → at + length s ≡ size → IsTrue (is_name spelled) → IsWhole spelled rest → MOST_NAME_BYTES < length spelled → FaultAt size s (NameTooLong at)
  too_many_hashes : (s : List ℕ) (at : ℕ) (spelled rest : List ℕ) → s ≡ spelled ++ rest → at + length s ≡ size → IsTrue (is_run is_hash spelled) → IsWhole spelled rest → MOST_HASHES < length spelled → FaultAt size s (TextTooLong at)
  open_comment : (s : List ℕ) (at : ℕ) → at + length s ≡ size → IsOpenComment s → FaultAt size s (OpenComment at)
  -- in a text, behind items for at most 255 bytes, a caret that begins no item
  bad_escape : (s : List ℕ) (at : ℕ) (items value rest : List ℕ) → s ≡ 34 ∷ items ++ 94 ∷ rest → at + length s ≡ size → AreItems items value → length value ≤ MOST_TEXT_BYTES → (BeginsItem (94 ∷ rest) → ⊥) → FaultAt size s (BadEscape at)
  -- items for 256 bytes
  text_too_long : (s : List ℕ) (at : ℕ) (items value rest : List ℕ) → s ≡ 34 ∷ items ++ rest → at + length s ≡ size → AreItems items value → length value ≡ MOST_TEXT_BYTES + 1 → FaultAt size s (TextTooLong at)
  -- behind items for at most 255 bytes, the end of the line or of the source
  open_string : (s : List ℕ) (at : ℕ) (items value rest : List ℕ) → s ≡ 34 ∷ items ++ rest → at + length s ≡ size → AreItems items value → length value ≤ MOST_TEXT_BYTES → stops_text rest ≡ true → FaultAt size s (OpenString at)

-- the source begins with tokens and blanks, and then comes what is refused with this fault at its place
abbrev pub lex_fault : List ℕ → LexFault → Type 0
lex_fault source fault =
    (ts : List Token) × (rest : List ℕ) × Reads (length source) (after_mark source) ts rest × FaultAt (length source) rest fault
