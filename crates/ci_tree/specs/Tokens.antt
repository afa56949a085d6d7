-- The tokens of a source.
use Rattle.std.specs.Prelude.{◌≡◌, ℕ, ◌+◌, ◌≤◌, ◌<◌, true, false, ◌&&◌, ◌⊎◌, List, [], ◌∷◌, ◌++◌, length, ◌==◌, Some, None, IsTrue, pos, FitsSigned, if◌then◌else◌}
use Rattle.std.proofs.Common.{w32}
use Rattle.ci_base.specs.declared.bounds.TheConstants.{MOST_SOURCE_BYTES, MOST_NAME_BYTES, MOST_TEXT_BYTES, MOST_HASHES}
use Rattle.ci_base.specs.Letters.{is_letter, is_run, begins}
use Rattle.ci_base.specs.Names.{is_name}
use Rattle.ci_base.specs.Numbers.{is_number, number_value, number_limit, wrap}
use Rattle.ci_base.specs.Texts.{IsText}
use Rattle.ci_tree.specs.declared.token.Token.{Token}
use Rattle.ci_tree.specs.declared.token.TokenKind.{TokenKind}
use Rattle.ci_tree.specs.declared.token.TokenKind.TheVariants as kinds
use Rattle.ci_tree.specs.Comments.{IsBlank}
use Rattle.ci_tree.specs.Shapes.{IsWhole, is_hash}
use Rattle.ci_tree.specs.Signs.{sign_bytes}
use Rattle.ci_tree.specs.Words.{reserved}

-- the token is spelled so, within the limits of its kind
abbrev pub Spells : TokenKind → List ℕ → Type 0
Spells (kinds.Name bytes) s = (bytes ≡ s) × IsTrue (is_name s) × (reserved s ≡ None) × (length s ≤ MOST_NAME_BYTES)
Spells (kinds.Keyword word) s = IsTrue (is_name s) × (reserved s ≡ Some (kinds.Keyword word))
Spells (kinds.Number value) s =
    (IsTrue (is_name s) × (reserved s ≡ Some (kinds.Number value)))
    ⊎ (IsTrue (is_number s) × (number_value s ≤ number_limit s) × (value ≡ wrap (pos (number_value s))))
Spells (kinds.Text value) s = IsText s value × (length value ≤ MOST_TEXT_BYTES)
Spells (kinds.Hashes count) s = IsTrue (is_run is_hash s) × (count ≡ length s) × (length s ≤ MOST_HASHES)
Spells (kinds.Sign sign) s = s ≡ sign_bytes sign

-- s is a blank, as long as possible, and then the rest
pub record BlankAt (s rest : List ℕ) : Type 0 where
  pub spelled : List ℕ
  pub whole : s ≡ spelled ++ rest
  pub blank : IsBlank spelled
  pub longest : IsWhole spelled rest

-- s is the token, as long as possible, and then the rest; directly behind a number stands no letter and no `_`
pub record TokenAt (what : TokenKind) (s rest : List ℕ) : Type 0 where
  pub spelled : List ℕ
  pub whole : s ≡ spelled ++ rest
  pub token : Spells what spelled
  pub longest : IsWhole spelled rest
  pub apart : is_number spelled ≡ true → begins is_letter rest ≡ false

-- in a source of this size, its end s is the tokens and blanks between them, and then the rest; a token's place is the
-- number of bytes before it
pub data Reads (size : ℕ) : List ℕ → List Token → List ℕ → Type 0 where
  here : (s rest : List ℕ) → s ≡ rest → Reads size s [] rest
  blank : (s behind : List ℕ) (ts : List Token) (rest : List ℕ) → BlankAt s behind → Reads size behind ts rest → Reads size s ts rest
  token : (s behind : List ℕ) (t : Token) (ts : List Token) (rest : List ℕ) → TokenAt t.what s behind → t.place + length s ≡ size → Reads size behind ts rest → Reads size s (t ∷ ts) rest

-- what is left of a source behind the mark EF BB BF, which may stand at its start
abbrev pub after_mark : List ℕ → List ℕ
after_mark (a ∷ b ∷ c ∷ s) = if a == 0xEF && b == 0xBB && c == 0xBF then s else a ∷ b ∷ c ∷ s
after_mark s = s

-- the source is blanks and these tokens
abbrev pub tokens : List ℕ → List Token → Type 0
tokens source ts = Reads (length source) (after_mark source) ts []

-- what a token keeps of its kind's spelling
abbrev pub IsKept : TokenKind → Type 0
IsKept (kinds.Name bytes) = IsTrue (is_name bytes) × (reserved bytes ≡ None) × (length bytes ≤ MOST_NAME_BYTES)
IsKept (kinds.Keyword word) = Unit {0}
IsKept (kinds.Number value) = FitsSigned w32 value
IsKept (kinds.Text value) = length value ≤ MOST_TEXT_BYTES
IsKept (kinds.Hashes count) = (1 ≤ count) × (count ≤ MOST_HASHES)
IsKept (kinds.Sign sign) = Unit {0}

-- tokens whose places rise from low on and lie within a source of at most 262,144 bytes
abbrev pub AreKept : ℕ → List Token → Type 0
AreKept low [] = Unit {0}
AreKept low (t ∷ ts) = IsKept t.what × (low ≤ t.place) × (t.place < MOST_SOURCE_BYTES) × AreKept (t.place + 1) ts
