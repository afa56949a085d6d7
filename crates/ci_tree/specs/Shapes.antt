-- The shapes of tokens and blanks, without their limits.
use Rattle.std.specs.Prelude.{ℕ, Bool, List, ◌==◌, IsTrue}
use Rattle.ci_base.specs.Letters.{is_run}
use Rattle.ci_base.specs.Names.{is_name}
use Rattle.ci_base.specs.Numbers.{is_number}
use Rattle.ci_base.specs.Texts.{IsText}
use Rattle.ci_tree.specs.declared.token.Sign.{Sign}
use Rattle.ci_tree.specs.Comments.{IsBlank, IsOpenComment}
use Rattle.ci_tree.specs.Longest.{IsLongest}
use Rattle.ci_tree.specs.Signs.{sign_bytes}

-- `#`
unfoldable pub is_hash : ℕ → Bool
is_hash b = b == 35

-- spelled like a token, like a blank, or like a comment that isn't closed
pub data Shape : List ℕ → Type 0 where
  name : (s : List ℕ) → IsTrue (is_name s) → Shape s
  number : (s : List ℕ) → IsTrue (is_number s) → Shape s
  text : (s value : List ℕ) → IsText s value → Shape s
  hashes : (s : List ℕ) → IsTrue (is_run is_hash s) → Shape s
  sign : (g : Sign) → Shape (sign_bytes g)
  blank : (s : List ℕ) → IsBlank s → Shape s
  opened : (s : List ℕ) → IsOpenComment s → Shape s

-- s stands before the rest and is as long as possible
abbrev pub IsWhole : List ℕ → List ℕ → Type 0
IsWhole s rest = IsLongest Shape s rest
