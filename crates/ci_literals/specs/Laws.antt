-- The text at the front is what is spelled there.
use Rattle.std.specs.Prelude.{◌≡◌, ◌≤◌, ◌↔◌, ℕ, List, ◌++◌, length, Some}
use Rattle.ci_base.specs.declared.bounds.TheConstants.{MOST_TEXT_BYTES}
use Rattle.ci_base.specs.Texts.{IsText}
use Rattle.ci_literals.specs.Texts.{text_at}

-- the bytes begin with the spelling of this text, and the rest stands behind it
abbrev pub BeginsText : List ℕ → List ℕ → List ℕ → Type 0
BeginsText s text rest = (spelled : List ℕ) × IsText spelled text × (length text ≤ MOST_TEXT_BYTES) × (s ≡ spelled ++ rest)

-- a text is found at the front exactly where one is spelled there
abbrev pub TextIsSpelled : Type 0
TextIsSpelled = (s text rest : List ℕ) → text_at s ≡ Some (record { text = text; rest = rest }) ↔ BeginsText s text rest
