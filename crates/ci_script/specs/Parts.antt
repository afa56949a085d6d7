-- The parts of a line.
use Rattle.std.specs.Prelude.{ℕ, suc, Bool, not, ◌==◌, ◌&&◌, ◌-◌, nat_lt, nat_le, List, length, take, drop, slice_index, Option, Some, None, if◌then◌else◌}
use Rattle.std.specs.Borrow.{Bor}
use Rattle.std.specs.List.{prefix_len}
use Rattle.ci_base.specs.declared.bounds.TheConstants.{MOST_NAME_BYTES}
use Rattle.ci_base.specs.Names.{is_name}
use Rattle.ci_base.specs.TextFunctions.{is_blank, trimmed}
use Rattle.ci_script.specs.declared.parts.Mark.{Mark}
use Rattle.ci_script.specs.declared.parts.Mark.TheVariants.{Blank, Bracket, Equals, LineFeed}

-- a byte that ends a part
abbrev pub marks : Mark → ℕ → Bool
marks Blank b = is_blank b
marks Bracket b = b == 40
marks Equals b = b == 61
marks LineFeed b = b == 10

-- how many bytes stand before the first mark, or in all
abbrev pub reach : Mark → List ℕ → ℕ
reach mark s = prefix_len (λ b. not (marks mark b)) s

-- up to the first blank, and what stands behind it without blanks at its ends
abbrev pub word : List ℕ → List ℕ
word s = take (reach Blank s) s

abbrev pub behind_word : List ℕ → List ℕ
behind_word s = trimmed is_blank (drop (reach Blank s) s)

-- what stands before a mark, and what behind it
pub record Halves : Type 0 where
  pub front : List ℕ
  pub back : List ℕ

-- at the first mark, where there is one
abbrev pub halves : Mark → List ℕ → Option Halves
halves mark s =
    if nat_lt (reach mark s) (length s) then Some (record { front = take (reach mark s) s; back = drop (suc (reach mark s)) s }) else None

-- `)` stands at the end
abbrev pub closes : List ℕ → Bool
closes s = slice_index s (length s - 1) == 41

-- a name of at most 64 bytes, keywords among them
abbrev pub is_short_name : List ℕ → Bool
is_short_name s = is_name s && nat_le (length s) MOST_NAME_BYTES

-- the two parts of a slice
abbrev pub both : Bor (List ℕ) × Bor (List ℕ) → Halves
both parts = record { front = parts.0.now; back = parts.1.now }
