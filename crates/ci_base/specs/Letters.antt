-- Classes of bytes, and runs of them.
use Rattle.std.specs.Prelude.{ℕ, ◌-◌, Bool, false, ◌&&◌, ◌||◌, List, [], ◌∷◌, nat_le, ◌==◌, if◌then◌else◌}
use Rattle.std.specs.List.{list_all}

-- 0 to 9
unfoldable pub is_digit : ℕ → Bool
is_digit b = nat_le 48 b && nat_le b 57

-- A to Z
unfoldable pub is_capital : ℕ → Bool
is_capital b = nat_le 65 b && nat_le b 90

-- a to z
unfoldable pub is_small : ℕ → Bool
is_small b = nat_le 97 b && nat_le b 122

-- a letter, or `_`
unfoldable pub is_letter : ℕ → Bool
is_letter b = is_capital b || is_small b || b == 95

-- a letter, a digit or `_`
unfoldable pub is_name_byte : ℕ → Bool
is_name_byte b = is_letter b || is_digit b

-- 0 to 9, A to F, a to f
unfoldable pub is_hex_digit : ℕ → Bool
is_hex_digit b = is_digit b || (nat_le 65 b && nat_le b 70) || (nat_le 97 b && nat_le b 102)

-- tab, LF, vertical tab, form feed, CR and space
unfoldable pub is_white : ℕ → Bool
is_white b = (nat_le 9 b && nat_le b 13) || b == 32

-- LF and CR, which end a line
unfoldable pub is_line_end : ℕ → Bool
is_line_end b = b == 10 || b == 13

-- the capital of a letter; any other byte stays
unfoldable pub capital : ℕ → ℕ
capital b = if is_small b then b - 32 else b

-- the list has a first byte, and that passes
abbrev pub begins : (ℕ → Bool) → List ℕ → Bool
begins test [] = false
begins test (b ∷ s) = test b

-- one or more bytes, each of which passes
abbrev pub is_run : (ℕ → Bool) → List ℕ → Bool
is_run test s = begins test s && list_all test s
