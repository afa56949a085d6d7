-- Numbers without a sign.
use Rattle.std.specs.Prelude.{ℕ, Bool, ◌&&◌, nat_le, nat_lt, List, Option, Some, None, if◌then◌else◌}
use Rattle.std.specs.Char.{digit_value}
use Rattle.std.specs.Str.Parse.{digits_value}
use Rattle.ci_base.specs.Letters.{is_run}

-- a digit of a base, letters of any case being the digits from 10 on
abbrev pub is_digit_of : ℕ → ℕ → Bool
is_digit_of base b = nat_lt (digit_value b) base

-- one or more digits of a base
abbrev pub is_numeral : ℕ → List ℕ → Bool
is_numeral base s = is_run (is_digit_of base) s

-- the number that the bytes spell in a base, where it is at most the limit
unfoldable pub natural : ℕ → ℕ → List ℕ → Option ℕ
natural base limit s = if is_numeral base s && nat_le (digits_value base s) limit then Some (digits_value base s) else None
