-- How numbers are spelled, and what they mean.
use Rattle.std.specs.Prelude.{ℕ, ℤ, Bool, false, ◌&&◌, ◌||◌, List, ◌∷◌, ◌==◌, if◌then◌else◌, drop}
use Rattle.std.specs.Int.{int_wrap}
use Rattle.std.specs.Str.Parse.{digits_value}
use Rattle.std.proofs.Common.{w32}
use Rattle.ci_base.specs.Letters.{is_digit, is_hex_digit, is_run}

-- the INT that equals the number modulo 2^32
abbrev pub wrap : ℤ → ℤ
wrap n = int_wrap w32 n

-- decimal digits
abbrev pub is_decimal : List ℕ → Bool
is_decimal s = is_run is_digit s

-- `0x` or `0X`, and hexadecimal digits
abbrev pub is_hexadecimal : List ℕ → Bool
is_hexadecimal (z ∷ x ∷ digits) = z == 48 && (x == 120 || x == 88) && is_run is_hex_digit digits
is_hexadecimal _ = false

-- a number
abbrev pub is_number : List ℕ → Bool
is_number s = is_decimal s || is_hexadecimal s

-- the value of a number
abbrev pub number_value : List ℕ → ℕ
number_value s = if is_hexadecimal s then digits_value 16 (drop 2 s) else digits_value 10 s

-- the greatest value that a number may have which is spelled in this way
abbrev pub number_limit : List ℕ → ℕ
number_limit s = if is_hexadecimal s then 4294967295 else 2147483648
