-- How an INT is written in scripts and in lists of arguments.
use Rattle.std.specs.Prelude.{ℕ, ℤ, pos, neg_ℤ, Bool, false, ◌&&◌, ◌==◌, List, ◌∷◌, drop, Option, option_map, if◌then◌else◌}
use Rattle.ci_base.specs.Letters.{begins}
use Rattle.ci_base.specs.Numbers.{wrap}
use Rattle.ci_literals.specs.Digits.{natural}

-- `-` stands at the front
abbrev pub begins_minus : List ℕ → Bool
begins_minus s = begins (λ b. b == 45) s

-- `0x` stands at the front
abbrev pub begins_hexadecimal : List ℕ → Bool
begins_hexadecimal (b ∷ c ∷ s) = b == 48 && c == 120
begins_hexadecimal _ = false

-- decimal digits, of an INT that isn't negative
abbrev pub positive_of : List ℕ → Option ℤ
positive_of digits = option_map (λ n. pos n) (natural 10 2147483647 digits)

-- those of an INT that isn't positive
abbrev pub negative_of : List ℕ → Option ℤ
negative_of digits = option_map (λ n. neg_ℤ (pos n)) (natural 10 2147483648 digits)

-- hexadecimal digits, of the 32 bits of an INT
abbrev pub bits_of : List ℕ → Option ℤ
bits_of digits = option_map (λ n. wrap (pos n)) (natural 16 4294967295 digits)

-- The INT that the bytes spell: decimal digits, with `-` before them or not, in the range of INTs; or `0x` and hexadecimal digits
-- of at most 4294967295, of which the INT is the value modulo 2^32.
unfoldable pub int_of : List ℕ → Option ℤ
int_of s =
    if begins_minus s then negative_of (drop 1 s) else (if begins_hexadecimal s then bits_of (drop 2 s) else positive_of s)
