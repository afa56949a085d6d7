-- What the operators on texts give, and the functions on them.
use Rattle.std.specs.Prelude.{ℕ, ◌+◌, ◌-◌, ℤ, pos, negsuc, unsigned_abs, Bool, ◌&&◌, ◌||◌, nat_le, ◌==◌, List, [], ◌∷◌, ◌++◌, length, take, drop, replicate, map, slice_index, find, Option, Some, None, Ok, Err, if◌then◌else◌}
use Rattle.std.specs.Int.{int_rem_euclid}
use Rattle.std.specs.List.{range_with_len, repeat, prefix_len, suffix_len}
use Rattle.std.specs.Char.{to_ascii_uppercase, to_ascii_lowercase}
use Rattle.std.specs.Fmt.{signed_decimal}
use Rattle.std.specs.Str.{bytes_eq}
use Rattle.std.specs.Str.Parse.{without_leading_sign, signed_digits_value}
use Rattle.ci_base.specs.declared.value.Value.TheVariants.{Int, Str}
use Rattle.ci_base.specs.declared.bounds.TheConstants.{MOST_TEXT_BYTES}
use Rattle.ci_base.specs.declared.errors.TheConstants.{TEXT_TOO_LONG, NOT_A_NUMBER}
use Rattle.ci_base.specs.Numbers.{is_decimal}
use Rattle.ci_base.specs.Values.{Outcome}

-- the text, or the error where it is longer than a text may be
abbrev pub bounded : List ℕ → Outcome
bounded s = if nat_le (length s) MOST_TEXT_BYTES then Ok (Str s) else Err TEXT_TOO_LONG

-- one text and then the other
abbrev pub joined : List ℕ → List ℕ → Outcome
joined a b = bounded (a ++ b)

-- how many bytes an INT asks for: none where it is negative
abbrev pub count_of : ℤ → ℕ
count_of (pos n) = n
count_of (negsuc n) = 0

-- the first n bytes, or all
abbrev pub left : List ℕ → ℤ → List ℕ
left s n = take (count_of n) s

-- the last n bytes, or all
abbrev pub right : List ℕ → ℤ → List ℕ
right s n = drop (length s - count_of n) s

-- the m bytes from offset n on, or as many as there are
abbrev pub mid : List ℕ → ℤ → ℤ → List ℕ
mid s (pos n) m = take (count_of m) (drop n s)
mid s (negsuc n) m = []

-- the byte at offset n, or 0 where there is none
abbrev pub byte_at : List ℕ → ℤ → ℤ
byte_at s (pos n) = pos (slice_index s n)
byte_at s (negsuc n) = pos 0

-- the pattern stands in the text at the offset: it ends within the text, and the bytes there are its own
abbrev pub stands_at : List ℕ → List ℕ → ℕ → Bool
stands_at s pattern offset =
    nat_le (offset + length pattern) (length s) && bytes_eq (take (length pattern) (drop offset s)) pattern

-- an offset, or -1 for none
abbrev pub offset_or_none : Option ℕ → ℤ
offset_or_none (Some offset) = pos offset
offset_or_none None = negsuc 0

-- the first of the offsets from n to the length at which the pattern stands
abbrev pub search : ℤ → List ℕ → List ℕ → ℤ
search (pos n) s pattern = offset_or_none (find (stands_at s pattern) (range_with_len n (length s + 1 - n)))
search (negsuc n) s pattern = offset_or_none None

-- each letter as a capital, or as a small one; ASCII letters alone
abbrev pub upper : List ℕ → List ℕ
upper s = map to_ascii_uppercase s

abbrev pub lower : List ℕ → List ℕ
lower s = map to_ascii_lowercase s

-- the text without what passes the test at its front and at its end
abbrev pub trimmed : (ℕ → Bool) → List ℕ → List ℕ
trimmed test s =
    let behind = drop (prefix_len test s) s in
    take (length behind - suffix_len test behind) behind

-- a space
abbrev pub is_space : ℕ → Bool
is_space b = b == 32

-- a space or a tab
abbrev pub is_blank : ℕ → Bool
is_blank b = b == 32 || b == 9

-- copies of the text one after another, n bytes of them; of the empty text there are none
abbrev pub filled : List ℕ → ℤ → Outcome
filled [] n = Ok (Str [])
filled s n =
    if nat_le (count_of n) MOST_TEXT_BYTES then Ok (Str (take (count_of n) (repeat (count_of n) s)))
    else Err TEXT_TOO_LONG

-- an INT
abbrev pub is_int : ℤ → Bool
is_int (pos n) = nat_le n 2147483647
is_int (negsuc n) = nat_le n 2147483647

-- the INT that the text spells: digits, leading zeros among them, with `-` or `+` or nothing before them
abbrev pub spelled_int : List ℕ → Outcome
spelled_int s =
    if is_decimal (without_leading_sign s) && is_int (signed_digits_value 10 s) then Ok (Int (signed_digits_value 10 s))
    else Err NOT_A_NUMBER

-- the INT that the text spells, with spaces at both ends or not
abbrev pub number_in : List ℕ → Outcome
number_in s = spelled_int (trimmed is_space s)

-- the byte that n is modulo 256
abbrev pub one_byte : ℤ → List ℕ
one_byte n = unsigned_abs (int_rem_euclid n (pos 256)) ∷ []

-- decimal digits, `-` before them where the number is negative, and spaces before that up to the width
abbrev pub padded : ℤ → ℕ → List ℕ
padded n width = replicate (width - length (signed_decimal n)) 32 ++ signed_decimal n

-- a number with so many hashes
abbrev pub formatted : ℤ → ℕ → Outcome
formatted n hashes = bounded (padded n hashes)
