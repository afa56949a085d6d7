-- How texts are spelled in output: printable bytes as they are, all others behind a caret.
use Rattle.std.specs.Prelude.{ℕ, ◌+◌, ◌/◌, ◌%◌, ◌&&◌, ◌||◌, nat_le, nat_lt, ◌==◌, List, [], ◌∷◌, codes, if◌then◌else◌}
use Rattle.std.specs.List.{flat_map}

-- the hexadecimal digit of a number below 16, in lower case
abbrev pub small_hex : ℕ → ℕ
small_hex n = if nat_lt n 10 then 48 + n else 87 + n

-- `"` and `^` behind a caret; LF, CR and tab as letters behind one; a printable byte as it is; any other in two hexadecimal digits
unfoldable pub caret_byte : ℕ → List ℕ
caret_byte b =
    if b == 34 || b == 94 then 94 ∷ b ∷ []
    else (if b == 10 then codes "^n"
    else (if b == 13 then codes "^r"
    else (if b == 9 then codes "^t"
    else (if nat_le 32 b && nat_le b 126 then b ∷ []
    else 94 ∷ 48 ∷ 120 ∷ small_hex (b / 16) ∷ small_hex (b % 16) ∷ []))))

-- each byte, one after another
abbrev pub caret : List ℕ → List ℕ
caret text = flat_map caret_byte text
