-- Signs of one byte and of two.
use Rattle.std.specs.Prelude.{◌≡◌, ℕ, ◌&&◌, List, [], ◌∷◌, ◌++◌, ◌==◌, Option, Some, None, if◌then◌else◌}
use Rattle.ci_tree.specs.declared.token.Sign.{Sign}
use Rattle.ci_tree.specs.declared.token.Sign.TheVariants.{LeftParen, RightParen, LeftBracket, RightBracket, Comma, Semicolon, Colon, Equal, Unequal, Less, Greater, AtMost, AtLeast, Plus, Minus, Star}
use Rattle.ci_tree.specs.Signs.{sign_bytes}

-- the sign of one byte, `/` left out
unfoldable pub single_sign : ℕ → Option Sign
single_sign b =
    if b == 40 then Some LeftParen
    else (if b == 41 then Some RightParen
    else (if b == 91 then Some LeftBracket
    else (if b == 93 then Some RightBracket
    else (if b == 44 then Some Comma
    else (if b == 59 then Some Semicolon
    else (if b == 58 then Some Colon
    else (if b == 61 then Some Equal
    else (if b == 60 then Some Less
    else (if b == 62 then Some Greater
    else (if b == 43 then Some Plus
    else (if b == 45 then Some Minus
    else (if b == 42 then Some Star
    else None))))))))))))

-- the sign of two bytes
unfoldable pub double_sign : ℕ → ℕ → Option Sign
double_sign b c =
    if b == 60 && c == 62 then Some Unequal
    else (if b == 60 && c == 61 then Some AtMost
    else (if b == 62 && c == 61 then Some AtLeast
    else None))

-- the sign of a byte and the first byte behind it
abbrev pub double_at : ℕ → List ℕ → Option Sign
double_at b [] = None
double_at b (c ∷ s) = double_sign b c

-- the sign stands before the rest, and no longer one does
abbrev pub IsSignAt : Sign → List ℕ → List ℕ → Type 0
IsSignAt g s rest =
    (s ≡ sign_bytes g ++ rest)
    × ((other : Sign) (more behind : List ℕ) → rest ≡ more ++ behind → sign_bytes g ++ more ≡ sign_bytes other → more ≡ [])
