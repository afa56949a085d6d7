-- How signs are spelled.
use Rattle.std.specs.Prelude.{ℕ, List, codes}
use Rattle.ci_tree.specs.declared.token.Sign.{Sign}
use Rattle.ci_tree.specs.declared.token.Sign.TheVariants.{LeftParen, RightParen, LeftBracket, RightBracket, Comma, Semicolon, Colon, Equal, Unequal, Less, Greater, AtMost, AtLeast, Plus, Minus, Star, Slash}

-- the bytes of a sign
abbrev pub sign_bytes : Sign → List ℕ
sign_bytes LeftParen = codes "("
sign_bytes RightParen = codes ")"
sign_bytes LeftBracket = codes "["
sign_bytes RightBracket = codes "]"
sign_bytes Comma = codes ","
sign_bytes Semicolon = codes ";"
sign_bytes Colon = codes ":"
sign_bytes Equal = codes "="
sign_bytes Unequal = codes "<>"
sign_bytes Less = codes "<"
sign_bytes Greater = codes ">"
sign_bytes AtMost = codes "<="
sign_bytes AtLeast = codes ">="
sign_bytes Plus = codes "+"
sign_bytes Minus = codes "-"
sign_bytes Star = codes "*"
sign_bytes Slash = codes "/"
