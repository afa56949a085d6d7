-- The classes of bytes that runs are made of.
use Rattle.std.specs.Prelude.{ℕ, Bool}
use Rattle.ci_base.specs.Letters.{is_digit, is_hex_digit, is_name_byte, is_white}
use Rattle.ci_tree.specs.Comments.{is_inline}
use Rattle.ci_tree.specs.Shapes.{is_hash}
use Rattle.ci_lexer.specs.declared.run.Class.{Class}
use Rattle.ci_lexer.specs.declared.run.Class.TheVariants.{White, NameByte, Digit, HexDigit, Hash, Inline}

-- the bytes of a class
abbrev pub passes : Class → ℕ → Bool
passes White = is_white
passes NameByte = is_name_byte
passes Digit = is_digit
passes HexDigit = is_hex_digit
passes Hash = is_hash
passes Inline = is_inline
