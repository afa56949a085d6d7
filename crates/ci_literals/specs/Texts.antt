-- A text at the front of what is read.
use Rattle.std.specs.Borrow.{Bor}
use Rattle.std.specs.Prelude.{◌≡◌, ℕ, zero, suc, ◌+◌, ◌*◌, Bool, ◌&&◌, ◌==◌, List, [], ◌∷◌, drop, Option, Some, None, option_map, if◌then◌else◌}
use Rattle.std.specs.Char.{digit_value}
use Rattle.ci_base.specs.declared.bounds.TheConstants.{MOST_TEXT_BYTES}
use Rattle.ci_base.specs.Letters.{begins, is_hex_digit}
use Rattle.ci_base.specs.Texts.{is_plain, escape}

-- a text without its quotes and escapes, and what stands behind its closing quote
pub record Cut : Type 0 where
  pub text : List ℕ
  pub rest : List ℕ

-- the byte for which the item at the front stands, and what is behind the item
pub record Head : Type 0 where
  pub byte : ℕ
  pub rest : List ℕ

-- the quote stands at the front
abbrev pub begins_quote : List ℕ → Bool
begins_quote s = begins (λ b. b == 34) s

-- behind `^0`: x and two hexadecimal digits
abbrev pub hexadecimal_at : List ℕ → Option Head
hexadecimal_at (x ∷ high ∷ low ∷ s) =
    if x == 120 && is_hex_digit high && is_hex_digit low then Some (record { byte = 16 * digit_value high + digit_value low; rest = s })
    else None
hexadecimal_at _ = None

-- behind a caret
abbrev pub escape_at : List ℕ → Option Head
escape_at [] = None
escape_at (letter ∷ s) = if letter == 48 then hexadecimal_at s else option_map (λ b. record { byte = b; rest = s }) (escape letter)

-- a plain byte, or an escape
abbrev pub item_at : List ℕ → Option Head
item_at [] = None
item_at (b ∷ s) = if is_plain b then Some (record { byte = b; rest = s }) else (if b == 94 then escape_at s else None)

-- one byte more before a text
abbrev pub onto : ℕ → Cut → Cut
onto b cut = record { text = b ∷ cut.text; rest = cut.rest }

-- one item, and then what the reader finds
abbrev pub item_then : (List ℕ → Option Cut) → Option Head → Option Cut
item_then go None = None
item_then go (Some head) = option_map (onto head.byte) (go head.rest)

-- at most n items, and then the closing quote
unfoldable pub items_at : ℕ → List ℕ → Option Cut
items_at zero s = if begins_quote s then Some (record { text = []; rest = drop 1 s }) else None
items_at (suc n) s =
    if begins_quote s then Some (record { text = []; rest = drop 1 s }) else item_then (λ rest. items_at n rest) (item_at s)

-- the text at the front, of at most 255 bytes between its quotes
unfoldable pub text_at : List ℕ → Option Cut
text_at s = if begins_quote s then items_at MOST_TEXT_BYTES (drop 1 s) else None

-- what a reader gives is this cut, or none
abbrev pub IsCut : Option Cut → Option (List ℕ × Bor (List ℕ)) → Type 0
IsCut cut None = cut ≡ None
IsCut cut (Some found) = cut ≡ Some (record { text = found.0; rest = found.1.now })
