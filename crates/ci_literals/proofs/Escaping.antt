-- Escapes at the front.
use Rattle.std.proofs.Common.{◌≡◌, ℕ, ◌+◌, ◌-◌, ◌*◌, ◌<◌, true, false, ◌&&◌, List, [], ◌∷◌, ◌++◌, length, take, drop, get_or, Some, None, sym, ap, ap₂, ◌∙◌, subst, arith, ◌==◌}
use Rattle.std.specs.Char.{digit_value}
use Rattle.std.proofs.lemmas.Bool.{and_parts, and_from, both_ways, true≢false, eqb-true}
use Rattle.std.proofs.lemmas.Bool.Decides.{nat_tests}
use Rattle.std.proofs.lemmas.List.{take_rest}
use Rattle.ci_base.specs.Letters.{is_hex_digit, is_digit, begins, is_line_end}
use Rattle.ci_base.specs.Texts.{IsItem, BeginsItem, is_plain, escape}
use Rattle.ci_base.specs.Texts.IsItem.{plain, escaped, hexadecimal}
use Rattle.ci_literals.specs.Items.{hex_escape}
use Rattle.ci_literals.specs.Items.{stops_text}
use Rattle.ci_literals.proofs.Cuts.{plain_caret}

pub hex_small : (b : ℕ) → is_hex_digit b ≡ true → digit_value b < 16
unfolding is_hex_digit is_digit
hex_small b h = grind (arith, nat_tests)

-- a plain byte at the front
pub plain_at : (s : List ℕ) → (length s == 0) ≡ false → is_plain (get_or s 0 0) ≡ true → (item : List ℕ) × IsItem item (get_or s 0 0) × (s ≡ item ++ take (length s - 1) (drop 1 s))
plain_at [] some is = absurd (true≢false some)
plain_at (b ∷ s) some is = (b ∷ [], plain b is, ap (λ l. b ∷ l) (sym (take_rest (b ∷ s) 1)))

-- neither plain nor a quote nor a caret: the line ends
pub end_at : (s : List ℕ) → (length s == 0) ≡ false → is_plain (get_or s 0 0) ≡ false → (get_or s 0 0 ≡ 34 → ⊥) → (get_or s 0 0 ≡ 94 → ⊥) → stops_text s ≡ true
unfolding is_plain is_line_end
end_at [] some is quote caret = absurd (true≢false some)
end_at (b ∷ s) some is quote caret = grind (arith, nat_tests)

-- an escape of two bytes at the front
pub short_at : (s : List ℕ) (b : ℕ) → begins (λ b. b == 94) s ≡ true → 1 < length s → escape (get_or s 1 0) ≡ Some b → (item : List ℕ) × IsItem item b × (s ≡ item ++ take (length s - 2) (drop 2 s))
short_at [] b caret long is = absurd (true≢false (sym caret))
short_at (c ∷ []) b caret long is = absurd (omega arith)
short_at (c ∷ letter ∷ s) b caret long is =
    (94 ∷ letter ∷ [], escaped letter b is, ap₂ (λ x l. x ∷ letter ∷ l) (eqb-true c 94 caret) (sym (take_rest (c ∷ letter ∷ s) 2)))

-- an escape of five bytes at the front
pub hex_at : (s : List ℕ) → hex_escape s ≡ true → (item : List ℕ) × IsItem item (16 * digit_value (get_or s 3 0) + digit_value (get_or s 4 0)) × (s ≡ item ++ take (length s - 5) (drop 5 s))
hex_at [] is = absurd (true≢false (sym is))
hex_at (c ∷ []) is = absurd (true≢false (sym is))
hex_at (c ∷ z ∷ []) is = absurd (true≢false (sym is))
hex_at (c ∷ z ∷ x ∷ []) is = absurd (true≢false (sym is))
hex_at (c ∷ z ∷ x ∷ high ∷ []) is = absurd (true≢false (sym is))
hex_at (c ∷ z ∷ x ∷ high ∷ low ∷ s) is =
    let lows = and_parts (c == 94 && z == 48 && x == 120 && is_hex_digit high) (is_hex_digit low) is in
    let highs = and_parts (c == 94 && z == 48 && x == 120) (is_hex_digit high) lows.0 in
    let xs = and_parts (c == 94 && z == 48) (x == 120) highs.0 in
    let zs = and_parts (c == 94) (z == 48) xs.0 in
    let three : c ∷ z ∷ x ∷ high ∷ low ∷ s ≡ 94 ∷ 48 ∷ 120 ∷ high ∷ low ∷ s =
    ap (λ y. y ∷ z ∷ x ∷ high ∷ low ∷ s) (eqb-true c 94 zs.0) ∙ ap₂ (λ y w. 94 ∷ y ∷ w ∷ high ∷ low ∷ s) (eqb-true z 48 zs.1) (eqb-true x 120 xs.1) in
    (94 ∷ 48 ∷ 120 ∷ high ∷ low ∷ [], hexadecimal high low highs.1 lows.1, three ∙ ap (λ l. 94 ∷ 48 ∷ 120 ∷ high ∷ low ∷ l) (sym (take_rest (c ∷ z ∷ x ∷ high ∷ low ∷ s) 5)))

-- no item begins with a caret that begins neither
pub no_escape : (s : List ℕ) → begins (λ b. b == 94) s ≡ true → (1 < length s → escape (get_or s 1 0) ≡ None) → hex_escape s ≡ false → BeginsItem s → ⊥
no_escape s caret unlike other (item, rest, b, is, e) = by_item s item rest b is caret unlike other e where
  by_item : (s item rest : List ℕ) (b : ℕ) → IsItem item b → begins (λ b. b == 94) s ≡ true → (1 < length s → escape (get_or s 1 0) ≡ None) → hex_escape s ≡ false → s ≡ item ++ rest → ⊥
  by_item s _ rest _ (plain b h) caret unlike other e =
      let first = eqb-true b 94 (sym (ap (begins (λ b. b == 94)) e) ∙ caret) in
      plain_caret (subst (λ n. is_plain n ≡ true) first h)
  by_item s _ rest _ (escaped letter b h) caret unlike other e =
      let none : escape letter ≡ None = sym (ap (λ l. escape (get_or l 1 0)) e) ∙ unlike (subst (λ l. 1 < length l) (sym e) (omega arith)) in
      cc
  by_item s _ rest _ (hexadecimal high low h k) caret unlike other e =
      both_ways (hex_escape s) other (ap hex_escape e ∙ and_from (is_hex_digit high) (is_hex_digit low) h k)

pub caret_rest : (s : List ℕ) → begins (λ b. b == 94) s ≡ true → (rest : List ℕ) × (s ≡ 94 ∷ rest)
caret_rest [] caret = absurd (true≢false (sym caret))
caret_rest (c ∷ s) caret = (s, ap (λ x. x ∷ s) (eqb-true c 94 caret))

-- an item isn't empty
pub item_shorter : (s item rest : List ℕ) (b : ℕ) → IsItem item b → s ≡ item ++ rest → length rest < length s
item_shorter s _ rest _ (plain b h) e = omega (arith, ap length e)
item_shorter s _ rest _ (escaped letter b h) e = omega (arith, ap length e)
item_shorter s _ rest _ (hexadecimal high low h k) e = omega (arith, ap length e)
