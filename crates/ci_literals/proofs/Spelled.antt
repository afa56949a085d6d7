-- What is found at the front is what is spelled there.
use Rattle.std.proofs.Common.{◌≡◌, ℕ, zero, suc, ◌+◌, ◌*◌, ◌≤◌, Bool, true, false, ◌&&◌, cond, List, [], ◌∷◌, ◌++◌, length, drop, Option, Some, None, sym, refl, ap, ap₂, ◌∙◌, subst, inl, inr, ◌⊎◌, arith, append_assoc, ◌==◌}
use Rattle.std.specs.Prelude.{option_map}
use Rattle.std.specs.Char.{digit_value}
use Rattle.std.proofs.lemmas.Bool.{and_parts, and_from, true≢false, eqb-true, false_from_ne_true}
use Rattle.ci_base.specs.Letters.{is_hex_digit, is_line_end}
use Rattle.ci_base.specs.Texts.{IsItem, AreItems, BeginsItem, is_plain, escape}
use Rattle.ci_base.specs.Texts.IsItem.{plain, escaped, hexadecimal}
use Rattle.ci_base.specs.Texts.AreItems.{none, more}
use Rattle.ci_literals.specs.Items.{stops_text}
use Rattle.ci_literals.specs.Laws.{BeginsText, TextIsSpelled}
use Rattle.ci_literals.specs.Texts.{Cut, Head, begins_quote, hexadecimal_at, escape_at, item_at, onto, item_then, items_at, text_at}
use Rattle.std.proofs.lemmas.Bool.Decides.{nat_tests}
use Rattle.ci_literals.proofs.Cuts.{plain_caret, escape_zero, no_item_stop}

-- which branch gave the value
split : {A : Type 0} (t : Bool) (x y z : A) → cond t x y ≡ z → ((t ≡ true) × (x ≡ z)) ⊎ ((t ≡ false) × (y ≡ z))
split true x y z e = inl (refl, e)
split false x y z e = inr (refl, e)

plain_quote : is_plain 34 ≡ true → ⊥
unfolding is_plain
plain_quote h = true≢false (sym h)

-- an item at the front is found
pub item_found : (item rest : List ℕ) (b : ℕ) → IsItem item b → item_at (item ++ rest) ≡ Some (record { byte = b; rest = rest })
item_found _ rest _ (plain b h) = ap (λ t. cond t (Some (record { byte = b; rest = rest })) (cond (b == 94) (escape_at rest) None)) h
item_found _ rest _ (escaped letter b h) =
    let caret : is_plain 94 ≡ false = false_from_ne_true (is_plain 94) plain_caret in
    let other : (letter == 48) ≡ false = false_from_ne_true (letter == 48) (λ e. escape_zero b (sym (ap escape (eqb-true letter 48 e)) ∙ h)) in
    ap (λ t. cond t (Some (record { byte = 94; rest = letter ∷ rest })) (escape_at (letter ∷ rest))) caret
    ∙ ap (λ t. cond t (hexadecimal_at rest) (option_map (λ c. record { byte = c; rest = rest }) (escape letter))) other
    ∙ ap (option_map (λ c. record { byte = c; rest = rest })) h
item_found _ rest _ (hexadecimal high low h k) =
    let caret : is_plain 94 ≡ false = false_from_ne_true (is_plain 94) plain_caret in
    let head : Head = record { byte = 16 * digit_value high + digit_value low; rest = rest } in
    ap (λ t. cond t (Some (record { byte = 94; rest = 48 ∷ 120 ∷ high ∷ low ∷ rest })) (escape_at (48 ∷ 120 ∷ high ∷ low ∷ rest))) caret
    ∙ ap (λ t. cond t (Some head) None) (and_from (is_hex_digit high) (is_hex_digit low) h k)

-- and it is no quote
pub item_unquoted : (item rest : List ℕ) (b : ℕ) → IsItem item b → begins_quote (item ++ rest) ≡ false
item_unquoted _ rest _ (plain b h) =
    false_from_ne_true (b == 34) (λ e. plain_quote (subst (λ n. is_plain n ≡ true) (eqb-true b 34 e) h))
item_unquoted _ rest _ (escaped letter b h) = refl
item_unquoted _ rest _ (hexadecimal high low h k) = refl

-- what is found is an item
abbrev IsFound : List ℕ → Head → Type 0
IsFound s head = (item : List ℕ) × IsItem item head.byte × (s ≡ item ++ head.rest)

hexadecimal_is : (s : List ℕ) (head : Head) → hexadecimal_at s ≡ Some head → IsFound (94 ∷ 48 ∷ s) head
hexadecimal_is [] head e = cc
hexadecimal_is (x ∷ []) head e = cc
hexadecimal_is (x ∷ high ∷ []) head e = cc
hexadecimal_is (x ∷ high ∷ low ∷ s) head e =
    elim (split (x == 120 && is_hex_digit high && is_hex_digit low) _ _ _ e) [
      | inl (holds, same) ↦
          let lows = and_parts (x == 120 && is_hex_digit high) (is_hex_digit low) holds in
          let highs = and_parts (x == 120) (is_hex_digit high) lows.0 in
          let value : 16 * digit_value high + digit_value low ≡ head.byte = cc in
          let rest : s ≡ head.rest = cc in (
            94 ∷ 48 ∷ 120 ∷ high ∷ low ∷ [],
            subst (λ n. IsItem (94 ∷ 48 ∷ 120 ∷ high ∷ low ∷ []) n) value (hexadecimal high low highs.1 lows.1),
            ap₂ (λ y t. 94 ∷ 48 ∷ y ∷ high ∷ low ∷ t) (eqb-true x 120 highs.0) rest,
          )
      | inr (refused, same) ↦ absurd (cc)
    ]

escape_is : (s : List ℕ) (head : Head) → escape_at s ≡ Some head → IsFound (94 ∷ s) head
escape_is [] head e = cc
escape_is (letter ∷ s) head e =
    elim (split (letter == 48) _ _ _ e) [
      | inl (nought, same) ↦
          let found = hexadecimal_is s head same in
          (found.0, found.1, ap (λ l. 94 ∷ l ∷ s) (eqb-true letter 48 nought) ∙ found.2)
      | inr (other, same) ↦ by_letter (escape letter) refl same
    ] where
      by_letter : (o : Option ℕ) → escape letter ≡ o → option_map (λ b. record { byte = b; rest = s }) o ≡ Some head → IsFound (94 ∷ letter ∷ s) head
      by_letter None is e = cc
      by_letter (Some b) is e =
          let value : b ≡ head.byte = cc in
          let rest : s ≡ head.rest = cc in
          (94 ∷ letter ∷ [], subst (λ n. IsItem (94 ∷ letter ∷ []) n) value (escaped letter b is), ap (λ t. 94 ∷ letter ∷ t) rest)

pub item_is : (s : List ℕ) (head : Head) → item_at s ≡ Some head → IsFound s head
item_is [] head e = cc
item_is (b ∷ s) head e =
    elim (split (is_plain b) _ _ _ e) [
      | inl (holds, same) ↦
          let value : b ≡ head.byte = cc in
          let rest : s ≡ head.rest = cc in
          (b ∷ [], subst (λ n. IsItem (b ∷ []) n) value (plain b holds), ap (λ t. b ∷ t) rest)
      | inr (refused, same) ↦
          elim (split (b == 94) _ _ _ same) [
            | inl (caret, found) ↦
                let is = escape_is s head found in
                (is.0, is.1, ap (λ c. c ∷ s) (eqb-true b 94 caret) ∙ is.2)
            | inr (other, nothing) ↦ absurd (cc)
          ]
    ]

-- where none begins, none is found
pub none_found : (s : List ℕ) → (BeginsItem s → ⊥) → item_at s ≡ None
none_found s lacks = by_head (item_at s) refl where
  by_head : (o : Option Head) → item_at s ≡ o → o ≡ None
  by_head None is = refl
  by_head (Some head) is = let found = item_is s head is in absurd (lacks (found.0, head.rest, head.byte, found.1, found.2))

-- one item more
step : (n : ℕ) (item rest : List ℕ) (b : ℕ) → IsItem item b → items_at (suc n) (item ++ rest) ≡ option_map (onto b) (items_at n rest)
unfolding items_at
step n item rest b is =
    ap (λ t. cond t (Some (record { text = []; rest = drop 1 (item ++ rest) })) (item_then (λ l. items_at n l) (item_at (item ++ rest)))) (item_unquoted item rest b is)
    ∙ ap (item_then (λ l. items_at n l)) (item_found item rest b is)

closing : (n : ℕ) (rest : List ℕ) → items_at n (34 ∷ rest) ≡ Some (record { text = []; rest = rest })
unfolding items_at
closing zero rest = refl
closing (suc n) rest = refl

-- nothing is found where neither a quote nor an item stands
blocked : (n : ℕ) (rest : List ℕ) → begins_quote rest ≡ false → item_at rest ≡ None → items_at n rest ≡ None
unfolding items_at
blocked zero rest bare stop = ap (λ t. cond t (Some (record { text = []; rest = drop 1 rest })) None) bare
blocked (suc n) rest bare stop =
    ap (λ t. cond t (Some (record { text = []; rest = drop 1 rest })) (item_then (λ l. items_at n l) (item_at rest))) bare
    ∙ ap (item_then (λ l. items_at n l)) stop

pub closed_found : (n : ℕ) (items value rest : List ℕ) → AreItems items value → length value ≤ n → items_at n (items ++ 34 ∷ rest) ≡ Some (record { text = value; rest = rest })
closed_found n _ _ rest none short = closing n rest
closed_found zero _ _ rest (more item items b bs is are) short = absurd (omega arith)
closed_found (suc n) _ _ rest (more item items b bs is are) short =
    ap (items_at (suc n)) (append_assoc item items (34 ∷ rest))
    ∙ step n item (items ++ 34 ∷ rest) b is
    ∙ ap (option_map (onto b)) (closed_found n items bs rest are (omega arith))

pub open_found : (n : ℕ) (items value rest : List ℕ) → AreItems items value → length value ≤ n → begins_quote rest ≡ false → item_at rest ≡ None → items_at n (items ++ rest) ≡ None
open_found n _ _ rest none short bare stop = blocked n rest bare stop
open_found zero _ _ rest (more item items b bs is are) short bare stop = absurd (omega arith)
open_found (suc n) _ _ rest (more item items b bs is are) short bare stop =
    ap (items_at (suc n)) (append_assoc item items rest)
    ∙ step n item (items ++ rest) b is
    ∙ ap (option_map (onto b)) (open_found n items bs rest are (omega arith) bare stop)

pub long_found : (n : ℕ) (items value rest : List ℕ) → AreItems items value → length value ≡ suc n → items_at n (items ++ rest) ≡ None
unfolding items_at
long_found n _ _ rest none long = absurd (omega arith)
long_found zero _ _ rest (more item items b bs is are) long =
    ap (items_at zero) (append_assoc item items rest)
    ∙ ap (λ t. cond t (Some (record { text = []; rest = drop 1 (item ++ (items ++ rest)) })) None) (item_unquoted item (items ++ rest) b is)
long_found (suc n) _ _ rest (more item items b bs is are) long =
    ap (items_at (suc n)) (append_assoc item items rest)
    ∙ step n item (items ++ rest) b is
    ∙ ap (option_map (onto b)) (long_found n items bs rest are (omega arith))

quote_front : (s : List ℕ) → begins_quote s ≡ true → s ≡ 34 ∷ drop 1 s
quote_front [] h = absurd (true≢false (sym h))
quote_front (b ∷ s) h = ap (λ c. c ∷ s) (eqb-true b 34 h)

-- items for at most n bytes, and a closing quote
abbrev AreClosed : ℕ → List ℕ → Cut → Type 0
AreClosed n s cut = (items : List ℕ) × AreItems items cut.text × (length cut.text ≤ n) × (s ≡ items ++ 34 ∷ cut.rest)

closed_here : (n : ℕ) (s : List ℕ) (cut : Cut) → begins_quote s ≡ true → Some (record { text = []; rest = drop 1 s }) ≡ Some cut → AreClosed n s cut
closed_here n s cut quote e =
    let is : record { text = []; rest = drop 1 s } ≡ cut = cc in
    subst (AreClosed n s) is ([], none, omega arith, quote_front s quote)

closed_more : (n : ℕ) (s : List ℕ) (head : Head) (inner : Cut) → IsFound s head → AreClosed n head.rest inner → AreClosed (suc n) s (onto head.byte inner)
closed_more n s head inner item rest = (
  item.0 ++ rest.0,
  more item.0 rest.0 head.byte inner.text item.1 rest.1,
  omega (arith, rest.2),
  item.2 ∙ ap (λ l. item.0 ++ l) rest.3 ∙ sym (append_assoc item.0 rest.0 (34 ∷ inner.rest)),
)

closed_behind : (n : ℕ) (s : List ℕ) (cut : Cut) (o : Option Head) → ((head : Head) (inner : Cut) → items_at n head.rest ≡ Some inner → AreClosed n head.rest inner)
    → item_at s ≡ o → item_then (λ rest. items_at n rest) o ≡ Some cut → AreClosed (suc n) s cut
closed_behind n s cut None rest is same = absurd (cc)
closed_behind n s cut (Some head) rest is same = by_cut (items_at n head.rest) refl same where
  by_cut : (o : Option Cut) → items_at n head.rest ≡ o → option_map (onto head.byte) o ≡ Some cut → AreClosed (suc n) s cut
  by_cut None found same = absurd (cc)
  by_cut (Some inner) found same =
      let whole : onto head.byte inner ≡ cut = cc in
      subst (AreClosed (suc n) s) whole (closed_more n s head inner (item_is s head is) (rest head inner found))

closed_is : (n : ℕ) (s : List ℕ) (cut : Cut) → items_at n s ≡ Some cut → AreClosed n s cut
unfolding items_at
closed_is zero s cut e =
    elim (split (begins_quote s) _ _ _ e) [ inl (quote, same) ↦ closed_here zero s cut quote same | inr (bare, same) ↦ absurd (cc) ]
closed_is (suc n) s cut e =
    elim (split (begins_quote s) _ _ _ e) [
      | inl (quote, same) ↦ closed_here (suc n) s cut quote same
      | inr (bare, same) ↦ closed_behind n s cut (item_at s) (λ head inner found. closed_is n head.rest inner found) refl same
    ]

text_is : (s text rest : List ℕ) → text_at s ≡ Some (record { text = text; rest = rest }) → BeginsText s text rest
unfolding text_at
text_is s text rest e =
    elim (split (begins_quote s) _ _ _ e) [
      | inl (quote, found) ↦
          let is = closed_is 255 (drop 1 s) (record { text = text; rest = rest }) found in
          (34 ∷ is.0 ++ 34 ∷ [], (is.0, is.1, refl), is.2, quote_front s quote ∙ ap (λ l. 34 ∷ l) (is.3 ∙ sym (append_assoc is.0 (34 ∷ []) rest)))
      | inr (bare, nothing) ↦ absurd (cc)
    ]

pub text_found : (body items text rest : List ℕ) → AreItems items text → length text ≤ 255 → body ≡ items ++ 34 ∷ rest → text_at (34 ∷ body) ≡ Some (record { text = text; rest = rest })
unfolding text_at
text_found body items text rest are short e = ap (items_at 255) e ∙ closed_found 255 items text rest are short

is_text : (s text rest : List ℕ) → BeginsText s text rest → text_at s ≡ Some (record { text = text; rest = rest })
is_text s text rest (spelled, (items, are, quoted), short, e) =
    let body : s ≡ 34 ∷ items ++ 34 ∷ rest = e ∙ ap (λ l. l ++ rest) quoted ∙ ap (λ l. 34 ∷ l) (append_assoc items (34 ∷ []) rest) in
    ap text_at body ∙ text_found (items ++ 34 ∷ rest) items text rest are short refl

pub text_law : TextIsSpelled
text_law s text rest = (text_is s text rest, is_text s text rest)

-- what has no closing quote has no text
pub escape_stops : (body items text rest : List ℕ) → AreItems items text → length text ≤ 255 → body ≡ items ++ 94 ∷ rest → (BeginsItem (94 ∷ rest) → ⊥) → text_at (34 ∷ body) ≡ None
unfolding text_at
escape_stops body items text rest are short e lacks =
    ap (items_at 255) e ∙ open_found 255 items text (94 ∷ rest) are short refl (none_found (94 ∷ rest) lacks)

pub length_stops : (body items text rest : List ℕ) → AreItems items text → length text ≡ 256 → body ≡ items ++ rest → text_at (34 ∷ body) ≡ None
unfolding text_at
length_stops body items text rest are long e = ap (items_at 255) e ∙ long_found 255 items text rest are long

line_unquoted : (s : List ℕ) → stops_text s ≡ true → begins_quote s ≡ false
unfolding is_line_end
line_unquoted [] stop = refl
line_unquoted (b ∷ s) stop = grind (arith, nat_tests)

pub line_stops : (body items text rest : List ℕ) → AreItems items text → length text ≤ 255 → body ≡ items ++ rest → stops_text rest ≡ true → text_at (34 ∷ body) ≡ None
unfolding text_at
line_stops body items text rest are short e stop =
    ap (items_at 255) e ∙ open_found 255 items text rest are short (line_unquoted rest stop) (none_found rest (no_item_stop rest stop))

pub unquoted : (s : List ℕ) → begins_quote s ≡ false → text_at s ≡ None
unfolding text_at
unquoted s bare = ap (λ t. cond t (items_at 255 (drop 1 s)) None) bare
