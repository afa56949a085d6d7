-- Items of texts: a text has one cut into items.
use Rattle.std.proofs.Common.{◌≡◌, ℕ, ◌+◌, ◌*◌, ◌<◌, true, false, List, [], ◌∷◌, ◌++◌, length, Some, sym, refl, ap, ap₂, ◌∙◌, subst, inl, inr, ◌⊎◌, arith, append_assoc, append-nil, get_or, drop}
use Rattle.std.specs.Char.{digit_value}
use Rattle.std.proofs.lemmas.Bool.{both_ways, true≢false}
use Rattle.ci_base.specs.Letters.{is_line_end}
use Rattle.ci_base.specs.Texts.{IsItem, AreItems, BeginsItem, is_plain, escape}
use Rattle.std.proofs.lemmas.Bool.Decides.{nat_tests}
use Rattle.ci_literals.specs.Items.{stops_text}
use Rattle.ci_base.specs.Texts.IsItem.{plain, escaped, hexadecimal}
use Rattle.ci_base.specs.Texts.AreItems.{none, more}

-- a plain byte is no caret
pub plain_caret : is_plain 94 ≡ true → ⊥
unfolding is_plain
plain_caret h = true≢false (sym h)

-- a caret with 0 is no escape
pub escape_zero : (b : ℕ) → escape 48 ≡ Some b → ⊥
unfolding escape
escape_zero b h = cc

-- what an item says of the bytes of which it is the front
pub item_front : (item : List ℕ) (b : ℕ) (rest : List ℕ) (other : List ℕ) (c : ℕ) (behind : List ℕ) → IsItem item b → IsItem other c → item ++ rest ≡ other ++ behind → (b ≡ c) × (item ≡ other) × (rest ≡ behind)
item_front _ _ rest _ _ behind (plain b h) (plain c k) e = (ap (λ l. get_or l 0 0) e, cc, ap (λ l. drop 1 l) e)
item_front _ _ rest _ _ behind (plain b h) (escaped letter c k) e =
    let head : b ≡ 94 = ap (λ l. get_or l 0 0) e in
    absurd (plain_caret (subst (λ n. is_plain n ≡ true) head h))
item_front _ _ rest _ _ behind (plain b h) (hexadecimal high low k m) e =
    let head : b ≡ 94 = ap (λ l. get_or l 0 0) e in
    absurd (plain_caret (subst (λ n. is_plain n ≡ true) head h))
item_front _ _ rest _ _ behind (escaped letter b h) (plain c k) e =
    let head : 94 ≡ c = ap (λ l. get_or l 0 0) e in
    absurd (plain_caret (subst (λ n. is_plain n ≡ true) (sym head) k))
item_front _ _ rest _ _ behind (escaped letter b h) (escaped other_letter c k) e =
    let same : letter ≡ other_letter = ap (λ l. get_or l 1 0) e in
    let value : Some b ≡ Some c = sym h ∙ ap escape same ∙ k in
    (cc, ap (λ l. 94 ∷ l ∷ []) same, ap (λ l. drop 2 l) e)
item_front _ _ rest _ _ behind (escaped letter b h) (hexadecimal high low k m) e =
    let zero : letter ≡ 48 = ap (λ l. get_or l 1 0) e in
    absurd (escape_zero b (sym (ap escape zero) ∙ h))
item_front _ _ rest _ _ behind (hexadecimal high low h i) (plain c k) e =
    let head : 94 ≡ c = ap (λ l. get_or l 0 0) e in
    absurd (plain_caret (subst (λ n. is_plain n ≡ true) (sym head) k))
item_front _ _ rest _ _ behind (hexadecimal high low h i) (escaped letter c k) e =
    let zero : 48 ≡ letter = ap (λ l. get_or l 1 0) e in
    absurd (escape_zero c (ap escape zero ∙ k))
item_front _ _ rest _ _ behind (hexadecimal high low h i) (hexadecimal high2 low2 k m) e =
    let same_high : high ≡ high2 = ap (λ l. get_or l 3 0) e in
    let same_low : low ≡ low2 = ap (λ l. get_or l 4 0) e in
    (ap₂ (λ x y. 16 * digit_value x + digit_value y) same_high same_low, ap₂ (λ x y. 94 ∷ 48 ∷ 120 ∷ x ∷ y ∷ []) same_high same_low, ap (λ l. drop 5 l) e)

-- two cuts of one text: the same, or one goes on where the other stops
abbrev pub Compared : List ℕ → List ℕ → List ℕ → List ℕ → Type 0
Compared value rest other behind =
    ((value ≡ other) × (rest ≡ behind))
    ⊎ (((length value < length other) × BeginsItem rest)
    ⊎ ((length other < length value) × BeginsItem behind))

pub compared_more : (b c : ℕ) (value rest other behind : List ℕ) → b ≡ c → Compared value rest other behind → Compared (b ∷ value) rest (c ∷ other) behind
compared_more b c value rest other behind e (inl (same, rests)) = inl (ap₂ (λ x xs. x ∷ xs) e same, rests)
compared_more b c value rest other behind e (inr (inl (shorter, goes_on))) = inr (inl (omega arith, goes_on))
compared_more b c value rest other behind e (inr (inr (longer, goes_on))) = inr (inr (omega arith, goes_on))

pub compare : (items value rest : List ℕ) (others other behind : List ℕ) → AreItems items value → AreItems others other → items ++ rest ≡ others ++ behind → Compared value rest other behind
compare _ _ rest _ _ behind none none e = inl (refl, e)
compare _ _ rest _ _ behind none (more item2 items2 c cs is2 are2) e =
    inr (inl (omega arith, (item2, items2 ++ behind, c, is2, e ∙ append_assoc item2 items2 behind)))
compare _ _ rest _ _ behind (more item1 items1 b bs is1 are1) none e =
    inr (inr (omega arith, (item1, items1 ++ rest, b, is1, sym e ∙ append_assoc item1 items1 rest)))
compare _ _ rest _ _ behind (more item1 items1 b bs is1 are1) (more item2 items2 c cs is2 are2) e =
    let first = item_front item1 b (items1 ++ rest) item2 c (items2 ++ behind) is1 is2 (sym (append_assoc item1 items1 rest) ∙ e ∙ append_assoc item2 items2 behind) in
    compared_more b c bs rest cs behind first.0 (compare items1 bs rest items2 cs behind are1 are2 first.2)

-- one more item behind others
pub items_push : (items value item : List ℕ) (b : ℕ) → AreItems items value → IsItem item b → AreItems (items ++ item) (value ++ b ∷ [])
items_push _ _ item b none is = subst (λ s. AreItems s (b ∷ [])) (append-nil item) (more item [] b [] is none)
items_push _ _ item b (more item1 items1 c cs is1 are1) is =
    subst (λ s. AreItems s (c ∷ cs ++ b ∷ [])) (sym (append_assoc item1 items1 item)) (more item1 (items1 ++ item) c (cs ++ b ∷ []) is1 (items_push items1 cs item b are1 is))

-- no item begins with a byte that is neither plain nor a caret
pub no_item : (n : ℕ) (rest : List ℕ) → is_plain n ≡ false → (n ≡ 94 → ⊥) → BeginsItem (n ∷ rest) → ⊥
no_item n rest refused other (item, behind, b, is, e) = by_item n item behind b rest is refused other e where
  by_item : (n : ℕ) (item behind : List ℕ) (b : ℕ) (rest : List ℕ) → IsItem item b → is_plain n ≡ false → (n ≡ 94 → ⊥) → n ∷ rest ≡ item ++ behind → ⊥
  by_item n _ behind _ rest (plain b h) refused other e =
      both_ways (is_plain n) refused (ap is_plain (ap (λ l. get_or l 0 0) e) ∙ h)
  by_item n _ behind _ rest (escaped letter b h) refused other e = other (ap (λ l. get_or l 0 0) e)
  by_item n _ behind _ rest (hexadecimal high low h k) refused other e = other (ap (λ l. get_or l 0 0) e)

pub no_item_quote : (rest : List ℕ) → BeginsItem (34 ∷ rest) → ⊥
unfolding is_plain
no_item_quote rest begins = no_item 34 rest refl (omega arith) begins

-- an item isn't empty
pub no_item_end : BeginsItem [] → ⊥
no_item_end (item, behind, b, is, e) = by_item item behind b is e where
  by_item : (item behind : List ℕ) (b : ℕ) → IsItem item b → [] ≡ item ++ behind → ⊥
  by_item _ behind _ (plain b h) e = cc
  by_item _ behind _ (escaped letter b h) e = cc
  by_item _ behind _ (hexadecimal high low h k) e = cc

pub no_item_stop : (rest : List ℕ) → stops_text rest ≡ true → BeginsItem rest → ⊥
unfolding is_plain is_line_end
no_item_stop [] stop begins = no_item_end begins
no_item_stop (b ∷ rest) stop begins = no_item b rest (grind (arith, nat_tests)) (λ e. grind (arith, nat_tests)) begins

-- a text of items before a byte with which no item begins is cut in one way
pub one_cut : (items value rest others other behind : List ℕ) → AreItems items value → AreItems others other → items ++ rest ≡ others ++ behind → (BeginsItem rest → ⊥) → (BeginsItem behind → ⊥) → (value ≡ other) × (rest ≡ behind)
one_cut items value rest others other behind are are2 e stop stop2 =
    by_compared (compare items value rest others other behind are are2 e) where
      by_compared : Compared value rest other behind → (value ≡ other) × (rest ≡ behind)
      by_compared (inl same) = same
      by_compared (inr (inl goes_on)) = absurd (stop goes_on.1)
      by_compared (inr (inr goes_on)) = absurd (stop2 goes_on.1)
