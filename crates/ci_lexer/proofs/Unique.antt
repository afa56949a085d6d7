-- Each source is read in one way.
use Rattle.std.proofs.Common.{◌≡◌, ℕ, ◌+◌, ◌-◌, ◌<◌, ◌≤◌, Bool, true, false, cond, ◌&&◌, List, [], ◌∷◌, ◌++◌, length, get_or, drop, Option, Some, None, unwrap_or, sym, refl, ap, ap₂, ◌∙◌, subst, arith, append-nil, append_assoc, length-append, inl, inr, ◌⊎◌, ⊎_elim, pos, ℤ, true≢false, eqb, leb, ◌==◌}
use Rattle.std.specs.List.{list_all}
use Rattle.std.proofs.lemmas.Bool.{and_parts, and_from, le-leb, lt-leb, eq-eqb, ne_eqb, cases_lt}
use Rattle.ci_base.specs.Letters.{is_letter, is_name_byte, is_run, begins, is_line_end, is_white, is_digit, is_capital, is_small}
use Rattle.ci_base.specs.Names.{is_name}
use Rattle.ci_base.specs.Numbers.{is_number, number_value, number_limit, wrap}
use Rattle.ci_base.specs.Texts.{AreItems, BeginsItem}
use Rattle.ci_tree.specs.declared.token.Token.{Token}
use Rattle.ci_tree.specs.declared.token.TokenKind.{TokenKind}
use Rattle.ci_tree.specs.declared.token.TokenKind.TheVariants as kinds
use Rattle.ci_tree.specs.declared.token.Sign.{Sign}
use Rattle.ci_tree.specs.declared.token.Sign.TheVariants as signs
use Rattle.ci_tree.specs.Comments.{IsBlank, IsOpenComment, has_close}
use Rattle.std.proofs.lemmas.Bool.Decides.{nat_tests}
use Rattle.ci_base.specs.Texts.AreItems.{none as no_items}
use Rattle.ci_tree.specs.Tokens.Reads.{here as no_more, blank as blank_first, token as token_first}
use Rattle.ci_lexer.specs.Faults.FaultAt.{stray, run_on, number_too_large, name_too_long, too_many_hashes, open_comment, bad_escape, text_too_long, open_string}
use Rattle.ci_tree.specs.Comments.IsBlank.{white, marked, slashed, enclosed}
use Rattle.ci_tree.specs.Shapes.{Shape, IsWhole, is_hash}
use Rattle.ci_tree.specs.Shapes.Shape.{text}
use Rattle.ci_tree.specs.Signs.{sign_bytes}
use Rattle.ci_tree.specs.Tokens.{BlankAt, TokenAt, Reads, Spells}
use Rattle.ci_tree.specs.Words.{reserved}
use Rattle.ci_lexer.specs.declared.fault.LexFault.{LexFault}
use Rattle.ci_lexer.specs.declared.fault.LexFault.TheVariants as faults
use Rattle.ci_lexer.specs.declared.lead.Lead.{Lead}
use Rattle.ci_lexer.specs.declared.lead.Lead.TheVariants.{Letter, Digit, White, Quote, Hash, Mark, Slash, Other}
use Rattle.ci_lexer.specs.Faults.{FaultAt}
use Rattle.ci_literals.specs.Items.{stops_text}
use Rattle.ci_lexer.specs.Signs.{single_sign, double_sign}
use Rattle.ci_lexer.specs.Leads.{lead}
use Rattle.ci_literals.proofs.Cuts.{Compared, compare, no_item_quote, no_item_stop}
use Rattle.ci_lexer.proofs.Leading.{lead-letter, lead-white, lead-hash, lead-quote, lead-mark, lead-slash, number_lead}
use Rattle.ci_lexer.proofs.Reading.{shape_some}
use Rattle.ci_lexer.proofs.Wholes.{has_close-append, opened_whole}
use Rattle.ci_lexer.proofs.Words.{none_long}

-- of two fronts of one list, one goes on where the other ends
abbrev OneFront : List ℕ → List ℕ → List ℕ → List ℕ → Type 0
OneFront s rest t behind =
    ((more : List ℕ) × (t ≡ s ++ more) × (rest ≡ more ++ behind))
    ⊎ ((more : List ℕ) × (s ≡ t ++ more) × (behind ≡ more ++ rest))

front_more : (b c : ℕ) (s rest t behind : List ℕ) → b ≡ c → OneFront s rest t behind → OneFront (b ∷ s) rest (c ∷ t) behind
front_more b c s rest t behind same (inl (more, e, f)) = inl (more, ap₂ (λ x xs. x ∷ xs) (sym same) e, f)
front_more b c s rest t behind same (inr (more, e, f)) = inr (more, ap₂ (λ x xs. x ∷ xs) same e, f)

one_front : (s rest t behind : List ℕ) → s ++ rest ≡ t ++ behind → OneFront s rest t behind
one_front [] rest t behind e = inl (t, refl, e)
one_front (b ∷ s) rest [] behind e = inr (b ∷ s, refl, sym e)
one_front (b ∷ s) rest (c ∷ t) behind e =
    front_more b c s rest t behind (ap (λ l. get_or l 0 0) e) (one_front s rest t behind (ap (λ l. drop 1 l) e))

-- a list has one longest front
pub one_whole : (s rest t behind : List ℕ) → IsWhole s rest → IsWhole t behind → s ++ rest ≡ t ++ behind → (s ≡ t) × (rest ≡ behind)
one_whole s rest t behind first second e = by_front (one_front s rest t behind e) where
  by_front : OneFront s rest t behind → (s ≡ t) × (rest ≡ behind)
  by_front (inl (more, f, g)) =
      let none = first.longest more behind g (subst Shape f second.one) in
      (sym (f ∙ ap (λ l. s ++ l) none ∙ append-nil s), g ∙ ap (λ l. l ++ behind) none)
  by_front (inr (more, f, g)) =
      let none = second.longest more rest g (subst Shape f first.one) in
      (f ∙ ap (λ l. t ++ l) none ∙ append-nil t, sym (g ∙ ap (λ l. l ++ rest) none))

-- what a shape other than a text is
data What : Type 0 where
  is_blank : What
  is_token : TokenKind → What
  is_large : What
  is_long : What
  is_many : What
  is_open : What

abbrev slash_what : List ℕ → What
slash_what [] = is_token (kinds.Sign signs.Slash)
slash_what (c ∷ s) = cond (c == 47) is_blank (cond (has_close s) is_blank is_open)

abbrev sign_of : ℕ → List ℕ → Sign
sign_of b [] = unwrap_or (single_sign b) signs.Slash
sign_of b (c ∷ s) = unwrap_or (double_sign b c) signs.Slash

abbrev what_by : Lead → ℕ → List ℕ → What
what_by Letter b s =
    cond (leb (length (b ∷ s)) 64) (is_token (unwrap_or (reserved (b ∷ s)) (kinds.Name (b ∷ s)))) is_long
what_by Digit b s =
    cond (leb (number_value (b ∷ s)) (number_limit (b ∷ s))) (is_token (kinds.Number (wrap (pos (number_value (b ∷ s)))))) is_large
what_by White b s = is_blank
what_by Quote b s = is_blank
what_by Hash b s = cond (leb (length (b ∷ s)) 255) (is_token (kinds.Hashes (length (b ∷ s)))) is_many
what_by Mark b s = is_blank
what_by Slash b s = slash_what s
what_by Other b s = is_token (kinds.Sign (sign_of b s))

-- the first byte's lead is this one, and this is what the shape is
abbrev Gives : Lead → What → List ℕ → Type 0
Gives kind what [] = ⊥
Gives kind what (b ∷ s) = (lead b ≡ kind) × (what_by kind b s ≡ what)

-- the same at any lead but that of a text
abbrev IsSo : What → List ℕ → Type 0
IsSo what s = (kind : Lead) × (Quote ≡ kind → ⊥) × Gives kind what s

one_what : (s : List ℕ) (what other : What) → IsSo what s → IsSo other s → what ≡ other
one_what [] what other (kind, unlike, is) is2 = absurd is
one_what (b ∷ s) what other (kind, unlike, is) (kind2, unlike2, is2) =
    let same : kind ≡ kind2 = sym is.0 ∙ is2.0 in
    sym is.1 ∙ ap (λ k. what_by k b s) same ∙ is2.1

-- names and keywords
name_so : (s : List ℕ) (k : TokenKind) → is_name s ≡ true → length s ≤ 64 → unwrap_or (reserved s) (kinds.Name s) ≡ k → IsSo (is_token k) s
name_so [] k is short e = absurd (true≢false (sym is))
name_so (b ∷ s) k is short e = (
  Letter,
  λ h. cc,
  (
    lead-letter b (and_parts (is_letter b) (list_all is_name_byte (b ∷ s)) is).0,
    ap (λ t. cond t (is_token (unwrap_or (reserved (b ∷ s)) (kinds.Name (b ∷ s)))) is_long) (le-leb (length (b ∷ s)) 64 short) ∙ ap is_token e,
  ),
)

long_so : (s : List ℕ) → is_name s ≡ true → 64 < length s → IsSo is_long s
long_so [] is long = absurd (true≢false (sym is))
long_so (b ∷ s) is long = (
  Letter,
  λ h. cc,
  (
    lead-letter b (and_parts (is_letter b) (list_all is_name_byte (b ∷ s)) is).0,
    ap (λ t. cond t (is_token (unwrap_or (reserved (b ∷ s)) (kinds.Name (b ∷ s)))) is_long) (lt-leb (length (b ∷ s)) 64 long),
  ),
)

-- a keyword is short
word_short : (s : List ℕ) (k : TokenKind) → reserved s ≡ Some k → length s ≤ 64
word_short s k e = ⊎_elim (λ long. let none = none_long s long in absurd cc) (λ h. omega arith) (cases_lt 9 (length s))

number_so : (s : List ℕ) → is_number s ≡ true → number_value s ≤ number_limit s → IsSo (is_token (kinds.Number (wrap (pos (number_value s))))) s
number_so [] is fits = absurd (true≢false (sym is))
number_so (b ∷ s) is fits = (
  Digit,
  λ h. cc,
  (
    number_lead b s is,
    ap (λ t. cond t (is_token (kinds.Number (wrap (pos (number_value (b ∷ s)))))) is_large) (le-leb (number_value (b ∷ s)) (number_limit (b ∷ s)) fits),
  ),
)

large_so : (s : List ℕ) → is_number s ≡ true → number_limit s < number_value s → IsSo is_large s
large_so [] is large = absurd (true≢false (sym is))
large_so (b ∷ s) is large = (
  Digit,
  λ h. cc,
  (
    number_lead b s is,
    ap (λ t. cond t (is_token (kinds.Number (wrap (pos (number_value (b ∷ s)))))) is_large) (lt-leb (number_value (b ∷ s)) (number_limit (b ∷ s)) large),
  ),
)

hashes_so : (s : List ℕ) → is_run is_hash s ≡ true → length s ≤ 255 → IsSo (is_token (kinds.Hashes (length s))) s
hashes_so [] is short = absurd (true≢false (sym is))
hashes_so (b ∷ s) is short = (
  Hash,
  λ h. cc,
  (
    lead-hash b (and_parts (is_hash b) (list_all is_hash (b ∷ s)) is).0,
    ap (λ t. cond t (is_token (kinds.Hashes (length (b ∷ s)))) is_many) (le-leb (length (b ∷ s)) 255 short),
  ),
)

many_so : (s : List ℕ) → is_run is_hash s ≡ true → 255 < length s → IsSo is_many s
many_so [] is long = absurd (true≢false (sym is))
many_so (b ∷ s) is long = (
  Hash,
  λ h. cc,
  (
    lead-hash b (and_parts (is_hash b) (list_all is_hash (b ∷ s)) is).0,
    ap (λ t. cond t (is_token (kinds.Hashes (length (b ∷ s)))) is_many) (lt-leb (length (b ∷ s)) 255 long),
  ),
)

sign_so : (g : Sign) → IsSo (is_token (kinds.Sign g)) (sign_bytes g)
unfolding lead is_white is_digit is_letter is_capital is_small single_sign double_sign
sign_so signs.LeftParen = (Other, λ k. cc, (refl, refl))
sign_so signs.RightParen = (Other, λ k. cc, (refl, refl))
sign_so signs.LeftBracket = (Other, λ k. cc, (refl, refl))
sign_so signs.RightBracket = (Other, λ k. cc, (refl, refl))
sign_so signs.Comma = (Other, λ k. cc, (refl, refl))
sign_so signs.Semicolon = (Other, λ k. cc, (refl, refl))
sign_so signs.Colon = (Other, λ k. cc, (refl, refl))
sign_so signs.Equal = (Other, λ k. cc, (refl, refl))
sign_so signs.Unequal = (Other, λ k. cc, (refl, refl))
sign_so signs.Less = (Other, λ k. cc, (refl, refl))
sign_so signs.Greater = (Other, λ k. cc, (refl, refl))
sign_so signs.AtMost = (Other, λ k. cc, (refl, refl))
sign_so signs.AtLeast = (Other, λ k. cc, (refl, refl))
sign_so signs.Plus = (Other, λ k. cc, (refl, refl))
sign_so signs.Minus = (Other, λ k. cc, (refl, refl))
sign_so signs.Star = (Other, λ k. cc, (refl, refl))
sign_so signs.Slash = (Slash, λ k. cc, (refl, refl))

blank_so : (s : List ℕ) → IsBlank s → IsSo is_blank s
blank_so _ (white [] h) = absurd (true≢false (sym h))
blank_so _ (white (b ∷ s) h) = (White, λ k. cc, (lead-white b (and_parts (is_white b) (list_all is_white (b ∷ s)) h).0, refl))
blank_so _ (marked body h) = (Mark, λ k. cc, (lead-mark, refl))
blank_so _ (slashed body h) = (Slash, λ k. cc, (lead-slash, refl))
blank_so _ (enclosed body h) = (Slash, λ k. cc, (lead-slash, ap (λ t. cond t is_blank is_open) (has_close-append body [])))

open_so : (s : List ℕ) → IsOpenComment s → IsSo is_open s
open_so s (body, e, none) =
    subst (IsSo is_open) (sym e) (Slash, λ k. cc, (lead-slash, ap (λ t. cond t is_blank is_open) none))

-- a token that is no text
spells_so : (k : TokenKind) (s : List ℕ) → Spells k s → ((value : List ℕ) → k ≡ kinds.Text value → ⊥) → IsSo (is_token k) s
spells_so (kinds.Name bytes) s is other =
    subst (λ l. IsSo (is_token (kinds.Name l)) s) (sym is.0) (name_so s (kinds.Name s) is.1 is.3 (ap (λ o. unwrap_or o (kinds.Name s)) is.2))
spells_so (kinds.Keyword word) s is other =
    name_so s (kinds.Keyword word) is.0 (word_short s (kinds.Keyword word) is.1) (ap (λ o. unwrap_or o (kinds.Name s)) is.1)
spells_so (kinds.Number value) s (inl is) other =
    name_so s (kinds.Number value) is.0 (word_short s (kinds.Number value) is.1) (ap (λ o. unwrap_or o (kinds.Name s)) is.1)
spells_so (kinds.Number value) s (inr is) other =
    subst (λ z. IsSo (is_token (kinds.Number z)) s) (sym is.2) (number_so s is.0 is.1)
spells_so (kinds.Text value) s is other = absurd (other value refl)
spells_so (kinds.Hashes count) s is other = subst (λ n. IsSo (is_token (kinds.Hashes n)) s) (sym is.1) (hashes_so s is.0 is.2)
spells_so (kinds.Sign g) s is other = subst (IsSo (is_token (kinds.Sign g))) (sym is) (sign_so g)

-- what comes of the rest of a source
data Outcome : Type 0 where
  blank_to : List ℕ → Outcome
  token_to : TokenKind → List ℕ → Outcome
  refused : LexFault → Outcome

-- by a shape other than a text
abbrev outcome_of : ℕ → List ℕ → What → List ℕ → List ℕ → Outcome
outcome_of size s is_blank spelled rest = blank_to rest
outcome_of size s (is_token k) spelled rest =
    cond (is_number spelled && begins is_letter rest) (refused (faults.StrayByte (size - length rest))) (token_to k rest)
outcome_of size s is_large spelled rest = refused (faults.NumberTooLarge (size - length s))
outcome_of size s is_long spelled rest = refused (faults.NameTooLong (size - length s))
outcome_of size s is_many spelled rest = refused (faults.TextTooLong (size - length s))
outcome_of size s is_open spelled rest = refused (faults.OpenComment (size - length s))

-- by what stands in a text behind its items
abbrev text_outcome : ℕ → List ℕ → List ℕ → List ℕ → Outcome
text_outcome at value s [] = cond (eqb (length value) 256) (refused (faults.TextTooLong at)) (refused (faults.OpenString at))
text_outcome at value s (c ∷ rest) =
    cond (eqb (length value) 256) (refused (faults.TextTooLong at))
    (cond (c == 34) (token_to (kinds.Text value) rest)
    (cond (c == 94) (refused (faults.BadEscape at)) (refused (faults.OpenString at))))

-- items for 256 bytes, or all that there are, for less
abbrev Stops : List ℕ → List ℕ → Type 0
Stops value rest = (length value ≡ 256) ⊎ ((length value ≤ 255) × (BeginsItem rest → ⊥))

-- why something comes of it
data Comes (size : ℕ) (s : List ℕ) : Outcome → Type 0 where
  by_shape : (what : What) (spelled rest : List ℕ) → s ≡ spelled ++ rest → IsWhole spelled rest → IsSo what spelled → Comes size s (outcome_of size s what spelled rest)
  by_text : (items value rest : List ℕ) → s ≡ 34 ∷ items ++ rest → AreItems items value → Stops value rest → Comes size s (text_outcome (size - length s) value s rest)
  by_stray : (b : ℕ) (rest : List ℕ) → s ≡ b ∷ rest → ((more : List ℕ) → Shape (b ∷ more) → ⊥) → Comes size s (refused (faults.StrayByte (size - length s)))

-- a text begins with a quote, and so nothing else does
so_quote : (what : What) (spelled rest tail : List ℕ) → IsSo what spelled → spelled ++ rest ≡ 34 ∷ tail → ⊥
so_quote what [] rest tail (kind, unlike, is) e = is
so_quote what (b ∷ s) rest tail (kind, unlike, is) e =
    unlike (sym lead-quote ∙ ap lead (sym (ap (λ l. get_or l 0 0) e)) ∙ is.0)

-- a shape begins with its first byte
shape_stray : (spelled rest : List ℕ) (b : ℕ) (tail : List ℕ) → Shape spelled → spelled ++ rest ≡ b ∷ tail → ((more : List ℕ) → Shape (b ∷ more) → ⊥) → ⊥
shape_stray [] rest b tail shape e none = let some = shape_some [] shape in omega arith
shape_stray (c ∷ s) rest b tail shape e none = none s (subst (λ x. Shape (x ∷ s)) (ap (λ l. get_or l 0 0) e) shape)

-- a text of no byte is a shape
quote_shape : Shape (34 ∷ 34 ∷ [])
quote_shape = text (34 ∷ 34 ∷ []) [] ([], no_items, refl)

-- two cuts of a text that stop are the same
one_stop : (items value rest others other behind : List ℕ) → AreItems items value → AreItems others other → items ++ rest ≡ others ++ behind → Stops value rest → Stops other behind → (length value ≡ 256) × (length other ≡ 256) ⊎ ((value ≡ other) × (rest ≡ behind))
one_stop items value rest others other behind are are2 e stop stop2 = by_cut (compare items value rest others other behind are are2 e) stop stop2 where
  by_cut : Compared value rest other behind → Stops value rest → Stops other behind → (length value ≡ 256) × (length other ≡ 256) ⊎ ((value ≡ other) × (rest ≡ behind))
  by_cut (inl same) one two = inr same
  by_cut (inr (inl (less, goes_on))) (inl full) (inl full2) = inl (full, full2)
  by_cut (inr (inl (less, goes_on))) (inl full) (inr short2) = absurd (omega (arith, short2.0))
  by_cut (inr (inl (less, goes_on))) (inr short) two = absurd (short.1 goes_on)
  by_cut (inr (inr (less, goes_on))) (inl full) (inl full2) = inl (full, full2)
  by_cut (inr (inr (less, goes_on))) (inr short) (inl full2) = absurd (omega (arith, short.0))
  by_cut (inr (inr (less, goes_on))) one (inr short2) = absurd (short2.1 goes_on)

full_outcome : (at : ℕ) (value s rest : List ℕ) → length value ≡ 256 → text_outcome at value s rest ≡ refused (faults.TextTooLong at)
full_outcome at value s [] full = ap (λ t. cond t (refused (faults.TextTooLong at)) (refused (faults.OpenString at))) (eq-eqb (length value) 256 full)
full_outcome at value s (c ∷ rest) full =
    ap (λ t. cond t (refused (faults.TextTooLong at)) (cond (c == 34) (token_to (kinds.Text value) rest) (cond (c == 94) (refused (faults.BadEscape at)) (refused (faults.OpenString at))))) (eq-eqb (length value) 256 full)

-- one thing alone comes of it
one_outcome : (size : ℕ) (s : List ℕ) (first second : Outcome) → Comes size s first → Comes size s second → first ≡ second
one_outcome size s _ _ (by_shape what spelled rest e longest is) (by_shape what2 spelled2 rest2 e2 longest2 is2) =
    let fronts = one_whole spelled rest spelled2 rest2 longest longest2 (sym e ∙ e2) in
    let kinds_same = one_what spelled what what2 is (subst (IsSo what2) (sym fronts.0) is2) in
    ap (λ w. outcome_of size s w spelled rest) kinds_same ∙ ap₂ (λ x y. outcome_of size s what2 x y) fronts.0 fronts.1
one_outcome size s _ _ (by_shape what spelled rest e longest is) (by_text items value behind e2 are stop) =
    absurd (so_quote what spelled rest (items ++ behind) is (sym e ∙ e2))
one_outcome size s _ _ (by_shape what spelled rest e longest is) (by_stray b behind e2 none) =
    absurd (shape_stray spelled rest b behind longest.one (sym e ∙ e2) none)
one_outcome size s _ _ (by_text items value behind e2 are stop) (by_shape what spelled rest e longest is) =
    absurd (so_quote what spelled rest (items ++ behind) is (sym e ∙ e2))
one_outcome size s _ _ (by_text items value rest e are stop) (by_text items2 value2 rest2 e2 are2 stop2) =
    by_stop (one_stop items value rest items2 value2 rest2 are are2 (ap (λ l. drop 1 l) (sym e ∙ e2)) stop stop2) where
      by_stop : (length value ≡ 256) × (length value2 ≡ 256) ⊎ ((value ≡ value2) × (rest ≡ rest2)) → text_outcome (size - length s) value s rest ≡ text_outcome (size - length s) value2 s rest2
      by_stop (inl full) = full_outcome (size - length s) value s rest full.0 ∙ sym (full_outcome (size - length s) value2 s rest2 full.1)
      by_stop (inr same) = ap₂ (λ v r. text_outcome (size - length s) v s r) same.0 same.1
one_outcome size s _ _ (by_text items value rest e are stop) (by_stray b behind e2 none) =
    absurd (none (34 ∷ []) (subst (λ x. Shape (x ∷ 34 ∷ [])) (ap (λ l. get_or l 0 0) (sym e ∙ e2)) quote_shape))
one_outcome size s _ _ (by_stray b behind e2 none) (by_shape what spelled rest e longest is) =
    absurd (shape_stray spelled rest b behind longest.one (sym e ∙ e2) none)
one_outcome size s _ _ (by_stray b behind e2 none) (by_text items value rest e are stop) =
    absurd (none (34 ∷ []) (subst (λ x. Shape (x ∷ 34 ∷ [])) (ap (λ l. get_or l 0 0) (sym e ∙ e2)) quote_shape))
one_outcome size s _ _ (by_stray b behind e none) (by_stray b2 behind2 e2 none2) = refl

-- what comes of a blank, a token and a fault
blank_comes : (size : ℕ) (s rest : List ℕ) → BlankAt s rest → Comes size s (blank_to rest)
blank_comes size s rest at = by_shape is_blank at.spelled rest at.whole at.longest (blank_so at.spelled at.blank)

no_letter : (number letter : Bool) → (number ≡ true → letter ≡ false) → (number && letter) ≡ false
no_letter true letter apart = apart refl
no_letter false letter apart = refl

plain_comes : (size : ℕ) (s rest : List ℕ) (k : TokenKind) → TokenAt k s rest → ((value : List ℕ) → k ≡ kinds.Text value → ⊥) → Comes size s (token_to k rest)
plain_comes size s rest k at other =
    subst (Comes size s)
    (ap (λ t. cond t (refused (faults.StrayByte (size - length rest))) (token_to k rest)) (no_letter (is_number at.spelled) (begins is_letter rest) at.apart))
    (by_shape (is_token k) at.spelled rest at.whole at.longest (spells_so k at.spelled at.token other))

text_comes : (size : ℕ) (s rest value : List ℕ) → TokenAt (kinds.Text value) s rest → Comes size s (token_to (kinds.Text value) rest)
text_comes size s rest value at =
    let is = at.token.0 in
    let whole : s ≡ 34 ∷ is.0 ++ 34 ∷ rest =
    at.whole ∙ ap (λ l. l ++ rest) is.2 ∙ ap (λ l. 34 ∷ l) (append_assoc is.0 (34 ∷ []) rest) in
    let short : (length value ≡ 256 → ⊥) = λ full. omega (arith, at.token.1) in
    subst (Comes size s)
    (ap (λ t. cond t (refused (faults.TextTooLong (size - length s))) (token_to (kinds.Text value) rest)) (ne_eqb (length value) 256 short))
    (by_text is.0 value (34 ∷ rest) whole is.1 (inr (at.token.1, no_item_quote rest)))

token_comes : (size : ℕ) (s rest : List ℕ) (k : TokenKind) → TokenAt k s rest → Comes size s (token_to k rest)
token_comes size s rest (kinds.Name bytes) at = plain_comes size s rest (kinds.Name bytes) at (λ value e. cc)
token_comes size s rest (kinds.Keyword word) at = plain_comes size s rest (kinds.Keyword word) at (λ value e. cc)
token_comes size s rest (kinds.Number n) at = plain_comes size s rest (kinds.Number n) at (λ value e. cc)
token_comes size s rest (kinds.Text value) at = text_comes size s rest value at
token_comes size s rest (kinds.Hashes count) at = plain_comes size s rest (kinds.Hashes count) at (λ value e. cc)
token_comes size s rest (kinds.Sign g) at = plain_comes size s rest (kinds.Sign g) at (λ value e. cc)

-- a place is what the size leaves
placed : (size at n : ℕ) → at + n ≡ size → size - n ≡ at
placed size at n e = omega arith

number_comes : (size : ℕ) (s : List ℕ) (at : ℕ) (value : ℤ) (spelled : List ℕ) (b : ℕ) (rest : List ℕ) → s ≡ spelled ++ b ∷ rest → at + length (b ∷ rest) ≡ size → Spells (kinds.Number value) spelled → is_number spelled ≡ true → IsWhole spelled (b ∷ rest) → is_letter b ≡ true → Comes size s (refused (faults.StrayByte at))
number_comes size s at value spelled b rest e there spells is longest letter =
    subst (Comes size s)
    (ap (λ t. cond t (refused (faults.StrayByte (size - length (b ∷ rest)))) (token_to (kinds.Number value) (b ∷ rest))) (and_from (is_number spelled) (is_letter b) is letter) ∙ ap (λ n. refused (faults.StrayByte n)) (placed size at (length (b ∷ rest)) there))
    (by_shape (is_token (kinds.Number value)) spelled (b ∷ rest) e longest (spells_so (kinds.Number value) spelled spells (λ value e. cc)))

escape_comes : (size : ℕ) (s items value rest : List ℕ) → s ≡ 34 ∷ items ++ 94 ∷ rest → AreItems items value → length value ≤ 255 → (BeginsItem (94 ∷ rest) → ⊥) → Comes size s (refused (faults.BadEscape (size - length s)))
escape_comes size s items value rest e are short none =
    let less : (length value ≡ 256 → ⊥) = λ full. omega arith in
    subst (Comes size s)
    (ap (λ t. cond t (refused (faults.TextTooLong (size - length s))) (refused (faults.BadEscape (size - length s)))) (ne_eqb (length value) 256 less))
    (by_text items value (94 ∷ rest) e are (inr (short, none)))

-- at the end of a line the text is open
open_outcome : (at : ℕ) (value s rest : List ℕ) → length value ≤ 255 → stops_text rest ≡ true → text_outcome at value s rest ≡ refused (faults.OpenString at)
unfolding is_line_end
open_outcome at value s [] short stop =
    ap (λ t. cond t (refused (faults.TextTooLong at)) (refused (faults.OpenString at))) (ne_eqb (length value) 256 (λ full. omega arith))
open_outcome at value s (c ∷ rest) short stop =
    let unlike : (c == 34) ≡ false = grind (arith, nat_tests) in
    let other : (c == 94) ≡ false = grind (arith, nat_tests) in
    ap (λ t. cond t (refused (faults.TextTooLong at)) (cond (c == 34) (token_to (kinds.Text value) rest) (cond (c == 94) (refused (faults.BadEscape at)) (refused (faults.OpenString at))))) (ne_eqb (length value) 256 (λ full. omega arith))
    ∙ ap₂ (λ x y. cond x (token_to (kinds.Text value) rest) (cond y (refused (faults.BadEscape at)) (refused (faults.OpenString at)))) unlike other

fault_comes : (size : ℕ) (s : List ℕ) (fault : LexFault) → FaultAt size s fault → Comes size s (refused fault)
fault_comes size s _ (stray _ at b rest e there none) =
    subst (λ n. Comes size s (refused (faults.StrayByte n))) (placed size at (length s) there) (by_stray b rest e none)
fault_comes size s _ (run_on _ at value spelled b rest e there spells is longest letter) =
    number_comes size s at value spelled b rest e there spells is longest letter
fault_comes size s _ (number_too_large _ at spelled rest e there is longest large) =
    subst (λ n. Comes size s (refused (faults.NumberTooLarge n))) (placed size at (length s) there) (by_shape is_large spelled rest e longest (large_so spelled is large))
fault_comes size s _ (name_too_long _ at spelled rest e there is longest long) =
    subst (λ n. Comes size s (refused (faults.NameTooLong n))) (placed size at (length s) there) (by_shape is_long spelled rest e longest (long_so spelled is long))
fault_comes size s _ (too_many_hashes _ at spelled rest e there is longest long) =
    subst (λ n. Comes size s (refused (faults.TextTooLong n))) (placed size at (length s) there) (by_shape is_many spelled rest e longest (many_so spelled is long))
fault_comes size s _ (open_comment _ at there is) =
    subst (λ n. Comes size s (refused (faults.OpenComment n))) (placed size at (length s) there) (by_shape is_open s [] (sym (append-nil s)) (opened_whole s is) (open_so s is))
fault_comes size s _ (bad_escape _ at items value rest e there are short none) =
    subst (λ n. Comes size s (refused (faults.BadEscape n))) (placed size at (length s) there) (escape_comes size s items value rest e are short none)
fault_comes size s _ (text_too_long _ at items value rest e there are long) =
    subst (Comes size s) (full_outcome (size - length s) value s rest long ∙ ap (λ n. refused (faults.TextTooLong n)) (placed size at (length s) there)) (by_text items value rest e are (inl long))
fault_comes size s _ (open_string _ at items value rest e there are short stop) =
    subst (Comes size s) (open_outcome (size - length s) value s rest short stop ∙ ap (λ n. refused (faults.OpenString n)) (placed size at (length s) there)) (by_text items value rest e are (inr (short, no_item_stop rest stop)))

-- nothing comes of nothing
comes_some : (size : ℕ) (s : List ℕ) (o : Outcome) → Comes size s o → 0 < length s
comes_some size s _ (by_shape what spelled rest e longest is) =
    omega (arith, ap length e, length-append spelled rest, shape_some spelled longest.one)
comes_some size s _ (by_text items value rest e are stop) = omega (arith, ap length e)
comes_some size s _ (by_stray b rest e none) = omega (arith, ap length e)

-- how a reading ends: with the source, or with a fault
abbrev pub Finish : ℕ → List ℕ → Option LexFault → Type 0
Finish size rest None = rest ≡ []
Finish size rest (Some fault) = FaultAt size rest fault

finish_not_blank : (size : ℕ) (s rest behind : List ℕ) (end : Option LexFault) → s ≡ rest → Finish size rest end → BlankAt s behind → ⊥
finish_not_blank size s rest behind None e done at =
    let some = comes_some size s (blank_to behind) (blank_comes size s behind at) in omega (arith, ap length (e ∙ done))
finish_not_blank size s rest behind (Some fault) e done at =
    let same = one_outcome size s (refused fault) (blank_to behind) (fault_comes size s fault (subst (λ l. FaultAt size l fault) (sym e) done)) (blank_comes size s behind at) in
    cc

finish_not_token : (size : ℕ) (s rest behind : List ℕ) (k : TokenKind) (end : Option LexFault) → s ≡ rest → Finish size rest end → TokenAt k s behind → ⊥
finish_not_token size s rest behind k None e done at =
    let some = comes_some size s (token_to k behind) (token_comes size s behind k at) in omega (arith, ap length (e ∙ done))
finish_not_token size s rest behind k (Some fault) e done at =
    let same = one_outcome size s (refused fault) (token_to k behind) (fault_comes size s fault (subst (λ l. FaultAt size l fault) (sym e) done)) (token_comes size s behind k at) in
    cc

one_finish : (size : ℕ) (s rest behind : List ℕ) (end other : Option LexFault) → s ≡ rest → s ≡ behind → Finish size rest end → Finish size behind other → end ≡ other
one_finish size s rest behind None None e f done done2 = refl
one_finish size s rest behind None (Some fault) e f done done2 =
    let some = comes_some size behind (refused fault) (fault_comes size behind fault done2) in
    absurd (omega (arith, ap length (sym f ∙ e ∙ done)))
one_finish size s rest behind (Some fault) None e f done done2 =
    let some = comes_some size rest (refused fault) (fault_comes size rest fault done) in
    absurd (omega (arith, ap length (sym e ∙ f ∙ done2)))
one_finish size s rest behind (Some fault) (Some fault2) e f done done2 =
    let same = one_outcome size s (refused fault) (refused fault2) (fault_comes size s fault (subst (λ l. FaultAt size l fault) (sym e) done)) (fault_comes size s fault2 (subst (λ l. FaultAt size l fault2) (sym f) done2)) in
    cc

same_token : (t u : Token) → t.what ≡ u.what → t.place ≡ u.place → t ≡ u
same_token t u e f = ap₂ (λ w p. record { what = w; place = p }) e f

-- two readings to an end are one
pub one_reading : (size : ℕ) (s : List ℕ) (ts us : List Token) (rest behind : List ℕ) (end other : Option LexFault) → Reads size s ts rest → Finish size rest end → Reads size s us behind → Finish size behind other → (ts ≡ us) × (end ≡ other)
one_reading size s _ _ rest behind end other (no_more _ _ e) done (no_more _ _ f) done2 =
    (refl, one_finish size s rest behind end other e f done done2)
one_reading size s _ _ rest behind end other (no_more _ _ e) done (blank_first _ middle us _ at more) done2 =
    absurd (finish_not_blank size s rest middle end e done at)
one_reading size s _ _ rest behind end other (no_more _ _ e) done (token_first _ middle u us _ at place more) done2 =
    absurd (finish_not_token size s rest middle u.what end e done at)
one_reading size s _ _ rest behind end other (blank_first _ middle ts _ at more) done (no_more _ _ f) done2 =
    absurd (finish_not_blank size s behind middle other f done2 at)
one_reading size s _ _ rest behind end other (blank_first _ middle ts _ at more) done (blank_first _ middle2 us _ at2 more2) done2 =
    let same = one_outcome size s (blank_to middle) (blank_to middle2) (blank_comes size s middle at) (blank_comes size s middle2 at2) in
    let middles : middle ≡ middle2 = cc in
    one_reading size middle ts us rest behind end other more done (subst (λ l. Reads size l us behind) (sym middles) more2) done2
one_reading size s _ _ rest behind end other (blank_first _ middle ts _ at more) done (token_first _ middle2 u us _ at2 place more2) done2 =
    let same = one_outcome size s (blank_to middle) (token_to u.what middle2) (blank_comes size s middle at) (token_comes size s middle2 u.what at2) in
    absurd cc
one_reading size s _ _ rest behind end other (token_first _ middle t ts _ at place more) done (no_more _ _ f) done2 =
    absurd (finish_not_token size s behind middle t.what other f done2 at)
one_reading size s _ _ rest behind end other (token_first _ middle t ts _ at place more) done (blank_first _ middle2 us _ at2 more2) done2 =
    let same = one_outcome size s (blank_to middle2) (token_to t.what middle) (blank_comes size s middle2 at2) (token_comes size s middle t.what at) in
    absurd cc
one_reading size s _ _ rest behind end other (token_first _ middle t ts _ at place more) done (token_first _ middle2 u us _ at2 place2 more2) done2 =
    let same = one_outcome size s (token_to t.what middle) (token_to u.what middle2) (token_comes size s middle t.what at) (token_comes size s middle2 u.what at2) in
    let middles : middle ≡ middle2 = cc in
    let whats : t.what ≡ u.what = cc in
    let tails = one_reading size middle ts us rest behind end other more done (subst (λ l. Reads size l us behind) (sym middles) more2) done2 in
    (ap₂ (λ x xs. x ∷ xs) (same_token t u whats (omega (arith, place, place2))) tails.0, tails.1)
