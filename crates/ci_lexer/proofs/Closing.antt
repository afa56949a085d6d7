-- Where a comment is closed, and where a hexadecimal number is split.
use Rattle.std.proofs.Common.{◌≡◌, ℕ, ◌+◌, ◌-◌, ◌≤◌, true, false, ◌&&◌, ◌||◌, List, [], ◌∷◌, ◌++◌, length, take, drop, get_or, sym, refl, ap, ap₂, ◌∙◌, subst, arith, ◌==◌, suc, append_assoc, take_at, cond, true≢false}
use Rattle.std.specs.List.{list_all}
use Rattle.std.specs.Str.Parse.{digits_value}
use Rattle.std.proofs.lemmas.Bool.{and_parts, and_from, or_left, both_ways, eqb-true, false_from_ne_true}
use Rattle.std.proofs.lemmas.List.{take_rest}
use Rattle.ci_base.specs.Letters.{is_hex_digit, is_digit, begins, is_run}
use Rattle.ci_base.specs.Numbers.{is_decimal, is_hexadecimal, is_number, number_value, number_limit}
use Rattle.ci_tree.specs.Comments.{has_close}
use Rattle.ci_tree.specs.Shapes.{IsWhole}
use Rattle.ci_lexer.specs.declared.lead.Lead.TheVariants.{Digit, Slash, Quote}
use Rattle.ci_lexer.specs.Comments.{IsClosed, closes}
use Rattle.ci_lexer.specs.Numbers.{hex_start}
use Rattle.ci_lexer.specs.Leads.{Leads}
use Rattle.ci_lexer.proofs.Backs.{begins-lead, is_digit-lead, slash-lead, quote-lead}
use Rattle.ci_lexer.proofs.Runs.{begins_run}
use Rattle.ci_lexer.proofs.Wholes.{decimal_whole, hexadecimal_whole, hex_start-hexadecimal, text_whole}
use Rattle.ci_base.specs.Texts.{AreItems, BeginsItem}
use Rattle.ci_tree.specs.Tokens.{TokenAt}
use Rattle.ci_tree.specs.declared.token.TokenKind.TheVariants as kinds
use Rattle.ci_lexer.specs.declared.fault.LexFault.TheVariants.{BadEscape, TextTooLong, OpenString}
use Rattle.ci_lexer.specs.Faults.{FaultAt}
use Rattle.ci_literals.specs.Items.{stops_text}
use Rattle.ci_lexer.specs.Faults.FaultAt.{bad_escape, text_too_long, open_string}
use Rattle.ci_lexer.proofs.Steps.{first_rest, first_lead, not_number}

pub closed_here : (s : List ℕ) → closes s ≡ true → IsClosed s (take (length s - 2) (drop 2 s))
closed_here [] h = absurd (true≢false (sym h))
closed_here (a ∷ []) h = absurd (true≢false (sym h))
closed_here (a ∷ b ∷ s) h =
    let parts = and_parts (a == 42) (b == 47) h in
    ([], refl, ap₂ (λ x y. x ∷ y ∷ s) (eqb-true a 42 parts.0) (eqb-true b 47 parts.1) ∙ ap (λ l. 42 ∷ 47 ∷ l) (sym (take_rest (a ∷ b ∷ s) 2)))

-- no `*/` at the front: the same behind the first byte
pub has_close-step : (a : ℕ) (s : List ℕ) → closes (a ∷ s) ≡ false → has_close s ≡ has_close (a ∷ s)
has_close-step a [] h = refl
has_close-step a (b ∷ s) h = sym (ap (λ t. t || has_close (b ∷ s)) h)

pub closed_step : (a : ℕ) (s rest : List ℕ) → closes (a ∷ s) ≡ false → IsClosed s rest → IsClosed (a ∷ s) rest
closed_step a s rest h ([], none, e) = (a ∷ [], refl, ap (λ l. a ∷ l) e)
closed_step a s rest h (b ∷ body, none, e) =
    let first : closes (a ∷ b ∷ body) ≡ false = sym (ap (λ l. closes (a ∷ l)) e) ∙ h in
    (a ∷ b ∷ body, sym (has_close-step a (b ∷ body) first) ∙ none, ap (λ l. a ∷ l) e)

pub closed_more : (s : List ℕ) → (length s == 0) ≡ false → closes s ≡ false → (has_close (take (length s - 1) (drop 1 s)) ≡ has_close s) × ((rest : List ℕ) → IsClosed (take (length s - 1) (drop 1 s)) rest → IsClosed s rest)
closed_more [] some h = absurd (true≢false some)
closed_more (a ∷ s) some h =
    let same : take (length (a ∷ s) - 1) s ≡ s = take_rest (a ∷ s) 1 in
    (ap has_close same ∙ has_close-step a s h, λ rest closed. closed_step a s rest h (subst (λ l. IsClosed l rest) same closed))

-- what `/` is followed by
pub slash_two : (s : List ℕ) (b : ℕ) → Leads Slash s → begins (λ c. c == b) (take (length s - 1) (drop 1 s)) ≡ true → s ≡ 47 ∷ b ∷ take (length (take (length s - 1) (drop 1 s)) - 1) (drop 1 (take (length s - 1) (drop 1 s)))
slash_two [] b leads h = absurd leads
slash_two (a ∷ s) b leads h =
    let same : take (length (a ∷ s) - 1) s ≡ s = take_rest (a ∷ s) 1 in
    ap₂ (λ x l. x ∷ l) (slash-lead a leads) (second s b (subst (λ l. begins (λ c. c == b) l ≡ true) same h) ∙ ap (λ l. b ∷ take (length l - 1) (drop 1 l)) (sym same)) where
      second : (s : List ℕ) (b : ℕ) → begins (λ c. c == b) s ≡ true → s ≡ b ∷ take (length s - 1) (drop 1 s)
      second [] b h = absurd (true≢false (sym h))
      second (c ∷ s) b h = ap₂ (λ x l. x ∷ l) (eqb-true c b h) (sym (take_rest (c ∷ s) 1))

pub slash_alone : (s : List ℕ) → begins (λ c. c == 47) s ≡ false → begins (λ c. c == 42) s ≡ false → begins (λ b. b == 47 || b == 42) s ≡ false
slash_alone [] h k = refl
slash_alone (c ∷ s) h k = ap₂ (λ x y. x || y) h k

-- a decimal number at the front
pub decimal_is : (s digits rest : List ℕ) → Leads Digit s → s ≡ digits ++ rest → list_all is_digit digits ≡ true → begins is_digit rest ≡ false → is_decimal digits ≡ true
decimal_is s digits rest leads e all stop =
    and_from (begins is_digit digits) (list_all is_digit digits) (begins_run is_digit is_digit s digits rest e (begins-lead Digit is_digit is_digit-lead s leads) (λ b h. h) stop) all

pub decimal_number : (s digits rest : List ℕ) → Leads Digit s → s ≡ digits ++ rest → list_all is_digit digits ≡ true → begins is_digit rest ≡ false → is_number digits ≡ true
decimal_number s digits rest leads e all stop =
    or_left (is_decimal digits) (is_hexadecimal digits) (decimal_is s digits rest leads e all stop)

pub decimal_longest : (s digits rest : List ℕ) → Leads Digit s → s ≡ digits ++ rest → list_all is_digit digits ≡ true → begins is_digit rest ≡ false → hex_start s ≡ false → IsWhole digits rest
decimal_longest s digits rest leads e all stop start =
    decimal_whole digits rest (decimal_is s digits rest leads e all stop) stop (subst (λ l. hex_start l ≡ false) e start)

-- it is no hexadecimal one
pub not_hexadecimal : (s digits rest : List ℕ) → s ≡ digits ++ rest → hex_start s ≡ false → is_hexadecimal digits ≡ false
not_hexadecimal s digits rest e start =
    false_from_ne_true (is_hexadecimal digits) (λ h. both_ways (hex_start s) start (subst (λ l. hex_start l ≡ true) (sym e) (hex_start-hexadecimal digits rest h)))

-- a hexadecimal number at the front, of these digits
pub record IsSplit (s digits rest spelled : List ℕ) : Type 0 where
  pub whole : s ≡ spelled ++ rest
  pub is : is_hexadecimal spelled ≡ true
  pub longest : IsWhole spelled rest
  pub tail : drop 2 spelled ≡ digits

pub split_at : (z x : ℕ) (t digits rest : List ℕ) → hex_start (z ∷ x ∷ t) ≡ true → t ≡ digits ++ rest → list_all is_hex_digit digits ≡ true → begins is_hex_digit rest ≡ false → IsSplit (z ∷ x ∷ t) digits rest (z ∷ x ∷ digits)
split_at z x t digits rest start e all stop =
    let parts = and_parts (z == 48 && (x == 120 || x == 88)) (begins is_hex_digit t) start in
    let first = begins_run is_hex_digit is_hex_digit t digits rest e parts.1 (λ b h. h) stop in
    let hexadecimal = and_from (z == 48 && (x == 120 || x == 88)) (is_run is_hex_digit digits) parts.0 (and_from (begins is_hex_digit digits) (list_all is_hex_digit digits) first all) in
    record {
      whole = ap (λ l. z ∷ x ∷ l) e;
      is = hexadecimal;
      longest = hexadecimal_whole z x digits rest hexadecimal stop;
      tail = refl;
    }

pub hexadecimal_split : (s digits rest : List ℕ) → hex_start s ≡ true → take (length s - 2) (drop 2 s) ≡ digits ++ rest → list_all is_hex_digit digits ≡ true → begins is_hex_digit rest ≡ false → IsSplit s digits rest (take (2 + length digits) s)
hexadecimal_split [] digits rest start e all stop = absurd (true≢false (sym start))
hexadecimal_split (z ∷ []) digits rest start e all stop = absurd (true≢false (sym start))
hexadecimal_split (z ∷ x ∷ t) digits rest start e all stop =
    let behind : t ≡ digits ++ rest = sym (take_rest (z ∷ x ∷ t) 2) ∙ e in
    let count : 2 + length digits ≡ suc (suc (length digits)) = omega arith in
    let spelled : take (2 + length digits) (z ∷ x ∷ t) ≡ z ∷ x ∷ digits =
    ap (λ n. take n (z ∷ x ∷ t)) count ∙ ap (λ l. z ∷ x ∷ take (length digits) l) behind ∙ ap (λ l. z ∷ x ∷ l) (take_at digits rest (length digits) refl) in
    subst (IsSplit (z ∷ x ∷ t) digits rest) (sym spelled) (split_at z x t digits rest start behind all stop)

pub split_value : {s digits rest spelled : List ℕ} → IsSplit s digits rest spelled → number_value spelled ≡ digits_value 16 digits
split_value {s} {digits} {rest} {spelled} split =
    ap (λ t. cond t (digits_value 16 (drop 2 spelled)) (digits_value 10 spelled)) split.is ∙ ap (digits_value 16) split.tail

pub split_limit : {s digits rest spelled : List ℕ} → IsSplit s digits rest spelled → number_limit spelled ≡ 4294967295
split_limit split = ap (λ t. cond t 4294967295 2147483648) split.is

-- a text at the front, of which this is what stands behind the quote
pub quote_rest : (s : List ℕ) → Leads Quote s → s ≡ 34 ∷ take (length s - 1) (drop 1 s)
quote_rest s leads =
    first_rest Quote s leads ∙ ap (λ b. b ∷ take (length s - 1) (drop 1 s)) (quote-lead (get_or s 0 0) (first_lead Quote s leads))

pub text_step : (s items value rest : List ℕ) → Leads Quote s → take (length s - 1) (drop 1 s) ≡ items ++ 34 ∷ rest → AreItems items value → length value ≤ 255 → TokenAt (kinds.Text value) s rest
text_step s items value rest leads split are short = record {
  spelled = 34 ∷ items ++ 34 ∷ [];
  whole = quote_rest s leads ∙ ap (λ l. 34 ∷ l) (split ∙ sym (append_assoc items (34 ∷ []) rest));
  token = ((items, are, refl), short);
  longest = text_whole items value rest are;
  apart = λ number. absurd (not_number Quote s (34 ∷ items ++ 34 ∷ []) rest leads (λ h. cc) (quote_rest s leads ∙ ap (λ l. 34 ∷ l) (split ∙ sym (append_assoc items (34 ∷ []) rest))) number);
}

pub escape_fault : (s items value rest : List ℕ) (at : ℕ) → Leads Quote s → take (length s - 1) (drop 1 s) ≡ items ++ 94 ∷ rest → AreItems items value → length value ≤ 255 → (BeginsItem (94 ∷ rest) → ⊥) → FaultAt (at + length s) s (BadEscape at)
escape_fault s items value rest at leads split are short none =
    bad_escape s at items value rest (quote_rest s leads ∙ ap (λ l. 34 ∷ l) split) refl are short none

pub long_fault : (s items value rest : List ℕ) (at : ℕ) → Leads Quote s → take (length s - 1) (drop 1 s) ≡ items ++ rest → AreItems items value → length value ≡ 256 → FaultAt (at + length s) s (TextTooLong at)
long_fault s items value rest at leads split are long =
    text_too_long s at items value rest (quote_rest s leads ∙ ap (λ l. 34 ∷ l) split) refl are long

pub open_fault : (s items value rest : List ℕ) (at : ℕ) → Leads Quote s → take (length s - 1) (drop 1 s) ≡ items ++ rest → AreItems items value → length value ≤ 255 → stops_text rest ≡ true → FaultAt (at + length s) s (OpenString at)
open_fault s items value rest at leads split are short stop =
    open_string s at items value rest (quote_rest s leads ∙ ap (λ l. 34 ∷ l) split) refl are short stop
