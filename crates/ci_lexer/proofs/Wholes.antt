-- Shapes that are as long as possible.
use Rattle.std.proofs.Common.{◌≡◌, ℕ, true, false, ◌&&◌, ◌||◌, List, [], ◌∷◌, ◌++◌, sym, refl, ap, ap₂, ◌∙◌, subst, subst₂, get_or, drop, true≢false, inl, inr, ⊎_elim, arith, ◌==◌, append_assoc}
use Rattle.std.specs.List.{list_all}
use Rattle.std.proofs.lemmas.Bool.{and_parts, and_from, or_parts, or_left, or_right, both_ways}
use Rattle.std.proofs.lemmas.Bool.Decides.{nat_tests}
use Rattle.ci_base.specs.Letters.{is_digit, is_letter, is_white, is_name_byte, is_hex_digit, begins, is_run}
use Rattle.ci_base.specs.Names.{is_name}
use Rattle.ci_base.specs.Numbers.{is_decimal, is_hexadecimal}
use Rattle.ci_base.specs.Texts.{AreItems}
use Rattle.ci_tree.specs.declared.token.Sign.{Sign}
use Rattle.ci_tree.specs.declared.token.Sign.TheVariants.{Slash as the_slash}
use Rattle.ci_tree.specs.Comments.{IsOpenComment, has_close, is_inline}
use Rattle.ci_tree.specs.Comments.IsBlank.{white, marked, slashed, enclosed}
use Rattle.ci_tree.specs.Shapes.{Shape, IsWhole, is_hash}
use Rattle.ci_tree.specs.Shapes.Shape.{name, number, text, hashes, sign, blank, opened}
use Rattle.ci_tree.specs.Signs.{sign_bytes}
use Rattle.ci_lexer.specs.declared.lead.Lead.TheVariants.{Letter, Digit, White, Quote, Hash, Mark, Slash, Other}
use Rattle.ci_lexer.specs.Numbers.{hex_start}
use Rattle.ci_lexer.specs.Leads.{lead}
use Rattle.ci_literals.proofs.Cuts.{one_cut, no_item_quote}
use Rattle.ci_lexer.proofs.Leading.{Follows, follows_lead, lead-letter, lead-digit, lead-white, lead-hash, lead-quote, lead-mark, lead-slash, lead-zero, hex_first}
use Rattle.ci_lexer.proofs.Runs.{stops}

pub word_whole : (s rest : List ℕ) → is_name s ≡ true → begins is_name_byte rest ≡ false → IsWhole s rest
word_whole [] rest h stop = absurd (true≢false (sym h))
word_whole (b ∷ s) rest h stop = record {
  one = name (b ∷ s) h;
  longest = λ more behind e shape.
      stops is_name_byte s more behind rest e stop (follows_lead b (s ++ more) Letter (lead-letter b (and_parts (is_letter b) (list_all is_name_byte (b ∷ s)) h).0) shape);
}

pub white_whole : (s rest : List ℕ) → is_run is_white s ≡ true → begins is_white rest ≡ false → IsWhole s rest
white_whole [] rest h stop = absurd (true≢false (sym h))
white_whole (b ∷ s) rest h stop = record {
  one = blank (b ∷ s) (white (b ∷ s) h);
  longest = λ more behind e shape.
      stops is_white s more behind rest e stop (follows_lead b (s ++ more) White (lead-white b (and_parts (is_white b) (list_all is_white (b ∷ s)) h).0) shape);
}

pub hash_whole : (s rest : List ℕ) → is_run is_hash s ≡ true → begins is_hash rest ≡ false → IsWhole s rest
hash_whole [] rest h stop = absurd (true≢false (sym h))
hash_whole (b ∷ s) rest h stop = record {
  one = hashes (b ∷ s) h;
  longest = λ more behind e shape.
      stops is_hash s more behind rest e stop (follows_lead b (s ++ more) Hash (lead-hash b (and_parts (is_hash b) (list_all is_hash (b ∷ s)) h).0) shape);
}

pub mark_whole : (body rest : List ℕ) → list_all is_inline body ≡ true → begins is_inline rest ≡ false → IsWhole (33 ∷ body) rest
mark_whole body rest h stop = record {
  one = blank (33 ∷ body) (marked body h);
  longest = λ more behind e shape. stops is_inline body more behind rest e stop (follows_lead 33 (body ++ more) Mark lead-mark shape);
}

slashed_more : (body more : List ℕ) → Follows Slash 47 (47 ∷ body ++ more) → list_all is_inline (body ++ more) ≡ true
slashed_more body more (inl e) = absurd cc
slashed_more body more (inr (inl (found, e, h))) =
    let same : body ++ more ≡ found = ap (λ l. drop 1 l) e in
    subst (λ l. list_all is_inline l ≡ true) (sym same) h
slashed_more body more (inr (inr (inl (found, e, h)))) =
    let head : ◌≡◌ {A = ℕ} 47 42 = ap (λ l. get_or l 0 0) e in absurd (omega arith)
slashed_more body more (inr (inr (inr (found, e, h)))) =
    let head : ◌≡◌ {A = ℕ} 47 42 = ap (λ l. get_or l 0 0) e in absurd (omega arith)

pub slashed_whole : (body rest : List ℕ) → list_all is_inline body ≡ true → begins is_inline rest ≡ false → IsWhole (47 ∷ 47 ∷ body) rest
slashed_whole body rest h stop = record {
  one = blank (47 ∷ 47 ∷ body) (slashed body h);
  longest = λ more behind e shape. stops is_inline body more behind rest e stop (slashed_more body more (follows_lead 47 (47 ∷ body ++ more) Slash lead-slash shape));
}

-- the first `*/` ends a comment
pub has_close-append : (body more : List ℕ) → has_close (body ++ 42 ∷ 47 ∷ more) ≡ true
has_close-append [] more = refl
has_close-append (a ∷ []) more = or_right (a == 42 && 42 == 47) true refl
has_close-append (a ∷ b ∷ body) more = or_right (a == 42 && b == 47) (has_close (b ∷ body ++ 42 ∷ 47 ∷ more)) (has_close-append (b ∷ body) more)

has_close-tail : (b : ℕ) (s : List ℕ) → has_close (b ∷ s) ≡ false → has_close s ≡ false
has_close-tail b [] h = refl
has_close-tail b (c ∷ s) h = (or_parts (b == 42 && c == 47) (has_close (c ∷ s)) h).1

-- a body that starts with `*/` has it
no_close_first : (b c : ℕ) (s : List ℕ) → b ≡ 42 → c ≡ 47 → has_close (b ∷ c ∷ s) ≡ false → ⊥
no_close_first b c s e f h = both_ways _ (subst₂ (λ x y. has_close (x ∷ y ∷ s) ≡ false) e f h) refl

pub one_close : (body more other behind : List ℕ) → has_close body ≡ false → has_close other ≡ false → body ++ 42 ∷ 47 ∷ more ≡ other ++ 42 ∷ 47 ∷ behind → (body ≡ other) × (more ≡ behind)
one_close [] more [] behind h k e = (refl, ap (λ l. drop 2 l) e)
one_close [] more (c ∷ []) behind h k e =
    let second : ◌≡◌ {A = ℕ} 47 42 = ap (λ l. get_or l 1 0) e in absurd (omega arith)
one_close [] more (c ∷ d ∷ other) behind h k e =
    absurd (no_close_first c d other (sym (ap (λ l. get_or l 0 0) e)) (sym (ap (λ l. get_or l 1 0) e)) k)
one_close (b ∷ []) more [] behind h k e =
    let second : ◌≡◌ {A = ℕ} 42 47 = ap (λ l. get_or l 1 0) e in absurd (omega arith)
one_close (b ∷ d ∷ body) more [] behind h k e =
    absurd (no_close_first b d body (ap (λ l. get_or l 0 0) e) (ap (λ l. get_or l 1 0) e) h)
one_close (b ∷ body) more (c ∷ other) behind h k e =
    let tails = one_close body more other behind (has_close-tail b body h) (has_close-tail c other k) (ap (λ l. drop 1 l) e) in
    (ap₂ (λ x xs. x ∷ xs) (ap (λ l. get_or l 0 0) e) tails.0, tails.1)

enclosed_more : (body more : List ℕ) → has_close body ≡ false → Follows Slash 47 (42 ∷ body ++ 42 ∷ 47 ∷ more) → more ≡ []
enclosed_more body more none (inl e) = absurd cc
enclosed_more body more none (inr (inl (found, e, h))) =
    let head : ◌≡◌ {A = ℕ} 42 47 = ap (λ l. get_or l 0 0) e in absurd (omega arith)
enclosed_more body more none (inr (inr (inl (found, e, h)))) =
    (one_close body more found [] none h (ap (λ l. drop 1 l) e)).1
enclosed_more body more none (inr (inr (inr (found, e, h)))) =
    let same : body ++ 42 ∷ 47 ∷ more ≡ found = ap (λ l. drop 1 l) e in
    absurd (both_ways (has_close found) h (subst (λ l. has_close l ≡ true) same (has_close-append body more)))

pub enclosed_whole : (body rest : List ℕ) → has_close body ≡ false → IsWhole (47 ∷ 42 ∷ body ++ 42 ∷ 47 ∷ []) rest
enclosed_whole body rest none = record {
  one = blank (47 ∷ 42 ∷ body ++ 42 ∷ 47 ∷ []) (enclosed body none);
  longest = λ more behind e shape.
      enclosed_more body more none (subst (λ l. Follows Slash 47 (42 ∷ l)) (append_assoc body (42 ∷ 47 ∷ []) more) (follows_lead 47 (42 ∷ (body ++ 42 ∷ 47 ∷ []) ++ more) Slash lead-slash shape));
}

pub text_whole : (items value rest : List ℕ) → AreItems items value → IsWhole (34 ∷ items ++ 34 ∷ []) rest
text_whole items value rest are = record {
  one = text (34 ∷ items ++ 34 ∷ []) value (items, are, refl);
  longest = λ more behind e shape.
      let found = follows_lead 34 ((items ++ 34 ∷ []) ++ more) Quote lead-quote shape in
      let cut = one_cut items value (34 ∷ more) found.0 found.1 (34 ∷ []) are found.2 (sym (append_assoc items (34 ∷ []) more) ∙ found.3) (no_item_quote more) (no_item_quote []) in
      ap (λ l. drop 1 l) cut.1;
}

pub hex_start-hexadecimal : (s more : List ℕ) → is_hexadecimal s ≡ true → hex_start (s ++ more) ≡ true
hex_start-hexadecimal [] more h = absurd (true≢false (sym h))
hex_start-hexadecimal (z ∷ []) more h = absurd (true≢false (sym h))
hex_start-hexadecimal (z ∷ x ∷ []) more h =
    absurd (true≢false (sym (and_parts (z == 48 && (x == 120 || x == 88)) false h).1))
hex_start-hexadecimal (z ∷ x ∷ d ∷ s) more h =
    let parts = and_parts (z == 48 && (x == 120 || x == 88)) (is_run is_hex_digit (d ∷ s)) h in
    and_from (z == 48 && (x == 120 || x == 88)) (is_hex_digit d) parts.0 (and_parts (is_hex_digit d) (list_all is_hex_digit (d ∷ s)) parts.1).0

pub decimal_whole : (s rest : List ℕ) → is_decimal s ≡ true → begins is_digit rest ≡ false → hex_start (s ++ rest) ≡ false → IsWhole s rest
decimal_whole [] rest h stop no_hex = absurd (true≢false (sym h))
decimal_whole (b ∷ s) rest h stop no_hex = record {
  one = number (b ∷ s) (or_left (is_decimal (b ∷ s)) (is_hexadecimal (b ∷ s)) h);
  longest = λ more behind e shape.
      ⊎_elim
      (λ digits. stops is_digit s more behind rest e stop digits)
      (λ hexadecimal.
      let begun = hex_start-hexadecimal (b ∷ s ++ more) behind hexadecimal in
      let same : b ∷ (s ++ more) ++ behind ≡ b ∷ s ++ rest = ap (λ l. b ∷ l) (append_assoc s more behind ∙ ap (λ l. s ++ l) (sym e)) in
      absurd (both_ways (hex_start (b ∷ s ++ rest)) no_hex (subst (λ l. hex_start l ≡ true) same begun)))
      (follows_lead b (s ++ more) Digit (lead-digit b (and_parts (is_digit b) (list_all is_digit (b ∷ s)) h).0) shape);
}

-- x is no digit
x_no_digit : (x : ℕ) → (x == 120 || x == 88) ≡ true → is_digit x ≡ true → ⊥
unfolding is_digit
x_no_digit x h k = grind (arith, nat_tests)

pub hexadecimal_whole : (z x : ℕ) (digits rest : List ℕ) → is_hexadecimal (z ∷ x ∷ digits) ≡ true → begins is_hex_digit rest ≡ false → IsWhole (z ∷ x ∷ digits) rest
hexadecimal_whole z x digits rest h stop = record {
  one = number (z ∷ x ∷ digits) (or_right (is_decimal (z ∷ x ∷ digits)) (is_hexadecimal (z ∷ x ∷ digits)) h);
  longest = λ more behind e shape.
      let marks = and_parts (z == 48) (x == 120 || x == 88) (and_parts (z == 48 && (x == 120 || x == 88)) (is_run is_hex_digit digits) h).0 in
      ⊎_elim
      (λ decimal. absurd (x_no_digit x marks.1 (and_parts (is_digit x) (list_all is_digit (digits ++ more)) decimal).0))
      (λ hexadecimal.
      let run = (and_parts (z == 48 && (x == 120 || x == 88)) (is_run is_hex_digit (digits ++ more)) hexadecimal).1 in
      stops is_hex_digit digits more behind rest e stop (and_parts (begins is_hex_digit (digits ++ more)) (list_all is_hex_digit (digits ++ more)) run).1)
      (follows_lead z (x ∷ digits ++ more) Digit (ap lead (hex_first z (x ∷ digits) h) ∙ lead-zero) shape);
}

slash_more : (more behind rest : List ℕ) → rest ≡ more ++ behind → begins (λ b. b == 47 || b == 42) rest ≡ false → Follows Slash 47 more → more ≡ []
slash_more more behind rest e stop (inl none) = none
slash_more more behind rest e stop (inr (inl (found, f, h))) =
    absurd (both_ways _ stop (ap (begins (λ b. b == 47 || b == 42)) (e ∙ ap (λ l. l ++ behind) f)))
slash_more more behind rest e stop (inr (inr (inl (found, f, h)))) =
    absurd (both_ways _ stop (ap (begins (λ b. b == 47 || b == 42)) (e ∙ ap (λ l. l ++ behind) f)))
slash_more more behind rest e stop (inr (inr (inr (found, f, h)))) =
    absurd (both_ways _ stop (ap (begins (λ b. b == 47 || b == 42)) (e ∙ ap (λ l. l ++ behind) f)))

pub slash_whole : (rest : List ℕ) → begins (λ b. b == 47 || b == 42) rest ≡ false → IsWhole (47 ∷ []) rest
slash_whole rest stop = record {
  one = sign the_slash;
  longest = λ more behind e shape. slash_more more behind rest e stop (follows_lead 47 more Slash lead-slash shape);
}

-- a sign other than `/` that is the longest sign is the longest shape
pub sign_whole : (g : Sign) (b : ℕ) (s rest : List ℕ) → sign_bytes g ≡ b ∷ s → lead b ≡ Other → ((other : Sign) (more behind : List ℕ) → rest ≡ more ++ behind → sign_bytes g ++ more ≡ sign_bytes other → more ≡ []) → IsWhole (sign_bytes g) rest
sign_whole g b s rest e is longest = record {
  one = sign g;
  longest = λ more behind f shape.
      let whole : sign_bytes g ++ more ≡ b ∷ s ++ more = ap (λ l. l ++ more) e in
      let found = follows_lead b (s ++ more) Other is (subst Shape whole shape) in
      longest found.0 more behind f (whole ∙ found.1);
}

-- an open comment goes to the end
pub opened_whole : (s : List ℕ) → IsOpenComment s → IsWhole s []
opened_whole s is = record { one = opened s is; longest = λ more behind e shape. by_list more behind e } where
  by_list : (more behind : List ℕ) → [] ≡ more ++ behind → more ≡ []
  by_list [] behind e = refl
  by_list (b ∷ more) behind e = absurd cc
