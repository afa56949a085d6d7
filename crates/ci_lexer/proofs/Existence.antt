-- Each source has a reading.
use Rattle.std.proofs.Common.{◌≡◌, ℕ, zero, suc, ◌+◌, ◌-◌, ◌<◌, ◌≤◌, Bool, true, false, List, [], ◌∷◌, ◌++◌, length, take, drop, get_or, Option, Some, None, sym, refl, ap, ◌∙◌, subst, arith, append_assoc, inl, inr, ◌⊎◌, ⊎_elim, pos, true≢false, ◌==◌}
use Rattle.std.specs.List.{list_all}
use Rattle.std.proofs.lemmas.Bool.{and_from, or_right, both_ways, cases_Bool, cases_lt, eqb-true, eq-eqb, ne_eqb, eqb-false}
use Rattle.std.proofs.lemmas.List.{take_rest}
use Rattle.ci_base.specs.Letters.{is_letter, is_name_byte, begins, is_white, is_digit, is_hex_digit}
use Rattle.ci_base.specs.Names.{is_name}
use Rattle.ci_base.specs.Numbers.{is_number, is_decimal, is_hexadecimal, number_value, number_limit, wrap}
use Rattle.ci_base.specs.Texts.{IsItem, AreItems, BeginsItem, is_plain, escape}
use Rattle.ci_base.specs.Texts.IsItem.{plain}
use Rattle.ci_base.specs.Texts.AreItems.{none as no_items, more as more_items}
use Rattle.ci_tree.specs.declared.token.Token.{Token}
use Rattle.ci_tree.specs.declared.token.TokenKind.{TokenKind}
use Rattle.ci_tree.specs.declared.token.TokenKind.TheVariants as kinds
use Rattle.ci_tree.specs.declared.token.Sign.{Sign}
use Rattle.ci_tree.specs.declared.token.Sign.TheVariants as signs
use Rattle.ci_tree.specs.Comments.{has_close, is_inline}
use Rattle.ci_tree.specs.Shapes.{IsWhole, is_hash}
use Rattle.ci_tree.specs.Tokens.{BlankAt, TokenAt, Reads, Spells, after_mark}
use Rattle.ci_tree.specs.Tokens.Reads.{here as no_more, blank as blank_first, token as token_first}
use Rattle.ci_tree.specs.Words.{reserved}
use Rattle.ci_lexer.specs.declared.fault.LexFault.{LexFault}
use Rattle.ci_lexer.specs.declared.fault.LexFault.TheVariants as faults
use Rattle.ci_lexer.specs.declared.lead.Lead.{Lead}
use Rattle.ci_lexer.specs.declared.lead.Lead.TheVariants.{Letter, Digit, White, Quote, Hash, Mark, Slash, Other}
use Rattle.ci_literals.specs.Items.{hex_escape}
use Rattle.ci_lexer.specs.Faults.{FaultAt}
use Rattle.ci_lexer.specs.Faults.FaultAt.{open_comment}
use Rattle.ci_lexer.specs.Comments.{IsClosed, closes}
use Rattle.ci_lexer.specs.Numbers.{hex_start}
use Rattle.ci_lexer.specs.Signs.{single_sign, double_sign, double_at}
use Rattle.ci_lexer.specs.Leads.{lead, Leads}
use Rattle.ci_literals.proofs.Cuts.{no_item, no_item_end}
use Rattle.ci_lexer.proofs.Backs.{slash-lead}
use Rattle.ci_lexer.proofs.Closing.{closed_here, closed_step, has_close-step, slash_alone, decimal_number, decimal_longest, split_at, text_step, escape_fault, long_fault, open_fault}
use Rattle.ci_literals.proofs.Escaping.{plain_at, end_at, short_at, hex_at, no_escape}
use Rattle.ci_lexer.proofs.Reading.{shorter, mark_short}
use Rattle.ci_lexer.proofs.Steps.{white_step, hash_step, hash_fault, mark_step, slashed_step, enclosed_step, slash_step, word_name, word_step, word_fault, sign_step, stray_fault, double_at_sign, single_at_sign, no_sign, number_fault, run_on_fault}
use Rattle.ci_lexer.proofs.Words.{reserved_spells}

-- a front of bytes that pass, as long as possible
record Run (p : ℕ → Bool) (s : List ℕ) : Type 0 where
  front : List ℕ
  rest : List ℕ
  whole : s ≡ front ++ rest
  each : list_all p front ≡ true
  longest : begins p rest ≡ false

run : (p : ℕ → Bool) (s : List ℕ) → Run p s
run p [] = record { front = []; rest = []; whole = refl; each = refl; longest = refl }
run p (b ∷ s) =
    ⊎_elim
    (λ yes.
    let more = run p s in
    record {
      front = b ∷ more.front;
      rest = more.rest;
      whole = ap (λ l. b ∷ l) more.whole;
      each = and_from (p b) (list_all p more.front) yes more.each;
      longest = more.longest;
    })
    (λ stop. record { front = []; rest = b ∷ s; whole = refl; each = refl; longest = stop })
    (cases_Bool (p b))

-- a blank, a token or a fault
abbrev Next : ℕ → List ℕ → Type 0
Next at s =
    ((rest : List ℕ) × BlankAt s rest)
    ⊎ (((k : TokenKind) × (rest : List ℕ) × TokenAt k s rest)
    ⊎ ((fault : LexFault) × FaultAt (at + length s) s fault))

blank_next : (at : ℕ) (s rest : List ℕ) → BlankAt s rest → Next at s
blank_next at s rest is = inl (rest, is)

token_next : (at : ℕ) (s rest : List ℕ) (k : TokenKind) → TokenAt k s rest → Next at s
token_next at s rest k is = inr (inl (k, rest, is))

fault_next : (at : ℕ) (s : List ℕ) (fault : LexFault) → FaultAt (at + length s) s fault → Next at s
fault_next at s fault is = inr (inr (fault, is))

-- the token of a word that is short enough
word_kind : (word : List ℕ) (o : Option TokenKind) → reserved word ≡ o → is_name word ≡ true → length word ≤ 64 → (k : TokenKind) × Spells k word
word_kind word None e is short = (kinds.Name word, (refl, is, e, short))
word_kind word (Some k) e is short = (k, reserved_spells word k is e)

letter_next : (at : ℕ) (s : List ℕ) → Leads Letter s → Next at s
letter_next at s leads =
    let r = run is_name_byte s in
    let is = word_name s r.front r.rest leads r.whole r.each r.longest in
    ⊎_elim
    (λ long. fault_next at s (faults.NameTooLong at) (word_fault s r.front r.rest at leads r.whole r.each r.longest long))
    (λ short.
    let kind = word_kind r.front (reserved r.front) refl is short in
    token_next at s r.rest kind.0 (word_step s r.front r.rest kind.0 leads r.whole r.each r.longest kind.1))
    (cases_lt 64 (length r.front))

number_next : (at : ℕ) (s spelled rest : List ℕ) → s ≡ spelled ++ rest → is_number spelled ≡ true → IsWhole spelled rest → Next at s
number_next at s spelled rest e is longest =
    ⊎_elim
    (λ large. fault_next at s (faults.NumberTooLarge at) (number_fault s spelled rest at e is longest large))
    (λ fits.
    ⊎_elim
    (λ letter. fault_next at s (faults.StrayByte (at + length spelled)) (run_on_fault s spelled rest at e is longest fits letter))
    (λ apart. token_next at s rest (kinds.Number (wrap (pos (number_value spelled)))) (number_token s spelled rest e is longest fits apart))
    (cases_Bool (begins is_letter rest)))
    (cases_lt (number_limit spelled) (number_value spelled)) where
      number_token : (s spelled rest : List ℕ) → s ≡ spelled ++ rest → is_number spelled ≡ true → IsWhole spelled rest → number_value spelled ≤ number_limit spelled → begins is_letter rest ≡ false → TokenAt (kinds.Number (wrap (pos (number_value spelled)))) s rest
      number_token s spelled rest e is longest fits apart = record {
        spelled = spelled;
        whole = e;
        token = inr (is, fits, refl);
        longest = longest;
        apart = λ _. apart;
      }

hexadecimal_next : (at : ℕ) (s : List ℕ) → hex_start s ≡ true → Next at s
hexadecimal_next at [] start = absurd (true≢false (sym start))
hexadecimal_next at (z ∷ []) start = absurd (true≢false (sym start))
hexadecimal_next at (z ∷ x ∷ t) start =
    let r = run is_hex_digit t in
    let split = split_at z x t r.front r.rest start r.whole r.each r.longest in
    number_next at (z ∷ x ∷ t) (z ∷ x ∷ r.front) r.rest split.whole (or_right (is_decimal (z ∷ x ∷ r.front)) (is_hexadecimal (z ∷ x ∷ r.front)) split.is) split.longest

digit_next : (at : ℕ) (s : List ℕ) → Leads Digit s → Next at s
digit_next at s leads =
    ⊎_elim
    (hexadecimal_next at s)
    (λ start.
    let r = run is_digit s in
    number_next at s r.front r.rest r.whole (decimal_number s r.front r.rest leads r.whole r.each r.longest) (decimal_longest s r.front r.rest leads r.whole r.each r.longest start))
    (cases_Bool (hex_start s))

white_next : (at : ℕ) (s : List ℕ) → Leads White s → Next at s
white_next at s leads =
    let r = run is_white s in
    blank_next at s r.rest (white_step s r.front r.rest leads r.whole r.each r.longest)

hash_next : (at : ℕ) (s : List ℕ) → Leads Hash s → Next at s
hash_next at s leads =
    let r = run is_hash s in
    ⊎_elim
    (λ long. fault_next at s (faults.TextTooLong at) (hash_fault s r.front r.rest at leads r.whole r.each r.longest long))
    (λ short. token_next at s r.rest (kinds.Hashes (length r.front)) (hash_step s r.front r.rest leads r.whole r.each r.longest short))
    (cases_lt 255 (length r.front))

mark_next : (at b : ℕ) (s : List ℕ) → Leads Mark (b ∷ s) → Next at (b ∷ s)
mark_next at b s leads =
    let r = run is_inline s in
    blank_next at (b ∷ s) r.rest (mark_step (b ∷ s) s r.front r.rest leads refl r.whole r.each r.longest)

-- a comment is closed or not
closed_or_open : (body : List ℕ) → ((rest : List ℕ) × IsClosed body rest) ⊎ (has_close body ≡ false)
closed_or_open [] = inr refl
closed_or_open (a ∷ s) =
    ⊎_elim
    (λ here. inl (take (length (a ∷ s) - 2) (drop 2 (a ∷ s)), closed_here (a ∷ s) here))
    (λ unlike.
    ⊎_elim
    (λ found. inl (found.0, closed_step a s found.0 unlike found.1))
    (λ none. inr (sym (has_close-step a s unlike) ∙ none))
    (closed_or_open s))
    (cases_Bool (closes (a ∷ s)))

slash_next : (at : ℕ) (s : List ℕ) → Next at (47 ∷ s)
slash_next at s =
    ⊎_elim
    (λ second. line_next s (second_is s 47 second))
    (λ unlike.
    ⊎_elim
    (λ second. enclosed_next s (second_is s 42 second))
    (λ other. token_next at (47 ∷ s) s (kinds.Sign signs.Slash) (slash_step (47 ∷ s) s refl (slash_alone s unlike other)))
    (cases_Bool (begins (λ c. c == 42) s)))
    (cases_Bool (begins (λ c. c == 47) s)) where
      second_is : (s : List ℕ) (b : ℕ) → begins (λ c. c == b) s ≡ true → (body : List ℕ) × (s ≡ b ∷ body)
      second_is [] b h = absurd (true≢false (sym h))
      second_is (c ∷ s) b h = (s, ap (λ x. x ∷ s) (eqb-true c b h))

      line_next : (s : List ℕ) → (body : List ℕ) × (s ≡ 47 ∷ body) → Next at (47 ∷ s)
      line_next s (body, e) =
          let r = run is_inline body in
          blank_next at (47 ∷ s) r.rest (slashed_step (47 ∷ s) body r.front r.rest (ap (λ l. 47 ∷ l) e) r.whole r.each r.longest)

      enclosed_next : (s : List ℕ) → (body : List ℕ) × (s ≡ 42 ∷ body) → Next at (47 ∷ s)
      enclosed_next s (body, e) =
          ⊎_elim
          (λ found. blank_next at (47 ∷ s) found.0 (enclosed_step (47 ∷ s) body found.0 (ap (λ l. 47 ∷ l) e) found.1))
          (λ none. fault_next at (47 ∷ s) (faults.OpenComment at) (open_comment (47 ∷ s) at refl (body, ap (λ l. 47 ∷ l) e, none)))
          (closed_or_open body)

-- a sign, or a byte with which nothing begins
other_next : (at b : ℕ) (s : List ℕ) → Leads Other (b ∷ s) → Next at (b ∷ s)
other_next at b s leads = by_double (double_at b s) refl where
  by_single : (o : Option Sign) → single_sign b ≡ o → double_at b s ≡ None → Next at (b ∷ s)
  by_single (Some g) e none = token_next at (b ∷ s) s (kinds.Sign g) (sign_step (b ∷ s) s g leads (single_at_sign (b ∷ s) s b g refl e none))
  by_single None e none = fault_next at (b ∷ s) (faults.StrayByte at) (stray_fault (b ∷ s) at leads (no_sign b s leads e))

  two : (t : List ℕ) (g : Sign) → double_at b t ≡ Some g → (c : ℕ) × (rest : List ℕ) × (t ≡ c ∷ rest) × (double_sign b c ≡ Some g)
  two [] g e = absurd cc
  two (c ∷ rest) g e = (c, rest, refl, e)

  by_double : (o : Option Sign) → double_at b s ≡ o → Next at (b ∷ s)
  by_double (Some g) e =
      let found = two s g e in
      token_next at (b ∷ s) found.1 (kinds.Sign g) (sign_step (b ∷ s) found.1 g leads (double_at_sign (b ∷ s) found.1 b found.0 g (ap (λ l. b ∷ l) found.2) found.3))
  by_double None e = by_single (single_sign b) refl e

some_bytes : (b : ℕ) (s : List ℕ) → (length (b ∷ s) == 0) ≡ false
some_bytes b s = ne_eqb (length (b ∷ s)) 0 (λ e. omega arith)

-- an item stands at the front or not
item_or_not : (s : List ℕ) → BeginsItem s ⊎ (BeginsItem s → ⊥)
item_or_not [] = inr no_item_end
item_or_not (b ∷ s) =
    ⊎_elim
    (λ is. inl (begun (b ∷ s) _ _ (plain_at (b ∷ s) (some_bytes b s) is)))
    (λ unlike. ⊎_elim (by_caret b s) (λ other. inr (no_item b s unlike (λ e. both_ways (b == 94) other (eq-eqb b 94 e)))) (cases_Bool (b == 94)))
    (cases_Bool (is_plain b)) where
      begun : (s : List ℕ) (value : ℕ) (rest : List ℕ) → (item : List ℕ) × IsItem item value × (s ≡ item ++ rest) → BeginsItem s
      begun s value rest (item, is, e) = (item, rest, value, is, e)

      by_letter : (s : List ℕ) → begins (λ c. c == 94) s ≡ true → hex_escape s ≡ false → (o : Option ℕ) → escape (get_or s 1 0) ≡ o → BeginsItem s ⊎ (BeginsItem s → ⊥)
      by_letter s caret unlike None e = inr (no_escape s caret (λ _. e) unlike)
      by_letter s caret unlike (Some value) e =
          ⊎_elim
          (λ long. inl (begun s value _ (short_at s value caret long e)))
          (λ short. inr (no_escape s caret (λ long. absurd (omega arith)) unlike))
          (cases_lt 1 (length s))

      by_caret : (b : ℕ) (s : List ℕ) → (b == 94) ≡ true → BeginsItem (b ∷ s) ⊎ (BeginsItem (b ∷ s) → ⊥)
      by_caret b s caret =
          ⊎_elim
          (λ hex. inl (begun (b ∷ s) _ _ (hex_at (b ∷ s) hex)))
          (λ unlike. by_letter (b ∷ s) caret unlike (escape (get_or (b ∷ s) 1 0)) refl)
          (cases_Bool (hex_escape (b ∷ s)))

-- so many items, or all that there are
record Cut (k : ℕ) (s : List ℕ) : Type 0 where
  items : List ℕ
  value : List ℕ
  rest : List ℕ
  are : AreItems items value
  whole : s ≡ items ++ rest
  end : (length value ≡ k) ⊎ ((length value < k) × (BeginsItem rest → ⊥))

cut : (k : ℕ) (s : List ℕ) → Cut k s
cut zero s = record { items = []; value = []; rest = s; are = no_items; whole = refl; end = inl refl }
cut (suc k) s =
    ⊎_elim
    (λ begun.
    let after = cut k begun.1 in
    record {
      items = begun.0 ++ after.items;
      value = begun.2 ∷ after.value;
      rest = after.rest;
      are = more_items begun.0 after.items begun.2 after.value begun.3 after.are;
      whole = begun.4 ∙ ap (λ l. begun.0 ++ l) after.whole ∙ sym (append_assoc begun.0 after.items after.rest);
      end = ⊎_elim (λ full. inl (ap suc full)) (λ less. inr (omega (arith, less.0), less.1)) after.end;
    })
    (λ none. record { items = []; value = []; rest = s; are = no_items; whole = refl; end = inr (omega arith, none) })
    (item_or_not s)

-- a text of less than 256 bytes: closed, refused at a caret, or open
rest_next : (at b : ℕ) (s items value rest : List ℕ) → Leads Quote (b ∷ s) → take (length (b ∷ s) - 1) (drop 1 (b ∷ s)) ≡ items ++ rest → AreItems items value → length value ≤ 255 → (BeginsItem rest → ⊥) → Next at (b ∷ s)
rest_next at b s items value [] leads e are short none =
    fault_next at (b ∷ s) (faults.OpenString at) (open_fault (b ∷ s) items value [] at leads e are short refl)
rest_next at b s items value (c ∷ rest) leads e are short none =
    ⊎_elim
    (λ quote. token_next at (b ∷ s) rest (kinds.Text value) (text_step (b ∷ s) items value rest leads (e ∙ ap (λ x. items ++ x ∷ rest) (eqb-true c 34 quote)) are short))
    (λ no_quote.
    ⊎_elim
    (λ caret. fault_next at (b ∷ s) (faults.BadEscape at) (escape_fault (b ∷ s) items value rest at leads (e ∙ ap (λ x. items ++ x ∷ rest) (eqb-true c 94 caret)) are short (subst (λ x. BeginsItem (x ∷ rest) → ⊥) (eqb-true c 94 caret) none)))
    (λ no_caret.
    ⊎_elim
    (λ is. absurd (none (c ∷ [], rest, c, plain c is, refl)))
    (λ unlike. fault_next at (b ∷ s) (faults.OpenString at) (open_fault (b ∷ s) items value (c ∷ rest) at leads e are short (end_at (c ∷ rest) (some_bytes c rest) unlike (eqb-false c 34 no_quote) (eqb-false c 94 no_caret))))
    (cases_Bool (is_plain c)))
    (cases_Bool (c == 94)))
    (cases_Bool (c == 34))

quote_next : (at b : ℕ) (s : List ℕ) → Leads Quote (b ∷ s) → Next at (b ∷ s)
quote_next at b s leads =
    let all = cut 256 s in
    let tail : take (length (b ∷ s) - 1) (drop 1 (b ∷ s)) ≡ all.items ++ all.rest = take_rest (b ∷ s) 1 ∙ all.whole in
    ⊎_elim
    (λ full. fault_next at (b ∷ s) (faults.TextTooLong at) (long_fault (b ∷ s) all.items all.value all.rest at leads tail all.are full))
    (λ less. rest_next at b s all.items all.value all.rest leads tail all.are (omega (arith, less.0)) less.1)
    all.end

-- what comes next, by the first byte
next : (at : ℕ) (s : List ℕ) → 0 < length s → Next at s
next at [] some = absurd (omega arith)
next at (b ∷ s) some = by_lead (lead b) refl where
  by_lead : (kind : Lead) → lead b ≡ kind → Next at (b ∷ s)
  by_lead Letter e = letter_next at (b ∷ s) e
  by_lead Digit e = digit_next at (b ∷ s) e
  by_lead White e = white_next at (b ∷ s) e
  by_lead Quote e = quote_next at b s e
  by_lead Hash e = hash_next at (b ∷ s) e
  by_lead Mark e = mark_next at b s e
  by_lead Slash e = subst (λ x. Next at (x ∷ s)) (sym (slash-lead b e)) (slash_next at s)
  by_lead Other e = other_next at b s e

-- a reading to the end or to a fault
abbrev pub Ends : ℕ → List ℕ → Type 0
Ends size s =
    ((ts : List Token) × Reads size s ts [])
    ⊎ ((fault : LexFault) × (ts : List Token) × (rest : List ℕ) × Reads size s ts rest × FaultAt size rest fault)

after_blank : (size : ℕ) (s rest : List ℕ) → BlankAt s rest → Ends size rest → Ends size s
after_blank size s rest at (inl (ts, so_far)) = inl (ts, blank_first s rest ts [] at so_far)
after_blank size s rest at (inr (fault, ts, end, so_far, found)) = inr (fault, ts, end, blank_first s rest ts end at so_far, found)

after_token : (size place : ℕ) (s rest : List ℕ) (k : TokenKind) → TokenAt k s rest → place + length s ≡ size → Ends size rest → Ends size s
after_token size place s rest k at there (inl (ts, so_far)) =
    let t : Token = record { what = k; place = place } in inl (t ∷ ts, token_first s rest t ts [] at there so_far)
after_token size place s rest k at there (inr (fault, ts, end, so_far, found)) =
    let t : Token = record { what = k; place = place } in inr (fault, t ∷ ts, end, token_first s rest t ts end at there so_far, found)

ends : (n size : ℕ) (s : List ℕ) → length s ≤ n → length s ≤ size → Ends size s
ends n size [] within fits = inl ([], no_more [] [] refl)
ends zero size (b ∷ s) within fits = absurd (omega arith)
ends (suc n) size (b ∷ s) within fits = by_next (next (size - length (b ∷ s)) (b ∷ s) (omega arith)) (ends n size) where
  there : (size - length (b ∷ s)) + length (b ∷ s) ≡ size
  there = omega arith

  by_next : Next (size - length (b ∷ s)) (b ∷ s) → ((t : List ℕ) → length t ≤ n → length t ≤ size → Ends size t) → Ends size (b ∷ s)
  by_next (inl (rest, at)) later =
      let less = shorter (b ∷ s) at.spelled rest at.whole at.longest in
      after_blank size (b ∷ s) rest at (later rest (omega arith) (omega arith))
  by_next (inr (inl (k, rest, at))) later =
      let less = shorter (b ∷ s) at.spelled rest at.whole at.longest in
      after_token size (size - length (b ∷ s)) (b ∷ s) rest k at there (later rest (omega arith) (omega arith))
  by_next (inr (inr (fault, found))) later =
      inr (fault, [], b ∷ s, no_more (b ∷ s) (b ∷ s) refl, subst (λ m. FaultAt m (b ∷ s) fault) there found)

pub source_ends : (source : List ℕ) → Ends (length source) (after_mark source)
source_ends source = ends (length source) (length source) (after_mark source) (mark_short source) (mark_short source)
