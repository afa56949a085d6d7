-- The words that are no names.
use Rattle.std.proofs.Common.{find, option_map, Bor, ◌++◌, ◌≡◌, ℕ, ◌<◌, Bool, true, false, cond, List, [], ◌∷◌, length, map, Option, Some, None, bytes_eq, sym, refl, ap, ◌∙◌, subst, arith, inl, leb, ltb, pos, negsuc, ℤ, FitsSigned, w32}
use Rattle.std.specs.List.{list_all}
use Rattle.std.proofs.lemmas.List.{length-map}
use Rattle.std.proofs.lemmas.Bool.{and_parts, true≢false, false_from_ne_true, leb-true, ltb-true}
use Rattle.std.proofs.lemmas.Slice.Eq.{bytes_eq-Decides}
use Rattle.ci_base.specs.Letters.{capital}
use Rattle.ci_base.specs.Names.{is_name}
use Rattle.ci_tree.specs.declared.token.Keyword.{Keyword}
use Rattle.ci_tree.specs.declared.token.TokenKind.{TokenKind}
use Rattle.ci_tree.specs.declared.token.TokenKind.TheVariants as kinds
use Rattle.ci_tree.specs.Tokens.{Spells}
use Rattle.ci_tree.specs.Words.{look_up, reserved, table}
use Rattle.ci_lexer.specs.Keywords.{spelled, truth_values}

abbrev Row : Type 0
Row = List ℕ × TokenKind

-- a keyword's row of the table
abbrev keyword_row : Bor (List ℕ) × Keyword → Row
keyword_row row = (row.0.now, kinds.Keyword row.1)

-- what a word makes by the keyword that it spells, or else by its truth value
abbrev made_by : List ℕ → Option Keyword → Option TokenKind
made_by word (Some k) = Some (kinds.Keyword k)
made_by word None = look_up truth_values word

look_up_spelled : (word : List ℕ) (rows : List (Bor (List ℕ) × Keyword)) → look_up (map keyword_row rows ++ truth_values) word ≡ made_by word (spelled word rows)
unfolding spelled
look_up_spelled word [] = refl
look_up_spelled word (row ∷ rows) = by (bytes_eq word row.0.now) (look_up_spelled word rows)
  where
    by : (b : Bool) → look_up (map keyword_row rows ++ truth_values) word ≡ made_by word (spelled word rows) → cond b (Some (kinds.Keyword row.1)) (look_up (map keyword_row rows ++ truth_values) word) ≡ made_by word (option_map (λ r. r.1) (cond b (Some row) (find (λ r. bytes_eq word r.0.now) rows)))
    by true h = refl
    by false h = h

-- where the keywords and the truth values are the table, a word makes what it does by the table
pub made : (word : List ℕ) (rows : List (Bor (List ℕ) × Keyword)) (o : Option Keyword) → o ≡ spelled word rows → map keyword_row rows ++ truth_values ≡ table → made_by word o ≡ look_up table word
made word rows o e all = ap (made_by word) e ∙ sym (look_up_spelled word rows) ∙ ap (λ t. look_up t word) all

-- no row of the table has more than nine bytes
none_longer : (rows : List Row) (word : List ℕ) → list_all (λ row. leb (length row.0) 9) rows ≡ true → 9 < length word → look_up rows word ≡ None
none_longer [] word all long = refl
none_longer (row ∷ rows) word all long =
    let parts = and_parts (leb (length row.0) 9) (list_all (λ r. leb (length r.0) 9) rows) all in
    let most = leb-true (length row.0) 9 parts.0 in
    let differs : bytes_eq word row.0 ≡ false =
    false_from_ne_true (bytes_eq word row.0) (λ same. let e : length word ≡ length row.0 = ap length ((bytes_eq-Decides word row.0).0 same) in absurd (omega arith)) in
    rw differs (none_longer rows word parts.1 long)

pub none_long : (word : List ℕ) → 9 < length word → reserved word ≡ None
unfolding reserved table
none_long word long = none_longer table (map capital word) refl (omega (arith, length-map word capital))

-- what words make
abbrev is_word_kind : TokenKind → Bool
is_word_kind (kinds.Name bytes) = false
is_word_kind (kinds.Keyword word) = true
is_word_kind (kinds.Number (pos n)) = ltb n 2
is_word_kind (kinds.Number (negsuc n)) = false
is_word_kind (kinds.Text value) = false
is_word_kind (kinds.Hashes count) = false
is_word_kind (kinds.Sign sign) = false

kind_by_test : (row : Row) (o : Option TokenKind) (k : TokenKind) (t : Bool) → is_word_kind row.1 ≡ true → (o ≡ Some k → is_word_kind k ≡ true) → cond t (Some row.1) o ≡ Some k → is_word_kind k ≡ true
kind_by_test row o k true here later e =
    let same : row.1 ≡ k = cc in
    subst (λ x. is_word_kind x ≡ true) same here
kind_by_test row o k false here later e = later e

found_kind : (rows : List Row) (word : List ℕ) (k : TokenKind) → list_all (λ row. is_word_kind row.1) rows ≡ true → look_up rows word ≡ Some k → is_word_kind k ≡ true
found_kind [] word k all e = absurd cc
found_kind (row ∷ rows) word k all e =
    let parts = and_parts (is_word_kind row.1) (list_all (λ r. is_word_kind r.1) rows) all in
    kind_by_test row (look_up rows word) k (bytes_eq word row.0) parts.0 (found_kind rows word k parts.1) e

-- a word that is no name spells the token that it makes
pub reserved_spells : (word : List ℕ) (k : TokenKind) → is_name word ≡ true → reserved word ≡ Some k → Spells k word
unfolding reserved table
reserved_spells word k is e = by_kind k (found_kind table (map capital word) k refl e) e where
  by_kind : (k : TokenKind) → is_word_kind k ≡ true → reserved word ≡ Some k → Spells k word
  by_kind (kinds.Name bytes) h e = absurd (true≢false (sym h))
  by_kind (kinds.Keyword k) h e = (is, e)
  by_kind (kinds.Number value) h e = inl (is, e)
  by_kind (kinds.Text value) h e = absurd (true≢false (sym h))
  by_kind (kinds.Hashes count) h e = absurd (true≢false (sym h))
  by_kind (kinds.Sign sign) h e = absurd (true≢false (sym h))

-- the number that a word makes is an INT
pub reserved_fits : (word : List ℕ) (value : ℤ) → reserved word ≡ Some (kinds.Number value) → FitsSigned w32 value
unfolding reserved table
reserved_fits word (pos n) e =
    let small = ltb-true n 2 (found_kind table (map capital word) (kinds.Number (pos n)) refl e) in
    record { sfits = omega arith }
reserved_fits word (negsuc n) e = absurd (true≢false (sym (found_kind table (map capital word) (kinds.Number (negsuc n)) refl e)))
