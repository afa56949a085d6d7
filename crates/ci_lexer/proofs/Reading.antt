-- Readings of a source: one more step, and what they keep.
use Rattle.std.proofs.Common.{◌≡◌, ℕ, ◌+◌, ◌<◌, ◌≤◌, true, List, [], ◌∷◌, ◌++◌, length, sym, refl, ap, ◌∙◌, subst, arith, length-append, append-nil, inl, inr, FitsSigned, pos, w32, true≢false}
use Rattle.std.proofs.lemmas.Int.{SFits-int_wrap}
use Rattle.std.proofs.lemmas.Bool.{cond_both}
use Rattle.ci_base.specs.Letters.{is_run, is_white}
use Rattle.ci_base.specs.Names.{is_name}
use Rattle.ci_base.specs.Numbers.{is_number, number_value}
use Rattle.ci_tree.specs.declared.token.Token.{Token}
use Rattle.ci_tree.specs.declared.token.TokenKind.{TokenKind}
use Rattle.ci_tree.specs.declared.token.TokenKind.TheVariants as kinds
use Rattle.ci_tree.specs.Comments.IsBlank.{white, marked, slashed, enclosed}
use Rattle.ci_tree.specs.Shapes.{Shape, IsWhole, is_hash}
use Rattle.ci_tree.specs.Shapes.Shape.{name, number, text, hashes, sign, blank, opened}
use Rattle.ci_tree.specs.Tokens.{BlankAt, TokenAt, Reads, Spells, IsKept, AreKept, after_mark}
use Rattle.ci_tree.specs.Tokens.Reads.{here as no_more, blank as blank_first, token as token_first}
use Rattle.ci_lexer.specs.declared.step.Front.{Front}
use Rattle.ci_lexer.specs.declared.step.Front.TheVariants as fronts
use Rattle.ci_lexer.specs.declared.fault.LexFault.{LexFault}
use Rattle.ci_lexer.specs.Faults.{FaultAt, lex_fault}
use Rattle.ci_lexer.specs.Fronts.{FrontAt, front_tokens}
use Rattle.ci_lexer.proofs.Steps.{sign_cons}
use Rattle.ci_lexer.proofs.Words.{reserved_fits}

pub read_blank : (size : ℕ) (s : List ℕ) (ts : List Token) (rest behind : List ℕ) → Reads size s ts rest → BlankAt rest behind → Reads size s ts behind
read_blank size s _ rest behind (no_more _ _ e) at =
    blank_first s behind [] behind (subst (λ l. BlankAt l behind) (sym e) at) (no_more behind behind refl)
read_blank size s _ rest behind (blank_first _ middle ts _ first more) at =
    blank_first s middle ts behind first (read_blank size middle ts rest behind more at)
read_blank size s _ rest behind (token_first _ middle t ts _ first place more) at =
    token_first s middle t ts behind first place (read_blank size middle ts rest behind more at)

pub read_token : (size : ℕ) (s : List ℕ) (ts : List Token) (rest behind : List ℕ) (u : Token) → Reads size s ts rest → TokenAt u.what rest behind → u.place + length rest ≡ size → Reads size s (ts ++ u ∷ []) behind
read_token size s _ rest behind u (no_more _ _ e) at there =
    token_first s behind u [] behind (subst (λ l. TokenAt u.what l behind) (sym e) at) (ap (λ l. u.place + length l) e ∙ there) (no_more behind behind refl)
read_token size s _ rest behind u (blank_first _ middle ts _ first more) at there =
    blank_first s middle (ts ++ u ∷ []) behind first (read_token size middle ts rest behind u more at there)
read_token size s _ rest behind u (token_first _ middle t ts _ first place more) at there =
    token_first s middle t (ts ++ u ∷ []) behind first place (read_token size middle ts rest behind u more at there)

pub read_front : (size : ℕ) (s : List ℕ) (ts : List Token) (rest behind : List ℕ) (front : Front) (at : ℕ) → Reads size s ts rest → FrontAt front rest behind → at + length rest ≡ size → Reads size s (ts ++ front_tokens front at) behind
read_front size s ts rest behind fronts.Blank at so_far found there =
    subst (λ l. Reads size s l behind) (sym (append-nil ts)) (read_blank size s ts rest behind so_far found)
read_front size s ts rest behind (fronts.Token what) at so_far found there =
    read_token size s ts rest behind (record { what = what; place = at }) so_far found there

-- no shape is empty
pub shape_some : (s : List ℕ) → Shape s → 0 < length s
shape_some _ (name s h) = by_list s h where
  by_list : (s : List ℕ) → is_name s ≡ true → 0 < length s
  by_list [] h = absurd (true≢false (sym h))
  by_list (b ∷ s) h = omega arith
shape_some _ (number s h) = by_list s h where
  by_list : (s : List ℕ) → is_number s ≡ true → 0 < length s
  by_list [] h = absurd (true≢false (sym h))
  by_list (b ∷ s) h = omega arith
shape_some _ (text s value is) = omega (arith, ap length is.2)
shape_some _ (hashes s h) = by_list s h where
  by_list : (s : List ℕ) → is_run is_hash s ≡ true → 0 < length s
  by_list [] h = absurd (true≢false (sym h))
  by_list (b ∷ s) h = omega arith
shape_some _ (sign g) = omega (arith, ap length (sign_cons g))
shape_some _ (blank _ (white s h)) = by_list s h where
  by_list : (s : List ℕ) → is_run is_white s ≡ true → 0 < length s
  by_list [] h = absurd (true≢false (sym h))
  by_list (b ∷ s) h = omega arith
shape_some _ (blank _ (marked body h)) = omega arith
shape_some _ (blank _ (slashed body h)) = omega arith
shape_some _ (blank _ (enclosed body h)) = omega arith
shape_some _ (opened s is) = omega (arith, ap length is.1)

pub shorter : (s spelled rest : List ℕ) → s ≡ spelled ++ rest → IsWhole spelled rest → length rest < length s
shorter s spelled rest e longest =
    omega (arith, ap length e, length-append spelled rest, shape_some spelled longest.one)

-- a token keeps what is said of its kind
pub spells_kept : (what : TokenKind) (s : List ℕ) → Spells what s → 0 < length s → IsKept what
spells_kept (kinds.Name bytes) s is some = subst (λ l. IsKept (kinds.Name l)) (sym is.0) (is.1, is.2, is.3)
spells_kept (kinds.Keyword word) s is some = tt
spells_kept (kinds.Number value) s (inl is) some = reserved_fits s value is.1
spells_kept (kinds.Number value) s (inr is) some = subst (λ z. FitsSigned w32 z) (sym is.2) (SFits-int_wrap w32 (pos (number_value s)))
spells_kept (kinds.Text value) s is some = is.1
spells_kept (kinds.Hashes count) s is some = (omega (arith, is.1), omega (arith, is.1, is.2))
spells_kept (kinds.Sign g) s is some = tt

-- so do all tokens, and their places rise
pub read_kept : (size low : ℕ) (s : List ℕ) (ts : List Token) (rest : List ℕ) → Reads size s ts rest → low + length s ≤ size → size ≤ 262144 → AreKept low ts
read_kept size low s _ rest (no_more _ _ e) within short = tt
read_kept size low s _ rest (blank_first _ behind ts _ first more) within short =
    let less = shorter s first.spelled behind first.whole first.longest in
    read_kept size low behind ts rest more (omega arith) short
read_kept size low s _ rest (token_first _ behind t ts _ first place more) within short =
    let less = shorter s first.spelled behind first.whole first.longest in (
      spells_kept t.what first.spelled first.token (shape_some first.spelled first.longest.one),
      omega (arith, place),
      omega (arith, place),
      read_kept size (t.place + 1) behind ts rest more (omega (arith, place)) short,
    )

-- there are no more tokens than bytes
pub read_count : (size : ℕ) (s : List ℕ) (ts : List Token) (rest : List ℕ) → Reads size s ts rest → length ts + length rest ≤ length s
read_count size s _ rest (no_more _ _ e) = omega (arith, ap length e)
read_count size s _ rest (blank_first _ behind ts _ first more) =
    omega (arith, shorter s first.spelled behind first.whole first.longest, read_count size behind ts rest more)
read_count size s _ rest (token_first _ behind t ts _ first place more) =
    omega (arith, shorter s first.spelled behind first.whole first.longest, read_count size behind ts rest more)

pub mark_short : (s : List ℕ) → length (after_mark s) ≤ length s
mark_short [] = omega arith
mark_short (a ∷ []) = omega arith
mark_short (a ∷ b ∷ []) = omega arith
mark_short (a ∷ b ∷ c ∷ s) = cond_both _ s (a ∷ b ∷ c ∷ s) (λ l. length l ≤ length (a ∷ b ∷ c ∷ s)) (λ _. omega arith) (λ _. omega arith)

-- what is refused behind what was read
pub read_fault : (source : List ℕ) (ts : List Token) (rest : List ℕ) (at : ℕ) (fault : LexFault) → Reads (length source) (after_mark source) ts rest → at + length rest ≡ length source → FaultAt (at + length rest) rest fault → lex_fault source fault
read_fault source ts rest at fault so_far there found =
    (ts, rest, so_far, subst (λ n. FaultAt n rest fault) there found)

-- a step leaves less
pub front_shorter : (front : Front) (s rest : List ℕ) → FrontAt front s rest → length rest < length s
front_shorter fronts.Blank s rest found = shorter s found.spelled rest found.whole found.longest
front_shorter (fronts.Token what) s rest found = shorter s found.spelled rest found.whole found.longest
