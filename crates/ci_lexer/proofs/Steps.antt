-- From what is at the front to the step that it makes.
use Rattle.std.proofs.Common.{◌≡◌, ℕ, ◌+◌, ◌-◌, ◌<◌, ◌≤◌, Bool, true, false, ◌&&◌, ◌||◌, List, [], ◌∷◌, ◌++◌, length, take, drop, get_or, sym, refl, ap, ap₂, ◌∙◌, subst, subst₂, true≢false, inl, inr, ◌⊎◌, ⊎_elim, arith, ◌==◌, append_assoc, pos, w32, to_z, length-append, Some, None, Option, cond, suc, ◌^◌, ℤ, mod-eq_of_lt, lt_of_le_of_lt}
use Rattle.std.specs.List.{list_all}
use Rattle.std.specs.Int.{int_wrap}
use Rattle.std.proofs.lemmas.Bool.{and_parts, and_from, or_left, eqb-true, both_ways}
use Rattle.std.proofs.lemmas.List.{take_rest, nil_from_length}
use Rattle.ci_base.specs.Letters.{is_digit, is_letter, is_white, is_name_byte, is_capital, is_small, begins, is_run}
use Rattle.ci_base.specs.Names.{is_name}
use Rattle.ci_base.specs.Numbers.{is_hexadecimal, is_number, number_value, number_limit, wrap}
use Rattle.ci_tree.specs.declared.token.Sign.{Sign}
use Rattle.ci_tree.specs.declared.token.Sign.TheVariants.{Slash as the_slash}
use Rattle.ci_tree.specs.declared.token.TokenKind.TheVariants as kinds
use Rattle.ci_tree.specs.Comments.{is_inline}
use Rattle.ci_tree.specs.Comments.IsBlank.{white, marked, slashed, enclosed}
use Rattle.ci_tree.specs.Shapes.{IsWhole, is_hash}
use Rattle.ci_tree.specs.Signs.{sign_bytes}
use Rattle.ci_tree.specs.declared.token.TokenKind.{TokenKind}
use Rattle.ci_tree.specs.declared.token.Sign.TheVariants as signs
use Rattle.ci_tree.specs.Tokens.{BlankAt, TokenAt, Spells}
use Rattle.ci_lexer.specs.declared.fault.LexFault.TheVariants.{StrayByte, TextTooLong, NameTooLong, NumberTooLarge}
use Rattle.ci_lexer.specs.declared.lead.Lead.{Lead}
use Rattle.ci_lexer.specs.declared.lead.Lead.TheVariants.{Letter, Digit, White, Hash, Mark, Other}
use Rattle.ci_lexer.specs.Faults.{FaultAt}
use Rattle.ci_lexer.specs.Faults.FaultAt.{too_many_hashes, name_too_long, stray, run_on, number_too_large}
use Rattle.ci_lexer.specs.Comments.{IsClosed}
use Rattle.ci_lexer.specs.Signs.{IsSignAt, single_sign, double_sign, double_at}
use Rattle.ci_lexer.specs.Leads.{lead, Leads}
use Rattle.ci_lexer.proofs.Backs.{begins-lead, is_letter-lead, is_white-lead, hash-lead, mark-lead}
use Rattle.ci_lexer.proofs.Runs.{begins_run}
use Rattle.ci_lexer.proofs.Wholes.{white_whole, hash_whole, mark_whole, slashed_whole, enclosed_whole, slash_whole, word_whole, sign_whole}
use Rattle.ci_lexer.proofs.Leading.{follows_lead, number_lead}

-- a list with a first byte
pub first_rest : (kind : Lead) (s : List ℕ) → Leads kind s → s ≡ get_or s 0 0 ∷ take (length s - 1) (drop 1 s)
first_rest kind [] h = absurd h
first_rest kind (b ∷ s) h = ap (λ l. b ∷ l) (sym (take_rest (b ∷ s) 1))

-- its first byte's lead
pub first_lead : (kind : Lead) (s : List ℕ) → Leads kind s → lead (get_or s 0 0) ≡ kind
first_lead kind [] h = absurd h
first_lead kind (b ∷ s) h = h

pub white_step : (s front rest : List ℕ) → Leads White s → s ≡ front ++ rest → list_all is_white front ≡ true → begins is_white rest ≡ false → BlankAt s rest
white_step s front rest leads e all stop =
    let first = begins_run is_white is_white s front rest e (begins-lead White is_white is_white-lead s leads) (λ b h. h) stop in
    let run : is_run is_white front ≡ true = and_from (begins is_white front) (list_all is_white front) first all in
    record {
      spelled = front;
      whole = e;
      blank = white front run;
      longest = white_whole front rest run stop;
    }

-- what has another lead is no number
pub not_number : (kind : Lead) (s front rest : List ℕ) → Leads kind s → (Digit ≡ kind → ⊥) → s ≡ front ++ rest → is_number front ≡ true → ⊥
not_number kind s [] rest leads differs e number = true≢false (sym number)
not_number kind [] (b ∷ front) rest leads differs e number = leads
not_number kind (c ∷ s) (b ∷ front) rest leads differs e number =
    let same : c ≡ b = ap (λ l. get_or l 0 0) e in
    differs (sym (number_lead b front number) ∙ ap lead (sym same) ∙ leads)

hash_run : (s front rest : List ℕ) → Leads Hash s → s ≡ front ++ rest → list_all is_hash front ≡ true → begins is_hash rest ≡ false → is_run is_hash front ≡ true
hash_run s front rest leads e all stop =
    and_from (begins is_hash front) (list_all is_hash front)
    (begins_run is_hash is_hash s front rest e (begins-lead Hash is_hash hash-lead s leads) (λ b h. h) stop) all

pub hash_step : (s front rest : List ℕ) → Leads Hash s → s ≡ front ++ rest → list_all is_hash front ≡ true → begins is_hash rest ≡ false → length front ≤ 255 → TokenAt (kinds.Hashes (length front)) s rest
hash_step s front rest leads e all stop short =
    let run = hash_run s front rest leads e all stop in
    record {
      spelled = front;
      whole = e;
      token = (run, refl, short);
      longest = hash_whole front rest run stop;
      apart = λ number. absurd (not_number Hash s front rest leads (λ h. cc) e number);
    }

pub hash_fault : (s front rest : List ℕ) (at : ℕ) → Leads Hash s → s ≡ front ++ rest → list_all is_hash front ≡ true → begins is_hash rest ≡ false → 255 < length front → FaultAt (at + length s) s (TextTooLong at)
hash_fault s front rest at leads e all stop long =
    let run = hash_run s front rest leads e all stop in
    too_many_hashes s at front rest e refl run (hash_whole front rest run stop) long

pub mark_step : (s body front rest : List ℕ) → Leads Mark s → s ≡ get_or s 0 0 ∷ body → body ≡ front ++ rest → list_all is_inline front ≡ true → begins is_inline rest ≡ false → BlankAt s rest
mark_step s body front rest leads e split all stop = record {
  spelled = 33 ∷ front;
  whole = e ∙ ap₂ (λ x xs. x ∷ xs) (mark-lead (get_or s 0 0) (first_lead Mark s leads)) split;
  blank = marked front all;
  longest = mark_whole front rest all stop;
}

pub slashed_step : (s body front rest : List ℕ) → s ≡ 47 ∷ 47 ∷ body → body ≡ front ++ rest → list_all is_inline front ≡ true → begins is_inline rest ≡ false → BlankAt s rest
slashed_step s body front rest e split all stop = record {
  spelled = 47 ∷ 47 ∷ front;
  whole = e ∙ ap (λ l. 47 ∷ 47 ∷ l) split;
  blank = slashed front all;
  longest = slashed_whole front rest all stop;
}

pub enclosed_step : (s body rest : List ℕ) → s ≡ 47 ∷ 42 ∷ body → IsClosed body rest → BlankAt s rest
enclosed_step s body rest e (inside, none, split) = record {
  spelled = 47 ∷ 42 ∷ inside ++ 42 ∷ 47 ∷ [];
  whole = e ∙ ap (λ l. 47 ∷ 42 ∷ l) (split ∙ sym (append_assoc inside (42 ∷ 47 ∷ []) rest));
  blank = enclosed inside none;
  longest = enclosed_whole inside rest none;
}

slash_no_number : is_number (47 ∷ []) ≡ false
unfolding is_digit
slash_no_number = refl

pub slash_step : (s rest : List ℕ) → s ≡ 47 ∷ rest → begins (λ b. b == 47 || b == 42) rest ≡ false → TokenAt (kinds.Sign the_slash) s rest
slash_step s rest e stop = record {
  spelled = 47 ∷ [];
  whole = e;
  token = refl;
  longest = slash_whole rest stop;
  apart = λ number. absurd (both_ways _ slash_no_number number);
}

letter_name : (b : ℕ) → is_letter b ≡ true → is_name_byte b ≡ true
unfolding is_name_byte
letter_name b h = or_left (is_letter b) (is_digit b) h

pub word_name : (s front rest : List ℕ) → Leads Letter s → s ≡ front ++ rest → list_all is_name_byte front ≡ true → begins is_name_byte rest ≡ false → is_name front ≡ true
word_name s front rest leads e all stop =
    and_from (begins is_letter front) (list_all is_name_byte front)
    (begins_run is_name_byte is_letter s front rest e (begins-lead Letter is_letter is_letter-lead s leads) letter_name stop) all

pub word_step : (s front rest : List ℕ) (what : TokenKind) → Leads Letter s → s ≡ front ++ rest → list_all is_name_byte front ≡ true → begins is_name_byte rest ≡ false → Spells what front → TokenAt what s rest
word_step s front rest what leads e all stop spells = record {
  spelled = front;
  whole = e;
  token = spells;
  longest = word_whole front rest (word_name s front rest leads e all stop) stop;
  apart = λ number. absurd (not_number Letter s front rest leads (λ h. cc) e number);
}

pub word_fault : (s front rest : List ℕ) (at : ℕ) → Leads Letter s → s ≡ front ++ rest → list_all is_name_byte front ≡ true → begins is_name_byte rest ≡ false → 64 < length front → FaultAt (at + length s) s (NameTooLong at)
word_fault s front rest at leads e all stop long =
    let is = word_name s front rest leads e all stop in
    name_too_long s at front rest e refl is (word_whole front rest is stop) long

-- a sign has a first byte
pub sign_cons : (g : Sign) → sign_bytes g ≡ get_or (sign_bytes g) 0 0 ∷ drop 1 (sign_bytes g)
sign_cons signs.LeftParen = refl
sign_cons signs.RightParen = refl
sign_cons signs.LeftBracket = refl
sign_cons signs.RightBracket = refl
sign_cons signs.Comma = refl
sign_cons signs.Semicolon = refl
sign_cons signs.Colon = refl
sign_cons signs.Equal = refl
sign_cons signs.Unequal = refl
sign_cons signs.Less = refl
sign_cons signs.Greater = refl
sign_cons signs.AtMost = refl
sign_cons signs.AtLeast = refl
sign_cons signs.Plus = refl
sign_cons signs.Minus = refl
sign_cons signs.Star = refl
sign_cons signs.Slash = refl

-- and no more than two
pub sign_short : (g : Sign) → length (sign_bytes g) ≤ 2
sign_short signs.LeftParen = omega arith
sign_short signs.RightParen = omega arith
sign_short signs.LeftBracket = omega arith
sign_short signs.RightBracket = omega arith
sign_short signs.Comma = omega arith
sign_short signs.Semicolon = omega arith
sign_short signs.Colon = omega arith
sign_short signs.Equal = omega arith
sign_short signs.Unequal = omega arith
sign_short signs.Less = omega arith
sign_short signs.Greater = omega arith
sign_short signs.AtMost = omega arith
sign_short signs.AtLeast = omega arith
sign_short signs.Plus = omega arith
sign_short signs.Minus = omega arith
sign_short signs.Star = omega arith
sign_short signs.Slash = omega arith

pub sign_step : (s rest : List ℕ) (g : Sign) → Leads Other s → IsSignAt g s rest → TokenAt (kinds.Sign g) s rest
sign_step s rest g leads (e, longest) =
    let first : get_or s 0 0 ≡ get_or (sign_bytes g) 0 0 = ap (λ l. get_or l 0 0) (e ∙ ap (λ l. l ++ rest) (sign_cons g)) in
    record {
      spelled = sign_bytes g;
      whole = e;
      token = refl;
      longest = sign_whole g (get_or (sign_bytes g) 0 0) (drop 1 (sign_bytes g)) rest (sign_cons g) (ap lead (sym first) ∙ first_lead Other s leads) longest;
      apart = λ number. absurd (not_number Other s (sign_bytes g) rest leads (λ h. cc) e number);
    }

pub stray_fault : (s : List ℕ) (at : ℕ) → Leads Other s → ((g : Sign) (more : List ℕ) → get_or s 0 0 ∷ more ≡ sign_bytes g → ⊥) → FaultAt (at + length s) s (StrayByte at)
stray_fault s at leads none =
    stray s at (get_or s 0 0) (take (length s - 1) (drop 1 s)) (first_rest Other s leads) refl
    (λ more shape. let found = follows_lead (get_or s 0 0) more Other (first_lead Other s leads) shape in none found.0 more found.1)

-- the chain of tests for signs
chosen : (t : Bool) (g k : Sign) (o : Option Sign) → cond t (Some g) o ≡ Some k → ((t ≡ true) × (g ≡ k)) ⊎ (o ≡ Some k)
chosen true g k o e = inl (refl, cc)
chosen false g k o e = inr e

at_sign : (b n : ℕ) (g k : Sign) → sign_bytes g ≡ n ∷ [] → ((b == n) ≡ true) × (g ≡ k) → sign_bytes k ≡ b ∷ []
at_sign b n g k bytes (test, same) = ap sign_bytes (sym same) ∙ bytes ∙ ap (λ x. x ∷ []) (sym (eqb-true b n test))

pub single_bytes : (b : ℕ) (k : Sign) → single_sign b ≡ Some k → sign_bytes k ≡ b ∷ []
unfolding single_sign
single_bytes b k e =
    ⊎_elim (at_sign b 40 signs.LeftParen k refl) (λ e1.
    ⊎_elim (at_sign b 41 signs.RightParen k refl) (λ e2.
    ⊎_elim (at_sign b 91 signs.LeftBracket k refl) (λ e3.
    ⊎_elim (at_sign b 93 signs.RightBracket k refl) (λ e4.
    ⊎_elim (at_sign b 44 signs.Comma k refl) (λ e5.
    ⊎_elim (at_sign b 59 signs.Semicolon k refl) (λ e6.
    ⊎_elim (at_sign b 58 signs.Colon k refl) (λ e7.
    ⊎_elim (at_sign b 61 signs.Equal k refl) (λ e8.
    ⊎_elim (at_sign b 60 signs.Less k refl) (λ e9.
    ⊎_elim (at_sign b 62 signs.Greater k refl) (λ e10.
    ⊎_elim (at_sign b 43 signs.Plus k refl) (λ e11.
    ⊎_elim (at_sign b 45 signs.Minus k refl) (λ e12.
    ⊎_elim (at_sign b 42 signs.Star k refl) (λ e13.
    absurd cc
    ) (chosen (b == 42) signs.Star k _ e12)) (chosen (b == 45) signs.Minus k _ e11)) (chosen (b == 43) signs.Plus k _ e10)) (chosen (b == 62) signs.Greater k _ e9)) (chosen (b == 60) signs.Less k _ e8)) (chosen (b == 61) signs.Equal k _ e7)) (chosen (b == 58) signs.Colon k _ e6)) (chosen (b == 59) signs.Semicolon k _ e5)) (chosen (b == 44) signs.Comma k _ e4)) (chosen (b == 93) signs.RightBracket k _ e3)) (chosen (b == 91) signs.LeftBracket k _ e2)) (chosen (b == 41) signs.RightParen k _ e1)) (chosen (b == 40) signs.LeftParen k _ e)

at_pair : (b c m n : ℕ) (g k : Sign) → sign_bytes g ≡ m ∷ n ∷ [] → ((b == m && c == n) ≡ true) × (g ≡ k) → sign_bytes k ≡ b ∷ c ∷ []
at_pair b c m n g k bytes (test, same) =
    let tests = and_parts (b == m) (c == n) test in
    ap sign_bytes (sym same) ∙ bytes ∙ ap₂ (λ x y. x ∷ y ∷ []) (sym (eqb-true b m tests.0)) (sym (eqb-true c n tests.1))

pub double_bytes : (b c : ℕ) (k : Sign) → double_sign b c ≡ Some k → sign_bytes k ≡ b ∷ c ∷ []
unfolding double_sign
double_bytes b c k e =
    ⊎_elim (at_pair b c 60 62 signs.Unequal k refl) (λ e1.
    ⊎_elim (at_pair b c 60 61 signs.AtMost k refl) (λ e2.
    ⊎_elim (at_pair b c 62 61 signs.AtLeast k refl) (λ e3. absurd cc)
    (chosen (b == 62 && c == 61) signs.AtLeast k _ e2)) (chosen (b == 60 && c == 61) signs.AtMost k _ e1)) (chosen (b == 60 && c == 62) signs.Unequal k _ e)

-- a sign of two bytes is found
pub double_found : (other : Sign) (b c : ℕ) (s : List ℕ) → b ∷ c ∷ s ≡ sign_bytes other → double_sign b c ≡ None → ⊥
unfolding double_sign
double_found signs.LeftParen b c s e none = let short : ◌≡◌ {A = ℕ} (suc (suc (length s))) 1 = ap length e in omega arith
double_found signs.RightParen b c s e none = let short : ◌≡◌ {A = ℕ} (suc (suc (length s))) 1 = ap length e in omega arith
double_found signs.LeftBracket b c s e none = let short : ◌≡◌ {A = ℕ} (suc (suc (length s))) 1 = ap length e in omega arith
double_found signs.RightBracket b c s e none = let short : ◌≡◌ {A = ℕ} (suc (suc (length s))) 1 = ap length e in omega arith
double_found signs.Comma b c s e none = let short : ◌≡◌ {A = ℕ} (suc (suc (length s))) 1 = ap length e in omega arith
double_found signs.Semicolon b c s e none = let short : ◌≡◌ {A = ℕ} (suc (suc (length s))) 1 = ap length e in omega arith
double_found signs.Colon b c s e none = let short : ◌≡◌ {A = ℕ} (suc (suc (length s))) 1 = ap length e in omega arith
double_found signs.Equal b c s e none = let short : ◌≡◌ {A = ℕ} (suc (suc (length s))) 1 = ap length e in omega arith
double_found signs.Unequal b c s e none = let at : double_sign 60 62 ≡ None = subst₂ (λ x y. double_sign x y ≡ None) (ap (λ l. get_or l 0 0) e) (ap (λ l. get_or l 1 0) e) none in cc
double_found signs.Less b c s e none = let short : ◌≡◌ {A = ℕ} (suc (suc (length s))) 1 = ap length e in omega arith
double_found signs.Greater b c s e none = let short : ◌≡◌ {A = ℕ} (suc (suc (length s))) 1 = ap length e in omega arith
double_found signs.AtMost b c s e none = let at : double_sign 60 61 ≡ None = subst₂ (λ x y. double_sign x y ≡ None) (ap (λ l. get_or l 0 0) e) (ap (λ l. get_or l 1 0) e) none in cc
double_found signs.AtLeast b c s e none = let at : double_sign 62 61 ≡ None = subst₂ (λ x y. double_sign x y ≡ None) (ap (λ l. get_or l 0 0) e) (ap (λ l. get_or l 1 0) e) none in cc
double_found signs.Plus b c s e none = let short : ◌≡◌ {A = ℕ} (suc (suc (length s))) 1 = ap length e in omega arith
double_found signs.Minus b c s e none = let short : ◌≡◌ {A = ℕ} (suc (suc (length s))) 1 = ap length e in omega arith
double_found signs.Star b c s e none = let short : ◌≡◌ {A = ℕ} (suc (suc (length s))) 1 = ap length e in omega arith
double_found signs.Slash b c s e none = let short : ◌≡◌ {A = ℕ} (suc (suc (length s))) 1 = ap length e in omega arith

-- a sign of one byte is found
pub single_found : (other : Sign) (b : ℕ) → b ∷ [] ≡ sign_bytes other → lead b ≡ Other → single_sign b ≡ None → ⊥
unfolding single_sign lead is_white is_digit is_letter is_capital is_small
single_found signs.LeftParen b e other none = let at : single_sign 40 ≡ None = subst (λ x. single_sign x ≡ None) (ap (λ l. get_or l 0 0) e) none in cc
single_found signs.RightParen b e other none = let at : single_sign 41 ≡ None = subst (λ x. single_sign x ≡ None) (ap (λ l. get_or l 0 0) e) none in cc
single_found signs.LeftBracket b e other none = let at : single_sign 91 ≡ None = subst (λ x. single_sign x ≡ None) (ap (λ l. get_or l 0 0) e) none in cc
single_found signs.RightBracket b e other none = let at : single_sign 93 ≡ None = subst (λ x. single_sign x ≡ None) (ap (λ l. get_or l 0 0) e) none in cc
single_found signs.Comma b e other none = let at : single_sign 44 ≡ None = subst (λ x. single_sign x ≡ None) (ap (λ l. get_or l 0 0) e) none in cc
single_found signs.Semicolon b e other none = let at : single_sign 59 ≡ None = subst (λ x. single_sign x ≡ None) (ap (λ l. get_or l 0 0) e) none in cc
single_found signs.Colon b e other none = let at : single_sign 58 ≡ None = subst (λ x. single_sign x ≡ None) (ap (λ l. get_or l 0 0) e) none in cc
single_found signs.Equal b e other none = let at : single_sign 61 ≡ None = subst (λ x. single_sign x ≡ None) (ap (λ l. get_or l 0 0) e) none in cc
single_found signs.Unequal b e other none = let short : ◌≡◌ {A = ℕ} 1 2 = ap length e in omega arith
single_found signs.Less b e other none = let at : single_sign 60 ≡ None = subst (λ x. single_sign x ≡ None) (ap (λ l. get_or l 0 0) e) none in cc
single_found signs.Greater b e other none = let at : single_sign 62 ≡ None = subst (λ x. single_sign x ≡ None) (ap (λ l. get_or l 0 0) e) none in cc
single_found signs.AtMost b e other none = let short : ◌≡◌ {A = ℕ} 1 2 = ap length e in omega arith
single_found signs.AtLeast b e other none = let short : ◌≡◌ {A = ℕ} 1 2 = ap length e in omega arith
single_found signs.Plus b e other none = let at : single_sign 43 ≡ None = subst (λ x. single_sign x ≡ None) (ap (λ l. get_or l 0 0) e) none in cc
single_found signs.Minus b e other none = let at : single_sign 45 ≡ None = subst (λ x. single_sign x ≡ None) (ap (λ l. get_or l 0 0) e) none in cc
single_found signs.Star b e other none = let at : single_sign 42 ≡ None = subst (λ x. single_sign x ≡ None) (ap (λ l. get_or l 0 0) e) none in cc
single_found signs.Slash b e other none = let at : lead 47 ≡ Other = subst (λ x. lead x ≡ Other) (ap (λ l. get_or l 0 0) e) other in cc

pub double_at_sign : (s rest : List ℕ) (b c : ℕ) (g : Sign) → s ≡ b ∷ c ∷ rest → double_sign b c ≡ Some g → IsSignAt g s rest
double_at_sign s rest b c g e found = (
  e ∙ ap (λ l. l ++ rest) (sym (double_bytes b c g found)),
  λ other more behind f h.
      let long : length (sign_bytes g ++ more) ≤ 2 = subst (λ n. n ≤ 2) (ap length (sym h)) (sign_short other) in
      let two : length (sign_bytes g) ≡ 2 = ap length (double_bytes b c g found) in
      nil_from_length more (omega (arith, length-append (sign_bytes g) more)),
)

single_more : (other : Sign) (b : ℕ) (rest more behind : List ℕ) → rest ≡ more ++ behind → double_at b rest ≡ None → b ∷ more ≡ sign_bytes other → more ≡ []
single_more other b rest [] behind e none h = refl
single_more other b rest (c ∷ more) behind e none h =
    absurd (double_found other b c more h (sym (ap (double_at b) e) ∙ none))

pub single_at_sign : (s rest : List ℕ) (b : ℕ) (g : Sign) → s ≡ b ∷ rest → single_sign b ≡ Some g → double_at b rest ≡ None → IsSignAt g s rest
single_at_sign s rest b g e found none = (
  e ∙ ap (λ l. l ++ rest) (sym (single_bytes b g found)),
  λ other more behind f h.
      single_more other b rest more behind f none (ap (λ l. l ++ more) (sym (single_bytes b g found)) ∙ h),
)

pair_single : (other : Sign) (b c : ℕ) (s : List ℕ) → b ∷ c ∷ s ≡ sign_bytes other → single_sign b ≡ None → ⊥
unfolding single_sign
pair_single signs.LeftParen b c s e none = let short : ◌≡◌ {A = ℕ} (suc (suc (length s))) 1 = ap length e in omega arith
pair_single signs.RightParen b c s e none = let short : ◌≡◌ {A = ℕ} (suc (suc (length s))) 1 = ap length e in omega arith
pair_single signs.LeftBracket b c s e none = let short : ◌≡◌ {A = ℕ} (suc (suc (length s))) 1 = ap length e in omega arith
pair_single signs.RightBracket b c s e none = let short : ◌≡◌ {A = ℕ} (suc (suc (length s))) 1 = ap length e in omega arith
pair_single signs.Comma b c s e none = let short : ◌≡◌ {A = ℕ} (suc (suc (length s))) 1 = ap length e in omega arith
pair_single signs.Semicolon b c s e none = let short : ◌≡◌ {A = ℕ} (suc (suc (length s))) 1 = ap length e in omega arith
pair_single signs.Colon b c s e none = let short : ◌≡◌ {A = ℕ} (suc (suc (length s))) 1 = ap length e in omega arith
pair_single signs.Equal b c s e none = let short : ◌≡◌ {A = ℕ} (suc (suc (length s))) 1 = ap length e in omega arith
pair_single signs.Unequal b c s e none = let at : single_sign 60 ≡ None = subst (λ x. single_sign x ≡ None) (ap (λ l. get_or l 0 0) e) none in cc
pair_single signs.Less b c s e none = let short : ◌≡◌ {A = ℕ} (suc (suc (length s))) 1 = ap length e in omega arith
pair_single signs.Greater b c s e none = let short : ◌≡◌ {A = ℕ} (suc (suc (length s))) 1 = ap length e in omega arith
pair_single signs.AtMost b c s e none = let at : single_sign 60 ≡ None = subst (λ x. single_sign x ≡ None) (ap (λ l. get_or l 0 0) e) none in cc
pair_single signs.AtLeast b c s e none = let at : single_sign 62 ≡ None = subst (λ x. single_sign x ≡ None) (ap (λ l. get_or l 0 0) e) none in cc
pair_single signs.Plus b c s e none = let short : ◌≡◌ {A = ℕ} (suc (suc (length s))) 1 = ap length e in omega arith
pair_single signs.Minus b c s e none = let short : ◌≡◌ {A = ℕ} (suc (suc (length s))) 1 = ap length e in omega arith
pair_single signs.Star b c s e none = let short : ◌≡◌ {A = ℕ} (suc (suc (length s))) 1 = ap length e in omega arith
pair_single signs.Slash b c s e none = let short : ◌≡◌ {A = ℕ} (suc (suc (length s))) 1 = ap length e in omega arith

-- neither a sign of one byte nor one of two
pub no_sign : (b : ℕ) (rest : List ℕ) → lead b ≡ Other → single_sign b ≡ None → (other : Sign) (more : List ℕ) → b ∷ more ≡ sign_bytes other → ⊥
no_sign b rest is none other [] e = single_found other b e is none
no_sign b rest is none other (c ∷ more) e = pair_single other b c more e none

number_bounds : (t : Bool) → cond t 4294967295 2147483648 < 2 ^ 32
number_bounds true = omega arith
number_bounds false = omega arith

pub wrap_small : (n : ℕ) → n < 2 ^ 32 → wrap (pos n) ≡ to_z w32 n
unfolding int_wrap
wrap_small n small = ap (to_z w32) (mod-eq_of_lt small)

number_spells : (spelled : List ℕ) (value : ℤ) → is_number spelled ≡ true → number_value spelled ≤ number_limit spelled → value ≡ to_z w32 (number_value spelled) → Spells (kinds.Number value) spelled
number_spells spelled value is fits cast =
    let bound = number_bounds (is_hexadecimal spelled) in
    inr (is, fits, cast ∙ sym (wrap_small (number_value spelled) (lt_of_le_of_lt fits bound)))

pub number_step : (s spelled rest : List ℕ) (value : ℤ) → s ≡ spelled ++ rest → is_number spelled ≡ true → IsWhole spelled rest → number_value spelled ≤ number_limit spelled → value ≡ to_z w32 (number_value spelled) → begins is_letter rest ≡ false → TokenAt (kinds.Number value) s rest
number_step s spelled rest value e is longest fits cast stop = record {
  spelled = spelled;
  whole = e;
  token = number_spells spelled value is fits cast;
  longest = longest;
  apart = λ number. stop;
}

pub number_fault : (s spelled rest : List ℕ) (at : ℕ) → s ≡ spelled ++ rest → is_number spelled ≡ true → IsWhole spelled rest → number_limit spelled < number_value spelled → FaultAt (at + length s) s (NumberTooLarge at)
number_fault s spelled rest at e is longest large = number_too_large s at spelled rest e refl is longest large

pub run_on_fault : (s spelled rest : List ℕ) (at : ℕ) → s ≡ spelled ++ rest → is_number spelled ≡ true → IsWhole spelled rest → number_value spelled ≤ number_limit spelled → begins is_letter rest ≡ true → FaultAt (at + length s) s (StrayByte (at + length spelled))
run_on_fault s spelled [] at e is longest fits begun = absurd (true≢false (sym begun))
run_on_fault s spelled (b ∷ rest) at e is longest fits begun =
    run_on s (at + length spelled) (wrap (pos (number_value spelled))) spelled b rest e
    (omega (arith, ap length e, length-append spelled (b ∷ rest)))
    (inr (is, fits, refl)) is longest begun

-- what `double_at` finds stands at the front
pub double_front : (s : List ℕ) (b : ℕ) (g : Sign) → double_at b s ≡ Some g → (c : ℕ) × (s ≡ c ∷ take (length s - 1) (drop 1 s)) × (double_sign b c ≡ Some g)
double_front [] b g e = absurd cc
double_front (c ∷ s) b g e = (c, ap (λ l. c ∷ l) (sym (take_rest (c ∷ s) 1)), e)
