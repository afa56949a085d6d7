-- Loops that gather the statements of a body and the clauses of SELECT, as the code has them, and as reading says them.
use Rattle.std.proofs.Common.{◌≡◌, ℕ, zero, suc, ◌<◌, ◌+◌, ◌-◌, Bool, true, false, List, [], ◌∷◌, ◌++◌, length, Option, Some, None, refl, sym, ap, ◌∙◌, arith}
use Rattle.std.specs.Prelude.{Ok, Err, cond, Result, not, ◌&&◌}
use Rattle.std.specs.Option.{option_to_list}
use Rattle.ci_tree.specs.Tree as to
use Rattle.ci_tree.specs.Tree.{Expr, Stmt, Block, Clauses, Other, block_from, clauses_from}
use Rattle.ci_tree.specs.declared.token.TokenKind.{TokenKind}
use Rattle.ci_tree.specs.declared.token.TokenKind.TheVariants.{Name}
use Rattle.ci_tree.specs.declared.token.Keyword.TheVariants as words
use Rattle.ci_tree.specs.Grammar.{Tokens, CasesTree, with_clause, stmt_then}
use Rattle.ci_tree.specs.Refused.{Refusal, unexpected, unexpected_end, too_deep, begins, is_keyword, has_rule, taken_if}
use Rattle.ci_tree.specs.Refused as ask
use Rattle.ci_expressions.specs.declared.fault.ParseFault.{ParseFault}
use Rattle.ci_expressions.specs.declared.fault.ParseFault.TheVariants as faults
use Rattle.ci_expressions.specs.Gives.{Fails}
use Rattle.ci_parser.specs.Reading.{Found, Reader, ◌>>=◌, Inside, closed, tail, expect, statement, statements, body, expression, inside_of, begins_with, begins_clause, clause, cases, cases_end, cases_of, members, label}
use Rattle.ci_parser.specs.Constructs.{plain_simple}

-- what fails alone fails as a part
pub fails_as : {Y Z : Type 0} (e : ParseFault) (part : Result Y Refusal) (whole : Result Z Refusal) → ((f : Refusal) → part ≡ Err f → whole ≡ Err f) → Fails e part → Fails e whole
fails_as faults.Memory part whole h failed = tt
fails_as faults.UnexpectedEnd part whole h failed = h unexpected_end failed
fails_as (faults.Unexpected n) part whole h failed = h (unexpected n) failed
fails_as (faults.TooDeep n) part whole h failed = h (too_deep n) failed

-- what was found is one
abbrev either_ok : {A : Type 0} → A → Result A Refusal → A
either_ok a (Ok x) = x
either_ok a (Err f) = a

pub same_ok : {A : Type 0} (r : Result A Refusal) (a b : A) → r ≡ Ok a → r ≡ Ok b → a ≡ b
same_ok r a b e f = sym (ap (either_ok a) e) ∙ ap (either_ok a) f

-- A statement that begins with a name, of which the code has a copy
pub plain_named : (expression : Reader Expr) (inside : Option Inside) (i j : ℕ) (ts us : Tokens) (t : TokenKind) (x y : List ℕ) → ts ≡ t ∷ us → t ≡ Name x → y ≡ x → j ≡ suc i
    → closed (tail i y expression inside j us) ≡ plain_simple expression inside i ts
plain_named expression inside i j ts us t x y first name copied next =
    ap (λ k. closed (tail i y expression inside k us)) next
    ∙ ap (λ z. closed (tail i z expression inside (suc i) us)) copied
    ∙ sym (ap (λ u. plain_simple expression inside i (u ∷ us)) name)
    ∙ sym (ap (λ vs. plain_simple expression inside i vs) first)

-- The statements of a body

-- statements in front of others
abbrev pub before : List Stmt → Block → Block
before [] b = b
before (s ∷ front) b = to.then s (before front b)

abbrev pub with_before : List Stmt → Found Block → Found Block
with_before front found = found >>= (λ b. Ok (before front b.0, b.1, b.2))

before_done : (front : List Stmt) → before front to.done ≡ block_from front
before_done [] = refl
before_done (s ∷ front) = ap (λ b. to.then s b) (before_done front)

before_more : (front : List Stmt) (s : Option Stmt) (b : Block) → before (front ++ option_to_list s) b ≡ before front (stmt_then s b)
before_more [] None b = refl
before_more [] (Some s) b = refl
before_more (f ∷ front) s b = ap (λ b. to.then f b) (before_more front s b)

with_more : (front : List Stmt) (s : Option Stmt) (r : Found Block) → with_before (front ++ option_to_list s) r ≡ with_before front (r >>= (λ b. Ok (stmt_then s b.0, b.1, b.2)))
with_more front s (Ok b) = ap (λ t. Ok (t, b.1, b.2)) (before_more front s b.0)
with_more front s (Err f) = refl

body_is : (free i : ℕ) (ts : Tokens) → body free i ts ≡ statements (expression free) (inside_of free) (length ts) i ts
body_is zero i ts = refl
body_is (suc free) i ts = refl

no_before : (r : Found Block) → with_before [] r ≡ r
no_before (Ok b) = refl
no_before (Err f) = refl

pub body_begins : (free n i : ℕ) (ts : Tokens) (front : List Stmt) → front ≡ [] → n ≡ length ts → with_before front (statements (expression free) (inside_of free) n i ts) ≡ body free i ts
body_begins free n i ts front e f =
    ap (λ xs. with_before xs (statements (expression free) (inside_of free) n i ts)) e
    ∙ ap (λ m. with_before [] (statements (expression free) (inside_of free) m i ts)) f
    ∙ no_before (statements (expression free) (inside_of free) (length ts) i ts)
    ∙ sym (body_is free i ts)

-- a round that finds no statement ends the loop
pub body_ends : (expression : Reader Expr) (inside : Option Inside) (n i : ℕ) (ts : Tokens) (front : List Stmt) (whole : Found Block) → begins ask.body ts ≡ false
    → with_before front (statements expression inside n i ts) ≡ whole → whole ≡ Ok (block_from front, i, ts)
body_ends expression inside zero i ts front whole e h = sym h ∙ ap (λ b. Ok (b, i, ts)) (before_done front)
body_ends expression inside (suc n) i ts front whole e h =
    sym h
    ∙ ap (λ b. with_before front (cond b (statement expression inside i ts >>= (λ s. statements expression inside n s.1 s.2 >>= (λ b. Ok (stmt_then s.0 b.0, b.1, b.2)))) (Ok (to.done, i, ts)))) e
    ∙ ap (λ b. Ok (b, i, ts)) (before_done front)

-- the last round
pub body_last : (expression : Reader Expr) (inside : Option Inside) (n i : ℕ) (ts : Tokens) (front : List Stmt) (whole : Found Block) → n ≡ zero
    → with_before front (statements expression inside n i ts) ≡ whole → whole ≡ Ok (block_from front, i, ts)
body_last expression inside zero i ts front whole e h = sym h ∙ ap (λ b. Ok (b, i, ts)) (before_done front)
body_last expression inside (suc n) i ts front whole e h = absurd (omega arith)

-- a round that finds a statement, or fails
body_round : (expression : Reader Expr) (inside : Option Inside) (n m i : ℕ) (ts : Tokens) (front : List Stmt) (r : Found (Option Stmt)) → n ≡ suc m → begins ask.body ts ≡ true → statement expression inside i ts ≡ r
    → with_before front (statements expression inside n i ts) ≡ with_before front (r >>= (λ s. statements expression inside m s.1 s.2 >>= (λ b. Ok (stmt_then s.0 b.0, b.1, b.2))))
body_round expression inside n m i ts front r e b s =
    ap (λ k. with_before front (statements expression inside k i ts)) e
    ∙ ap (λ b. with_before front (cond b (statement expression inside i ts >>= (λ s. statements expression inside m s.1 s.2 >>= (λ b. Ok (stmt_then s.0 b.0, b.1, b.2)))) (Ok (to.done, i, ts)))) b
    ∙ ap (λ r. with_before front (r >>= (λ s. statements expression inside m s.1 s.2 >>= (λ b. Ok (stmt_then s.0 b.0, b.1, b.2))))) s

pub body_fails : (e : ParseFault) (expression : Reader Expr) (inside : Option Inside) (count k i : ℕ) (ts : Tokens) (front : List Stmt) (whole : Found Block) → k < count → begins ask.body ts ≡ true
    → with_before front (statements expression inside (count - k) i ts) ≡ whole → Fails e (statement expression inside i ts) → Fails e whole
body_fails e expression inside count k i ts front whole less b h failed =
    let n : count - k ≡ suc (count - (k + 1)) = omega arith in
    fails_as e (statement expression inside i ts) whole (λ f s. sym h ∙ body_round expression inside (count - k) (count - (k + 1)) i ts front (Err f) n b s) failed

pub body_goes_on : (expression : Reader Expr) (inside : Option Inside) (count k i : ℕ) (ts : Tokens) (front front' : List Stmt) (whole : Found Block) (s : Option Stmt) (j : ℕ) (us : Tokens) → k < count → begins ask.body ts ≡ true
    → with_before front (statements expression inside (count - k) i ts) ≡ whole → statement expression inside i ts ≡ Ok (s, j, us) → front' ≡ front ++ option_to_list s
    → with_before front' (statements expression inside (count - (k + 1)) j us) ≡ whole
body_goes_on expression inside count k i ts front front' whole s j us less b h found more =
    let n : count - k ≡ suc (count - (k + 1)) = omega arith in
    ap (λ f. with_before f (statements expression inside (count - (k + 1)) j us)) more
    ∙ with_more front s (statements expression inside (count - (k + 1)) j us)
    ∙ sym (body_round expression inside (count - k) (count - (k + 1)) i ts front (Ok (s, j, us)) n b found)
    ∙ h

-- The clauses of SELECT

-- clauses in front of others
abbrev pub clauses_before : List to.Clause → Clauses → Clauses
clauses_before [] cs = cs
clauses_before (c ∷ front) cs = to.clause c.at c.labels c.body (clauses_before front cs)

abbrev pub with_clauses : List to.Clause → Found CasesTree → Found CasesTree
with_clauses front found = found >>= (λ c. Ok (cases_of (clauses_before front c.0.clauses) c.0.other, c.1, c.2))

clauses_none : (front : List to.Clause) → clauses_before front to.no_clause ≡ clauses_from front
clauses_none [] = refl
clauses_none (c ∷ front) = ap (λ cs. to.clause c.at c.labels c.body cs) (clauses_none front)

clauses_more : (front : List to.Clause) (c : to.Clause) (cs : Clauses) → clauses_before (front ++ c ∷ []) cs ≡ clauses_before front (to.clause c.at c.labels c.body cs)
clauses_more [] c cs = refl
clauses_more (f ∷ front) c cs = ap (λ cs. to.clause f.at f.labels f.body cs) (clauses_more front c cs)

with_clauses_more : (front : List to.Clause) (c : to.Clause) (r : Found CasesTree) → with_clauses (front ++ c ∷ []) r ≡ with_clauses front (r >>= (λ cs. Ok (with_clause c.at c.labels c.body cs.0, cs.1, cs.2)))
with_clauses_more front c (Ok cs) = ap (λ x. Ok (cases_of x cs.0.other, cs.1, cs.2)) (clauses_more front c cs.0.clauses)
with_clauses_more front c (Err f) = refl

no_clauses : (r : Found CasesTree) → with_clauses [] r ≡ r
no_clauses (Ok cs) = refl
no_clauses (Err f) = refl

pub cases_begin : (inside : Inside) (n m i : ℕ) (ts : Tokens) (front : List to.Clause) → front ≡ [] → n ≡ m → with_clauses front (cases inside n i ts) ≡ cases inside m i ts
cases_begin inside n m i ts front e f =
    ap (λ xs. with_clauses xs (cases inside n i ts)) e
    ∙ ap (λ k. with_clauses [] (cases inside k i ts)) f
    ∙ no_clauses (cases inside m i ts)

-- what reading does with a result, step by step
abbrev closed_other : Other → ℕ → Tokens → Found Other
closed_other o i ts = expect (is_keyword words.End) i ts >>= (λ end_word. expect (is_keyword words.Select) end_word.0 end_word.1 >>= (λ select_word. Ok (o, select_word.0, select_word.1)))

abbrev closed_by : Found Other → Found Other
closed_by r = r >>= (λ o. closed_other o.0 o.1 o.2)

abbrev as_cases : Found Other → Found CasesTree
as_cases r = r >>= (λ o. Ok (cases_of to.no_clause o.0, o.1, o.2))

abbrev as_other : Found Block → Found Other
as_other r = r >>= (λ b. Ok (to.other b.0, b.1, b.2))

abbrev select_end : Other → ℕ → Tokens → Found CasesTree
select_end o i ts = expect (is_keyword words.End) i ts >>= (λ end_word. expect (is_keyword words.Select) end_word.0 end_word.1 >>= (λ select_word. Ok (cases_of to.no_clause o, select_word.0, select_word.1)))

end_is : (o : Other) (i : ℕ) (ts : Tokens) → as_cases (closed_other o i ts) ≡ select_end o i ts
end_is o i ts = by_end (expect (is_keyword words.End) i ts)
  where
    by_select : (r : Result (ℕ × Tokens) Refusal) → as_cases (r >>= (λ select_word. Ok (o, select_word.0, select_word.1))) ≡ (r >>= (λ select_word. Ok (cases_of to.no_clause o, select_word.0, select_word.1)))
    by_select (Ok w) = refl
    by_select (Err f) = refl

    by_end : (r : Result (ℕ × Tokens) Refusal) → as_cases (r >>= (λ end_word. expect (is_keyword words.Select) end_word.0 end_word.1 >>= (λ select_word. Ok (o, select_word.0, select_word.1)))) ≡ (r >>= (λ end_word. expect (is_keyword words.Select) end_word.0 end_word.1 >>= (λ select_word. Ok (cases_of to.no_clause o, select_word.0, select_word.1))))
    by_end (Ok w) = by_select (expect (is_keyword words.Select) w.0 w.1)
    by_end (Err f) = refl

-- behind CASE, where ELSE is next
abbrev else_found : Inside → ℕ → Tokens → Found Other
else_found inside i ts = expect (is_keyword words.Else) i ts >>= (λ else_word. as_other (inside.body else_word.0 else_word.1))

abbrev else_behind : Inside → ℕ → Tokens → Found CasesTree
else_behind inside i ts = expect (is_keyword words.Else) i ts >>= (λ else_word. inside.body else_word.0 else_word.1 >>= (λ b. select_end (to.other b.0) b.1 b.2))

else_is : (inside : Inside) (i : ℕ) (ts : Tokens) → else_behind inside i ts ≡ as_cases (closed_by (else_found inside i ts))
else_is inside i ts = by_word (expect (is_keyword words.Else) i ts)
  where
    by_body : (r : Found Block) → (r >>= (λ b. select_end (to.other b.0) b.1 b.2)) ≡ as_cases (closed_by (as_other r))
    by_body (Ok b) = sym (end_is (to.other b.0) b.1 b.2)
    by_body (Err f) = refl

    by_word : (r : Result (ℕ × Tokens) Refusal)
        → (r >>= (λ else_word. inside.body else_word.0 else_word.1 >>= (λ b. select_end (to.other b.0) b.1 b.2)))
        ≡ as_cases (closed_by (r >>= (λ else_word. as_other (inside.body else_word.0 else_word.1))))
    by_word (Ok w) = by_body (inside.body w.0 w.1)
    by_word (Err f) = refl

-- behind CASE, where labels are
abbrev as_clause : ℕ → List to.Label → Found Block → Found to.Clause
as_clause at labels r = r >>= (λ b. Ok (record { at = at; labels = labels; body = b.0 }, b.1, b.2))

abbrev labels_found : Inside → ℕ → ℕ → Tokens → Found to.Clause
labels_found inside at i ts = members (label inside.expression) i ts >>= (λ labels. as_clause at labels.0 (inside.body labels.1 labels.2))

abbrev and_cases : Reader CasesTree → Found to.Clause → Found CasesTree
and_cases next r = r >>= (λ c. next c.1 c.2 >>= (λ behind. Ok (with_clause c.0.at c.0.labels c.0.body behind.0, behind.1, behind.2)))

abbrev labels_behind : Inside → ℕ → Reader CasesTree → ℕ → Tokens → Found CasesTree
labels_behind inside at next i ts = members (label inside.expression) i ts >>= (λ labels. inside.body labels.1 labels.2 >>= (λ b. next b.1 b.2 >>= (λ behind. Ok (with_clause at labels.0 b.0 behind.0, behind.1, behind.2))))

labels_is : (inside : Inside) (at : ℕ) (next : Reader CasesTree) (i : ℕ) (ts : Tokens) → labels_behind inside at next i ts ≡ and_cases next (labels_found inside at i ts)
labels_is inside at next i ts = by_labels (members (label inside.expression) i ts)
  where
    by_body : (labels : List to.Label) (r : Found Block)
        → (r >>= (λ b. next b.1 b.2 >>= (λ behind. Ok (with_clause at labels b.0 behind.0, behind.1, behind.2)))) ≡ and_cases next (as_clause at labels r)
    by_body labels (Ok b) = refl
    by_body labels (Err f) = refl

    by_labels : (r : Found (List to.Label))
        → (r >>= (λ labels. inside.body labels.1 labels.2 >>= (λ b. next b.1 b.2 >>= (λ behind. Ok (with_clause at labels.0 b.0 behind.0, behind.1, behind.2)))))
        ≡ and_cases next (r >>= (λ labels. as_clause at labels.0 (inside.body labels.1 labels.2)))
    by_labels (Ok l) = by_body l.0 (inside.body l.1 l.2)
    by_labels (Err f) = refl

-- one round: a clause with labels and what is behind it, or the end
abbrev one_round : Inside → Reader CasesTree → Reader CasesTree
one_round inside next i ts = cond (begins_clause ts) (and_cases next (clause inside i ts)) (as_cases (cases_end inside i ts))

other_way : {A : Type 0} (c : Bool) (a b x y : A) → a ≡ x → b ≡ y → cond c a b ≡ cond (not c) y x
other_way true a b x y e f = e
other_way false a b x y e f = f

-- the word CASE, or not
abbrev word : Bool → ℕ → Tokens → Result (ℕ × Tokens) Refusal
word b i us = cond b (Ok (suc i, us)) (Err (unexpected i))

round_by : (inside : Inside) (next : Reader CasesTree) (i : ℕ) (t : TokenKind) (us : Tokens) (b : Bool)
    → cond (has_rule (taken_if b))
    (word b i us >>= (λ case_word. cond (begins_with words.Else case_word.1) (else_behind inside case_word.0 case_word.1) (labels_behind inside i next case_word.0 case_word.1)))
    (select_end to.no_other i (t ∷ us))
    ≡ cond (b && not (begins_with words.Else us))
    (and_cases next (word b i us >>= (λ case_word. labels_found inside i case_word.0 case_word.1)))
    (as_cases (closed_by (cond (has_rule (taken_if b)) (word b i us >>= (λ case_word. else_found inside case_word.0 case_word.1)) (Ok (to.no_other, i, t ∷ us)))))
round_by inside next i t us true =
    other_way (begins_with words.Else us) (else_behind inside (suc i) us) (labels_behind inside i next (suc i) us)
    (as_cases (closed_by (else_found inside (suc i) us))) (and_cases next (labels_found inside i (suc i) us))
    (else_is inside (suc i) us) (labels_is inside i next (suc i) us)
round_by inside next i t us false = sym (end_is to.no_other i (t ∷ us))

round_is : (inside : Inside) (n i : ℕ) (ts : Tokens) → cases inside (suc n) i ts ≡ one_round inside (cases inside n) i ts
round_is inside n i [] = refl
round_is inside n i (t ∷ us) = round_by inside (cases inside n) i t us (is_keyword words.Case t)

-- a round that comes to the end
ending : (inside : Inside) (n m i : ℕ) (ts : Tokens) (front : List to.Clause) (r : Found Other) → n ≡ suc m → begins_clause ts ≡ false → cases_end inside i ts ≡ r
    → with_clauses front (cases inside n i ts) ≡ with_clauses front (as_cases r)
ending inside n m i ts front r e b found =
    ap (λ k. with_clauses front (cases inside k i ts)) e
    ∙ ap (λ r. with_clauses front r) (round_is inside m i ts)
    ∙ ap (λ b. with_clauses front (cond b (and_cases (cases inside m) (clause inside i ts)) (as_cases (cases_end inside i ts)))) b
    ∙ ap (λ r. with_clauses front (as_cases r)) found

-- a round that comes to a clause
adding : (inside : Inside) (n m i : ℕ) (ts : Tokens) (front : List to.Clause) (r : Found to.Clause) → n ≡ suc m → begins_clause ts ≡ true → clause inside i ts ≡ r
    → with_clauses front (cases inside n i ts) ≡ with_clauses front (and_cases (cases inside m) r)
adding inside n m i ts front r e b found =
    ap (λ k. with_clauses front (cases inside k i ts)) e
    ∙ ap (λ r. with_clauses front r) (round_is inside m i ts)
    ∙ ap (λ b. with_clauses front (cond b (and_cases (cases inside m) (clause inside i ts)) (as_cases (cases_end inside i ts)))) b
    ∙ ap (λ r. with_clauses front (and_cases (cases inside m) r)) found

pub cases_close : (inside : Inside) (count k i : ℕ) (ts : Tokens) (front : List to.Clause) (whole : Found CasesTree) (o : Other) (j : ℕ) (us : Tokens) → k < count → begins_clause ts ≡ false
    → with_clauses front (cases inside (count - k) i ts) ≡ whole → cases_end inside i ts ≡ Ok (o, j, us) → whole ≡ Ok (cases_of (clauses_from front) o, j, us)
cases_close inside count k i ts front whole o j us less b h found =
    let n : count - k ≡ suc (count - (k + 1)) = omega arith in
    sym h ∙ ending inside (count - k) (count - (k + 1)) i ts front (Ok (o, j, us)) n b found ∙ ap (λ cs. Ok (cases_of cs o, j, us)) (clauses_none front)

pub close_fails : (e : ParseFault) (inside : Inside) (count k i : ℕ) (ts : Tokens) (front : List to.Clause) (whole : Found CasesTree) → k < count → begins_clause ts ≡ false
    → with_clauses front (cases inside (count - k) i ts) ≡ whole → Fails e (cases_end inside i ts) → Fails e whole
close_fails e inside count k i ts front whole less b h failed =
    let n : count - k ≡ suc (count - (k + 1)) = omega arith in
    fails_as e (cases_end inside i ts) whole (λ f s. sym h ∙ ending inside (count - k) (count - (k + 1)) i ts front (Err f) n b s) failed

pub clause_fails : (e : ParseFault) (inside : Inside) (count k i : ℕ) (ts : Tokens) (front : List to.Clause) (whole : Found CasesTree) → k < count → begins_clause ts ≡ true
    → with_clauses front (cases inside (count - k) i ts) ≡ whole → Fails e (clause inside i ts) → Fails e whole
clause_fails e inside count k i ts front whole less b h failed =
    let n : count - k ≡ suc (count - (k + 1)) = omega arith in
    fails_as e (clause inside i ts) whole (λ f s. sym h ∙ adding inside (count - k) (count - (k + 1)) i ts front (Err f) n b s) failed

pub clause_goes_on : (inside : Inside) (count k i : ℕ) (ts : Tokens) (front front' : List to.Clause) (whole : Found CasesTree) (c : to.Clause) (j : ℕ) (us : Tokens) → k < count → begins_clause ts ≡ true
    → with_clauses front (cases inside (count - k) i ts) ≡ whole → clause inside i ts ≡ Ok (c, j, us) → front' ≡ front ++ c ∷ []
    → with_clauses front' (cases inside (count - (k + 1)) j us) ≡ whole
clause_goes_on inside count k i ts front front' whole c j us less b h found more =
    let n : count - k ≡ suc (count - (k + 1)) = omega arith in
    ap (λ f. with_clauses f (cases inside (count - (k + 1)) j us)) more
    ∙ with_clauses_more front c (cases inside (count - (k + 1)) j us)
    ∙ sym (adding inside (count - k) (count - (k + 1)) i ts front (Ok (c, j, us)) n b found)
    ∙ h

-- no round is left
pub cases_spent : (inside : Inside) (n i : ℕ) (ts : Tokens) (front : List to.Clause) (whole : Found CasesTree) → n ≡ zero → with_clauses front (cases inside n i ts) ≡ whole → whole ≡ Err unexpected_end
cases_spent inside zero i ts front whole e h = sym h
cases_spent inside (suc n) i ts front whole e h = absurd (omega arith)
