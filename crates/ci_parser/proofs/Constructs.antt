-- Statements that open a level are read by the code as reading says them.
use Rattle.std.proofs.Common.{◌≡◌, ℕ, suc, List, [], ◌∷◌, Option, Some, None, refl, ap, ◌∙◌}
use Rattle.std.specs.Prelude.{Ok, Err, Result}
use Rattle.ci_tree.specs.Tree as to
use Rattle.ci_tree.specs.Tree.{Expr, Stmt, Block, Other}
use Rattle.ci_tree.specs.declared.token.TokenKind.TheVariants.{Keyword}
use Rattle.ci_tree.specs.declared.token.Keyword.{Keyword as Word}
use Rattle.ci_tree.specs.declared.token.Keyword.TheVariants as words
use Rattle.ci_tree.specs.declared.token.Sign.TheVariants as mark
use Rattle.ci_tree.specs.Grammar.{Tokens}
use Rattle.ci_tree.specs.Refused.{Refusal, is_keyword, is_sign}
use Rattle.ci_parser.specs.declared.statements.Construct.{Construct}
use Rattle.ci_parser.specs.declared.statements.Construct.TheVariants as constructs
use Rattle.ci_parser.specs.Reading.{Found, Reader, ◌>>=◌, Inside, expect, name_at, opened, some_stmt, else_part, statement}
use Rattle.ci_parser.specs.Reading as reading
use Rattle.ci_parser.specs.Constructs.{construct_at, before_word, branches, choice, loop, count, behind_word, simple}

-- a value, and the token that was expected behind it
abbrev paired : {V : Type 0} → V → Result (ℕ × Tokens) Refusal → Found V
paired v found = found >>= (λ word. Ok (v, word.0, word.1))

after_pair : {V W : Type 0} (v : V) (r : Result (ℕ × Tokens) Refusal) (f : V → ℕ → Tokens → Result W Refusal) → (r >>= (λ word. f v word.0 word.1)) ≡ (paired v r >>= (λ x. f x.0 x.1 x.2))
after_pair v (Ok w) f = refl
after_pair v (Err e) f = refl

-- what is done with a value behind its word is done with both
after_word : {V W : Type 0} (r : Found V) (k : Word) (f : V → ℕ → Tokens → Result W Refusal)
    → (r >>= (λ v. expect (is_keyword k) v.1 v.2 >>= (λ word. f v.0 word.0 word.1))) ≡ (before_word r k >>= (λ v. f v.0 v.1 v.2))
unfolding before_word
after_word (Ok v) k f = after_pair v.0 (expect (is_keyword k) v.1 v.2) f
after_word (Err e) k f = refl

same_then : {A B : Type 0} (r : Result A Refusal) (f g : A → Result B Refusal) → ((x : A) → f x ≡ g x) → (r >>= f) ≡ (r >>= g)
same_then (Ok x) f g h = h x
same_then (Err e) f g h = refl

-- IF

abbrev chosen : ℕ → Expr → Found (Block × Other) → Found Stmt
chosen at e found = found >>= (λ b. Ok (to.choose at e b.0.0 b.0.1, b.1, b.2))

-- behind its branches
abbrev choice_end : ℕ → Expr → Block → Other → ℕ → Tokens → Found Stmt
choice_end at e b o i ts = expect (is_keyword words.End) i ts >>= (λ end_word. Ok (to.choose at e b o, end_word.0, end_word.1))

abbrev branches_end : Block → Other → ℕ → Tokens → Found (Block × Other)
branches_end b o i ts = paired (b, o) (expect (is_keyword words.End) i ts)

-- behind its first branch
abbrev choice_other : ℕ → Expr → Block → Found Other → Found Stmt
choice_other at e b found = found >>= (λ o. choice_end at e b o.0 o.1 o.2)

abbrev branches_other : Block → Found Other → Found (Block × Other)
branches_other b found = found >>= (λ o. branches_end b o.0 o.1 o.2)

-- behind THEN
abbrev choice_branches : ℕ → Inside → Expr → ℕ → Tokens → Found Stmt
choice_branches at w e i ts = w.body i ts >>= (λ b. choice_other at e b.0 (else_part w b.1 b.2))

ends_both : (at : ℕ) (e : Expr) (b : Block) (o : Other) (r : Result (ℕ × Tokens) Refusal) → (r >>= (λ end_word. Ok (to.choose at e b o, end_word.0, end_word.1))) ≡ chosen at e (paired (b, o) r)
ends_both at e b o (Ok x) = refl
ends_both at e b o (Err f) = refl

other_both : (at : ℕ) (e : Expr) (b : Block) (r : Found Other) → choice_other at e b r ≡ chosen at e (branches_other b r)
other_both at e b (Ok o) = ends_both at e b o.0 (expect (is_keyword words.End) o.1 o.2)
other_both at e b (Err f) = refl

body_both : (at : ℕ) (w : Inside) (e : Expr) (r : Found Block) → (r >>= (λ b. choice_other at e b.0 (else_part w b.1 b.2))) ≡ chosen at e (r >>= (λ b. branches_other b.0 (else_part w b.1 b.2)))
body_both at w e (Ok b) = other_both at e b.0 (else_part w b.1 b.2)
body_both at w e (Err f) = refl

choice_is : (at : ℕ) (w : Inside) (i : ℕ) (ts : Tokens) → reading.choice at w i ts ≡ choice at w i ts
choice_is at w i ts =
    after_word (w.expression i ts) words.Then (choice_branches at w)
    ∙ same_then (before_word (w.expression i ts) words.Then) (λ e. choice_branches at w e.0 e.1 e.2) (λ e. chosen at e.0 (branches w e.1 e.2)) (λ e. body_both at w e.0 (w.body e.1 e.2))

-- WHILE

-- behind its body
abbrev loop_end : ℕ → Expr → Block → ℕ → Tokens → Found Stmt
loop_end at e b i ts = Ok (to.while at e b, i, ts)

-- behind DO
abbrev loop_body : ℕ → Inside → Expr → ℕ → Tokens → Found Stmt
loop_body at w e i ts = w.body i ts >>= (λ b. expect (is_keyword words.End) b.1 b.2 >>= (λ end_word. loop_end at e b.0 end_word.0 end_word.1))

loop_is : (at : ℕ) (w : Inside) (i : ℕ) (ts : Tokens) → reading.loop at w i ts ≡ loop at w i ts
loop_is at w i ts =
    after_word (w.expression i ts) words.Do (loop_body at w)
    ∙ same_then (before_word (w.expression i ts) words.Do) (λ e. loop_body at w e.0 e.1 e.2) (λ e. before_word (w.body e.1 e.2) words.End >>= (λ b. loop_end at e.0 b.0 b.1 b.2))
    (λ e. after_word (w.body e.1 e.2) words.End (loop_end at e.0))

-- FOR

-- behind its body
abbrev count_end : ℕ → ℕ → List ℕ → Expr → Expr → Block → ℕ → Tokens → Found Stmt
count_end at named x e f b i ts = Ok (to.for at named x e f b, i, ts)

-- behind DO
abbrev count_body : ℕ → ℕ → List ℕ → Inside → Expr → Expr → ℕ → Tokens → Found Stmt
count_body at named x w e f i ts = w.body i ts >>= (λ b. expect (is_keyword words.End) b.1 b.2 >>= (λ end_word. count_end at named x e f b.0 end_word.0 end_word.1))

-- behind TO
abbrev count_high : ℕ → ℕ → List ℕ → Inside → Expr → ℕ → Tokens → Found Stmt
count_high at named x w e i ts = w.expression i ts >>= (λ f. expect (is_keyword words.Do) f.1 f.2 >>= (λ word. count_body at named x w e f.0 word.0 word.1))

-- behind the name and its `=`
abbrev count_low : ℕ → ℕ → List ℕ → Inside → ℕ → Tokens → Found Stmt
count_low at named x w i ts = w.expression i ts >>= (λ e. expect (is_keyword words.To) e.1 e.2 >>= (λ word. count_high at named x w e.0 word.0 word.1))

abbrev Bounds : Type 0
Bounds = List ℕ × Expr × Expr

abbrev high : List ℕ → Expr → Found Expr → Found Bounds
high x e found = found >>= (λ f. Ok ((x, e, f.0), f.1, f.2))

abbrev low : List ℕ → Reader Expr → Found Expr → Found Bounds
low x expression found = found >>= (λ e. high x e.0 (before_word (expression e.1 e.2) words.Do))

abbrev with_body : ℕ → ℕ → Inside → Found Bounds → Found Stmt
with_body at named w found = found >>= (λ c. before_word (w.body c.1 c.2) words.End >>= (λ b. count_end at named c.0.0 c.0.1 c.0.2 b.0 b.1 b.2))

high_is : (at named : ℕ) (x : List ℕ) (w : Inside) (e : Expr) (r : Found Expr)
    → (r >>= (λ f. count_body at named x w e f.0 f.1 f.2)) ≡ with_body at named w (high x e r)
high_is at named x w e (Ok f) = after_word (w.body f.1 f.2) words.End (count_end at named x e f.0)
high_is at named x w e (Err f) = refl

low_is : (at named : ℕ) (x : List ℕ) (w : Inside) (r : Found Expr)
    → (r >>= (λ e. count_high at named x w e.0 e.1 e.2)) ≡ with_body at named w (low x w.expression r)
low_is at named x w (Ok e) = after_word (w.expression e.1 e.2) words.Do (count_body at named x w e.0) ∙ high_is at named x w e.0 (before_word (w.expression e.1 e.2) words.Do)
low_is at named x w (Err f) = refl

bounds_are : (at named : ℕ) (x : List ℕ) (w : Inside) (i : ℕ) (ts : Tokens) → count_low at named x w i ts ≡ with_body at named w (low x w.expression (before_word (w.expression i ts) words.To))
bounds_are at named x w i ts = after_word (w.expression i ts) words.To (count_high at named x w) ∙ low_is at named x w (before_word (w.expression i ts) words.To)

abbrev equal_low : List ℕ → Reader Expr → Result (ℕ × Tokens) Refusal → Found Bounds
equal_low x expression found = found >>= (λ equal. low x expression (before_word (expression equal.0 equal.1) words.To))

equal_is : (at named : ℕ) (x : List ℕ) (w : Inside) (r : Result (ℕ × Tokens) Refusal)
    → (r >>= (λ equal. count_low at named x w equal.0 equal.1)) ≡ with_body at named w (equal_low x w.expression r)
equal_is at named x w (Ok equal) = bounds_are at named x w equal.0 equal.1
equal_is at named x w (Err f) = refl

name_is : (at named : ℕ) (w : Inside) (r : Found (List ℕ))
    → (r >>= (λ x. expect (is_sign mark.Equal) x.1 x.2 >>= (λ equal. count_low at named x.0 w equal.0 equal.1))) ≡ with_body at named w (r >>= (λ x. equal_low x.0 w.expression (expect (is_sign mark.Equal) x.1 x.2)))
name_is at named w (Ok x) = equal_is at named x.0 w (expect (is_sign mark.Equal) x.1 x.2)
name_is at named w (Err f) = refl

count_is : (at : ℕ) (w : Inside) (i : ℕ) (ts : Tokens) → reading.count at w i ts ≡ count at w i ts
count_is at w i ts = name_is at i w (name_at i ts)

-- a statement is a construct where its word is next, and else another

opened_same : (i : ℕ) (inside : Option Inside) (f g : Inside → Found Stmt) → ((w : Inside) → f w ≡ g w) → opened i inside (λ w. some_stmt (f w)) ≡ opened i inside (λ w. some_stmt (g w))
opened_same i None f g h = refl
opened_same i (Some w) f g h = ap some_stmt (h w)

abbrev by_construct : ℕ → Option Inside → Construct × ℕ × Tokens → Found (Option Stmt)
by_construct i inside c = opened i inside (λ w. some_stmt (behind_word c.0 i w c.1 c.2))

abbrev either_some : {A : Type 0} → A → Option A → A
either_some a None = a
either_some a (Some x) = x

told : (expression : Reader Expr) (i : ℕ) (inside : Option Inside) (ts : Tokens) (one other : Construct × ℕ × Tokens) → statement expression inside i ts ≡ by_construct i inside one → Some one ≡ Some other
    → statement expression inside i ts ≡ by_construct i inside other
told expression i inside ts one other h e = h ∙ ap (λ o. by_construct i inside (either_some one o)) e

pub statement_opens : (expression : Reader Expr) (inside : Option Inside) (i : ℕ) (ts : Tokens) (c : Construct × ℕ × Tokens) → construct_at i ts ≡ Some c
    → statement expression inside i ts ≡ opened i inside (λ w. some_stmt (behind_word c.0 i w c.1 c.2))
statement_opens expression inside i [] c e = absurd (cc)
statement_opens expression inside i (Keyword words.If ∷ us) c e = told expression i inside (Keyword words.If ∷ us) (constructs.If, suc i, us) c (opened_same i inside (λ w. reading.choice i w (suc i) us) _ (λ w. choice_is i w (suc i) us)) e
statement_opens expression inside i (Keyword words.While ∷ us) c e = told expression i inside (Keyword words.While ∷ us) (constructs.While, suc i, us) c (opened_same i inside (λ w. reading.loop i w (suc i) us) _ (λ w. loop_is i w (suc i) us)) e
statement_opens expression inside i (Keyword words.For ∷ us) c e = told expression i inside (Keyword words.For ∷ us) (constructs.For, suc i, us) c (opened_same i inside (λ w. reading.count i w (suc i) us) _ (λ w. count_is i w (suc i) us)) e
statement_opens expression inside i (Keyword words.Select ∷ us) c e = told expression i inside (Keyword words.Select ∷ us) (constructs.Select, suc i, us) c refl e
statement_opens expression inside i (t ∷ us) c e = absurd (cc)

pub statement_simple : (expression : Reader Expr) (inside : Option Inside) (i : ℕ) (ts : Tokens) → construct_at i ts ≡ None → statement expression inside i ts ≡ simple expression inside i ts
statement_simple expression inside i [] e = refl
statement_simple expression inside i (Keyword words.If ∷ us) e = absurd (cc)
statement_simple expression inside i (Keyword words.While ∷ us) e = absurd (cc)
statement_simple expression inside i (Keyword words.For ∷ us) e = absurd (cc)
statement_simple expression inside i (Keyword words.Select ∷ us) e = absurd (cc)
statement_simple expression inside i (t ∷ us) e = refl
