-- What it means that reading a symbol agrees with the grammar and with the first refused token, and how that is shown
-- step by step.
use Rattle.std.proofs.Common.{◌≡◌, ℕ, zero, suc, Bool, true, false, List, [], ◌∷◌, Some, None, refl, sym, ap, ◌∙◌, subst}
use Rattle.std.specs.Prelude.{Ok, Err, cond, ◌&&◌, ◌++◌}
use Rattle.std.proofs.lemmas.Bool.{eqb-true}
use Rattle.ci_tree.specs.declared.token.TokenKind.{TokenKind}
use Rattle.ci_tree.specs.declared.token.TokenKind.TheVariants.{Keyword, Sign}
use Rattle.ci_tree.specs.declared.token.Keyword as of_keyword
use Rattle.ci_tree.specs.declared.token.Keyword.TheVariants as words
use Rattle.ci_tree.specs.declared.token.Sign as of_sign
use Rattle.ci_tree.specs.declared.token.Sign.TheVariants as mark
use Rattle.ci_tree.specs.Grammar.{Tokens}
use Rattle.ci_tree.specs.Refused.{unexpected, unexpected_end, Symbol, keyword, sign, Stack, Rule, no_rule, takes, opens, rule, refused_from, from_met, by_rule, taken_if, meet, push, is_keyword, is_sign, begins, has_rule, can_be_empty, followed_by, keyword_number, sign_number, all_empty, Met, left, comma_rule, equal_rule}
use Rattle.ci_expressions.specs.Reading.{Found, ◌>>=◌, expect}

-- What a reader reads: what the grammar says of it, and the symbols that stand for it.
pub record Phrase (V : Type 0) : Type 1 where
  pub Said : Type 0
  pub Is : Said → Type 0
  pub spell : Said → Tokens → Tokens
  pub after : ℕ → Said → ℕ
  pub tree : ℕ → Said → V
  pub front : Stack → Stack

-- A value was read: there is what the grammar says, and the symbols are read up to the same token.
pub record ReadAs {V : Type 0} (p : Phrase V) (i : ℕ) (ts : Tokens) (v : V) (j : ℕ) (rest : Tokens) : Type 0 where
  pub text : p.Said
  pub is : p.Is text
  pub value : v ≡ p.tree i text
  pub index : j ≡ p.after i text
  pub spelled : ts ≡ p.spell text rest
  pub goes : (K : Stack) → refused_from i ts (p.front K) ≡ refused_from j rest K

abbrev pub ExactBy : {V : Type 0} → Phrase V → ℕ → Tokens → Found V → Type 0
ExactBy p i ts (Ok x) = ReadAs p i ts x.0 x.1 x.2
ExactBy p i ts (Err f) = (K : Stack) → refused_from i ts (p.front K) ≡ Some f

pub record Exact {V : Type 0} (p : Phrase V) (i : ℕ) (ts : Tokens) (r : Found V) : Type 0 where
  pub holds : ExactBy p i ts r

-- the symbols of p come down to these symbols at this token
pub record Comes {V : Type 0} (p : Phrase V) (i0 : ℕ) (ts0 : Tokens) (i : ℕ) (ts : Tokens) (F : Stack → Stack) : Type 0 where
  pub goes : (K : Stack) → refused_from i0 ts0 (p.front K) ≡ refused_from i ts (F K)

pub start : {V : Type 0} (p : Phrase V) (i : ℕ) (ts : Tokens) → Comes p i ts i ts p.front
start p i ts = record { goes = λ K. refl }

follow_ok : {V W : Type 0} (q : Phrase V) (p : Phrase W) (i0 : ℕ) (G : Tokens → Tokens) (f : V × ℕ × Tokens → Found W) (i : ℕ) (c : q.Said) (v : V) (j : ℕ) (rest ts : Tokens)
    → v ≡ q.tree i c → j ≡ q.after i c → ts ≡ q.spell c rest
    → ExactBy p i0 (G (q.spell c rest)) (f (q.tree i c, q.after i c, rest))
    → ExactBy p i0 (G ts) (f (v, j, rest))
follow_ok {V} q p i0 G f i c v j rest ts e1 e2 e3 h =
    subst (λ (w : V). ExactBy p i0 (G ts) (f (w, j, rest))) (sym e1)
    (subst (λ (k : ℕ). ExactBy p i0 (G ts) (f (q.tree i c, k, rest))) (sym e2)
    (subst (λ (us : Tokens). ExactBy p i0 (G us) (f (q.tree i c, q.after i c, rest))) (sym e3) h))

-- where one reader agrees, the next goes on behind what it read
pub follow : {V W : Type 0} (q : Phrase V) {p : Phrase W} {i0 : ℕ} (G : Tokens → Tokens) {F : Stack → Stack} {i : ℕ} {ts : Tokens} {r : Found V} (f : V × ℕ × Tokens → Found W)
    → Exact q i ts r
    → Comes p i0 (G ts) i ts (λ K. q.front (F K))
    → ((c : q.Said) (rest : Tokens) → q.Is c → ts ≡ q.spell c rest → Comes p i0 (G (q.spell c rest)) (q.after i c) rest F → Exact p i0 (G (q.spell c rest)) (f (q.tree i c, q.after i c, rest)))
    → Exact p i0 (G ts) (r >>= f)
follow q {p} {i0} G {F} {i} {ts} {r = Ok x} f h comes then = record {
  holds =
      let y = h.holds in
      follow_ok q p i0 G f i y.text x.0 x.1 x.2 ts y.value y.index y.spelled
      (then y.text x.2 y.is y.spelled (record {
        goes = λ K.
            ap (λ (us : Tokens). refused_from i0 (G us) (p.front K)) (sym y.spelled)
            ∙ comes.goes K
            ∙ y.goes (F K)
            ∙ ap (λ (j : ℕ). refused_from j x.2 (F K)) y.index;
      })).holds;
}
follow q {p} {i0} G {F} {i} {ts} {r = Err e} f h comes then = record { holds = λ K. comes.goes K ∙ h.holds (F K) }

-- the reader's end
pub finish : {V : Type 0} (p : Phrase V) {i : ℕ} (text : p.Said) {j : ℕ} {rest : Tokens} → p.Is text → j ≡ p.after i text → Comes p i (p.spell text rest) j rest (λ K. K) → Exact p i (p.spell text rest) (Ok (p.tree i text, j, rest))
finish p {i} text {j} {rest} is index comes = record { holds = record { text = text; is = is; value = refl; index = index; spelled = refl; goes = comes.goes } }

-- one token, by a test that it alone passes
token_by : {W : Type 0} (p : Phrase W) (i0 : ℕ) (G : Tokens → Tokens) (F : Stack → Stack) (d i : ℕ) (u : TokenKind) (us : Tokens) (f : ℕ × Tokens → Found W) (test : TokenKind → Bool) (t : TokenKind) (s : Symbol) (b : Bool)
    → test u ≡ b
    → (test u ≡ true → u ≡ t)
    → rule s u ≡ taken_if (test u)
    → can_be_empty s ≡ false
    → Comes p i0 (G (u ∷ us)) i (u ∷ us) (λ K. (s, d) ∷ F K)
    → ((rest : Tokens) → u ∷ us ≡ t ∷ rest → Comes p i0 (G (t ∷ rest)) (suc i) rest F → Exact p i0 (G (t ∷ rest)) (f (suc i, rest)))
    → Exact p i0 (G (u ∷ us)) (cond b (Ok (suc i, us)) (Err (unexpected i)) >>= f)
token_by p i0 G F d i u us f test t s true e only r full comes then =
    let same = only e in
    let was : Comes p i0 (G (u ∷ us)) (suc i) us F = record { goes = λ K. comes.goes K ∙ ap (λ (x : Rule). from_met i (λ b. refused_from (suc i) us b) (by_rule x (can_be_empty s) d (F K) (meet u (F K)))) (r ∙ ap taken_if e) } in
    subst (λ (x : TokenKind). Comes p i0 (G (x ∷ us)) (suc i) us F → Exact p i0 (G (x ∷ us)) (f (suc i, us))) (sym same) (λ c. then us (ap (λ x. x ∷ us) same) c) was
token_by p i0 G F d i u us f test t s false e only r full comes then = record {
  holds = λ K.
      comes.goes K
      ∙ ap (λ (x : Rule). from_met i (λ b. refused_from (suc i) us b) (by_rule x (can_be_empty s) d (F K) (meet u (F K)))) (r ∙ ap taken_if e)
      ∙ ap (λ (b : Bool). from_met i (λ b. refused_from (suc i) us b) (by_rule no_rule b d (F K) (meet u (F K)))) full;
}

-- the member at a place of a list
abbrev nth : {A : Type 0} → A → List A → ℕ → A
nth a [] n = a
nth a (x ∷ xs) zero = x
nth a (x ∷ xs) (suc n) = nth a xs n

abbrev keywords : List of_keyword.Keyword
keywords = words.Function ∷ words.End ∷ words.If ∷ words.Then ∷ words.Else ∷ words.While ∷ words.Do ∷ words.For ∷ words.To ∷ words.Select ∷ words.Case ∷ words.Is ∷ words.Return ∷ words.Private ∷ words.Public ∷ words.Global ∷ words.Module ∷ words.Int ∷ words.String ∷ words.Real ∷ words.Object ∷ words.Quality ∷ words.Timestamp ∷ words.And ∷ words.Or ∷ words.Not ∷ words.Mod ∷ words.BitAnd ∷ words.BitOr ∷ words.BitXor ∷ []

abbrev signs : List of_sign.Sign
signs = mark.LeftParen ∷ mark.RightParen ∷ mark.LeftBracket ∷ mark.RightBracket ∷ mark.Comma ∷ mark.Semicolon ∷ mark.Colon ∷ mark.Equal ∷ mark.Unequal ∷ mark.Less ∷ mark.Greater ∷ mark.AtMost ∷ mark.AtLeast ∷ mark.Plus ∷ mark.Minus ∷ mark.Star ∷ mark.Slash ∷ []

keyword_found : (k : of_keyword.Keyword) → nth words.Function keywords (keyword_number k) ≡ k
keyword_found words.Function = refl
keyword_found words.End = refl
keyword_found words.If = refl
keyword_found words.Then = refl
keyword_found words.Else = refl
keyword_found words.While = refl
keyword_found words.Do = refl
keyword_found words.For = refl
keyword_found words.To = refl
keyword_found words.Select = refl
keyword_found words.Case = refl
keyword_found words.Is = refl
keyword_found words.Return = refl
keyword_found words.Private = refl
keyword_found words.Public = refl
keyword_found words.Global = refl
keyword_found words.Module = refl
keyword_found words.Int = refl
keyword_found words.String = refl
keyword_found words.Real = refl
keyword_found words.Object = refl
keyword_found words.Quality = refl
keyword_found words.Timestamp = refl
keyword_found words.And = refl
keyword_found words.Or = refl
keyword_found words.Not = refl
keyword_found words.Mod = refl
keyword_found words.BitAnd = refl
keyword_found words.BitOr = refl
keyword_found words.BitXor = refl

sign_found : (s : of_sign.Sign) → nth mark.LeftParen signs (sign_number s) ≡ s
sign_found mark.LeftParen = refl
sign_found mark.RightParen = refl
sign_found mark.LeftBracket = refl
sign_found mark.RightBracket = refl
sign_found mark.Comma = refl
sign_found mark.Semicolon = refl
sign_found mark.Colon = refl
sign_found mark.Equal = refl
sign_found mark.Unequal = refl
sign_found mark.Less = refl
sign_found mark.Greater = refl
sign_found mark.AtMost = refl
sign_found mark.AtLeast = refl
sign_found mark.Plus = refl
sign_found mark.Minus = refl
sign_found mark.Star = refl
sign_found mark.Slash = refl

pub only_keyword : (k : of_keyword.Keyword) (u : TokenKind) → is_keyword k u ≡ true → u ≡ Keyword k
only_keyword k (Keyword j) e = ap Keyword (sym (keyword_found j) ∙ ap (nth words.Function keywords) (sym (eqb-true (keyword_number k) (keyword_number j) e)) ∙ keyword_found k)
only_keyword k u e = absurd (cc)

pub only_sign : (s : of_sign.Sign) (u : TokenKind) → is_sign s u ≡ true → u ≡ Sign s
only_sign s (Sign r) e = ap Sign (sym (sign_found r) ∙ ap (nth mark.LeftParen signs) (sym (eqb-true (sign_number s) (sign_number r) e)) ∙ sign_found s)
only_sign s u e = absurd (cc)

-- a keyword
pub follow_keyword : {W : Type 0} {p : Phrase W} {i0 : ℕ} (G : Tokens → Tokens) {F : Stack → Stack} {d i : ℕ} {ts : Tokens} (k : of_keyword.Keyword) (f : ℕ × Tokens → Found W)
    → Comes p i0 (G ts) i ts (λ K. (keyword k, d) ∷ F K)
    → ((rest : Tokens) → ts ≡ Keyword k ∷ rest → Comes p i0 (G (Keyword k ∷ rest)) (suc i) rest F → Exact p i0 (G (Keyword k ∷ rest)) (f (suc i, rest)))
    → Exact p i0 (G ts) (expect (is_keyword k) i ts >>= f)
follow_keyword {p} {i0} G {F} {d} {i} {ts = []} k f comes then = record { holds = λ K. comes.goes K }
follow_keyword {p} {i0} G {F} {d} {i} {ts = u ∷ us} k f comes then =
    token_by p i0 G F d i u us f (is_keyword k) (Keyword k) (keyword k) (is_keyword k u) refl (only_keyword k u) refl refl comes then

-- a sign
pub follow_sign : {W : Type 0} {p : Phrase W} {i0 : ℕ} (G : Tokens → Tokens) {F : Stack → Stack} {d i : ℕ} {ts : Tokens} (s : of_sign.Sign) (f : ℕ × Tokens → Found W)
    → Comes p i0 (G ts) i ts (λ K. (sign s, d) ∷ F K)
    → ((rest : Tokens) → ts ≡ Sign s ∷ rest → Comes p i0 (G (Sign s ∷ rest)) (suc i) rest F → Exact p i0 (G (Sign s ∷ rest)) (f (suc i, rest)))
    → Exact p i0 (G ts) (expect (is_sign s) i ts >>= f)
follow_sign {p} {i0} G {F} {d} {i} {ts = []} s f comes then = record { holds = λ K. comes.goes K }
follow_sign {p} {i0} G {F} {d} {i} {ts = u ∷ us} s f comes then =
    token_by p i0 G F d i u us f (is_sign s) (Sign s) (sign s) (is_sign s u) refl (only_sign s u) refl refl comes then

-- two ways, by a test
pub chosen : {V : Type 0} {p : Phrase V} {i0 : ℕ} {ts0 : Tokens} (b : Bool) {x y : Found V} → (b ≡ true → Exact p i0 ts0 x) → (b ≡ false → Exact p i0 ts0 y) → Exact p i0 ts0 (cond b x y)
chosen true first second = first refl
chosen false first second = second refl

dropped_by : (r : Rule) (b : Bool) (d i : ℕ) (us : Tokens) (K : Stack) (u : TokenKind) → b ≡ true → has_rule r ≡ false
    → from_met i (λ b. refused_from (suc i) us b) (by_rule r b d K (meet u K)) ≡ from_met i (λ b. refused_from (suc i) us b) (meet u K)
dropped_by no_rule true d i us K u e h = refl
dropped_by no_rule false d i us K u e h = absurd (cc)
dropped_by (takes then) b d i us K u e h = absurd (cc)
dropped_by (opens inside then) b d i us K u e h = absurd (cc)

-- a symbol that can be empty is dropped where it does not begin
pub dropped : (s : Symbol) (d i : ℕ) (ts : Tokens) (K : Stack) → can_be_empty s ≡ true → begins s ts ≡ false → refused_from i ts ((s, d) ∷ K) ≡ refused_from i ts K
dropped s d i [] K e h = ap (λ (b : Bool). cond (b && all_empty K) None (Some unexpected_end)) e
dropped s d i (u ∷ us) K e h = dropped_by (rule s u) (can_be_empty s) d i us K u e h

-- nothing is read of a symbol that can be empty and does not begin
pub empty : {V : Type 0} (p : Phrase V) (i : ℕ) (ts : Tokens) (text : p.Said) (s : Symbol) (d : ℕ) → p.Is text → i ≡ p.after i text → ts ≡ p.spell text ts → ((K : Stack) → p.front K ≡ (s, d) ∷ K) → can_be_empty s ≡ true → begins s ts ≡ false → Exact p i ts (Ok (p.tree i text, i, ts))
empty p i ts text s d is index spelled front e h = record { holds = record { text = text; is = is; value = refl; index = index; spelled = spelled; goes = λ K. ap (λ (k : Stack). refused_from i ts k) (front K) ∙ dropped s d i ts K e h } }

push-append : (d : ℕ) (a b : List Symbol) (K : Stack) → push d (a ++ b) K ≡ push d a (push d b K)
push-append d [] b K = refl
push-append d (s ∷ a) b K = ap (λ (k : Stack). (s, d) ∷ k) (push-append d a b K)

began_by : (r : Rule) (x y : Bool) (more : List Symbol) (d : ℕ) (K : Stack) (m n : Met) → has_rule r ≡ true → by_rule (followed_by more r) x d K m ≡ by_rule r y d (push d more K) n
began_by no_rule x y more d K m n e = absurd (cc)
began_by (takes then) x y more d K m n e = ap left (push-append d then more K)
began_by (opens inside then) x y more zero K m n e = refl
began_by (opens inside then) x y more (suc d) K m n e = ap (λ (k : Stack). left (push d inside k)) (push-append (suc d) then more K)

-- a symbol whose rules are those of another with more behind it
pub began : (s s' : Symbol) (more : List Symbol) (d i : ℕ) (ts : Tokens) (K : Stack) → ((u : TokenKind) → rule s u ≡ followed_by more (rule s' u)) → begins s' ts ≡ true → refused_from i ts ((s, d) ∷ K) ≡ refused_from i ts ((s', d) ∷ push d more K)
began s s' more d i [] K same e = absurd (cc)
began s s' more d i (u ∷ us) K same e =
    ap (λ (m : Met). from_met i (λ b. refused_from (suc i) us b) m)
    (ap (λ (r : Rule). by_rule r (can_be_empty s) d K (meet u K)) (same u)
    ∙ began_by (rule s' u) (can_be_empty s) (can_be_empty s') more d K (meet u K) (meet u (push d more K)) e)

began_has : (more : List Symbol) (r : Rule) → has_rule (followed_by more r) ≡ has_rule r
began_has more no_rule = refl
began_has more (takes then) = refl
began_has more (opens inside then) = refl

-- it begins where the other does
pub begins_as : (s s' : Symbol) (more : List Symbol) (ts : Tokens) → ((u : TokenKind) → rule s u ≡ followed_by more (rule s' u)) → begins s ts ≡ begins s' ts
begins_as s s' more [] same = refl
begins_as s s' more (u ∷ us) same = ap has_rule (same u) ∙ began_has more (rule s' u)

split_by : (r : Rule) (x y : Bool) (more : List Symbol) (d : ℕ) (K : Stack) (m n : Met) → x ≡ false → y ≡ false → by_rule (followed_by more r) x d K m ≡ by_rule r y d (push d more K) n
split_by no_rule true y more d K m n e f = absurd (cc)
split_by no_rule false true more d K m n e f = absurd (cc)
split_by no_rule false false more d K m n e f = refl
split_by (takes then) x y more d K m n e f = ap left (push-append d then more K)
split_by (opens inside then) x y more zero K m n e f = refl
split_by (opens inside then) x y more (suc d) K m n e f = ap (λ (k : Stack). left (push d inside k)) (push-append (suc d) then more K)

-- a symbol that is never empty, whose rules are those of another such with more behind it
pub split : (s s' : Symbol) (more : List Symbol) (d i : ℕ) (ts : Tokens) (K : Stack) → ((u : TokenKind) → rule s u ≡ followed_by more (rule s' u)) → can_be_empty s ≡ false → can_be_empty s' ≡ false → refused_from i ts ((s, d) ∷ K) ≡ refused_from i ts ((s', d) ∷ push d more K)
split s s' more d i [] K same e f = ap (λ (b : Bool). cond (b && all_empty K) None (Some unexpected_end)) e ∙ ap (λ (b : Bool). cond (b && all_empty (push d more K)) None (Some unexpected_end)) (sym f)
split s s' more d i (u ∷ us) K same e f =
    ap (λ (m : Met). from_met i (λ b. refused_from (suc i) us b) m)
    (ap (λ (r : Rule). by_rule r (can_be_empty s) d K (meet u K)) (same u)
    ∙ split_by (rule s' u) (can_be_empty s) (can_be_empty s') more d K (meet u K) (meet u (push d more K)) e f)

-- the token that a rule of one token takes
taken : (b : Bool) → has_rule (taken_if b) ≡ true → b ≡ true
taken true e = refl
taken false e = absurd (cc)

taken_sign : (t : of_sign.Sign) (u : TokenKind) → has_rule (rule (sign t) u) ≡ true → u ≡ Sign t
taken_sign t u e = only_sign t u (taken (is_sign t u) e)

comma_has : (more : List Symbol) (u : TokenKind) → has_rule (comma_rule more u) ≡ has_rule (rule (sign mark.Comma) u)
comma_has more (Sign mark.Comma) = refl
comma_has more u = refl

-- a symbol whose one rule begins with a comma
pub comma_began : (s : Symbol) (more : List Symbol) (d i : ℕ) (ts : Tokens) (K : Stack) → ((u : TokenKind) → rule s u ≡ comma_rule more u) → begins (sign mark.Comma) ts ≡ true → refused_from i ts ((s, d) ∷ K) ≡ refused_from i ts ((sign mark.Comma, d) ∷ push d more K)
comma_began s more d i [] K same e = absurd (cc)
comma_began s more d i (u ∷ us) K same e =
    let is : u ≡ Sign mark.Comma = taken_sign mark.Comma u e in
    subst (λ (v : TokenKind). refused_from i (v ∷ us) ((s, d) ∷ K) ≡ refused_from i (v ∷ us) ((sign mark.Comma, d) ∷ push d more K)) (sym is)
    (ap (λ (r : Rule). from_met i (λ b. refused_from (suc i) us b) (by_rule r (can_be_empty s) d K (meet (Sign mark.Comma) K))) (same (Sign mark.Comma)))

pub comma_begins : (s : Symbol) (more : List Symbol) (ts : Tokens) → ((u : TokenKind) → rule s u ≡ comma_rule more u) → begins s ts ≡ begins (sign mark.Comma) ts
comma_begins s more [] same = refl
comma_begins s more (u ∷ us) same = ap has_rule (same u) ∙ comma_has more u

-- the same at one token
pub split_one : (s s' : Symbol) (more : List Symbol) (d i : ℕ) (u : TokenKind) (us : Tokens) (K : Stack) → rule s u ≡ followed_by more (rule s' u) → can_be_empty s ≡ false → can_be_empty s' ≡ false → refused_from i (u ∷ us) ((s, d) ∷ K) ≡ refused_from i (u ∷ us) ((s', d) ∷ push d more K)
split_one s s' more d i u us K same e f =
    ap (λ (m : Met). from_met i (λ b. refused_from (suc i) us b) m)
    (ap (λ (r : Rule). by_rule r (can_be_empty s) d K (meet u K)) same
    ∙ split_by (rule s' u) (can_be_empty s) (can_be_empty s') more d K (meet u K) (meet u (push d more K)) e f)

equal_has : (more : List Symbol) (u : TokenKind) → has_rule (equal_rule more u) ≡ has_rule (rule (sign mark.Equal) u)
equal_has more (Sign mark.Equal) = refl
equal_has more u = refl

-- a symbol whose one rule begins with `=`
pub equal_began : (s : Symbol) (more : List Symbol) (d i : ℕ) (ts : Tokens) (K : Stack) → ((u : TokenKind) → rule s u ≡ equal_rule more u) → begins s ts ≡ true → refused_from i ts ((s, d) ∷ K) ≡ refused_from i ts ((sign mark.Equal, d) ∷ push d more K)
equal_began s more d i [] K same e = absurd (cc)
equal_began s more d i (u ∷ us) K same e =
    let is : u ≡ Sign mark.Equal = taken_sign mark.Equal u (sym (equal_has more u) ∙ sym (ap has_rule (same u)) ∙ e) in
    subst (λ (v : TokenKind). refused_from i (v ∷ us) ((s, d) ∷ K) ≡ refused_from i (v ∷ us) ((sign mark.Equal, d) ∷ push d more K)) (sym is)
    (ap (λ (r : Rule). from_met i (λ b. refused_from (suc i) us b) (by_rule r (can_be_empty s) d K (meet (Sign mark.Equal) K))) (same (Sign mark.Equal)))

-- what one reader reads stands for what another says, behind what was read before
pub turn : {V : Type 0} (q p : Phrase V) {i0 i : ℕ} (G : Tokens → Tokens) {ts : Tokens} {r : Found V} (m : q.Said → p.Said)
    → Exact q i ts r
    → Comes p i0 (G ts) i ts q.front
    → ((x : q.Said) → q.Is x → p.Is (m x))
    → ((x : q.Said) → q.tree i x ≡ p.tree i0 (m x))
    → ((x : q.Said) → q.after i x ≡ p.after i0 (m x))
    → ((x : q.Said) (k : Tokens) → G (q.spell x k) ≡ p.spell (m x) k)
    → Exact p i0 (G ts) r
turn q p {i0} {i} G {ts} {r = Ok x} m h comes is tree after spell = record {
  holds = record {
    text = m h.holds.text;
    is = is h.holds.text h.holds.is;
    value = h.holds.value ∙ tree h.holds.text;
    index = h.holds.index ∙ after h.holds.text;
    spelled = ap G h.holds.spelled ∙ spell h.holds.text x.2;
    goes = λ K. comes.goes K ∙ h.holds.goes K;
  };
}
turn q p {i0} {i} G {ts} {r = Err f} m h comes is tree after spell = record { holds = λ K. comes.goes K ∙ h.holds K }
