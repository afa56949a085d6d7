-- What is spelled is read again: statements.
use Rattle.std.proofs.Common.{◌≡◌, ℕ, zero, suc, ◌≤◌, true, false, List, [], ◌∷◌, length, Option, Some, None, refl, ◌∙◌, arith}
use Rattle.std.specs.Prelude.{Ok}
use Rattle.ci_tree.specs.declared.token.TokenKind.TheVariants.{Keyword, Sign}
use Rattle.ci_tree.specs.declared.token.Keyword.TheVariants as words
use Rattle.ci_tree.specs.declared.token.Sign.TheVariants as mark
use Rattle.ci_tree.specs.declared.tree.TypeName.{TypeName}
use Rattle.ci_tree.specs.declared.tree.TypeName.TheVariants as type_name
use Rattle.ci_base.specs.declared.relation.Relation.{Relation}
use Rattle.ci_base.specs.declared.relation.Relation.TheVariants as relations
use Rattle.ci_tree.specs.Tree as to
use Rattle.ci_tree.specs.Grammar.{Tokens, type_token, relation_token, spell_level, after_level, tree_level, spell_others, AreAll, after_others, tree_others, IsLocal, spell_local, after_local, tree_local, IsLabel, spell_label, after_label, tree_label, IsStatement, spell_statement, after_statement, tree_statement, IsElse, spell_else, after_else, tree_else, IsCases, spell_cases, after_cases, tree_cases, IsBody, spell_body, after_body, tree_body}
use Rattle.ci_tree.specs.Grammar as said
use Rattle.ci_tree.specs.Refused.{Refusal, begins, has_rule, rule}
use Rattle.ci_tree.specs.Refused as ask
use Rattle.ci_parser.specs.Reading.{Reader, others, members, local, label, relation_at, begins_with, Inside, else_part, cases, statement, statement_by, statements, body, expression}
use Rattle.ci_expressions.proofs.Exact.{Phrase, begins_as}
use Rattle.ci_parser.proofs.ExactMembers.{local_phrase, label_phrase}
use Rattle.ci_expressions.proofs.Longer.{longer_local, longer_label, longer_others, longer_body, longer_then}
use Rattle.ci_expressions.proofs.Again.{then_again, first_way, second_way, Ends, expression_begins, level_begins, expression_again, arguments_again}

-- What follows a list of members: no comma, and no more of the last member.
pub record Closes (After : Tokens → Type 0) (k : Tokens) : Type 0 where
  pub no_comma : begins (ask.sign mark.Comma) k ≡ false
  pub after : After k

-- each member is read again
abbrev pub MemberAgain : {V : Type 0} → Phrase V → (Tokens → Type 0) → Reader V → Type 0
MemberAgain m After member = (x : m.Said) → m.Is x → (i : ℕ) (k : Tokens) → After k → member i (m.spell x k) ≡ Ok (m.tree i x, m.after i x, k)

others_after : {M : Type 0} (spell : M → Tokens → Tokens) (After : Tokens → Type 0) → ((us : Tokens) → After (Sign mark.Comma ∷ us)) → (ms : List M) (k : Tokens) → After k → After (spell_others spell ms k)
others_after spell After comma [] k after = after
others_after spell After comma (m ∷ ms) k after = comma (spell m (spell_others spell ms k))

others_none : {V : Type 0} (member : Reader V) (fuel i : ℕ) (k : Tokens) → begins (ask.sign mark.Comma) k ≡ false → others member fuel i k ≡ Ok ([], i, k)
others_none member zero i k e = refl
others_none member (suc fuel) i k e = second_way _ e refl

others_again : {V : Type 0} (m : Phrase V) (After : Tokens → Type 0) (member : Reader V)
    → ((x : m.Said) (k : Tokens) → length k ≤ length (m.spell x k))
    → ((us : Tokens) → After (Sign mark.Comma ∷ us))
    → MemberAgain m After member
    → (ms : List m.Said) → AreAll m.Is ms → (fuel i : ℕ) (k : Tokens) → length (spell_others m.spell ms k) ≤ fuel → Closes After k
    → others member fuel i (spell_others m.spell ms k) ≡ Ok (tree_others m.after m.tree i ms, after_others m.after i ms, k)
others_again m After member longer comma again [] is fuel i k short closes = others_none member fuel i k closes.no_comma
others_again m After member longer comma again (x ∷ xs) is zero i k short closes = absurd (omega arith)
others_again m After member longer comma again (x ∷ xs) is (suc fuel) i k short closes =
    let shorter : length (spell_others m.spell xs k) ≤ fuel = omega (arith, longer x (spell_others m.spell xs k)) in
    then_again _ (again x is.0 (suc i) (spell_others m.spell xs k) (others_after m.spell After comma xs k closes.after))
    (then_again _ (others_again m After member longer comma again xs is.1 fuel (m.after (suc i) x) k shorter closes) refl)

pub members_again : {V : Type 0} (m : Phrase V) (After : Tokens → Type 0) (member : Reader V)
    → ((x : m.Said) (k : Tokens) → length k ≤ length (m.spell x k))
    → ((us : Tokens) → After (Sign mark.Comma ∷ us))
    → MemberAgain m After member
    → (x : m.Said) (xs : List m.Said) → m.Is x → AreAll m.Is xs → (i : ℕ) (k : Tokens) → Closes After k
    → members member i (m.spell x (spell_others m.spell xs k)) ≡ Ok (m.tree i x ∷ tree_others m.after m.tree (m.after i x) xs, after_others m.after (m.after i x) xs, k)
members_again m After member longer comma again x xs is all i k closes =
    let short : length (spell_others m.spell xs k) ≤ length (spell_others m.spell xs k) = omega arith in
    then_again _ (again x is i (spell_others m.spell xs k) (others_after m.spell After comma xs k closes.after))
    (then_again _ (others_again m After member longer comma again xs all (length (spell_others m.spell xs k)) (m.after i x) k short closes) refl)

-- Locals

pub record AfterLocal (k : Tokens) : Type 0 where
  pub ends : Ends 8 k
  pub no_value : begins ask.local_end k ≡ false

local_again : (d : ℕ) → MemberAgain (local_phrase d) AfterLocal (local (expression d))
local_again d (said.plain_local x) is i k after = second_way _ after.no_value refl
local_again d (said.valued_local x e) is i k after = then_again _ (expression_again e d is (suc (suc i)) k after.ends) refl

-- Labels

pub record AfterLabel (k : Tokens) : Type 0 where
  pub ends : Ends 8 k
  pub no_to : begins ask.label_end k ≡ false

relation_again : (r : Relation) (i : ℕ) (k : Tokens) → relation_at i (relation_token r ∷ k) ≡ Ok (r, suc i, k)
relation_again relations.Equal i k = refl
relation_again relations.Unequal i k = refl
relation_again relations.Less i k = refl
relation_again relations.Greater i k = refl
relation_again relations.AtMost i k = refl
relation_again relations.AtLeast i k = refl

no_is : (ts : Tokens) → begins (ask.level 0) ts ≡ true → begins_with words.Is ts ≡ false
no_is [] e = absurd (cc)
no_is (Keyword words.Is ∷ us) e = absurd (cc)
no_is (u ∷ us) e = refl

no_else : (ts : Tokens) → begins (ask.level 0) ts ≡ true → begins_with words.Else ts ≡ false
no_else [] e = absurd (cc)
no_else (Keyword words.Else ∷ us) e = absurd (cc)
no_else (u ∷ us) e = refl

label_again : (d : ℕ) → MemberAgain (label_phrase d) AfterLabel (label (expression d))
label_again d (said.one e) is i k after =
    second_way _ (no_is (spell_level e k) (level_begins e k))
    (then_again _ (expression_again e d is i k after.ends) (second_way _ after.no_to refl))
label_again d (said.range a b) is i k after =
    second_way _ (no_is (spell_level a (Keyword words.To ∷ spell_level b k)) (level_begins a (Keyword words.To ∷ spell_level b k)))
    (then_again _ (expression_again a d is.0 i (Keyword words.To ∷ spell_level b k) (record { no_suffix = refl; no_rest = λ m h. refl }))
    (then_again _ (expression_again b d is.1 (suc (after_level i a)) k after.ends) refl))
label_again d (said.compared r e) is i k after =
    then_again _ (relation_again r (suc i) (spell_level e k))
    (then_again _ (expression_again e d is (suc (suc i)) k after.ends) refl)

label_no_else : (l : said.Label) (k : Tokens) → begins_with words.Else (spell_label l k) ≡ false
label_no_else (said.one e) k = no_else (spell_level e k) (level_begins e k)
label_no_else (said.range a b) k = no_else (spell_level a (Keyword words.To ∷ spell_level b k)) (level_begins a (Keyword words.To ∷ spell_level b k))
label_no_else (said.compared r e) k = refl

-- Statements

statement_begins : (s : said.Statement) (k : Tokens) → begins ask.statement (spell_statement s k) ≡ true
statement_begins said.empty k = refl
statement_begins (said.declared type_name.Int l ls) k = refl
statement_begins (said.declared type_name.String l ls) k = refl
statement_begins (said.declared type_name.Real l ls) k = refl
statement_begins (said.declared type_name.Object l ls) k = refl
statement_begins (said.declared type_name.Quality l ls) k = refl
statement_begins (said.declared type_name.Timestamp l ls) k = refl
statement_begins (said.call_of x a) k = refl
statement_begins (said.assigned x e) k = refl
statement_begins (said.element_assigned x i e) k = refl
statement_begins (said.choice e b o) k = refl
statement_begins (said.loop e b) k = refl
statement_begins (said.count x e f b) k = refl
statement_begins (said.selection e c) k = refl
statement_begins said.return_none k = refl
statement_begins (said.return_value e) k = refl

body_begins : (s : said.Statement) (k : Tokens) → begins ask.body (spell_statement s k) ≡ true
body_begins s k = begins_as ask.body ask.statement (ask.body ∷ []) (spell_statement s k) (λ u. refl) ∙ statement_begins s k

-- a token that begins a statement, or ends one, ends the labels of a clause
statement_closes : (ts : Tokens) → begins ask.statement ts ≡ true → Closes AfterLabel ts
statement_closes [] e = absurd (cc)
statement_closes (Sign mark.LeftParen ∷ us) e = absurd (cc)
statement_closes (Sign mark.LeftBracket ∷ us) e = absurd (cc)
statement_closes (Sign mark.Comma ∷ us) e = absurd (cc)
statement_closes (Sign mark.Colon ∷ us) e = absurd (cc)
statement_closes (Sign mark.Equal ∷ us) e = absurd (cc)
statement_closes (Sign mark.Unequal ∷ us) e = absurd (cc)
statement_closes (Sign mark.Less ∷ us) e = absurd (cc)
statement_closes (Sign mark.Greater ∷ us) e = absurd (cc)
statement_closes (Sign mark.AtMost ∷ us) e = absurd (cc)
statement_closes (Sign mark.AtLeast ∷ us) e = absurd (cc)
statement_closes (Sign mark.Plus ∷ us) e = absurd (cc)
statement_closes (Sign mark.Minus ∷ us) e = absurd (cc)
statement_closes (Sign mark.Star ∷ us) e = absurd (cc)
statement_closes (Sign mark.Slash ∷ us) e = absurd (cc)
statement_closes (Keyword words.To ∷ us) e = absurd (cc)
statement_closes (Keyword words.And ∷ us) e = absurd (cc)
statement_closes (Keyword words.Or ∷ us) e = absurd (cc)
statement_closes (Keyword words.Mod ∷ us) e = absurd (cc)
statement_closes (Keyword words.BitAnd ∷ us) e = absurd (cc)
statement_closes (Keyword words.BitOr ∷ us) e = absurd (cc)
statement_closes (Keyword words.BitXor ∷ us) e = absurd (cc)
statement_closes (u ∷ us) e = record { no_comma = refl; after = record { ends = record { no_suffix = refl; no_rest = λ m h. refl }; no_to = refl } }

body_closes : (b : said.Body) (c : said.Cases) (k : Tokens) → Closes AfterLabel (spell_body b (spell_cases c k))
body_closes said.end said.end_select k = record { no_comma = refl; after = record { ends = record { no_suffix = refl; no_rest = λ m h. refl }; no_to = refl } }
body_closes said.end (said.case_else b) k = record { no_comma = refl; after = record { ends = record { no_suffix = refl; no_rest = λ m h. refl }; no_to = refl } }
body_closes said.end (said.case l ls b c) k = record { no_comma = refl; after = record { ends = record { no_suffix = refl; no_rest = λ m h. refl }; no_to = refl } }
body_closes (said.then s b) c k = statement_closes (spell_statement s (spell_body b (spell_cases c k))) (statement_begins s (spell_body b (spell_cases c k)))

-- what follows the subject and the bodies of SELECT
cases_ends : (c : said.Cases) (k : Tokens) → Ends 8 (spell_cases c k)
cases_ends said.end_select k = record { no_suffix = refl; no_rest = λ m h. refl }
cases_ends (said.case_else b) k = record { no_suffix = refl; no_rest = λ m h. refl }
cases_ends (said.case l ls b c) k = record { no_suffix = refl; no_rest = λ m h. refl }

cases_no_body : (c : said.Cases) (k : Tokens) → begins ask.body (spell_cases c k) ≡ false
cases_no_body said.end_select k = refl
cases_no_body (said.case_else b) k = refl
cases_no_body (said.case l ls b c) k = refl

else_no_body : (o : said.Else) (k : Tokens) → begins ask.body (spell_else o (Keyword words.End ∷ k)) ≡ false
else_no_body said.no_else k = refl
else_no_body (said.else b) k = refl

declared_again : (t : TypeName) (l : said.Local) (ls : List said.Local) (d : ℕ) (inside : Option Inside) → IsLocal d l → AreAll (IsLocal d) ls → (i : ℕ) (k : Tokens)
    → statement (expression d) inside i (type_token t ∷ spell_local l (spell_others spell_local ls (Sign mark.Semicolon ∷ k))) ≡ Ok (tree_statement i (said.declared t l ls), after_statement i (said.declared t l ls), k)
declared_again t l ls d inside is all i k = typed t ∙ behind
  where
    typed : (t : TypeName) → statement (expression d) inside i (type_token t ∷ spell_local l (spell_others spell_local ls (Sign mark.Semicolon ∷ k))) ≡ statement_by (expression d) inside i (type_token t) (spell_local l (spell_others spell_local ls (Sign mark.Semicolon ∷ k))) (Some t)
    typed type_name.Int = refl
    typed type_name.String = refl
    typed type_name.Real = refl
    typed type_name.Object = refl
    typed type_name.Quality = refl
    typed type_name.Timestamp = refl

    behind : statement_by (expression d) inside i (type_token t) (spell_local l (spell_others spell_local ls (Sign mark.Semicolon ∷ k))) (Some t) ≡ Ok (tree_statement i (said.declared t l ls), after_statement i (said.declared t l ls), k)
    behind =
        then_again _
        (then_again _ (members_again (local_phrase d) AfterLocal (local (expression d)) longer_local (λ us. record { ends = record { no_suffix = refl; no_rest = λ m h. refl }; no_value = refl }) (local_again d) l ls is all (suc i) (Sign mark.Semicolon ∷ k)
        (record { no_comma = refl; after = record { ends = record { no_suffix = refl; no_rest = λ m h. refl }; no_value = refl } })) refl)
        refl

-- what ends an expression in a statement
at_word : (k : Tokens) → Ends 8 (Keyword words.Then ∷ k)
at_word k = record { no_suffix = refl; no_rest = λ m h. refl }

-- the readers inside a construct
abbrev inside_of : ℕ → Inside
inside_of d = record { expression = expression d; body = body d }

abbrev maybe_inside : ℕ → Option Inside
maybe_inside zero = None
maybe_inside (suc d) = Some (inside_of d)

body_is : (d i : ℕ) (ts : Tokens) → body d i ts ≡ statements (expression d) (maybe_inside d) (length ts) i ts
body_is zero i ts = refl
body_is (suc d) i ts = refl

statements_none : (expr : Reader to.Expr) (inside : Option Inside) (fuel i : ℕ) (k : Tokens) → begins ask.body k ≡ false → statements expr inside fuel i k ≡ Ok (to.done, i, k)
statements_none expr inside zero i k e = refl
statements_none expr inside (suc fuel) i k e = second_way _ e refl

same : (n : ℕ) → n ≤ n
same n = omega arith

in_body : (b : said.Body) (d i : ℕ) (k : Tokens) → statements (expression d) (maybe_inside d) (length (spell_body b k)) i (spell_body b k) ≡ Ok (tree_body i b, after_body i b, k) → body d i (spell_body b k) ≡ Ok (tree_body i b, after_body i b, k)
in_body b d i k h = body_is d i (spell_body b k) ∙ h

mutual
  statement_again : (s : said.Statement) (d : ℕ) → IsStatement d s → (i : ℕ) (k : Tokens) → statement (expression d) (maybe_inside d) i (spell_statement s k) ≡ Ok (tree_statement i s, after_statement i s, k)
  statement_again said.empty d is i k = refl
  statement_again (said.declared t l ls) d is i k = declared_again t l ls d (maybe_inside d) is.0 is.1 i k
  statement_again (said.call_of x a) zero is i k = absurd is
  statement_again (said.call_of x a) (suc d) is i k = then_again _ (then_again _ (arguments_again a d is (suc (suc i)) (Sign mark.Semicolon ∷ k)) refl) refl
  statement_again (said.assigned x e) d is i k = then_again _ (then_again _ (expression_again e d is (suc (suc i)) (Sign mark.Semicolon ∷ k) (record { no_suffix = refl; no_rest = λ m h. refl })) refl) refl
  statement_again (said.element_assigned x j e) zero is i k = absurd is.0
  statement_again (said.element_assigned x j e) (suc d) is i k =
      then_again _
      (then_again _ (expression_again j d is.0 (suc (suc i)) (Sign mark.RightBracket ∷ Sign mark.Equal ∷ spell_level e (Sign mark.Semicolon ∷ k)) (record { no_suffix = refl; no_rest = λ m h. refl }))
      (then_again _ (expression_again e (suc d) is.1 (suc (suc (after_level (suc (suc i)) j))) (Sign mark.Semicolon ∷ k) (record { no_suffix = refl; no_rest = λ m h. refl })) refl))
      refl
  statement_again (said.choice e b o) zero is i k = absurd is
  statement_again (said.choice e b o) (suc d) is i k =
      then_again _
      (then_again _ (expression_again e d is.0 (suc i) (Keyword words.Then ∷ spell_body b (spell_else o (Keyword words.End ∷ k))) (record { no_suffix = refl; no_rest = λ m h. refl }))
      (then_again _ (in_body b d (suc (after_level (suc i) e)) (spell_else o (Keyword words.End ∷ k)) (statements_again b d is.1 (length (spell_body b (spell_else o (Keyword words.End ∷ k)))) (suc (after_level (suc i) e)) (spell_else o (Keyword words.End ∷ k)) (same (length (spell_body b (spell_else o (Keyword words.End ∷ k))))) (else_no_body o k)))
      (then_again _ (else_again o d is.2 (after_body (suc (after_level (suc i) e)) b) k) refl)))
      refl
  statement_again (said.loop e b) zero is i k = absurd is
  statement_again (said.loop e b) (suc d) is i k =
      then_again _
      (then_again _ (expression_again e d is.0 (suc i) (Keyword words.Do ∷ spell_body b (Keyword words.End ∷ k)) (record { no_suffix = refl; no_rest = λ m h. refl }))
      (then_again _ (in_body b d (suc (after_level (suc i) e)) (Keyword words.End ∷ k) (statements_again b d is.1 (length (spell_body b (Keyword words.End ∷ k))) (suc (after_level (suc i) e)) (Keyword words.End ∷ k) (same (length (spell_body b (Keyword words.End ∷ k)))) refl)) refl))
      refl
  statement_again (said.count x e f b) zero is i k = absurd is
  statement_again (said.count x e f b) (suc d) is i k =
      then_again _
      (then_again _ (expression_again e d is.0 (suc (suc (suc i))) (Keyword words.To ∷ spell_level f (Keyword words.Do ∷ spell_body b (Keyword words.End ∷ k))) (record { no_suffix = refl; no_rest = λ m h. refl }))
      (then_again _ (expression_again f d is.1 (suc (after_level (suc (suc (suc i))) e)) (Keyword words.Do ∷ spell_body b (Keyword words.End ∷ k)) (record { no_suffix = refl; no_rest = λ m h. refl }))
      (then_again _ (in_body b d (suc (after_level (suc (after_level (suc (suc (suc i))) e)) f)) (Keyword words.End ∷ k) (statements_again b d is.2 (length (spell_body b (Keyword words.End ∷ k))) (suc (after_level (suc (after_level (suc (suc (suc i))) e)) f)) (Keyword words.End ∷ k) (same (length (spell_body b (Keyword words.End ∷ k)))) refl)) refl)))
      refl
  statement_again (said.selection e c) zero is i k = absurd is
  statement_again (said.selection e c) (suc d) is i k =
      let short : suc (length (spell_cases c k)) ≤ suc (length (spell_cases c k)) = omega arith in
      then_again _
      (then_again _ (expression_again e d is.0 (suc (suc i)) (spell_cases c k) (cases_ends c k))
      (then_again _ (cases_again c d is.1 (suc (length (spell_cases c k))) (after_level (suc (suc i)) e) k short) refl))
      refl
  statement_again said.return_none d is i k = refl
  statement_again (said.return_value e) d is i k =
      then_again _
      (first_way _ (expression_begins e (Sign mark.Semicolon ∷ k))
      (then_again _ (expression_again e d is (suc i) (Sign mark.Semicolon ∷ k) (record { no_suffix = refl; no_rest = λ m h. refl })) refl))
      refl

  else_again : (o : said.Else) (d : ℕ) → IsElse d o → (i : ℕ) (k : Tokens) → else_part (inside_of d) i (spell_else o (Keyword words.End ∷ k)) ≡ Ok (tree_else i o, after_else i o, Keyword words.End ∷ k)
  else_again said.no_else d is i k = refl
  else_again (said.else b) d is i k = then_again _ (in_body b d (suc i) (Keyword words.End ∷ k) (statements_again b d is (length (spell_body b (Keyword words.End ∷ k))) (suc i) (Keyword words.End ∷ k) (same (length (spell_body b (Keyword words.End ∷ k)))) refl)) refl

  cases_again : (c : said.Cases) (d : ℕ) → IsCases d c → (fuel i : ℕ) (k : Tokens) → suc (length (spell_cases c k)) ≤ fuel → cases (inside_of d) fuel i (spell_cases c k) ≡ Ok (tree_cases i c, after_cases i c, k)
  cases_again c d is zero i k short = absurd (omega arith)
  cases_again said.end_select d is (suc fuel) i k short = refl
  cases_again (said.case_else b) d is (suc fuel) i k short = then_again _ (in_body b d (suc (suc i)) (Keyword words.End ∷ Keyword words.Select ∷ k) (statements_again b d is (length (spell_body b (Keyword words.End ∷ Keyword words.Select ∷ k))) (suc (suc i)) (Keyword words.End ∷ Keyword words.Select ∷ k) (same (length (spell_body b (Keyword words.End ∷ Keyword words.Select ∷ k)))) refl)) refl
  cases_again (said.case l ls b c) d is (suc fuel) i k short =
      let shorter : suc (length (spell_cases c k)) ≤ fuel = omega (arith, longer_label l (spell_others spell_label ls (spell_body b (spell_cases c k))), longer_others spell_label longer_label ls (spell_body b (spell_cases c k)), longer_body b (spell_cases c k)) in
      second_way _ (label_no_else l (spell_others spell_label ls (spell_body b (spell_cases c k))))
      (then_again _ (members_again (label_phrase d) AfterLabel (label (expression d)) longer_label (λ us. record { ends = record { no_suffix = refl; no_rest = λ m h. refl }; no_to = refl }) (label_again d) l ls is.0 is.1 (suc i) (spell_body b (spell_cases c k)) (body_closes b c k))
      (then_again _ (in_body b d (after_others after_label (after_label (suc i) l) ls) (spell_cases c k) (statements_again b d is.2 (length (spell_body b (spell_cases c k))) (after_others after_label (after_label (suc i) l) ls) (spell_cases c k) (same (length (spell_body b (spell_cases c k)))) (cases_no_body c k)))
      (then_again _ (cases_again c d is.3 fuel (after_body (after_others after_label (after_label (suc i) l) ls) b) k shorter) refl)))

  statements_again : (b : said.Body) (d : ℕ) → IsBody d b → (fuel i : ℕ) (k : Tokens) → length (spell_body b k) ≤ fuel → begins ask.body k ≡ false → statements (expression d) (maybe_inside d) fuel i (spell_body b k) ≡ Ok (tree_body i b, after_body i b, k)
  statements_again said.end d is fuel i k short e = statements_none (expression d) (maybe_inside d) fuel i k e
  statements_again (said.then s b) d is zero i k short e = absurd (omega (arith, longer_then s (spell_body b k)))
  statements_again (said.then s b) d is (suc fuel) i k short e =
      let shorter : length (spell_body b k) ≤ fuel = omega (arith, longer_then s (spell_body b k)) in
      first_way _ (body_begins s (spell_body b k))
      (then_again _ (statement_again s d is.0 i (spell_body b k))
      (then_again _ (statements_again b d is.1 fuel (after_statement i s) k shorter e) refl))

pub body_again : (b : said.Body) (d : ℕ) → IsBody d b → (i : ℕ) (k : Tokens) → begins ask.body k ≡ false → body d i (spell_body b k) ≡ Ok (tree_body i b, after_body i b, k)
body_again b d is i k e = in_body b d i k (statements_again b d is (length (spell_body b k)) i k (same (length (spell_body b k))) e)
