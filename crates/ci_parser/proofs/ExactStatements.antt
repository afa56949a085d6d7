-- Reading statements agrees with the grammar and with the first refused token.
use Rattle.std.proofs.Common.{◌≡◌, ℕ, zero, suc, ◌≤◌, true, false, List, [], ◌∷◌, length, Option, Some, None, refl, sym, ap, ◌∙◌, subst, arith, append-nil}
use Rattle.std.specs.Prelude.{Ok}
use Rattle.ci_tree.specs.declared.token.TokenKind.{TokenKind}
use Rattle.ci_tree.specs.declared.token.TokenKind.TheVariants.{Name, Keyword, Sign}
use Rattle.ci_tree.specs.declared.token.Keyword.TheVariants as words
use Rattle.ci_tree.specs.declared.token.Sign.TheVariants as mark
use Rattle.ci_tree.specs.declared.tree.TypeName.{TypeName}
use Rattle.ci_tree.specs.Tree as to
use Rattle.ci_tree.specs.Grammar.{Tokens, type_token, IsExpr, spell_level, after_level, tree_level, IsArgs, spell_args, after_args, tree_args, spell_local, spell_label, spell_others, after_local, after_label, after_others, tree_local, tree_label, tree_others, IsStatement, spell_statement, after_statement, tree_statement, IsElse, spell_else, after_else, tree_else, IsCases, spell_cases, after_cases, tree_cases, CasesTree, IsBody, spell_body, after_body, tree_body}
use Rattle.ci_tree.specs.Grammar as said
use Rattle.ci_tree.specs.Refused.{Symbol, Stack, too_deep, rule, refused_from, from_met, by_rule, meet, push, begins, has_rule, type_of_token, typed_or, plain_statement_rule}
use Rattle.ci_tree.specs.Refused as ask
use Rattle.ci_parser.specs.Reading.{Found, Reader, Inside, opened, else_part, choice, loop, count, cases, selection, tail, returned, closed, plain_statement, declared, statement_by, statement, statements, body, expression, local, label, begins_with}
use Rattle.ci_expressions.proofs.Exact.{Phrase, Exact, Comes, follow, finish, follow_keyword, follow_sign, chosen, empty, began, begins_as, split_one}
use Rattle.ci_expressions.proofs.ExactExpressions.{AllExact, level_phrase, args_phrase, args_exact, name_phrase, name_exact, type_token_is, expression_exact}
use Rattle.ci_parser.proofs.ExactMembers.{members_phrase, members_exact, local_phrase, local_exact, label_phrase, label_exact}
use Rattle.ci_expressions.proofs.Longer.{longer_local, longer_label, longer_others, longer_body, longer_then}

abbrev pub body_phrase : ℕ → Phrase to.Block
body_phrase d = record { Said = said.Body; Is = IsBody d; spell = spell_body; after = after_body; tree = tree_body; front = λ K. (ask.body, d) ∷ K }

-- the readers inside a construct agree, one level further in
pub record InsideExact (d : ℕ) (inside : Inside) : Type 0 where
  pub expression : AllExact (level_phrase 8 d) inside.expression
  pub body : AllExact (body_phrase d) inside.body

abbrev pub InsideAt : ℕ → Option Inside → Type 0
InsideAt zero None = Unit {0}
InsideAt zero (Some inside) = ⊥
InsideAt (suc d) None = ⊥
InsideAt (suc d) (Some inside) = InsideExact d inside

opened_exact : {V : Type 0} (P : ℕ → Phrase V) (i0 : ℕ) (ts0 : Tokens) (i d : ℕ) (inside : Option Inside) (read : Inside → Found V)
    → InsideAt d inside
    → ((K : Stack) → refused_from i0 ts0 ((P zero).front K) ≡ Some (too_deep i))
    → ((e : ℕ) (w : Inside) → InsideExact e w → Exact (P (suc e)) i0 ts0 (read w))
    → Exact (P d) i0 ts0 (opened i inside read)
opened_exact P i0 ts0 i zero None read at deep then = record { holds = deep }
opened_exact P i0 ts0 i zero (Some w) read at deep then = absurd at
opened_exact P i0 ts0 i (suc d) None read at deep then = absurd at
opened_exact P i0 ts0 i (suc d) (Some w) read at deep then = then d w at

-- [ "ELSE" Body ]

abbrev else_phrase : ℕ → Phrase to.Other
else_phrase d = record { Said = said.Else; Is = IsElse d; spell = spell_else; after = after_else; tree = tree_else; front = λ K. (ask.else, d) ∷ K }

else_began : (d i : ℕ) (ts : Tokens) (K : Stack) → begins ask.else ts ≡ true → refused_from i ts ((ask.else, d) ∷ K) ≡ refused_from i ts ((ask.keyword words.Else, d) ∷ (ask.body, d) ∷ K)
else_began d i [] K e = absurd (cc)
else_began d i (Keyword words.Else ∷ us) K e = refl
else_began d i (u ∷ us) K e = absurd (cc)

else_exact : (d : ℕ) (w : Inside) → InsideExact d w → AllExact (else_phrase d) (else_part w)
else_exact d w each i ts =
    chosen (begins ask.else ts)
    (λ e. follow_keyword (λ us. us) words.Else _ (record { goes = λ K. else_began d i ts K e })
    (λ rest at comes. follow (body_phrase d) (λ us. Keyword words.Else ∷ us) _ (each.body (suc i) rest) comes
    (λ b rest is spelled comes. finish (else_phrase d) (said.else b) is refl comes)))
    (λ e. empty (else_phrase d) i ts said.no_else ask.else d tt refl refl (λ K. refl) refl e)

-- IF, WHILE and FOR, behind their words

abbrev choice_phrase : ℕ → ℕ → Phrase to.Stmt
choice_phrase at d = record {
  Said = said.Level × said.Body × said.Else;
  Is = λ x. IsExpr d x.0 × IsBody d x.1 × IsElse d x.2;
  spell = λ x k. spell_level x.0 (Keyword words.Then ∷ spell_body x.1 (spell_else x.2 (Keyword words.End ∷ k)));
  after = λ i x. suc (after_else (after_body (suc (after_level i x.0)) x.1) x.2);
  tree = λ i x. to.choose at (tree_level i x.0) (tree_body (suc (after_level i x.0)) x.1) (tree_else (after_body (suc (after_level i x.0)) x.1) x.2);
  front = λ K. (ask.expression, d) ∷ (ask.keyword words.Then, d) ∷ (ask.body, d) ∷ (ask.else, d) ∷ (ask.keyword words.End, d) ∷ K;
}

choice_exact : (at d : ℕ) (w : Inside) → InsideExact d w → AllExact (choice_phrase at d) (choice at w)
choice_exact at d w each i ts =
    follow (level_phrase 8 d) (λ us. us) _ (each.expression i ts) (record { goes = λ K. refl })
    (λ c rest c_is spelled comes. follow_keyword (λ us. spell_level c us) words.Then _ comes
    (λ rest at1 comes. follow (body_phrase d) (λ us. spell_level c (Keyword words.Then ∷ us)) _ (each.body (suc (after_level i c)) rest) comes
    (λ b rest b_is spelled comes. follow (else_phrase d) (λ us. spell_level c (Keyword words.Then ∷ spell_body b us)) _ (else_exact d w each (after_body (suc (after_level i c)) b) rest) comes
    (λ o rest o_is spelled comes. follow_keyword (λ us. spell_level c (Keyword words.Then ∷ spell_body b (spell_else o us))) words.End _ comes
    (λ rest at2 comes. finish (choice_phrase at d) (c, b, o) (c_is, b_is, o_is) refl comes)))))

abbrev loop_phrase : ℕ → ℕ → Phrase to.Stmt
loop_phrase at d = record {
  Said = said.Level × said.Body;
  Is = λ x. IsExpr d x.0 × IsBody d x.1;
  spell = λ x k. spell_level x.0 (Keyword words.Do ∷ spell_body x.1 (Keyword words.End ∷ k));
  after = λ i x. suc (after_body (suc (after_level i x.0)) x.1);
  tree = λ i x. to.while at (tree_level i x.0) (tree_body (suc (after_level i x.0)) x.1);
  front = λ K. (ask.expression, d) ∷ (ask.keyword words.Do, d) ∷ (ask.body, d) ∷ (ask.keyword words.End, d) ∷ K;
}

loop_exact : (at d : ℕ) (w : Inside) → InsideExact d w → AllExact (loop_phrase at d) (loop at w)
loop_exact at d w each i ts =
    follow (level_phrase 8 d) (λ us. us) _ (each.expression i ts) (record { goes = λ K. refl })
    (λ c rest c_is spelled comes. follow_keyword (λ us. spell_level c us) words.Do _ comes
    (λ rest at1 comes. follow (body_phrase d) (λ us. spell_level c (Keyword words.Do ∷ us)) _ (each.body (suc (after_level i c)) rest) comes
    (λ b rest b_is spelled comes. follow_keyword (λ us. spell_level c (Keyword words.Do ∷ spell_body b us)) words.End _ comes
    (λ rest at2 comes. finish (loop_phrase at d) (c, b) (c_is, b_is) refl comes))))

abbrev count_phrase : ℕ → ℕ → Phrase to.Stmt
count_phrase at d = record {
  Said = List ℕ × said.Level × said.Level × said.Body;
  Is = λ x. IsExpr d x.1 × IsExpr d x.2 × IsBody d x.3;
  spell = λ x k. Name x.0 ∷ Sign mark.Equal ∷ spell_level x.1 (Keyword words.To ∷ spell_level x.2 (Keyword words.Do ∷ spell_body x.3 (Keyword words.End ∷ k)));
  after = λ i x. suc (after_body (suc (after_level (suc (after_level (suc (suc i)) x.1)) x.2)) x.3);
  tree = λ i x. to.for at i x.0 (tree_level (suc (suc i)) x.1) (tree_level (suc (after_level (suc (suc i)) x.1)) x.2) (tree_body (suc (after_level (suc (after_level (suc (suc i)) x.1)) x.2)) x.3);
  front = λ K. (ask.name, d) ∷ (ask.sign mark.Equal, d) ∷ (ask.expression, d) ∷ (ask.keyword words.To, d) ∷ (ask.expression, d) ∷ (ask.keyword words.Do, d) ∷ (ask.body, d) ∷ (ask.keyword words.End, d) ∷ K;
}

count_exact : (at d : ℕ) (w : Inside) → InsideExact d w → AllExact (count_phrase at d) (count at w)
count_exact at d w each i ts =
    follow (name_phrase d) (λ us. us) _ (name_exact d i ts) (record { goes = λ K. refl })
    (λ x rest x_is spelled comes. follow_sign (λ us. Name x ∷ us) mark.Equal _ comes
    (λ rest at0 comes. follow (level_phrase 8 d) (λ us. Name x ∷ Sign mark.Equal ∷ us) _ (each.expression (suc (suc i)) rest) comes
    (λ c rest c_is spelled comes. follow_keyword (λ us. Name x ∷ Sign mark.Equal ∷ spell_level c us) words.To _ comes
    (λ rest at1 comes. follow (level_phrase 8 d) (λ us. Name x ∷ Sign mark.Equal ∷ spell_level c (Keyword words.To ∷ us)) _ (each.expression (suc (after_level (suc (suc i)) c)) rest) comes
    (λ f rest f_is spelled comes. follow_keyword (λ us. Name x ∷ Sign mark.Equal ∷ spell_level c (Keyword words.To ∷ spell_level f us)) words.Do _ comes
    (λ rest at2 comes. follow (body_phrase d) (λ us. Name x ∷ Sign mark.Equal ∷ spell_level c (Keyword words.To ∷ spell_level f (Keyword words.Do ∷ us))) _ (each.body (suc (after_level (suc (after_level (suc (suc i)) c)) f)) rest) comes
    (λ b rest b_is spelled comes. follow_keyword (λ us. Name x ∷ Sign mark.Equal ∷ spell_level c (Keyword words.To ∷ spell_level f (Keyword words.Do ∷ spell_body b us))) words.End _ comes
    (λ rest at3 comes. finish (count_phrase at d) (x, c, f, b) (c_is, f_is, b_is) refl comes))))))))

-- SELECT

abbrev cases_phrase : ℕ → Phrase CasesTree
cases_phrase d = record { Said = said.Cases; Is = IsCases d; spell = spell_cases; after = after_cases; tree = tree_cases; front = λ K. (ask.cases, d) ∷ K }

cases_case : (d i : ℕ) (ts : Tokens) (K : Stack) → begins_with words.Case ts ≡ true → refused_from i ts ((ask.cases, d) ∷ K) ≡ refused_from i ts ((ask.keyword words.Case, d) ∷ (ask.case, d) ∷ K)
cases_case d i [] K e = absurd (cc)
cases_case d i (Keyword words.Case ∷ us) K e = refl
cases_case d i (u ∷ us) K e = absurd (cc)

cases_end : (d i : ℕ) (ts : Tokens) (K : Stack) → begins_with words.Case ts ≡ false → refused_from i ts ((ask.cases, d) ∷ K) ≡ refused_from i ts ((ask.keyword words.End, d) ∷ (ask.keyword words.Select, d) ∷ K)
cases_end d i [] K e = refl
cases_end d i (Keyword words.Case ∷ us) K e = absurd (cc)
cases_end d i (u ∷ us) K e = refl

case_else : (d i : ℕ) (ts : Tokens) (K : Stack) → begins_with words.Else ts ≡ true → refused_from i ts ((ask.case, d) ∷ K) ≡ refused_from i ts ((ask.keyword words.Else, d) ∷ (ask.body, d) ∷ (ask.keyword words.End, d) ∷ (ask.keyword words.Select, d) ∷ K)
case_else d i [] K e = absurd (cc)
case_else d i (Keyword words.Else ∷ us) K e = refl
case_else d i (u ∷ us) K e = absurd (cc)

case_label : (d i : ℕ) (ts : Tokens) (K : Stack) → begins_with words.Else ts ≡ false → refused_from i ts ((ask.case, d) ∷ K) ≡ refused_from i ts ((ask.label, d) ∷ (ask.more_labels, d) ∷ (ask.body, d) ∷ (ask.cases, d) ∷ K)
case_label d i [] K e = refl
case_label d i (Keyword words.Else ∷ us) K e = absurd (cc)
case_label d i (u ∷ us) K e = split_one ask.case ask.label (ask.more_labels ∷ ask.body ∷ ask.cases ∷ []) d i u us K refl refl refl

cases_exact : (d : ℕ) (w : Inside) → InsideExact d w → (fuel i : ℕ) (ts : Tokens) → suc (length ts) ≤ fuel → Exact (cases_phrase d) i ts (cases w fuel i ts)
cases_exact d w each zero i ts short = absurd (omega arith)
cases_exact d w each (suc fuel) i ts short =
    chosen (begins_with words.Case ts)
    (λ e. follow_keyword (λ us. us) words.Case _ (record { goes = λ K. cases_case d i ts K e })
    (λ rest at1 comes1. chosen (begins_with words.Else rest)
    (λ e. follow_keyword (λ us. Keyword words.Case ∷ us) words.Else _ (record { goes = λ K. comes1.goes K ∙ case_else d (suc i) rest K e })
    (λ rest at comes. follow (body_phrase d) (λ us. Keyword words.Case ∷ Keyword words.Else ∷ us) _ (each.body (suc (suc i)) rest) comes
    (λ b rest b_is spelled comes. follow_keyword (λ us. Keyword words.Case ∷ Keyword words.Else ∷ spell_body b us) words.End _ comes
    (λ rest at comes. follow_keyword (λ us. Keyword words.Case ∷ Keyword words.Else ∷ spell_body b (Keyword words.End ∷ us)) words.Select _ comes
    (λ rest at comes. finish (cases_phrase d) (said.case_else b) b_is refl comes)))))
    (λ e. follow (members_phrase (label_phrase d) ask.more_labels d) (λ us. Keyword words.Case ∷ us) _
    (members_exact (label_phrase d) ask.more_labels (ask.label ∷ ask.more_labels ∷ []) d (label w.expression) (λ u. refl) (λ K. refl) refl longer_label (label_exact d w.expression each.expression) (suc i) rest)
    (record { goes = λ K. comes1.goes K ∙ case_label d (suc i) rest K e })
    (λ ls rest2 ls_is spelled2 comes. follow (body_phrase d) (λ us. Keyword words.Case ∷ spell_label ls.0 (spell_others spell_label ls.1 us)) _ (each.body (after_others after_label (after_label (suc i) ls.0) ls.1) rest2) comes
    (λ b rest3 b_is spelled3 comes.
    let shorter : suc (length rest3) ≤ fuel = omega (arith, longer_label ls.0 (spell_others spell_label ls.1 rest2), longer_others spell_label longer_label ls.1 rest2, longer_body b rest3, ap length spelled2, ap length spelled3, ap length at1) in
    follow (cases_phrase d) (λ us. Keyword words.Case ∷ spell_label ls.0 (spell_others spell_label ls.1 (spell_body b us))) _ (cases_exact d w each fuel (after_body (after_others after_label (after_label (suc i) ls.0) ls.1) b) rest3 shorter) comes
    (λ c rest c_is spelled comes. finish (cases_phrase d) (said.case ls.0 ls.1 b c) (ls_is.0, ls_is.1, b_is, c_is) refl comes))))))
    (λ e. follow_keyword (λ us. us) words.End _ (record { goes = λ K. cases_end d i ts K e })
    (λ rest at comes. follow_keyword (λ us. Keyword words.End ∷ us) words.Select _ comes
    (λ rest at comes. finish (cases_phrase d) said.end_select tt refl comes)))

abbrev selection_phrase : ℕ → ℕ → Phrase to.Stmt
selection_phrase at d = record {
  Said = said.Level × said.Cases;
  Is = λ x. IsExpr d x.0 × IsCases d x.1;
  spell = λ x k. Keyword words.Case ∷ spell_level x.0 (spell_cases x.1 k);
  after = λ i x. after_cases (after_level (suc i) x.0) x.1;
  tree = λ i x. to.select at (tree_level (suc i) x.0) (tree_cases (after_level (suc i) x.0) x.1).clauses (tree_cases (after_level (suc i) x.0) x.1).other;
  front = λ K. (ask.keyword words.Case, d) ∷ (ask.expression, d) ∷ (ask.cases, d) ∷ K;
}

selection_exact : (at d : ℕ) (w : Inside) → InsideExact d w → AllExact (selection_phrase at d) (selection at w)
selection_exact at d w each i ts =
    follow_keyword (λ us. us) words.Case _ (record { goes = λ K. refl })
    (λ rest at0 comes. follow (level_phrase 8 d) (λ us. Keyword words.Case ∷ us) _ (each.expression (suc i) rest) comes
    (λ c rest c_is spelled comes.
    let short : suc (length rest) ≤ suc (length rest) = omega arith in
    follow (cases_phrase d) (λ us. Keyword words.Case ∷ spell_level c us) _ (cases_exact d w each (suc (length rest)) (after_level (suc i) c) rest short) comes
    (λ s rest s_is spelled comes. finish (selection_phrase at d) (c, s) (c_is, s_is) refl comes)))

-- behind a name

data TailText : Type 0 where
  with_args : (args : said.Args) → TailText
  with_value : (value : said.Level) → TailText
  with_index : (index value : said.Level) → TailText

abbrev tail_statement : List ℕ → TailText → said.Statement
tail_statement x (with_args a) = said.call_of x a
tail_statement x (with_value e) = said.assigned x e
tail_statement x (with_index i e) = said.element_assigned x i e

abbrev tail_spell : TailText → Tokens → Tokens
tail_spell (with_args a) k = Sign mark.LeftParen ∷ spell_args a (Sign mark.RightParen ∷ k)
tail_spell (with_value e) k = Sign mark.Equal ∷ spell_level e k
tail_spell (with_index i e) k = Sign mark.LeftBracket ∷ spell_level i (Sign mark.RightBracket ∷ Sign mark.Equal ∷ spell_level e k)

abbrev tail_after : ℕ → TailText → ℕ
tail_after i (with_args a) = suc (after_args (suc i) a)
tail_after i (with_value e) = after_level (suc i) e
tail_after i (with_index j e) = after_level (suc (suc (after_level (suc i) j))) e

abbrev tail_tree : ℕ → List ℕ → ℕ → TailText → to.Stmt
tail_tree at x i (with_args a) = to.call_of at x (tree_args (suc i) a)
tail_tree at x i (with_value e) = to.assign at x None i (tree_level (suc i) e)
tail_tree at x i (with_index j e) = to.assign at x (Some (tree_level (suc i) j)) (suc (after_level (suc i) j)) (tree_level (suc (suc (after_level (suc i) j))) e)

abbrev tail_phrase : ℕ → List ℕ → ℕ → Phrase to.Stmt
tail_phrase at x d = record { Said = TailText; Is = λ t. IsStatement d (tail_statement x t); spell = tail_spell; after = tail_after; tree = tail_tree at x; front = λ K. (ask.tail, d) ∷ K }

tail_exact : (at : ℕ) (x : List ℕ) (d : ℕ) (expr : ℕ → Reader to.Expr) (inside : Option Inside) → ((e : ℕ) → AllExact (level_phrase 8 e) (expr e)) → InsideAt d inside → AllExact (tail_phrase at x d) (tail at x (expr d) inside)
tail_exact at x d expr inside each is i [] = record { holds = λ K. refl }
tail_exact at x d expr inside each is i (Sign mark.LeftParen ∷ ts) = opened_exact (tail_phrase at x) i (Sign mark.LeftParen ∷ ts) i d inside _ is (λ K. refl)
    (λ e w w_is. follow (args_phrase e) (λ us. Sign mark.LeftParen ∷ us) _ (args_exact e w.expression w_is.expression (suc i) ts) (record { goes = λ K. refl })
    (λ a rest a_is spelled comes. follow_sign (λ us. Sign mark.LeftParen ∷ spell_args a us) mark.RightParen _ comes
    (λ rest at1 comes. finish (tail_phrase at x (suc e)) (with_args a) a_is refl comes)))
tail_exact at x d expr inside each is i (Sign mark.LeftBracket ∷ ts) = opened_exact_at at x d expr inside each is i ts
  where
    opened_exact_at : (at : ℕ) (x : List ℕ) (d : ℕ) (expr : ℕ → Reader to.Expr) (inside : Option Inside) → ((e : ℕ) → AllExact (level_phrase 8 e) (expr e)) → InsideAt d inside → (i : ℕ) (ts : Tokens) → Exact (tail_phrase at x d) i (Sign mark.LeftBracket ∷ ts) (tail at x (expr d) inside i (Sign mark.LeftBracket ∷ ts))
    opened_exact_at at x zero expr None each is i ts = record { holds = λ K. refl }
    opened_exact_at at x zero expr (Some w) each is i ts = absurd is
    opened_exact_at at x (suc e) expr None each is i ts = absurd is
    opened_exact_at at x (suc e) expr (Some w) each is i ts =
        follow (level_phrase 8 e) (λ us. Sign mark.LeftBracket ∷ us) _ (is.expression (suc i) ts) (record { goes = λ K. refl })
        (λ j rest j_is spelled comes. follow_sign (λ us. Sign mark.LeftBracket ∷ spell_level j us) mark.RightBracket _ comes
        (λ rest at1 comes. follow_sign (λ us. Sign mark.LeftBracket ∷ spell_level j (Sign mark.RightBracket ∷ us)) mark.Equal _ comes
        (λ rest at2 comes. follow (level_phrase 8 (suc e)) (λ us. Sign mark.LeftBracket ∷ spell_level j (Sign mark.RightBracket ∷ Sign mark.Equal ∷ us)) _ (each (suc e) (suc (suc (after_level (suc i) j))) rest) comes
        (λ c rest c_is spelled comes. finish (tail_phrase at x (suc e)) (with_index j c) (j_is, c_is) refl comes))))
tail_exact at x d expr inside each is i (Sign mark.Equal ∷ ts) =
    follow (level_phrase 8 d) (λ us. Sign mark.Equal ∷ us) _ (each d (suc i) ts) (record { goes = λ K. refl })
    (λ c rest c_is spelled comes. finish (tail_phrase at x d) (with_value c) c_is refl comes)
tail_exact at x d expr inside each is i (t ∷ ts) = record { holds = λ K. refl }

-- [ Expr ] behind RETURN

data ReturnedText : Type 0 where
  no_value : ReturnedText
  a_value : (value : said.Level) → ReturnedText

abbrev returned_statement : ReturnedText → said.Statement
returned_statement no_value = said.return_none
returned_statement (a_value e) = said.return_value e

abbrev returned_spell : ReturnedText → Tokens → Tokens
returned_spell no_value k = k
returned_spell (a_value e) k = spell_level e k

abbrev returned_after : ℕ → ReturnedText → ℕ
returned_after i no_value = i
returned_after i (a_value e) = after_level i e

abbrev returned_tree : ℕ → ℕ → ReturnedText → to.Stmt
returned_tree at i no_value = to.return at None
returned_tree at i (a_value e) = to.return at (Some (tree_level i e))

abbrev returned_phrase : ℕ → ℕ → Phrase to.Stmt
returned_phrase at d = record { Said = ReturnedText; Is = λ t. IsStatement d (returned_statement t); spell = returned_spell; after = returned_after; tree = returned_tree at; front = λ K. (ask.returned, d) ∷ K }

returned_exact : (at d : ℕ) (expression : Reader to.Expr) → AllExact (level_phrase 8 d) expression → AllExact (returned_phrase at d) (returned at expression)
returned_exact at d expression each i ts =
    chosen (begins ask.returned ts)
    (λ e. follow (level_phrase 8 d) (λ us. us) _ (each i ts)
    (record { goes = λ K. began ask.returned ask.expression [] d i ts K (λ u. no_more (rule ask.expression u)) e })
    (λ c rest c_is spelled comes. finish (returned_phrase at d) (a_value c) c_is refl comes))
    (λ e. empty (returned_phrase at d) i ts no_value ask.returned d tt refl refl (λ K. refl) refl e)
  where
    no_more : (r : ask.Rule) → r ≡ ask.followed_by [] r
    no_more ask.no_rule = refl
    no_more (ask.takes then) = ap ask.takes (sym (append-nil then))
    no_more (ask.opens inside then) = ap (λ t. ask.opens inside t) (sym (append-nil then))

-- declarations, behind the type's word

abbrev declared_phrase : ℕ → TypeName → ℕ → Phrase to.Stmt
declared_phrase at t d = record {
  Said = said.Local × List said.Local;
  Is = λ x. said.IsLocal d x.0 × said.AreAll (said.IsLocal d) x.1;
  spell = λ x k. spell_local x.0 (spell_others spell_local x.1 k);
  after = λ i x. after_others after_local (after_local i x.0) x.1;
  tree = λ i x. to.declare at (record { at = at; name = t }) (tree_local i x.0 ∷ tree_others after_local tree_local (after_local i x.0) x.1);
  front = λ K. (ask.name, d) ∷ (ask.local_end, d) ∷ (ask.more_locals, d) ∷ K;
}

declared_exact : (at : ℕ) (t : TypeName) (d : ℕ) (expression : Reader to.Expr) → AllExact (level_phrase 8 d) expression → AllExact (declared_phrase at t d) (declared at t expression)
declared_exact at t d expression each i ts =
    follow (members_phrase (local_phrase d) ask.more_locals d) (λ us. us) _
    (members_exact (local_phrase d) ask.more_locals (ask.name ∷ ask.local_end ∷ ask.more_locals ∷ []) d (local expression) (λ u. refl) (λ K. refl) refl longer_local (local_exact d expression each) i ts)
    (record { goes = λ K. refl })
    (λ ls rest ls_is spelled comes. finish (declared_phrase at t d) ls ls_is refl comes)

-- Statements

abbrev pub statement_phrase : ℕ → Phrase (Option to.Stmt)
statement_phrase d = record { Said = said.Statement; Is = IsStatement d; spell = spell_statement; after = after_statement; tree = tree_statement; front = λ K. (ask.statement, d) ∷ K }

tail_finish : (x : List ℕ) (d i : ℕ) (t : TailText) (rest : Tokens) → IsStatement d (tail_statement x t)
    → Comes (statement_phrase d) i (Name x ∷ tail_spell t (Sign mark.Semicolon ∷ rest)) (suc (tail_after (suc i) t)) rest (λ K. K)
    → Exact (statement_phrase d) i (Name x ∷ tail_spell t (Sign mark.Semicolon ∷ rest)) (Ok (Some (tail_tree i x (suc i) t), suc (tail_after (suc i) t), rest))
tail_finish x d i (with_args a) rest is comes = finish (statement_phrase d) (said.call_of x a) is refl comes
tail_finish x d i (with_value e) rest is comes = finish (statement_phrase d) (said.assigned x e) is refl comes
tail_finish x d i (with_index j e) rest is comes = finish (statement_phrase d) (said.element_assigned x j e) is refl comes

returned_finish : (d i : ℕ) (t : ReturnedText) (rest : Tokens) → IsStatement d (returned_statement t)
    → Comes (statement_phrase d) i (Keyword words.Return ∷ returned_spell t (Sign mark.Semicolon ∷ rest)) (suc (returned_after (suc i) t)) rest (λ K. K)
    → Exact (statement_phrase d) i (Keyword words.Return ∷ returned_spell t (Sign mark.Semicolon ∷ rest)) (Ok (Some (returned_tree i (suc i) t), suc (returned_after (suc i) t), rest))
returned_finish d i no_value rest is comes = finish (statement_phrase d) said.return_none is refl comes
returned_finish d i (a_value e) rest is comes = finish (statement_phrase d) (said.return_value e) is refl comes

plain_exact : (d : ℕ) (expr : ℕ → Reader to.Expr) (inside : Option Inside) → ((e : ℕ) → AllExact (level_phrase 8 e) (expr e)) → InsideAt d inside → (i : ℕ) (t : TokenKind) (ts : Tokens) → type_of_token t ≡ None → Exact (statement_phrase d) i (t ∷ ts) (plain_statement (expr d) inside i (t ∷ ts))
plain_exact d expr inside each is i (Sign mark.Semicolon) ts none = finish (statement_phrase d) said.empty tt refl (record { goes = λ K. refl })
plain_exact d expr inside each is i (Name x) ts none =
    follow (tail_phrase i x d) (λ us. Name x ∷ us) _ (tail_exact i x d expr inside each is (suc i) ts) (record { goes = λ K. refl })
    (λ t rest t_is spelled comes. follow_sign (λ us. Name x ∷ tail_spell t us) mark.Semicolon _ comes
    (λ rest at comes. tail_finish x d i t rest t_is comes))
plain_exact d expr inside each is i (Keyword words.If) ts none = opened_exact statement_phrase i (Keyword words.If ∷ ts) i d inside _ is (λ K. refl)
    (λ e w w_is. follow (choice_phrase i e) (λ us. Keyword words.If ∷ us) _ (choice_exact i e w w_is (suc i) ts) (record { goes = λ K. refl })
    (λ c rest c_is spelled comes. finish (statement_phrase (suc e)) (said.choice c.0 c.1 c.2) c_is refl comes))
plain_exact d expr inside each is i (Keyword words.While) ts none = opened_exact statement_phrase i (Keyword words.While ∷ ts) i d inside _ is (λ K. refl)
    (λ e w w_is. follow (loop_phrase i e) (λ us. Keyword words.While ∷ us) _ (loop_exact i e w w_is (suc i) ts) (record { goes = λ K. refl })
    (λ c rest c_is spelled comes. finish (statement_phrase (suc e)) (said.loop c.0 c.1) c_is refl comes))
plain_exact d expr inside each is i (Keyword words.For) ts none = opened_exact statement_phrase i (Keyword words.For ∷ ts) i d inside _ is (λ K. refl)
    (λ e w w_is. follow (count_phrase i e) (λ us. Keyword words.For ∷ us) _ (count_exact i e w w_is (suc i) ts) (record { goes = λ K. refl })
    (λ c rest c_is spelled comes. finish (statement_phrase (suc e)) (said.count c.0 c.1 c.2 c.3) c_is refl comes))
plain_exact d expr inside each is i (Keyword words.Select) ts none = opened_exact statement_phrase i (Keyword words.Select ∷ ts) i d inside _ is (λ K. refl)
    (λ e w w_is. follow (selection_phrase i e) (λ us. Keyword words.Select ∷ us) _ (selection_exact i e w w_is (suc i) ts) (record { goes = λ K. refl })
    (λ c rest c_is spelled comes. finish (statement_phrase (suc e)) (said.selection c.0 c.1) c_is refl comes))
plain_exact d expr inside each is i (Keyword words.Return) ts none =
    follow (returned_phrase i d) (λ us. Keyword words.Return ∷ us) _ (returned_exact i d (expr d) (each d) (suc i) ts) (record { goes = λ K. refl })
    (λ t rest t_is spelled comes. follow_sign (λ us. Keyword words.Return ∷ returned_spell t us) mark.Semicolon _ comes
    (λ rest at comes. returned_finish d i t rest t_is comes))
plain_exact d expr inside each is i (Keyword words.Int) ts none = absurd (cc)
plain_exact d expr inside each is i (Keyword words.String) ts none = absurd (cc)
plain_exact d expr inside each is i (Keyword words.Real) ts none = absurd (cc)
plain_exact d expr inside each is i (Keyword words.Object) ts none = absurd (cc)
plain_exact d expr inside each is i (Keyword words.Quality) ts none = absurd (cc)
plain_exact d expr inside each is i (Keyword words.Timestamp) ts none = absurd (cc)
plain_exact d expr inside each is i t ts none = record { holds = λ K. refl }

statement_by_exact : (d : ℕ) (expr : ℕ → Reader to.Expr) (inside : Option Inside) → ((e : ℕ) → AllExact (level_phrase 8 e) (expr e)) → InsideAt d inside → (i : ℕ) (t : TokenKind) (ts : Tokens) (o : Option TypeName) → type_of_token t ≡ o → Exact (statement_phrase d) i (t ∷ ts) (statement_by (expr d) inside i t ts o)
statement_by_exact d expr inside each is i t ts None e = plain_exact d expr inside each is i t ts e
statement_by_exact d expr inside each is i t ts (Some kind) e =
    subst (λ (u : TokenKind). Comes (statement_phrase d) i (u ∷ ts) (suc i) ts (λ K. (ask.name, d) ∷ (ask.local_end, d) ∷ (ask.more_locals, d) ∷ (ask.sign mark.Semicolon, d) ∷ K) → Exact (statement_phrase d) i (u ∷ ts) (closed (declared i kind (expr d) (suc i) ts)))
    (sym (type_token_is t kind e))
    (λ comes. follow (declared_phrase i kind d) (λ us. type_token kind ∷ us) _ (declared_exact i kind d (expr d) (each d) (suc i) ts) comes
    (λ ls rest ls_is spelled comes. follow_sign (λ us. type_token kind ∷ spell_local ls.0 (spell_others spell_local ls.1 us)) mark.Semicolon _ comes
    (λ rest at comes. finish (statement_phrase d) (said.declared kind ls.0 ls.1) ls_is refl comes)))
    (record { goes = λ K. ap (λ o. from_met i (λ b. refused_from (suc i) ts b) (by_rule (typed_or (ask.name ∷ ask.local_end ∷ ask.more_locals ∷ ask.sign mark.Semicolon ∷ []) o (plain_statement_rule t)) false d K (meet t K))) e })

statement_exact : (d : ℕ) (expr : ℕ → Reader to.Expr) (inside : Option Inside) → ((e : ℕ) → AllExact (level_phrase 8 e) (expr e)) → InsideAt d inside → AllExact (statement_phrase d) (statement (expr d) inside)
statement_exact d expr inside each is i [] = record { holds = λ K. refl }
statement_exact d expr inside each is i (t ∷ ts) = statement_by_exact d expr inside each is i t ts (type_of_token t) refl

statements_exact : (d : ℕ) (expr : ℕ → Reader to.Expr) (inside : Option Inside) → ((e : ℕ) → AllExact (level_phrase 8 e) (expr e)) → InsideAt d inside → (fuel i : ℕ) (ts : Tokens) → length ts ≤ fuel → Exact (body_phrase d) i ts (statements (expr d) inside fuel i ts)
statements_exact d expr inside each is zero i [] short = empty (body_phrase d) i [] said.end ask.body d tt refl refl (λ K. refl) refl refl
statements_exact d expr inside each is zero i (t ∷ ts) short = absurd (omega arith)
statements_exact d expr inside each is (suc fuel) i ts short =
    chosen (begins ask.body ts)
    (λ e. follow (statement_phrase d) (λ us. us) _ (statement_exact d expr inside each is i ts)
    (record { goes = λ K. began ask.body ask.statement (ask.body ∷ []) d i ts K (λ u. refl) (sym (begins_as ask.body ask.statement (ask.body ∷ []) ts (λ u. refl)) ∙ e) })
    (λ s rest s_is spelled comes.
    let shorter : length rest ≤ fuel = omega (arith, longer_then s rest, ap length spelled) in
    follow (body_phrase d) (λ us. spell_statement s us) _ (statements_exact d expr inside each is fuel (after_statement i s) rest shorter) comes
    (λ b rest b_is spelled comes. finish (body_phrase d) (said.then s b) (s_is, b_is) refl comes)))
    (λ e. empty (body_phrase d) i ts said.end ask.body d tt refl refl (λ K. refl) refl e)

pub body_exact : (d : ℕ) → AllExact (body_phrase d) (body d)
body_exact zero i ts = let short : length ts ≤ length ts = omega arith in statements_exact zero expression None expression_exact tt (length ts) i ts short
body_exact (suc d) i ts =
    let short : length ts ≤ length ts = omega arith in
    statements_exact (suc d) expression (Some (record { expression = expression d; body = body d })) expression_exact (record { expression = expression_exact d; body = body_exact d }) (length ts) i ts short
