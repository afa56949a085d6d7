-- Reading lists of members, locals and labels agrees with the grammar and with the first refused token.
use Rattle.std.proofs.Common.{◌≡◌, ℕ, zero, suc, ◌≤◌, true, false, List, [], ◌∷◌, length, refl, ap, ◌∙◌, arith}
use Rattle.ci_tree.specs.declared.token.TokenKind.{TokenKind}
use Rattle.ci_tree.specs.declared.token.TokenKind.TheVariants.{Name, Keyword, Sign}
use Rattle.ci_tree.specs.declared.token.Keyword.TheVariants as words
use Rattle.ci_tree.specs.declared.token.Sign.TheVariants as mark
use Rattle.ci_tree.specs.Tree as to
use Rattle.ci_tree.specs.Grammar.{Tokens, spell_level, spell_others, AreAll, after_level, after_others, tree_others, relation_token, IsLocal, spell_local, after_local, tree_local, IsLabel, spell_label, after_label, tree_label}
use Rattle.ci_tree.specs.Grammar as said
use Rattle.ci_tree.specs.Refused.{Symbol, Stack, rule, refused_from, push, begins, comma_rule, can_be_empty}
use Rattle.ci_tree.specs.Refused as ask
use Rattle.ci_parser.specs.Reading.{Reader, others, members, local, label, begins_with}
use Rattle.ci_expressions.proofs.Exact.{Phrase, Exact, follow, finish, follow_keyword, follow_sign, chosen, dropped, empty, split_one, comma_began, comma_begins, equal_began}
use Rattle.ci_expressions.proofs.ExactExpressions.{AllExact, level_phrase, name_phrase, name_exact, relation_phrase, relation_exact}

-- { "," member }, for the symbol s
abbrev pub others_phrase : {V : Type 0} → Phrase V → Symbol → ℕ → Phrase (List V)
others_phrase m s d = record { Said = List m.Said; Is = AreAll m.Is; spell = spell_others m.spell; after = after_others m.after; tree = tree_others m.after m.tree; front = λ K. (s, d) ∷ K }

-- member { "," member }
abbrev pub members_phrase : {V : Type 0} → Phrase V → Symbol → ℕ → Phrase (List V)
members_phrase m s d = record {
  Said = m.Said × List m.Said;
  Is = λ x. m.Is x.0 × AreAll m.Is x.1;
  spell = λ x k. m.spell x.0 (spell_others m.spell x.1 k);
  after = λ i x. after_others m.after (m.after i x.0) x.1;
  tree = λ i x. m.tree i x.0 ∷ tree_others m.after m.tree (m.after i x.0) x.1;
  front = λ K. m.front ((s, d) ∷ K);
}

others_exact : {V : Type 0} (m : Phrase V) (s : Symbol) (more : List Symbol) (d : ℕ) (member : Reader V)
    → ((u : TokenKind) → rule s u ≡ comma_rule more u)
    → ((K : Stack) → push d more K ≡ m.front ((s, d) ∷ K))
    → can_be_empty s ≡ true
    → ((x : m.Said) (k : Tokens) → length k ≤ length (m.spell x k))
    → AllExact m member
    → (fuel i : ℕ) (ts : Tokens) → length ts ≤ fuel → Exact (others_phrase m s d) i ts (others member fuel i ts)
others_exact m s more d member same front full longer each zero i [] short = empty (others_phrase m s d) i [] [] s d tt refl refl (λ K. refl) full refl
others_exact m s more d member same front full longer each zero i (t ∷ ts) short = absurd (omega arith)
others_exact m s more d member same front full longer each (suc fuel) i ts short =
    chosen (begins (ask.sign mark.Comma) ts)
    (λ e. follow_sign (λ us. us) mark.Comma _
    (record { goes = λ K. comma_began s more d i ts K same e ∙ ap (λ (k : Stack). refused_from i ts ((ask.sign mark.Comma, d) ∷ k)) (front K) })
    (λ rest at comes. follow m (λ us. Sign mark.Comma ∷ us) _ (each (suc i) rest) comes
    (λ c behind is spelled comes.
    let shorter : length behind ≤ fuel = omega (arith, longer c behind, ap length spelled, ap length at) in
    follow (others_phrase m s d) (λ us. Sign mark.Comma ∷ m.spell c us) _ (others_exact m s more d member same front full longer each fuel (m.after (suc i) c) behind shorter) comes
    (λ r rest r_is spelled comes. finish (others_phrase m s d) (c ∷ r) (is, r_is) refl comes))))
    (λ e. empty (others_phrase m s d) i ts [] s d tt refl refl (λ K. refl) full (comma_begins s more ts same ∙ e))

pub members_exact : {V : Type 0} (m : Phrase V) (s : Symbol) (more : List Symbol) (d : ℕ) (member : Reader V)
    → ((u : TokenKind) → rule s u ≡ comma_rule more u)
    → ((K : Stack) → push d more K ≡ m.front ((s, d) ∷ K))
    → can_be_empty s ≡ true
    → ((x : m.Said) (k : Tokens) → length k ≤ length (m.spell x k))
    → AllExact m member
    → AllExact (members_phrase m s d) (members member)
members_exact m s more d member same front full longer each i ts =
    follow m (λ us. us) _ (each i ts) (record { goes = λ K. refl })
    (λ c rest is spelled comes.
    let short : length rest ≤ length rest = omega arith in
    follow (others_phrase m s d) (λ us. m.spell c us) _ (others_exact m s more d member same front full longer each (length rest) (m.after i c) rest short) comes
    (λ r rest r_is spelled comes. finish (members_phrase m s d) (c, r) (is, r_is) refl comes))

-- Locals

abbrev pub local_phrase : ℕ → Phrase to.Local
local_phrase d = record { Said = said.Local; Is = IsLocal d; spell = spell_local; after = after_local; tree = tree_local; front = λ K. (ask.name, d) ∷ (ask.local_end, d) ∷ K }

pub local_exact : (d : ℕ) (expression : Reader to.Expr) → AllExact (level_phrase 8 d) expression → AllExact (local_phrase d) (local expression)
local_exact d expression each i ts =
    follow (name_phrase d) (λ us. us) _ (name_exact d i ts) (record { goes = λ K. refl })
    (λ x rest is spelled comes. chosen (begins ask.local_end rest)
    (λ e. follow_sign (λ us. Name x ∷ us) mark.Equal _
    (record { goes = λ K. comes.goes K ∙ equal_began ask.local_end (ask.expression ∷ []) d (suc i) rest K (λ u. refl) e })
    (λ rest at comes. follow (level_phrase 8 d) (λ us. Name x ∷ Sign mark.Equal ∷ us) _ (each (suc (suc i)) rest) comes
    (λ c rest c_is spelled comes. finish (local_phrase d) (said.valued_local x c) c_is refl comes)))
    (λ e. finish (local_phrase d) (said.plain_local x) tt refl (record { goes = λ K. comes.goes K ∙ dropped ask.local_end d (suc i) rest K refl e })))

-- Labels

abbrev pub label_phrase : ℕ → Phrase to.Label
label_phrase d = record { Said = said.Label; Is = IsLabel d; spell = spell_label; after = after_label; tree = tree_label; front = λ K. (ask.label, d) ∷ K }

label_is : (d i : ℕ) (ts : Tokens) (K : Stack) → begins_with words.Is ts ≡ true → refused_from i ts ((ask.label, d) ∷ K) ≡ refused_from i ts ((ask.keyword words.Is, d) ∷ (ask.relation, d) ∷ (ask.expression, d) ∷ K)
label_is d i [] K e = absurd (cc)
label_is d i (Keyword words.Is ∷ us) K e = refl
label_is d i (u ∷ us) K e = absurd (cc)

label_value : (d i : ℕ) (ts : Tokens) (K : Stack) → begins_with words.Is ts ≡ false → refused_from i ts ((ask.label, d) ∷ K) ≡ refused_from i ts ((ask.expression, d) ∷ (ask.label_end, d) ∷ K)
label_value d i [] K e = refl
label_value d i (Keyword words.Is ∷ us) K e = absurd (cc)
label_value d i (u ∷ us) K e = split_one ask.label ask.expression (ask.label_end ∷ []) d i u us K refl refl refl

label_end_to : (d i : ℕ) (ts : Tokens) (K : Stack) → begins ask.label_end ts ≡ true → refused_from i ts ((ask.label_end, d) ∷ K) ≡ refused_from i ts ((ask.keyword words.To, d) ∷ (ask.expression, d) ∷ K)
label_end_to d i [] K e = absurd (cc)
label_end_to d i (Keyword words.To ∷ us) K e = refl
label_end_to d i (u ∷ us) K e = absurd (cc)

pub label_exact : (d : ℕ) (expression : Reader to.Expr) → AllExact (level_phrase 8 d) expression → AllExact (label_phrase d) (label expression)
label_exact d expression each i ts =
    chosen (begins_with words.Is ts)
    (λ e. follow_keyword (λ us. us) words.Is _ (record { goes = λ K. label_is d i ts K e })
    (λ rest at comes. follow (relation_phrase d) (λ us. Keyword words.Is ∷ us) _ (relation_exact d (suc i) rest) comes
    (λ r rest r_is spelled comes. follow (level_phrase 8 d) (λ us. Keyword words.Is ∷ relation_token r ∷ us) _ (each (suc (suc i)) rest) comes
    (λ c rest c_is spelled comes. finish (label_phrase d) (said.compared r c) c_is refl comes))))
    (λ e. follow (level_phrase 8 d) (λ us. us) _ (each i ts) (record { goes = λ K. label_value d i ts K e })
    (λ low rest is spelled comes. chosen (begins ask.label_end rest)
    (λ e. follow_keyword (λ us. spell_level low us) words.To _ (record { goes = λ K. comes.goes K ∙ label_end_to d (after_level i low) rest K e })
    (λ rest at comes. follow (level_phrase 8 d) (λ us. spell_level low (Keyword words.To ∷ us)) _ (each (suc (after_level i low)) rest) comes
    (λ high rest high_is spelled comes. finish (label_phrase d) (said.range low high) (is, high_is) refl comes)))
    (λ e. finish (label_phrase d) (said.one low) is refl (record { goes = λ K. comes.goes K ∙ dropped ask.label_end d (after_level i low) rest K refl e }))))
