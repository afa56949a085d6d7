-- Reading an expression agrees with the grammar and with the first refused token.
use Rattle.std.proofs.Common.{◌≡◌, ℕ, zero, suc, ◌≤◌, ℤ, Bool, true, false, List, [], ◌∷◌, length, Option, Some, None, refl, sym, ap, ◌∙◌, subst, arith}
use Rattle.std.specs.Prelude.{Ok, Err, cond, eqb}
use Rattle.std.proofs.lemmas.Bool.{eqb-true}
use Rattle.ci_tree.specs.declared.token.TokenKind.{TokenKind}
use Rattle.ci_tree.specs.declared.token.TokenKind.TheVariants.{Name, Keyword, Number, Text, Hashes, Sign}
use Rattle.ci_tree.specs.declared.token.Keyword.TheVariants as words
use Rattle.ci_tree.specs.declared.token.Sign.TheVariants as mark
use Rattle.ci_tree.specs.declared.tree.TypeName.{TypeName}
use Rattle.ci_tree.specs.declared.tree.TypeName.TheVariants as type_name
use Rattle.ci_tree.specs.declared.tree.Operator.{Operator}
use Rattle.ci_tree.specs.declared.tree.Operator.TheVariants as operator
use Rattle.ci_base.specs.declared.relation.Relation.{Relation}
use Rattle.ci_base.specs.declared.relation.Relation.TheVariants as relations
use Rattle.ci_tree.specs.Tree as to
use Rattle.ci_tree.specs.Grammar.{Tokens, type_token, operator_token, relation_token, group_of, form_group, IsLevel, IsRest, IsUnary, IsArgs, IsMoreArgs, spell_level, spell_rest, spell_unary, spell_args, spell_more_args, after_level, after_rest, after_unary, after_args, after_more_args, tree_level, tree_rest, tree_unary, tree_args, tree_more_args}
use Rattle.ci_tree.specs.Grammar as said
use Rattle.ci_tree.specs.Refused.{Refusal, unexpected, unexpected_end, too_deep, Symbol, Stack, Rule, rule, refused_from, from_met, by_rule, meet, push, is_keyword, is_sign, begins, Joint, no_joint, by_operator, by_colon, joint, joint_rule, operator_joint, type_of_token, relation_of_token, followed_by, level_rule, typed_or, relation_rule}
use Rattle.ci_tree.specs.Refused as ask
use Rattle.ci_expressions.specs.Reading.{Found, Reader, ◌>>=◌, name_at, number_at, hashes_at, type_at, type_by, relation_at, relation_by, rest_by, rest, level_on, whole, more_arguments, arguments, deeper, suffix, unary_on, unary, expression}
use Rattle.ci_expressions.proofs.Exact.{Phrase, ReadAs, Exact, Comes, follow, finish, follow_sign, chosen, empty, began, begins_as, split, comma_began, comma_begins}
use Rattle.ci_expressions.proofs.Longer.{longer_level}

-- Single tokens

abbrev pub name_phrase : ℕ → Phrase (List ℕ)
name_phrase d = record { Said = List ℕ; Is = λ x. Unit {0}; spell = λ x k. Name x ∷ k; after = λ i x. suc i; tree = λ i x. x; front = λ K. (ask.name, d) ∷ K }

abbrev pub number_phrase : ℕ → Phrase ℤ
number_phrase d = record { Said = ℤ; Is = λ x. Unit {0}; spell = λ x k. Number x ∷ k; after = λ i x. suc i; tree = λ i x. x; front = λ K. (ask.number, d) ∷ K }

abbrev pub hashes_phrase : ℕ → Phrase ℕ
hashes_phrase d = record { Said = ℕ; Is = λ x. Unit {0}; spell = λ x k. Hashes x ∷ k; after = λ i x. suc i; tree = λ i x. x; front = λ K. (ask.hashes, d) ∷ K }

abbrev pub type_phrase : ℕ → Phrase TypeName
type_phrase d = record { Said = TypeName; Is = λ x. Unit {0}; spell = λ x k. type_token x ∷ k; after = λ i x. suc i; tree = λ i x. x; front = λ K. (ask.type, d) ∷ K }

abbrev pub relation_phrase : ℕ → Phrase Relation
relation_phrase d = record { Said = Relation; Is = λ x. Unit {0}; spell = λ x k. relation_token x ∷ k; after = λ i x. suc i; tree = λ i x. x; front = λ K. (ask.relation, d) ∷ K }

pub name_exact : (d i : ℕ) (ts : Tokens) → Exact (name_phrase d) i ts (name_at i ts)
name_exact d i [] = record { holds = λ K. refl }
name_exact d i (Name x ∷ ts) = record { holds = record { text = x; is = tt; value = refl; index = refl; spelled = refl; goes = λ K. refl } }
name_exact d i (t ∷ ts) = record { holds = λ K. refl }

pub number_exact : (d i : ℕ) (ts : Tokens) → Exact (number_phrase d) i ts (number_at i ts)
number_exact d i [] = record { holds = λ K. refl }
number_exact d i (Number x ∷ ts) = record { holds = record { text = x; is = tt; value = refl; index = refl; spelled = refl; goes = λ K. refl } }
number_exact d i (t ∷ ts) = record { holds = λ K. refl }

pub hashes_exact : (d i : ℕ) (ts : Tokens) → Exact (hashes_phrase d) i ts (hashes_at i ts)
hashes_exact d i [] = record { holds = λ K. refl }
hashes_exact d i (Hashes x ∷ ts) = record { holds = record { text = x; is = tt; value = refl; index = refl; spelled = refl; goes = λ K. refl } }
hashes_exact d i (t ∷ ts) = record { holds = λ K. refl }

pub type_token_is : (t : TokenKind) (name : TypeName) → type_of_token t ≡ Some name → t ≡ type_token name
type_token_is (Keyword words.Int) name e = let h : type_name.Int ≡ name = cc in ap type_token h
type_token_is (Keyword words.String) name e = let h : type_name.String ≡ name = cc in ap type_token h
type_token_is (Keyword words.Real) name e = let h : type_name.Real ≡ name = cc in ap type_token h
type_token_is (Keyword words.Object) name e = let h : type_name.Object ≡ name = cc in ap type_token h
type_token_is (Keyword words.Quality) name e = let h : type_name.Quality ≡ name = cc in ap type_token h
type_token_is (Keyword words.Timestamp) name e = let h : type_name.Timestamp ≡ name = cc in ap type_token h
type_token_is t name e = absurd (cc)

pub relation_token_is : (t : TokenKind) (r : Relation) → relation_of_token t ≡ Some r → t ≡ relation_token r
relation_token_is (Sign mark.Equal) r e = let h : relations.Equal ≡ r = cc in ap relation_token h
relation_token_is (Sign mark.Unequal) r e = let h : relations.Unequal ≡ r = cc in ap relation_token h
relation_token_is (Sign mark.Less) r e = let h : relations.Less ≡ r = cc in ap relation_token h
relation_token_is (Sign mark.Greater) r e = let h : relations.Greater ≡ r = cc in ap relation_token h
relation_token_is (Sign mark.AtMost) r e = let h : relations.AtMost ≡ r = cc in ap relation_token h
relation_token_is (Sign mark.AtLeast) r e = let h : relations.AtLeast ≡ r = cc in ap relation_token h
relation_token_is t r e = absurd (cc)

type_by_exact : (d i : ℕ) (t : TokenKind) (ts : Tokens) (o : Option TypeName) → type_of_token t ≡ o → Exact (type_phrase d) i (t ∷ ts) (type_by i ts o)
type_by_exact d i t ts (Some name) e = record {
  holds = record {
    text = name;
    is = tt;
    value = refl;
    index = refl;
    spelled = ap (λ u. u ∷ ts) (type_token_is t name e);
    goes = λ K. ap (λ o. from_met i (λ b. refused_from (suc i) ts b) (by_rule (typed_or [] o ask.no_rule) false d K (meet t K))) e;
  };
}
type_by_exact d i t ts None e = record { holds = λ K. ap (λ o. from_met i (λ b. refused_from (suc i) ts b) (by_rule (typed_or [] o ask.no_rule) false d K (meet t K))) e }

pub type_exact : (d i : ℕ) (ts : Tokens) → Exact (type_phrase d) i ts (type_at i ts)
type_exact d i [] = record { holds = λ K. refl }
type_exact d i (t ∷ ts) = type_by_exact d i t ts (type_of_token t) refl

relation_by_exact : (d i : ℕ) (t : TokenKind) (ts : Tokens) (o : Option Relation) → relation_of_token t ≡ o → Exact (relation_phrase d) i (t ∷ ts) (relation_by i ts o)
relation_by_exact d i t ts (Some r) e = record {
  holds = record {
    text = r;
    is = tt;
    value = refl;
    index = refl;
    spelled = ap (λ u. u ∷ ts) (relation_token_is t r e);
    goes = λ K. ap (λ o. from_met i (λ b. refused_from (suc i) ts b) (by_rule (relation_rule o) false d K (meet t K))) e;
  };
}
relation_by_exact d i t ts None e = record { holds = λ K. ap (λ o. from_met i (λ b. refused_from (suc i) ts b) (by_rule (relation_rule o) false d K (meet t K))) e }

pub relation_exact : (d i : ℕ) (ts : Tokens) → Exact (relation_phrase d) i ts (relation_at i ts)
relation_exact d i [] = record { holds = λ K. refl }
relation_exact d i (t ∷ ts) = relation_by_exact d i t ts (relation_of_token t) refl

-- Chains

abbrev pub level_phrase : ℕ → ℕ → Phrase to.Expr
level_phrase n d = record { Said = said.Level; Is = IsLevel n d; spell = spell_level; after = after_level; tree = tree_level; front = λ K. (ask.level n, d) ∷ K }

abbrev pub rest_phrase : ℕ → ℕ → Phrase to.Links
rest_phrase n d = record { Said = said.Rest; Is = IsRest n d; spell = spell_rest; after = after_rest; tree = tree_rest; front = λ K. (ask.rest n, d) ∷ K }

-- each reading by this reader agrees
abbrev pub AllExact : {V : Type 0} → Phrase V → Reader V → Type 0
AllExact p reader = (i : ℕ) (ts : Tokens) → Exact p i ts (reader i ts)

operator_is : (a op : Operator) (b : Bool) → cond b (by_operator a) no_joint ≡ by_operator op → (b ≡ true) × (a ≡ op)
operator_is a op true e = (refl, cc)
operator_is a op false e = absurd (cc)

-- a token that joins by an operator is that operator's
joined_is : (n : ℕ) (a op : Operator) → cond (eqb (group_of a) n) (by_operator a) no_joint ≡ by_operator op → (operator_token a ≡ operator_token op) × (group_of op ≡ n)
joined_is n a op e =
    let h = operator_is a op (eqb (group_of a) n) e in
    (ap operator_token h.1, ap group_of (sym h.1) ∙ eqb-true (group_of a) n h.0)

colon_is : (b : Bool) → cond b by_colon no_joint ≡ by_colon → b ≡ true
colon_is true e = refl
colon_is false e = absurd (cc)

colon_no_operator : (b : Bool) (op : Operator) → cond b by_colon no_joint ≡ by_operator op → ⊥
colon_no_operator true op e = absurd (cc)
colon_no_operator false op e = absurd (cc)

operator_no_colon : (b : Bool) (op : Operator) → cond b (by_operator op) no_joint ≡ by_colon → ⊥
operator_no_colon true op e = absurd (cc)
operator_no_colon false op e = absurd (cc)

pub joint_operator : (n : ℕ) (t : TokenKind) (op : Operator) → joint n t ≡ by_operator op → (t ≡ operator_token op) × (group_of op ≡ n)
joint_operator n (Keyword words.BitAnd) op e = joined_is n operator.BitAnd op e
joint_operator n (Keyword words.BitOr) op e = joined_is n operator.BitOr op e
joint_operator n (Keyword words.BitXor) op e = joined_is n operator.BitXor op e
joint_operator n (Keyword words.Or) op e = joined_is n operator.Or op e
joint_operator n (Keyword words.And) op e = joined_is n operator.And op e
joint_operator n (Keyword words.Mod) op e = joined_is n operator.Mod op e
joint_operator n (Sign mark.Equal) op e = joined_is n operator.Equal op e
joint_operator n (Sign mark.Unequal) op e = joined_is n operator.Unequal op e
joint_operator n (Sign mark.Less) op e = joined_is n operator.Less op e
joint_operator n (Sign mark.Greater) op e = joined_is n operator.Greater op e
joint_operator n (Sign mark.AtMost) op e = joined_is n operator.AtMost op e
joint_operator n (Sign mark.AtLeast) op e = joined_is n operator.AtLeast op e
joint_operator n (Sign mark.Plus) op e = joined_is n operator.Plus op e
joint_operator n (Sign mark.Minus) op e = joined_is n operator.Minus op e
joint_operator n (Sign mark.Star) op e = joined_is n operator.Times op e
joint_operator n (Sign mark.Slash) op e = joined_is n operator.Over op e
joint_operator n (Sign mark.Colon) op e = absurd (colon_no_operator (eqb form_group n) op e)
joint_operator n t op e = absurd (cc)

pub joint_colon : (n : ℕ) (t : TokenKind) → joint n t ≡ by_colon → (t ≡ Sign mark.Colon) × (form_group ≡ n)
joint_colon n (Sign mark.Colon) e = (refl, eqb-true form_group n (colon_is (eqb form_group n) e))
joint_colon n (Keyword words.BitAnd) e = absurd (operator_no_colon _ _ e)
joint_colon n (Keyword words.BitOr) e = absurd (operator_no_colon _ _ e)
joint_colon n (Keyword words.BitXor) e = absurd (operator_no_colon _ _ e)
joint_colon n (Keyword words.Or) e = absurd (operator_no_colon _ _ e)
joint_colon n (Keyword words.And) e = absurd (operator_no_colon _ _ e)
joint_colon n (Keyword words.Mod) e = absurd (operator_no_colon _ _ e)
joint_colon n (Sign mark.Equal) e = absurd (operator_no_colon _ _ e)
joint_colon n (Sign mark.Unequal) e = absurd (operator_no_colon _ _ e)
joint_colon n (Sign mark.Less) e = absurd (operator_no_colon _ _ e)
joint_colon n (Sign mark.Greater) e = absurd (operator_no_colon _ _ e)
joint_colon n (Sign mark.AtMost) e = absurd (operator_no_colon _ _ e)
joint_colon n (Sign mark.AtLeast) e = absurd (operator_no_colon _ _ e)
joint_colon n (Sign mark.Plus) e = absurd (operator_no_colon _ _ e)
joint_colon n (Sign mark.Minus) e = absurd (operator_no_colon _ _ e)
joint_colon n (Sign mark.Star) e = absurd (operator_no_colon _ _ e)
joint_colon n (Sign mark.Slash) e = absurd (operator_no_colon _ _ e)
joint_colon n t e = absurd (cc)

rest_meets : (n d i : ℕ) (t : TokenKind) (ts : Tokens) (j : Joint) → joint n t ≡ j → (K : Stack)
    → refused_from i (t ∷ ts) ((ask.rest n, d) ∷ K) ≡ from_met i (λ b. refused_from (suc i) ts b) (by_rule (joint_rule n j) true d K (meet t K))
rest_meets n d i t ts j e K = ap (λ j. from_met i (λ b. refused_from (suc i) ts b) (by_rule (joint_rule n j) true d K (meet t K))) e

rest_by_exact : (n d : ℕ) (member : Reader to.Expr) (behind : Reader to.Links) (fuel i : ℕ) (t : TokenKind) (ts : Tokens) (j : Joint)
    → AllExact (level_phrase n d) member
    → ((i : ℕ) (ts : Tokens) → length ts ≤ fuel → Exact (rest_phrase n d) i ts (behind i ts))
    → length ts ≤ fuel
    → joint n t ≡ j
    → Exact (rest_phrase n d) i (t ∷ ts) (rest_by member behind i ts t j)
rest_by_exact n d member behind fuel i t ts no_joint each next short e = record {
  holds = record {
    text = said.no_rest;
    is = tt;
    value = refl;
    index = refl;
    spelled = refl;
    goes = λ K. rest_meets n d i t ts no_joint e K;
  };
}
rest_by_exact n d member behind fuel i t ts (by_operator op) each next short e =
    let is = joint_operator n t op e in
    subst (λ (u : TokenKind). Comes (rest_phrase n d) i (u ∷ ts) (suc i) ts (λ K. (ask.level n, d) ∷ (ask.rest n, d) ∷ K) → Exact (rest_phrase n d) i (u ∷ ts) (member (suc i) ts >>= (λ e. behind e.1 e.2 >>= (λ links. Ok (to.operand i op e.0 links.0, links.1, links.2))))) (sym is.0)
    (λ comes. follow (level_phrase n d) (λ us. operator_token op ∷ us) _ (each (suc i) ts) comes
    (λ c rest c_is spelled comes.
    let shorter : length rest ≤ fuel = omega (arith, longer_level c rest, ap length spelled) in
    follow (rest_phrase n d) (λ us. operator_token op ∷ spell_level c us) _ (next (after_level (suc i) c) rest shorter) comes
    (λ r rest r_is spelled comes. finish (rest_phrase n d) (said.joined op c r) (is.1, c_is, r_is) refl comes)))
    (record { goes = λ K. rest_meets n d i t ts (by_operator op) e K })
rest_by_exact n d member behind fuel i t ts by_colon each next short e =
    let is = joint_colon n t e in
    subst (λ (u : TokenKind). Comes (rest_phrase n d) i (u ∷ ts) (suc i) ts (λ K. (ask.hashes, d) ∷ (ask.rest n, d) ∷ K) → Exact (rest_phrase n d) i (u ∷ ts) (hashes_at (suc i) ts >>= (λ e. behind e.1 e.2 >>= (λ links. Ok (to.hashes i e.0 links.0, links.1, links.2))))) (sym is.0)
    (λ comes. follow (hashes_phrase d) (λ us. Sign mark.Colon ∷ us) _ (hashes_exact d (suc i) ts) comes
    (λ c rest c_is spelled comes.
    let shorter : length rest ≤ fuel = omega (arith, ap length spelled) in
    follow (rest_phrase n d) (λ us. Sign mark.Colon ∷ Hashes c ∷ us) _ (next (suc (suc i)) rest shorter) comes
    (λ r rest r_is spelled comes. finish (rest_phrase n d) (said.formed c r) (is.1, r_is) refl comes)))
    (record { goes = λ K. rest_meets n d i t ts by_colon e K })

pub rest_exact : (n d : ℕ) (member : Reader to.Expr) → AllExact (level_phrase n d) member → (fuel i : ℕ) (ts : Tokens) → length ts ≤ fuel → Exact (rest_phrase n d) i ts (rest member n fuel i ts)
rest_exact n d member each zero i [] short = empty (rest_phrase n d) i [] said.no_rest (ask.rest n) d tt refl refl (λ K. refl) refl refl
rest_exact n d member each zero i (t ∷ ts) short = absurd (omega arith)
rest_exact n d member each (suc fuel) i [] short = empty (rest_phrase n d) i [] said.no_rest (ask.rest n) d tt refl refl (λ K. refl) refl refl
rest_exact n d member each (suc fuel) i (t ∷ ts) short =
    let shorter : length ts ≤ fuel = omega arith in
    rest_by_exact n d member (rest member n fuel) fuel i t ts (joint n t) each (rest_exact n d member each fuel) shorter refl

abbrev pub unary_phrase : ℕ → Phrase to.Expr
unary_phrase d = record { Said = said.Unary; Is = IsUnary d; spell = spell_unary; after = after_unary; tree = tree_unary; front = λ K. (ask.level 0, d) ∷ K }

-- a Unary is of level 0
single_exact : (d i : ℕ) (ts : Tokens) (r : Found to.Expr) → Exact (unary_phrase d) i ts r → Exact (level_phrase 0 d) i ts r
single_exact d i ts (Ok x) h = record { holds = record { text = said.single h.holds.text; is = h.holds.is; value = h.holds.value; index = h.holds.index; spelled = h.holds.spelled; goes = h.holds.goes } }
single_exact d i ts (Err f) h = record { holds = h.holds }

pub level_exact : (d : ℕ) (base : Reader to.Expr) → AllExact (unary_phrase d) base → (n : ℕ) → AllExact (level_phrase n d) (level_on base n)
level_exact d base each zero i ts = single_exact d i ts (base i ts) (each i ts)
level_exact d base each (suc n) i ts =
    follow (level_phrase n d) (λ us. us) _ (level_exact d base each n i ts)
    (record { goes = λ K. split (ask.level (suc n)) (ask.level n) (ask.rest n ∷ []) d i ts K (λ u. refl) refl refl })
    (λ c rest is spelled comes.
    let short : length rest ≤ length rest = omega arith in
    follow (rest_phrase n d) (λ us. spell_level c us) _ (rest_exact n d (level_on base n) (level_exact d base each n) (length rest) (after_level i c) rest short) comes
    (λ r rest r_is spelled comes. finish (level_phrase (suc n) d) (said.group c r) (is, r_is) refl comes))

-- Arguments

abbrev pub more_phrase : ℕ → Phrase to.Exprs
more_phrase d = record { Said = said.MoreArgs; Is = IsMoreArgs d; spell = spell_more_args; after = after_more_args; tree = tree_more_args; front = λ K. (ask.more_arguments, d) ∷ K }

abbrev pub args_phrase : ℕ → Phrase to.Exprs
args_phrase d = record { Said = said.Args; Is = IsArgs d; spell = spell_args; after = after_args; tree = tree_args; front = λ K. (ask.arguments, d) ∷ K }

pub more_exact : (d : ℕ) (member : Reader to.Expr) → AllExact (level_phrase 8 d) member → (fuel i : ℕ) (ts : Tokens) → length ts ≤ fuel → Exact (more_phrase d) i ts (more_arguments member fuel i ts)
more_exact d member each zero i [] short = empty (more_phrase d) i [] said.no_more_args ask.more_arguments d tt refl refl (λ K. refl) refl refl
more_exact d member each zero i (t ∷ ts) short = absurd (omega arith)
more_exact d member each (suc fuel) i ts short =
    chosen (begins (ask.sign mark.Comma) ts)
    (λ e. follow_sign (λ us. us) mark.Comma _
    (record { goes = λ K. comma_began ask.more_arguments (ask.expression ∷ ask.more_arguments ∷ []) d i ts K (λ u. refl) e })
    (λ rest at comes. follow (level_phrase 8 d) (λ us. Sign mark.Comma ∷ us) _ (each (suc i) rest) comes
    (λ c behind is spelled comes.
    let shorter : length behind ≤ fuel = omega (arith, longer_level c behind, ap length spelled, ap length at) in
    follow (more_phrase d) (λ us. Sign mark.Comma ∷ spell_level c us) _ (more_exact d member each fuel (after_level (suc i) c) behind shorter) comes
    (λ r rest r_is spelled comes. finish (more_phrase d) (said.comma_arg c r) (is, r_is) refl comes))))
    (λ e. empty (more_phrase d) i ts said.no_more_args ask.more_arguments d tt refl refl (λ K. refl) refl (comma_begins ask.more_arguments (ask.expression ∷ ask.more_arguments ∷ []) ts (λ u. refl) ∙ e))

pub args_exact : (d : ℕ) (member : Reader to.Expr) → AllExact (level_phrase 8 d) member → AllExact (args_phrase d) (arguments member)
args_exact d member each i ts =
    chosen (begins ask.arguments ts)
    (λ e. follow (level_phrase 8 d) (λ us. us) _ (each i ts)
    (record { goes = λ K. began ask.arguments ask.expression (ask.more_arguments ∷ []) d i ts K (λ u. refl) (sym (begins_as ask.arguments ask.expression (ask.more_arguments ∷ []) ts (λ u. refl)) ∙ e) })
    (λ c rest is spelled comes.
    let short : length rest ≤ length rest = omega arith in
    follow (more_phrase d) (λ us. spell_level c us) _ (more_exact d member each (length rest) (after_level i c) rest short) comes
    (λ r rest r_is spelled comes. finish (args_phrase d) (said.args c r) (is, r_is) refl comes)))
    (λ e. empty (args_phrase d) i ts said.no_args ask.arguments d tt refl refl (λ K. refl) refl e)

-- Unary

-- the reader of Unary with one level fewer, where a level is free
abbrev pub BaseAt : ℕ → Option (Reader to.Expr) → Type 0
BaseAt zero None = Unit {0}
BaseAt zero (Some r) = ⊥
BaseAt (suc d) None = ⊥
BaseAt (suc d) (Some r) = AllExact (unary_phrase d) r

-- what opens a level: refused where none is free
pub deeper_exact : {V : Type 0} (P : ℕ → Phrase V) (i0 : ℕ) (ts0 : Tokens) (i d : ℕ) (base : Option (Reader to.Expr)) (inside : Reader to.Expr → Found V)
    → BaseAt d base
    → ((K : Stack) → refused_from i0 ts0 ((P zero).front K) ≡ Some (too_deep i))
    → ((e : ℕ) (r : Reader to.Expr) → AllExact (unary_phrase e) r → Exact (P (suc e)) i0 ts0 (inside r))
    → Exact (P d) i0 ts0 (deeper i base inside)
deeper_exact P i0 ts0 i zero None inside at deep then = record { holds = deep }
deeper_exact P i0 ts0 i zero (Some r) inside at deep then = absurd at
deeper_exact P i0 ts0 i (suc d) None inside at deep then = absurd at
deeper_exact P i0 ts0 i (suc d) (Some r) inside at deep then = then d r at

whole_exact : (d : ℕ) (base : Reader to.Expr) → AllExact (unary_phrase d) base → AllExact (level_phrase 8 d) (whole base)
unfolding whole
whole_exact d base each i ts = level_exact d base each 8 i ts

-- what stands behind a name
data SuffixText : Type 0 where
  plain : SuffixText
  with_args : (args : said.Args) → SuffixText
  with_index : (index : said.Level) → SuffixText

abbrev suffix_unary : List ℕ → SuffixText → said.Unary
suffix_unary x plain = said.name x
suffix_unary x (with_args a) = said.called x a
suffix_unary x (with_index e) = said.element x e

abbrev suffix_spell : SuffixText → Tokens → Tokens
suffix_spell plain k = k
suffix_spell (with_args a) k = Sign mark.LeftParen ∷ spell_args a (Sign mark.RightParen ∷ k)
suffix_spell (with_index e) k = Sign mark.LeftBracket ∷ spell_level e (Sign mark.RightBracket ∷ k)

abbrev suffix_after : ℕ → SuffixText → ℕ
suffix_after i plain = i
suffix_after i (with_args a) = suc (after_args (suc i) a)
suffix_after i (with_index e) = suc (after_level (suc i) e)

abbrev suffix_tree : ℕ → List ℕ → ℕ → SuffixText → to.Expr
suffix_tree at x i plain = to.expr at at (to.name x)
suffix_tree at x i (with_args a) = to.expr at at (to.call x (tree_args (suc i) a))
suffix_tree at x i (with_index e) = to.expr at at (to.element x (tree_level (suc i) e))

abbrev suffix_phrase : ℕ → List ℕ → ℕ → Phrase to.Expr
suffix_phrase at x d = record { Said = SuffixText; Is = λ s. IsUnary d (suffix_unary x s); spell = suffix_spell; after = suffix_after; tree = suffix_tree at x; front = λ K. (ask.suffix, d) ∷ K }

suffix_exact : (at : ℕ) (x : List ℕ) (d : ℕ) (base : Option (Reader to.Expr)) → BaseAt d base → AllExact (suffix_phrase at x d) (suffix base at x)
suffix_exact at x d base is i (Sign mark.LeftParen ∷ ts) = deeper_exact (suffix_phrase at x) i (Sign mark.LeftParen ∷ ts) i d base _ is (λ K. refl)
    (λ e r each. follow (args_phrase e) (λ us. Sign mark.LeftParen ∷ us) _ (args_exact e (whole r) (whole_exact e r each) (suc i) ts) (record { goes = λ K. refl })
    (λ a rest a_is spelled comes. follow_sign (λ us. Sign mark.LeftParen ∷ spell_args a us) mark.RightParen _ comes
    (λ rest at comes. finish (suffix_phrase _ x (suc e)) (with_args a) a_is refl comes)))
suffix_exact at x d base is i (Sign mark.LeftBracket ∷ ts) = deeper_exact (suffix_phrase at x) i (Sign mark.LeftBracket ∷ ts) i d base _ is (λ K. refl)
    (λ e r each. follow (level_phrase 8 e) (λ us. Sign mark.LeftBracket ∷ us) _ (whole_exact e r each (suc i) ts) (record { goes = λ K. refl })
    (λ c rest c_is spelled comes. follow_sign (λ us. Sign mark.LeftBracket ∷ spell_level c us) mark.RightBracket _ comes
    (λ rest at comes. finish (suffix_phrase _ x (suc e)) (with_index c) c_is refl comes)))
suffix_exact at x d base is i ts = empty (suffix_phrase at x d) i ts plain ask.suffix d tt refl refl (λ K. refl) refl refl

suffix_ok : (x : List ℕ) (d i : ℕ) (ts : Tokens) (s : SuffixText) (v : to.Expr) (j : ℕ) (rest : Tokens)
    → IsUnary d (suffix_unary x s) → v ≡ suffix_tree i x (suc i) s → j ≡ suffix_after (suc i) s → ts ≡ suffix_spell s rest
    → ((K : Stack) → refused_from (suc i) ts ((ask.suffix, d) ∷ K) ≡ refused_from j rest K)
    → ReadAs (unary_phrase d) i (Name x ∷ ts) v j rest
suffix_ok x d i ts plain v j rest is value index spelled goes = record { text = said.name x; is = is; value = value; index = index; spelled = ap (λ k. Name x ∷ k) spelled; goes = goes }
suffix_ok x d i ts (with_args a) v j rest is value index spelled goes = record { text = said.called x a; is = is; value = value; index = index; spelled = ap (λ k. Name x ∷ k) spelled; goes = goes }
suffix_ok x d i ts (with_index e) v j rest is value index spelled goes = record { text = said.element x e; is = is; value = value; index = index; spelled = ap (λ k. Name x ∷ k) spelled; goes = goes }

named_exact : (x : List ℕ) (d i : ℕ) (ts : Tokens) (r : Found to.Expr) → Exact (suffix_phrase i x d) (suc i) ts r → Exact (unary_phrase d) i (Name x ∷ ts) r
named_exact x d i ts (Ok y) h = record { holds = suffix_ok x d i ts h.holds.text y.0 y.1 y.2 h.holds.is h.holds.value h.holds.index h.holds.spelled h.holds.goes }
named_exact x d i ts (Err f) h = record { holds = λ K. h.holds K }

unary_on_exact : (d : ℕ) (base : Option (Reader to.Expr)) → BaseAt d base → AllExact (unary_phrase d) (unary_on base)
unary_on_exact d base is i [] = record { holds = λ K. refl }
unary_on_exact d base is i (Sign mark.Minus ∷ ts) = deeper_exact unary_phrase i (Sign mark.Minus ∷ ts) i d base _ is (λ K. refl)
    (λ e r each. follow (unary_phrase e) (λ us. Sign mark.Minus ∷ us) _ (each (suc i) ts) (record { goes = λ K. refl })
    (λ u rest u_is spelled comes. finish (unary_phrase (suc e)) (said.minus u) u_is refl comes))
unary_on_exact d base is i (Keyword words.Not ∷ ts) = deeper_exact unary_phrase i (Keyword words.Not ∷ ts) i d base _ is (λ K. refl)
    (λ e r each. follow (unary_phrase e) (λ us. Keyword words.Not ∷ us) _ (each (suc i) ts) (record { goes = λ K. refl })
    (λ u rest u_is spelled comes. finish (unary_phrase (suc e)) (said.not u) u_is refl comes))
unary_on_exact d base is i (Number v ∷ ts) = finish (unary_phrase d) (said.number v) tt refl (record { goes = λ K. refl })
unary_on_exact d base is i (Text t ∷ ts) = finish (unary_phrase d) (said.text t) tt refl (record { goes = λ K. refl })
unary_on_exact d base is i (Sign mark.LeftParen ∷ ts) = deeper_exact unary_phrase i (Sign mark.LeftParen ∷ ts) i d base _ is (λ K. refl)
    (λ e r each. follow (level_phrase 8 e) (λ us. Sign mark.LeftParen ∷ us) _ (whole_exact e r each (suc i) ts) (record { goes = λ K. refl })
    (λ c rest c_is spelled comes. follow_sign (λ us. Sign mark.LeftParen ∷ spell_level c us) mark.RightParen _ comes
    (λ rest at comes. finish (unary_phrase (suc e)) (said.parens c) c_is refl comes)))
unary_on_exact d base is i (Name x ∷ ts) = named_exact x d i ts (suffix base i x (suc i) ts) (suffix_exact i x d base is (suc i) ts)
unary_on_exact d base is i (t ∷ ts) = record { holds = λ K. refl }

pub unary_exact : (d : ℕ) → AllExact (unary_phrase d) (unary d)
unary_exact zero i ts = unary_on_exact zero None tt i ts
unary_exact (suc d) i ts = unary_on_exact (suc d) (Some (unary d)) (unary_exact d) i ts

pub expression_exact : (d : ℕ) → AllExact (level_phrase 8 d) (expression d)
expression_exact d i ts = whole_exact d (unary d) (unary_exact d) i ts
