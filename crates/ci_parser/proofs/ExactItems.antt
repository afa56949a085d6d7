-- Reading a file agrees with the grammar and with the first refused token.
use Rattle.std.proofs.Common.{◌≡◌, ℕ, zero, suc, ◌≤◌, Bool, true, false, List, [], ◌∷◌, ◌++◌, length, Option, Some, None, refl, sym, ap, ◌∙◌, subst, arith}
use Rattle.std.specs.Prelude.{Ok, Err, Result}
use Rattle.ci_tree.specs.declared.token.TokenKind.{TokenKind}
use Rattle.ci_tree.specs.declared.token.TokenKind.TheVariants.{Name, Keyword, Number, Text, Sign}
use Rattle.ci_tree.specs.declared.token.Keyword.TheVariants as words
use Rattle.ci_tree.specs.declared.token.Sign.TheVariants as mark
use Rattle.ci_tree.specs.declared.tree.TypeName.{TypeName}
use Rattle.ci_tree.specs.declared.tree.TypeAt.{TypeAt}
use Rattle.ci_tree.specs.declared.tree.Const.{Const}
use Rattle.ci_tree.specs.declared.tree.Param.{Param}
use Rattle.ci_tree.specs.Tree as to
use Rattle.ci_tree.specs.Grammar.{Tokens, type_token, spell_first, after_first, tree_first, spell_var, after_var, tree_var, spell_parameter, after_parameter, tree_parameter, spell_parameters, after_parameters, tree_parameters, spell_body, after_body, tree_body, IsFunction, spell_function, after_function, tree_function, spell_others, after_others, tree_others, AreAll, IsDefinition, spell_definition, after_definition, tree_definition, spell_file, tree_file, seen_token, scope_token}
use Rattle.ci_tree.specs.Grammar as said
use Rattle.ci_tree.specs.Refused.{Refusal, Symbol, Stack, rule, refused_from, from_met, by_rule, meet, push, begins, has_rule, type_of_token, typed_or, plain_item_rule, function_rule, no_rule}
use Rattle.ci_tree.specs.Refused as ask
use Rattle.ci_parser.specs.Reading.{Found, ◌>>=◌, const, first_value, var, parameter, parameters, function, variables, typed, seen, scoped, plain_item, item_by, item, items, members}
use Rattle.ci_expressions.proofs.Exact.{Phrase, Exact, Comes, follow, finish, follow_keyword, follow_sign, chosen, dropped, empty, began, begins_as, split, equal_began, turn}
use Rattle.ci_expressions.proofs.ExactExpressions.{AllExact, name_phrase, name_exact, number_phrase, number_exact, type_phrase, type_exact, type_token_is}
use Rattle.ci_parser.proofs.ExactMembers.{members_phrase, members_exact}
use Rattle.ci_parser.proofs.ExactStatements.{body_phrase, body_exact}
use Rattle.ci_expressions.proofs.Longer.{longer_var, longer_parameter, longer_definition}

-- First values

abbrev const_phrase : ℕ → Phrase Const
const_phrase d = record { Said = said.FirstValue; Is = λ v. Unit {0}; spell = spell_first; after = after_first; tree = tree_first; front = λ K. (ask.const, d) ∷ K }

const_exact : (d i : ℕ) (ts : Tokens) → Exact (const_phrase d) i ts (const i ts)
const_exact d i [] = record { holds = λ K. refl }
const_exact d i (Number v ∷ ts) = finish (const_phrase d) (said.positive v) tt refl (record { goes = λ K. refl })
const_exact d i (Text t ∷ ts) = finish (const_phrase d) (said.literal t) tt refl (record { goes = λ K. refl })
const_exact d i (Sign mark.Minus ∷ ts) =
    follow (number_phrase d) (λ us. Sign mark.Minus ∷ us) _ (number_exact d (suc i) ts) (record { goes = λ K. refl })
    (λ v rest is spelled comes. finish (const_phrase d) (said.negative v) tt refl comes)
const_exact d i (t ∷ ts) = record { holds = λ K. refl }

-- [ "=" Const ]
data FirstText : Type 0 where
  no_first : FirstText
  a_first : (value : said.FirstValue) → FirstText

abbrev first_spell : FirstText → Tokens → Tokens
first_spell no_first k = k
first_spell (a_first v) k = Sign mark.Equal ∷ spell_first v k

abbrev first_after : ℕ → FirstText → ℕ
first_after i no_first = i
first_after i (a_first v) = after_first (suc i) v

abbrev first_tree : ℕ → FirstText → Option Const
first_tree i no_first = None
first_tree i (a_first v) = Some (tree_first (suc i) v)

abbrev first_phrase : ℕ → Phrase (Option Const)
first_phrase d = record { Said = FirstText; Is = λ v. Unit {0}; spell = first_spell; after = first_after; tree = first_tree; front = λ K. (ask.first_value, d) ∷ K }

first_exact : (d i : ℕ) (ts : Tokens) → Exact (first_phrase d) i ts (first_value i ts)
first_exact d i ts =
    chosen (begins ask.first_value ts)
    (λ e. follow_sign (λ us. us) mark.Equal _ (record { goes = λ K. equal_began ask.first_value (ask.const ∷ []) d i ts K (λ u. refl) e })
    (λ rest at comes. follow (const_phrase d) (λ us. Sign mark.Equal ∷ us) _ (const_exact d (suc i) rest) comes
    (λ v rest is spelled comes. finish (first_phrase d) (a_first v) tt refl comes)))
    (λ e. empty (first_phrase d) i ts no_first ask.first_value d tt refl refl (λ K. refl) refl e)

-- Variables

abbrev pub var_phrase : Bool → TypeAt → ℕ → Phrase to.Item
var_phrase global kind d = record { Said = said.Var; Is = λ v. Unit {0}; spell = spell_var; after = after_var; tree = tree_var global kind; front = λ K. (ask.name, d) ∷ (ask.var_end, d) ∷ K }

var_array : (d i : ℕ) (ts : Tokens) (K : Stack) → begins (ask.sign mark.LeftBracket) ts ≡ true → refused_from i ts ((ask.var_end, d) ∷ K) ≡ refused_from i ts ((ask.sign mark.LeftBracket, d) ∷ (ask.number, d) ∷ (ask.sign mark.RightBracket, d) ∷ K)
var_array d i [] K e = absurd (cc)
var_array d i (Sign mark.LeftBracket ∷ us) K e = refl
var_array d i (u ∷ us) K e = absurd (cc)

var_scalar : (d i : ℕ) (ts : Tokens) (K : Stack) → begins (ask.sign mark.LeftBracket) ts ≡ false → refused_from i ts ((ask.var_end, d) ∷ K) ≡ refused_from i ts ((ask.first_value, d) ∷ K)
var_scalar d i [] K e = refl
var_scalar d i (Sign mark.LeftBracket ∷ us) K e = absurd (cc)
var_scalar d i (u ∷ us) K e = refl

scalar_finish : (global : Bool) (kind : TypeAt) (d i : ℕ) (x : List ℕ) (v : FirstText) (rest : Tokens)
    → Comes (var_phrase global kind d) i (Name x ∷ first_spell v rest) (first_after (suc i) v) rest (λ K. K)
    → Exact (var_phrase global kind d) i (Name x ∷ first_spell v rest) (Ok (to.variable i x global kind None (first_tree (suc i) v), first_after (suc i) v, rest))
scalar_finish global kind d i x no_first rest comes = finish (var_phrase global kind d) (said.plain_var x) tt refl comes
scalar_finish global kind d i x (a_first v) rest comes = finish (var_phrase global kind d) (said.valued_var x v) tt refl comes

var_exact : (global : Bool) (kind : TypeAt) (d : ℕ) → AllExact (var_phrase global kind d) (var global kind)
var_exact global kind d i ts =
    follow (name_phrase d) (λ us. us) _ (name_exact d i ts) (record { goes = λ K. refl })
    (λ x rest is spelled comes. chosen (begins (ask.sign mark.LeftBracket) rest)
    (λ e. follow_sign (λ us. Name x ∷ us) mark.LeftBracket _ (record { goes = λ K. comes.goes K ∙ var_array d (suc i) rest K e })
    (λ rest at comes. follow (number_phrase d) (λ us. Name x ∷ Sign mark.LeftBracket ∷ us) _ (number_exact d (suc (suc i)) rest) comes
    (λ n rest n_is spelled comes. follow_sign (λ us. Name x ∷ Sign mark.LeftBracket ∷ Number n ∷ us) mark.RightBracket _ comes
    (λ rest at comes. finish (var_phrase global kind d) (said.array_var x n) tt refl comes))))
    (λ e. follow (first_phrase d) (λ us. Name x ∷ us) _ (first_exact d (suc i) rest) (record { goes = λ K. comes.goes K ∙ var_scalar d (suc i) rest K e })
    (λ v rest v_is spelled comes. scalar_finish global kind d i x v rest comes)))

-- Parameters

abbrev pub parameter_phrase : ℕ → Phrase Param
parameter_phrase d = record { Said = said.Parameter; Is = λ v. Unit {0}; spell = spell_parameter; after = after_parameter; tree = tree_parameter; front = λ K. (ask.parameter, d) ∷ K }

typed_split : (s : Symbol) (more : List Symbol) (r : ask.Rule) (o : Option TypeName) → r ≡ typed_or more o no_rule → r ≡ ask.followed_by more (typed_or [] o no_rule)
typed_split s more r (Some t) e = e
typed_split s more r None e = e

parameter_finish : (d i : ℕ) (t : TypeName) (x : List ℕ) (v : FirstText) (rest : Tokens)
    → Comes (parameter_phrase d) i (type_token t ∷ Name x ∷ first_spell v rest) (first_after (suc (suc i)) v) rest (λ K. K)
    → Exact (parameter_phrase d) i (type_token t ∷ Name x ∷ first_spell v rest) (Ok (record { at = suc i; name = x; kind = record { at = i; name = t }; first = first_tree (suc (suc i)) v }, first_after (suc (suc i)) v, rest))
parameter_finish d i t x no_first rest comes = finish (parameter_phrase d) (said.plain_parameter t x) tt refl comes
parameter_finish d i t x (a_first v) rest comes = finish (parameter_phrase d) (said.valued_parameter t x v) tt refl comes

parameter_exact : (d : ℕ) → AllExact (parameter_phrase d) parameter
parameter_exact d i ts =
    follow (type_phrase d) (λ us. us) _ (type_exact d i ts)
    (record { goes = λ K. split ask.parameter ask.type (ask.name ∷ ask.first_value ∷ []) d i ts K (λ u. typed_split ask.parameter (ask.name ∷ ask.first_value ∷ []) (rule ask.parameter u) (type_of_token u) refl) refl refl })
    (λ t rest t_is spelled comes. follow (name_phrase d) (λ us. type_token t ∷ us) _ (name_exact d (suc i) rest) comes
    (λ x rest x_is spelled comes. follow (first_phrase d) (λ us. type_token t ∷ Name x ∷ us) _ (first_exact d (suc (suc i)) rest) comes
    (λ v rest v_is spelled comes. parameter_finish d i t x v rest comes)))

abbrev parameters_phrase : ℕ → Phrase (List Param)
parameters_phrase d = record { Said = said.Parameters; Is = λ v. Unit {0}; spell = spell_parameters; after = after_parameters; tree = tree_parameters; front = λ K. (ask.parameters, d) ∷ K }

members_parameters : (d i : ℕ) (ts : Tokens) (r : Found (List Param)) → Exact (members_phrase (parameter_phrase d) ask.more_parameters d) i ts r → ((K : Stack) → refused_from i ts ((ask.parameters, d) ∷ K) ≡ refused_from i ts ((ask.parameter, d) ∷ (ask.more_parameters, d) ∷ K)) → Exact (parameters_phrase d) i ts r
members_parameters d i ts (Ok x) h same = record { holds = record { text = said.parameters h.holds.text.0 h.holds.text.1; is = tt; value = h.holds.value; index = h.holds.index; spelled = h.holds.spelled; goes = λ K. same K ∙ h.holds.goes K } }
members_parameters d i ts (Err f) h same = record { holds = λ K. same K ∙ h.holds K }

parameters_exact : (d : ℕ) → AllExact (parameters_phrase d) parameters
parameters_exact d i ts =
    chosen (begins ask.parameters ts)
    (λ e. members_parameters d i ts (members parameter i ts)
    (members_exact (parameter_phrase d) ask.more_parameters (ask.parameter ∷ ask.more_parameters ∷ []) d parameter (λ u. refl) (λ K. refl) refl longer_parameter (parameter_exact d) i ts)
    (λ K. began ask.parameters ask.parameter (ask.more_parameters ∷ []) d i ts K (λ u. refl) (sym (begins_as ask.parameters ask.parameter (ask.more_parameters ∷ []) ts (λ u. refl)) ∙ e)))
    (λ e. empty (parameters_phrase d) i ts said.no_parameters ask.parameters d tt refl refl (λ K. refl) refl e)

-- Functions

abbrev function_phrase : Bool → Option TypeAt → ℕ → Phrase to.Item
function_phrase private gives d = record { Said = said.Function; Is = IsFunction d; spell = spell_function; after = after_function; tree = tree_function private gives; front = λ K. (ask.function, d) ∷ K }

function_word : (d i : ℕ) (ts : Tokens) (K : Stack) → refused_from i ts ((ask.function, d) ∷ K) ≡ refused_from i ts ((ask.keyword words.Function, d) ∷ (ask.name, d) ∷ (ask.sign mark.LeftParen, d) ∷ (ask.parameters, d) ∷ (ask.sign mark.RightParen, d) ∷ (ask.body, d) ∷ (ask.keyword words.End, d) ∷ K)
function_word d i [] K = refl
function_word d i (Keyword words.Function ∷ us) K = refl
function_word d i (u ∷ us) K = refl

pub function_exact : (d : ℕ) (private : Bool) (gives : Option TypeAt) → AllExact (function_phrase private gives d) (function d private gives)
function_exact d private gives i ts =
    follow_keyword (λ us. us) words.Function _ (record { goes = λ K. function_word d i ts K })
    (λ rest at comes. follow (name_phrase d) (λ us. Keyword words.Function ∷ us) _ (name_exact d (suc i) rest) comes
    (λ x rest x_is spelled comes. follow_sign (λ us. Keyword words.Function ∷ Name x ∷ us) mark.LeftParen _ comes
    (λ rest at comes. follow (parameters_phrase d) (λ us. Keyword words.Function ∷ Name x ∷ Sign mark.LeftParen ∷ us) _ (parameters_exact d (suc (suc (suc i))) rest) comes
    (λ ps rest ps_is spelled comes. follow_sign (λ us. Keyword words.Function ∷ Name x ∷ Sign mark.LeftParen ∷ spell_parameters ps us) mark.RightParen _ comes
    (λ rest at comes. follow (body_phrase d) (λ us. Keyword words.Function ∷ Name x ∷ Sign mark.LeftParen ∷ spell_parameters ps (Sign mark.RightParen ∷ us)) _ (body_exact d (suc (after_parameters (suc (suc (suc i))) ps)) rest) comes
    (λ b rest b_is spelled comes. follow_keyword (λ us. Keyword words.Function ∷ Name x ∷ Sign mark.LeftParen ∷ spell_parameters ps (Sign mark.RightParen ∷ spell_body b us)) words.End _ comes
    (λ rest at comes. finish (function_phrase private gives d) (said.function x ps b) b_is refl comes)))))))

-- Items

-- Vars ";"
abbrev variables_phrase : Bool → TypeAt → ℕ → Phrase (List to.Item)
variables_phrase global kind d = record {
  Said = said.Var × List said.Var;
  Is = λ x. Unit {0};
  spell = λ x k. spell_var x.0 (spell_others spell_var x.1 (Sign mark.Semicolon ∷ k));
  after = λ i x. suc (after_others after_var (after_var i x.0) x.1);
  tree = λ i x. tree_var global kind i x.0 ∷ tree_others after_var (tree_var global kind) (after_var i x.0) x.1;
  front = λ K. (ask.name, d) ∷ (ask.var_end, d) ∷ (ask.more_vars, d) ∷ (ask.sign mark.Semicolon, d) ∷ K;
}

variables_exact : (global : Bool) (kind : TypeAt) (d : ℕ) → AllExact (variables_phrase global kind d) (variables global kind)
variables_exact global kind d i ts =
    follow (members_phrase (var_phrase global kind d) ask.more_vars d) (λ us. us) _
    (members_exact (var_phrase global kind d) ask.more_vars (ask.name ∷ ask.var_end ∷ ask.more_vars ∷ []) d (var global kind) (λ u. refl) (λ K. refl) refl longer_var (var_exact global kind d) i ts)
    (record { goes = λ K. refl })
    (λ vs rest vs_is spelled comes. follow_sign (λ us. spell_var vs.0 (spell_others spell_var vs.1 us)) mark.Semicolon _ comes
    (λ rest at comes. finish (variables_phrase global kind d) vs tt refl comes))

abbrev item_phrase : ℕ → Phrase (List to.Item)
item_phrase d = record { Said = said.Definition; Is = IsDefinition d; spell = spell_definition; after = after_definition; tree = tree_definition; front = λ K. (ask.item, d) ∷ K }

typed_name : (d i : ℕ) (ts : Tokens) (K : Stack) → begins ask.name ts ≡ true → refused_from i ts ((ask.typed, d) ∷ K) ≡ refused_from i ts ((ask.name, d) ∷ (ask.var_end, d) ∷ (ask.more_vars, d) ∷ (ask.sign mark.Semicolon, d) ∷ K)
typed_name d i [] K e = absurd (cc)
typed_name d i (Name x ∷ us) K e = refl
typed_name d i (u ∷ us) K e = absurd (cc)

typed_function : (d i : ℕ) (ts : Tokens) (K : Stack) → begins ask.name ts ≡ false → refused_from i ts ((ask.typed, d) ∷ K) ≡ refused_from i ts ((ask.function, d) ∷ K)
typed_function d i [] K e = refl
typed_function d i (Name x ∷ us) K e = absurd (cc)
typed_function d i (u ∷ us) K e = refl

typed_exact : (kind : TypeName) (d i : ℕ) (ts : Tokens) → Comes (item_phrase d) i (type_token kind ∷ ts) (suc i) ts (λ K. (ask.typed, d) ∷ K) → Exact (item_phrase d) i (type_token kind ∷ ts) (typed d (record { at = i; name = kind }) (suc i) ts)
typed_exact kind d i ts comes =
    chosen (begins ask.name ts)
    (λ e. turn (variables_phrase false (record { at = i; name = kind }) d) (item_phrase d) (λ us. type_token kind ∷ us) (λ x. said.variables kind x.0 x.1)
    (variables_exact false (record { at = i; name = kind }) d (suc i) ts)
    (record { goes = λ K. comes.goes K ∙ typed_name d (suc i) ts K e }) (λ x is. tt) (λ x. refl) (λ x. refl) (λ x k. refl))
    (λ e. follow (function_phrase false (Some (record { at = i; name = kind })) d) (λ us. type_token kind ∷ us) _ (function_exact d false (Some (record { at = i; name = kind })) (suc i) ts)
    (record { goes = λ K. comes.goes K ∙ typed_function d (suc i) ts K e })
    (λ f rest f_is spelled comes. finish (item_phrase d) (said.typed_function kind f) f_is refl comes))

seen_type : (d i : ℕ) (t : TokenKind) (us : Tokens) (K : Stack) (o : Option TypeName) → type_of_token t ≡ o → has_rule (typed_or [] o no_rule) ≡ true → refused_from i (t ∷ us) ((ask.seen, d) ∷ K) ≡ refused_from i (t ∷ us) ((ask.type, d) ∷ (ask.function, d) ∷ K)
seen_type d i t us K (Some kind) e h =
    ap (λ o. from_met i (λ b. refused_from (suc i) us b) (by_rule (typed_or (ask.function ∷ []) o (function_rule t)) false d K (meet t K))) e
    ∙ sym (ap (λ o. from_met i (λ b. refused_from (suc i) us b) (by_rule (typed_or [] o no_rule) false d ((ask.function, d) ∷ K) (meet t ((ask.function, d) ∷ K)))) e)
seen_type d i t us K None e h = absurd (cc)

seen_no_type : (d i : ℕ) (t : TokenKind) (us : Tokens) (K : Stack) (o : Option TypeName) → type_of_token t ≡ o → has_rule (typed_or [] o no_rule) ≡ false → refused_from i (t ∷ us) ((ask.seen, d) ∷ K) ≡ refused_from i (t ∷ us) ((ask.function, d) ∷ K)
seen_no_type d i t us K (Some kind) e h = absurd (cc)
seen_no_type d i t us K None e h = ap (λ o. from_met i (λ b. refused_from (suc i) us b) (by_rule (typed_or (ask.function ∷ []) o (function_rule t)) false d K (meet t K))) e

seen_typed : (d i : ℕ) (ts : Tokens) (K : Stack) → begins ask.type ts ≡ true → refused_from i ts ((ask.seen, d) ∷ K) ≡ refused_from i ts ((ask.type, d) ∷ (ask.function, d) ∷ K)
seen_typed d i [] K e = absurd (cc)
seen_typed d i (t ∷ us) K e = seen_type d i t us K (type_of_token t) refl e

seen_untyped : (d i : ℕ) (ts : Tokens) (K : Stack) → begins ask.type ts ≡ false → refused_from i ts ((ask.seen, d) ∷ K) ≡ refused_from i ts ((ask.function, d) ∷ K)
seen_untyped d i [] K e = refl
seen_untyped d i (t ∷ us) K e = seen_no_type d i t us K (type_of_token t) refl e

seen_exact : (private : Bool) (d i : ℕ) (ts : Tokens) → Comes (item_phrase d) i (seen_token private ∷ ts) (suc i) ts (λ K. (ask.seen, d) ∷ K) → Exact (item_phrase d) i (seen_token private ∷ ts) (seen d private (suc i) ts)
seen_exact private d i ts comes =
    chosen (begins ask.type ts)
    (λ e. follow (type_phrase d) (λ us. seen_token private ∷ us) _ (type_exact d (suc i) ts) (record { goes = λ K. comes.goes K ∙ seen_typed d (suc i) ts K e })
    (λ t rest t_is spelled comes. follow (function_phrase private (Some (record { at = suc i; name = t })) d) (λ us. seen_token private ∷ type_token t ∷ us) _ (function_exact d private (Some (record { at = suc i; name = t })) (suc (suc i)) rest) comes
    (λ f rest f_is spelled comes. finish (item_phrase d) (said.seen_typed_function private t f) f_is refl comes)))
    (λ e. follow (function_phrase private None d) (λ us. seen_token private ∷ us) _ (function_exact d private None (suc i) ts) (record { goes = λ K. comes.goes K ∙ seen_untyped d (suc i) ts K e })
    (λ f rest f_is spelled comes. finish (item_phrase d) (said.seen_function private f) f_is refl comes))

scoped_exact : (global : Bool) (d i : ℕ) (ts : Tokens) → Comes (item_phrase d) i (scope_token global ∷ ts) (suc i) ts (λ K. (ask.type, d) ∷ (ask.name, d) ∷ (ask.var_end, d) ∷ (ask.more_vars, d) ∷ (ask.sign mark.Semicolon, d) ∷ K) → Exact (item_phrase d) i (scope_token global ∷ ts) (scoped global (suc i) ts)
scoped_exact global d i ts comes =
    follow (type_phrase d) (λ us. scope_token global ∷ us) _ (type_exact d (suc i) ts) comes
    (λ t rest t_is spelled comes. turn (variables_phrase global (record { at = suc i; name = t }) d) (item_phrase d) (λ us. scope_token global ∷ type_token t ∷ us) (λ x. said.scoped_variables global t x.0 x.1)
    (variables_exact global (record { at = suc i; name = t }) d (suc (suc i)) rest) comes (λ x is. tt) (λ x. refl) (λ x. refl) (λ x k. refl))

plain_item_exact : (d i : ℕ) (t : TokenKind) (ts : Tokens) → type_of_token t ≡ None → Exact (item_phrase d) i (t ∷ ts) (plain_item d i (t ∷ ts))
plain_item_exact d i (Sign mark.Semicolon) ts none = finish (item_phrase d) said.blank tt refl (record { goes = λ K. refl })
plain_item_exact d i (Keyword words.Private) ts none = seen_exact true d i ts (record { goes = λ K. refl })
plain_item_exact d i (Keyword words.Public) ts none = seen_exact false d i ts (record { goes = λ K. refl })
plain_item_exact d i (Keyword words.Global) ts none = scoped_exact true d i ts (record { goes = λ K. refl })
plain_item_exact d i (Keyword words.Module) ts none = scoped_exact false d i ts (record { goes = λ K. refl })
plain_item_exact d i (Keyword words.Function) ts none =
    follow (function_phrase false None d) (λ us. us) _ (function_exact d false None i (Keyword words.Function ∷ ts)) (record { goes = λ K. refl })
    (λ f rest f_is spelled comes. finish (item_phrase d) (said.plain_function f) f_is refl comes)
plain_item_exact d i (Keyword words.Int) ts none = absurd (cc)
plain_item_exact d i (Keyword words.String) ts none = absurd (cc)
plain_item_exact d i (Keyword words.Real) ts none = absurd (cc)
plain_item_exact d i (Keyword words.Object) ts none = absurd (cc)
plain_item_exact d i (Keyword words.Quality) ts none = absurd (cc)
plain_item_exact d i (Keyword words.Timestamp) ts none = absurd (cc)
plain_item_exact d i t ts none = record { holds = λ K. refl }

item_by_exact : (d i : ℕ) (t : TokenKind) (ts : Tokens) (o : Option TypeName) → type_of_token t ≡ o → Exact (item_phrase d) i (t ∷ ts) (item_by d i t ts o)
item_by_exact d i t ts None e = plain_item_exact d i t ts e
item_by_exact d i t ts (Some kind) e =
    subst (λ (u : TokenKind). Comes (item_phrase d) i (u ∷ ts) (suc i) ts (λ K. (ask.typed, d) ∷ K) → Exact (item_phrase d) i (u ∷ ts) (typed d (record { at = i; name = kind }) (suc i) ts))
    (sym (type_token_is t kind e))
    (λ comes. typed_exact kind d i ts comes)
    (record { goes = λ K. ap (λ o. from_met i (λ b. refused_from (suc i) ts b) (by_rule (typed_or (ask.typed ∷ []) o (plain_item_rule t)) false d K (meet t K))) e })

item_exact : (d i : ℕ) (ts : Tokens) → Exact (item_phrase d) i ts (item d i ts)
item_exact d i [] = record { holds = λ K. refl }
item_exact d i (t ∷ ts) = item_by_exact d i t ts (type_of_token t) refl

-- A file was read: the tokens spell its tree, and nothing is refused; or else this is what is refused.
pub record FileRead (d i : ℕ) (ts : Tokens) (is : List to.Item) : Type 0 where
  pub file : List said.Definition
  pub within : AreAll (IsDefinition d) file
  pub spelled : ts ≡ spell_file file
  pub means : is ≡ tree_file i file
  pub passes : refused_from i ts ((ask.items, d) ∷ []) ≡ None

abbrev pub FileExact : ℕ → ℕ → Tokens → Result (List to.Item) Refusal → Type 0
FileExact d i ts (Ok is) = FileRead d i ts is
FileExact d i ts (Err f) = refused_from i ts ((ask.items, d) ∷ []) ≡ Some f

items_began : (d i : ℕ) (t : TokenKind) (ts : Tokens) → has_rule (rule ask.item t) ≡ true → refused_from i (t ∷ ts) ((ask.items, d) ∷ []) ≡ refused_from i (t ∷ ts) ((ask.item, d) ∷ (ask.items, d) ∷ [])
items_began d i t ts e = began ask.items ask.item (ask.items ∷ []) d i (t ∷ ts) [] (λ u. refl) e

-- at a token that begins no item, the list of items and one item are refused alike
items_refused : (d i : ℕ) (t : TokenKind) (ts : Tokens) → has_rule (rule ask.item t) ≡ false → refused_from i (t ∷ ts) ((ask.items, d) ∷ []) ≡ refused_from i (t ∷ ts) ((ask.item, d) ∷ (ask.items, d) ∷ [])
items_refused d i t ts e = dropped ask.items d i (t ∷ ts) [] refl (begins_as ask.items ask.item (ask.items ∷ []) (t ∷ ts) (λ u. refl) ∙ e) ∙ sym (item_refused d i t ts (rule ask.item t) refl e)
  where
    item_refused : (d i : ℕ) (t : TokenKind) (ts : Tokens) (r : ask.Rule) → rule ask.item t ≡ r → has_rule r ≡ false → refused_from i (t ∷ ts) ((ask.item, d) ∷ (ask.items, d) ∷ []) ≡ Some (ask.unexpected i)
    item_refused d i t ts ask.no_rule e h = ap (λ (r : ask.Rule). from_met i (λ b. refused_from (suc i) ts b) (by_rule r false d ((ask.items, d) ∷ []) (meet t ((ask.items, d) ∷ [])))) e
    item_refused d i t ts (ask.takes then) e h = absurd (cc)
    item_refused d i t ts (ask.opens inside then) e h = absurd (cc)

items_split : (d i : ℕ) (t : TokenKind) (ts : Tokens) (b : Bool) → has_rule (rule ask.item t) ≡ b → refused_from i (t ∷ ts) ((ask.items, d) ∷ []) ≡ refused_from i (t ∷ ts) ((ask.item, d) ∷ (ask.items, d) ∷ [])
items_split d i t ts true e = items_began d i t ts e
items_split d i t ts false e = items_refused d i t ts e

-- the items behind the first are added to it
add_items : (d i : ℕ) (ts : Tokens) (text : said.Definition) (is : List to.Item) (j : ℕ) (rest : Tokens) (others : Result (List to.Item) Refusal)
    → IsDefinition d text → is ≡ tree_definition i text → j ≡ after_definition i text → ts ≡ spell_definition text rest
    → refused_from i ts ((ask.items, d) ∷ []) ≡ refused_from j rest ((ask.items, d) ∷ [])
    → FileExact d j rest others
    → FileExact d i ts (others >>= (λ more. Ok (is ++ more)))
add_items d i ts text is j rest (Ok more) t_is value index spelled goes h = record {
  file = text ∷ h.file;
  within = (t_is, h.within);
  spelled = spelled ∙ ap (spell_definition text) h.spelled;
  means = ap (λ x. x ++ more) value ∙ ap (λ m. tree_definition i text ++ m) (h.means ∙ ap (λ k. tree_file k h.file) index);
  passes = goes ∙ h.passes;
}
add_items d i ts text is j rest (Err f) t_is value index spelled goes h = goes ∙ h

add_item : (d fuel i : ℕ) (t : TokenKind) (ts : Tokens) (r : Found (List to.Item)) → Exact (item_phrase d) i (t ∷ ts) r
    → ((j : ℕ) (rest : Tokens) → length rest ≤ fuel → FileExact d j rest (items d fuel j rest))
    → length (t ∷ ts) ≤ suc fuel
    → FileExact d i (t ∷ ts) (r >>= (λ is. items d fuel is.1 is.2 >>= (λ more. Ok (is.0 ++ more))))
add_item d fuel i t ts (Ok x) h next short =
    let shorter : length x.2 ≤ fuel = omega (arith, longer_definition h.holds.text x.2, ap length h.holds.spelled) in
    add_items d i (t ∷ ts) h.holds.text x.0 x.1 x.2 (items d fuel x.1 x.2) h.holds.is h.holds.value h.holds.index h.holds.spelled
    (items_split d i t ts (has_rule (rule ask.item t)) refl ∙ h.holds.goes ((ask.items, d) ∷ []))
    (next x.1 x.2 shorter)
add_item d fuel i t ts (Err f) h next short = items_split d i t ts (has_rule (rule ask.item t)) refl ∙ h.holds ((ask.items, d) ∷ [])

pub items_exact : (d fuel i : ℕ) (ts : Tokens) → length ts ≤ fuel → FileExact d i ts (items d fuel i ts)
items_exact d fuel i [] short = record { file = []; within = tt; spelled = refl; means = refl; passes = refl }
items_exact d zero i (t ∷ ts) short = absurd (omega arith)
items_exact d (suc fuel) i (t ∷ ts) short = add_item d fuel i t ts (item d i (t ∷ ts)) (item_exact d i (t ∷ ts)) (items_exact d fuel) short
