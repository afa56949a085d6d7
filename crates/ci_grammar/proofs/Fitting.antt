-- Each rule keeps that behind each symbol stands what may follow it, so reading does.
use Rattle.std.proofs.Common.{◌≡◌, ℕ, zero, suc, List, [], ◌∷◌, ◌++◌, refl, sym, ap, subst}
use Rattle.std.specs.Prelude.{Bool, true, false, Option, Some, None}
use Rattle.ci_tree.specs.declared.token.TokenKind.{TokenKind}
use Rattle.ci_tree.specs.declared.token.TokenKind.TheVariants.{Name, Keyword, Number, Hashes, Sign}
use Rattle.ci_tree.specs.declared.token.Keyword.TheVariants as word
use Rattle.ci_tree.specs.declared.token.Sign.TheVariants as mark
use Rattle.ci_tree.specs.declared.tree.TypeName.{TypeName}
use Rattle.ci_base.specs.declared.relation.Relation.{Relation}
use Rattle.ci_tree.specs.Grammar.{Tokens}
use Rattle.ci_tree.specs.Refused.{Symbol, keyword, sign, name, number, hashes, type, items, item, seen, typed, function, parameters, parameter, more_parameters, var_end, more_vars, first_value, const, body, statement, local_end, more_locals, tail, else, returned, cases, case, label, label_end, more_labels, relation, arguments, more_arguments, level, rest, suffix, expression, type_of_token, relation_of_token, Rule, no_rule, takes, opens, rule, followed_by, taken_if, typed_or, unary_rule, suffix_rule, level_rule, expression_rule, Joint, no_joint, by_operator, by_colon, joint, joint_rule, plain_statement_rule, statement_rule, tail_rule, function_rule, plain_item_rule, item_rule, parameter_rule, label_rule, relation_rule, comma_rule, equal_rule, can_be_empty, is_keyword, is_sign, Stack, push, Met, refused, deep, left, by_rule, meet}
use Rattle.ci_grammar.proofs.Completion.{completed, all_completed, completion, IsBeforeEnd, IsBeforeStop, MayFollow, AllFollow, IsCompletable, end_stops, all_completed-append}

-- behind each symbol that the rule leaves stands what may follow it
abbrev pub Fits : Rule → Tokens → Type 0
Fits no_rule more = Unit {0}
Fits (takes then) more = AllFollow then more
Fits (opens inside then) more = AllFollow inside (all_completed then more) × AllFollow then more

-- Parts of rules

all_follow-append : (ss us : List Symbol) (more : Tokens) → AllFollow ss (all_completed us more) → AllFollow us more → AllFollow (ss ++ us) more
all_follow-append [] us more front back = back
all_follow-append (s ∷ ss) us more front back =
    (subst (MayFollow s) (sym (all_completed-append ss us more)) front.0, all_follow-append ss us more front.1 back)

followed_fits : (us : List Symbol) (r : Rule) (more : Tokens) → Fits r (all_completed us more) → AllFollow us more → Fits (followed_by us r) more
followed_fits us no_rule more front back = tt
followed_fits us (takes then) more front back = all_follow-append then us more front back
followed_fits us (opens inside then) more front back =
    (subst (AllFollow inside) (sym (all_completed-append then us more)) front.0, all_follow-append then us more front.1 back)

taken_fits : (b : Bool) (more : Tokens) → Fits (taken_if b) more
taken_fits false more = tt
taken_fits true more = tt

typed_fits : (then : List Symbol) (o : Option TypeName) (other : Rule) (more : Tokens) → AllFollow then more → Fits other more → Fits (typed_or then o other) more
typed_fits then (Some t) other more first second = first
typed_fits then None other more first second = second

comma_fits : (then : List Symbol) (t : TokenKind) (more : Tokens) → AllFollow then more → Fits (comma_rule then t) more
comma_fits then (Sign mark.Comma) more h = h
comma_fits then t more h = tt

equal_fits : (then : List Symbol) (t : TokenKind) (more : Tokens) → AllFollow then more → Fits (equal_rule then t) more
equal_fits then (Sign mark.Equal) more h = h
equal_fits then t more h = tt

relation_fits : (o : Option Relation) (more : Tokens) → Fits (relation_rule o) more
relation_fits (Some r) more = tt
relation_fits None more = tt

-- Expressions

unary_fits : (t : TokenKind) (more : Tokens) → IsBeforeStop more → Fits (unary_rule t) more
unary_fits (Sign mark.Minus) more h = ((h, tt), tt)
unary_fits (Keyword word.Not) more h = ((h, tt), tt)
unary_fits (Sign mark.LeftParen) more h = ((tt, (tt, tt)), tt)
unary_fits (Name x) more h = (h, tt)
unary_fits t more h = tt

suffix_fits : (t : TokenKind) (more : Tokens) → Fits (suffix_rule t) more
suffix_fits (Sign mark.LeftParen) more = ((tt, (tt, tt)), tt)
suffix_fits (Sign mark.LeftBracket) more = ((tt, (tt, tt)), tt)
suffix_fits t more = tt

level_fits : (n : ℕ) (t : TokenKind) (more : Tokens) → IsBeforeStop more → Fits (level_rule n t) more
level_fits zero t more h = unary_fits t more h
level_fits (suc n) t more h = followed_fits (rest n ∷ []) (level_rule n t) more (level_fits n t more h) (h, tt)

rest_fits : (n : ℕ) (j : Joint) (more : Tokens) → IsBeforeStop more → Fits (joint_rule n j) more
rest_fits n no_joint more h = tt
rest_fits n (by_operator op) more h = (h, (h, tt))
rest_fits n by_colon more h = (tt, (h, tt))

-- Statements

plain_statement_fits : (t : TokenKind) (more : Tokens) → Fits (plain_statement_rule t) more
plain_statement_fits (Sign mark.Semicolon) more = tt
plain_statement_fits (Name x) more = (tt, (tt, tt))
plain_statement_fits (Keyword word.If) more = ((tt, (tt, (tt, (tt, (tt, tt))))), tt)
plain_statement_fits (Keyword word.While) more = ((tt, (tt, (tt, (tt, tt)))), tt)
plain_statement_fits (Keyword word.For) more = ((tt, (tt, (tt, (tt, (tt, (tt, (tt, (tt, tt)))))))), tt)
plain_statement_fits (Keyword word.Select) more = ((tt, (tt, (tt, tt))), tt)
plain_statement_fits (Keyword word.Return) more = (tt, (tt, tt))
plain_statement_fits t more = tt

statement_fits : (t : TokenKind) (more : Tokens) → Fits (statement_rule t) more
statement_fits t more = typed_fits _ (type_of_token t) (plain_statement_rule t) more (tt, (tt, (tt, (tt, tt)))) (plain_statement_fits t more)

tail_fits : (t : TokenKind) (more : Tokens) → IsBeforeStop more → Fits (tail_rule t) more
tail_fits (Sign mark.LeftParen) more h = ((tt, (tt, tt)), tt)
tail_fits (Sign mark.LeftBracket) more h = ((tt, (tt, tt)), (tt, (h, tt)))
tail_fits (Sign mark.Equal) more h = (h, tt)
tail_fits t more h = tt

label_fits : (t : TokenKind) (more : Tokens) → IsBeforeEnd more → Fits (label_rule t) more
label_fits (Keyword word.Is) more h = (tt, (end_stops more h, tt))
label_fits t more h = followed_fits (label_end ∷ []) (expression_rule t) more (level_fits 8 t more (end_stops more h)) (h, tt)

cases_fits : (t : TokenKind) (more : Tokens) → Fits (rule cases t) more
cases_fits (Keyword word.End) more = (tt, tt)
cases_fits (Keyword word.Case) more = (tt, tt)
cases_fits t more = tt

case_fits : (t : TokenKind) (more : Tokens) → Fits (rule case t) more
case_fits (Keyword word.Else) more = (tt, (tt, (tt, tt)))
case_fits t more = followed_fits (more_labels ∷ body ∷ cases ∷ []) (label_rule t) more (label_fits t (all_completed (more_labels ∷ body ∷ cases ∷ []) more) tt) (tt, (tt, (tt, tt)))

else_fits : (t : TokenKind) (more : Tokens) → IsBeforeEnd more → Fits (rule else t) more
else_fits (Keyword word.Else) more h = (h, tt)
else_fits t more h = tt

label_end_fits : (t : TokenKind) (more : Tokens) → IsBeforeEnd more → Fits (rule label_end t) more
label_end_fits (Keyword word.To) more h = (end_stops more h, tt)
label_end_fits t more h = tt

-- Functions and variables

function_fits : (t : TokenKind) (more : Tokens) → Fits (function_rule t) more
function_fits (Keyword word.Function) more = (tt, (tt, (tt, (tt, (tt, (tt, tt))))))
function_fits t more = tt

plain_item_fits : (t : TokenKind) (more : Tokens) → Fits (plain_item_rule t) more
plain_item_fits (Sign mark.Semicolon) more = tt
plain_item_fits (Keyword word.Private) more = (tt, tt)
plain_item_fits (Keyword word.Public) more = (tt, tt)
plain_item_fits (Keyword word.Global) more = (tt, (tt, (tt, (tt, (tt, tt)))))
plain_item_fits (Keyword word.Module) more = (tt, (tt, (tt, (tt, (tt, tt)))))
plain_item_fits t more = function_fits t more

item_fits : (t : TokenKind) (more : Tokens) → Fits (item_rule t) more
item_fits t more = typed_fits (typed ∷ []) (type_of_token t) (plain_item_rule t) more (tt, tt) (plain_item_fits t more)

seen_fits : (t : TokenKind) (more : Tokens) → Fits (rule seen t) more
seen_fits t more = typed_fits (function ∷ []) (type_of_token t) (function_rule t) more (tt, tt) (function_fits t more)

behind_type_fits : (t : TokenKind) (more : Tokens) → Fits (rule typed t) more
behind_type_fits (Name x) more = (tt, (tt, (tt, tt)))
behind_type_fits t more = function_fits t more

parameter_fits : (t : TokenKind) (more : Tokens) → IsBeforeStop more → Fits (parameter_rule t) more
parameter_fits t more h = typed_fits (name ∷ first_value ∷ []) (type_of_token t) no_rule more (tt, (h, tt)) tt

var_end_fits : (t : TokenKind) (more : Tokens) → Fits (rule var_end t) more
var_end_fits (Sign mark.LeftBracket) more = (tt, (tt, tt))
var_end_fits t more = equal_fits (const ∷ []) t more (tt, tt)

const_fits : (t : TokenKind) (more : Tokens) → Fits (rule const t) more
const_fits (Sign mark.Minus) more = (tt, tt)
const_fits t more = tt

name_fits : (t : TokenKind) (more : Tokens) → Fits (rule name t) more
name_fits (Name x) more = tt
name_fits t more = tt

number_fits : (t : TokenKind) (more : Tokens) → Fits (rule number t) more
number_fits (Number v) more = tt
number_fits t more = tt

hashes_fits : (t : TokenKind) (more : Tokens) → Fits (rule hashes t) more
hashes_fits (Hashes n) more = tt
hashes_fits t more = tt

-- All rules

pub rule_fits : (s : Symbol) (t : TokenKind) (more : Tokens) → MayFollow s more → Fits (rule s t) more
rule_fits (keyword k) t more h = taken_fits (is_keyword k t) more
rule_fits (sign s) t more h = taken_fits (is_sign s t) more
rule_fits name t more h = name_fits t more
rule_fits number t more h = number_fits t more
rule_fits hashes t more h = hashes_fits t more
rule_fits type t more h = typed_fits [] (type_of_token t) no_rule more tt tt
rule_fits items t more h = followed_fits (items ∷ []) (item_rule t) more (item_fits t more) (h, tt)
rule_fits item t more h = item_fits t more
rule_fits seen t more h = seen_fits t more
rule_fits typed t more h = behind_type_fits t more
rule_fits function t more h = function_fits t more
rule_fits parameters t more h = followed_fits (more_parameters ∷ []) (parameter_rule t) more (parameter_fits t more h) (h, tt)
rule_fits parameter t more h = parameter_fits t more h
rule_fits more_parameters t more h = comma_fits (parameter ∷ more_parameters ∷ []) t more (h, (h, tt))
rule_fits var_end t more h = var_end_fits t more
rule_fits more_vars t more h = comma_fits (name ∷ var_end ∷ more_vars ∷ []) t more (tt, (h, (h, tt)))
rule_fits first_value t more h = equal_fits (const ∷ []) t more (tt, tt)
rule_fits const t more h = const_fits t more
rule_fits body t more h = followed_fits (body ∷ []) (statement_rule t) more (statement_fits t more) (h, tt)
rule_fits statement t more h = statement_fits t more
rule_fits local_end t more h = equal_fits (expression ∷ []) t more (h, tt)
rule_fits more_locals t more h = comma_fits (name ∷ local_end ∷ more_locals ∷ []) t more (tt, (h, (h, tt)))
rule_fits tail t more h = tail_fits t more h
rule_fits else t more h = else_fits t more h
rule_fits returned t more h = level_fits 8 t more h
rule_fits cases t more h = cases_fits t more
rule_fits case t more h = case_fits t more
rule_fits label t more h = label_fits t more h
rule_fits label_end t more h = label_end_fits t more h
rule_fits more_labels t more h = comma_fits (label ∷ more_labels ∷ []) t more (h, (h, tt))
rule_fits relation t more h = relation_fits (relation_of_token t) more
rule_fits arguments t more h = followed_fits (more_arguments ∷ []) (expression_rule t) more (level_fits 8 t more h) (h, tt)
rule_fits more_arguments t more h = comma_fits (expression ∷ more_arguments ∷ []) t more (h, (h, tt))
rule_fits (level n) t more h = level_fits n t more h
rule_fits (rest n) t more h = rest_fits n (joint n t) more h
rule_fits suffix t more h = suffix_fits t more

-- Stacks

pub completion-push : (free : ℕ) (ss : List Symbol) (stack : Stack) → completion (push free ss stack) ≡ all_completed ss (completion stack)
completion-push free [] stack = refl
completion-push free (s ∷ ss) stack = ap (completed s) (completion-push free ss stack)

push_completable : (free : ℕ) (ss : List Symbol) (stack : Stack) → AllFollow ss (completion stack) → IsCompletable stack → IsCompletable (push free ss stack)
push_completable free [] stack follow completable = completable
push_completable free (s ∷ ss) stack follow completable = (subst (MayFollow s) (sym (completion-push free ss stack)) follow.0, push_completable free ss stack follow.1 completable)

-- what a token leaves can be completed
abbrev pub LeavesCompletable : Met → Type 0
LeavesCompletable refused = Unit {0}
LeavesCompletable deep = Unit {0}
LeavesCompletable (left stack) = IsCompletable stack

by_rule_completable : (r : Rule) (empty : Bool) (free : ℕ) (stack : Stack) (dropped : Met) → Fits r (completion stack) → IsCompletable stack → LeavesCompletable dropped → LeavesCompletable (by_rule r empty free stack dropped)
by_rule_completable no_rule true free stack dropped fits completable then = then
by_rule_completable no_rule false free stack dropped fits completable then = tt
by_rule_completable (takes ss) empty free stack dropped fits completable then = push_completable free ss stack fits completable
by_rule_completable (opens inside ss) empty zero stack dropped fits completable then = tt
by_rule_completable (opens inside ss) empty (suc free) stack dropped fits completable then =
    push_completable free inside (push (suc free) ss stack) (subst (AllFollow inside) (sym (completion-push (suc free) ss stack)) fits.0) (push_completable (suc free) ss stack fits.1 completable)

-- reading a token keeps that what is still to be read can be completed
pub meet_completable : (t : TokenKind) (stack : Stack) → IsCompletable stack → LeavesCompletable (meet t stack)
meet_completable t [] completable = tt
meet_completable t (s ∷ stack) completable =
    by_rule_completable (rule s.0 t) (can_be_empty s.0) s.1 stack (meet t stack) (rule_fits s.0 t (completion stack) completable.0) completable.1 (meet_completable t stack completable.1)
