-- What is spelled is read again: files.
use Rattle.std.proofs.Common.{◌≡◌, ℕ, zero, suc, ◌≤◌, Bool, true, false, List, [], ◌∷◌, ◌++◌, length, Option, Some, None, refl, ◌∙◌, arith}
use Rattle.std.specs.Prelude.{Ok}
use Rattle.ci_tree.specs.declared.token.TokenKind.TheVariants.{Name, Keyword, Sign}
use Rattle.ci_tree.specs.declared.token.Keyword.TheVariants as words
use Rattle.ci_tree.specs.declared.token.Sign.TheVariants as mark
use Rattle.ci_tree.specs.declared.tree.TypeName.{TypeName}
use Rattle.ci_tree.specs.declared.tree.TypeName.TheVariants as type_name
use Rattle.ci_tree.specs.declared.tree.TypeAt.{TypeAt}
use Rattle.ci_tree.specs.Grammar.{Tokens, type_token, spell_first, after_first, tree_first, spell_var, after_var, tree_var, spell_parameter, after_parameter, tree_parameter, spell_parameters, after_parameters, tree_parameters, spell_body, after_body, tree_body, IsFunction, spell_function, after_function, tree_function, spell_others, after_others, tree_others, AreAll, IsDefinition, spell_definition, after_definition, tree_definition, spell_file, tree_file, seen_token, scope_token}
use Rattle.ci_tree.specs.Grammar as said
use Rattle.ci_tree.specs.Refused.{Refusal, begins, has_rule, rule}
use Rattle.ci_tree.specs.Refused as ask
use Rattle.ci_parser.specs.Reading.{◌>>=◌, const, var, type_at, parameter, parameters, function, one_item, variables, typed, seen, scoped, item, items}
use Rattle.ci_parser.proofs.ExactItems.{var_phrase, parameter_phrase}
use Rattle.ci_expressions.proofs.Longer.{longer_var, longer_parameter, longer_definition}
use Rattle.ci_expressions.proofs.Again.{then_again, first_way, second_way}
use Rattle.ci_parser.proofs.AgainStatements.{MemberAgain, members_again, body_again}

type_again : (t : TypeName) (i : ℕ) (k : Tokens) → type_at i (type_token t ∷ k) ≡ Ok (t, suc i, k)
type_again type_name.Int i k = refl
type_again type_name.String i k = refl
type_again type_name.Real i k = refl
type_again type_name.Object i k = refl
type_again type_name.Quality i k = refl
type_again type_name.Timestamp i k = refl

type_begins : (t : TypeName) (k : Tokens) → begins ask.type (type_token t ∷ k) ≡ true
type_begins type_name.Int k = refl
type_begins type_name.String k = refl
type_begins type_name.Real k = refl
type_begins type_name.Object k = refl
type_begins type_name.Quality k = refl
type_begins type_name.Timestamp k = refl

first_again : (v : said.FirstValue) (i : ℕ) (k : Tokens) → const i (spell_first v k) ≡ Ok (tree_first i v, after_first i v, k)
first_again (said.positive v) i k = refl
first_again (said.negative v) i k = refl
first_again (said.literal t) i k = refl

-- what can follow a variable: no bracket and no first value
record AfterVar (k : Tokens) : Type 0 where
  pub no_length : begins (ask.sign mark.LeftBracket) k ≡ false
  pub no_first : begins ask.first_value k ≡ false

var_again : (global : Bool) (kind : TypeAt) (d : ℕ) → MemberAgain (var_phrase global kind d) AfterVar (var global kind)
var_again global kind d (said.plain_var x) is i k after = second_way _ after.no_length (then_again _ (second_way _ after.no_first refl) refl)
var_again global kind d (said.array_var x n) is i k after = refl
var_again global kind d (said.valued_var x v) is i k after = then_again _ (then_again _ (first_again v (suc (suc i)) k) refl) refl

-- what can follow a parameter: no first value
record AfterParameter (k : Tokens) : Type 0 where
  pub no_first : begins ask.first_value k ≡ false

parameter_again : (d : ℕ) → MemberAgain (parameter_phrase d) AfterParameter parameter
parameter_again d (said.plain_parameter t x) is i k after = then_again _ (type_again t i (Name x ∷ k)) (then_again _ (second_way _ after.no_first refl) refl)
parameter_again d (said.valued_parameter t x v) is i k after = then_again _ (type_again t i (Name x ∷ Sign mark.Equal ∷ spell_first v k)) (then_again _ (then_again _ (first_again v (suc (suc (suc i))) k) refl) refl)

all_unit : {M : Type 0} (ms : List M) → AreAll (λ (m : M). Unit {0}) ms
all_unit [] = tt
all_unit (m ∷ ms) = (tt, all_unit ms)

parameters_begin : (p : said.Parameter) (k : Tokens) → begins ask.parameters (spell_parameter p k) ≡ true
parameters_begin (said.plain_parameter type_name.Int x) k = refl
parameters_begin (said.plain_parameter type_name.String x) k = refl
parameters_begin (said.plain_parameter type_name.Real x) k = refl
parameters_begin (said.plain_parameter type_name.Object x) k = refl
parameters_begin (said.plain_parameter type_name.Quality x) k = refl
parameters_begin (said.plain_parameter type_name.Timestamp x) k = refl
parameters_begin (said.valued_parameter type_name.Int x v) k = refl
parameters_begin (said.valued_parameter type_name.String x v) k = refl
parameters_begin (said.valued_parameter type_name.Real x v) k = refl
parameters_begin (said.valued_parameter type_name.Object x v) k = refl
parameters_begin (said.valued_parameter type_name.Quality x v) k = refl
parameters_begin (said.valued_parameter type_name.Timestamp x v) k = refl

parameters_again : (ps : said.Parameters) (i : ℕ) (k : Tokens) → parameters i (spell_parameters ps (Sign mark.RightParen ∷ k)) ≡ Ok (tree_parameters i ps, after_parameters i ps, Sign mark.RightParen ∷ k)
parameters_again said.no_parameters i k = refl
parameters_again (said.parameters p ps) i k =
    first_way _ (parameters_begin p (spell_others spell_parameter ps (Sign mark.RightParen ∷ k)))
    (members_again (parameter_phrase 0) AfterParameter parameter longer_parameter (λ us. record { no_first = refl }) (parameter_again 0) p ps tt (all_unit ps) i (Sign mark.RightParen ∷ k) (record { no_comma = refl; after = record { no_first = refl } }))

function_again : (f : said.Function) (d : ℕ) (private : Bool) (gives : Option TypeAt) → IsFunction d f → (i : ℕ) (k : Tokens) → function d private gives i (spell_function f k) ≡ Ok (tree_function private gives i f, after_function i f, k)
function_again (said.function x ps b) d private gives is i k =
    then_again _ (parameters_again ps (suc (suc (suc i))) (spell_body b (Keyword words.End ∷ k)))
    (then_again _ (body_again b d is (suc (after_parameters (suc (suc (suc i))) ps)) (Keyword words.End ∷ k) refl) refl)

variables_again : (global : Bool) (kind : TypeAt) (v : said.Var) (vs : List said.Var) (i : ℕ) (k : Tokens)
    → variables global kind i (spell_var v (spell_others spell_var vs (Sign mark.Semicolon ∷ k))) ≡ Ok (tree_var global kind i v ∷ tree_others after_var (tree_var global kind) (after_var i v) vs, suc (after_others after_var (after_var i v) vs), k)
variables_again global kind v vs i k =
    then_again _ (members_again (var_phrase global kind 0) AfterVar (var global kind) longer_var (λ us. record { no_length = refl; no_first = refl }) (var_again global kind 0) v vs tt (all_unit vs) i (Sign mark.Semicolon ∷ k) (record { no_comma = refl; after = record { no_length = refl; no_first = refl } })) refl

-- a typed item by its type's word
item_typed : (d i : ℕ) (t : TypeName) (k : Tokens) → item d i (type_token t ∷ k) ≡ typed d (record { at = i; name = t }) (suc i) k
item_typed d i type_name.Int k = refl
item_typed d i type_name.String k = refl
item_typed d i type_name.Real k = refl
item_typed d i type_name.Object k = refl
item_typed d i type_name.Quality k = refl
item_typed d i type_name.Timestamp k = refl

var_name : (v : said.Var) (k : Tokens) → begins ask.name (spell_var v k) ≡ true
var_name (said.plain_var x) k = refl
var_name (said.array_var x n) k = refl
var_name (said.valued_var x v) k = refl

function_no_name : (f : said.Function) (k : Tokens) → begins ask.name (spell_function f k) ≡ false
function_no_name (said.function x ps b) k = refl

function_no_type : (f : said.Function) (k : Tokens) → begins ask.type (spell_function f k) ≡ false
function_no_type (said.function x ps b) k = refl

item_function : (f : said.Function) (d i : ℕ) (k : Tokens) → item d i (spell_function f k) ≡ one_item (function d false None i (spell_function f k))
item_function (said.function x ps b) d i k = refl

item_seen : (private : Bool) (d i : ℕ) (k : Tokens) → item d i (seen_token private ∷ k) ≡ seen d private (suc i) k
item_seen true d i k = refl
item_seen false d i k = refl

item_scoped : (global : Bool) (d i : ℕ) (k : Tokens) → item d i (scope_token global ∷ k) ≡ scoped global (suc i) k
item_scoped true d i k = refl
item_scoped false d i k = refl

item_again : (x : said.Definition) (d : ℕ) → IsDefinition d x → (i : ℕ) (k : Tokens) → item d i (spell_definition x k) ≡ Ok (tree_definition i x, after_definition i x, k)
item_again said.blank d is i k = refl
item_again (said.plain_function f) d is i k = item_function f d i k ∙ then_again _ (function_again f d false None is i k) refl
item_again (said.typed_function t f) d is i k =
    item_typed d i t (spell_function f k)
    ∙ second_way _ (function_no_name f k) (then_again _ (function_again f d false (Some (record { at = i; name = t })) is (suc i) k) refl)
item_again (said.seen_function p f) d is i k =
    item_seen p d i (spell_function f k)
    ∙ second_way _ (function_no_type f k) (then_again _ (function_again f d p None is (suc i) k) refl)
item_again (said.seen_typed_function p t f) d is i k =
    item_seen p d i (type_token t ∷ spell_function f k)
    ∙ first_way _ (type_begins t (spell_function f k))
    (then_again _ (type_again t (suc i) (spell_function f k)) (then_again _ (function_again f d p (Some (record { at = suc i; name = t })) is (suc (suc i)) k) refl))
item_again (said.variables t v vs) d is i k =
    item_typed d i t (spell_var v (spell_others spell_var vs (Sign mark.Semicolon ∷ k)))
    ∙ first_way _ (var_name v (spell_others spell_var vs (Sign mark.Semicolon ∷ k))) (variables_again false (record { at = i; name = t }) v vs (suc i) k)
item_again (said.scoped_variables g t v vs) d is i k =
    item_scoped g d i (type_token t ∷ spell_var v (spell_others spell_var vs (Sign mark.Semicolon ∷ k)))
    ∙ then_again _ (type_again t (suc i) (spell_var v (spell_others spell_var vs (Sign mark.Semicolon ∷ k)))) (variables_again g (record { at = suc i; name = t }) v vs (suc (suc i)) k)

-- tokens that are left are one item and more
items_step : (d fuel i : ℕ) (ts : Tokens) → suc zero ≤ length ts → items d (suc fuel) i ts ≡ (item d i ts >>= (λ is. items d fuel is.1 is.2 >>= (λ more. Ok (is.0 ++ more))))
items_step d fuel i [] some = absurd (omega arith)
items_step d fuel i (t ∷ ts) some = refl

pub items_again : (file : List said.Definition) (d : ℕ) → AreAll (IsDefinition d) file → (fuel i : ℕ) → length (spell_file file) ≤ fuel → items d fuel i (spell_file file) ≡ Ok (tree_file i file)
items_again [] d is zero i short = refl
items_again [] d is (suc fuel) i short = refl
items_again (x ∷ xs) d is zero i short = absurd (omega (arith, longer_definition x (spell_file xs)))
items_again (x ∷ xs) d is (suc fuel) i short =
    let some : suc zero ≤ length (spell_definition x (spell_file xs)) = omega (arith, longer_definition x (spell_file xs)) in
    let shorter : length (spell_file xs) ≤ fuel = omega (arith, longer_definition x (spell_file xs)) in
    items_step d fuel i (spell_definition x (spell_file xs)) some
    ∙ then_again _ (item_again x d is.0 i (spell_file xs))
    (then_again _ (items_again xs d is.1 fuel (after_definition i x) shorter) refl)
