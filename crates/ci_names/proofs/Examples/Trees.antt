-- How the examples write their trees. The number in front of a member is the index of its token.
use Rattle.std.specs.Prelude.{ℕ, ℤ, pos, neg_ℤ, true, false, List, [], Option, Some, None, codes}
use Rattle.ci_tree.specs.declared.tree.TypeAt.{TypeAt}
use Rattle.ci_tree.specs.declared.tree.TypeName.TheVariants as type_name
use Rattle.ci_tree.specs.declared.tree.Const.{Const}
use Rattle.ci_tree.specs.declared.tree.Const.TheVariants as const
use Rattle.ci_tree.specs.declared.tree.Param.{Param}
use Rattle.ci_tree.specs.declared.tree.Operator.{Operator}
use Rattle.ci_base.specs.declared.relation.Relation.{Relation}
use Rattle.ci_tree.specs.Grammar.{begun_at}
use Rattle.ci_tree.specs.Tree as tree
use Rattle.ci_tree.specs.Tree.{Expr, Link, Local, Label, Stmt, Clause, Item, exprs_from, links_from, block_from, clauses_from}
use Rattle.ci_names.specs.declared.fault.BindKind.{BindKind}
use Rattle.ci_names.specs.Fault.{Fault}
use Prim.Native.String.{String}

-- a fault: its file, its token, and its kind
abbrev pub fault : ℕ → ℕ → BindKind → Fault
fault file token kind = record { file = file; token = token; kind = kind }

-- Types

abbrev pub int : ℕ → TypeAt
int at = record { at = at; name = type_name.Int }

abbrev pub string : ℕ → TypeAt
string at = record { at = at; name = type_name.String }

abbrev pub real : ℕ → TypeAt
real at = record { at = at; name = type_name.Real }

abbrev pub object : ℕ → TypeAt
object at = record { at = at; name = type_name.Object }

abbrev pub quality : ℕ → TypeAt
quality at = record { at = at; name = type_name.Quality }

abbrev pub timestamp : ℕ → TypeAt
timestamp at = record { at = at; name = type_name.Timestamp }

-- Expressions

abbrev pub num : ℕ → ℕ → Expr
num at value = tree.expr at at (tree.number (pos value))

abbrev pub txt : ℕ → String → Expr
txt at text = tree.expr at at (tree.literal (codes text))

abbrev pub var : ℕ → String → Expr
var at name = tree.expr at at (tree.name (codes name))

abbrev pub elem : ℕ → String → Expr → Expr
elem at name index = tree.expr at at (tree.element (codes name) index)

abbrev pub call : ℕ → String → List Expr → Expr
call at name args = tree.expr at at (tree.call (codes name) (exprs_from args))

abbrev pub minus : ℕ → Expr → Expr
minus at operand = tree.expr at at (tree.unary true operand)

abbrev pub not : ℕ → Expr → Expr
not at operand = tree.expr at at (tree.unary false operand)

abbrev pub parens : ℕ → Expr → Expr
parens start inner = begun_at start inner

-- a chain with its first token, and its first operator
abbrev pub chain : ℕ → ℕ → Expr → List Link → Expr
chain start at first rest = tree.expr start at (tree.chain first (links_from rest))

abbrev pub op : ℕ → Operator → Expr → Link
op at operator right = tree.operand_link at operator right

abbrev pub form : ℕ → ℕ → Link
form at count = tree.hashes_link at count

-- Statements

abbrev pub plain : ℕ → String → Local
plain at name = record { at = at; name = codes name; value = None }

abbrev pub valued : ℕ → String → Expr → Local
valued at name value = record { at = at; name = codes name; value = Some value }

abbrev pub declare : ℕ → TypeAt → List Local → Stmt
declare at kind locals = tree.declare at kind locals

-- with the token of `=`
abbrev pub assign : ℕ → String → ℕ → Expr → Stmt
assign at name equals value = tree.assign at (codes name) None equals value

abbrev pub set_element : ℕ → String → Expr → ℕ → Expr → Stmt
set_element at name index equals value = tree.assign at (codes name) (Some index) equals value

abbrev pub do_call : ℕ → String → List Expr → Stmt
do_call at name args = tree.call_of at (codes name) (exprs_from args)

abbrev pub if_then : ℕ → Expr → List Stmt → Stmt
if_then at test body = tree.choose at test (block_from body) tree.no_other

abbrev pub if_else : ℕ → Expr → List Stmt → List Stmt → Stmt
if_else at test body last = tree.choose at test (block_from body) (tree.other (block_from last))

abbrev pub while : ℕ → Expr → List Stmt → Stmt
while at test body = tree.while at test (block_from body)

abbrev pub for : ℕ → ℕ → String → Expr → Expr → List Stmt → Stmt
for at name_at name first last body = tree.for at name_at (codes name) first last (block_from body)

abbrev pub one : Expr → Label
one value = tree.one value

abbrev pub range : Expr → Expr → Label
range low high = tree.range low high

abbrev pub compared : ℕ → Relation → Expr → Label
compared at relation value = tree.compared at relation value

abbrev pub case : ℕ → List Label → List Stmt → Clause
case at labels body = record { at = at; labels = labels; body = block_from body }

abbrev pub select : ℕ → Expr → List Clause → Stmt
select at subject clauses = tree.select at subject (clauses_from clauses) tree.no_other

abbrev pub select_else : ℕ → Expr → List Clause → List Stmt → Stmt
select_else at subject clauses last = tree.select at subject (clauses_from clauses) (tree.other (block_from last))

abbrev pub return : ℕ → Stmt
return at = tree.return at None

abbrev pub return_value : ℕ → Expr → Stmt
return_value at value = tree.return at (Some value)

-- Items

abbrev pub first_number : ℕ → ℕ → Const
first_number at value = const.Number at (pos value)

abbrev pub first_negative : ℕ → ℕ → Const
first_negative at value = const.Number at (neg_ℤ (pos value))

abbrev pub first_text : ℕ → String → Const
first_text at text = const.Literal at (codes text)

abbrev pub param : ℕ → String → TypeAt → Param
param at name kind = record { at = at; name = codes name; kind = kind; first = None }

abbrev pub param_first : ℕ → String → TypeAt → Const → Param
param_first at name kind first = record { at = at; name = codes name; kind = kind; first = Some first }

-- a function without a word in front, a type or parameters
abbrev pub function : ℕ → String → List Stmt → Item
function at name body = tree.function at (codes name) false None [] (block_from body)

abbrev pub public_function : ℕ → String → Option TypeAt → List Param → List Stmt → Item
public_function at name gives params body = tree.function at (codes name) false gives params (block_from body)

abbrev pub private_function : ℕ → String → Option TypeAt → List Param → List Stmt → Item
private_function at name gives params body = tree.function at (codes name) true gives params (block_from body)

abbrev pub variable : ℕ → String → TypeAt → Item
variable at name kind = tree.variable at (codes name) false kind None None

abbrev pub variable_first : ℕ → String → TypeAt → Const → Item
variable_first at name kind first = tree.variable at (codes name) false kind None (Some first)

-- with its length, and the token of that
abbrev pub variable_array : ℕ → String → TypeAt → ℕ → ℤ → Item
variable_array at name kind length_at length = tree.variable at (codes name) false kind (Some (record { at = length_at; value = length })) None

abbrev pub global : ℕ → String → TypeAt → Item
global at name kind = tree.variable at (codes name) true kind None None

abbrev pub global_first : ℕ → String → TypeAt → Const → Item
global_first at name kind first = tree.variable at (codes name) true kind None (Some first)

abbrev pub global_array : ℕ → String → TypeAt → ℕ → ℤ → Item
global_array at name kind length_at length = tree.variable at (codes name) true kind (Some (record { at = length_at; value = length })) None
