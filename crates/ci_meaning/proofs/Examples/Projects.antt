-- Short forms for bound projects, and the requests that a task makes.
use Rattle.std.specs.Prelude.{ℕ, zero, suc, ◌+◌, ℤ, pos, List, [], ◌∷◌, length, map, Option, None, codes, true}
use Rattle.ci_base.specs.declared.function.PrivateName.{PrivateName}
use Rattle.ci_base.specs.declared.function.SharedName.{SharedName}
use Rattle.ci_base.specs.declared.function.SharedName.TheVariants as requests_made
use Rattle.ci_base.specs.declared.reply.Answer.{Answer}
use Rattle.ci_base.specs.declared.reply.Extra.TheVariants as extras
use Rattle.ci_base.specs.declared.request.Request.{Request}
use Rattle.ci_base.specs.declared.value.Kind.{Kind}
use Rattle.ci_base.specs.declared.value.Value.TheVariants.{Int, Str}
use Rattle.ci_tree.specs.declared.tree.Operator.{Operator}
use Rattle.ci_base.specs.Values.{first_of_kind}
use Rattle.ci_base.specs.Steps.{tick, quiet, asks, stuck}
use Rattle.ci_tree.specs.Bound as to
use Rattle.ci_tree.specs.Bound.{Expr, Call, Stmt, Array, Function, Project, exprs_from, block_from}
use Rattle.ci_meaning.specs.Configuration.{Configuration, opening}
use Rattle.ci_meaning.specs.Meaning.{next, resume}

-- the requests of a task that has made so many ticks since the last one, each with its ticks, where they get these answers
abbrev pub requests : ℕ → Project → ℕ → Configuration → List Answer → List (ℕ × Request)
requests zero p k c answers = []
requests (suc n) p k c answers = elim (next p c) [
  | tick d ↦ requests n p (k + 1) d answers
  | quiet d ↦ requests n p k d answers
  | asks q ↦ (k, q) ∷ elim answers [ [] ↦ [] | a ∷ rest ↦ requests n p 0 (resume c a) rest ]
  | stuck ↦ []
]

-- those of the first function of a project, within a thousand private steps between its start and its end
abbrev pub asked : Project → List Answer → List (ℕ × Request)
asked p answers = requests 1000 p 0 (opening p 0 []) answers

-- answers: an INT with a code, a text, an element of a queue
abbrev pub coded : ℤ → ℕ → Answer
coded n code = record { value = Int n; code = code; extra = extras.Nothing }

abbrev pub fine : Answer
fine = coded (pos 0) 0

abbrev pub text : List ℕ → Answer
text s = record { value = Str s; code = 0; extra = extras.Nothing }

abbrev pub element : ℤ → List ℕ → Answer
element n s = record { value = Int (pos 0); code = 0; extra = extras.Element n s }

-- expressions
abbrev pub int : ℕ → Expr
int n = to.number (pos n)

abbrev pub str : List ℕ → Expr
str s = to.literal s

abbrev pub local : ℕ → Expr
local i = to.scalar (to.local i)

abbrev pub cell : ℕ → Expr
cell c = to.scalar (to.cell c)

abbrev pub private : PrivateName → List Expr → Expr
private q args = to.called (to.call (to.private q) (length args) (exprs_from args))

abbrev pub shared : SharedName → List Expr → Call
shared q args = to.call (to.shared q) (length args) (exprs_from args)

-- projects
abbrev pub function : List Kind → List Kind → Option Kind → List Stmt → Function
function takes others gives body = record {
  file = 0;
  name = codes "F";
  public = true;
  gives = gives;
  params = map (λ kind. record { kind = kind; first = None }) takes;
  others = others;
  body = block_from body;
}

-- a project of one function without parameters, with these locals
abbrev pub alone : List Kind → List Stmt → Project
alone others body = record { functions = function [] others None body ∷ []; cells = []; arrays = []; globals = [] }

-- two operands with an operator between them
abbrev pub two : Expr → Operator → Expr → Expr
two a op b = to.chain a (to.operand op b to.no_link)

-- TraceMsg of a text
abbrev pub say : List ℕ → Stmt
say s = to.call_of 0 (shared requests_made.Trace (str s ∷ []))

-- the same with shared cells of these kinds, and arrays
abbrev pub sharing : List Kind → List Array → List Kind → List Stmt → Project
sharing kinds arrays others body = record {
  functions = function [] others None body ∷ [];
  cells = map (λ kind. record { kind = kind; first = first_of_kind kind }) kinds;
  arrays = arrays;
  globals = [];
}
