-- The faults of expressions: a small rule for each node.
use Rattle.std.specs.Prelude.{ℕ, Bool, true, false, not, ◌||◌, if◌then◌else◌, List, [], ◌∷◌, ◌++◌, Option, Some, None, is_none}
use Rattle.ci_base.specs.declared.value.Kind.{Kind}
use Rattle.ci_base.specs.declared.value.Kind.TheVariants.{Int, Str}
use Rattle.ci_tree.specs.declared.tree.Operator.{Operator}
use Rattle.ci_tree.specs.Tree as from
use Rattle.ci_tree.specs.Tree.{Expr, What, Links, Exprs}
use Rattle.ci_names.specs.declared.fault.BindKind.{BindKind}
use Rattle.ci_names.specs.declared.fault.BindKind.TheVariants as kinds
use Rattle.ci_names.specs.Fault.{Fault}
use Rattle.ci_names.specs.Given.{Taken, by_value, with_default, to_be_set, Called}
use Rattle.ci_names.specs.Scopes.{Scope, Meaning, scalar, array, only_function, nothing, meaning, callee}
use Rattle.ci_tree.specs.Operators.{has_kind, Joins, sums, compares, counts, joins, joined, formed}
use Rattle.ci_names.specs.Kinds.{takes_of, is_count, is_name_alone, kind_of}

-- the fault at this token, where the rule is broken
abbrev pub broken : Bool → Scope → ℕ → BindKind → List Fault
broken false s token kind = []
broken true s token kind = record { file = s.file; token = token; kind = kind } ∷ []

-- the part has a kind, and it is another one
abbrev pub differs : Kind → Option Kind → Bool
differs Int given = has_kind Str given
differs Str given = has_kind Int given

-- the parts have two kinds
abbrev pub differ : Option Kind → Option Kind → Bool
differ left None = false
differ left (Some kind) = differs kind left

-- the first token of an expression
abbrev pub start_of : Expr → ℕ
start_of (from.expr start at what) = start

-- an expression that is to have this kind
abbrev pub wants_kind : Scope → Kind → Expr → List Fault
wants_kind s kind e = broken (differs kind (kind_of s e)) s (start_of e) kinds.KindsDiffer

-- a name that stands alone
abbrev pub plain_name : Scope → ℕ → Meaning → List Fault
plain_name s at (scalar of kind) = []
plain_name s at (array a kind) = broken true s at kinds.IndexMissing
plain_name s at only_function = broken true s at kinds.NotAVariable
plain_name s at nothing = broken true s at kinds.NameUnknown

-- a name with an index
abbrev pub indexed_name : Scope → ℕ → Meaning → List Fault
indexed_name s at (scalar of kind) = broken true s at kinds.IndexOnScalar
indexed_name s at (array a kind) = []
indexed_name s at only_function = broken true s at kinds.NotAVariable
indexed_name s at nothing = broken true s at kinds.NameUnknown

abbrev pub is_variable : Meaning → Bool
is_variable (scalar of kind) = true
is_variable (array a kind) = true
is_variable only_function = false
is_variable nothing = false

-- a name that is called
abbrev pub called_name : Scope → ℕ → Option Called → Meaning → List Fault
called_name s at (Some called) variable = []
called_name s at None variable = broken true s at (if is_variable variable then kinds.NotAFunction else kinds.NameUnknown)

-- the number of arguments
abbrev pub argument_count : Scope → ℕ → Option Called → Exprs → List Fault
argument_count s at None args = []
argument_count s at (Some called) args = broken (not (is_count called.heading.takes args)) s at kinds.ArgumentCount

-- a call: its name and the number of its arguments
abbrev pub call_faults : Scope → ℕ → List ℕ → Exprs → List Fault
call_faults s at name args = called_name s at (callee s name) (meaning s name) ++ argument_count s at (callee s name) args

-- a call that is used for its value
abbrev pub call_value : Scope → ℕ → Option Called → List Fault
call_value s at None = []
call_value s at (Some called) = broken (is_none called.heading.gives) s at kinds.KindsDiffer

-- an argument where this is taken
abbrev pub argument : Scope → Taken → Expr → List Fault
argument s (by_value kind) e = wants_kind s kind e
argument s (with_default kind default) e = wants_kind s kind e
argument s (to_be_set kind) e = if is_name_alone e then wants_kind s kind e else broken true s (start_of e) kinds.NotAVariableArgument

-- the operands of an operator: one that takes INT alone tests each by itself, any other compares both
abbrev pub clash : Joins → Option Kind → Option Kind → Bool
clash sums left right = differ left right
clash compares left right = differ left right
clash counts left right = differs Int left || differs Int right

abbrev pub operation : Scope → ℕ → Operator → Option Kind → Option Kind → List Fault
operation s at op left right = broken (clash (joins op) left right) s at kinds.KindsDiffer

-- the operand of `-`, NOT or `:`
abbrev pub int_operand : Scope → ℕ → Option Kind → List Fault
int_operand s at operand = broken (differs Int operand) s at kinds.KindsDiffer

abbrev mutual
  -- all faults of an expression
  pub expr_faults : Scope → Expr → List Fault
  expr_faults s (from.expr start at what) = what_faults s at what

  pub what_faults : Scope → ℕ → What → List Fault
  what_faults s at (from.number value) = []
  what_faults s at (from.literal text) = []
  what_faults s at (from.name name) = plain_name s at (meaning s name)
  what_faults s at (from.element name index) = indexed_name s at (meaning s name) ++ wants_kind s Int index ++ expr_faults s index
  what_faults s at (from.call name args) = call_value s at (callee s name) ++ call_faults s at name args ++ args_faults s (takes_of (callee s name)) args
  what_faults s at (from.unary minus operand) = int_operand s at (kind_of s operand) ++ expr_faults s operand
  what_faults s at (from.chain first rest) = expr_faults s first ++ links_faults s (kind_of s first) rest

  -- behind members of a chain that have this kind
  pub links_faults : Scope → Option Kind → Links → List Fault
  links_faults s left from.no_link = []
  links_faults s left (from.operand at op right rest) =
      operation s at op left (kind_of s right) ++ expr_faults s right ++ links_faults s (joined (joins op) left (kind_of s right)) rest
  links_faults s left (from.hashes at count rest) = int_operand s at left ++ links_faults s (formed left) rest

  pub args_faults : Scope → List Taken → Exprs → List Fault
  args_faults s takes from.no_expr = []
  args_faults s [] (from.more first rest) = expr_faults s first ++ args_faults s [] rest
  args_faults s (taken ∷ takes) (from.more first rest) = argument s taken first ++ expr_faults s first ++ args_faults s takes rest
