-- The kinds of expressions. An expression in which a fault lies has none.
use Rattle.std.specs.Prelude.{Bool, true, false, ◌&&◌, ◌==◌, if◌then◌else◌, List, [], ◌∷◌, Option, Some, None}
use Rattle.ci_base.specs.declared.value.Kind.{Kind}
use Rattle.ci_base.specs.declared.value.Kind.TheVariants.{Int, Str}
use Rattle.ci_tree.specs.Operators.{has_kind, joins, joined, formed}
use Rattle.ci_tree.specs.Tree as from
use Rattle.ci_tree.specs.Tree.{Expr, What, Links, Exprs}
use Rattle.ci_names.specs.Given.{Taken, by_value, with_default, to_be_set, Called}
use Rattle.ci_names.specs.Scopes.{Scope, Meaning, scalar, array, only_function, nothing, meaning, callee}

-- the kind of a name that stands alone, and of one with an index
abbrev pub plain_kind : Meaning → Option Kind
plain_kind (scalar of kind) = Some kind
plain_kind (array a kind) = None
plain_kind only_function = None
plain_kind nothing = None

abbrev pub element_kind : Meaning → Option Kind
element_kind (scalar of kind) = None
element_kind (array a kind) = Some kind
element_kind only_function = None
element_kind nothing = None

-- what the called function takes
abbrev pub takes_of : Option Called → List Taken
takes_of None = []
takes_of (Some called) = called.heading.takes

abbrev pub gives_of : Option Called → Option Kind
gives_of None = None
gives_of (Some called) = called.heading.gives

abbrev pub may_be_left_out : Taken → Bool
may_be_left_out (by_value kind) = false
may_be_left_out (with_default kind default) = true
may_be_left_out (to_be_set kind) = false

-- there are as many arguments as can be: none too many, and those that are left out may be
abbrev pub is_count : List Taken → Exprs → Bool
is_count [] from.no_expr = true
is_count [] (from.more first rest) = false
is_count (taken ∷ takes) from.no_expr = may_be_left_out taken && is_count takes from.no_expr
is_count (taken ∷ takes) (from.more first rest) = is_count takes rest

-- a name alone, not in parentheses
abbrev pub is_name_alone : Expr → Bool
is_name_alone (from.expr start at (from.name name)) = start == at
is_name_alone (from.expr start at _) = false

-- an argument of this kind can stand where this is taken
abbrev pub is_taken : Taken → Expr → Option Kind → Bool
is_taken (by_value kind) arg given = has_kind kind given
is_taken (with_default kind default) arg given = has_kind kind given
is_taken (to_be_set kind) arg given = is_name_alone arg && has_kind kind given

abbrev mutual
  -- the kind of an expression, where it has one
  pub kind_of : Scope → Expr → Option Kind
  kind_of s (from.expr start at what) = what_kind s what

  pub what_kind : Scope → What → Option Kind
  what_kind s (from.number value) = Some Int
  what_kind s (from.literal text) = Some Str
  what_kind s (from.name name) = plain_kind (meaning s name)
  what_kind s (from.element name index) = if has_kind Int (kind_of s index) then element_kind (meaning s name) else None
  what_kind s (from.call name args) =
      if is_count (takes_of (callee s name)) args && are_taken s (takes_of (callee s name)) args then gives_of (callee s name) else None
  what_kind s (from.unary minus operand) = if has_kind Int (kind_of s operand) then Some Int else None
  what_kind s (from.chain first rest) = links_kind s (kind_of s first) rest

  -- the kind of a chain whose members so far have this kind
  pub links_kind : Scope → Option Kind → Links → Option Kind
  links_kind s left from.no_link = left
  links_kind s left (from.operand at op right rest) = links_kind s (joined (joins op) left (kind_of s right)) rest
  links_kind s left (from.hashes at count rest) = links_kind s (formed left) rest

  -- each argument can stand where it stands
  pub are_taken : Scope → List Taken → Exprs → Bool
  are_taken s takes from.no_expr = true
  are_taken s [] (from.more first rest) = false
  are_taken s (taken ∷ takes) (from.more first rest) = is_taken taken first (kind_of s first) && are_taken s takes rest
