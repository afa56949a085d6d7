-- Arguments that are left out. A source may leave out the last arguments of a call, and values that what is called has for
-- them stand in their place.
use Rattle.std.specs.Prelude.{ℕ, suc, List, [], ◌∷◌, map, drop, Option, Some, None, slice_get}
use Rattle.ci_base.specs.declared.value.Value.{Value}
use Rattle.ci_base.specs.declared.value.Value.TheVariants as values
use Rattle.ci_base.specs.declared.function.SharedName.{SharedName}
use Rattle.ci_base.specs.declared.function.SharedName.TheVariants as requests
use Rattle.ci_tree.specs.Bound as to
use Rattle.ci_tree.specs.Bound.{Callee, Expr, Exprs, Call, Param}

-- the parameters of each function of a project
abbrev pub Heads : Type 0
Heads = List (List Param)

abbrev pub firsts_of : Option (List Param) → List (Option Value)
firsts_of None = []
firsts_of (Some params) = map (λ (p : Param). p.first) params

-- the name of TaskHnd may be left out, and is then empty
abbrev pub shared_firsts : SharedName → List (Option Value)
shared_firsts requests.TaskHnd = Some (values.Str []) ∷ []
shared_firsts _ = []

-- the values for the arguments of what is called, each where its argument may be left out; behind the last of the list none may
abbrev pub firsts : Heads → Callee → List (Option Value)
firsts heads (to.function f) = firsts_of (slice_get heads f)
firsts heads (to.private p) = []
firsts heads (to.shared q) = shared_firsts q

-- a value that stands in the source's place
abbrev pub constant : Value → Expr
constant (values.Int n) = to.number n
constant (values.Str text) = to.literal text

-- these values, as arguments
abbrev pub constants : List (Option Value) → Exprs
constants [] = to.no_expr
constants (None ∷ values) = constants values
constants ((Some value) ∷ values) = to.more (constant value) (constants values)

-- the number of arguments
abbrev pub count_of : Exprs → ℕ
count_of to.no_expr = 0
count_of (to.more first rest) = suc (count_of rest)

-- arguments, and others behind them
abbrev pub followed : Exprs → Exprs → Exprs
followed to.no_expr behind = behind
followed (to.more first rest) behind = to.more first (followed rest behind)

-- the values for the arguments behind so many
abbrev pub left_out : Heads → Callee → ℕ → Exprs
left_out heads callee given = constants (drop given (firsts heads callee))

-- a call with these arguments in the source
unfoldable pub call_given : Heads → Callee → Exprs → Call
call_given heads callee args = to.call callee (count_of args) (followed args (left_out heads callee (count_of args)))
