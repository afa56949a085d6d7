-- The scalars that a call of QueRead sets.
use Rattle.std.specs.Prelude.{Option, Some, None}
use Rattle.ci_tree.specs.Bound.{Scalar, Expr, number, literal, scalar, element, called, unary, chain, Exprs, no_expr, more}

-- the scalar that an expression is, if it is one
abbrev pub as_scalar : Expr → Option Scalar
as_scalar (number value) = None
as_scalar (literal text) = None
as_scalar (scalar of) = Some of
as_scalar (element a index) = None
as_scalar (called what) = None
as_scalar (unary minus operand) = None
as_scalar (chain first rest) = None

abbrev pub both : Option Scalar → Option Scalar → Option (Scalar × Scalar)
both (Some sort) (Some text) = Some (sort, text)
both (Some sort) None = None
both None text = None

-- the second and the third of four arguments, if both are scalars
abbrev pub set_scalars : Exprs → Option (Scalar × Scalar)
set_scalars (more queue (more sort (more text (more mode no_expr)))) = both (as_scalar sort) (as_scalar text)
set_scalars _ = None
