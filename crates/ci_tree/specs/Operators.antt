-- Which kinds operators join.
use Rattle.std.specs.Prelude.{Bool, true, false, if◌then◌else◌, Option, Some, None}
use Rattle.ci_base.specs.declared.value.Kind.{Kind}
use Rattle.ci_base.specs.declared.value.Kind.TheVariants.{Int, Str}
use Rattle.ci_tree.specs.declared.tree.Operator.{Operator}
use Rattle.ci_tree.specs.declared.tree.Operator.TheVariants as operator

-- both are the same kind
abbrev pub same_kind : Kind → Kind → Bool
same_kind Int Int = true
same_kind Int Str = false
same_kind Str Int = false
same_kind Str Str = true

-- the part has this kind
abbrev pub has_kind : Kind → Option Kind → Bool
has_kind kind None = false
has_kind kind (Some other) = same_kind kind other

-- which kinds an operator joins
pub data Joins : Type 0 where
  -- two of one kind, to that kind
  sums : Joins
  -- two of one kind, to an INT
  compares : Joins
  -- two INT, to an INT
  counts : Joins

abbrev pub joins : Operator → Joins
joins operator.Plus = sums
joins operator.Equal = compares
joins operator.Unequal = compares
joins operator.Less = compares
joins operator.Greater = compares
joins operator.AtMost = compares
joins operator.AtLeast = compares
joins operator.BitAnd = counts
joins operator.BitOr = counts
joins operator.BitXor = counts
joins operator.Or = counts
joins operator.And = counts
joins operator.Minus = counts
joins operator.Times = counts
joins operator.Over = counts
joins operator.Mod = counts

-- the kind of two operands with the operator between them
abbrev pub joined : Joins → Option Kind → Option Kind → Option Kind
joined sums (Some Int) (Some Int) = Some Int
joined sums (Some Str) (Some Str) = Some Str
joined sums _ _ = None
joined compares (Some Int) (Some Int) = Some Int
joined compares (Some Str) (Some Str) = Some Int
joined compares _ _ = None
joined counts (Some Int) (Some Int) = Some Int
joined counts _ _ = None

-- `:` makes the text of a number
abbrev pub formed : Option Kind → Option Kind
formed kind = if has_kind Int kind then Some Str else None
