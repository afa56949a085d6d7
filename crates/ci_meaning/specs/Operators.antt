-- What operators give.
use Rattle.std.specs.Prelude.{ℤ, Bool, true, false, Ok}
use Rattle.ci_base.specs.declared.relation.Relation.{Relation}
use Rattle.ci_base.specs.declared.relation.Relation.TheVariants as relation
use Rattle.ci_base.specs.declared.value.Value.{Value}
use Rattle.ci_base.specs.declared.value.Value.TheVariants.{Int, Str}
use Rattle.ci_base.specs.Arithmetic.{sum, difference, product, negation, quotient, remainder, conjunction, disjunction, inversion, common_bits, joint_bits, differing_bits}
use Rattle.ci_base.specs.Comparisons.{holds}
use Rattle.ci_base.specs.TextFunctions.{joined, formatted}
use Rattle.ci_base.specs.Values.{Outcome, refused, truth}
use Rattle.ci_tree.specs.declared.tree.Operator.{Operator}
use Rattle.ci_tree.specs.declared.tree.Operator.TheVariants as op
use Rattle.std.specs.Prelude.{ℕ}

abbrev pub compared : Relation → Value → Value → Outcome
compared relation u v = Ok (Int (truth (holds relation u v)))

-- two INTs with an operator between them that takes INTs alone, or `+`
abbrev pub counted : Operator → ℤ → ℤ → Outcome
counted op.Plus a b = Ok (Int (sum a b))
counted op.Minus a b = Ok (Int (difference a b))
counted op.Times a b = Ok (Int (product a b))
counted op.Over a b = quotient a b
counted op.Mod a b = remainder a b
counted op.And a b = Ok (Int (conjunction a b))
counted op.Or a b = Ok (Int (disjunction a b))
counted op.BitAnd a b = Ok (Int (common_bits a b))
counted op.BitOr a b = Ok (Int (joint_bits a b))
counted op.BitXor a b = Ok (Int (differing_bits a b))
counted _ a b = refused

-- two texts with an operator between them that is no comparison
abbrev pub spliced : Operator → Value → Value → Outcome
spliced op.Plus (Str a) (Str b) = joined a b
spliced _ _ _ = refused

-- two values with an operator between them that is no comparison
abbrev pub worked : Operator → Value → Value → Outcome
worked o (Int a) (Int b) = counted o a b
worked o u v = spliced o u v

-- two values with an operator between them
abbrev pub operate : Operator → Value → Value → Outcome
operate op.Equal u v = compared relation.Equal u v
operate op.Unequal u v = compared relation.Unequal u v
operate op.Less u v = compared relation.Less u v
operate op.Greater u v = compared relation.Greater u v
operate op.AtMost u v = compared relation.AtMost u v
operate op.AtLeast u v = compared relation.AtLeast u v
operate o u v = worked o u v

-- `-` where minus, else NOT; a text stays, and no project that compiles has this
abbrev pub turned : Bool → Value → Value
turned true (Int n) = Int (negation n)
turned false (Int n) = Int (inversion n)
turned _ v = v

-- `:` with so many hashes
abbrev pub form : ℕ → Value → Outcome
form count (Int n) = formatted n count
form count v = refused
