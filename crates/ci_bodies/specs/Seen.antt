-- What values of the code mean, as definitions speak of them.
use Rattle.ci_tree.specs.Operators.{Joins, sums, compares, counts}
use Rattle.ci_bodies.specs.declared.kinds.Joining as code_joins
use Rattle.ci_bodies.specs.declared.kinds.Joining.TheVariants as joining

-- which kinds an operator joins
abbrev pub joins_of : code_joins.Joining → Joins
joins_of joining.Sums = sums
joins_of joining.Compares = compares
joins_of joining.Counts = counts
