-- What is left out at both ends.
use Rattle.std.specs.Prelude.{ℕ, Bool}
use Rattle.ci_base.specs.TextFunctions.{is_space, is_blank}
use Rattle.ci_literals.specs.declared.edge.Edge.{Edge}
use Rattle.ci_literals.specs.declared.edge.Edge.TheVariants.{Spaces, Blanks}

-- whether a byte is left out
abbrev pub leaves_out : Edge → ℕ → Bool
leaves_out Spaces = is_space
leaves_out Blanks = is_blank
