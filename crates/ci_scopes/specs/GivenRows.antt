-- The functions that every project has, row by row.
use Rattle.ci_tree.specs.SeenBound.{callee_of}
use Rattle.ci_names.specs.Given.{Given}
use Rattle.ci_scopes.specs.declared.given.GivenAt.{GivenAt}
use Rattle.ci_scopes.specs.Values.{heading_of}

abbrev pub given_row : GivenAt → Given
given_row g = record { name = g.name.now; called = record { callee = callee_of g.callee; heading = heading_of g.heading } }
