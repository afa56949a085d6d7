use Rattle.std.proofs.Common.{◌≡◌, ◌++◌, map, take}
use Rattle.ci_scopes.specs.GivenRows.{given_row}
use Rattle.ci_scopes.specs.Spelling.{private_given}
use Rattle.ci_scopes.proofs.given.GivenAt.add_privates.Given as goal

abbrev pub invariant-loop-of : goal.invariant-loop-of
invariant-loop-of l = map given_row l.rows.items ≡ map given_row l.initial.rows.items ++ map private_given (take l.of-index l.names)
