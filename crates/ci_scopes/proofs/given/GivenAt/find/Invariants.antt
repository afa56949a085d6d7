use Rattle.std.proofs.Common.{◌≡◌, map, drop, find}
use Rattle.std.specs.Str.{str_eq_ignore_ascii_case}
use Rattle.ci_names.specs.Given.{Given}
use Rattle.ci_scopes.specs.GivenRows.{given_row}
use Rattle.ci_scopes.proofs.given.GivenAt.find.Given as goal

-- the first is among those that are left
abbrev pub invariant-loop-row : goal.invariant-loop-row
invariant-loop-row l =
    find (λ (g : Given). str_eq_ignore_ascii_case g.name l.name) (map given_row (drop l.row-index l.rows)) ≡ find (λ (g : Given). str_eq_ignore_ascii_case g.name l.name) (map given_row l.rows)
