-- Lines and columns.
use Rattle.std.specs.Prelude.{ℕ, ◌+◌, List, take, length, count_by, reverse, take_while, not, ◌==◌}
use Rattle.ci_base.specs.declared.position.Position.{Position}

-- the line: 1, and one more for each LF before the offset
abbrev pub line : List ℕ → ℕ → ℕ
line source offset = 1 + count_by (λ b. b == 10) (take offset source)

-- the column: 1, and one more for each byte before the offset behind the last LF there
abbrev pub column : List ℕ → ℕ → ℕ
column source offset = 1 + length (take_while (λ b. not (b == 10)) (reverse (take offset source)))

-- the line and the column of an offset
abbrev pub place : List ℕ → ℕ → Position
place source offset = record { line = line source offset; column = column source offset }
