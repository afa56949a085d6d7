-- What contracts see of a history.
use Rattle.std.specs.Prelude.{ℕ, List}
use Rattle.ci_base.specs.declared.entry.Entry.{Entry}

-- the entries of a history, and how many there can be
pub record RoomyHistory : Type 0 where
  pub entries : List Entry
  pub room : ℕ
