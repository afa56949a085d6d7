-- What contracts see of a shelf and a sink in memory.
use Rattle.std.specs.Prelude.{ℕ, List, map}
use Rattle.std.specs.FinMap.{from_entries}
use Rattle.ci_outside.specs.Shelf.{Files}
use Rattle.ci_outside.specs.declared.files.NamedFile.{NamedFile}

-- the contents by their names; the first file of a name counts
abbrev pub by_name : List NamedFile → Files
by_name files = from_entries (map (λ file. (file.name, file.content)) files)

-- a shelf in memory: its files, the numbers of the fetches that fail, how many fetches there were, and how many faults
pub record MemoryShelf : Type 0 where
  pub files : List NamedFile
  pub failing : List ℕ
  pub fetches : ℕ
  pub faults : ℕ

-- a sink in memory: its bytes, the most that a put takes, the numbers of the puts that fail, how many puts there were, and how many faults
pub record MemorySink : Type 0 where
  pub bytes : List ℕ
  pub most : ℕ
  pub failing : List ℕ
  pub puts : ℕ
  pub faults : ℕ
