-- What holds of how long the code of a bound project is.
use Rattle.std.specs.Prelude.{◌<◌, ◌^◌, length}
use Rattle.ci_translation.specs.Translation.{drafts}
use Rattle.ci_tree.specs.declared.bound.ProjectParts.{ProjectParts}
use Rattle.ci_tree.specs.Projects.{IsProject}
use Rattle.ci_tree.specs.SeenBound.{project_of}

-- a word of 32 bits holds the number of all its places
abbrev pub CodeIsShort : Type 0
CodeIsShort = (parts : ProjectParts) → IsProject (project_of parts) → length (drafts (project_of parts)) < 2 ^ 32
