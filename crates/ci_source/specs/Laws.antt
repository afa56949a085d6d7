-- One meaning for sources, and always one.
use Rattle.std.specs.Prelude.{◌≡◌, ℕ, List, ◌⊎◌}
use Rattle.ci_source.specs.declared.fault.Fault.{Fault}
use Rattle.ci_source.specs.Compiling.{parse_to, compiles, HasFirstFault}
use Rattle.ci_tree.specs.Bound.{Project}
use Rattle.ci_tree.specs.Tree.{Item}

-- no sources have two first faults
abbrev pub HaveOneFirstFault : Type 0
HaveOneFirstFault =
    (sources : List (List ℕ)) (file file' : ℕ) (fault fault' : Fault) (offset offset' : ℕ) → HasFirstFault sources file fault offset → HasFirstFault sources file' fault' offset' →
    (file ≡ file') × (fault ≡ fault') × (offset ≡ offset')

-- no sources have a project and a fault
abbrev pub NeverBothMeanings : Type 0
NeverBothMeanings = (sources : List (List ℕ)) (project : Project) (file : ℕ) (fault : Fault) (offset : ℕ) → compiles sources project → HasFirstFault sources file fault offset → ⊥

-- no sources have two projects
abbrev pub HaveOneProject : Type 0
HaveOneProject = (sources : List (List ℕ)) (project project' : Project) → compiles sources project → compiles sources project' → project ≡ project'

-- no sources have two lists of trees
abbrev pub HaveOneTrees : Type 0
HaveOneTrees = (sources : List (List ℕ)) (trees trees' : List (List Item)) → parse_to sources trees → parse_to sources trees' → trees ≡ trees'

-- the sources have a project or a first fault
abbrev pub HasMeaning : List (List ℕ) → Type 0
HasMeaning sources =
    ((project : Project) × compiles sources project) ⊎ ((file : ℕ) × (fault : Fault) × (offset : ℕ) × HasFirstFault sources file fault offset)

-- all sources have a project or a first fault, however many there are
abbrev pub HaveMeanings : Type 0
HaveMeanings = (sources : List (List ℕ)) → HasMeaning sources
