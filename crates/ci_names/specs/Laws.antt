-- Laws of names and kinds.
use Rattle.std.specs.Prelude.{◌≡◌, ◌≢◌, ℕ, ◌<◌, ◌≤◌, true, false, List, [], ◌∷◌, Some, None, slice_get, length, sum_by, All}
use Rattle.ci_base.specs.declared.bounds.TheConstants.{MOST_FILES, MOST_LEVELS, MOST_ROOM}
use Rattle.ci_base.specs.declared.value.Kind.{Kind}
use Rattle.ci_tree.specs.Tree.{Expr, Item}
use Rattle.ci_tree.specs.Grammar.{Tokens, derives}
use Rattle.ci_tree.specs.Bound.{Function, Project}
use Rattle.ci_tree.specs.Nodes as source
use Rattle.ci_tree.specs.BoundNodes as made
use Rattle.ci_tree.specs.Depth.{block_depth}
use Rattle.ci_tree.specs.Files.{IsFileTree}
use Rattle.ci_tree.specs.Projects.{IsProject}
use Rattle.ci_tree.specs.Rooms.{room}
use Rattle.ci_tree.specs.Sound.{is_sound}
use Rattle.ci_names.specs.Fault.{Fault, is_before, noted}
use Rattle.ci_names.specs.Declarations.{declared_in}
use Rattle.ci_names.specs.Scopes.{Scope}
use Rattle.ci_names.specs.Kinds.{kind_of}
use Rattle.ci_names.specs.Expressions.{expr_faults}
use Rattle.ci_names.specs.Faults.{declared_faults, faults, first_fault}
use Rattle.ci_names.specs.Binding.{binds}

-- no fault lies in an expression that has a kind
abbrev pub KindMeansNoFault : Type 0
KindMeansNoFault = (s : Scope) (e : Expr) (kind : Kind) → kind_of s e ≡ Some kind → expr_faults s e ≡ []

-- a fault lies in an expression that has none
abbrev pub NoKindMeansFault : Type 0
NoKindMeansFault = (s : Scope) (e : Expr) → kind_of s e ≡ None → expr_faults s e ≢ []

-- a project that files bind to keeps the limits, its numbers name what there is, and its kinds are right
abbrev pub BoundIsSound : Type 0
BoundIsSound = (files : List (List Item)) (project : Project) → binds files project → is_sound project ≡ true

-- the tree is derived from some tokens
abbrev pub IsDerived : List Item → Type 0
IsDerived items = (tokens : Tokens) × derives tokens items

-- each of these trees is
abbrev pub AreDerived : List (List Item) → Type 0
AreDerived [] = Unit {0}
AreDerived (items ∷ files) = IsDerived items × AreDerived files

-- the functions of a project that derived trees bind to have small rooms
abbrev pub RoomsAreSmall : Type 0
RoomsAreSmall =
    (files : List (List Item)) (project : Project) → AreDerived files → binds files project → (n : ℕ) (f : Function) → slice_get project.functions n ≡ Some f → room f ≤ MOST_ROOM

-- the functions of a project that derived trees bind to nest no deeper than their sources
abbrev pub NestingIsSmall : Type 0
NestingIsSmall = (files : List (List Item)) (project : Project) → AreDerived files → binds files project → All (λ (f : Function). block_depth f.body ≤ MOST_LEVELS) project.functions

-- a project has at most the nodes of the trees that bind to it
abbrev pub NodesAreFew : Type 0
NodesAreFew = (files : List (List Item)) (project : Project) → binds files project → made.nodes project ≤ sum_by source.nodes files

-- what the trees of as many files as there may be bind to is a project
abbrev pub BoundIsProject : Type 0
BoundIsProject = (files : List (List Item)) (project : Project) → length files ≤ MOST_FILES → All IsFileTree files → binds files project → IsProject project

-- these faults stand behind this one: it is before each, and none is before it
abbrev pub AreBehind : Fault → List Fault → Type 0
AreBehind f [] = Unit {0}
AreBehind f (g ∷ gs) = (is_before f g ≡ true) × (is_before g f ≡ false) × AreBehind f gs

abbrev pub AreInOrder : List Fault → Type 0
AreInOrder [] = Unit {0}
AreInOrder (f ∷ fs) = AreBehind f fs × AreInOrder fs

-- the list of all faults is in order, and none stands twice
abbrev pub FaultsAreInOrder : Type 0
FaultsAreInOrder = (files : List (List Item)) → AreInOrder (faults files)

-- the first fault is one that a rule finds, and no fault that a rule finds comes before it
abbrev pub FirstIsLeast : Type 0
FirstIsLeast =
    (files : List (List Item)) (f : Fault) → first_fault files ≡ Some f →
    ((n : ℕ) × (slice_get (declared_faults (declared_in files)) n ≡ Some f))
    × ((n : ℕ) (g : Fault) → slice_get (declared_faults (declared_in files)) n ≡ Some g → is_before f g ≡ true)

-- the first fault is found in one pass over what the rules find, which keeps the first so far
abbrev pub FirstIsNoted : Type 0
FirstIsNoted = (files : List (List Item)) → first_fault files ≡ noted None (declared_faults (declared_in files))

-- the fault stands in one of the files, and at a token of whatever tokens that file is derived from
abbrev pub NamesToken : List (List Item) → Fault → Type 0
NamesToken files f = (items : List Item) × (slice_get files f.file ≡ Some items) × ((tokens : Tokens) → derives tokens items → f.token < length tokens)

-- each fault of derived trees names a token of its file
abbrev pub FaultsNameTokens : Type 0
FaultsNameTokens = (files : List (List Item)) → AreDerived files → All (NamesToken files) (faults files)
