-- From several sources to their project, or to their first fault. Files are numbered from 0.
use Rattle.std.specs.Prelude.{◌≡◌, ℕ, List, length, take, All, Some, option_map, unwrap_or, slice_get, ◌⊎◌}
use Rattle.std.specs.List.{AllZip}
use Rattle.ci_names.specs.Binding.{binds}
use Rattle.ci_names.specs.declared.fault.Fault.{Fault as NameFault}
use Rattle.ci_names.specs.Faults.{first_fault}
use Rattle.ci_source.specs.declared.fault.Fault.{Fault}
use Rattle.ci_source.specs.Faults.{name_fault}
use Rattle.ci_source.specs.Sources.{Parses, HasLexicalFault, HasGrammarFault}
use Rattle.ci_tree.specs.declared.token.Token.{Token}
use Rattle.ci_tree.specs.Bound.{Project}
use Rattle.ci_tree.specs.Tokens.{tokens}
use Rattle.ci_tree.specs.Tree.{Item}

-- the sources have these trees, each its own
abbrev pub parse_to : List (List ℕ) → List (List Item) → Type 0
parse_to sources trees = AllZip Parses sources trees

-- the sources have trees, and these bind to the project
abbrev pub compiles : List (List ℕ) → Project → Type 0
compiles sources project = (trees : List (List Item)) × parse_to sources trees × binds trees project

abbrev pub HasTokens : List ℕ → Type 0
HasTokens source = (ts : List Token) × tokens source ts

abbrev pub HasTree : List ℕ → Type 0
HasTree source = (tree : List Item) × Parses source tree

-- the source of this number has a lexical fault, and each before it has tokens
pub record HasFirstLexicalFault (sources : List (List ℕ)) (file : ℕ) (fault : Fault) (offset : ℕ) : Type 0 where
  pub source : List ℕ
  pub numbered : slice_get sources file ≡ Some source
  pub before : All HasTokens (take file sources)
  pub refused : HasLexicalFault source fault offset

-- all sources have tokens; the source of this number has a fault of grammar, and each before it has a tree
pub record HasFirstGrammarFault (sources : List (List ℕ)) (file : ℕ) (fault : Fault) (offset : ℕ) : Type 0 where
  pub source : List ℕ
  pub numbered : slice_get sources file ≡ Some source
  pub lexed : All HasTokens sources
  pub before : All HasTree (take file sources)
  pub refused : HasGrammarFault source fault offset

-- where the token of this index stands in a source; its end, where there is none
abbrev pub token_offset : List ℕ → List Token → ℕ → ℕ
token_offset source ts i = unwrap_or (option_map (λ t. t.place) (slice_get ts i)) (length source)

-- all sources have trees, and this is the first fault of their names and kinds
pub record HasFirstNameFault (sources : List (List ℕ)) (file : ℕ) (fault : Fault) (offset : ℕ) : Type 0 where
  pub trees : List (List Item)
  pub parsed : parse_to sources trees
  pub first : NameFault
  pub holds : first_fault trees ≡ Some first
  pub source : List ℕ
  pub numbered : slice_get sources first.file ≡ Some source
  pub ts : List Token
  pub tokens_are : tokens source ts
  pub told : (file ≡ first.file) × (fault ≡ name_fault first.kind) × (offset ≡ token_offset source ts first.token)

-- the first fault of the sources: by phase, then by file, then by offset
abbrev pub HasFirstFault : List (List ℕ) → ℕ → Fault → ℕ → Type 0
HasFirstFault sources file fault offset =
    HasFirstLexicalFault sources file fault offset ⊎ (HasFirstGrammarFault sources file fault offset ⊎ HasFirstNameFault sources file fault offset)
