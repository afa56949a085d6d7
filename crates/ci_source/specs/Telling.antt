-- What is told of sources, read or refused.
use Rattle.std.specs.Prelude.{◌≡◌, ℕ, ◌<◌, ◌≤◌, List, [], length, map, Option, Some, slice_index_or}
use Rattle.ci_lexer.specs.declared.fault.LexFault.{LexFault}
use Rattle.ci_lexer.specs.declared.fault.LexFault.TheVariants as lex_faults
use Rattle.ci_names.specs.Binding.{binds}
use Rattle.ci_expressions.specs.declared.fault.ParseFault.{ParseFault}
use Rattle.ci_expressions.specs.declared.fault.ParseFault.TheVariants as parse_faults
use Rattle.ci_tree.specs.declared.token.Token.{Token}
use Rattle.ci_tree.specs.Refused.{unexpected, unexpected_end, too_deep}
use Rattle.ci_tree.specs.Seen.{items_of}
use Rattle.ci_tree.specs.SeenBound.{project_of}
use Rattle.ci_source.specs.declared.fault.Fault.{Fault}
use Rattle.ci_source.specs.declared.compiled.Compiled.{Compiled}
use Rattle.ci_source.specs.declared.telling.SourceFault.{SourceFault}
use Rattle.ci_source.specs.declared.telling.SourceFault.TheVariants as source_faults
use Rattle.ci_source.specs.Sources.{lexical_fault, grammar_fault}
use Rattle.ci_source.specs.Compiling.{parse_to, HasFirstFault}

-- these are the trees of the sources, and the project that they bind to
pub record ReadsTo (sources : List (List ℕ)) (compiled : Compiled) : Type 0 where
  pub parsed : parse_to sources (map items_of compiled.trees)
  pub bound : binds (map items_of compiled.trees) (project_of compiled.project)

-- the first fault of the sources, in one of them and at an offset within it; want of memory says nothing
abbrev pub IsRefusedAs : List (List ℕ) → SourceFault → Type 0
IsRefusedAs sources (source_faults.Refused file fault offset) =
    HasFirstFault sources file fault offset × (file < length sources) × (offset ≤ length (slice_index_or sources file []))
IsRefusedAs sources source_faults.Memory = Unit {0}

-- want of memory, or a fault of the source of this number, at an offset within it
abbrev pub IsToldOf : (List ℕ → Fault → ℕ → Type 0) → ℕ → List ℕ → SourceFault → Type 0
IsToldOf HasFault number source (source_faults.Refused file fault offset) = (file ≡ number) × HasFault source fault offset × (offset ≤ length source)
IsToldOf HasFault number source source_faults.Memory = Unit {0}

-- what is told of a lexical fault of the source of this number
abbrev pub LexTold : ℕ → LexFault → SourceFault → Type 0
LexTold number refused (source_faults.Refused file fault offset) = (file ≡ number) × (lexical_fault refused ≡ Some (fault, offset))
LexTold number refused source_faults.Memory = refused ≡ lex_faults.Memory

-- the fault names one of the tokens, if any
abbrev pub NamesToken : ParseFault → List Token → Type 0
NamesToken (parse_faults.Unexpected at) ts = at < length ts
NamesToken parse_faults.UnexpectedEnd ts = Unit {0}
NamesToken (parse_faults.TooDeep at) ts = at < length ts
NamesToken parse_faults.Memory ts = Unit {0}

-- this fault of the source of this number is told at this offset
abbrev pub Told : ℕ → Option (Fault × ℕ) → SourceFault → Type 0
Told number at (source_faults.Refused file fault offset) = (file ≡ number) × (at ≡ Some (fault, offset))
Told number at source_faults.Memory = ⊥

-- what is told of a refused token of the source of this number
abbrev pub ParseTold : ℕ → List ℕ → List Token → ParseFault → SourceFault → Type 0
ParseTold number source ts (parse_faults.Unexpected at) told = Told number (grammar_fault source ts (unexpected at)) told
ParseTold number source ts parse_faults.UnexpectedEnd told = Told number (grammar_fault source ts unexpected_end) told
ParseTold number source ts (parse_faults.TooDeep at) told = Told number (grammar_fault source ts (too_deep at)) told
ParseTold number source ts parse_faults.Memory told = told ≡ source_faults.Memory
