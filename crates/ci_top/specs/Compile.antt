-- What `compile` gives of sources.
use Rattle.std.specs.Prelude.{◌≡◌, ℕ, ◌≤◌, List, length, All, Some, slice_get}
use Rattle.ci_base.specs.Places.{place}
use Rattle.ci_base.specs.declared.bounds.TheConstants.{MOST_FILES, MOST_SOURCE_BYTES}
use Rattle.ci_source.specs.declared.fault.Fault.{Fault}
use Rattle.ci_source.specs.Compiling.{HasFirstFault}
use Rattle.ci_top.specs.declared.compiling.CompileFault.{CompileFault}
use Rattle.ci_top.specs.declared.compiling.CompileFault.TheVariants as faults

-- they are few and short enough
pub record AreSources (sources : List (List ℕ)) : Type 0 where
  pub few : length sources ≤ MOST_FILES
  pub within : All (λ (source : List ℕ). length source ≤ MOST_SOURCE_BYTES) sources

-- the first fault of sources, at this line and column of the source of this number
pub record IsFirstAt (sources : List (List ℕ)) (file line column : ℕ) (fault : Fault) : Type 0 where
  pub offset : ℕ
  pub source : List ℕ
  pub source_is : slice_get sources file ≡ Some source
  pub refused : HasFirstFault sources file fault offset
  pub at : place source offset ≡ record { line = line; column = column }

-- the fault is the sources' first, at its place; want of memory says nothing
abbrev pub IsFaultOf : List (List ℕ) → CompileFault → Type 0
IsFaultOf sources (faults.Fault file line column fault) = IsFirstAt sources file line column fault
IsFaultOf sources faults.Memory = Unit {0}
