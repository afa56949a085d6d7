-- The first fault of several parts.
use Rattle.std.specs.Prelude.{[], ◌∷◌, Option, Some, None}
use Rattle.ci_names.specs.declared.fault.Fault.{Fault}
use Rattle.ci_names.specs.Fault.{noted}

-- the first of a fault that was found before, if any, and of the first fault of a part, if it has one
abbrev pub merged : Option Fault → Option Fault → Option Fault
merged found None = found
merged found (Some fault) = noted found (fault ∷ [])
