-- Faults, and their order.
use Rattle.std.specs.Prelude.{ℕ, Bool, ◌&&◌, ◌||◌, nat_lt, nat_le, ◌==◌, if◌then◌else◌, List, [], ◌∷◌, Option, Some, None}
use Rattle.ci_names.specs.declared.fault.BindKind.{BindKind}
use Rattle.ci_names.specs.declared.fault.BindKind.TheVariants as kinds
pub use Rattle.ci_names.specs.declared.fault.Fault.{Fault}

-- the kinds in their order
abbrev pub kind_number : BindKind → ℕ
kind_number kinds.DeclaredTwice = 1
kind_number kinds.NameUnknown = 2
kind_number kinds.NotAFunction = 3
kind_number kinds.NotAVariable = 4
kind_number kinds.KindsDiffer = 5
kind_number kinds.ArgumentCount = 6
kind_number kinds.NotAVariableArgument = 7
kind_number kinds.ReturnValue = 8
kind_number kinds.IndexMissing = 9
kind_number kinds.IndexOnScalar = 10
kind_number kinds.TypeOutOfScope = 11
kind_number (kinds.Limit limit) = 12

-- the first stands before the second, or at the same place: by file, then by token, then by kind
abbrev pub is_before : Fault → Fault → Bool
is_before f g =
    nat_lt f.file g.file
    || (f.file == g.file && (nat_lt f.token g.token || (f.token == g.token && nat_le (kind_number f.kind) (kind_number g.kind))))

-- a fault among faults in order; one that is there already isn't added
abbrev pub placed : Fault → List Fault → List Fault
placed f [] = f ∷ []
placed f (g ∷ gs) = if is_before f g then (if is_before g f then g ∷ gs else f ∷ g ∷ gs) else g ∷ placed f gs

-- the faults in order, each once
abbrev pub sorted : List Fault → List Fault
sorted [] = []
sorted (f ∷ fs) = placed f (sorted fs)

-- the first of a fault that was found before, if any, and of this one
abbrev pub first_of : Option Fault → Fault → Fault
first_of None f = f
first_of (Some g) f = if is_before f g then f else g

-- the first of a fault that was found before, if any, and of these
abbrev pub noted : Option Fault → List Fault → Option Fault
noted found [] = found
noted found (f ∷ fs) = noted (Some (first_of found f)) fs
