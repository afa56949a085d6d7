-- Why files have no project.
use Rattle.std.specs.Prelude.{◌≡◌, ◌<◌, List, length, Some}
use Rattle.ci_tree.specs.Tree.{Item}
use Rattle.ci_names.specs.declared.fault.BindFault.{BindFault}
use Rattle.ci_names.specs.declared.fault.BindFault.TheVariants as bind_faults
use Rattle.ci_names.specs.Faults.{first_fault}

-- the first fault of the files, in one of them; want of memory says nothing
abbrev pub IsRefusal : List (List Item) → BindFault → Type 0
IsRefusal files (bind_faults.Fault file token kind) = (first_fault files ≡ Some (record { file = file; token = token; kind = kind })) × (file < length files)
IsRefusal files bind_faults.Memory = Unit {0}
