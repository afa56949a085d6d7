-- What holds for a run where the words don't say otherwise.
use Rattle.std.specs.Prelude.{ℕ, List, [], ◌∷◌, codes}

-- the script: a task is started from Main, without arguments
abbrev pub default_script : List ℕ
default_script = codes "run Main()"

-- the script that is given, or the default
abbrev pub script_of : List (List ℕ) → List ℕ
script_of [] = default_script
script_of (script ∷ rest) = script
