-- The listing of code.
use Rattle.std.specs.Prelude.{ℕ, ◌+◌, List, [], ◌∷◌, ◌++◌, length, codes, decimal, option_map, slice_get, unwrap_or}
use Rattle.ci_base.specs.declared.layout.Head.{Head}
use Rattle.ci_code.specs.declared.instruction.Step.{Step}
use Rattle.ci_code.specs.declared.raw.RawFunction.{RawFunction}
use Rattle.ci_code.specs.declared.raw.RawParts.{RawParts}
use Rattle.ci_listing.specs.Instructions.{instruction_name, operand}

-- the texts of the members, each with its number, from this number on
abbrev pub numbered : {A : Type 0} → (ℕ → A → List ℕ) → ℕ → List A → List ℕ
numbered text n [] = []
numbered text n (x ∷ xs) = text n x ++ numbered text (n + 1) xs

-- a step: its place, its name, its operand
unfoldable pub step_line : List (List ℕ) → ℕ → Step → List ℕ
step_line texts p step = decimal p ++ codes " " ++ instruction_name step.what ++ operand texts step.what ++ codes "\n"

-- the name of the function of that number
abbrev pub name_of : RawParts → ℕ → List ℕ
name_of code f = unwrap_or (option_map (λ (head : Head). head.name) (slice_get code.layout.functions f)) []

-- the first line of a function
unfoldable pub function_line : RawParts → ℕ → RawFunction → List ℕ
function_line code f function =
    codes "function " ++ decimal f ++ codes " " ++ name_of code f ++ codes " locals " ++ decimal (length function.locals) ++ codes " room " ++ decimal function.room ++ codes "\n"

-- and its steps
abbrev pub function_text : RawParts → ℕ → RawFunction → List ℕ
function_text code f function = function_line code f function ++ numbered (step_line code.texts) 0 function.steps

-- each function, one after another
abbrev pub listing : RawParts → List ℕ
listing code = numbered (function_text code) 0 code.functions
