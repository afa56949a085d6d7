-- Lists by the numbers of tasks, which count from 1.
use Rattle.std.specs.Prelude.{ℕ, zero, suc, List, Option, None, slice_get, slice_set}

-- the member of a task
abbrev pub at_task : {X : Type 0} → List X → ℕ → Option X
at_task xs zero = None
at_task xs (suc n) = slice_get xs n

-- the list with another member of a task
abbrev pub set_task : {X : Type 0} → List X → ℕ → X → List X
set_task xs zero x = xs
set_task xs (suc n) x = slice_set xs n x
