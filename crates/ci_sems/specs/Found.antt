-- Where a semaphore stands in the list.
use Rattle.std.specs.Prelude.{◌≡◌, ◌<◌, ℕ, ℤ, List, length, Option, None, Some, slice_get, slice_set}
use Rattle.std.specs.List.{remove}
use Rattle.ci_shared.specs.declared.object.Semaphore.{Semaphore}
use Rattle.ci_shared.specs.Semaphores.{semaphore_of, with_count, no_semaphore}

-- the semaphore of a number stands at this place, and a change of it is a change there
pub record Stands (h : ℤ) (xs : List Semaphore) (i : ℕ) : Type 0 where
  pub within : i < length xs
  pub semaphore : Semaphore
  pub at : slice_get xs i ≡ Some semaphore
  pub is : semaphore_of h xs ≡ Some semaphore
  pub counts : (n : ℕ) → with_count h n xs ≡ slice_set xs i (record semaphore { count = n })
  pub gone : no_semaphore h xs ≡ remove xs i

abbrev pub IsFoundAt : ℤ → List Semaphore → Option ℕ → Type 0
IsFoundAt h xs None = semaphore_of h xs ≡ None
IsFoundAt h xs (Some i) = Stands h xs i
