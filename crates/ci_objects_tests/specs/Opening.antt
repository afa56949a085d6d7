-- Numbers of objects.
use Rattle.std.specs.Prelude.{ℤ, pos, ◌≤ℤ◌, ◌<ℤ◌, List}
use Rattle.std.specs.List.{All}
use Rattle.ci_shared.specs.declared.object.Semaphore.{Semaphore}
use Rattle.ci_shared.specs.Queues.{Queue}

-- the next number is one, and is above those of the objects
unfoldable pub IsBelow : {X : Type 0} → (X → ℤ) → ℤ → List X → Type 0
IsBelow number next xs = (pos 1 ≤ℤ next) × All (λ x. number x <ℤ next) xs

abbrev pub queue_number : Queue → ℤ
queue_number x = x.number

abbrev pub semaphore_number : Semaphore → ℤ
semaphore_number x = x.number
