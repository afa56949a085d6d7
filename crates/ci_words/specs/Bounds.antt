use Rattle.std.specs.Prelude.{◌≡◌, ◌<◌, ◌≤◌, ℕ, true, IsSome, IfSome, List, length, All}
use Rattle.ci_base.specs.declared.bounds.TheConstants.{LEAST_BUDGET, LEAST_SLICE, MOST_BUDGET, MOST_FILES, MOST_SLICE, MOST_WORKERS}
use Rattle.ci_words.specs.declared.command.Command.TheVariants as commands
use Rattle.ci_words.specs.declared.number.TheConstants.{MOST_SIZE}
use Rattle.ci_words.specs.declared.order.Order.{Order}
use Rattle.ci_words.specs.Command.{takes_files}

-- What words ask for: each index is that of a word, what the command needs is there, and each number is within its bounds.
pub record IsInBounds (words : List (List ℕ)) (order : Order) : Type 0 where
  pub files : All (λ at. at < length words) order.files
  pub most_files : length order.files ≤ MOST_FILES
  pub some_file : takes_files order.command ≡ true → 0 < length order.files
  pub script : IfSome order.script (λ at. at < length words)
  pub journal : IfSome order.journal (λ at. at < length words)
  pub some_journal : order.command ≡ commands.Replay → IsSome order.journal
  pub number : order.command ≡ commands.Make → (1 ≤ order.number) × (order.number ≤ MOST_SIZE)
  pub slice : (LEAST_SLICE ≤ order.limits.slice) × (order.limits.slice ≤ MOST_SLICE)
  pub budget : (LEAST_BUDGET ≤ order.limits.budget) × (order.limits.budget ≤ MOST_BUDGET)
  pub workers : order.limits.workers ≤ MOST_WORKERS
  pub slice_at : IfSome order.slice_at (λ at. at < length words)
  pub budget_at : IfSome order.budget_at (λ at. at < length words)
  pub workers_at : IfSome order.workers_at (λ at. at < length words)
  pub some_workers_at : 0 < order.limits.workers → IsSome order.workers_at
