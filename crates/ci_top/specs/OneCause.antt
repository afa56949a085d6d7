-- An order has one cause.
use Rattle.std.specs.Prelude.{◌≡◌, ℕ, Bool, true, false, ◌||◌, List, Option, Some, IsTrue, ◌⊎◌}
use Rattle.ci_outside.specs.Causes.{Rose}
use Rattle.ci_outside.specs.Shelf.{Files}
use Rattle.ci_world.specs.World.{Origin}
use Rattle.ci_top.specs.Answers.{Kept, Cause, words_refused, workers_refused, order_not_built, not_fetched, source_refused, script_refused, checked, listed, no_memory, ran, Holds}

abbrev pub is_memory : Cause → Bool
is_memory (words_refused fault) = false
is_memory (workers_refused index) = false
is_memory order_not_built = false
is_memory (not_fetched fault number file) = false
is_memory (source_refused name source fault offset) = false
is_memory (script_refused fault) = false
is_memory checked = false
is_memory (listed project) = false
is_memory no_memory = true
is_memory (ran size origin instructions) = false

-- Both tell a run of one origin, and have kept the same history, loose ticks and ending.
pub record IsOneRun (kept kept' : Kept) (cause other : Cause) : Type 0 where
  pub size : Option ℕ
  pub origin : Origin
  pub instructions : ℕ
  pub others : ℕ
  pub one : cause ≡ ran size origin instructions
  pub two : other ≡ ran size origin others
  pub kept_same : kept ≡ kept'

-- the causes are the same, or one of them is want of memory, or both are one run
abbrev pub Agree : Kept → Kept → Cause → Cause → Type 0
Agree kept kept' cause other = (cause ≡ other) ⊎ (IsTrue (is_memory cause || is_memory other) ⊎ IsOneRun kept kept' cause other)

-- Over a shelf that tells its files and whose faults don't rise, two causes that hold of the same words agree. So each answer
-- comes exactly where its cause holds, but for want of memory.
abbrev pub OneCause : Type 0
OneCause =
    (words : List (List ℕ)) (files : Files) (before now : ℕ) (kept kept' : Kept) (cause other : Cause)
    → (Rose before now → ⊥) → Holds words (Some files) before now kept cause → Holds words (Some files) before now kept' other
    → Agree kept kept' cause other
