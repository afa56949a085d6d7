-- The larger of two numbers.
use Rattle.std.specs.Prelude.{ℕ, ◌≤◌, max}
use native.Mathlib.Omega.{arith}

-- it is at most a limit that both are within
pub max_least : (a b l : ℕ) → a ≤ l → b ≤ l → max a b ≤ l
max_least a b l h i = omega arith

-- it is at most the larger of two others, each as large
pub max_both : (a b x y : ℕ) → a ≤ x → b ≤ y → max a b ≤ max x y
max_both a b x y h i = omega arith
