-- As long as possible.
use Rattle.std.specs.Prelude.{◌≡◌, ℕ, List, [], ◌++◌}

-- before the rest, s is one of P, and no more of the rest with it is
pub record IsLongest (P : List ℕ → Type 0) (s rest : List ℕ) : Type 0 where
  pub one : P s
  pub longest : (more behind : List ℕ) → rest ≡ more ++ behind → P (s ++ more) → more ≡ []
