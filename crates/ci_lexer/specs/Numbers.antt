-- How a hexadecimal number begins.
use Rattle.std.specs.Prelude.{ℕ, Bool, false, ◌&&◌, ◌||◌, List, [], ◌∷◌, ◌==◌}
use Rattle.ci_base.specs.Letters.{begins, is_hex_digit}

-- 0, x and a hexadecimal digit stand at the front
abbrev pub hex_start : List ℕ → Bool
hex_start [] = false
hex_start (z ∷ []) = false
hex_start (z ∷ x ∷ s) = z == 48 && (x == 120 || x == 88) && begins is_hex_digit s
