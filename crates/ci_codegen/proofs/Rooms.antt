-- Rooms of the functions of a project, one after another.
use Rattle.std.proofs.Common.{◌≡◌, ℕ, zero, suc, ◌+◌, ◌<◌, List, [], ◌∷◌, ◌++◌, length, take, map, refl, sym, ap, ◌∙◌, add-one, arith}
use Rattle.std.specs.Prelude.{slice_get, unwrap_or}
use Rattle.ci_meaning.specs.Configuration.{no_function}
use Rattle.ci_tree.specs.Bound.{Function}
use Rattle.ci_tree.specs.Rooms.{room}

more_from : (fs : List Function) (i : ℕ) → i < length fs → map room (take (suc i) fs) ≡ map room (take i fs) ++ room (unwrap_or (slice_get fs i) no_function) ∷ []
more_from [] i within = absurd (omega arith)
more_from (f ∷ fs) zero within = refl
more_from (f ∷ fs) (suc i) within = ap (λ rooms. room f ∷ rooms) (more_from fs i (omega arith))

-- one more function
pub rooms_more : (fs : List Function) (i : ℕ) → i < length fs → map room (take (i + 1) fs) ≡ map room (take i fs) ++ room (unwrap_or (slice_get fs i) no_function) ∷ []
rooms_more fs i within = ap (λ n. map room (take n fs)) (add-one i) ∙ more_from fs i within
