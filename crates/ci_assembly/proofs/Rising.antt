-- GLOBAL scalars whose cells rise, looked at one by one.
use Rattle.std.proofs.Common.{◌≡◌, ℕ, ◌+◌, ◌-◌, ◌<◌, ◌≤◌, List, length, get_or, ap, arith, ⊎_elim}
use Rattle.std.proofs.lemmas.Bool.{cases_lt}
use Rattle.std.proofs.lemmas.List.{get_or_default}
use Rattle.ci_base.specs.declared.layout.Global.{Global}
use Rattle.ci_assembly.specs.Parts.{RiseBefore}

-- the cell of a member, whatever stood there beyond the end
cell_at : (xs : List Global) (i : ℕ) (g d : Global) → i < length xs → (get_or xs i d).cell ≡ (get_or xs i g).cell
cell_at xs i g d within = ap (λ (x : Global). x.cell) (get_or_default xs i d g within)

-- the next is higher than the one before it
pub one_higher : (xs : List Global) (p : ℕ) (g h : Global) → 1 ≤ p → p < length xs → (get_or xs (p - 1) g).cell < (get_or xs p h).cell → RiseBefore p xs → RiseBefore (p + 1) xs
one_higher xs p g h some within higher rises i j d i_j j_p j_within =
    ⊎_elim (λ lower. rises i j d i_j lower j_within) (λ last. at_last (omega arith)) (cases_lt j p)
  where
    below : i < p → (get_or xs i d).cell < (get_or xs p h).cell
    below lower =
        ⊎_elim (λ lt. omega (arith, rises i (p - 1) d lt (omega arith) (omega arith), cell_at xs (p - 1) g d (omega arith), higher))
        (λ ge. let e : i ≡ p - 1 = omega arith in omega (arith, ap (λ k. (get_or xs k d).cell) e, cell_at xs (p - 1) g d (omega arith), higher)) (cases_lt i (p - 1))

    at_last : j ≡ p → (get_or xs i d).cell < (get_or xs j d).cell
    at_last e = omega (arith, ap (λ k. (get_or xs k d).cell) e, cell_at xs p h d within, below (omega arith))
