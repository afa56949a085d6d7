-- Texts of the functions with the first numbers.
use Rattle.std.proofs.Common.{◌≡◌, ℕ, ◌+◌, List, ◌++◌, zero, suc, sym, ◌∙◌, ap, append_assoc, append-nil, arith}
use Rattle.std.specs.List.{flat_map, range_with_len}
use Rattle.ci_workload.specs.Workload.{numbers}

range-next : (f : ℕ → List ℕ) (a n : ℕ) → flat_map f (range_with_len a (suc n)) ≡ flat_map f (range_with_len a n) ++ f (a + n)
range-next f a zero = append-nil (f a) ∙ ap f (omega arith)
range-next f a (suc n) =
    ap (λ l. f a ++ l) (range-next f (a + 1) n)
    ∙ ap (λ m. f a ++ (flat_map f (range_with_len (a + 1) n) ++ f m)) (omega arith)
    ∙ sym (append_assoc (f a) (flat_map f (range_with_len (a + 1) n)) (f (a + suc n)))

-- one function more
pub numbers-next : (f : ℕ → List ℕ) (n : ℕ) → flat_map f (numbers (n + 1)) ≡ flat_map f (numbers n) ++ f (n + 1)
numbers-next f n =
    let longer : n + 1 ≡ suc n = omega arith in
    let last : 1 + n ≡ n + 1 = omega arith in
    ap (λ m. flat_map f (range_with_len 1 m)) longer ∙ range-next f 1 n ∙ ap (λ m. flat_map f (numbers n) ++ f m) last

-- the same behind a text
pub text-next : (f : ℕ → List ℕ) (n : ℕ) (text now piece new : List ℕ) → now ≡ text ++ flat_map f (numbers n) → piece ≡ f (n + 1) → new ≡ now ++ piece
    → new ≡ text ++ flat_map f (numbers (n + 1))
text-next f n text now piece new now_is piece_is new_is =
    new_is ∙ ap (λ l. now ++ l) piece_is ∙ ap (λ l. l ++ f (n + 1)) now_is
    ∙ append_assoc text (flat_map f (numbers n)) (f (n + 1)) ∙ ap (λ l. text ++ l) (sym (numbers-next f n))
