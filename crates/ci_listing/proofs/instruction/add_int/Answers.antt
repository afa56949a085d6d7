use Rattle.std.proofs.Common.{◌≡◌, ◌≤◌, ◌+◌, ◌++◌, List, [], ◌∷◌, length, length-append, arith, ap, ◌∙◌, ℕ, ℤ, pos, negsuc, w32, w64, to_z, of_z, FitsSigned}
use Rattle.std.specs.Fmt.{signed_decimal}
use Rattle.std.proofs.lemmas.Fmt.{length_signed_le}
use Rattle.std.proofs.lemmas.Int.{to_z-of_z}
use Rattle.ci_listing.proofs.instruction.add_int.Goals as goal

-- an INT has at most ten digits and a sign
short : (z : ℤ) → FitsSigned w32 z → length (signed_decimal z) ≤ 11
short (pos n) fits = let h = fits.sfits in length_signed_le 10 (pos n) (omega arith) (omega arith)
short (negsuc n) fits = let h = fits.sfits in length_signed_le 10 (negsuc n) (omega arith) (omega arith)

wide : (z : ℤ) → FitsSigned w32 z → FitsSigned w64 z
wide (pos n) fits = let h = fits.sfits in record { sfits = omega arith }
wide (negsuc n) fits = let h = fits.sfits in record { sfits = omega arith }

-- and is the same in 64 bits
widened : (n m : ℤ) → FitsSigned w32 n → m ≡ to_z w32 (of_z w32 n) → to_z w64 (of_z w64 m) ≡ n
widened n m fits e = ap (λ (z : ℤ). to_z w64 (of_z w64 z)) (e ∙ to_z-of_z w32 n fits) ∙ to_z-of_z w64 n (wide n fits)

-- the lengths, as a space and the digits are added
lengths : (to mid after : List ℕ) (n m z : ℤ) → FitsSigned w32 n → m ≡ n → mid ≡ to ++ 32 ∷ [] → after ≡ mid ++ signed_decimal m → (length mid ≡ length to + 1) × (length after ≤ length to + 12)
lengths to mid after n m z fits e one two = (
  ap length one ∙ length-append to (32 ∷ []),
  omega (arith, ap length two, length-append mid (signed_decimal m), ap length one, length-append to (32 ∷ []), short n fits, ap (λ (x : ℤ). length (signed_decimal x)) e),
)

pub put_number-requires : goal.put_number-requires
put_number-requires c =
    let e = widened c.args.n c.from.result c.ranges.n c.from.ensures in
    omega (arith, ap (λ (x : ℤ). length (signed_decimal x)) e, short c.args.n c.ranges.n, ap length c.add.ensures, length-append c.args.to.now (32 ∷ []))

pub returns-clause-short : goal.returns-clause-short
returns-clause-short c =
    let e = widened c.args.n c.from.result c.ranges.n c.from.ensures in
    (lengths c.args.to.now c.add.new.self c.put_number.new.to c.args.n _ c.args.n c.ranges.n e c.add.ensures c.put_number.ensures).1
