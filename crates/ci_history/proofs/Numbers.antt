-- The decimal text of an INT is short.
use Rattle.std.proofs.Common.{◌≡◌, ◌≤◌, ℤ, pos, negsuc, length, ap, ◌∙◌, arith, w32, w64, to_z, of_z, FitsSigned}
use Rattle.std.specs.Fmt.{signed_decimal}
use Rattle.std.proofs.lemmas.Fmt.{length_signed_le}
use Rattle.std.proofs.lemmas.Int.{to_z-of_z}

-- at most ten digits and a sign
short : (z : ℤ) → FitsSigned w32 z → length (signed_decimal z) ≤ 11
short (pos n) fits = let h = fits.sfits in length_signed_le 10 (pos n) (omega arith) (omega arith)
short (negsuc n) fits = let h = fits.sfits in length_signed_le 10 (negsuc n) (omega arith) (omega arith)

wide : (z : ℤ) → FitsSigned w32 z → FitsSigned w64 z
wide (pos n) fits = let h = fits.sfits in record { sfits = omega arith }
wide (negsuc n) fits = let h = fits.sfits in record { sfits = omega arith }

-- and so is that of the same number in 64 bits
pub short_number : (n m : ℤ) → FitsSigned w32 n → m ≡ to_z w32 (of_z w32 n) → length (signed_decimal (to_z w64 (of_z w64 m))) ≤ 11
short_number n m fits e =
    let same = ap (λ (z : ℤ). to_z w64 (of_z w64 z)) (e ∙ to_z-of_z w32 n fits) ∙ to_z-of_z w64 n (wide n fits) in
    omega (arith, ap (λ (z : ℤ). length (signed_decimal z)) same, short n fits)
