-- Numbers that wrap.
use Rattle.std.proofs.Common.{◌≡◌, ℕ, zero, suc, ℤ, pos, negsuc, neg_ℤ, ◌/◌, ◌≤◌, ap, sym, ◌∙◌, refl, arith, w32, to_z, of_z, to_z-of_z}
use Rattle.std.proofs.Math.Nat.{div-le_self}
use Rattle.std.specs.Prelude.{unsigned_abs, int_div, FitsSigned}
use Rattle.std.specs.Int.{int_wrap}
use Rattle.std.proofs.lemmas.Int.{int_wrap_fits}

-- the bits of a number of at most 2^31 without its sign are those of what is left of it
pub bits_wrap : (z : ℤ) → unsigned_abs z ≤ 2147483648 → to_z w32 (of_z w32 z) ≡ int_wrap w32 z
unfolding int_wrap
bits_wrap (pos n) small = ap (to_z w32) (omega arith)
bits_wrap (negsuc n) small = let fits : FitsSigned w32 (negsuc n) = record { sfits = omega arith } in to_z-of_z fits ∙ sym (int_wrap_fits w32 (negsuc n) fits)

abs-neg : (n : ℕ) → unsigned_abs (neg_ℤ (pos n)) ≡ n
abs-neg zero = refl
abs-neg (suc n) = refl

-- a quotient without its sign is at most the dividend without its own
pub quotient_small : (a b : ℤ) → unsigned_abs (int_div a b) ≤ unsigned_abs a
quotient_small (pos a) (pos b) = div-le_self a b
quotient_small (pos a) (negsuc b) = omega (arith, abs-neg (a / suc b), div-le_self a (suc b))
quotient_small (negsuc a) (pos b) = omega (arith, abs-neg (suc a / b), div-le_self (suc a) b)
quotient_small (negsuc a) (negsuc b) = div-le_self (suc a) (suc b)

-- an INT without its sign
pub abs_small : (z : ℤ) → FitsSigned w32 z → unsigned_abs z ≤ 2147483648
abs_small (pos n) fits = omega (arith, fits.sfits)
abs_small (negsuc n) fits = omega (arith, fits.sfits)
