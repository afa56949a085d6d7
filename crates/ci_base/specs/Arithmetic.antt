-- What the operators on INTs give, and the functions on them.
use Rattle.std.specs.Prelude.{ℤ, pos, ◌+ℤ◌, ◌-ℤ◌, ◌*ℤ◌, neg_ℤ, unsigned_abs, int_div, int_rem, ◌&&◌, ◌||◌, Ok, Err, if◌then◌else◌}
use Rattle.std.specs.Int.{int_max, int_min, int_bit_and, int_bit_or, int_bit_xor}
use Rattle.std.proofs.Common.{w32}
use Rattle.ci_base.specs.declared.value.Value.TheVariants.{Int}
use Rattle.ci_base.specs.declared.errors.TheConstants.{DIVIDE_BY_ZERO, ASSERTION}
use Rattle.ci_base.specs.Numbers.{wrap}
use Rattle.ci_base.specs.Values.{Outcome, is_zero, is_set, truth}

-- a + b, a - b, a * b and -a wrap modulo 2^32
abbrev pub sum : ℤ → ℤ → ℤ
sum a b = wrap (a +ℤ b)

abbrev pub difference : ℤ → ℤ → ℤ
difference a b = wrap (a -ℤ b)

abbrev pub product : ℤ → ℤ → ℤ
product a b = wrap (a *ℤ b)

abbrev pub negation : ℤ → ℤ
negation a = wrap (neg_ℤ a)

-- a / b is cut toward zero, and wraps: the least INT by -1 is the least INT
abbrev pub quotient : ℤ → ℤ → Outcome
quotient a b = if is_zero b then Err DIVIDE_BY_ZERO else Ok (Int (wrap (int_div a b)))

-- a MOD b, what is left of that division: it is 0 or has the sign of a
abbrev pub remainder : ℤ → ℤ → Outcome
remainder a b = if is_zero b then Err DIVIDE_BY_ZERO else Ok (Int (int_rem a b))

-- AND, OR and NOT of conditions
abbrev pub conjunction : ℤ → ℤ → ℤ
conjunction a b = truth (is_set a && is_set b)

abbrev pub disjunction : ℤ → ℤ → ℤ
disjunction a b = truth (is_set a || is_set b)

abbrev pub inversion : ℤ → ℤ
inversion a = truth (is_zero a)

-- BITAND, BITOR and BITXOR of the 32 bits
abbrev pub common_bits : ℤ → ℤ → ℤ
common_bits a b = int_bit_and w32 a b

abbrev pub joint_bits : ℤ → ℤ → ℤ
joint_bits a b = int_bit_or w32 a b

abbrev pub differing_bits : ℤ → ℤ → ℤ
differing_bits a b = int_bit_xor w32 a b

-- the number without its sign; it wraps, so the least INT stays
abbrev pub magnitude : ℤ → ℤ
magnitude n = wrap (pos (unsigned_abs n))

-- the larger of two, and the smaller
abbrev pub larger : ℤ → ℤ → ℤ
larger a b = int_max a b

abbrev pub smaller : ℤ → ℤ → ℤ
smaller a b = int_min a b

-- 0 where the condition holds
abbrev pub assertion : ℤ → Outcome
assertion n = if is_set n then Ok (Int (pos 0)) else Err ASSERTION
