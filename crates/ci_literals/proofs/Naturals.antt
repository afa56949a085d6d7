-- A number is read digit by digit.
use Rattle.std.proofs.Common.{◌≡◌, ℕ, ◌+◌, ◌*◌, ◌^◌, ◌<◌, ◌≤◌, true, false, ◌&&◌, cond, List, Option, Some, None, sym, ap, ◌∙◌, arith, mul-le-mul, le-mul_of_pos_right}
use Rattle.std.specs.Prelude.{nat_le, MatchOption, IfSome}
use Rattle.std.specs.Str.Parse.{digits_value}
use Rattle.std.proofs.lemmas.Bool.{leb-true, le-leb, false_from_ne_true}
use Rattle.ci_literals.specs.Digits.{is_numeral, natural}

-- what the value of digits is after one more
pub value_step : (base limit value sum digit : ℕ) → 1 ≤ base → base ≤ 16 → limit < 2 ^ 32 → value ≤ limit → value ≡ sum → digit ≤ 36 → (value * base + digit < 2 ^ 40) × (value * base + digit ≡ sum * base + digit)
value_step base limit value sum digit least most bound small same low = (
  (let below : value ≤ 2 ^ 32 = omega arith in let product : value * base ≤ 2 ^ 32 * 16 = mul-le-mul below most in omega arith),
  ap (λ n. n * base + digit) same,
)

-- above the limit it stays there
pub value_above : (base limit sum digit : ℕ) → 1 ≤ base → limit < sum → limit < sum * base + digit
value_above base limit sum digit least above =
    let more : sum ≤ sum * base = le-mul_of_pos_right sum least in omega arith

-- what is read of digits is the number that they spell
abbrev IsValue : ℕ → ℕ → List ℕ → Option ℕ → Type 0
IsValue base limit s r = MatchOption r (limit < digits_value base s) (λ n. (n ≡ digits_value base s) × (n ≤ limit))

abbrev spelled : ℕ → ℕ → List ℕ → Option ℕ
spelled base limit s = cond (nat_le (digits_value base s) limit) (Some (digits_value base s)) None

natural_of : (base limit : ℕ) (s : List ℕ) → is_numeral base s ≡ true → natural base limit s ≡ spelled base limit s
unfolding natural
natural_of base limit s numeral = ap (λ t. cond (t && nat_le (digits_value base s) limit) (Some (digits_value base s)) None) numeral

pub natural_is : (base limit : ℕ) (s : List ℕ) (r : Option ℕ) → is_numeral base s ≡ true → IsValue base limit s r → r ≡ natural base limit s
natural_is base limit s None numeral large =
    sym (natural_of base limit s numeral ∙ ap (λ t. cond t (Some (digits_value base s)) None) (false_from_ne_true (nat_le (digits_value base s) limit) (λ e. omega (arith, leb-true (digits_value base s) limit e))))
natural_is base limit s (Some n) numeral value =
    let within : digits_value base s ≤ limit = omega (arith, value.0, value.1) in
    ap (λ n. Some n) value.0 ∙ sym (natural_of base limit s numeral ∙ ap (λ t. cond t (Some (digits_value base s)) None) (le-leb (digits_value base s) limit within))

pub value_within : (base limit : ℕ) (s : List ℕ) (r : Option ℕ) → IsValue base limit s r → IfSome r (λ n. n ≤ limit)
value_within base limit s None value = tt
value_within base limit s (Some n) value = value.1

pub no_natural : (base limit : ℕ) (s : List ℕ) → is_numeral base s ≡ false → None ≡ natural base limit s
unfolding natural
no_natural base limit s other = sym (ap (λ t. cond (t && nat_le (digits_value base s) limit) (Some (digits_value base s)) None) other)
