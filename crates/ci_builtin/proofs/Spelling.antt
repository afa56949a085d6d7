-- Texts that spell an INT.
use Rattle.std.proofs.Common.{◌≡◌, ℕ, zero, suc, ◌<◌, ◌≤◌, Bool, true, false, ◌&&◌, cond, List, [], ◌∷◌, drop, refl, sym, ap, ◌∙◌, subst, arith, pos, negsuc, ℤ, w32, Ok, Err}
use Rattle.std.specs.Prelude.{FitsSigned, IsUtf8, IsAscii, Result, OkIff, ◌==◌}
use Rattle.std.specs.List.{list_all}
use Rattle.std.specs.Char.{digit_value}
use Rattle.std.specs.Str.Parse.{AllDigits, IsNumeral, without_leading_sign, signed_digits_value, ParsesSigned}
use Rattle.std.proofs.lemmas.Bool.{and_parts, and_from, leb-true, le-leb, false≢true, eqb-true}
use Rattle.std.proofs.lemmas.Str.{IsUtf8-from_ascii, digit_value_digit}
use Rattle.std.proofs.lemmas.Str.Parse.{digit_from_value}
use Rattle.std.proofs.lemmas.Fmt.{IsAscii-from_digits}
use Rattle.ci_base.specs.declared.errors.TheConstants.{NOT_A_NUMBER}
use Rattle.ci_base.specs.declared.value.Value.TheVariants.{Int}
use Rattle.ci_base.specs.Letters.{is_digit}
use Rattle.ci_base.specs.Numbers.{is_decimal}
use Rattle.ci_base.specs.Values.{Outcome}
use Rattle.ci_base.specs.TextFunctions.{is_int, spelled_int}

digit_below : (b : ℕ) → is_digit b ≡ true → digit_value b < 10
unfolding is_digit
digit_below b e =
    let parts = and_parts _ _ e in
    let low : 48 ≤ b = leb-true 48 b parts.0 in
    let high : b ≤ 57 = leb-true b 57 parts.1 in
    omega (arith, digit_value_digit b (low, high))

below_digit : (b : ℕ) → digit_value b < 10 → is_digit b ≡ true
unfolding is_digit
below_digit b lt = let within = digit_from_value b lt in and_from _ _ (le-leb 48 b within.0) (le-leb b 57 within.1)

all_below : (s : List ℕ) → list_all is_digit s ≡ true → AllDigits 10 s
all_below [] e = tt
all_below (b ∷ s) e = let parts = and_parts (is_digit b) (list_all is_digit s) e in (digit_below b parts.0, all_below s parts.1)

below_all : (s : List ℕ) → AllDigits 10 s → list_all is_digit s ≡ true
below_all [] all = refl
below_all (b ∷ s) all = and_from (is_digit b) (list_all is_digit s) (below_digit b all.0) (below_all s all.1)

decimal_numeral : (s : List ℕ) → is_decimal s ≡ true → IsNumeral 10 s
decimal_numeral [] e = absurd (false≢true e)
decimal_numeral (b ∷ s) e = (omega arith, all_below (b ∷ s) (and_parts (is_digit b) (list_all is_digit (b ∷ s)) e).1)

numeral_decimal : (s : List ℕ) → IsNumeral 10 s → is_decimal s ≡ true
numeral_decimal [] numeral = absurd (omega (arith, numeral.0))
numeral_decimal (b ∷ s) numeral = and_from (is_digit b) (list_all is_digit (b ∷ s)) (below_digit b numeral.1.0) (below_all (b ∷ s) numeral.1)

int_fits : (z : ℤ) → is_int z ≡ true → FitsSigned w32 z
int_fits (pos n) e = record { sfits = omega (arith, leb-true n 2147483647 e) }
int_fits (negsuc n) e = record { sfits = omega (arith, leb-true n 2147483647 e) }

fits_int : (z : ℤ) → FitsSigned w32 z → is_int z ≡ true
fits_int (pos n) fits = le-leb n 2147483647 (omega (arith, fits.sfits))
fits_int (negsuc n) fits = le-leb n 2147483647 (omega (arith, fits.sfits))

-- the text spells an INT, as a test
abbrev spells : List ℕ → Bool
spells s = is_decimal (without_leading_sign s) && is_int (signed_digits_value 10 s)

abbrev outcome_if : Bool → List ℕ → Outcome
outcome_if b s = cond b (Ok (Int (signed_digits_value 10 s))) (Err NOT_A_NUMBER)

unspelled : (s : List ℕ) → (spells s ≡ true → ⊥) → Err NOT_A_NUMBER ≡ spelled_int s
unspelled s lacks = elim (spells s) as (λ b. spells s ≡ b → Err NOT_A_NUMBER ≡ outcome_if b s) [
  | true ↦ λ e. absurd (lacks e)
  | false ↦ λ e. refl
] refl

-- what is parsed is what is spelled
pub parsed : {E : Type 0} (s : List ℕ) (r : Result ℤ E) (n : ℤ) → ParsesSigned w32 10 s r → r ≡ Ok n → Ok (Int n) ≡ spelled_int s
parsed {E} s r n parses is =
    let same : Result ℤ E = Ok n in
    let known : OkIff same (IsNumeral 10 (without_leading_sign s) × FitsSigned w32 (signed_digits_value 10 s)) (signed_digits_value 10 s) = subst (λ x. ParsesSigned w32 10 s x) is parses in
    let yes : spells s ≡ true = and_from _ _ (numeral_decimal _ known.0.0) (fits_int _ known.0.1) in
    ap (λ z. Ok (Int z)) known.1 ∙ sym (ap (λ b. outcome_if b s) yes)

pub unparsed : {E : Type 0} (s : List ℕ) (r : Result ℤ E) (e : E) → ParsesSigned w32 10 s r → r ≡ Err e → Err NOT_A_NUMBER ≡ spelled_int s
unparsed {E} s r e parses is =
    let same : Result ℤ E = Err e in
    let known : OkIff same (IsNumeral 10 (without_leading_sign s) × FitsSigned w32 (signed_digits_value 10 s)) (signed_digits_value 10 s) = subst (λ x. ParsesSigned w32 10 s x) is parses in
    unspelled s (λ yes. let parts = and_parts _ _ yes in known (decimal_numeral _ parts.0, int_fits _ parts.1))

ascii_onto : (b : ℕ) (s : List ℕ) → b < 128 → IsAscii s → IsAscii (b ∷ s)
ascii_onto b s small rest zero = small
ascii_onto b s small rest (suc i) = rest i

ascii_behind : (minus plus : Bool) (b : ℕ) (s : List ℕ) → (minus ≡ true → b ≡ 45) → (plus ≡ true → b ≡ 43)
    → IsNumeral 10 (cond minus s (drop (cond plus 1 0) (b ∷ s))) → IsAscii (b ∷ s)
ascii_behind true plus b s is_minus is_plus numeral = ascii_onto b s (omega (arith, is_minus refl)) (IsAscii-from_digits s numeral.1)
ascii_behind false true b s is_minus is_plus numeral = ascii_onto b s (omega (arith, is_plus refl)) (IsAscii-from_digits s numeral.1)
ascii_behind false false b s is_minus is_plus numeral = IsAscii-from_digits (b ∷ s) numeral.1

-- digits with or without a sign are ASCII
signed_ascii : (s : List ℕ) → IsNumeral 10 (without_leading_sign s) → IsAscii s
signed_ascii [] numeral = λ i. omega arith
signed_ascii (b ∷ s) numeral = ascii_behind (b == 45) (b == 43) b s (λ e. eqb-true b 45 e) (λ e. eqb-true b 43 e) numeral

-- what isn't UTF-8 spells nothing
pub unread : (s : List ℕ) → (IsUtf8 s → ⊥) → Err NOT_A_NUMBER ≡ spelled_int s
unread s lacks = unspelled s (λ yes. lacks (IsUtf8-from_ascii s (signed_ascii s (decimal_numeral _ (and_parts _ _ yes).0))))
