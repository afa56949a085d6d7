-- Values of private functions and operators, as the check computes them.
use Rattle.std.proofs.Common.{◌≡◌, [], ◌∷◌, Ok, Err, refl, pos, negsuc}
use Rattle.std.specs.Prelude.{codes}
use Rattle.std.specs.Fmt.{digits}
use Rattle.std.specs.Int.{int_wrap}
use Rattle.ci_base.specs.declared.value.Value.TheVariants.{Int, Str}
use Rattle.ci_base.specs.declared.function.PrivateName.TheVariants.{StrMid, StrSearch, StrFill, StrToInt, CharToStr, StrTrim, IsError}
use Rattle.ci_base.specs.Letters.{is_digit}
use Rattle.ci_base.specs.Arithmetic.{sum, quotient, remainder}
use Rattle.ci_base.specs.TextFunctions.{formatted}
use Rattle.ci_base.specs.PrivateFunctions.{private_value}

mid_to_the_end : private_value 0 StrMid (Str (codes "abc") ∷ Int (pos 1) ∷ Int (pos 9) ∷ []) ≡ Ok (Str (codes "bc"))
mid_to_the_end = refl

empty_at_the_end : private_value 0 StrSearch (Int (pos 3) ∷ Str (codes "abc") ∷ Str [] ∷ []) ≡ Ok (Int (pos 3))
empty_at_the_end = refl

empty_behind_the_end : private_value 0 StrSearch (Int (pos 4) ∷ Str (codes "abc") ∷ Str [] ∷ []) ≡ Ok (Int (negsuc 0))
empty_behind_the_end = refl

second_place : private_value 0 StrSearch (Int (pos 1) ∷ Str (codes "abcabc") ∷ Str (codes "ab") ∷ []) ≡ Ok (Int (pos 3))
second_place = refl

cut_copies : private_value 0 StrFill (Str (codes "ab") ∷ Int (pos 5) ∷ []) ≡ Ok (Str (codes "ababa"))
cut_copies = refl

copies_too_long : private_value 0 StrFill (Str (codes "ab") ∷ Int (pos 256) ∷ []) ≡ Err 9
copies_too_long = refl

negative_number : private_value 0 StrToInt (Str (codes " -12 ") ∷ []) ≡ Ok (Int (negsuc 11))
unfolding is_digit
negative_number = refl

number_too_large : private_value 0 StrToInt (Str (codes "2147483648") ∷ []) ≡ Err 13
unfolding is_digit
number_too_large = refl

byte_of_minus_one : private_value 0 CharToStr (Int (negsuc 0) ∷ []) ≡ Ok (Str (255 ∷ []))
byte_of_minus_one = refl

blanks_inside_stay : private_value 0 StrTrim (Str (codes "  a b ") ∷ []) ≡ Ok (Str (codes "a b"))
blanks_inside_stay = refl

last_error : private_value 9 IsError [] ≡ Ok (Int (pos 9))
last_error = refl

sum_wraps : sum (pos 2147483647) (pos 1) ≡ negsuc 2147483647
unfolding int_wrap
sum_wraps = refl

cut_toward_zero : quotient (negsuc 6) (pos 2) ≡ Ok (Int (negsuc 2))
unfolding int_wrap
cut_toward_zero = refl

sign_of_the_dividend : remainder (negsuc 6) (pos 2) ≡ Ok (Int (negsuc 0))
sign_of_the_dividend = refl

least_by_minus_one : quotient (negsuc 2147483647) (negsuc 0) ≡ Ok (Int (negsuc 2147483647))
unfolding int_wrap
least_by_minus_one = refl

three_hashes : formatted (pos 7) 3 ≡ Ok (Str (codes "  7"))
unfolding digits
three_hashes = refl
