-- The kinds of what operators and private functions give.
use Rattle.std.proofs.Common.{◌≡◌, ℕ, Bool, true, false, List, [], ◌∷◌, map, refl, Ok, Err}
use Rattle.std.specs.Prelude.{ℤ, pos, int_div, int_rem, if◌then◌else◌, nat_le, ◌&&◌, ◌++◌, length, take}
use Rattle.std.specs.List.{repeat}
use Rattle.std.specs.Str.Parse.{without_leading_sign, signed_digits_value}
use Rattle.ci_base.specs.declared.bounds.TheConstants.{MOST_TEXT_BYTES}
use Rattle.ci_base.specs.declared.errors.TheConstants.{DIVIDE_BY_ZERO, TEXT_TOO_LONG, NOT_A_NUMBER, ASSERTION}
use Rattle.ci_base.specs.Numbers.{wrap, is_decimal}
use Rattle.ci_base.specs.declared.function.PrivateName.{PrivateName}
use Rattle.ci_base.specs.declared.function.PrivateName.TheVariants as names
use Rattle.ci_base.specs.declared.value.Kind.{Kind}
use Rattle.ci_base.specs.declared.value.Kind.TheVariants as kinds
use Rattle.ci_base.specs.declared.value.Value.{Value}
use Rattle.ci_base.specs.declared.value.Value.TheVariants.{Int, Str}
use Rattle.ci_base.specs.Arithmetic.{quotient, remainder}
use Rattle.ci_base.specs.Functions.{private_takes, private_gives}
use Rattle.ci_base.specs.PrivateFunctions.{private_value}
use Rattle.ci_base.specs.TextFunctions.{bounded, joined, formatted, filled, padded, count_of, trimmed, is_space, is_int, spelled_int}
use Rattle.ci_base.specs.Values.{Outcome, is_zero, is_set, kind_of, first_of_kind}

-- a value of that kind, or an error
abbrev pub OfKind : Kind → Outcome → Type 0
OfKind kind (Ok v) = kind_of v ≡ kind
OfKind kind (Err c) = Unit {0}

of_value : (kind : Kind) (b : Bool) (v : Value) (c : ℕ) → kind_of v ≡ kind → OfKind kind (if b then Ok v else Err c)
of_value kind true v c h = h
of_value kind false v c h = tt

of_error : (kind : Kind) (b : Bool) (v : Value) (c : ℕ) → kind_of v ≡ kind → OfKind kind (if b then Err c else Ok v)
of_error kind true v c h = tt
of_error kind false v c h = h

pub first_kind : (kind : Kind) → kind_of (first_of_kind kind) ≡ kind
first_kind kinds.Int = refl
first_kind kinds.Str = refl

pub quotient_kind : (a b : ℤ) → OfKind kinds.Int (quotient a b)
quotient_kind a b = of_error kinds.Int (is_zero b) (Int (wrap (int_div a b))) DIVIDE_BY_ZERO refl

pub remainder_kind : (a b : ℤ) → OfKind kinds.Int (remainder a b)
remainder_kind a b = of_error kinds.Int (is_zero b) (Int (int_rem a b)) DIVIDE_BY_ZERO refl

bounded_kind : (s : List ℕ) → OfKind kinds.Str (bounded s)
bounded_kind s = of_value kinds.Str (nat_le (length s) MOST_TEXT_BYTES) (Str s) TEXT_TOO_LONG refl

pub joined_kind : (s t : List ℕ) → OfKind kinds.Str (joined s t)
joined_kind s t = bounded_kind (s ++ t)

pub formatted_kind : (i : ℤ) (count : ℕ) → OfKind kinds.Str (formatted i count)
formatted_kind i count = bounded_kind (padded i count)

filled_kind : (s : List ℕ) (i : ℤ) → OfKind kinds.Str (filled s i)
filled_kind [] i = refl
filled_kind (b ∷ s) i = of_value kinds.Str (nat_le (count_of i) MOST_TEXT_BYTES) (Str (take (count_of i) (repeat (count_of i) (b ∷ s)))) TEXT_TOO_LONG refl

spelled_kind : (s : List ℕ) → OfKind kinds.Int (spelled_int s)
spelled_kind s = of_value kinds.Int (is_decimal (without_leading_sign s) && is_int (signed_digits_value 10 s)) (Int (signed_digits_value 10 s)) NOT_A_NUMBER refl

pub private_kind : (error : ℕ) (q : PrivateName) (args : List Value) → map kind_of args ≡ private_takes q → OfKind (private_gives q) (private_value error q args)
private_kind error names.StrLength (Str s ∷ []) e = refl
private_kind error names.StrLength _ e = absurd (cc e)
private_kind error names.StrLeft (Str s ∷ Int i ∷ []) e = refl
private_kind error names.StrLeft _ e = absurd (cc e)
private_kind error names.StrRight (Str s ∷ Int i ∷ []) e = refl
private_kind error names.StrRight _ e = absurd (cc e)
private_kind error names.StrMid (Str s ∷ Int i ∷ Int j ∷ []) e = refl
private_kind error names.StrMid _ e = absurd (cc e)
private_kind error names.StrSearch (Int i ∷ Str s ∷ Str t ∷ []) e = refl
private_kind error names.StrSearch _ e = absurd (cc e)
private_kind error names.StrUpper (Str s ∷ []) e = refl
private_kind error names.StrUpper _ e = absurd (cc e)
private_kind error names.StrLower (Str s ∷ []) e = refl
private_kind error names.StrLower _ e = absurd (cc e)
private_kind error names.StrTrim (Str s ∷ []) e = refl
private_kind error names.StrTrim _ e = absurd (cc e)
private_kind error names.StrFill (Str s ∷ Int i ∷ []) e = filled_kind s i
private_kind error names.StrFill _ e = absurd (cc e)
private_kind error names.StrToInt (Str s ∷ []) e = spelled_kind (trimmed is_space s)
private_kind error names.StrToInt _ e = absurd (cc e)
private_kind error names.IntToStr (Int i ∷ []) e = refl
private_kind error names.IntToStr _ e = absurd (cc e)
private_kind error names.StrGetChar (Str s ∷ Int i ∷ []) e = refl
private_kind error names.StrGetChar _ e = absurd (cc e)
private_kind error names.CharToStr (Int i ∷ []) e = refl
private_kind error names.CharToStr _ e = absurd (cc e)
private_kind error names.Abs (Int i ∷ []) e = refl
private_kind error names.Abs _ e = absurd (cc e)
private_kind error names.Max (Int i ∷ Int j ∷ []) e = refl
private_kind error names.Max _ e = absurd (cc e)
private_kind error names.Min (Int i ∷ Int j ∷ []) e = refl
private_kind error names.Min _ e = absurd (cc e)
private_kind error names.Assert (Int i ∷ []) e = of_value kinds.Int (is_set i) (Int (pos 0)) ASSERTION refl
private_kind error names.Assert _ e = absurd (cc e)
private_kind error names.ErrSet (Int i ∷ []) e = refl
private_kind error names.ErrSet _ e = absurd (cc e)
private_kind error names.IsError [] e = refl
private_kind error names.IsError _ e = absurd (cc e)
