-- What the private functions give, by what they take.
use Rattle.std.specs.Prelude.{ℕ, ℤ, pos, Bool, List, [], ◌∷◌, length, Ok}
use Rattle.std.specs.Fmt.{signed_decimal}
use Rattle.ci_base.specs.declared.value.Value.{Value}
use Rattle.ci_base.specs.declared.value.Value.TheVariants.{Int, Str}
use Rattle.ci_base.specs.declared.function.PrivateName.{PrivateName}
use Rattle.ci_base.specs.declared.function.PrivateName.TheVariants as names
use Rattle.ci_base.specs.Values.{Outcome, refused, is_set}
use Rattle.ci_base.specs.Arithmetic.{magnitude, larger, smaller, assertion}
use Rattle.ci_base.specs.TextFunctions.{left, right, mid, byte_at, search, upper, lower, trimmed, is_blank, filled, number_in, one_byte}

-- of nothing; IsError gives the last error of the task
abbrev pub plain_value : ℕ → PrivateName → Outcome
plain_value last_error names.IsError = Ok (Int (pos last_error))
plain_value last_error _ = refused

-- of an INT
abbrev pub int_value : PrivateName → ℤ → Outcome
int_value names.IntToStr n = Ok (Str (signed_decimal n))
int_value names.CharToStr n = Ok (Str (one_byte n))
int_value names.Abs n = Ok (Int (magnitude n))
int_value names.Assert n = assertion n
int_value names.ErrSet n = Ok (Int (pos 0))
int_value _ n = refused

-- of a text
abbrev pub text_value : PrivateName → List ℕ → Outcome
text_value names.StrLength s = Ok (Int (pos (length s)))
text_value names.StrUpper s = Ok (Str (upper s))
text_value names.StrLower s = Ok (Str (lower s))
text_value names.StrTrim s = Ok (Str (trimmed is_blank s))
text_value names.StrToInt s = number_in s
text_value _ s = refused

-- of two INTs
abbrev pub ints_value : PrivateName → ℤ → ℤ → Outcome
ints_value names.Max a b = Ok (Int (larger a b))
ints_value names.Min a b = Ok (Int (smaller a b))
ints_value _ a b = refused

-- of a text and an INT
abbrev pub text_int_value : PrivateName → List ℕ → ℤ → Outcome
text_int_value names.StrLeft s n = Ok (Str (left s n))
text_int_value names.StrRight s n = Ok (Str (right s n))
text_int_value names.StrFill s n = filled s n
text_int_value names.StrGetChar s n = Ok (Int (byte_at s n))
text_int_value _ s n = refused

-- of a text and two INTs
abbrev pub text_ints_value : PrivateName → List ℕ → ℤ → ℤ → Outcome
text_ints_value names.StrMid s n m = Ok (Str (mid s n m))
text_ints_value _ s n m = refused

-- of an INT and two texts
abbrev pub int_texts_value : PrivateName → ℤ → List ℕ → List ℕ → Outcome
int_texts_value names.StrSearch n s p = Ok (Int (search n s p))
int_texts_value _ n s p = refused

-- what a private function gives of these values, in a task with this last error
abbrev pub private_value : ℕ → PrivateName → List Value → Outcome
private_value last_error name [] = plain_value last_error name
private_value last_error name (Int n ∷ []) = int_value name n
private_value last_error name (Str s ∷ []) = text_value name s
private_value last_error name (Int a ∷ Int b ∷ []) = ints_value name a b
private_value last_error name (Str s ∷ Int n ∷ []) = text_int_value name s n
private_value last_error name (Str s ∷ Int n ∷ Int m ∷ []) = text_ints_value name s n m
private_value last_error name (Int n ∷ Str s ∷ Str p ∷ []) = int_texts_value name n s p
private_value last_error name _ = refused

-- the last error of the task after the call: IsError takes it
abbrev pub error_after : PrivateName → ℕ → ℕ
error_after names.IsError last_error = 0
error_after _ last_error = last_error

-- whether the task goes on after run errors, after the call: ErrSet says so
abbrev pub goes_on_after : PrivateName → List Value → Bool → Bool
goes_on_after names.ErrSet (Int n ∷ []) goes_on = is_set n
goes_on_after _ _ goes_on = goes_on
