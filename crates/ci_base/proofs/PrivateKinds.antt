-- The kinds of what private functions give.
use Rattle.std.proofs.Common.{◌≡◌, ℕ, Bool, true, false, cond, List, [], ◌∷◌, Ok, Err, refl, ℤ, pos}
use Rattle.std.specs.Prelude.{IfOk}
use Rattle.ci_base.specs.declared.value.Kind.{Kind}
use Rattle.ci_base.specs.declared.value.Kind.TheVariants as kinds
use Rattle.ci_base.specs.declared.value.Value.{Value}
use Rattle.ci_base.specs.declared.value.Value.TheVariants.{Int, Str}
use Rattle.ci_base.specs.declared.function.PrivateName.{PrivateName}
use Rattle.ci_base.specs.declared.function.PrivateName.TheVariants as names
use Rattle.ci_base.specs.Functions.{private_gives}
use Rattle.ci_base.specs.declared.errors.TheConstants.{TEXT_TOO_LONG, NOT_A_NUMBER, ASSERTION}
use Rattle.ci_base.specs.Values.{Outcome, kind_of, is_set}
use Rattle.ci_base.specs.PrivateFunctions.{private_value, plain_value, int_value, text_value, ints_value, text_int_value, text_ints_value, int_texts_value}

-- a value, if there is one, is of the kind
abbrev pub IsOfKind : Kind → Outcome → Type 0
IsOfKind kind outcome = IfOk outcome (λ value. kind_of value ≡ kind)

either : (test : Bool) (value : Value) (code : ℕ) (kind : Kind) → kind_of value ≡ kind → IsOfKind kind (cond test (Ok value) (Err code))
either true value code kind e = e
either false value code kind e = tt

of_nothing : (last_error : ℕ) (name : PrivateName) → IsOfKind (private_gives name) (plain_value last_error name)
of_nothing last_error names.IsError = refl
of_nothing last_error _ = tt

of_int : (name : PrivateName) (n : ℤ) → IsOfKind (private_gives name) (int_value name n)
of_int names.IntToStr n = refl
of_int names.CharToStr n = refl
of_int names.Abs n = refl
of_int names.Assert n = either (is_set n) (Int (pos 0)) ASSERTION kinds.Int refl
of_int names.ErrSet n = refl
of_int _ n = tt

of_text : (name : PrivateName) (s : List ℕ) → IsOfKind (private_gives name) (text_value name s)
of_text names.StrLength s = refl
of_text names.StrUpper s = refl
of_text names.StrLower s = refl
of_text names.StrTrim s = refl
of_text names.StrToInt s = either _ _ NOT_A_NUMBER kinds.Int refl
of_text _ s = tt

of_ints : (name : PrivateName) (a b : ℤ) → IsOfKind (private_gives name) (ints_value name a b)
of_ints names.Max a b = refl
of_ints names.Min a b = refl
of_ints _ a b = tt

of_text_int : (name : PrivateName) (s : List ℕ) (n : ℤ) → IsOfKind (private_gives name) (text_int_value name s n)
of_text_int names.StrLeft s n = refl
of_text_int names.StrRight s n = refl
of_text_int names.StrFill [] n = refl
of_text_int names.StrFill (b ∷ s) n = either _ _ TEXT_TOO_LONG kinds.Str refl
of_text_int names.StrGetChar s n = refl
of_text_int _ s n = tt

of_text_ints : (name : PrivateName) (s : List ℕ) (n m : ℤ) → IsOfKind (private_gives name) (text_ints_value name s n m)
of_text_ints names.StrMid s n m = refl
of_text_ints _ s n m = tt

of_int_texts : (name : PrivateName) (n : ℤ) (s p : List ℕ) → IsOfKind (private_gives name) (int_texts_value name n s p)
of_int_texts names.StrSearch n s p = refl
of_int_texts _ n s p = tt

-- what a private function gives is of its kind, whatever it is given
pub private_kind : (last_error : ℕ) (name : PrivateName) (given : List Value) → IsOfKind (private_gives name) (private_value last_error name given)
private_kind last_error name [] = of_nothing last_error name
private_kind last_error name (Int n ∷ []) = of_int name n
private_kind last_error name (Str s ∷ []) = of_text name s
private_kind last_error name (Int a ∷ Int b ∷ []) = of_ints name a b
private_kind last_error name (Str s ∷ Int n ∷ []) = of_text_int name s n
private_kind last_error name (Str s ∷ Int n ∷ Int m ∷ []) = of_text_ints name s n m
private_kind last_error name (Int n ∷ Str s ∷ Str p ∷ []) = of_int_texts name n s p
private_kind last_error name _ = tt
