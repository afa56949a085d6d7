-- What values are of, and what a run error is.
use Rattle.std.specs.Prelude.{ℕ, ℤ, pos, Bool, true, false, not, ◌==◌, [], Result, Err}
use Rattle.ci_base.specs.declared.value.Kind.{Kind}
use Rattle.ci_base.specs.declared.value.Kind.TheVariants as kinds
use Rattle.ci_base.specs.declared.value.Value.{Value}
use Rattle.ci_base.specs.declared.value.Value.TheVariants.{Int, Str}
use Rattle.ci_base.specs.declared.errors.TheConstants.{BAD_ARGUMENT}

-- the kind of a value
abbrev pub kind_of : Value → Kind
kind_of (Int n) = kinds.Int
kind_of (Str s) = kinds.Str

-- what a variable of a kind holds at first: 0, or the empty text
abbrev pub first_of_kind : Kind → Value
first_of_kind kinds.Int = Int (pos 0)
first_of_kind kinds.Str = Str []

-- a value, or the number of a run error
abbrev pub Outcome : Type 0
Outcome = Result Value ℕ

-- values of other kinds, or another number of them; no project that compiles has this
abbrev pub refused : Outcome
refused = Err BAD_ARGUMENT

-- an INT is 0
abbrev pub is_zero : ℤ → Bool
is_zero (pos n) = n == 0
is_zero _ = false

-- an INT as a condition: it holds where it isn't 0
abbrev pub is_set : ℤ → Bool
is_set n = not (is_zero n)

-- a value that as a condition doesn't hold; no project that compiles has a text there
abbrev pub fails : Value → Bool
fails (Int n) = is_zero n
fails (Str s) = true

-- what a condition gives: 1 where it holds, else 0
abbrev pub truth : Bool → ℤ
truth true = pos 1
truth false = pos 0
