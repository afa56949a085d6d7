-- The instructions that turn operands into a value, as functions on values.
use Rattle.std.specs.Prelude.{ℕ, ℤ, Bool, true, false, List, [], ◌∷◌, Ok}
use Rattle.ci_base.specs.declared.value.Kind.{Kind}
use Rattle.ci_base.specs.declared.value.Kind.TheVariants as kinds
use Rattle.ci_base.specs.declared.value.Value.{Value}
use Rattle.ci_base.specs.declared.value.Value.TheVariants.{Int, Str}
use Rattle.ci_base.specs.Arithmetic.{sum, difference, product, negation, quotient, remainder, conjunction, disjunction, inversion, common_bits, joint_bits, differing_bits}
use Rattle.ci_base.specs.Comparisons.{holds, within}
use Rattle.ci_base.specs.TextFunctions.{joined, formatted}
use Rattle.ci_base.specs.Values.{Outcome, refused, truth}
use Rattle.ci_code.specs.declared.instruction.Instruction.{Instruction}
use Rattle.ci_code.specs.declared.instruction.Instruction.TheVariants as does

-- two INTs become one, and nothing can fail
abbrev pub is_whole : Instruction → Bool
is_whole does.Add = true
is_whole does.Sub = true
is_whole does.Mul = true
is_whole does.And = true
is_whole does.Or = true
is_whole does.BitAnd = true
is_whole does.BitOr = true
is_whole does.BitXor = true
is_whole (does.CmpInt relation) = true
is_whole _ = false

abbrev pub whole : Instruction → ℤ → ℤ → ℤ
whole does.Add a b = sum a b
whole does.Sub a b = difference a b
whole does.Mul a b = product a b
whole does.And a b = conjunction a b
whole does.Or a b = disjunction a b
whole does.BitAnd a b = common_bits a b
whole does.BitOr a b = joint_bits a b
whole does.BitXor a b = differing_bits a b
whole (does.CmpInt relation) a b = truth (holds relation (Int a) (Int b))
whole _ a b = a

-- the other operators: how many values they take, the kind of what they give, and what they give
abbrev pub is_operator : Instruction → Bool
is_operator does.Neg = true
is_operator does.Not = true
is_operator does.Div = true
is_operator does.Mod = true
is_operator does.Cat = true
is_operator (does.CmpStr relation) = true
is_operator does.WithinInt = true
is_operator does.WithinStr = true
is_operator (does.Form count) = true
is_operator _ = false

abbrev pub taken_by : Instruction → ℕ
taken_by does.Neg = 1
taken_by does.Not = 1
taken_by (does.Form count) = 1
taken_by does.WithinInt = 3
taken_by does.WithinStr = 3
taken_by _ = 2

abbrev pub given_by : Instruction → Kind
given_by does.Cat = kinds.Str
given_by (does.Form count) = kinds.Str
given_by _ = kinds.Int

-- of an INT
abbrev pub operated_int : Instruction → ℤ → Outcome
operated_int does.Neg n = Ok (Int (negation n))
operated_int does.Not n = Ok (Int (inversion n))
operated_int (does.Form count) n = formatted n count
operated_int _ n = refused

-- of two INTs
abbrev pub operated_ints : Instruction → ℤ → ℤ → Outcome
operated_ints does.Div a b = quotient a b
operated_ints does.Mod a b = remainder a b
operated_ints _ a b = refused

-- of two texts
abbrev pub operated_texts : Instruction → List ℕ → List ℕ → Outcome
operated_texts does.Cat a b = joined a b
operated_texts (does.CmpStr relation) a b = Ok (Int (truth (holds relation (Str a) (Str b))))
operated_texts _ a b = refused

-- of a value and two bounds
abbrev pub operated_within : Instruction → Value → Value → Value → Outcome
operated_within does.WithinInt v low high = Ok (Int (truth (within v low high)))
operated_within does.WithinStr v low high = Ok (Int (truth (within v low high)))
operated_within _ v low high = refused

abbrev pub operated : Instruction → List Value → Outcome
operated what (Int n ∷ []) = operated_int what n
operated what (Int a ∷ Int b ∷ []) = operated_ints what a b
operated what (Str a ∷ Str b ∷ []) = operated_texts what a b
operated what (v ∷ low ∷ high ∷ []) = operated_within what v low high
operated what _ = refused
