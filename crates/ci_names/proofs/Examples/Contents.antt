-- What may stand in a bound project, and what stands in none.
use Rattle.std.specs.Prelude.{◌≡◌, refl, ℕ, [], ◌∷◌, true, false, replicate, None, Some, pos, codes}
use Rattle.ci_base.specs.declared.function.SharedName.TheVariants as requests
use Rattle.ci_base.specs.declared.value.Kind.TheVariants.{Int, Str}
use Rattle.ci_base.specs.declared.value.Value.TheVariants as values
use Rattle.ci_tree.specs.Bound as to
use Rattle.ci_tree.specs.Bound.{Expr, Exprs, Call, Block, exprs_from}
use Rattle.ci_tree.specs.BoundTests.{block_passes, texts_fit, formats_fit, reads_set}
use Rattle.ci_tree.specs.LeftOut.{Heads, call_given}

-- a body of one call
abbrev calls : Call → Block
calls what = to.then (to.call_of 4 what) to.done

-- TraceMsg with this text
abbrev traces : Expr → Block
traces e = calls (to.call (to.shared requests.Trace) 1 (to.more e to.no_expr))

-- a text of so many bytes
abbrev text_of : ℕ → Expr
text_of n = to.literal (replicate n 97)

longest_text : block_passes texts_fit (traces (text_of 255)) ≡ true
longest_text = refl

text_too_long : block_passes texts_fit (traces (text_of 256)) ≡ false
text_too_long = refl

-- a text that stands for an argument that was left out
default_too_long : block_passes texts_fit (calls (to.call (to.function 0) 0 (to.more (text_of 256) to.no_expr))) ≡ false
default_too_long = refl

-- 1 with so many hashes
abbrev format_of : ℕ → Expr
format_of n = to.chain (to.number (pos 1)) (to.hashes n to.no_link)

format_without_hashes : block_passes formats_fit (traces (format_of 0)) ≡ false
format_without_hashes = refl

narrowest_format : block_passes formats_fit (traces (format_of 1)) ≡ true
narrowest_format = refl

widest_format : block_passes formats_fit (traces (format_of 255)) ≡ true
widest_format = refl

format_too_wide : block_passes formats_fit (traces (format_of 256)) ≡ false
format_too_wide = refl

-- QueRead with two scalars, and as any other call, also in a loop's test
read_with_scalars : block_passes reads_set (calls (to.que_read (to.number (pos 1)) (to.local 0) (to.local 1) (to.number (pos 0)))) ≡ true
read_with_scalars = refl

abbrev plain_read : Call
plain_read = to.call (to.shared requests.QueRead) 0 to.no_expr

read_without_scalars : block_passes reads_set (calls plain_read) ≡ false
read_without_scalars = refl

read_in_a_test : block_passes reads_set (to.then (to.while 4 (to.called plain_read) to.done) to.done) ≡ false
read_in_a_test = refl

read_in_a_read : block_passes reads_set (calls (to.que_read (to.called plain_read) (to.local 0) (to.local 1) (to.number (pos 0)))) ≡ false
read_in_a_read = refl

-- Arguments that are left out

-- F(INT a, INT b = 5, STRING c = "z"), and a function without parameters
abbrev heads : Heads
heads = (record { kind = Int; first = None } ∷ record { kind = Int; first = Some (values.Int (pos 5)) } ∷ record { kind = Str; first = Some (values.Str (codes "z")) } ∷ []) ∷ [] ∷ []

abbrev one : Expr
one = to.number (pos 1)

two_left_out : call_given heads (to.function 0) (exprs_from (one ∷ [])) ≡ to.call (to.function 0) 1 (exprs_from (one ∷ to.number (pos 5) ∷ to.literal (codes "z") ∷ []))
unfolding call_given
two_left_out = refl

one_left_out : call_given heads (to.function 0) (exprs_from (one ∷ one ∷ [])) ≡ to.call (to.function 0) 2 (exprs_from (one ∷ one ∷ to.literal (codes "z") ∷ []))
unfolding call_given
one_left_out = refl

none_left_out : call_given heads (to.function 0) (exprs_from (one ∷ one ∷ text_of 1 ∷ [])) ≡ to.call (to.function 0) 3 (exprs_from (one ∷ one ∷ text_of 1 ∷ []))
unfolding call_given
none_left_out = refl

none_to_leave_out : call_given heads (to.function 1) to.no_expr ≡ to.call (to.function 1) 0 to.no_expr
unfolding call_given
none_to_leave_out = refl

name_left_out : call_given heads (to.shared requests.TaskHnd) to.no_expr ≡ to.call (to.shared requests.TaskHnd) 0 (exprs_from (to.literal [] ∷ []))
unfolding call_given
name_left_out = refl
