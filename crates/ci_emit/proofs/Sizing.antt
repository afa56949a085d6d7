-- Sums of sizes, which are cut to words.
use Rattle.std.proofs.Common.{◌≡◌, ℕ, zero, suc, ◌+◌, ◌^◌, List, [], ◌∷◌, length, map, drop, Option, Some, None, cond, refl, sym, ap, ◌∙◌, arith}
use Rattle.std.proofs.Math.Nat.{add-mod-mod, mod-add-mod}
use Rattle.std.proofs.lemmas.List.Recursion.{is_count_by}
use Rattle.std.specs.Prelude.{count_by, is_some, option_map, slice_get}
use Rattle.ci_base.specs.declared.value.Value.{Value}
use Rattle.ci_base.specs.declared.value.Value.TheVariants as values
use Rattle.ci_emit.specs.Pads.{word}
use Rattle.ci_emit.specs.Sizes.{has_first}
use Rattle.ci_tree.specs.declared.bound.Expr as code_expr
use Rattle.ci_tree.specs.declared.bound.Function as code_function
use Rattle.ci_tree.specs.declared.bound.Param as code_param
use Rattle.ci_tree.specs.Bound as to
use Rattle.ci_tree.specs.Bound.{Callee, Exprs, Param}
use Rattle.ci_tree.specs.LeftOut.{Heads, firsts_of, constants, followed, left_out, count_of, call_given}
use Rattle.ci_tree.specs.SeenBound.{exprs_of, param_of, heads_of}
use Rattle.ci_translation.proofs.Lists.{get_map}
use Rattle.ci_translation.specs.Drafts.{args_size, call_size}

-- a number behind one that is cut
pub word_behind : (a n : ℕ) → word (a + word n) ≡ word (a + n)
word_behind a n = add-mod-mod a n (2 ^ 32)

pub word_before : (n a : ℕ) → word (word n + a) ≡ word (n + a)
word_before n a = mod-add-mod n (2 ^ 32) a

pub word_both : (a b : ℕ) → word (word a + word b) ≡ word (a + b)
word_both a b = word_before a (word b) ∙ word_behind a b

-- one more part in a sum of parts
pub carried : (sum more size rest : ℕ) → more ≡ word size → word (word (sum + more) + rest) ≡ word (sum + (size + rest))
carried sum more size rest is =
    word_before (sum + more) rest
    ∙ ap word (regroup sum more rest)
    ∙ sym (word_behind (sum + rest) more)
    ∙ ap (λ m. word (sum + rest + word m)) is
    ∙ word_behind (sum + rest) (word size) ∙ word_behind (sum + rest) size
    ∙ ap word (regroup_back sum size rest)
  where
    regroup : (a b c : ℕ) → a + b + c ≡ a + c + b
    regroup a b c = omega arith

    regroup_back : (a b c : ℕ) → a + c + b ≡ a + (b + c)
    regroup_back a b c = omega arith

-- Arguments

-- arguments, and others behind them
pub size_followed : (a b : Exprs) → args_size (followed a b) ≡ args_size a + args_size b
size_followed to.no_expr b = omega arith
size_followed (to.more first rest) b = omega (arith, size_followed rest b)

count_args : (heads : Heads) (args : List code_expr.Expr) → count_of (exprs_of heads args) ≡ length args
count_args heads [] = refl
count_args heads (e ∷ es) = ap (λ n. suc n) (count_args heads es)

-- a call with these arguments in the source
pub given_size : (heads : Heads) (callee : Callee) (args : List code_expr.Expr) →
    call_size (call_given heads callee (exprs_of heads args)) ≡ args_size (exprs_of heads args) + args_size (left_out heads callee (length args)) + 1
unfolding call_given
given_size heads callee args =
    ap (λ n. args_size (followed (exprs_of heads args) (left_out heads callee n)) + 1) (count_args heads args)
    ∙ ap (λ n. n + 1) (size_followed (exprs_of heads args) (left_out heads callee (length args)))

-- the size of a call, by those of its arguments
pub plain_word : (a b l args behind whole : ℕ) → a ≡ word args → b ≡ word l → l ≡ behind → whole ≡ args + behind + 1 → word (a + b + 1) ≡ word whole
plain_word a b l args behind whole ea eb el e =
    ap (λ n. word (n + b + 1)) ea
    ∙ ap (λ n. word (word args + n + 1)) (eb ∙ ap word el)
    ∙ sym (word_before (word args + word behind) 1)
    ∙ ap (λ n. word (n + 1)) (word_both args behind)
    ∙ word_before (args + behind) 1
    ∙ sym (ap word e)

-- Arguments that are left out

first_counted : (o : Option Value) (rest : List (Option Value)) → args_size (constants (o ∷ rest)) ≡ cond (is_some o) (1 + args_size (constants rest)) (args_size (constants rest))
first_counted None rest = refl
first_counted (Some (values.Int n)) rest = refl
first_counted (Some (values.Str text)) rest = refl

abbrev firsts_in : List code_param.Param → List (Option Value)
firsts_in ps = map (λ (p : Param). p.first) (map param_of ps)

all_counted : (ps : List code_param.Param) → args_size (constants (firsts_in ps)) ≡ count_by has_first ps
all_counted = is_count_by (λ ps. args_size (constants (firsts_in ps))) has_first refl (λ q ps. first_counted q.first (firsts_in ps))

-- the parameters behind so many
defaults_size : (given : ℕ) (ps : List code_param.Param) → args_size (constants (drop given (firsts_in ps))) ≡ count_by has_first (drop given ps)
defaults_size zero ps = all_counted ps
defaults_size (suc given) [] = refl
defaults_size (suc given) (q ∷ ps) = defaults_size given ps

-- of a function that is there
pub there_size : (fs : List code_function.Function) (f given : ℕ) (g : code_function.Function) → slice_get fs f ≡ Some g → args_size (left_out (heads_of fs) (to.function f) given) ≡ count_by has_first (drop given g.params)
there_size fs f given g e =
    ap (λ o. args_size (constants (drop given (firsts_of o)))) (get_map (λ (x : code_function.Function). map param_of x.params) fs f ∙ ap (option_map (λ (x : code_function.Function). map param_of x.params)) e)
    ∙ defaults_size given g.params

-- and of one that isn't
pub missing_size : (fs : List code_function.Function) (f given : ℕ) → slice_get fs f ≡ None → args_size (left_out (heads_of fs) (to.function f) given) ≡ 0
missing_size fs f given e =
    ap (λ o. args_size (constants (drop given (firsts_of o)))) (get_map (λ (x : code_function.Function). map param_of x.params) fs f ∙ ap (option_map (λ (x : code_function.Function). map param_of x.params)) e)
    ∙ none_behind given
  where
    none_behind : (n : ℕ) → args_size (constants (drop n [])) ≡ 0
    none_behind zero = refl
    none_behind (suc n) = refl
