-- Widths of calls with arguments that are left out.
use Rattle.std.proofs.Common.{◌≡◌, ℕ, suc, ◌+◌, List, [], ◌∷◌, length, refl, sym, ap, subst, arith}
use Rattle.std.specs.Prelude.{max}
use Rattle.ci_tree.specs.declared.bound.Expr as code_expr
use Rattle.ci_tree.specs.Bound as to
use Rattle.ci_tree.specs.Bound.{Call, Callee, Exprs}
use Rattle.ci_tree.specs.LeftOut.{Heads, followed, left_out, count_of, call_given}
use Rattle.ci_tree.specs.SeenBound.{exprs_of}
use Rattle.ci_tree.specs.Rooms.{call_width, args_width}

-- arguments, and others behind them
pub args_followed : (w : ℕ) (a b : Exprs) (n : ℕ) → n ≡ w + count_of a → args_width w (followed a b) ≡ max (args_width w a) (args_width n b)
args_followed w to.no_expr b n e =
    let same : n ≡ w = omega (arith, e) in
    subst (λ k. args_width w b ≡ max 0 (args_width k b)) (sym same) (omega arith)
args_followed w (to.more first rest) b n e =
    let behind = args_followed (w + 1) rest b n (omega (arith, e)) in
    omega (arith, behind)

count_args : (heads : Heads) (args : List code_expr.Expr) → count_of (exprs_of heads args) ≡ length args
count_args heads [] = refl
count_args heads (e ∷ es) = ap (λ n. suc n) (count_args heads es)

-- arguments, and values for those that are left out
pub args_whole : (heads : Heads) (callee : Callee) (args : List code_expr.Expr) →
    args_width 0 (followed (exprs_of heads args) (left_out heads callee (length args))) ≡ max (args_width 0 (exprs_of heads args)) (args_width (length args) (left_out heads callee (length args)))
args_whole heads callee args =
    args_followed 0 (exprs_of heads args) (left_out heads callee (length args)) (length args) (omega (arith, count_args heads args))

-- a call with these arguments in the source
pub given_call : (heads : Heads) (callee : Callee) (args : List code_expr.Expr) →
    call_given heads callee (exprs_of heads args) ≡ to.call callee (length args) (followed (exprs_of heads args) (left_out heads callee (length args)))
unfolding call_given
given_call heads callee args = ap (λ n. to.call callee n (followed (exprs_of heads args) (left_out heads callee n))) (count_args heads args)

pub given_width : (heads : Heads) (callee : Callee) (args : List code_expr.Expr) →
    call_width (call_given heads callee (exprs_of heads args)) ≡ max 1 (args_width 0 (followed (exprs_of heads args) (left_out heads callee (length args))))
given_width heads callee args = ap (λ (x : Call). call_width x) (given_call heads callee args)
