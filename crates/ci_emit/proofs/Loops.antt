-- Lists of parts that are put down one after another: what the first ones have put down, with what the others put down, is that of all.
use Rattle.std.proofs.Common.{◌≡◌, ℕ, zero, suc, ◌+◌, ◌<◌, List, [], ◌∷◌, ◌++◌, length, map, drop, get_or, Option, Some, None, refl, sym, ap, ◌∙◌, subst, arith, append_assoc}
use Rattle.std.proofs.lemmas.List.{drop_more}
use Rattle.ci_base.specs.declared.value.Kind.{Kind}
use Rattle.ci_base.specs.declared.value.Value.{Value}
use Rattle.ci_translation.proofs.Sizes.{links_length}
use Rattle.ci_translation.specs.Drafts.{step, links_leave, expr_size, links_size, expr_code, links_code}
use Rattle.ci_translation.specs.Instructions.{operating, operated, left_kind}
use Rattle.ci_emit.proofs.Writings.{in_turn, same_code, nothing, argued_none, argued_both}
use Rattle.ci_emit.specs.Writing.{Writing, Writes, Argues}
use Rattle.ci_tree.specs.Bound as to
use Rattle.ci_tree.specs.Bound.{Link, Links, links_from, Expr, Exprs}
use Rattle.ci_tree.specs.LeftOut.{followed, constants, firsts_of, left_out}
use Rattle.ci_tree.specs.SeenBound.{param_of, heads_of}
use Rattle.ci_tree.specs.declared.bound.Function as code_function
use Rattle.ci_translation.proofs.Lists.{get_map}
use Rattle.std.specs.Prelude.{slice_get, option_map}
use Rattle.ci_tree.specs.Sound.{Context}

-- the member of a loop is the first of what is left
pub next : {A : Type 0} (xs : List A) (i : ℕ) (x : A) → x ≡ get_or xs i x → i < length xs → drop i xs ≡ x ∷ drop (i + 1) xs
next xs i x is within = drop_more xs i x within ∙ ap (λ y. y ∷ drop (i + 1) xs) (sym is)

-- Arguments

pub record ArgsAt (c : Context) (w v : Writing) (all rest : Exprs) : Type 0 where
  pub goes : (x : Writing) → Argues c v x rest → Argues c w x all

pub args_next : (c : Context) (w v u : Writing) (all now rest left : Exprs) → left ≡ followed now rest → Argues c v u now → ArgsAt c w v all left → ArgsAt c w u all rest
args_next c w v u all now rest left is one at = record {
  goes = λ x h. at.goes x (subst (λ (l : Exprs). Argues c v x l) (sym is) (argued_both c now rest one h));
}

pub args_done : (c : Context) (w v : Writing) (all left : Exprs) → left ≡ to.no_expr → ArgsAt c w v all left → Argues c w v all
args_done c w v all left is at = at.goes v (subst (λ (l : Exprs). Argues c v v l) (sym is) (argued_none c))

-- The members of a chain

pub record LinksAt (c : Context) (w v : Writing) (j k : Kind) (all rest : Links) : Type 0 where
  pub goes : (x : Writing) → Writes v x (λ b p. links_code c b k p rest) → Writes w x (λ b p. links_code c b j p all)
  pub leaves : links_leave k rest ≡ links_leave j all

one_more : (c : Context) (b : List Kind) (k : Kind) (p : ℕ) (link : Link) (rest : List Link) → links_code c b k p (links_from (link ∷ [])) ++ links_code c b (links_leave k (links_from (link ∷ []))) (p + links_size (links_from (link ∷ []))) (links_from rest) ≡ links_code c b k p (links_from (link ∷ rest))
one_more c b k p (to.operand_link op e) rest =
    let j : Kind = left_kind (operated op k) in
    let place : p + (expr_size e + 1 + 0) ≡ p + expr_size e + 1 = omega arith in
    append_assoc (expr_code c (b ++ k ∷ []) p e) (step (b ++ k ∷ k ∷ []) (operating op k) ∷ []) (links_code c b j (p + (expr_size e + 1 + 0)) (links_from rest))
    ∙ ap (λ n. expr_code c (b ++ k ∷ []) p e ++ step (b ++ k ∷ k ∷ []) (operating op k) ∷ links_code c b j n (links_from rest)) place
one_more c b k p (to.hashes_link count) rest = refl

leaves_more : (k : Kind) (link : Link) (rest : List Link) → links_leave k (links_from (link ∷ rest)) ≡ links_leave (links_leave k (links_from (link ∷ []))) (links_from rest)
leaves_more k (to.operand_link op e) rest = refl
leaves_more k (to.hashes_link count) rest = refl

pub links_next : (c : Context) (w v u : Writing) (j k k' : Kind) (all left : Links) (link : Link) (rest : List Link) → left ≡ links_from (link ∷ rest) → Writes v u (λ b p. links_code c b k p (links_from (link ∷ []))) → k' ≡ links_leave k (links_from (link ∷ [])) → LinksAt c w v j k all left → LinksAt c w u j k' all (links_from rest)
links_next c w v u j k k' all left link rest is one leaves at = record {
  goes = λ x h. at.goes x (subst (λ (l : Links). Writes v x (λ b p. links_code c b k p l)) (sym is) (link_then x (subst (λ (m : Kind). Writes u x (λ b p. links_code c b m p (links_from rest))) leaves h)));
  leaves = ap (λ m. links_leave m (links_from rest)) leaves ∙ sym (leaves_more k link rest) ∙ ap (links_leave k) (sym is) ∙ at.leaves;
}
  where
    link_then : (x : Writing) → Writes u x (λ b p. links_code c b (links_leave k (links_from (link ∷ []))) p (links_from rest)) → Writes v x (λ b p. links_code c b k p (links_from (link ∷ rest)))
    link_then x h =
        same_code (λ b p. links_code c b k p (links_from (link ∷ [])) ++ links_code c b (links_leave k (links_from (link ∷ []))) (p + links_size (links_from (link ∷ []))) (links_from rest)) (λ b p. links_code c b k p (links_from (link ∷ rest)))
        (one_more c v.below k (length v.pad.steps) link rest)
        (in_turn {f = λ b p. links_code c b k p (links_from (link ∷ []))} {g = λ b p. links_code c b (links_leave k (links_from (link ∷ []))) p (links_from rest)} (links_size (links_from (link ∷ []))) (links_length c v.below k (length v.pad.steps) (links_from (link ∷ []))) one h)

pub links_done : (c : Context) (w v : Writing) (j k : Kind) (all left : Links) → left ≡ to.no_link → LinksAt c w v j k all left → Writes w v (λ b p. links_code c b j p all) × (k ≡ links_leave j all)
links_done c w v j k all left is at = (at.goes v (subst (λ (l : Links). Writes v v (λ b p. links_code c b k p l)) (sym is) nothing), ap (links_leave k) (sym is) ∙ at.leaves)

-- Values for arguments that are left out

pub constants_more : (first : Option Value) (rest : List (Option Value)) → constants (first ∷ rest) ≡ followed (constants (first ∷ [])) (constants rest)
constants_more None rest = refl
constants_more (Some value) rest = refl

pub drop_mapped : {X Y : Type 0} (f : X → Y) (n : ℕ) (xs : List X) → drop n (map f xs) ≡ map f (drop n xs)
drop_mapped f zero xs = refl
drop_mapped f (suc n) [] = refl
drop_mapped f (suc n) (x ∷ xs) = drop_mapped f n xs

drop_none : (n : ℕ) → drop {A = Option Value} n [] ≡ []
drop_none zero = refl
drop_none (suc n) = refl

-- what the function of this number leaves out
pub left_there : (fs : List code_function.Function) (f : ℕ) (there : code_function.Function) (given : ℕ) → slice_get fs f ≡ Some there → left_out (heads_of fs) (to.function f) given ≡ constants (drop given (map (λ (p : to.Param). p.first) (map param_of there.params)))
left_there fs f there given e =
    ap (λ ps. constants (drop given (firsts_of ps))) (get_map (λ (x : code_function.Function). map param_of x.params) fs f ∙ ap (option_map (λ (x : code_function.Function). map param_of x.params)) e)

pub left_missing : (fs : List code_function.Function) (f given : ℕ) → slice_get fs f ≡ None → left_out (heads_of fs) (to.function f) given ≡ to.no_expr
left_missing fs f given e =
    ap (λ ps. constants (drop given (firsts_of ps))) (get_map (λ (x : code_function.Function). map param_of x.params) fs f ∙ ap (option_map (λ (x : code_function.Function). map param_of x.params)) e) ∙ ap constants (drop_none given)
