-- What is put down in turn.
use Rattle.std.proofs.Common.{◌≡◌, ℕ, suc, ◌+◌, List, [], ◌∷◌, ◌++◌, length, map, take, Result, Ok, Err, OnOk, refl, sym, ap, ◌∙◌, subst, arith, append_assoc}
use Rattle.std.proofs.lemmas.List.{append-nil, take_at}
use Rattle.ci_base.specs.declared.value.Kind.{Kind}
use Rattle.ci_translation.proofs.Lists.{length_mapped}
use Rattle.ci_translation.proofs.Sizes.{expr_length, args_length}
use Rattle.ci_translation.specs.Drafts.{Draft, step, kind_in, kinds_in, expr_size, args_size, expr_code, args_code, call_code, links_code}
use Rattle.ci_translation.specs.Instructions.{calling}
use Rattle.ci_emit.proofs.Emitting.{wrote_both, wrote_length}
use Rattle.ci_emit.specs.Pads.{Pad, wrote}
use Rattle.ci_emit.specs.Writing.{Writing, Writes, Argues}
use Rattle.ci_tree.specs.Bound as to
use Rattle.ci_tree.specs.Bound.{Callee, Call, Links, Expr, Exprs, exprs_from}
use Rattle.ci_tree.specs.LeftOut.{Heads, call_given, count_of, followed, left_out}
use Rattle.ci_tree.specs.SeenBound.{expr_of, exprs_of}
use Rattle.ci_tree.specs.declared.bound.Expr as code
use Rattle.ci_tree.specs.Sound.{Context, call_kind, signature, gives_of}

-- two parts, of which the first has so many places
pub in_turn : {w v u : Writing} {f g : List Kind → ℕ → List Draft} (n : ℕ) → length (f w.below (length w.pad.steps)) ≡ n → Writes w v f → Writes v u g → Writes w u (λ b p. f b p ++ g b (p + n))
in_turn {w} {v} {u} {f} {g} n size first second =
    let b : List Kind = w.below in
    let p : ℕ = length w.pad.steps in
    let place : length v.pad.steps ≡ p + n = ap (λ (x : Pad). length x.steps) first.pad ∙ wrote_length w.pad (f b p) ∙ ap (λ m. p + m) size in
    record {
      pad = second.pad ∙ (λ i. wrote (first.pad i) (g (first.below i) (place i))) ∙ sym (wrote_both w.pad (f b p) (g b (p + n)));
      below = second.below ∙ first.below;
    }

-- nothing
pub nothing : {w : Writing} → Writes w w (λ b p. [])
nothing {w} = record { pad = refl; below = refl }

-- the same code, told in another way
pub same_code : {w u : Writing} (f g : List Kind → ℕ → List Draft) → f w.below (length w.pad.steps) ≡ g w.below (length w.pad.steps) → Writes w u f → Writes w u g
same_code {w} {u} f g same h = record { pad = h.pad ∙ ap (wrote w.pad) same; below = h.below }

-- code that is told at the place where it is put down
pub here : {w u : Writing} (f : List Kind → ℕ → List Draft) → Writes w u (λ b p. f b (length w.pad.steps)) → Writes w u f
here f h = record { pad = h.pad; below = h.below }

-- one instruction, and a part behind it
pub one_then : {w v u : Writing} {d : List Kind → ℕ → Draft} {g : List Kind → ℕ → List Draft} → Writes w v (λ b p. d b p ∷ []) → Writes v u g → Writes w u (λ b p. d b p ∷ g b (p + 1))
one_then {w} {v} {u} {d} {g} first second = in_turn {f = λ b p. d b p ∷ []} {g = g} 1 refl first second

-- an expression, and a part behind it
pub expr_then : {w v u : Writing} {g : List Kind → ℕ → List Draft} (c : Context) (ks : List Kind) (e : Expr) → Writes w v (λ b p. expr_code c (b ++ ks) p e) → Writes v u g → Writes w u (λ b p. expr_code c (b ++ ks) p e ++ g b (p + expr_size e))
expr_then {w} {v} {u} {g} c ks e first second = in_turn {f = λ b p. expr_code c (b ++ ks) p e} {g = g} (expr_size e) (expr_length c (w.below ++ ks) (length w.pad.steps) e) first second

pub plain_then : {w v u : Writing} {g : List Kind → ℕ → List Draft} (c : Context) (e : Expr) → Writes w v (λ b p. expr_code c b p e) → Writes v u g → Writes w u (λ b p. expr_code c b p e ++ g b (p + expr_size e))
plain_then {w} {v} {u} {g} c e first second = in_turn {f = λ b p. expr_code c b p e} {g = g} (expr_size e) (expr_length c w.below (length w.pad.steps) e) first second

-- a part over more operands, which stand there while it is put down
pub over : {w v u x : Writing} {f : List Kind → ℕ → List Draft} (ks : List Kind) (n : ℕ) → n ≡ length w.below → v.pad ≡ w.pad → v.below ≡ w.below ++ ks → Writes v u f → x.pad ≡ u.pad → x.below ≡ take n u.below → Writes w x (λ b p. f (b ++ ks) p)
over {w} {v} {u} {x} {f} ks n depth pad below inside pad' below' = record {
  pad = pad' ∙ inside.pad ∙ (λ i. wrote (pad i) (f (below i) (length (pad i).steps)));
  below = below' ∙ ap (take n) (inside.below ∙ below) ∙ take_at w.below ks n (sym depth);
}

-- Arguments

-- none
pub argued_none : {w : Writing} (c : Context) → Argues c w w to.no_expr
argued_none {w} c = record { pad = refl; below = sym (append-nil w.below) }

-- one
pub argued_one : {w v u : Writing} (c : Context) (e : Expr) → Writes w v (λ b p. expr_code c b p e) → u.pad ≡ v.pad → u.below ≡ v.below ++ kind_in c e ∷ [] → Argues c w u (to.more e to.no_expr)
argued_one {w} {v} {u} c e put pad below = record {
  pad = pad ∙ put.pad ∙ ap (wrote w.pad) (sym (append-nil (expr_code c w.below (length w.pad.steps) e)));
  below = below ∙ ap (λ l. l ++ kind_in c e ∷ []) put.below;
}

kinds_both : (c : Context) (xs ys : Exprs) → kinds_in c (followed xs ys) ≡ kinds_in c xs ++ kinds_in c ys
kinds_both c to.no_expr ys = refl
kinds_both c (to.more e xs) ys = ap (λ l. kind_in c e ∷ l) (kinds_both c xs ys)

args_both : (c : Context) (b : List Kind) (p : ℕ) (xs ys : Exprs) → args_code c b p (followed xs ys) ≡ args_code c b p xs ++ args_code c (b ++ kinds_in c xs) (p + args_size xs) ys
args_both c b p to.no_expr ys = let place : p ≡ p + 0 = omega arith in ap (λ l. args_code c l p ys) (sym (append-nil b)) ∙ ap (λ m. args_code c (b ++ []) m ys) place
args_both c b p (to.more e xs) ys =
    let k : List Kind = b ++ kind_in c e ∷ [] in
    let x : ℕ = p + expr_size e in
    let place : x + args_size xs ≡ p + (expr_size e + args_size xs) = omega arith in
    ap (λ l. expr_code c b p e ++ l) (args_both c k x xs ys ∙ (λ i. args_code c k x xs ++ args_code c (append_assoc b (kind_in c e ∷ []) (kinds_in c xs) i) (place i) ys))
    ∙ sym (append_assoc (expr_code c b p e) (args_code c k x xs) (args_code c (b ++ kind_in c e ∷ kinds_in c xs) (p + (expr_size e + args_size xs)) ys))

-- some, and others behind them
pub argued_both : {w v u : Writing} (c : Context) (xs ys : Exprs) → Argues c w v xs → Argues c v u ys → Argues c w u (followed xs ys)
argued_both {w} {v} {u} c xs ys first second =
    let b : List Kind = w.below in
    let p : ℕ = length w.pad.steps in
    let place : length v.pad.steps ≡ p + args_size xs = ap (λ (x : Pad). length x.steps) first.pad ∙ wrote_length w.pad (args_code c b p xs) ∙ ap (λ m. p + m) (args_length c b p xs) in
    record {
      pad =
          second.pad
          ∙ (λ i. wrote (first.pad i) (args_code c (first.below i) (place i) ys))
          ∙ sym (wrote_both w.pad (args_code c b p xs) (args_code c (b ++ kinds_in c xs) (p + args_size xs) ys))
          ∙ ap (wrote w.pad) (sym (args_both c b p xs ys));
      below =
          second.below
          ∙ ap (λ l. l ++ kinds_in c ys) first.below
          ∙ append_assoc b (kinds_in c xs) (kinds_in c ys)
          ∙ ap (λ l. b ++ l) (sym (kinds_both c xs ys));
    }

-- arguments, and the call that takes them
pub argued_call : {w v u x : Writing} (c : Context) (callee : Callee) (given : ℕ) (args : Exprs) (n : ℕ) → n ≡ length w.below → Argues c w v args → Writes v u (λ b p. step b (calling callee) ∷ []) → x.pad ≡ u.pad → x.below ≡ take n u.below → Writes w x (λ b p. call_code c b p (to.call callee given args))
argued_call {w} {v} {u} {x} c callee given args n depth first call pad below =
    let b : List Kind = w.below in
    let p : ℕ = length w.pad.steps in
    record {
      pad =
          pad
          ∙ call.pad
          ∙ (λ i. wrote (first.pad i) (step (first.below i) (calling callee) ∷ []))
          ∙ sym (wrote_both w.pad (args_code c b p args) (step (b ++ kinds_in c args) (calling callee) ∷ []));
      below = below ∙ ap (take n) (call.below ∙ first.below) ∙ take_at b (kinds_in c args) n (sym depth);
    }

-- a call with these arguments in the source
counted : (es : List Expr) → count_of (exprs_from es) ≡ length es
counted [] = refl
counted (e ∷ es) = ap suc (counted es)

pub given_call : (c : Context) (hs : Heads) (callee : Callee) (args : List code.Expr) (w x : Writing) → Writes w x (λ b p. call_code c b p (to.call callee (count_of (exprs_of hs args)) (followed (exprs_of hs args) (left_out hs callee (length args))))) → Writes w x (λ b p. call_code c b p (call_given hs callee (exprs_of hs args)))
unfolding call_given
given_call c hs callee args w x h =
    let n : count_of (exprs_of hs args) ≡ length args = counted (map (expr_of hs) args) ∙ length_mapped (expr_of hs) args in
    subst (λ (m : ℕ). Writes w x (λ b p. call_code c b p (to.call callee (count_of (exprs_of hs args)) (followed (exprs_of hs args) (left_out hs callee m))))) (sym n) h

pub given_kind : (c : Context) (hs : Heads) (callee : Callee) (args : Exprs) → call_kind c (call_given hs callee args) ≡ gives_of (signature c callee)
unfolding call_given
given_kind c hs callee args = refl

-- The same of a part that is seen in another way

pub is_expr : (c : Context) (w u : Writing) (x y : Expr) → x ≡ y → Writes w u (λ b p. expr_code c b p y) → Writes w u (λ b p. expr_code c b p x)
is_expr c w u x y e h = subst (λ (z : Expr). Writes w u (λ b p. expr_code c b p z)) (sym e) h

pub is_call : (c : Context) (w u : Writing) (x y : Call) → x ≡ y → Writes w u (λ b p. call_code c b p y) → Writes w u (λ b p. call_code c b p x)
is_call c w u x y e h = subst (λ (z : Call). Writes w u (λ b p. call_code c b p z)) (sym e) h

pub seen_expr : {R E : Type 0} (r : Result R E) (c : Context) (w u : Writing) (x y : Expr) → x ≡ y → OnOk r (Writes w u (λ b p. expr_code c b p y)) → OnOk r (Writes w u (λ b p. expr_code c b p x))
seen_expr r c w u x y e h = subst (λ (z : Expr). OnOk r (Writes w u (λ b p. expr_code c b p z))) (sym e) h

pub seen_call : {R E : Type 0} (r : Result R E) (c : Context) (w u : Writing) (x y : Call) → x ≡ y → OnOk r (Writes w u (λ b p. call_code c b p y)) → OnOk r (Writes w u (λ b p. call_code c b p x))
seen_call r c w u x y e h = subst (λ (z : Call). OnOk r (Writes w u (λ b p. call_code c b p z))) (sym e) h

pub seen_links : {R E : Type 0} (r : Result R E) (c : Context) (k : Kind) (w u : Writing) (x y : Links) → x ≡ y → OnOk r (Writes w u (λ b p. links_code c b k p y)) → OnOk r (Writes w u (λ b p. links_code c b k p x))
seen_links r c k w u x y e h = subst (λ (z : Links). OnOk r (Writes w u (λ b p. links_code c b k p z))) (sym e) h

-- a chain: its first member, and the others behind what that leaves
pub links_put : {R E : Type 0} (r : Result R E) (c : Context) (w v u : Writing) (k : Kind) (e : Expr) (rest : Links) → Writes w v (λ b p. expr_code c b p e) → k ≡ kind_in c e → OnOk r (Writes v u (λ b p. links_code c b k p rest)) → OnOk r (Writes w u (λ b p. expr_code c b p (to.chain e rest)))
links_put (Ok x) c w v u k e rest first kind second = plain_then c e first (subst (λ (j : Kind). Writes v u (λ b p. links_code c b j p rest)) kind second)
links_put (Err x) c w v u k e rest first kind second = second
