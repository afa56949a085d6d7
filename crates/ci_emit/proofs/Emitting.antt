-- What is put down part after part is what is put down at once.
use Rattle.std.proofs.Common.{◌≡◌, ℕ, zero, suc, ◌+◌, ◌-◌, ◌<◌, ◌≤◌, List, [], ◌∷◌, ◌++◌, length, map, refl, sym, ap, ◌∙◌, arith, append_assoc, length-append}
use Rattle.std.specs.Prelude.{slice_get}
use Rattle.ci_base.specs.declared.value.Kind.{Kind}
use Rattle.ci_base.specs.declared.value.Kind.TheVariants.{Int, Str}
use Rattle.ci_code.specs.declared.instruction.Instruction.TheVariants as does
use Rattle.ci_translation.specs.Drafts.{Draft, step, links_leave, expr_size, links_size, expr_code, links_code}
use Rattle.ci_translation.specs.Instructions.{operating, operated, left_kind}
use Rattle.ci_emit.specs.Pads.{Pad, put_doing, put, wrote, with_step, with_text}
use Rattle.ci_translation.specs.Drafts.{Doing, push_text, plain}
use Rattle.ci_tree.specs.Bound as to
use Rattle.ci_tree.specs.Bound.{Link, links_from, Expr, exprs_from, Stmt, block_from, Param}
use Rattle.ci_tree.specs.SeenBound.{param_of}
use Rattle.ci_tree.specs.declared.bound.Param as code_param
use Rattle.ci_tree.specs.Sound.{Context}

-- two lists, one after the other
pub wrote_both : (pad : Pad) (xs ys : List Draft) → wrote pad (xs ++ ys) ≡ wrote (wrote pad xs) ys
wrote_both pad [] ys = refl
wrote_both pad (x ∷ xs) ys = wrote_both (put pad x) xs ys

put_length : (pad : Pad) (before : List Kind) (doing : Doing) → length (put_doing pad before doing).steps ≡ length pad.steps + 1
unfolding with_step with_text
put_length pad before (push_text text) = length-append pad.steps _
put_length pad before (plain what) = length-append pad.steps _

-- each is a step more
pub wrote_length : (pad : Pad) (ds : List Draft) → length (wrote pad ds).steps ≡ length pad.steps + length ds
wrote_length pad [] = omega arith
wrote_length pad (d ∷ ds) = let h = put_length pad d.before d.doing in let i = wrote_length (put pad d) ds in omega arith

-- one more member of a chain
pub links_more : (c : Context) (b : List Kind) (k : Kind) (p : ℕ) (links : List Link) (link : Link) → links_code c b k p (links_from (links ++ link ∷ [])) ≡ links_code c b k p (links_from links) ++ links_code c b (links_leave k (links_from links)) (p + links_size (links_from links)) (links_from (link ∷ []))
links_more c b k p [] link = let same : p ≡ p + 0 = omega arith in ap (λ n. links_code c b k n (links_from (link ∷ []))) same
links_more c b k p (to.operand_link op e ∷ links) link =
    let j : Kind = left_kind (operated op k) in
    let x : ℕ = p + expr_size e + 1 in
    let same : x + links_size (links_from links) ≡ p + (expr_size e + 1 + links_size (links_from links)) = omega arith in
    let tail : List Draft = links_code c b j x (links_from links) in
    let last : ℕ → List Draft = λ n. links_code c b (links_leave j (links_from links)) n (links_from (link ∷ [])) in
    ap (λ l. expr_code c (b ++ k ∷ []) p e ++ step (b ++ k ∷ k ∷ []) (operating op k) ∷ l) (links_more c b j x links link)
    ∙ sym (append_assoc (expr_code c (b ++ k ∷ []) p e) (step (b ++ k ∷ k ∷ []) (operating op k) ∷ tail) (last (x + links_size (links_from links))))
    ∙ ap (λ n. (expr_code c (b ++ k ∷ []) p e ++ step (b ++ k ∷ k ∷ []) (operating op k) ∷ tail) ++ last n) same
links_more c b k p (to.hashes_link count ∷ links) link =
    let same : p + 1 + links_size (links_from links) ≡ p + (1 + links_size (links_from links)) = omega arith in
    ap (λ l. step (b ++ Int ∷ []) (does.Form count) ∷ l) (links_more c b Str (p + 1) links link)
    ∙ ap (λ n. (step (b ++ Int ∷ []) (does.Form count) ∷ links_code c b Str (p + 1) (links_from links)) ++ links_code c b (links_leave Str (links_from links)) n (links_from (link ∷ []))) same

pub leave_more : (k : Kind) (links : List Link) (link : Link) → links_leave k (links_from (links ++ link ∷ [])) ≡ links_leave (links_leave k (links_from links)) (links_from (link ∷ []))
leave_more k [] link = refl
leave_more k (to.operand_link op e ∷ links) link = leave_more (left_kind (operated op k)) links link
leave_more k (to.hashes_link count ∷ links) link = leave_more Str links link

-- a member of two lists, one behind the other
pub get_both : {A : Type 0} (xs ys : List A) (i : ℕ) → length xs ≤ i → slice_get (xs ++ ys) i ≡ slice_get ys (i - length xs)
get_both [] ys i h = let e : i ≡ i - 0 = omega arith in ap (slice_get ys) e
get_both (x ∷ xs) ys zero h = absurd (omega arith)
get_both (x ∷ xs) ys (suc i) h = let e : i - length xs ≡ suc i - suc (length xs) = omega arith in get_both xs ys i (omega arith) ∙ ap (slice_get ys) e

pub get_front : {A : Type 0} (xs ys : List A) (i : ℕ) → i < length xs → slice_get (xs ++ ys) i ≡ slice_get xs i
get_front [] ys i h = absurd (omega arith)
get_front (x ∷ xs) ys zero h = refl
get_front (x ∷ xs) ys (suc i) h = get_front xs ys i (omega arith)

-- the kinds of parameters
pub kinds_seen : (ps : List code_param.Param) → map (λ (p : code_param.Param). p.kind) ps ≡ map (λ (p : Param). p.kind) (map param_of ps)
kinds_seen [] = refl
kinds_seen (p ∷ ps) = ap (λ l. p.kind ∷ l) (kinds_seen ps)
