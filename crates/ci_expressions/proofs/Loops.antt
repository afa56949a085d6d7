-- Loops that gather members, as the code has them, and as reading says them.
use Rattle.std.proofs.Common.{◌≡◌, ℕ, zero, suc, ◌<◌, ◌+◌, ◌-◌, Bool, true, false, List, [], ◌∷◌, ◌++◌, length, Option, Some, None, refl, sym, ap, ◌∙◌, subst, arith, append_assoc, append-nil}
use Rattle.std.specs.Prelude.{Ok, Err, cond, Result, IsTrue, map}
use Rattle.ci_tree.specs.Tree as to
use Rattle.ci_tree.specs.Tree.{links_from, exprs_from}
use Rattle.ci_tree.specs.declared.tree.Operator.{Operator}
use Rattle.ci_tree.specs.declared.tree.Link as code_link
use Rattle.ci_tree.specs.Seen.{links_of, link_of}
use Rattle.ci_tree.specs.declared.token.TokenKind.{TokenKind}
use Rattle.ci_tree.specs.Grammar.{Tokens, chained}
use Rattle.ci_tree.specs.Refused.{Refusal, begins, Joint, no_joint, by_operator, by_colon, joint, is_sign}
use Rattle.ci_tree.specs.Refused as ask
use Rattle.ci_tree.specs.declared.token.Sign.TheVariants as mark
use Rattle.ci_expressions.specs.declared.fault.ParseFault.{ParseFault}
use Rattle.ci_expressions.specs.declared.fault.ParseFault.TheVariants as faults
use Rattle.std.proofs.lemmas.List.{length-map}
use Rattle.std.specs.Option.{option_map}
use Rattle.ci_tree.specs.declared.token.Token.{Token}
use Rattle.ci_expressions.specs.Gives.{Gives, Fails, kinds}
use Rattle.ci_expressions.specs.Reading.{Found, Reader, ◌>>=◌, Step, gather, gathered, with_front, with_value, link_at, link_by, comma_step, rest, rest_by, others, members, arguments, more_arguments, unary, unary_on, base_of, hashes_at, expect}

pub unary_is : (d i : ℕ) (ts : Tokens) → unary d i ts ≡ unary_on (base_of d) i ts
unary_is zero i ts = refl
unary_is (suc d) i ts = refl

pub not_true : (b : Bool) → b ≡ false → IsTrue b → ⊥
not_true true e h = absurd (cc)
not_true false e h = absurd (cc)

-- a round that finds no member ends the loop
pub round_none : {X : Type 0} (step : Step X) (n i : ℕ) (ts : Tokens) (front : List X) (whole : Found (List X)) → with_front front (gather step n i ts) ≡ whole → step i ts ≡ Ok None → whole ≡ Ok (front, i, ts)
round_none step zero i ts front whole h e = sym h ∙ ap (λ xs. Ok (xs, i, ts)) (append-nil front)
round_none step (suc n) i ts front whole h e = sym h ∙ ap (λ r. with_front front (r >>= gathered i ts (gather step n))) e ∙ ap (λ xs. Ok (xs, i, ts)) (append-nil front)

-- the last round
pub round_last : {X : Type 0} (step : Step X) (n i : ℕ) (ts : Tokens) (front : List X) (whole : Found (List X)) → with_front front (gather step n i ts) ≡ whole → n ≡ zero → whole ≡ Ok (front, i, ts)
round_last step zero i ts front whole h e = sym h ∙ ap (λ xs. Ok (xs, i, ts)) (append-nil front)
round_last step (suc n) i ts front whole h e = absurd (omega arith)

-- a round that fails fails the loop
pub round_failed : {X : Type 0} (step : Step X) (n i : ℕ) (ts : Tokens) (front : List X) (whole : Found (List X)) (f : Refusal) → with_front front (gather step n i ts) ≡ whole → zero < n → step i ts ≡ Err f → whole ≡ Err f
round_failed step zero i ts front whole f h some e = absurd (omega arith)
round_failed step (suc n) i ts front whole f h some e = sym h ∙ ap (λ r. with_front front (r >>= gathered i ts (gather step n))) e

front_more : {X : Type 0} (front : List X) (x : X) (r : Found (List X)) → with_front (front ++ x ∷ []) r ≡ with_front front (r >>= (λ xs. Ok (x ∷ xs.0, xs.1, xs.2)))
front_more front x (Ok r) = ap (λ xs. Ok (xs, r.1, r.2)) (append_assoc front (x ∷ []) r.0)
front_more front x (Err f) = refl

-- a round that finds a member
pub round_some : {X : Type 0} (step : Step X) (n m i : ℕ) (ts : Tokens) (front : List X) (whole : Found (List X)) (x : X) (j : ℕ) (us : Tokens) → with_front front (gather step n i ts) ≡ whole → n ≡ suc m → step i ts ≡ Ok (Some (x, j, us)) → with_front (front ++ x ∷ []) (gather step m j us) ≡ whole
round_some step zero m i ts front whole x j us h e s = absurd (omega arith)
round_some step (suc n) m i ts front whole x j us h e s =
    let same : m ≡ n = omega arith in
    ap (λ k. with_front (front ++ x ∷ []) (gather step k j us)) same
    ∙ front_more front x (gather step n j us)
    ∙ sym (ap (λ r. with_front front (r >>= gathered i ts (gather step n))) s)
    ∙ h

-- the members of a chain

bound : {A B C : Type 0} (r : Result A Refusal) (f : A → Result B Refusal) (g : B → Result C Refusal) → ((r >>= f) >>= g) ≡ (r >>= (λ x. f x >>= g))
bound (Ok x) f g = refl
bound (Err e) f g = refl

same_then : {A B : Type 0} (r : Result A Refusal) (f g : A → Result B Refusal) → ((x : A) → f x ≡ g x) → (r >>= f) ≡ (r >>= g)
same_then (Ok x) f g h = h x
same_then (Err e) f g h = refl

operand_more : (i : ℕ) (op : Operator) (e : to.Expr) (r : Found (List to.Link)) → ((with_value links_from r) >>= (λ links. Ok (to.operand i op e links.0, links.1, links.2))) ≡ with_value links_from (r >>= (λ xs. Ok (to.operand_link i op e ∷ xs.0, xs.1, xs.2)))
operand_more i op e (Ok r) = refl
operand_more i op e (Err f) = refl

hashes_more : (i count : ℕ) (r : Found (List to.Link)) → ((with_value links_from r) >>= (λ links. Ok (to.hashes i count links.0, links.1, links.2))) ≡ with_value links_from (r >>= (λ xs. Ok (to.hashes_link i count ∷ xs.0, xs.1, xs.2)))
hashes_more i count (Ok r) = refl
hashes_more i count (Err f) = refl

rest_by_is : (member : Reader to.Expr) (behind : Reader to.Links) (next : Reader (List to.Link)) (i : ℕ) (ts : Tokens) (t : TokenKind) (j : Joint)
    → ((i : ℕ) (ts : Tokens) → behind i ts ≡ with_value links_from (next i ts))
    → rest_by member behind i ts t j ≡ with_value links_from (link_by member i ts j >>= gathered i (t ∷ ts) next)
rest_by_is member behind next i ts t no_joint same = refl
rest_by_is member behind next i ts t (by_operator op) same = by_member (member (suc i) ts)
  where
    by_member : (r : Found to.Expr) → (r >>= (λ e. behind e.1 e.2 >>= (λ links. Ok (to.operand i op e.0 links.0, links.1, links.2)))) ≡ with_value links_from ((r >>= (λ e. Ok (Some (to.operand_link i op e.0, e.1, e.2)))) >>= gathered i (t ∷ ts) next)
    by_member (Ok e) = ap (λ r. r >>= (λ links. Ok (to.operand i op e.0 links.0, links.1, links.2))) (same e.1 e.2) ∙ operand_more i op e.0 (next e.1 e.2)
    by_member (Err f) = refl
rest_by_is member behind next i ts t by_colon same = by_hashes (hashes_at (suc i) ts)
  where
    by_hashes : (r : Found ℕ) → (r >>= (λ e. behind e.1 e.2 >>= (λ links. Ok (to.hashes i e.0 links.0, links.1, links.2)))) ≡ with_value links_from ((r >>= (λ e. Ok (Some (to.hashes_link i e.0, e.1, e.2)))) >>= gathered i (t ∷ ts) next)
    by_hashes (Ok e) = ap (λ r. r >>= (λ links. Ok (to.hashes i e.0 links.0, links.1, links.2))) (same e.1 e.2) ∙ hashes_more i e.0 (next e.1 e.2)
    by_hashes (Err f) = refl

pub rest_is : (member : Reader to.Expr) (n fuel i : ℕ) (ts : Tokens) → rest member n fuel i ts ≡ with_value links_from (gather (link_at member n) fuel i ts)
rest_is member n zero i ts = refl
rest_is member n (suc fuel) i [] = refl
rest_is member n (suc fuel) i (t ∷ ts) = rest_by_is member (rest member n fuel) (gather (link_at member n) fuel) i ts t (joint n t) (rest_is member n fuel)

chained_from : (start : ℕ) (first : to.Expr) (at : ℕ) (l : to.Link) (ls : List to.Link) → chained start first at (links_from (l ∷ ls)) ≡ to.expr start at (to.chain first (links_from (l ∷ ls)))
chained_from start first at (to.operand_link i op right) ls = refl
chained_from start first at (to.hashes_link i count) ls = refl

pub chained_some : (start : ℕ) (first : to.Expr) (at : ℕ) (ls : List code_link.Link) → (ls ≡ [] → ⊥) → chained start first at (links_of ls) ≡ to.expr start at (to.chain first (links_of ls))
chained_some start first at [] some = absurd (some refl)
chained_some start first at (l ∷ ls) some = chained_from start first at (link_of l) (map link_of ls)

-- members behind commas

others_member : {X : Type 0} (behind next : Reader (List X)) (i : ℕ) (ts : Tokens) (r : Found X) → ((i : ℕ) (ts : Tokens) → behind i ts ≡ next i ts)
    → (r >>= (λ m. behind m.1 m.2 >>= (λ ms. Ok (m.0 ∷ ms.0, ms.1, ms.2)))) ≡ ((r >>= (λ m. Ok (Some m))) >>= gathered i ts next)
others_member behind next i ts (Ok m) same = ap (λ r. r >>= (λ ms. Ok (m.0 ∷ ms.0, ms.1, ms.2))) (same m.1 m.2)
others_member behind next i ts (Err f) same = refl

others_comma : {X : Type 0} (member : Reader X) (behind next : Reader (List X)) (i : ℕ) (ts : Tokens) (c : Result (ℕ × Tokens) Refusal) → ((i : ℕ) (ts : Tokens) → behind i ts ≡ next i ts)
    → (c >>= (λ comma. member comma.0 comma.1 >>= (λ m. behind m.1 m.2 >>= (λ ms. Ok (m.0 ∷ ms.0, ms.1, ms.2))))) ≡ ((c >>= (λ comma. member comma.0 comma.1 >>= (λ m. Ok (Some m)))) >>= gathered i ts next)
others_comma member behind next i ts (Ok comma) same = others_member behind next i ts (member comma.0 comma.1) same
others_comma member behind next i ts (Err f) same = refl

others_by : {X : Type 0} (member : Reader X) (behind next : Reader (List X)) (i : ℕ) (ts : Tokens) (b : Bool) → ((i : ℕ) (ts : Tokens) → behind i ts ≡ next i ts)
    → cond b (expect (is_sign mark.Comma) i ts >>= (λ comma. member comma.0 comma.1 >>= (λ m. behind m.1 m.2 >>= (λ ms. Ok (m.0 ∷ ms.0, ms.1, ms.2))))) (Ok ([], i, ts))
    ≡ (cond b (expect (is_sign mark.Comma) i ts >>= (λ comma. member comma.0 comma.1 >>= (λ m. Ok (Some m)))) (Ok None) >>= gathered i ts next)
others_by member behind next i ts true same = others_comma member behind next i ts (expect (is_sign mark.Comma) i ts) same
others_by member behind next i ts false same = refl

pub others_is : {X : Type 0} (member : Reader X) (fuel i : ℕ) (ts : Tokens) → others member fuel i ts ≡ gather (comma_step member) fuel i ts
others_is member zero i ts = refl
others_is member (suc fuel) i ts = others_by member (others member fuel) (gather (comma_step member) fuel) i ts (begins (ask.sign mark.Comma) ts) (others_is member fuel)

-- the first member, before the loop over the others
pub members_first : {X : Type 0} (member : Reader X) (i : ℕ) (ts : Tokens) (m : X) (j : ℕ) (us : Tokens) → member i ts ≡ Ok (m, j, us) → with_front (m ∷ []) (gather (comma_step member) (length us) j us) ≡ members member i ts
members_first member i ts m j us e =
    ap (λ r. with_front (m ∷ []) r) (sym (others_is member (length us) j us))
    ∙ front_one m (others member (length us) j us)
    ∙ sym (ap (λ r. r >>= (λ m. others member (length m.2) m.1 m.2 >>= (λ ms. Ok (m.0 ∷ ms.0, ms.1, ms.2)))) e)
  where
    front_one : {X : Type 0} (m : X) (r : Found (List X)) → with_front (m ∷ []) r ≡ (r >>= (λ ms. Ok (m ∷ ms.0, ms.1, ms.2)))
    front_one m (Ok r) = refl
    front_one m (Err f) = refl

-- arguments

more_by : (member : Reader to.Expr) (behind : Reader to.Exprs) (next : Reader (List to.Expr)) (i : ℕ) (ts : Tokens) (b : Bool) → ((i : ℕ) (ts : Tokens) → behind i ts ≡ with_value exprs_from (next i ts))
    → cond b (expect (is_sign mark.Comma) i ts >>= (λ comma. member comma.0 comma.1 >>= (λ e. behind e.1 e.2 >>= (λ others. Ok (to.more e.0 others.0, others.1, others.2))))) (Ok (to.no_expr, i, ts))
    ≡ with_value exprs_from (cond b (expect (is_sign mark.Comma) i ts >>= (λ comma. member comma.0 comma.1 >>= (λ m. next m.1 m.2 >>= (λ ms. Ok (m.0 ∷ ms.0, ms.1, ms.2))))) (Ok ([], i, ts)))
more_by member behind next i ts false same = refl
more_by member behind next i ts true same = by_comma member behind next (expect (is_sign mark.Comma) i ts) same
  where
    by_next : (e : to.Expr) (r : Found (List to.Expr)) → ((with_value exprs_from r) >>= (λ others. Ok (to.more e others.0, others.1, others.2))) ≡ with_value exprs_from (r >>= (λ ms. Ok (e ∷ ms.0, ms.1, ms.2)))
    by_next e (Ok r) = refl
    by_next e (Err f) = refl

    by_member : (behind : Reader to.Exprs) (next : Reader (List to.Expr)) (r : Found to.Expr) → ((i : ℕ) (ts : Tokens) → behind i ts ≡ with_value exprs_from (next i ts))
        → (r >>= (λ e. behind e.1 e.2 >>= (λ others. Ok (to.more e.0 others.0, others.1, others.2)))) ≡ with_value exprs_from (r >>= (λ m. next m.1 m.2 >>= (λ ms. Ok (m.0 ∷ ms.0, ms.1, ms.2))))
    by_member behind next (Ok e) same = ap (λ r. r >>= (λ others. Ok (to.more e.0 others.0, others.1, others.2))) (same e.1 e.2) ∙ by_next e.0 (next e.1 e.2)
    by_member behind next (Err f) same = refl

    by_comma : (member : Reader to.Expr) (behind : Reader to.Exprs) (next : Reader (List to.Expr)) (c : Result (ℕ × Tokens) Refusal) → ((i : ℕ) (ts : Tokens) → behind i ts ≡ with_value exprs_from (next i ts))
        → (c >>= (λ comma. member comma.0 comma.1 >>= (λ e. behind e.1 e.2 >>= (λ others. Ok (to.more e.0 others.0, others.1, others.2))))) ≡ with_value exprs_from (c >>= (λ comma. member comma.0 comma.1 >>= (λ m. next m.1 m.2 >>= (λ ms. Ok (m.0 ∷ ms.0, ms.1, ms.2)))))
    by_comma member behind next (Ok comma) same = by_member behind next (member comma.0 comma.1) same
    by_comma member behind next (Err f) same = refl

more_is : (member : Reader to.Expr) (fuel i : ℕ) (ts : Tokens) → more_arguments member fuel i ts ≡ with_value exprs_from (others member fuel i ts)
more_is member zero i ts = refl
more_is member (suc fuel) i ts = more_by member (more_arguments member fuel) (others member fuel) i ts (begins (ask.sign mark.Comma) ts) (more_is member fuel)

arguments_by : (member : Reader to.Expr) (r : Found to.Expr) → (r >>= (λ e. more_arguments member (length e.2) e.1 e.2 >>= (λ others. Ok (to.more e.0 others.0, others.1, others.2)))) ≡ with_value exprs_from (r >>= (λ m. others member (length m.2) m.1 m.2 >>= (λ ms. Ok (m.0 ∷ ms.0, ms.1, ms.2))))
arguments_by member (Err f) = refl
arguments_by member (Ok e) = ap (λ r. r >>= (λ others. Ok (to.more e.0 others.0, others.1, others.2))) (more_is member (length e.2) e.1 e.2) ∙ by_next e.0 (others member (length e.2) e.1 e.2)
  where
    by_next : (e : to.Expr) (r : Found (List to.Expr)) → ((with_value exprs_from r) >>= (λ others. Ok (to.more e others.0, others.1, others.2))) ≡ with_value exprs_from (r >>= (λ ms. Ok (e ∷ ms.0, ms.1, ms.2)))
    by_next e (Ok r) = refl
    by_next e (Err f) = refl

-- arguments, where there are some, are members
pub arguments_some : (member : Reader to.Expr) (i : ℕ) (ts : Tokens) → begins ask.arguments ts ≡ true → arguments member i ts ≡ with_value exprs_from (members member i ts)
arguments_some member i ts e = ap (λ b. cond b (member i ts >>= (λ e. more_arguments member (length e.2) e.1 e.2 >>= (λ others. Ok (to.more e.0 others.0, others.1, others.2)))) (Ok (to.no_expr, i, ts))) e ∙ arguments_by member (member i ts)

-- The loop of the code: a round that finds a member, one that fails, the start and the end.

pub goes_on : {X : Type 0} (step : Step X) (front : List X) (count k at : ℕ) (ts : Tokens) (x : X) (j : ℕ) (us : Tokens) (total : Found (List X)) → k < count → step at ts ≡ Ok (Some (x, j, us))
    → with_front front (gather step (count - k) at ts) ≡ total → with_front (front ++ x ∷ []) (gather step (count - (k + 1)) j us) ≡ total
goes_on step front count k at ts x j us total less found so_far =
    let e : count - k ≡ suc (count - (k + 1)) = omega arith in
    round_some step (count - k) (count - (k + 1)) at ts front total x j us so_far e found

pub fails : {X : Type 0} (e : ParseFault) (step : Step X) (front : List X) (count k at : ℕ) (ts : Tokens) (total : Found (List X)) → k < count → Fails e (step at ts)
    → with_front front (gather step (count - k) at ts) ≡ total → Fails e total
fails faults.Memory step front count k at ts total less failed so_far = tt
fails faults.UnexpectedEnd step front count k at ts total less failed so_far =
    let some : zero < count - k = omega arith in
    round_failed step (count - k) at ts front total ask.unexpected_end so_far some failed
fails (faults.Unexpected n) step front count k at ts total less failed so_far =
    let some : zero < count - k = omega arith in
    round_failed step (count - k) at ts front total (ask.unexpected n) so_far some failed
fails (faults.TooDeep n) step front count k at ts total less failed so_far =
    let some : zero < count - k = omega arith in
    round_failed step (count - k) at ts front total (ask.too_deep n) so_far some failed

pub begin : {X : Type 0} (step : Step X) (front front' : List X) (n n' j : ℕ) (us : Tokens) (total : Found (List X)) → front ≡ front' → n ≡ n' → with_front front' (gather step n' j us) ≡ total → with_front front (gather step n j us) ≡ total
begin step front front' n n' j us total e f h = ap (λ xs. with_front xs (gather step n j us)) e ∙ ap (λ m. with_front front' (gather step m j us)) f ∙ h

pub no_front : {X : Type 0} (r : Found (List X)) → with_front [] r ≡ r
no_front (Ok r) = refl
no_front (Err f) = refl

-- another value of what was found, seen by the code
pub gives_value : {X Y Z : Type 0} (view : X → Y × ℕ × Tokens) (f : Y → Z) (r : Result X ParseFault) (found : Found Y) → Gives view r found → Gives (λ x. (f (view x).0, (view x).1, (view x).2)) r (with_value f found)
gives_value view f (Ok x) found h = ap (with_value f) h
gives_value view f (Err faults.Memory) found h = tt
gives_value view f (Err faults.UnexpectedEnd) found h = ap (with_value f) h
gives_value view f (Err (faults.Unexpected n)) found h = ap (with_value f) h
gives_value view f (Err (faults.TooDeep n)) found h = ap (with_value f) h

-- what is read is the same
pub gives_same : {X Y : Type 0} (view : X → Y) (r : Result X ParseFault) (one other : Result Y Refusal) → one ≡ other → Gives view r one → Gives view r other
gives_same view r one other e h = subst (λ x. Gives view r x) e h

pub found_some : {X Y : Type 0} (view : X → Y) (o : Option X) (x : X) (r : Result (Option Y) Refusal) → r ≡ Ok (option_map view o) → o ≡ Some x → r ≡ Ok (Some (view x))
found_some view o x r e h = e ∙ ap (λ o. Ok (option_map view o)) h

pub found_none : {X Y : Type 0} (view : X → Y) (o : Option X) (r : Result (Option Y) Refusal) → r ≡ Ok (option_map view o) → o ≡ None → r ≡ Ok None
found_none view o r e h = e ∙ ap (λ o. Ok (option_map view o)) h

pub goes_on_with : {X : Type 0} (step : Step X) (front front' : List X) (count k at : ℕ) (ts : Tokens) (x : X) (j : ℕ) (us : Tokens) (total : Found (List X)) → front' ≡ front ++ x ∷ [] → k < count → step at ts ≡ Ok (Some (x, j, us))
    → with_front front (gather step (count - k) at ts) ≡ total → with_front front' (gather step (count - (k + 1)) j us) ≡ total
goes_on_with step front front' count k at ts x j us total e less found so_far = ap (λ xs. with_front xs (gather step (count - (k + 1)) j us)) e ∙ goes_on step front count k at ts x j us total less found so_far

pub length_kinds : (ts : List Token) → length ts - 0 ≡ length (kinds ts)
length_kinds ts = omega (arith, length-map ts (λ (t : Token). t.what))
