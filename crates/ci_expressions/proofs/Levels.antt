-- Levels of expressions, as the code reads them: a member of Unary, and behind it a chain of each group that goes on with it.
use Rattle.std.proofs.Common.{◌≡◌, ℕ, zero, suc, ◌<◌, ◌≤◌, ◌+◌, ◌-◌, false, length, [], ◌∷◌, refl, sym, ap, ◌∙◌, subst, arith}
use Rattle.std.specs.Prelude.{Ok, Err}
use Rattle.ci_tree.specs.Tree as to
use Rattle.ci_tree.specs.declared.token.TokenKind.{TokenKind}
use Rattle.ci_tree.specs.Grammar.{Tokens, chained}
use Rattle.ci_tree.specs.Refused as ask
use Rattle.ci_tree.specs.Refused.{Refusal, begins, has_rule, joint_rule, Joint, no_joint, by_operator, by_colon, joint}
use Rattle.ci_expressions.specs.declared.fault.ParseFault.{ParseFault}
use Rattle.ci_expressions.specs.declared.fault.ParseFault.TheVariants as faults
use Rattle.ci_expressions.specs.Gives.{Fails}
use Rattle.ci_expressions.specs.Reading.{Reader, ◌>>=◌, rest, rest_by, chain_behind, level_on}

rest_by_none : (member : Reader to.Expr) (behind : Reader to.Links) (n i : ℕ) (ts : Tokens) (t : TokenKind) (j : Joint) → has_rule (joint_rule n j) ≡ false → rest_by member behind i ts t j ≡ Ok (to.no_link, i, t ∷ ts)
rest_by_none member behind n i ts t no_joint e = refl
rest_by_none member behind n i ts t (by_operator op) e = absurd (cc)
rest_by_none member behind n i ts t by_colon e = absurd (cc)

-- nothing joins a chain that the next token doesn't go on with
pub rest_none : (member : Reader to.Expr) (n fuel i : ℕ) (ts : Tokens) → begins (ask.rest n) ts ≡ false → rest member n fuel i ts ≡ Ok (to.no_link, i, ts)
rest_none member n zero i ts e = refl
rest_none member n (suc fuel) i [] e = refl
rest_none member n (suc fuel) i (t ∷ ts) e = rest_by_none member (rest member n fuel) n i ts t (joint n t) e

-- one level further, a chain of the group stands behind the member
pub level_next : (base : Reader to.Expr) (n i : ℕ) (ts : Tokens) (e : to.Expr) (j : ℕ) (us : Tokens) → level_on base n i ts ≡ Ok (e, j, us) → level_on base (suc n) i ts ≡ chain_behind (level_on base n) n i e j us
level_next base n i ts e j us h = ap (λ r. r >>= (λ first. chain_behind (level_on base n) n i first.0 first.1 first.2)) h

chain_none : (member : Reader to.Expr) (n start : ℕ) (e : to.Expr) (j : ℕ) (us : Tokens) → begins (ask.rest n) us ≡ false → chain_behind member n start e j us ≡ Ok (e, j, us)
chain_none member n start e j us h = ap (λ r. r >>= (λ links. Ok (chained start e j links.0, links.1, links.2))) (rest_none member n (length us) j us h)

-- what is read stays as it is over the levels whose chains the next token doesn't go on with
stays_by : (base : Reader to.Expr) (n k i : ℕ) (ts : Tokens) (e : to.Expr) (j : ℕ) (us : Tokens) → level_on base n i ts ≡ Ok (e, j, us) → ((m : ℕ) → n ≤ m → m < k + n → begins (ask.rest m) us ≡ false) → level_on base (k + n) i ts ≡ Ok (e, j, us)
stays_by base n zero i ts e j us h none = ap (λ m. level_on base m i ts) (let z : zero + n ≡ n = omega arith in z) ∙ h
stays_by base n (suc k) i ts e j us h none =
    let next : suc k + n ≡ suc (k + n) = omega arith in
    let last : begins (ask.rest (k + n)) us ≡ false = none (k + n) (omega arith) (omega arith) in
    ap (λ m. level_on base m i ts) next
    ∙ level_next base (k + n) i ts e j us (stays_by base n k i ts e j us h (λ m a b. none m a (omega arith)))
    ∙ chain_none (level_on base (k + n)) (k + n) i e j us last

pub stays : (base : Reader to.Expr) (n m i : ℕ) (ts : Tokens) (e : to.Expr) (j : ℕ) (us : Tokens) → level_on base n i ts ≡ Ok (e, j, us) → n ≤ m → ((k : ℕ) → n ≤ k → k < m → begins (ask.rest k) us ≡ false) → level_on base m i ts ≡ Ok (e, j, us)
stays base n m i ts e j us h up none =
    let whole : (m - n) + n ≡ m = omega arith in
    ap (λ k. level_on base k i ts) (sym whole) ∙ stays_by base n (m - n) i ts e j us h (λ k a b. none k a (omega arith))

-- what fails at a level fails at each further one
fails_by : (base : Reader to.Expr) (n k i : ℕ) (ts : Tokens) (f : Refusal) → level_on base n i ts ≡ Err f → level_on base (k + n) i ts ≡ Err f
fails_by base n zero i ts f h = ap (λ m. level_on base m i ts) (let z : zero + n ≡ n = omega arith in z) ∙ h
fails_by base n (suc k) i ts f h =
    let next : suc k + n ≡ suc (k + n) = omega arith in
    ap (λ m. level_on base m i ts) next
    ∙ ap (λ r. r >>= (λ first. chain_behind (level_on base (k + n)) (k + n) i first.0 first.1 first.2)) (fails_by base n k i ts f h)

fails_at : (base : Reader to.Expr) (n m i : ℕ) (ts : Tokens) (f : Refusal) → n ≤ m → level_on base n i ts ≡ Err f → level_on base m i ts ≡ Err f
fails_at base n m i ts f up h =
    let whole : (m - n) + n ≡ m = omega arith in
    ap (λ k. level_on base k i ts) (sym whole) ∙ fails_by base n (m - n) i ts f h

pub fails_above : (e : ParseFault) (base : Reader to.Expr) (n m i : ℕ) (ts : Tokens) → n ≤ m → Fails e (level_on base n i ts) → Fails e (level_on base m i ts)
fails_above faults.Memory base n m i ts up h = tt
fails_above faults.UnexpectedEnd base n m i ts up h = fails_at base n m i ts ask.unexpected_end up h
fails_above (faults.Unexpected at) base n m i ts up h = fails_at base n m i ts (ask.unexpected at) up h
fails_above (faults.TooDeep at) base n m i ts up h = fails_at base n m i ts (ask.too_deep at) up h

-- a chain that fails behind what a level read fails each further level
pub fails_next : (e : ParseFault) (base : Reader to.Expr) (n m i : ℕ) (ts : Tokens) (first : to.Expr) (j : ℕ) (us : Tokens) → n < m → level_on base n i ts ≡ Ok (first, j, us) → Fails e (chain_behind (level_on base n) n i first j us) → Fails e (level_on base m i ts)
fails_next e base n m i ts first j us less h failed =
    fails_above e base (suc n) m i ts (omega arith) (subst (λ r. Fails e r) (sym (level_next base n i ts first j us h)) failed)
