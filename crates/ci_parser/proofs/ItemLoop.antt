-- The loop over the items of a file: a round that fails, and one that reads an item.
use Rattle.std.proofs.Common.{◌≡◌, ℕ, zero, suc, ◌<◌, ◌+◌, ◌-◌, List, [], ◌∷◌, ◌++◌, refl, sym, ap, ◌∙◌, arith, append_assoc}
use Rattle.std.specs.Prelude.{Ok, Err, Result}
use Rattle.ci_tree.specs.Tree.{Item}
use Rattle.ci_tree.specs.declared.token.TokenKind.{TokenKind}
use Rattle.ci_tree.specs.Grammar.{Tokens}
use Rattle.ci_tree.specs.Refused.{Refusal, unexpected, unexpected_end, too_deep}
use Rattle.ci_expressions.specs.declared.fault.ParseFault.{ParseFault}
use Rattle.ci_expressions.specs.declared.fault.ParseFault.TheVariants as faults
use Rattle.ci_expressions.specs.Gives.{Fails}
use Rattle.ci_parser.specs.Reading.{◌>>=◌, item, items, items_with}

-- one more item is refused
round_failed : (free fuel i : ℕ) (ts : Tokens) (t : TokenKind) (us : Tokens) (front : List Item) (whole : Result (List Item) Refusal) (f : Refusal) → ts ≡ t ∷ us → zero < fuel → item free i ts ≡ Err f → items_with front (items free fuel i ts) ≡ whole → whole ≡ Err f
round_failed free fuel i [] t us front whole f e some failed h = absurd (cc)
round_failed free zero i (s ∷ ss) t us front whole f e some failed h = absurd (omega arith)
round_failed free (suc fuel) i (s ∷ ss) t us front whole f e some failed h = sym h ∙ ap (λ r. items_with front (r >>= (λ is. items free fuel is.1 is.2 >>= (λ others. Ok (is.0 ++ others))))) failed

pub items_fail : (e : ParseFault) (free count k i : ℕ) (ts : Tokens) (t : TokenKind) (us : Tokens) (front : List Item) (whole : Result (List Item) Refusal) → ts ≡ t ∷ us → k < count → Fails e (item free i ts)
    → items_with front (items free (count - k) i ts) ≡ whole → Fails e whole
items_fail faults.Memory free count k i ts t us front whole next less failed h = tt
items_fail faults.UnexpectedEnd free count k i ts t us front whole next less failed h =
    let some : zero < count - k = omega arith in
    round_failed free (count - k) i ts t us front whole unexpected_end next some failed h
items_fail (faults.Unexpected n) free count k i ts t us front whole next less failed h =
    let some : zero < count - k = omega arith in
    round_failed free (count - k) i ts t us front whole (unexpected n) next some failed h
items_fail (faults.TooDeep n) free count k i ts t us front whole next less failed h =
    let some : zero < count - k = omega arith in
    round_failed free (count - k) i ts t us front whole (too_deep n) next some failed h

-- one more item is read
front_more : (front is : List Item) (r : Result (List Item) Refusal) → items_with (front ++ is) r ≡ items_with front (r >>= (λ others. Ok (is ++ others)))
front_more front is (Ok others) = ap Ok (append_assoc front is others)
front_more front is (Err f) = refl

round_read : (free fuel m i : ℕ) (ts : Tokens) (front is : List Item) (j : ℕ) (us : Tokens) (whole : Result (List Item) Refusal) → fuel ≡ suc m → item free i ts ≡ Ok (is, j, us) → items_with front (items free fuel i ts) ≡ whole
    → items_with (front ++ is) (items free m j us) ≡ whole
round_read free fuel m i [] front is j us whole e read h = absurd (cc)
round_read free zero m i (s ∷ ss) front is j us whole e read h = absurd (omega arith)
round_read free (suc fuel) m i (s ∷ ss) front is j us whole e read h =
    let same : m ≡ fuel = omega arith in
    ap (λ n. items_with (front ++ is) (items free n j us)) same
    ∙ front_more front is (items free fuel j us)
    ∙ sym (ap (λ r. items_with front (r >>= (λ is. items free fuel is.1 is.2 >>= (λ others. Ok (is.0 ++ others))))) read)
    ∙ h

pub items_more : (free count k i : ℕ) (ts : Tokens) (front front' is : List Item) (j : ℕ) (us : Tokens) (whole : Result (List Item) Refusal) → front' ≡ front ++ is → k < count → item free i ts ≡ Ok (is, j, us)
    → items_with front (items free (count - k) i ts) ≡ whole → items_with front' (items free (count - (k + 1)) j us) ≡ whole
items_more free count k i ts front front' is j us whole pushed less read h =
    let e : count - k ≡ suc (count - (k + 1)) = omega arith in
    ap (λ xs. items_with xs (items free (count - (k + 1)) j us)) pushed ∙ round_read free (count - k) (count - (k + 1)) i ts front is j us whole e read h
