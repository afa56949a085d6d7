-- Two texts of a list, in its two parts.
use Rattle.std.proofs.Common.{◌≡◌, ℕ, ◌+◌, ◌-◌, ◌<◌, List, [], ◌++◌, length, set, get_or, sym, ap, ◌∙◌, arith, length-append}
use Rattle.std.proofs.lemmas.List.{set-append_left, set-append_right, get_or_append_left}
use Rattle.std.proofs.Math.Seq.{get_or-append_right}
use Rattle.ci_stack.proofs.Placing.{same_text}

-- a text of the first part, and the first one of the second part
pub in_first : (texts low high : List (List ℕ)) (i : ℕ) (d : List ℕ) → texts ≡ low ++ high → i < length low → get_or low i d ≡ get_or texts i []
in_first texts low high i d e h = same_text low i d [] h ∙ sym (get_or_append_left low high [] i h) ∙ ap (λ (l : List (List ℕ)). get_or l i []) (sym e)

pub in_second : (texts low high : List (List ℕ)) (i : ℕ) (d : List ℕ) → texts ≡ low ++ high → length low ≡ i → i < length texts → get_or high 0 d ≡ get_or texts i []
in_second texts low high i d e h within =
    let long : length texts ≡ length low + length high = ap (λ (l : List (List ℕ)). length l) e ∙ length-append low high in
    let first : i - length low ≡ 0 = omega (arith, h) in
    same_text high 0 d [] (omega (arith, long, h))
    ∙ ap (λ k. get_or high k []) (sym first)
    ∙ sym (get_or-append_right low high i [] (omega (arith, h)))
    ∙ ap (λ (l : List (List ℕ)). get_or l i []) (sym e)

-- a text that is written in either part
pub set_first : (texts low high : List (List ℕ)) (i : ℕ) (s t : List ℕ) → texts ≡ low ++ high → i < length low → s ≡ t → set low i s ++ high ≡ set texts i t
set_first texts low high i s t e h is = sym (set-append_left low high i s h) ∙ ap (λ (l : List (List ℕ)). set l i s) (sym e) ∙ ap (λ (u : List ℕ). set texts i u) is

pub set_second : (texts low high : List (List ℕ)) (i : ℕ) (s t : List ℕ) → texts ≡ low ++ high → length low ≡ i → s ≡ t → low ++ set high 0 s ≡ set texts i t
set_second texts low high i s t e h is =
    let first : i - i ≡ 0 = omega arith in
    ap (λ k. low ++ set high k s) (sym first) ∙ sym (set-append_right low high i i s h (omega arith)) ∙ ap (λ (l : List (List ℕ)). set l i s) (sym e) ∙ ap (λ (u : List ℕ). set texts i u) is
