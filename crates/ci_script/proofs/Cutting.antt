-- The first line of what is left.
use Rattle.std.proofs.Common.{◌≡◌, ℕ, zero, suc, ◌+◌, ◌-◌, ◌<◌, ◌≤◌, Bool, true, false, ◌&&◌, cond, List, [], ◌∷◌, length, take, drop, get_or, sym, refl, ap, ap₂, ◌∙◌, subst, arith, ◌==◌, add-one}
use Rattle.std.specs.Prelude.{not}
use Rattle.std.proofs.lemmas.Bool.{true≢false, both_ways, eqb-true, false_from_ne_true, and_parts, true_from_ne_false}
use Rattle.std.proofs.lemmas.List.{take_rest}
use Rattle.ci_base.specs.Letters.{begins}
use Rattle.ci_script.specs.declared.parts.Mark.TheVariants.{LineFeed}
use Rattle.ci_script.specs.Lines.{lines, before_first, without_return}
use Rattle.ci_script.specs.Parts.{reach}

-- an LF stands at the front
abbrev feeds : List ℕ → Bool
feeds s = begins (λ c. c == 10) s

-- what stands before the first LF
reach_here : (b : ℕ) (s : List ℕ) → (b == 10) ≡ true → reach LineFeed (b ∷ s) ≡ 0
reach_here b s e = ap (λ t. cond (not t) (1 + reach LineFeed s) 0) e

reach_on : (b : ℕ) (s : List ℕ) → (b == 10) ≡ false → reach LineFeed (b ∷ s) ≡ suc (reach LineFeed s)
reach_on b s e = ap (λ t. cond (not t) (1 + reach LineFeed s) 0) e ∙ omega arith

reach_feeds : (s : List ℕ) → feeds s ≡ true → reach LineFeed s ≡ 0
reach_feeds [] e = refl
reach_feeds (b ∷ s) e = reach_here b s e

feeds_reach : (s : List ℕ) → 0 < length s → reach LineFeed s ≡ 0 → feeds s ≡ true
feeds_reach [] some e = absurd (omega arith)
feeds_reach (b ∷ s) some e = true_from_ne_false (b == 10) (λ other. omega (arith, reach_on b s other))

-- the three cases of a line's first byte
lines_here : (b : ℕ) (s : List ℕ) → (b == 10) ≡ true → lines (b ∷ s) ≡ [] ∷ lines s
unfolding lines
lines_here b s e = ap (λ t. cond t ([] ∷ lines s) (cond (b == 13 && feeds s) (lines s) (before_first b (lines s)))) e

lines_return : (b : ℕ) (s : List ℕ) → (b == 10) ≡ false → (b == 13 && feeds s) ≡ true → lines (b ∷ s) ≡ lines s
unfolding lines
lines_return b s e h =
    ap (λ t. cond t ([] ∷ lines s) (cond (b == 13 && feeds s) (lines s) (before_first b (lines s)))) e
    ∙ ap (λ t. cond t (lines s) (before_first b (lines s))) h

lines_on : (b : ℕ) (s : List ℕ) → (b == 10) ≡ false → (b == 13 && feeds s) ≡ false → lines (b ∷ s) ≡ before_first b (lines s)
unfolding lines
lines_on b s e h =
    ap (λ t. cond t ([] ∷ lines s) (cond (b == 13 && feeds s) (lines s) (before_first b (lines s)))) e
    ∙ ap (λ t. cond t (lines s) (before_first b (lines s))) h

-- whether a line of so many bytes and one more ends with CR
return_at : (n : ℕ) (s : List ℕ) → length s ≡ suc n → without_return s ≡ cond (get_or s n 0 == 13) (take n s) s
return_at n s e = let last : length s - 1 ≡ n = omega arith in ap (λ k. cond (get_or s k 0 == 13) (take k s) s) last

cond_onto : (t : Bool) (b : ℕ) (x y : List ℕ) → cond t (b ∷ x) (b ∷ y) ≡ b ∷ cond t x y
cond_onto true b x y = refl
cond_onto false b x y = refl

-- a first byte stays, unless it is a CR alone
front_stays : (b : ℕ) (s : List ℕ) → (s ≡ [] → b ≡ 13 → ⊥) → without_return (b ∷ s) ≡ b ∷ without_return s
front_stays b [] alone =
    return_at 0 (b ∷ []) refl ∙ ap (λ t. cond t [] (b ∷ [])) (false_from_ne_true (b == 13) (λ e. alone refl (eqb-true b 13 e)))
front_stays b (c ∷ s) alone =
    return_at (suc (length s)) (b ∷ c ∷ s) refl
    ∙ cond_onto (get_or (c ∷ s) (length s) 0 == 13) b (take (length s) (c ∷ s)) (c ∷ s)
    ∙ ap (λ l. b ∷ l) (sym (return_at (length s) (c ∷ s) refl))

return_alone : (b : ℕ) → b ≡ 13 → without_return (b ∷ []) ≡ []
return_alone b e = ap (λ c. without_return (c ∷ [])) e

-- the first n bytes are the first line, and one more is its end
abbrev Ends : List ℕ → ℕ → Type 0
Ends s n = lines s ≡ without_return (take n s) ∷ lines (drop (suc n) s)

ends_return : (b : ℕ) (s : List ℕ) → (b == 10) ≡ false → (b == 13 && feeds s) ≡ true → Ends s (reach LineFeed s) → Ends (b ∷ s) (suc (reach LineFeed s))
ends_return b s other returns ends =
    let parts = and_parts (b == 13) (feeds s) returns in
    let none = reach_feeds s parts.1 in
    let alone : without_return (b ∷ take (reach LineFeed s) s) ≡ [] = ap (λ n. without_return (b ∷ take n s)) none ∙ return_alone b (eqb-true b 13 parts.0) in
    let empty : without_return (take (reach LineFeed s) s) ≡ [] = ap (λ n. without_return (take n s)) none in
    lines_return b s other returns ∙ ends ∙ ap (λ l. l ∷ lines (drop (suc (reach LineFeed s)) s)) (empty ∙ sym alone)

take_some : (s : List ℕ) (n : ℕ) → take n s ≡ [] → 0 < length s → n ≡ 0
take_some [] n e some = absurd (omega arith)
take_some (b ∷ s) zero e some = refl
take_some (b ∷ s) (suc n) e some = cc

ends_on : (b : ℕ) (s : List ℕ) → (b == 10) ≡ false → (b == 13 && feeds s) ≡ false → 0 < length s → Ends s (reach LineFeed s) → Ends (b ∷ s) (suc (reach LineFeed s))
ends_on b s other stays some ends =
    let kept = front_stays b (take (reach LineFeed s) s) (λ empty is. both_ways (b == 13 && feeds s) stays (ap₂ (λ x y. x && y) (ap (λ c. c == 13) is) (feeds_reach s some (take_some s (reach LineFeed s) empty some)))) in
    lines_on b s other stays ∙ ap (before_first b) ends ∙ ap (λ l. l ∷ lines (drop (suc (reach LineFeed s)) s)) (sym kept)

-- the bytes before the first LF are the first line
pub line_ends : (s : List ℕ) → reach LineFeed s < length s → Ends s (reach LineFeed s)
line_ends [] within = absurd (omega arith)
line_ends (b ∷ s) within = elim (b == 10) as (λ t. (b == 10) ≡ t → Ends (b ∷ s) (reach LineFeed (b ∷ s))) [
  | true ↦ λ e. subst (Ends (b ∷ s)) (sym (reach_here b s e)) (lines_here b s e)
  | false ↦ λ e.
      let inside : reach LineFeed s < length s = omega (arith, reach_on b s e) in
      let rest = line_ends s inside in
      subst (Ends (b ∷ s)) (sym (reach_on b s e)) (elim (b == 13 && feeds s) as (λ t. (b == 13 && feeds s) ≡ t → Ends (b ∷ s) (suc (reach LineFeed s))) [
        | true ↦ λ h. ends_return b s e h rest
        | false ↦ λ h. ends_on b s e h (omega arith) rest
      ] refl)
] refl

no_feed : (s : List ℕ) → length s ≤ reach LineFeed s → feeds s ≡ false
no_feed [] beyond = refl
no_feed (b ∷ s) beyond = false_from_ne_true (b == 10) (λ e. omega (arith, reach_here b s e))

-- where there is none, all is one line
pub line_last : (s : List ℕ) → 0 < length s → length s ≤ reach LineFeed s → lines s ≡ s ∷ []
unfolding lines
line_last [] some beyond = absurd (omega arith)
line_last (b ∷ []) some beyond =
    let other = no_feed (b ∷ []) beyond in
    lines_on b [] other (false_from_ne_true (b == 13 && false) (λ h. true≢false (sym (and_parts (b == 13) false h).1)))
line_last (b ∷ c ∷ s) some beyond =
    let other = no_feed (b ∷ c ∷ s) beyond in
    let rest : length (c ∷ s) ≤ reach LineFeed (c ∷ s) = omega (arith, reach_on b (c ∷ s) other) in
    let stays = false_from_ne_true (b == 13 && feeds (c ∷ s)) (λ h. both_ways (feeds (c ∷ s)) (no_feed (c ∷ s) rest) (and_parts (b == 13) (feeds (c ∷ s)) h).1) in
    lines_on b (c ∷ s) other stays ∙ ap (before_first b) (line_last (c ∷ s) (omega arith) rest)

pub no_lines : lines [] ≡ []
unfolding lines
no_lines = refl

pub behind_feed : (s : List ℕ) (n : ℕ) → lines (drop (suc n) s) ≡ lines (take (length s - (n + 1)) (drop (n + 1) s))
behind_feed s n = ap (λ k. lines (drop k s)) (sym (add-one n)) ∙ ap lines (sym (take_rest s (n + 1)))

pub behind_last : (s : List ℕ) (n : ℕ) → length s ≤ n → [] ≡ lines (take (length s - n) (drop n s))
behind_last s n beyond = let none : length s - n ≡ 0 = omega arith in sym no_lines ∙ ap (λ k. lines (take k (drop n s))) (sym none)
