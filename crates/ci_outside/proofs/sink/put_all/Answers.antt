use Rattle.std.proofs.Common.{◌≡◌, ℕ, List, ◌++◌, take, drop, Option, sym, ◌∙◌, ap, append_assoc, take-append-drop, arith}
use Rattle.std.specs.Io.KnownBytes.{Appends}
use Rattle.std.proofs.KnownBytes.{Appends-trans}
use Rattle.ci_outside.proofs.sink.put_all.Goals as goal

-- the next piece of the text was put too
longer : (before mid after : Option (List ℕ)) (text rest behind : List ℕ) (n : ℕ)
    → ((front : List ℕ) × (text ≡ front ++ rest) × Appends before mid front) → Appends mid after (take n rest) → behind ≡ drop n rest
    → (front : List ℕ) × (text ≡ front ++ behind) × Appends before after front
longer before mid after text rest behind n (front, split, given) more e = (
  front ++ take n rest,
  split ∙ ap (λ l. front ++ l) (sym (take-append-drop n rest) ∙ ap (λ l. take n rest ++ l) (sym e)) ∙ sym (append_assoc front (take n rest) behind),
  Appends-trans before mid after front (take n rest) given more,
)

pub loop-rest-preserved : goal.loop-rest-preserved
loop-rest-preserved g c = record {
  later = omega (arith, c.loop-rest.invariant.later, c.put.ensures.later);
  so_far = longer _ _ _ _ _ _ _ c.loop-rest.invariant.so_far c.in_ok-taken.ensures.taken c.split_at.ensures.back;
}
