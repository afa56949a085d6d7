use Rattle.std.proofs.Common.{◌≡◌, ◌≤◌, ◌+◌, ◌-◌, List, ℕ, length, take, drop, sym, ap, ◌∙◌, arith, rules, length-drop}
use lib.Seq.{paste}
use Rattle.std.proofs.lemmas.List.{drop-take, take-take, length-take-le}
use Rattle.std.proofs.lemmas.List.Edits.{take-paste}
use Rattle.ci_stack.proofs.letters.Letters.keep_within.Goals as goal

pub returns : goal.returns
returns c =
    let within : c.self.inside.count ≤ length c.self.inside.bytes = search rules in
    kept c.self.inside.bytes c.args.self.now c.self.inside.count c.args.from c.args.count c.self.view_is within c.requires c.copy_within.new.self c.copy_within.ensures.after
  where
    kept : (bytes text : List ℕ) (all from count : ℕ) → take all bytes ≡ text → all ≤ length bytes → from + count ≤ length text → (new : List ℕ) → new ≡ paste bytes 0 (drop from bytes) (from + count - from) → take count new ≡ take count (drop from text)
    kept bytes text all from count e h within new made =
        let long : length text ≡ all = sym (ap (λ (l : List ℕ). length l) e) ∙ length-take-le all bytes h in
        let many : from + count - from ≡ count = omega arith in
        let none : count ≡ 0 + count = omega arith in
        ap (take count) (made ∙ ap (paste bytes 0 (drop from bytes)) many)
        ∙ ap (λ i. take i (paste bytes 0 (drop from bytes) count)) none
        ∙ take-paste bytes 0 (drop from bytes) count (omega arith) (omega (arith, length-drop from bytes, long))
        ∙ sym (drop-take from count bytes)
        ∙ ap (drop from) (sym (take-take (from + count) all bytes (omega (arith, long))) ∙ ap (take (from + count)) e)
        ∙ drop-take from count text
