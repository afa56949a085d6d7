use Rattle.std.proofs.Common.{◌∙◌, List, ℕ, refl, ap₂, arith}
use Rattle.std.specs.Ordering.{is_lt, nat_cmp}
use Rattle.std.proofs.lemmas.Bool.Decides.{nat_tests}
use Rattle.std.proofs.lemmas.Cmp.{same_from_slice_cmp_tested}
use Rattle.ci_shared.specs.Words.{comes_first}
use Rattle.ci_sections.proofs.find.comes_first.Goals as goal

pub returns : goal.returns
returns c =
    let by = same_from_slice_cmp_tested nat_cmp is_lt comes_first refl (λ _ _. refl) (λ _ _. refl) (λ x y xs ys o h. grind (arith, nat_tests)) in
    by c.bytes.result.now c.bytes-2.result.now c.lt.result c.lt.ensures ∙ ap₂ (λ (a b : List ℕ). comes_first a b) c.bytes.ensures.value c.bytes-2.ensures.value
