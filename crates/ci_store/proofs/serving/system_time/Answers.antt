use Rattle.std.proofs.Common.{◌≡◌, ◌∙◌, ◌%◌, ℕ, ℤ, pos, ap, refl, to_z, of_z, w32, rules}
use Rattle.std.specs.Int.{int_wrap}
use Rattle.ci_base.specs.Numbers.{wrap}
use Rattle.ci_shared.specs.Rows.{number, plain}
use Rattle.ci_store.proofs.serving.system_time.Goals as goal

-- the low bits
low : (n : ℕ) → to_z w32 (n % 4294967296) ≡ wrap (pos n)
unfolding int_wrap
low n = refl

pub returns : goal.returns
returns c =
    let fits : to_z w32 (of_z w32 c.cast_signed.result) ≡ c.cast_signed.result = search rules in
    c.numbered.ensures ∙ ap (λ (z : ℤ). plain (number z)) (fits ∙ c.cast_signed.ensures ∙ low c.args.parts.now.clock)
