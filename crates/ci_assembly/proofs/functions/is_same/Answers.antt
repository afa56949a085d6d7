use Rattle.std.proofs.Common.{◌≡◌, refl}
use Rattle.std.specs.Bool.{Decides}
use Rattle.std.proofs.lemmas.Slice.Eq.{slice_eq-Decides}
use Rattle.ci_base.specs.declared.value.Kind.{Kind}
use Rattle.ci_base.specs.declared.value.Kind.TheVariants.{Int, Str}
use Rattle.ci_base.specs.contracts.value.KindPartialEq.TheImpl as kinds_equal
use Rattle.ci_assembly.proofs.functions.is_same.Goals as goal

kinds_decide : (a b : Kind) → Decides (kinds_equal.eq-value.it a b) (a ≡ b)
kinds_decide Int Int = (λ e. refl, λ e. refl)
kinds_decide Int Str = (λ e. absurd (cc e), λ e. absurd (cc e))
kinds_decide Str Int = (λ e. absurd (cc e), λ e. absurd (cc e))
kinds_decide Str Str = (λ e. refl, λ e. refl)

pub returns : goal.returns
returns c = slice_eq-Decides kinds_decide c.args.a.now c.args.b.now c.eq.result c.eq.ensures
