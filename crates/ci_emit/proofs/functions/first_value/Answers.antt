use Rattle.std.proofs.Common.{[], ◌∷◌, refl, sym, subst}
use Rattle.std.specs.Prelude.{pos}
use Rattle.ci_base.specs.declared.value.Kind.{Kind}
use Rattle.ci_code.specs.declared.instruction.Instruction.TheVariants as does
use Rattle.ci_translation.specs.Drafts.{first_step}
use Rattle.ci_emit.specs.Writing.{Writes}
use Rattle.ci_emit.proofs.functions.first_value.Goals as goal

pub returns-in_ok-put-in-Int : goal.returns-in_ok-put-in-Int
returns-in_ok-put-in-Int c =
    subst (λ (k : Kind). Writes c.args.writer.now c.put.new.self (λ b p. first_step b k ∷ [])) (sym c.in-Int.is) (c.in_ok-put-in-Int.ensures (does.PushInt (pos 0)) refl)
