use Rattle.std.proofs.Common.{subst, List, ℕ, [], ◌∷◌}
use Rattle.ci_emit.specs.Writing.{Writes}
use Rattle.ci_translation.specs.Drafts.{text_step}
use Rattle.ci_emit.proofs.expressions.literal.Goals as goal

pub returns-clause-code : goal.returns-clause-code
returns-clause-code c k = subst (λ (text : List ℕ). Writes c.args.writer.now c.put_text.new.self (λ b p. text_step b text ∷ [])) c.bytes.ensures c.in_ok-put_text.ensures
