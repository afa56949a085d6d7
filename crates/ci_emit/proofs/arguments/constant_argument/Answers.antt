use Rattle.std.proofs.Common.{rules, ℕ, List, [], ◌∷◌, sym, subst}
use Rattle.ci_base.specs.declared.value.Value.{Value}
use Rattle.ci_code.specs.declared.instruction.Instruction.TheVariants as does
use Rattle.ci_translation.specs.Drafts.{text_step}
use Rattle.ci_tree.specs.Bound as to
use Rattle.ci_tree.specs.LeftOut.{constant}
use Rattle.ci_emit.specs.Writing.{Writes, Argues}
use Rattle.ci_emit.proofs.Writings.{argued_one}
use Rattle.ci_emit.proofs.arguments.constant_argument.Goals as goal

pub returns-in_ok-over-in-Int : goal.returns-in_ok-over-in-Int
returns-in_ok-over-in-Int c k =
    subst (λ (v : Value). Argues k c.args.writer.now c.over.new.self (to.more (constant v) to.no_expr)) (sym c.in-Int.is)
    (argued_one k (to.number c.in-Int.n) (c.in_ok-put-in-Int.ensures (does.PushInt c.in-Int.n) (search rules)) c.in_ok-over-in-Int.ensures.pad c.in_ok-over-in-Int.ensures.below)

pub returns-in_ok-over-in-Str : goal.returns-in_ok-over-in-Str
returns-in_ok-over-in-Str c k =
    subst (λ (v : Value). Argues k c.args.writer.now c.over-in-Str.new.self (to.more (constant v) to.no_expr)) (sym c.in-Str.is)
    (argued_one k (to.literal c.in-Str.text)
    (subst (λ (text : List ℕ). Writes c.args.writer.now c.put_text.new.self (λ b p. text_step b text ∷ [])) c.bytes.ensures.value c.in_ok-put_text-in-Str.ensures)
    c.in_ok-over-in-Str.ensures.pad c.in_ok-over-in-Str.ensures.below)
