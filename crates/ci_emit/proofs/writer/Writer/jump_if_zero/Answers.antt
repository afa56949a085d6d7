use Rattle.std.proofs.Common.{◌+◌, sym, ap, ◌∙◌}
use Rattle.ci_code.specs.declared.instruction.Instruction.TheVariants as does
use Rattle.ci_emit.specs.Pads.{word}
use Rattle.ci_emit.proofs.writer.Writer.jump_if_zero.Goals as goal

pub returns : goal.returns
returns c z e = c.put_over.ensures (does.JumpIfZero z) (ap does.JumpIfZero (c.word_behind-to.ensures ∙ ap (λ m. word (m + (c.args.more + c.args.size))) c.place.ensures ∙ sym e))
