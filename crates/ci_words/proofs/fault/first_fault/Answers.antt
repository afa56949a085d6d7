use Rattle.std.proofs.Common.{below_more}
use Rattle.ci_words.specs.Fault.{IsFreeAt}
use Rattle.ci_words.proofs.Steps.{role_step}
use Rattle.ci_words.proofs.fault.first_fault.Goals as goal

pub loop-at-preserved : goal.loop-at-preserved
loop-at-preserved c = record {
  role = role_step c.args.command c.args.words.now c.loop-at.at _ _ _ c.loop-at.invariant.role c.word_at.ensures c.role_after-role.ensures;
  free = below_more (IsFreeAt c.args.command c.args.words.now) c.loop-at.at c.loop-at.invariant.free c.in_default.ensures;
}
