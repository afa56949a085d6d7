use Rattle.std.proofs.Common.{sym, subst, OnOk}
use Rattle.ci_tree.specs.declared.bound.Label.{Label}
use Rattle.ci_tree.specs.SeenBound.{label_of}
use Rattle.ci_translation.specs.Drafts.{label_code}
use Rattle.ci_emit.specs.Contexts.{context, heads}
use Rattle.ci_emit.specs.Writing.{Writes}
use Rattle.ci_emit.proofs.labels.label.Goals as goal

pub returns-in-One : goal.returns-in-One
returns-in-One c z e = subst (λ (x : Label). OnOk c.match_label.result (Writes c.args.writer.now c.match_label.new.writer (λ b p. label_code (context c.args.parts.now c.args.function.now) b c.args.subject z p (label_of (heads c.args.parts.now) x)))) (sym c.in-One.is) (c.match_label.ensures z e)

pub returns-in-Range : goal.returns-in-Range
returns-in-Range c z e = subst (λ (x : Label). OnOk c.range_label.result (Writes c.args.writer.now c.range_label.new.writer (λ b p. label_code (context c.args.parts.now c.args.function.now) b c.args.subject z p (label_of (heads c.args.parts.now) x)))) (sym c.in-Range.is) (c.range_label.ensures z e)

pub returns-in-Is : goal.returns-in-Is
returns-in-Is c z e = subst (λ (x : Label). OnOk c.match_label-in-Is.result (Writes c.args.writer.now c.match_label-in-Is.new.writer (λ b p. label_code (context c.args.parts.now c.args.function.now) b c.args.subject z p (label_of (heads c.args.parts.now) x)))) (sym c.in-Is.is) (c.match_label-in-Is.ensures z e)
