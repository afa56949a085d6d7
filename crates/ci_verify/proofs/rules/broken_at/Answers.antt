use Rattle.std.proofs.Common.{arith}
use Rattle.ci_verify.specs.Rules.{Kept}
use Rattle.ci_verify.proofs.Places.{all_kept, lesser_kept, not_kept}
use Rattle.ci_verify.proofs.rules.broken_at.Goals as goal

pub returns-then-not-keeps_next : goal.returns-then-not-keeps_next
returns-then-not-keeps_next c = (
  not_kept (Kept 4 c.args.code.now c.args.head.now c.args.function.now c.args.place) c.keeps_next.result c.keeps_next.ensures c.if-not-keeps_next.true,
  lesser_kept c.args.code.now c.args.head.now c.args.function.now c.args.place 4 (omega arith) (λ h. c.keeps_limits.ensures.0 c.if-not-keeps_limits.false) (λ h. c.keeps_begin.ensures.0 c.if-not-keeps_begin.false) (λ h. c.keeps_operands.ensures.0 c.if-not-keeps_operands.false) (λ h. absurd (omega (arith, h))) (λ h. absurd (omega (arith, h))),
)

pub returns-then-not-keeps_room : goal.returns-then-not-keeps_room
returns-then-not-keeps_room c = (
  not_kept (Kept 5 c.args.code.now c.args.head.now c.args.function.now c.args.place) c.keeps_room.result c.keeps_room.ensures c.if-not-keeps_room.true,
  lesser_kept c.args.code.now c.args.head.now c.args.function.now c.args.place 5 (omega arith) (λ h. c.keeps_limits.ensures.0 c.if-not-keeps_limits.false) (λ h. c.keeps_begin.ensures.0 c.if-not-keeps_begin.false) (λ h. c.keeps_operands.ensures.0 c.if-not-keeps_operands.false) (λ h. c.keeps_next.ensures.0 c.if-not-keeps_next.false) (λ h. absurd (omega (arith, h))),
)

pub returns-then-not-keeps_jumps : goal.returns-then-not-keeps_jumps
returns-then-not-keeps_jumps c = (
  not_kept (Kept 6 c.args.code.now c.args.head.now c.args.function.now c.args.place) c.keeps_jumps.result c.keeps_jumps.ensures c.if-not-keeps_jumps.true,
  lesser_kept c.args.code.now c.args.head.now c.args.function.now c.args.place 6 (omega arith) (λ h. c.keeps_limits.ensures.0 c.if-not-keeps_limits.false) (λ h. c.keeps_begin.ensures.0 c.if-not-keeps_begin.false) (λ h. c.keeps_operands.ensures.0 c.if-not-keeps_operands.false) (λ h. c.keeps_next.ensures.0 c.if-not-keeps_next.false) (λ h. c.keeps_room.ensures.0 c.if-not-keeps_room.false),
)

pub returns : goal.returns
returns c = all_kept c.args.code.now c.args.head.now c.args.function.now c.args.place (c.keeps_limits.ensures.0 c.if-not-keeps_limits.false) (c.keeps_begin.ensures.0 c.if-not-keeps_begin.false) (c.keeps_operands.ensures.0 c.if-not-keeps_operands.false) (c.keeps_next.ensures.0 c.if-not-keeps_next.false) (c.keeps_room.ensures.0 c.if-not-keeps_room.false) (c.keeps_jumps.ensures.0 c.if-not-keeps_jumps.false)
