use Rattle.std.proofs.Common.{◌≡◌, ◌<◌, ◌+◌, ◌*◌, take, get_or, sym, ap, ◌∙◌, arith, subst}
use Rattle.std.specs.Char.{digit_value}
use Rattle.std.specs.Str.Parse.{digits_value}
use Rattle.std.proofs.lemmas.Int.Digits.{digits_value_more}
use Rattle.ci_literals.proofs.Naturals.{value_step, value_above}
use Rattle.ci_literals.proofs.digits.value_of.Goals as goal
use Rattle.ci_literals.proofs.digits.value_of.Goals.{then-value-limit, else-value-limit}

pub loop-digit-preserved : goal.loop-digit-preserved
loop-digit-preserved c =
    let before = c.loop-digit.invariant in
    let digits = c.args.digits.now in
    let i = c.loop-digit.digit-index in
    let more = digits_value_more c.args.base digits i c.loop-digit-test.true in
    elim c.if-value-limit.branch [
      | then-value-limit w ↦
          let step = value_step c.args.base c.args.limit c.loop-digit.value (digits_value c.args.base (take i digits)) w.digit_value.result c.requires.least c.requires.most c.ranges.limit.fits w.if-value-limit.true (before.same w.if-value-limit.true) w.digit_value.ensures.small in
          let same : c.if-value-limit.value ≡ digits_value c.args.base (take (i + 1) digits) =
          w.value-is ∙ step.1 ∙ ap (λ d. digits_value c.args.base (take i digits) * c.args.base + d) w.digit_value.ensures.value ∙ sym more in
          record {
            small = omega (arith, step.0, w.value-is);
            same = λ _. same;
            above = λ h. subst (λ n. c.args.limit < n) same h;
          }
      | else-value-limit w ↦
          let larger : c.args.limit < c.loop-digit.value = w.if-value-limit.false in
          record {
            small = omega (arith, before.small, w.value-is);
            same = λ h. absurd (omega (arith, w.value-is));
            above = λ _. subst (λ n. c.args.limit < n) (sym more) (value_above c.args.base c.args.limit (digits_value c.args.base (take i digits)) (digit_value (get_or digits i 0)) c.requires.least (before.above larger));
          }
    ]
