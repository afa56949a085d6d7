use Rattle.std.proofs.Common.{◌%◌, ◌∷◌, [], ◌++◌, sym, ap, ◌∙◌, length, get_or, arith}
use Rattle.ci_builtin.proofs.Repeats.{take-repeat_more}
use Rattle.ci_builtin.proofs.joining.repeated.Goals as goal

pub loop-offset-preserved : goal.loop-offset-preserved
loop-offset-preserved c =
    let before = c.loop-offset.invariant in
    let piece = c.args.piece.now in
    let more = take-repeat_more c.args.count c.loop-offset.offset piece c.requires.some c.loop-offset-test.true in
    record {
      count = omega (arith, c.push.ensures.len, before.count);
      is = c.push.ensures.items ∙ ap (λ l. l ++ get_or piece (c.loop-offset.offset % length piece) 0 ∷ []) before.is ∙ sym more;
    }
