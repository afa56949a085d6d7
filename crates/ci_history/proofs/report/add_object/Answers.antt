use Rattle.std.proofs.Common.{arith, ap, length, length-append, ℕ}
use Rattle.ci_history.proofs.Numbers.{short_number}
use Rattle.ci_history.proofs.report.add_object.Goals as goal

pub put_number-requires : goal.put_number-requires
put_number-requires c =
    omega (arith, short_number c.args.number c.from.result c.ranges.number c.from.ensures, ap length c.add.ensures, length-append c.args.to.now c.args.word.now)

pub returns-clause-short : goal.returns-clause-short
returns-clause-short c =
    omega (arith, short_number c.args.number c.from.result c.ranges.number c.from.ensures, ap length c.add.ensures, length-append c.args.to.now c.args.word.now, ap length c.put_number.ensures, length-append {A = ℕ})
