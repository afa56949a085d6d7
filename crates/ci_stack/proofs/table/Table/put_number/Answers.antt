use Rattle.std.proofs.Common.{arith}
use Rattle.ci_stack.proofs.Placing.{within_words, wrote_number}
use Rattle.ci_stack.proofs.table.Table.put_number.Goals as goal

pub index_mut-requires : goal.index_mut-requires
index_mut-requires c = omega (arith, within_words c.self.inside.words.items c.self.inside.texts.items c.args.self.now c.args.place c.self.view_is c.requires)

pub returns : goal.returns
returns c = wrote_number c.self.inside.words.items c.self.inside.texts.items c.args.self.now c.args.place c.args.n c.self.view_is c.ranges.n.sfits
