use Rattle.std.proofs.Common.{arith}
use Rattle.ci_stack.proofs.Placing.{within_words, wrote_text}
use Rattle.ci_stack.proofs.table.Table.put_text.Goals as goal

pub reach-requires : goal.reach-requires
reach-requires c = omega (arith, c.self.invariant.texts_room, c.self.invariant.places, within_words c.self.inside.words.items c.self.inside.texts.items c.args.self.now c.args.place c.self.view_is c.requires.within)

pub index_mut-requires : goal.index_mut-requires
index_mut-requires c = omega (arith, within_words c.self.inside.words.items c.self.inside.texts.items c.args.self.now c.args.place c.self.view_is c.requires.within)

pub returns : goal.returns
returns c = wrote_text c.self.inside.words.items c.self.inside.texts.items c.reach.new.texts.items c.args.self.now c.args.place c.set.new.self c.args.bytes.now c.self.view_is (c.reach.ensures.same c.self.inside.words.items) c.reach.ensures.within c.set.ensures
