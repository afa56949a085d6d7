use Rattle.std.proofs.Common.{◌≡◌, map, take}
use Rattle.ci_emit.proofs.whole.text_list.Given as goal

abbrev pub invariant-loop-text : goal.invariant-loop-text
invariant-loop-text l = l.list.items ≡ map (λ text. text.items) (take l.text-index l.texts)
