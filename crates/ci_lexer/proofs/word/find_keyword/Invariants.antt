use Rattle.std.proofs.Common.{◌≡◌, drop}
use Rattle.ci_lexer.specs.Keywords.{spelled}
use Rattle.ci_lexer.proofs.word.find_keyword.Given as goal

-- the first is among those that are left
abbrev pub invariant-loop-spelling : goal.invariant-loop-spelling
invariant-loop-spelling l = spelled l.word (drop l.spelling-index l.keywords) ≡ spelled l.word l.keywords
