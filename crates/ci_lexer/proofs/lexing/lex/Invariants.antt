use Rattle.std.proofs.Common.{◌≤◌, length}
use Rattle.ci_tree.specs.Tokens.{Reads, after_mark}
use Rattle.ci_lexer.proofs.lexing.lex.Given as goal

-- the tokens so far, and what is left
abbrev pub invariant-loop-rest : goal.invariant-loop-rest
invariant-loop-rest l = record {
  short : length l.rest ≤ length l.source;
  read : Reads (length l.source) (after_mark l.source) l.kept.items l.rest;
}

abbrev pub decreases-loop-rest : goal.decreases-loop-rest
decreases-loop-rest l = length l.rest
