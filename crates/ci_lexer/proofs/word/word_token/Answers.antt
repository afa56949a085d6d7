use Rattle.std.proofs.Common.{sym, ◌∙◌}
use Rattle.ci_lexer.proofs.Words.{reserved_spells}
use Rattle.ci_lexer.proofs.word.word_token.Goals as goal

pub returns-in-Some-clause-ok : goal.returns-in-Some-clause-ok
returns-in-Some-clause-ok c =
    reserved_spells c.args.word.now c.in-Some.token c.requires (sym c.reserved.ensures ∙ c.in-Some.is)
