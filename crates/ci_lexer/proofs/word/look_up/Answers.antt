use Rattle.std.proofs.Common.{◌∙◌, sym, refl}
use Rattle.ci_tree.specs.Words.{table}
use Rattle.ci_lexer.proofs.Words.{made}
use Rattle.ci_lexer.proofs.word.look_up.Goals as goal

pub returns-in-Some : goal.returns-in-Some
unfolding table
returns-in-Some c = made c.args.word.now _ _ (sym c.in-Some.is ∙ c.find_keyword.ensures) refl

pub returns-in-None : goal.returns-in-None
unfolding table
returns-in-None c =
    c.truth_value.ensures ∙ made c.args.word.now _ _ (sym c.in-None.is ∙ c.find_keyword.ensures) refl
