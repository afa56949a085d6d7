use Rattle.ci_words.proofs.Exists.{some_answer}
use Rattle.ci_words.proofs.Answer.{one_answer}
use Rattle.ci_words.proofs.laws.words_have_one_answer.Goals as goal

pub returns : goal.returns
returns c = λ words.
    let some = some_answer words in
    (some.0, some.1, λ other asked. one_answer words some.0 other some.1 asked)
