use Rattle.ci_words.proofs.Free.{make_value}
use Rattle.ci_words.proofs.order.size_of_make.Goals as goal

pub returns-in-Some : goal.returns-in-Some
returns-in-Some c =
    let whole = make_value c.args.words.now c.in-Some.at c.requires.free c.in-Some.ensures in
    rw (← c.in-Some.ensures, c.value_of.ensures, c.word_at.ensures) whole
