use Rattle.ci_words.proofs.Free.{option_value}
use Rattle.ci_words.proofs.order.number_of_option.Goals as goal

pub returns-in-Some : goal.returns-in-Some
returns-in-Some c =
    let whole = option_value c.args.command c.args.words.now c.args.name c.in-Some.at c.requires.free c.requires.number c.in-Some.ensures in
    rw (← c.in-Some.ensures, c.value_of.ensures, c.word_at.ensures) whole
