use Rattle.ci_top.proofs.tell.put_decision.Goals as goal

pub returns-in-WordsRefused : goal.returns-in-WordsRefused
returns-in-WordsRefused g c = rw c.in-WordsRefused.is (rw (c.bytes.ensures.value, c.words_line.ensures) at c.put_all.ensures)

pub returns-in-OrderNotBuilt : goal.returns-in-OrderNotBuilt
returns-in-OrderNotBuilt g c = rw c.in-OrderNotBuilt.is c.put_all-in-OrderNotBuilt.ensures

pub returns-in-NotFetched : goal.returns-in-NotFetched
returns-in-NotFetched g c =
    rw c.in-NotFetched.is
    (rw (c.bytes-in-NotFetched.ensures.value, c.file_words.ensures, c.bytes-in-NotFetched-2.ensures) at c.put_three.ensures)

pub returns-in-SourceRefused : goal.returns-in-SourceRefused
returns-in-SourceRefused g c = rw c.in-SourceRefused.is (rw (c.bytes-in-SourceRefused.ensures.value, c.told_at.ensures) at c.put_two.ensures)
