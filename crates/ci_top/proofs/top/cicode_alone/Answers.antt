use Rattle.ci_top.proofs.Doing.{does_order}
use Rattle.ci_top.proofs.top.cicode_alone.Goals as goal

pub returns : goal.returns
returns g c =
    does_order c.one_meaning.ensures.never_both g.S.Shelf.files g.S.Shelf.faults g.K.Sink.bytes g.K.Sink.faults _ _ _ _ _ _
    c.answer.ensures.answer c.answer.ensures.contents c.answer.ensures.unfetched
