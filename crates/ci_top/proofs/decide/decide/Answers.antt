use Rattle.ci_top.proofs.Deciding.{decided-words, decided-stopped, decided-texts, named-sources, unfetched}
use Rattle.ci_top.proofs.decide.decide.Goals as goal

pub returns-in-Err-clause-decided : goal.returns-in-Err-clause-decided
returns-in-Err-clause-decided g c = decided-words _ _ _ _ c.in-Err.decision c.in-Err.ensures.refused

pub work-requires-clause-same : goal.work-requires-clause-same
work-requires-clause-same g c = named-sources _ _ _ _ c.in-Ok-read_texts.ensures.read

pub returns-in-Ok-read_texts-clause-decided : goal.returns-in-Ok-read_texts-clause-decided
returns-in-Ok-read_texts-clause-decided g c =
    decided-texts _ _ _ _ c.in-Ok.accepted.order c.in-Ok-read_texts.texts c.in-Ok.accepted.job c.work.result c.in-Ok.ensures.asked c.in-Ok-read_texts.ensures.read c.in-Ok.ensures.job c.work.ensures

pub returns-in-Err-read_texts-clause-decided : goal.returns-in-Err-read_texts-clause-decided
returns-in-Err-read_texts-clause-decided g c = decided-stopped _ _ _ _ c.in-Ok.accepted.order c.in-Err-read_texts.decision c.in-Ok.ensures.asked c.in-Err-read_texts.ensures.stopped

pub returns-in-Ok-read_texts-clause-unfetched : goal.returns-in-Ok-read_texts-clause-unfetched
returns-in-Ok-read_texts-clause-unfetched g c = unfetched _ c.in-Ok.accepted.order _ _ c.in-Ok.ensures.asked c.in-Ok-read_texts.ensures.untouched

pub returns-in-Err-read_texts-clause-unfetched : goal.returns-in-Err-read_texts-clause-unfetched
returns-in-Err-read_texts-clause-unfetched g c = unfetched _ c.in-Ok.accepted.order _ _ c.in-Ok.ensures.asked c.in-Err-read_texts.ensures.untouched
