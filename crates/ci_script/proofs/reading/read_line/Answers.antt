use Rattle.std.proofs.Common.{ap, ◌∙◌}
use Rattle.ci_script.specs.Events.{reading, reading_of}
use Rattle.ci_script.proofs.reading.read_line.Goals as goal

pub returns-clause-value : goal.returns-clause-value
unfolding reading
returns-clause-value c = c.reading_of.ensures.value ∙ ap reading_of c.trimmed.ensures.value
