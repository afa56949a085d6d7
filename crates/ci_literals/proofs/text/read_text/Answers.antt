use Rattle.std.proofs.Common.{sym, ◌∙◌}
use Rattle.ci_literals.proofs.Spelled.{unquoted}
use Rattle.ci_literals.proofs.text.read_text.Goals as goal

pub returns-else-begins_quote : goal.returns-else-begins_quote
returns-else-begins_quote c = unquoted c.args.bytes.now (sym c.begins_quote.ensures ∙ c.if-begins_quote.false)
