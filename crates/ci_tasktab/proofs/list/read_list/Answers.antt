use Rattle.std.proofs.Common.{List, ℕ, Some, sym, ap, ◌∙◌}
use Rattle.ci_base.specs.declared.value.Value.{Value}
use Rattle.ci_shared.specs.Arguments.{behind_spaces}
use Rattle.ci_tasktab.proofs.Reading.{list_empty, list_full}
use Rattle.ci_tasktab.proofs.list.read_list.Goals as goal

pub returns-then-is_empty : goal.returns-then-is_empty
returns-then-is_empty c = ap (λ (l : List Value). Some l) c.empty.ensures ∙ sym (list_empty c.args.list.now _ (c.behind_spaces-list.ensures ∙ ap (λ (l : List ℕ). behind_spaces l) c.bytes.ensures.value) c.if-is_empty.ensures)

pub returns : goal.returns
returns c = c.read_values.ensures ∙ sym (list_full c.args.list.now _ (c.behind_spaces-list.ensures ∙ ap (λ (l : List ℕ). behind_spaces l) c.bytes.ensures.value) c.if-is_empty.ensures)
