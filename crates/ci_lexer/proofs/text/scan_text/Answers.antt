use Rattle.std.proofs.Common.{◌≡◌, ℕ, ◌≤◌, List, length, sym, ap, ◌∙◌, arith, subst}
use Rattle.ci_tree.specs.Tokens.{TokenAt}
use Rattle.ci_tree.specs.declared.token.TokenKind.TheVariants.{Text}
use Rattle.ci_lexer.proofs.Closing.{text_step, escape_fault, long_fault, open_fault}
use Rattle.ci_lexer.proofs.text.scan_text.Goals as goal
use Rattle.ci_lexer.proofs.text.scan_text.Goals.{After-as_slice-bytes}

-- the value is no longer than its room
short : (c : After-as_slice-bytes) → length c.scan_items-end.new.value.items ≤ 255
short c = omega (arith, ap length c.as_slice-bytes.ensures.value, c.as_slice-bytes.ensures.fits)

pub returns-in-Ok-clause-ok : goal.returns-in-Ok-clause-ok
returns-in-Ok-clause-ok c =
    let found = c.in-Closed.ensures in
    let value = c.scan_items-end.new.value.items in
    let same : c.in-Ok.text ≡ value = c.in-Ok.ensures ∙ c.as_slice-bytes.ensures.value in
    subst (λ (l : List ℕ). TokenAt (Text l) c.args.rest.now c.in-Closed.behind.now) (sym same) (text_step c.args.rest.now found.0 value c.in-Closed.behind.now c.requires.lead found.2 found.1 (short (goal.at.returns-in-Ok-clause-ok c).After-as_slice-bytes))

pub returns-in-BadEscape-clause-err : goal.returns-in-BadEscape-clause-err
returns-in-BadEscape-clause-err c = λ _.
    let found = c.in-BadEscape.ensures in
    escape_fault c.args.rest.now found.0 c.scan_items-end.new.value.items found.1 c.args.at c.requires.lead found.3 found.2 (short (goal.at.returns-in-BadEscape-clause-err c).After-as_slice-bytes) found.4

pub returns-in-TooLong-clause-err : goal.returns-in-TooLong-clause-err
returns-in-TooLong-clause-err c = λ _.
    let found = c.in-TooLong.ensures in
    long_fault c.args.rest.now found.0 found.2 found.1 c.args.at c.requires.lead found.4 found.3 found.5

pub returns-in-LineEnd-clause-err : goal.returns-in-LineEnd-clause-err
returns-in-LineEnd-clause-err c = λ _.
    let found = c.in-LineEnd.ensures in
    open_fault c.args.rest.now found.0 c.scan_items-end.new.value.items found.1 c.args.at c.requires.lead found.3 found.2 (short (goal.at.returns-in-LineEnd-clause-err c).After-as_slice-bytes) found.4
