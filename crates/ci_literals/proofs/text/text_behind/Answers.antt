use Rattle.std.proofs.Common.{◌≡◌, ◌∷◌, ◌≤◌, ◌∙◌, ap, arith, length, sym, ℕ, List, Some, subst}
use Rattle.ci_literals.specs.Texts.{text_at}
use Rattle.ci_literals.proofs.Spelled.{text_found, escape_stops, length_stops, line_stops}
use Rattle.ci_literals.proofs.text.text_behind.Goals as goal
use Rattle.ci_literals.proofs.text.text_behind.Goals.{After-as_slice-bytes}

-- the bytes so far have room in a text
short : (c : After-as_slice-bytes) → length c.scan_items-end.new.value.items ≤ 255
short c = omega (arith, ap length c.as_slice-bytes.ensures.value, c.as_slice-bytes.ensures.fits)

pub returns-in-Some : goal.returns-in-Some
returns-in-Some c =
    let found = c.in-Closed.ensures in
    let value = c.scan_items-end.new.value.items in
    let same : value ≡ c.in-Some.text = sym (c.in-Some.ensures.some ∙ c.as_slice-bytes.ensures.value) in
    subst (λ (l : List ℕ). text_at (34 ∷ c.args.body.now) ≡ Some (record { text = l; rest = c.in-Closed.rest.now })) same
    (text_found c.args.body.now found.0 value c.in-Closed.rest.now found.1 (short (goal.at.returns-in-Some c).After-as_slice-bytes) found.2)

pub returns-in-BadEscape : goal.returns-in-BadEscape
returns-in-BadEscape c =
    let found = c.in-BadEscape.ensures in
    escape_stops c.args.body.now found.0 c.scan_items-end.new.value.items found.1 found.2 (short (goal.at.returns-in-BadEscape c).After-as_slice-bytes) found.3 found.4

pub returns-in-TooLong : goal.returns-in-TooLong
returns-in-TooLong c =
    let found = c.in-TooLong.ensures in
    length_stops c.args.body.now found.0 found.2 found.1 found.3 found.5 found.4

pub returns-in-LineEnd : goal.returns-in-LineEnd
returns-in-LineEnd c =
    let found = c.in-LineEnd.ensures in
    line_stops c.args.body.now found.0 c.scan_items-end.new.value.items found.1 found.2 (short (goal.at.returns-in-LineEnd c).After-as_slice-bytes) found.3 found.4
