use Rattle.std.proofs.Common.{◌∙◌}
use Rattle.ci_expressions.specs.Gives.{kinds}
use Rattle.ci_parser.specs.Reading as reading
use Rattle.ci_expressions.proofs.Loops.{gives_same}
use Rattle.ci_parser.proofs.Bodies.{plain_named}
use Rattle.ci_parser.proofs.statements.plain_statement.Goals as goal

pub returns-in_ok-copy-in-Name : goal.returns-in_ok-copy-in-Name
returns-in_ok-copy-in-Name c =
    gives_same _ c.named.result _ _
    (plain_named (reading.expression c.args.free) (reading.inside_of c.args.free) c.args.here.at c.in-Some.behind.at (kinds c.args.here.left.now) (kinds c.in-Some.behind.left.now) c.in-Some.kind.now _ _ c.in-Some.ensures.0 c.in-Name.is (c.in_ok-copy-in-Name.ensures ∙ c.bytes.ensures) c.in-Some.ensures.1)
    c.named.ensures
