use Rattle.std.proofs.Common.{None}
use Rattle.ci_base.specs.declared.value.Kind.TheVariants.{Int}
use Rattle.ci_names.specs.Statements.{target, part_faults}
use Rattle.ci_tree.specs.Seen.{expr_of}
use Rattle.ci_scopes.specs.Seen.{scope_of}
use Rattle.ci_bodies.proofs.Noted.{three_noted}
use Rattle.ci_bodies.proofs.counters.head.Goals as goal

pub returns-clause-found : goal.returns-clause-found
returns-clause-found c =
    let faults = part_faults (scope_of c.args.scope.now) Int in
    three_noted c.args.found.now c.counter-counter.new.found c.part.new.found c.part-2.new.found (faults (target c.args.counting.at c.args.counting.name.now None)) (faults (expr_of c.args.counting.from.now)) (faults (expr_of c.args.counting.to.now))
    c.counter-counter.ensures.found c.in_ok-from.ensures.found c.in_ok-to.ensures.found
