use Rattle.std.proofs.Common.{rules}
use Rattle.ci_names.specs.Binding.{heads_in}
use Rattle.ci_scopes.specs.Seen.{scope_of}
use Rattle.ci_bodies.proofs.simple.assign_plain.Goals as goal

pub returns-clause-tree : goal.returns-clause-tree
returns-clause-tree c = let made = c.assign.ensures (heads_in (scope_of c.args.scope.now).declared) in search (rules, made)
