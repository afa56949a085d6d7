use Rattle.std.proofs.Common.{sym, subst, Some, None}
use Rattle.std.proofs.lemmas.List.{take_rest}
use Rattle.memchr.specs.Find.{FindsNeedle}
use Rattle.ci_builtin.proofs.Searching.{search_some, search_none}
use Rattle.ci_builtin.proofs.search.first_from.Goals as goal

pub returns-in-Some-clause-value : goal.returns-in-Some-clause-value
returns-in-Some-clause-value c =
    let bytes = c.args.bytes.now in
    let pattern = c.args.pattern.now in
    let start = c.args.start in
    let found = subst (λ rest. FindsNeedle rest pattern 0 (Some c.in-Some.behind)) (take_rest bytes start) c.in-Some.ensures in
    sym (search_some bytes pattern start c.requires c.in-Some.behind found)

pub returns-in-None-clause-value : goal.returns-in-None-clause-value
returns-in-None-clause-value c =
    let bytes = c.args.bytes.now in
    let pattern = c.args.pattern.now in
    let start = c.args.start in
    let none = subst (λ rest. FindsNeedle rest pattern 0 None) (take_rest bytes start) c.in-None.ensures in
    sym (search_none bytes pattern start c.requires none)
