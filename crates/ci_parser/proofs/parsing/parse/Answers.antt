use Rattle.std.proofs.Common.{arith}
use Rattle.std.proofs.lemmas.List.{length-map}
use Rattle.std.proofs.lemmas.Result.{err_from_is_err_and}
use Rattle.ci_tree.specs.Grammar.{derives}
use Rattle.ci_tree.specs.Seen.{items_of}
use Rattle.ci_expressions.specs.Gives.{kinds}
use Rattle.ci_parser.proofs.FromReading.{read_derives, fails_refused}
use Rattle.ci_parser.proofs.Nodes.{token_for_each_node}
use Rattle.ci_parser.proofs.parsing.parse.Goals as goal

pub returns-in_err-found-clause-err : goal.returns-in_err-found-clause-err
returns-in_err-found-clause-err c =
    let p = err_from_is_err_and c.from_residual.result c.from_residual.ensures.1 in
    rw (p.1, p.2, ← c.tokens.ensures.value) (fails_refused (kinds c.tokens.result.now) c.in_err-found.field-0.0 c.in_err-found.ensures)

pub of-requires : goal.of-requires
of-requires c =
    let derived : derives (kinds c.tokens.result.now) (items_of c.in_ok-found.found) = (read_derives (kinds c.tokens.result.now) (items_of c.in_ok-found.found) c.in_ok-found.ensures).0 in
    record {
      tokens = c.tokens.result.now;
      kept = c.tokens.ensures.kept;
      derived = derived;
      within = omega (arith, token_for_each_node (kinds c.tokens.result.now) (items_of c.in_ok-found.found) derived, length-map c.tokens.result.now (λ t. t.what), c.tokens.ensures.within);
    }

pub returns-clause-ok : goal.returns-clause-ok
returns-clause-ok c =
    rw (c.of.ensures, ← c.tokens.ensures.value) ((read_derives (kinds c.tokens.result.now) (items_of c.in_ok-found.found) c.in_ok-found.ensures).0)
