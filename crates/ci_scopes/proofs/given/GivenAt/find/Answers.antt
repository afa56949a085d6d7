use Rattle.std.proofs.Common.{◌∙◌, sym, ap, true, false, option_map}
use Rattle.ci_names.specs.Given.{Given}
use Rattle.ci_scopes.proofs.Finding.{test_is, found_step}
use Rattle.ci_scopes.proofs.given.GivenAt.find.Goals as goal

pub returns-then-eq_ignore_ascii_case : goal.returns-then-eq_ignore_ascii_case
returns-then-eq_ignore_ascii_case c =
    ap (option_map (λ (g : Given). g.called))
    (sym (found_step c.args.name.now c.args.rows.now c.loop-row.row-index c.row-item.result true c.loop-row-test.true c.row-item.is
    (test_is c.eq_ignore_ascii_case.result c.row-item.result.name.now c.args.name.now c.eq_ignore_ascii_case.ensures.test ∙ c.if-eq_ignore_ascii_case.true)) ∙ c.loop-row.invariant)

pub loop-row-preserved : goal.loop-row-preserved
loop-row-preserved c =
    sym (found_step c.args.name.now c.args.rows.now c.loop-row.row-index c.row-item.result false c.loop-row-test.true c.row-item.is
    (test_is c.eq_ignore_ascii_case.result c.row-item.result.name.now c.args.name.now c.eq_ignore_ascii_case.ensures.test ∙ c.if-eq_ignore_ascii_case.false)) ∙ c.loop-row.invariant
