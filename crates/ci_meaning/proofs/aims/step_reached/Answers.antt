use Rattle.std.proofs.Common.{sym, ap, ap₂, ◌∙◌, subst}
use Rattle.ci_base.specs.declared.value.Value.{Value}
use Rattle.ci_tree.specs.SeenBound.{project_of}
use Rattle.ci_meaning.specs.declared.parts.Aim.{Aim}
use Rattle.ci_meaning.specs.declared.parts.Aim.TheVariants as aims
use Rattle.ci_meaning.specs.declared.parts.Counting.{Counting}
use Rattle.ci_meaning.specs.Held.{aim_of, Reaches}
use Rattle.ci_meaning.specs.Meaning.{reached}
use Rattle.ci_meaning.proofs.aims.step_reached.Goals as goal

pub returns-in-Store-clause-ok : goal.returns-in-Store-clause-ok
returns-in-Store-clause-ok c heads = subst (λ (a : Aim). Reaches heads (reached (project_of c.args.project.now) c.args.value.now (aim_of heads a)) c.args.task.now c.reach_store.result c.reach_store.new.task) (sym (c.in-Store.is)) (c.reach_store.ensures (project_of c.args.project.now) heads)

pub returns-in-Index-clause-ok : goal.returns-in-Index-clause-ok
returns-in-Index-clause-ok c heads = subst (λ (a : Aim). Reaches heads (reached (project_of c.args.project.now) c.args.value.now (aim_of heads a)) c.args.task.now c.reach_index.result c.reach_index.new.task) (sym (c.in-Index.is)) (c.reach_index.ensures (project_of c.args.project.now) heads)

pub returns-in-Begin-clause-ok : goal.returns-in-Begin-clause-ok
returns-in-Begin-clause-ok c heads = subst (λ (a : Aim). Reaches heads (reached (project_of c.args.project.now) c.args.value.now (aim_of heads a)) c.args.task.now c.reach_begin.result c.reach_begin.new.task) (sym (c.in-Begin.is)) (c.reach_begin.ensures (project_of c.args.project.now) heads)

pub returns-in-Low-clause-ok : goal.returns-in-Low-clause-ok
returns-in-Low-clause-ok c heads = subst (λ (a : Aim). Reaches heads (reached (project_of c.args.project.now) c.args.value.now (aim_of heads a)) c.args.task.now c.reach_low.result c.reach_low.new.task) (sym (c.in-Low.is ∙ ap (λ (of : Value). aims.Low of c.in-Low.high c.in-Low.labels c.in-Low.branch) (sym c.copy-of-in-Low.ensures))) (c.reach_low.ensures (project_of c.args.project.now) heads)

pub returns-in-Return-clause-ok : goal.returns-in-Return-clause-ok
returns-in-Return-clause-ok c heads = subst (λ (a : Aim). Reaches heads (reached (project_of c.args.project.now) c.args.value.now (aim_of heads a)) c.args.task.now c.reach_return.result c.reach_return.new.task) (sym (c.in-Return.is)) (c.reach_return.ensures (project_of c.args.project.now) heads)

pub returns-in_ok-reach_choose-in-Choose-clause-ok : goal.returns-in_ok-reach_choose-in-Choose-clause-ok
returns-in_ok-reach_choose-in-Choose-clause-ok c heads = subst (λ (a : Aim). Reaches heads (reached (project_of c.args.project.now) c.args.value.now (aim_of heads a)) c.args.task.now c.in_ok-reach_choose-in-Choose.field-0 c.reach_choose.new.task) (sym (c.in-Choose.is)) (c.in_ok-reach_choose-in-Choose.ensures.ok (project_of c.args.project.now) heads)

pub returns-in_ok-reach_turn-in-Turn-clause-ok : goal.returns-in_ok-reach_turn-in-Turn-clause-ok
returns-in_ok-reach_turn-in-Turn-clause-ok c heads = subst (λ (a : Aim). Reaches heads (reached (project_of c.args.project.now) c.args.value.now (aim_of heads a)) c.args.task.now c.in_ok-reach_turn-in-Turn.field-0 c.reach_turn.new.task) (sym (c.in-Turn.is)) (c.in_ok-reach_turn-in-Turn.ensures.ok (project_of c.args.project.now) heads)

pub returns-in_ok-reach_count-in-Count-clause-ok : goal.returns-in_ok-reach_count-in-Count-clause-ok
returns-in_ok-reach_count-in-Count-clause-ok c heads = subst (λ (a : Aim). Reaches heads (reached (project_of c.args.project.now) c.args.value.now (aim_of heads a)) c.args.task.now c.in_ok-reach_count-in-Count.field-0 c.reach_count.new.task) (sym (c.in-Count.is ∙ ap (λ (first : Value). aims.Count first c.in-Count.counter c.in-Count.body) (sym c.copy-first.ensures))) (c.in_ok-reach_count-in-Count.ensures.ok (project_of c.args.project.now) heads)

pub returns-in_ok-reach_compare-in-Compare-clause-ok : goal.returns-in_ok-reach_compare-in-Compare-clause-ok
returns-in_ok-reach_compare-in-Compare-clause-ok c heads = subst (λ (a : Aim). Reaches heads (reached (project_of c.args.project.now) c.args.value.now (aim_of heads a)) c.args.task.now c.in_ok-reach_compare-in-Compare.field-0 c.reach_compare.new.task) (sym (c.in-Compare.is ∙ ap (λ (counting : Counting). aims.Compare counting) (sym c.copy-counting.ensures))) (c.in_ok-reach_compare-in-Compare.ensures.ok (project_of c.args.project.now) heads)

pub returns-in_ok-reach_raise-in-Raise-clause-ok : goal.returns-in_ok-reach_raise-in-Raise-clause-ok
returns-in_ok-reach_raise-in-Raise-clause-ok c heads = subst (λ (a : Aim). Reaches heads (reached (project_of c.args.project.now) c.args.value.now (aim_of heads a)) c.args.task.now c.in_ok-reach_raise-in-Raise.field-0 c.reach_raise.new.task) (sym (c.in-Raise.is ∙ ap (λ (counting : Counting). aims.Raise counting) (sym c.copy-counting-in-Raise.ensures))) (c.in_ok-reach_raise-in-Raise.ensures.ok (project_of c.args.project.now) heads)

pub returns-in_ok-reach_select-in-Select-clause-ok : goal.returns-in_ok-reach_select-in-Select-clause-ok
returns-in_ok-reach_select-in-Select-clause-ok c heads = subst (λ (a : Aim). Reaches heads (reached (project_of c.args.project.now) c.args.value.now (aim_of heads a)) c.args.task.now c.in_ok-reach_select-in-Select.field-0 c.reach_select.new.task) (sym (c.in-Select.is)) (c.in_ok-reach_select-in-Select.ensures.ok (project_of c.args.project.now) heads)

pub returns-in_ok-reach_match-in-Match-clause-ok : goal.returns-in_ok-reach_match-in-Match-clause-ok
returns-in_ok-reach_match-in-Match-clause-ok c heads = subst (λ (a : Aim). Reaches heads (reached (project_of c.args.project.now) c.args.value.now (aim_of heads a)) c.args.task.now c.in_ok-reach_match-in-Match.field-0 c.reach_match.new.task) (sym (c.in-Match.is ∙ ap (λ (of : Value). aims.Match of c.in-Match.relation c.in-Match.labels c.in-Match.branch) (sym c.copy-of.ensures))) (c.in_ok-reach_match-in-Match.ensures.ok (project_of c.args.project.now) heads)

pub returns-in_ok-reach_high-in-High-clause-ok : goal.returns-in_ok-reach_high-in-High-clause-ok
returns-in_ok-reach_high-in-High-clause-ok c heads = subst (λ (a : Aim). Reaches heads (reached (project_of c.args.project.now) c.args.value.now (aim_of heads a)) c.args.task.now c.in_ok-reach_high-in-High.field-0 c.reach_high.new.task) (sym (c.in-High.is ∙ ap₂ (λ (of low : Value). aims.High of low c.in-High.labels c.in-High.branch) (sym c.copy-of-in-High.ensures) (sym c.copy-low.ensures))) (c.in_ok-reach_high-in-High.ensures.ok (project_of c.args.project.now) heads)
