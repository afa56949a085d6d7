use Rattle.std.proofs.Common.{◌≡◌, ◌∙◌, ◌<◌, ℕ, Bool, List, Some, length, ap, sym, subst, add-one, arith}
use Rattle.std.specs.Prelude.{slice_get}
use Rattle.ci_shared.specs.declared.object.Section.{Section}
use Rattle.ci_sections.specs.Picked.{GivesAt, picks}
use Rattle.ci_sections.proofs.Handing.{Giving, end_given, end_lines, end_woken, giving_goes, giving_passes, giving_stays}
use Rattle.ci_sections.proofs.Held.{got_in}
use Rattle.ci_sections.proofs.sections.Sections.give.Goals as goal

pub loop-at-preserved-then-not-picks : goal.loop-at-preserved-then-not-picks
loop-at-preserved-then-not-picks c =
    let lt : c.loop-at.at < length c.self.inside.kept.items = omega (arith, c.len.ensures, c.loop-at-test.true) in
    let got : slice_get c.loop-at.self c.loop-at.at ≡ Some c.index.result.now = got_in c.self.inside.kept.items c.loop-at.self c.loop-at.at c.index.result.now c.self.view_is lt c.index.ensures in
    subst (λ (k : ℕ). Giving (picks c.args.given.now) c.args.self.now c.args.lines.now c.args.woken.now k c.loop-at.self c.loop-at.lines c.loop-at.woken) (sym (add-one c.loop-at.at))
    (giving_passes (picks c.args.given.now) c.args.self.now c.args.lines.now c.args.woken.now c.loop-at.at c.loop-at.self c.loop-at.lines c.loop-at.woken c.loop-at.invariant c.index.result.now got (sym c.picks.ensures ∙ c.if-not-picks.true))

pub loop-at-preserved-then-give_at : goal.loop-at-preserved-then-give_at
loop-at-preserved-then-give_at c =
    let lt : c.loop-at.at < length c.self.inside.kept.items = omega (arith, c.len.ensures, c.loop-at-test.true) in
    let got : slice_get c.loop-at.self c.loop-at.at ≡ Some c.index.result.now = got_in c.self.inside.kept.items c.loop-at.self c.loop-at.at c.index.result.now c.self.view_is lt c.index.ensures in
    subst (λ (k : ℕ). Giving (picks c.args.given.now) c.args.self.now c.args.lines.now c.args.woken.now k c.give_at.new.self c.give_at.new.lines c.give_at.new.woken) (sym (add-one c.loop-at.at))
    (giving_stays (picks c.args.given.now) c.args.self.now c.args.lines.now c.args.woken.now c.loop-at.at c.loop-at.self c.loop-at.lines c.loop-at.woken c.loop-at.invariant c.give_at.new.self c.give_at.new.lines c.give_at.new.woken c.index.result.now got (sym c.picks.ensures ∙ c.if-not-picks.false)
    (subst (λ (b : Bool). GivesAt c.loop-at.at b c.loop-at.self c.give_at.new.self c.loop-at.lines c.give_at.new.lines c.loop-at.woken c.give_at.new.woken) c.if-give_at.true c.give_at.ensures))

pub loop-at-preserved : goal.loop-at-preserved
loop-at-preserved c =
    let lt : c.loop-at.at < length c.self.inside.kept.items = omega (arith, c.len.ensures, c.loop-at-test.true) in
    let got : slice_get c.loop-at.self c.loop-at.at ≡ Some c.index.result.now = got_in c.self.inside.kept.items c.loop-at.self c.loop-at.at c.index.result.now c.self.view_is lt c.index.ensures in
    giving_goes (picks c.args.given.now) c.args.self.now c.args.lines.now c.args.woken.now c.loop-at.at c.loop-at.self c.loop-at.lines c.loop-at.woken c.loop-at.invariant c.give_at.new.self c.give_at.new.lines c.give_at.new.woken c.index.result.now got (sym c.picks.ensures ∙ c.if-not-picks.false)
    (subst (λ (b : Bool). GivesAt c.loop-at.at b c.loop-at.self c.give_at.new.self c.loop-at.lines c.give_at.new.lines c.loop-at.woken c.give_at.new.woken) c.if-give_at.false c.give_at.ensures)

pub returns-clause-sections : goal.returns-clause-sections
returns-clause-sections c =
    let long : length c.self.inside.kept.items ≡ length c.loop-at.self = ap (λ (l : List Section). length l) c.self.view_is in
    end_given (picks c.args.given.now) c.args.self.now c.args.lines.now c.args.woken.now c.loop-at.at c.loop-at.self c.loop-at.lines c.loop-at.woken c.loop-at.invariant (omega (arith, long, c.len.ensures, c.loop-at-test.false))

pub returns-clause-lines : goal.returns-clause-lines
returns-clause-lines c =
    let long : length c.self.inside.kept.items ≡ length c.loop-at.self = ap (λ (l : List Section). length l) c.self.view_is in
    end_lines (picks c.args.given.now) c.args.self.now c.args.lines.now c.args.woken.now c.loop-at.at c.loop-at.self c.loop-at.lines c.loop-at.woken c.loop-at.invariant (omega (arith, long, c.len.ensures, c.loop-at-test.false))

pub returns-clause-woken : goal.returns-clause-woken
returns-clause-woken c =
    let long : length c.self.inside.kept.items ≡ length c.loop-at.self = ap (λ (l : List Section). length l) c.self.view_is in
    end_woken (picks c.args.given.now) c.args.self.now c.args.lines.now c.args.woken.now c.loop-at.at c.loop-at.self c.loop-at.lines c.loop-at.woken c.loop-at.invariant (omega (arith, long, c.len.ensures, c.loop-at-test.false))
