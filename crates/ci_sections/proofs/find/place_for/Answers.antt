use Rattle.std.proofs.Common.{◌≡◌, ℕ, List, length, refl, sym, subst}
use Rattle.ci_shared.specs.declared.object.Section.{Section}
use Rattle.ci_shared.proofs.First.{FirstAt, Nowhere}
use Rattle.ci_sections.proofs.Held.{later, put_here, put_last, stands, stands_nowhere}
use Rattle.ci_sections.proofs.find.place_for.Goals as goal

pub returns-in-Some-clause-place : goal.returns-in-Some-clause-place
returns-in-Some-clause-place c = λ (section : Section) (same : section.name ≡ c.args.text.now).
    put_here section c.args.kept.now c.in-Some.at
    (subst (λ (name : List ℕ). FirstAt (later name) c.args.kept.now c.in-Some.at) (sym same) (stands (later c.args.text.now) c.args.kept.now c.args.kept.now c.in-Some.at refl c.in-Some.ensures.first))

pub returns-in-None-clause-place : goal.returns-in-None-clause-place
returns-in-None-clause-place c = λ (section : Section) (same : section.name ≡ c.args.text.now).
    put_last section c.args.kept.now (length c.args.kept.now) refl
    (subst (λ (name : List ℕ). Nowhere (later name) c.args.kept.now) (sym same) (stands_nowhere (later c.args.text.now) c.args.kept.now c.args.kept.now refl c.in-None.ensures.first))
