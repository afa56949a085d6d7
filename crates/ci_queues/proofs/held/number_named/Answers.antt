use Rattle.std.proofs.Common.{◌≡◌, ◌∙◌, ℤ, List, Some, length, sym, ap, rules, w32, SFits}
use Rattle.std.specs.Prelude.{◌<◌, slice_get}
use Rattle.std.proofs.lemmas.Int.{to_z-of_z}
use Rattle.std.proofs.lemmas.Option.{slice_get-get_or}
use Rattle.ci_shared.proofs.First.{FirstAt, first_at, first_within, nowhere}
use Rattle.ci_shared.specs.Words.{same_text}
use Rattle.ci_queues.specs.declared.held.Element.{Element}
use Rattle.ci_queues.specs.declared.held.Head.{Head}
use Rattle.ci_queues.proofs.Keeping.{named_here, named_nowhere}
use Rattle.ci_queues.proofs.held.number_named.Goals as goal

pub returns-in-Some : goal.returns-in-Some
returns-in-Some c = λ (elements : List Element).
    let there : FirstAt (λ (z : Head). same_text z.name c.args.text.now) c.args.heads.now c.in-Some.at = first_at (λ (z : Head). same_text z.name c.args.text.now) c.args.heads.now c.in-Some.at (sym c.in-Some.ensures.first) in
    let lt : c.in-Some.at < length c.args.heads.now = first_within (λ (z : Head). same_text z.name c.args.text.now) c.args.heads.now c.in-Some.at there in
    let got : slice_get c.args.heads.now c.in-Some.at ≡ Some c.index-heads-at.result =
    slice_get-get_or c.args.heads.now c.in-Some.at c.index-heads-at.result lt ∙ ap (λ (x : Head). Some x) (sym c.index-heads-at.is) in
    let fits : SFits w32 c.number_of.result = search rules in
    ap (λ (n : ℤ). Some n) (to_z-of_z w32 c.number_of.result fits ∙ c.number_of.ensures)
    ∙ named_here c.args.text.now c.args.heads.now elements c.in-Some.at c.index-heads-at.result there got

pub returns-in-None : goal.returns-in-None
returns-in-None c = λ (elements : List Element).
    named_nowhere c.args.text.now c.args.heads.now elements (nowhere (λ (z : Head). same_text z.name c.args.text.now) 0 c.args.heads.now (sym c.in-None.ensures.first))
