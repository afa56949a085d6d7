use Rattle.std.proofs.Common.{◌≤◌, ℕ, ℤ, List, length, pos, sym, ap, ◌∙◌, arith, w32}
use Rattle.std.specs.Prelude.{filter}
use Rattle.std.specs.Ordering.{int_eq}
use Rattle.std.proofs.lemmas.Int.{to_z-of_z, to_z_pos}
use Rattle.ci_base.specs.declared.bounds.TheConstants.{MOST_ELEMENTS}
use Rattle.ci_shared.specs.declared.object.Item.{Item}
use Rattle.ci_shared.specs.Queues.{Queue}
use Rattle.ci_queues.specs.declared.held.Element.{Element}
use Rattle.ci_queues.specs.Fronts.{items_in}
use Rattle.ci_queues.proofs.Keeping.{count_own, items_found}
use Rattle.ci_queues.proofs.queues.Queues.count_in.Goals as goal

pub returns : goal.returns
returns c =
    let few : length c.self.inside.elements.items ≤ MOST_ELEMENTS = c.self.invariant.2.few in
    to_z_pos w32 c.count_of.result (omega (arith, few, c.count_of.ensures.within))
    ∙ ap (λ (n : ℕ). pos n)
    (c.count_of.ensures.exact
    ∙ ap (λ (h : ℤ). length (filter (λ (e : Element). int_eq e.queue h) c.self.inside.elements.items)) (to_z-of_z w32 c.args.number c.ranges.number)
    ∙ count_own c.args.number c.self.inside.elements.items
    ∙ ap (λ (l : List Item). length l) (sym (items_found c.args.number c.self.inside.heads.items c.self.inside.elements.items c.self.invariant.2.held))
    ∙ ap (λ (l : List Queue). length (items_in c.args.number l)) c.self.view_is)
