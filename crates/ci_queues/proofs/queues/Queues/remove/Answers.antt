use Rattle.std.proofs.Common.{◌≡◌, ◌≤◌, ℤ, List, length, sym, ap, ap₂, ◌∙◌, subst, arith, to_z, of_z, w32}
use Rattle.std.specs.Vec.{vec_capacity}
use Rattle.std.specs.VecDeque.{deque_capacity}
use Rattle.std.proofs.lemmas.Int.{to_z-of_z}
use Rattle.ci_base.specs.declared.bounds.TheConstants.{MOST_ELEMENTS, MOST_OBJECTS}
use Rattle.ci_shared.specs.Queues.{Queue, no_queue}
use Rattle.ci_queues.specs.declared.held.Element.{Element}
use Rattle.ci_queues.specs.declared.held.Head.{Head}
use Rattle.ci_queues.specs.Held.{IsSound, queues_of}
use Rattle.ci_queues.proofs.Leaving.{gone_sound, gone_view, other_elements, other_heads}
use Rattle.ci_queues.proofs.queues.Queues.remove.Goals as goal

pub invariant_of-self : goal.invariant_of-self
invariant_of-self c =
    let e : to_z w32 (of_z w32 c.args.number) ≡ c.args.number = to_z-of_z w32 c.args.number c.ranges.number in
    let heads : c.drop_head.new.heads.items ≡ other_heads c.args.number c.self.inside.heads.items = c.drop_head.ensures.items ∙ ap (λ (z : ℤ). other_heads z c.self.inside.heads.items) e in
    let elements : c.drop_elements.new.elements.items ≡ other_elements c.args.number c.self.inside.elements.items = c.drop_elements.ensures.items ∙ ap (λ (z : ℤ). other_elements z c.self.inside.elements.items) e in
    let room : MOST_OBJECTS ≤ vec_capacity c.self.inside.heads = c.self.invariant.0 in
    let space : MOST_ELEMENTS ≤ deque_capacity c.self.inside.elements = c.self.invariant.1 in
    let long : length c.drop_elements.new.elements.items ≡ length (other_elements c.args.number c.self.inside.elements.items) = ap (λ (l : List Element). length l) elements in (
      omega (arith, room, c.drop_head.ensures.capacity),
      omega (arith, space, c.drop_elements.ensures.capacity),
      subst (λ (l : List Element). IsSound c.drop_head.new.heads.items l) (sym elements)
          (subst (λ (l : List Head). IsSound l (other_elements c.args.number c.self.inside.elements.items)) (sym heads)
          (gone_sound c.args.number c.self.inside.heads.items c.self.inside.elements.items c.self.invariant.2 (omega (arith, long, c.drop_elements.ensures.fewer)))),
    )

pub returns : goal.returns
returns c =
    let e : to_z w32 (of_z w32 c.args.number) ≡ c.args.number = to_z-of_z w32 c.args.number c.ranges.number in
    ap₂ (λ (xs : List Head) (es : List Element). queues_of xs es) (c.drop_head.ensures.items ∙ ap (λ (z : ℤ). other_heads z c.self.inside.heads.items) e) (c.drop_elements.ensures.items ∙ ap (λ (z : ℤ). other_elements z c.self.inside.elements.items) e)
    ∙ gone_view c.args.number c.self.inside.heads.items c.self.inside.elements.items c.self.invariant.2.apart
    ∙ ap (λ (l : List Queue). no_queue c.args.number l) c.self.view_is
