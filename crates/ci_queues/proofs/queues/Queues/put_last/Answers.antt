use Rattle.std.proofs.Common.{◌≡◌, ◌≤◌, ◌<◌, ◌++◌, ◌∷◌, [], ℤ, List, length, true, sym, ap, ◌∙◌, subst, arith, to_z, of_z, w32}
use Rattle.std.specs.Prelude.{is_some}
use Rattle.std.specs.VecDeque.{deque_capacity}
use Rattle.std.proofs.lemmas.Int.{to_z-of_z}
use Rattle.ci_base.specs.declared.bounds.TheConstants.{MOST_ELEMENTS}
use Rattle.ci_shared.specs.Queues.{Queue, count_items, queue_of, with_items}
use Rattle.ci_queues.specs.declared.held.Element.{Element}
use Rattle.ci_queues.specs.Fronts.{items_in}
use Rattle.ci_queues.specs.Held.{IsSound, has_number, queues_of}
use Rattle.ci_queues.proofs.Keeping.{count_all, found, put_sound, put_view}
use Rattle.ci_queues.proofs.queues.Queues.put_last.Goals as goal

pub push_back_reserved-requires : goal.push_back_reserved-requires
push_back_reserved-requires c =
    let many : length c.self.inside.elements.items ≡ count_items c.args.self.now = count_all c.self.inside.heads.items c.self.inside.elements.items c.self.invariant.2.apart c.self.invariant.2.held ∙ ap (λ (l : List Queue). count_items l) c.self.view_is in
    let room : MOST_ELEMENTS ≤ deque_capacity c.self.inside.elements = c.self.invariant.1 in
    omega (arith, many, room, c.requires.room)

pub invariant_of-self : goal.invariant_of-self
invariant_of-self c =
    let e : to_z w32 (of_z w32 c.args.number) ≡ c.args.number = to_z-of_z w32 c.args.number c.ranges.number in
    let room : MOST_ELEMENTS ≤ deque_capacity c.self.inside.elements = c.self.invariant.1 in
    let many : length c.self.inside.elements.items ≡ count_items c.args.self.now = count_all c.self.inside.heads.items c.self.inside.elements.items c.self.invariant.2.apart c.self.invariant.2.held ∙ ap (λ (l : List Queue). count_items l) c.self.view_is in
    let there : has_number c.args.number c.self.inside.heads.items ≡ true = found c.args.number c.self.inside.heads.items c.self.inside.elements.items ∙ ap (λ (l : List Queue). is_some (queue_of c.args.number l)) c.self.view_is ∙ c.requires.there in
    let short : length c.self.inside.elements.items < MOST_ELEMENTS = omega (arith, many, c.requires.room) in (
      c.self.invariant.0,
      omega (arith, room, c.push_back_reserved.ensures.capacity),
      subst (λ (l : List Element). IsSound c.self.inside.heads.items l) (sym (c.push_back_reserved.ensures.items ∙ ap (λ (z : ℤ). c.self.inside.elements.items ++ record { queue = z; item = c.args.item } ∷ []) e))
          (put_sound c.self.inside.heads.items c.self.inside.elements.items (record { queue = c.args.number; item = c.args.item }) c.self.invariant.2 there short),
    )

pub returns : goal.returns
returns c =
    let e : to_z w32 (of_z w32 c.args.number) ≡ c.args.number = to_z-of_z w32 c.args.number c.ranges.number in
    ap (λ (l : List Element). queues_of c.self.inside.heads.items l) (c.push_back_reserved.ensures.items ∙ ap (λ (z : ℤ). c.self.inside.elements.items ++ record { queue = z; item = c.args.item } ∷ []) e)
    ∙ put_view c.args.number c.args.item c.self.inside.heads.items c.self.inside.elements.items c.self.invariant.2.apart c.self.invariant.2.held
    ∙ ap (λ (l : List Queue). with_items c.args.number (items_in c.args.number l ++ c.args.item ∷ []) l) c.self.view_is
