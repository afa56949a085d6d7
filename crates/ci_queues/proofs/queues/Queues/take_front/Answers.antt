use Rattle.std.proofs.Common.{◌≡◌, ◌≤◌, List, Option, Some, None, sym, ap, ◌∙◌, subst, arith, rules, to_z, of_z, w32, true≢false}
use Rattle.std.specs.Prelude.{slice_get}
use Rattle.std.specs.List.{remove}
use Rattle.std.specs.Ordering.{int_eq}
use Rattle.std.specs.VecDeque.{deque_capacity}
use Rattle.std.proofs.lemmas.Int.{to_z-of_z}
use Rattle.std.proofs.lemmas.Option.{slice_get-get_or}
use Rattle.ci_base.specs.declared.bounds.TheConstants.{MOST_ELEMENTS}
use Rattle.ci_shared.specs.declared.object.Item.{Item}
use Rattle.ci_shared.specs.Queues.{Queue}
use Rattle.ci_shared.proofs.First.{FirstAt}
use Rattle.ci_queues.specs.declared.held.Element.{Element}
use Rattle.ci_queues.specs.Fronts.{TakesFront, items_in}
use Rattle.ci_queues.specs.Held.{queues_of}
use Rattle.ci_queues.proofs.Leaving.{front_there, nothing_there, rest_sound, taken_view, untaken_view}
use Rattle.ci_queues.proofs.queues.Queues.take_front.Goals as goal
use Rattle.ci_queues.proofs.queues.Queues.take_front.Goals.{in-Some-remove, in-None}

pub invariant_of-self : goal.invariant_of-self
invariant_of-self c =
    let room : MOST_ELEMENTS ≤ deque_capacity c.self.inside.elements = c.self.invariant.1 in
    elim c.match-remove.branch [
      | in-Some-remove w ↦ (
        c.self.invariant.0,
        omega (arith, room, c.remove.ensures.capacity),
        rest_sound c.self.inside.heads.items c.self.inside.elements.items c.remove.new.self.items c.in-Some.at c.self.invariant.2 w.in-Some-remove.ensures.items (omega (arith, w.in-Some-remove.ensures.len)),
      )
      | in-None w ↦ search rules
    ]

pub returns : goal.returns
returns c =
    let there : FirstAt (λ (e : Element). int_eq e.queue c.args.number) c.self.inside.elements.items c.in-Some.at = front_there c.args.number (to_z w32 (of_z w32 c.args.number)) c.self.inside.elements.items c.in-Some.at (to_z-of_z w32 c.args.number c.ranges.number) (sym c.in-Some.ensures.first) in
    elim c.match-remove.branch [
      | in-Some-remove w ↦
          let got : slice_get c.self.inside.elements.items c.in-Some.at ≡ Some w.in-Some-remove.element =
          slice_get-get_or c.self.inside.elements.items c.in-Some.at w.in-Some-remove.element c.in-Some.ensures.within ∙ ap (λ (x : Element). Some x) (sym w.in-Some-remove.ensures.value) in
          let taken : TakesFront c.args.number (items_in c.args.number (queues_of c.self.inside.heads.items c.self.inside.elements.items)) (queues_of c.self.inside.heads.items c.self.inside.elements.items) (Some w.in-Some-remove.element.item) (queues_of c.self.inside.heads.items (remove c.self.inside.elements.items c.in-Some.at)) =
          taken_view c.args.number c.self.inside.heads.items c.self.inside.elements.items c.in-Some.at w.in-Some-remove.element c.self.invariant.2.apart c.self.invariant.2.held there got in
          subst (λ (o : Option Item). TakesFront c.args.number (items_in c.args.number c.args.self.now) c.args.self.now o (queues_of c.self.inside.heads.items c.remove.new.self.items)) (sym w.result-is)
          (subst (λ (l : List Element). TakesFront c.args.number (items_in c.args.number c.args.self.now) c.args.self.now (Some w.in-Some-remove.element.item) (queues_of c.self.inside.heads.items l)) (sym w.in-Some-remove.ensures.items)
          (subst (λ (l : List Queue). TakesFront c.args.number (items_in c.args.number l) l (Some w.in-Some-remove.element.item) (queues_of c.self.inside.heads.items (remove c.self.inside.elements.items c.in-Some.at))) c.self.view_is taken))
      | in-None w ↦ absurd (true≢false (sym (w.in-None.ensures.variant.1 (omega (arith, c.in-Some.ensures.within)))))
    ]

pub returns-in_default : goal.returns-in_default
returns-in_default c =
    let untaken : TakesFront c.args.number (items_in c.args.number (queues_of c.self.inside.heads.items c.self.inside.elements.items)) (queues_of c.self.inside.heads.items c.self.inside.elements.items) None (queues_of c.self.inside.heads.items c.self.inside.elements.items) =
    untaken_view c.args.number c.self.inside.heads.items c.self.inside.elements.items c.self.invariant.2.held
    (nothing_there c.args.number (to_z w32 (of_z w32 c.args.number)) c.self.inside.elements.items (to_z-of_z w32 c.args.number c.ranges.number) (sym c.in_default.ensures.first)) in
    subst (λ (l : List Queue). TakesFront c.args.number (items_in c.args.number l) l None l) c.self.view_is untaken
