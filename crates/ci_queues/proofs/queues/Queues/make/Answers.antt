use Rattle.std.proofs.Common.{◌≡◌, ◌≤◌, ℕ, ◌++◌, ◌∷◌, [], ℤ, List, length, false, sym, ap, ap₂, ◌∙◌, subst, arith, to_z, of_z, w32}
use Rattle.std.specs.Prelude.{◌<ℤ◌}
use Rattle.std.specs.List.{All}
use Rattle.std.specs.Vec.{vec_capacity}
use Rattle.std.proofs.lemmas.Int.{to_z-of_z}
use Rattle.ci_base.specs.declared.bounds.TheConstants.{MOST_OBJECTS}
use Rattle.ci_shared.specs.Queues.{Queue}
use Rattle.ci_queues.specs.declared.held.Head.{Head}
use Rattle.ci_queues.specs.Held.{IsSound, has_number, queues_of}
use Rattle.ci_queues.proofs.Keeping.{as_many, fresh, made_view, made_sound}
use Rattle.ci_queues.proofs.queues.Queues.make.Goals as goal

pub push_reserved-requires : goal.push_reserved-requires
push_reserved-requires c =
    let many : length c.args.self.now ≡ length c.self.inside.heads.items = ap (λ (l : List Queue). length l) (sym c.self.view_is) ∙ as_many c.self.inside.heads.items c.self.inside.elements.items in
    let room : MOST_OBJECTS ≤ vec_capacity c.self.inside.heads = c.self.invariant.0 in
    omega (arith, many, room, c.requires.room)

pub invariant_of-self : goal.invariant_of-self
invariant_of-self c =
    let e : to_z w32 (of_z w32 c.args.number) ≡ c.args.number = to_z-of_z w32 c.args.number c.ranges.number in
    let room : MOST_OBJECTS ≤ vec_capacity c.self.inside.heads = c.self.invariant.0 in
    let new : has_number c.args.number c.self.inside.heads.items ≡ false = fresh c.args.number c.self.inside.heads.items c.self.inside.elements.items (subst (λ (l : List Queue). All (λ (q : Queue). q.number <ℤ c.args.number) l) (sym c.self.view_is) c.requires.above) in (
      omega (arith, room, c.push_reserved.ensures.capacity),
      c.self.invariant.1,
      subst (λ (l : List Head). IsSound l c.self.inside.elements.items) (sym (c.push_reserved.ensures.items ∙ ap (λ (z : ℤ). c.self.inside.heads.items ++ record { number = z; name = c.copy.result } ∷ []) e))
          (made_sound c.self.inside.heads.items c.self.inside.elements.items (record { number = c.args.number; name = c.copy.result }) c.self.invariant.2 new),
    )

pub returns : goal.returns
returns c =
    let e : to_z w32 (of_z w32 c.args.number) ≡ c.args.number = to_z-of_z w32 c.args.number c.ranges.number in
    let new : has_number c.args.number c.self.inside.heads.items ≡ false = fresh c.args.number c.self.inside.heads.items c.self.inside.elements.items (subst (λ (l : List Queue). All (λ (q : Queue). q.number <ℤ c.args.number) l) (sym c.self.view_is) c.requires.above) in
    ap (λ (l : List Head). queues_of l c.self.inside.elements.items) (c.push_reserved.ensures.items ∙ ap (λ (z : ℤ). c.self.inside.heads.items ++ record { number = z; name = c.copy.result } ∷ []) e)
    ∙ made_view c.self.inside.heads.items c.self.inside.elements.items (record { number = c.args.number; name = c.copy.result }) c.self.invariant.2.held new
    ∙ ap₂ (λ (l : List Queue) (n : List ℕ). l ++ record { number = c.args.number; name = n; items = [] } ∷ []) c.self.view_is c.copy.ensures.value
