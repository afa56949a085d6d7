use Rattle.std.proofs.Common.{ℤ, List, ap, ◌∙◌, w32}
use Rattle.std.specs.Prelude.{is_some}
use Rattle.std.proofs.lemmas.Int.{to_z-of_z}
use Rattle.ci_shared.specs.Queues.{Queue, queue_of}
use Rattle.ci_queues.specs.declared.held.Head.{Head}
use Rattle.ci_queues.specs.Held.{has_number}
use Rattle.ci_queues.proofs.Keeping.{found}
use Rattle.ci_queues.proofs.queues.Queues.has.Goals as goal

pub returns : goal.returns
returns c =
    c.has_number.ensures ∙ ap (λ (h : ℤ). has_number h c.as_slice.result.now) (to_z-of_z w32 c.args.number c.ranges.number)
    ∙ ap (λ (l : List Head). has_number c.args.number l) c.as_slice.ensures.value
    ∙ found c.args.number c.self.inside.heads.items c.self.inside.elements.items
    ∙ ap (λ (l : List Queue). is_some (queue_of c.args.number l)) c.self.view_is
