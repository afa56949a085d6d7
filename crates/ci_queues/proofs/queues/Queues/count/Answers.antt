use Rattle.std.proofs.Common.{◌≡◌, length, ap, ◌∙◌, arith}
use Rattle.std.specs.VecDeque.{deque_len}
use Rattle.ci_shared.specs.Queues.{Queue, count_items}
use Rattle.std.specs.Prelude.{List}
use Rattle.ci_queues.proofs.Keeping.{count_all}
use Rattle.ci_queues.proofs.queues.Queues.count.Goals as goal

pub returns : goal.returns
returns c =
    let long : deque_len c.self.inside.elements ≡ length c.self.inside.elements.items = omega arith in
    c.len.ensures ∙ long ∙ count_all c.self.inside.heads.items c.self.inside.elements.items c.self.invariant.2.apart c.self.invariant.2.held
    ∙ ap (λ (l : List Queue). count_items l) c.self.view_is
