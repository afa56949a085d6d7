use Rattle.std.proofs.Common.{◌≡◌, ℕ, List, length, ap, sym, ◌∙◌, arith}
use Rattle.std.specs.Prelude.{nat_le}
use Rattle.std.specs.Vec.{vec_len}
use Rattle.ci_base.specs.declared.bounds.TheConstants.{MOST_OBJECTS}
use Rattle.ci_shared.specs.Queues.{Queue}
use Rattle.ci_queues.proofs.Keeping.{as_many}
use Rattle.ci_queues.proofs.queues.Queues.is_full.Goals as goal

pub returns : goal.returns
returns c =
    let long : vec_len c.self.inside.heads ≡ length c.self.inside.heads.items = omega arith in
    ap (λ (n : ℕ). nat_le MOST_OBJECTS n)
    (c.len.ensures ∙ long ∙ sym (as_many c.self.inside.heads.items c.self.inside.elements.items) ∙ ap (λ (l : List Queue). length l) c.self.view_is)
