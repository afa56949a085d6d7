use Rattle.std.proofs.Common.{◌+◌, ◌<◌, ◌^◌, ◌∙◌, Option, None, sym, ap, subst}
use Rattle.ci_base.specs.declared.task.Birth.{Birth}
use Rattle.ci_shared.specs.Laws.{gained}
use Rattle.ci_shared.specs.Serving.{script}
use Rattle.ci_store.proofs.Whole.{event_sound, event_stored}
use Rattle.ci_store.specs.Done.{Happens}
use Rattle.ci_store.specs.Stored.{Stored, after, basis_in, shared_of}
use Rattle.ci_store.proofs.store.Store.event.Goals as goal
use Rattle.ci_store.proofs.store.Store.event.Goals.{After-happen}

early : (c : After-happen) → c.self.inside.parts.clock + gained c.args.event.now.what < 2 ^ 62
early c = subst (λ (s : Stored). s.shared.clock + gained c.args.event.now.what < 2 ^ 62) (sym c.self.view_is) c.requires

happens : (c : After-happen) → Happens (script (basis_in c.self.inside.parts) (shared_of c.self.inside.parts) c.args.event.now.what) c.happen.result (record c.self.inside.parts { woken = c.clear.new.self; birth = None }) c.happen.new.parts
happens c = subst (λ (b : Option Birth). Happens (script (basis_in c.self.inside.parts) (shared_of c.self.inside.parts) c.args.event.now.what) c.happen.result (record c.self.inside.parts { woken = c.clear.new.self; birth = b }) c.happen.new.parts) c.forget.ensures c.happen.ensures

pub invariant_of-self : goal.invariant_of-self
invariant_of-self c = event_sound c.self.inside.parts c.happen.new.parts c.self.invariant c.args.event.now.what (early c) c.clear.new.self c.happen.result (happens c)

pub returns-clause-stored : goal.returns-clause-stored
returns-clause-stored c =
    event_stored c.self.inside.parts c.happen.new.parts c.self.invariant c.args.event.now.what (early c) c.clear.new.self c.happen.result (happens c)
    ∙ ap (λ (s : Stored). after s.basis (script s.basis s.shared c.args.event.now.what)) c.self.view_is
