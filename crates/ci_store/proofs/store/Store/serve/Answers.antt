use Rattle.std.proofs.Common.{◌≡◌, ◌∙◌, Option, Some, None, sym, ap, subst}
use Rattle.ci_base.specs.declared.task.Birth.{Birth}
use Rattle.ci_shared.specs.Laws.{IsFormed}
use Rattle.ci_shared.specs.Roster.{Ready, standing_at}
use Rattle.ci_shared.specs.Serving.{apply}
use Rattle.ci_store.proofs.Whole.{serve_sound, serve_stored}
use Rattle.ci_store.specs.Done.{CanAsk, Serves}
use Rattle.ci_store.specs.Stored.{Stored, after, basis_in, shared_of}
use Rattle.ci_store.proofs.store.Store.serve.Goals as goal
use Rattle.ci_store.proofs.store.Store.serve.Goals.{After-serve}

ready : (c : After-serve) → CanAsk c.self.inside.parts c.args.task
ready c = subst (λ (s : Stored). standing_at s.shared.roster c.args.task ≡ Some Ready) (sym c.self.view_is) c.requires.ready

formed : (c : After-serve) → IsFormed (basis_in c.self.inside.parts) c.args.request.now
formed c = subst (λ (s : Stored). IsFormed s.basis c.args.request.now) (sym c.self.view_is) c.requires.formed

serves : (c : After-serve) → Serves (apply (basis_in c.self.inside.parts) (shared_of c.self.inside.parts) c.args.task c.args.request.now) c.serve.result (record c.self.inside.parts { woken = c.clear.new.self; birth = None }) c.serve.new.parts
serves c = subst (λ (b : Option Birth). Serves (apply (basis_in c.self.inside.parts) (shared_of c.self.inside.parts) c.args.task c.args.request.now) c.serve.result (record c.self.inside.parts { woken = c.clear.new.self; birth = b }) c.serve.new.parts) c.forget.ensures c.serve.ensures

pub invariant_of-self : goal.invariant_of-self
invariant_of-self c = serve_sound c.self.inside.parts c.serve.new.parts c.self.invariant c.args.task c.args.request.now (ready c) (formed c) c.clear.new.self c.serve.result (serves c)

pub returns-clause-stored : goal.returns-clause-stored
returns-clause-stored c =
    serve_stored c.self.inside.parts c.serve.new.parts c.self.invariant c.args.task c.args.request.now (ready c) (formed c) c.clear.new.self c.serve.result (serves c)
    ∙ ap (λ (s : Stored). after s.basis (apply s.basis s.shared c.args.task c.args.request.now)) c.self.view_is
