use Rattle.std.proofs.Common.{◌≡◌, [], None, List, map, refl, subst}
use Rattle.ci_base.specs.declared.event.Event.{Event}
use Rattle.ci_script.specs.Scripts.{IsScript}
use Rattle.ci_base.specs.declared.layout.CellHead.{CellHead}
use Rattle.ci_code.specs.declared.raw.RawParts.{RawParts}
use Rattle.ci_code.specs.Code.{IsCode}
use Rattle.ci_runtime.specs.declared.board.Board.{Board}
use Rattle.ci_runtime.proofs.Beginning.{kept_first, usable}
use Rattle.ci_shared.specs.Laws.{opening}
use Rattle.ci_shared.specs.Started.{basis_of}
use Rattle.ci_runtime.proofs.desk.Desk.start.Goals as goal

pub start-requires : goal.start-requires
start-requires c = usable c.parts-parts.result.now c.parts-parts.ensures.kept c.parts-parts.ensures.sound

pub invariant_of-result : goal.invariant_of-result
invariant_of-result c =
    let b : Board = record { notes = c.in_ok-notes.notes; seats = c.in_ok-seats.seats; store = c.in_ok-store.store; next = 0; last = 0; work = 0; instructions = 0 } in
    let P : RawParts → Type 0 = λ x. c.in_ok-store.store ≡ record { basis = basis_of x.layout; shared = opening (map (λ (y : CellHead). y.first) x.layout.cells); deliveries = []; birth = None } in
    kept_first _ c.code-code.result.now c.args.limits b (record { is_code = subst (λ (x : RawParts). IsCode x) c.parts-parts.ensures.value c.parts-parts.ensures.kept; program = c.code-code.ensures }) (subst (λ (l : List Event). IsScript l) c.events-events.ensures.value c.events-events.ensures.keeps)
    (subst P c.parts-parts.ensures.value c.in_ok-store.ensures) c.in_ok-notes.ensures c.in_ok-seats.ensures refl refl refl
