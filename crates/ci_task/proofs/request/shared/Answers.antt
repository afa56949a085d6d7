use Rattle.std.proofs.Common.{List, length, sym, ap, ◌∙◌}
use Rattle.ci_base.specs.declared.value.Value.{Value}
use Rattle.ci_base.specs.Requests.{request_of}
use Rattle.ci_task.proofs.Asking.{ask_told}
use Rattle.ci_task.proofs.request.shared.Goals as goal

pub returns : goal.returns
returns c = λ q asks.
    let t = ask_told c.args.code.now c.args.name c.args.stack.now q asks in
    c.request_of.ensures
    ∙ ap (λ (l : List Value). request_of c.args.name l) (c.as_slice.ensures.value ∙ c.last_values-given.ensures.value t.0 t.1 t.2 (t.3 ∙ sym (ap length c.takes-count.ensures)))
    ∙ sym t.4
