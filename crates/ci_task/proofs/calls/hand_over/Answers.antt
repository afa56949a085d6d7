use Rattle.std.proofs.Common.{◌≡◌, ◌+◌, List, [], ◌∷◌, ◌++◌, length, take, drop, sym, ap, ◌∙◌, arith, length-append, append_assoc}
use Rattle.std.proofs.lemmas.List.{take-append-drop, length-drop}
use Rattle.ci_base.specs.declared.value.Value.{Value}
use Rattle.std.specs.Prelude.{Option}
use Rattle.ci_base.specs.declared.value.Kind.{Kind}
use Rattle.ci_code.specs.Machine.{given}
use Rattle.ci_task.proofs.calls.hand_over.Goals as goal

pub returns-in-None : goal.returns-in-None
returns-in-None c = λ low v e.
    let long : length c.args.stack.now ≡ length low + 1 = ap length e ∙ length-append low (v ∷ []) in
    c.replace_by_number.ensures (take c.args.base low) (drop c.args.base low ++ v ∷ [])
    (e ∙ ap (λ (l : List Value). l ++ v ∷ []) (sym (take-append-drop c.args.base low)) ∙ append_assoc (take c.args.base low) (drop c.args.base low) (v ∷ []))
    (omega (arith, length-append (drop c.args.base low) (v ∷ []), length-drop c.args.base low, c.count.ensures.value, long))
    ∙ ap (λ (o : Option Kind). take c.args.base low ++ given o v ∷ []) (sym c.in-None.is)
