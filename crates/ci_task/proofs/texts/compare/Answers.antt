use Rattle.std.proofs.Common.{◌≡◌, ◌-◌, ◌∷◌, ◌++◌, [], ℤ, refl, ap, ◌∙◌, arith, length-append, w32, to_z, of_z}
use Rattle.std.specs.declared.cmp.Ordering.{Ordering}
use Rattle.ci_base.specs.Comparisons.{relates}
use Rattle.ci_base.specs.Values.{truth}
use Rattle.ci_base.specs.declared.value.Value.TheVariants.{Int, Str}
use Rattle.ci_base.specs.declared.value.Kind.TheVariants as kinds
use Rattle.ci_code.specs.declared.instruction.Instruction.TheVariants as does
use Rattle.ci_code.specs.Machine.{compared}
use Rattle.ci_stack.proofs.Placing.{trip}
use Rattle.ci_stack.proofs.Topping.{at, length_two, length_last, two_as_one}
use Rattle.ci_task.proofs.Coming.{texts_can, texts_do, text_is}
use Rattle.ci_task.proofs.texts.compare.Goals as goal

pub overflow_sub-low : goal.overflow_sub-low
overflow_sub-low c =
    let f = texts_can c.args.code.now (does.CmpStr c.args.relation) kinds.Int (λ x y. compared c.args.relation (Str x) (Str y)) c.args.at c.args.stack.now c.args.heard.now (λ m. refl) c.requires.can in
    omega (arith, c.count-count.ensures.value, length_two c.args.stack.now f.0 (Str f.1) (Str f.2) f.3)

pub overflow_sub-high : goal.overflow_sub-high
overflow_sub-high c =
    let f = texts_can c.args.code.now (does.CmpStr c.args.relation) kinds.Int (λ x y. compared c.args.relation (Str x) (Str y)) c.args.at c.args.stack.now c.args.heard.now (λ m. refl) c.requires.can in
    omega (arith, c.count-count.ensures.value, length_two c.args.stack.now f.0 (Str f.1) (Str f.2) f.3)

pub text_at-first-requires : goal.text_at-first-requires
text_at-first-requires c =
    let f = texts_can c.args.code.now (does.CmpStr c.args.relation) kinds.Int (λ x y. compared c.args.relation (Str x) (Str y)) c.args.at c.args.stack.now c.args.heard.now (λ m. refl) c.requires.can in
    (f.1, at c.args.stack.now f.0 (Str f.2 ∷ []) (Str f.1) (c.count-count.result - 2) f.3 (omega (arith, c.count-count.ensures.value, length_two c.args.stack.now f.0 (Str f.1) (Str f.2) f.3)))

pub text_at-second-requires : goal.text_at-second-requires
text_at-second-requires c =
    let f = texts_can c.args.code.now (does.CmpStr c.args.relation) kinds.Int (λ x y. compared c.args.relation (Str x) (Str y)) c.args.at c.args.stack.now c.args.heard.now (λ m. refl) c.requires.can in
    (f.2, at c.args.stack.now (f.0 ++ Str f.1 ∷ []) [] (Str f.2) (c.count-count.result - 1) (two_as_one c.args.stack.now f.0 (Str f.1) (Str f.2) f.3) (omega (arith, c.count-count.ensures.value, length-append f.0 (Str f.1 ∷ []), length_two c.args.stack.now f.0 (Str f.1) (Str f.2) f.3)))

pub replace_by_number-requires-clause-there : goal.replace_by_number-requires-clause-there
replace_by_number-requires-clause-there c =
    let f = texts_can c.args.code.now (does.CmpStr c.args.relation) kinds.Int (λ x y. compared c.args.relation (Str x) (Str y)) c.args.at c.args.stack.now c.args.heard.now (λ m. refl) c.requires.can in
    omega (arith, length_two c.args.stack.now f.0 (Str f.1) (Str f.2) f.3)

pub replace_by_number-requires-clause-room : goal.replace_by_number-requires-clause-room
replace_by_number-requires-clause-room c =
    let f = texts_can c.args.code.now (does.CmpStr c.args.relation) kinds.Int (λ x y. compared c.args.relation (Str x) (Str y)) c.args.at c.args.stack.now c.args.heard.now (λ m. refl) c.requires.can in
    omega (arith, c.count-count.ensures.value, c.count-count.ensures.within, length_two c.args.stack.now f.0 (Str f.1) (Str f.2) f.3)

pub returns : goal.returns
returns c =
    let made : to_z w32 (of_z w32 c.truth-answer.result) ≡ truth (relates c.args.relation c.cmp-order.result) =
    trip c.truth-answer.result c.truth-answer.type_inv ∙ c.truth-answer.ensures ∙ ap truth c.relates.ensures in
    texts_do c.args.code.now (does.CmpStr c.args.relation) kinds.Int (λ x y. compared c.args.relation (Str x) (Str y)) c.args.at c.args.stack.now c.replace_by_number.new.self c.args.heard.now c.args.heard.now _ c.text_at-first.result.now c.text_at-second.result.now (λ m. refl)
    (λ low s v e. text_is c.args.stack.now low (v ∷ []) (c.count-count.result - 2) c.text_at-first.result.now s c.text_at-first.ensures.value e (omega (arith, c.count-count.ensures.value, length_two c.args.stack.now low (Str s) v e)))
    (λ low s e. text_is c.args.stack.now low [] (c.count-count.result - 1) c.text_at-second.result.now s c.text_at-second.ensures.value e (omega (arith, c.count-count.ensures.value, length_last c.args.stack.now low (Str s) e)))
    (refl, refl, λ low high split many. c.replace_by_number.ensures low high split many ∙ ap (λ (z : ℤ). low ++ Int z ∷ []) (made ∙ ap (λ (o : Ordering). truth (relates c.args.relation o)) c.cmp-order.ensures))
