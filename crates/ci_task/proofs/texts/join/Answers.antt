use Rattle.std.proofs.Common.{◌-◌, ◌∷◌, ◌++◌, [], List, ℕ, length, refl, sym, ap, ◌∙◌, subst, arith, length-append}
use Rattle.ci_base.specs.TextFunctions.{joined}
use Rattle.ci_base.specs.Values.{Outcome}
use Rattle.ci_base.specs.declared.value.Value.{Value}
use Rattle.ci_base.specs.declared.value.Value.TheVariants.{Str}
use Rattle.ci_base.specs.declared.value.Kind.TheVariants as kinds
use Rattle.ci_code.specs.declared.instruction.Instruction.TheVariants as does
use Rattle.ci_task.specs.Going.{Came}
use Rattle.ci_stack.proofs.Topping.{at, seam, length_two, length_last, two_as_one}
use Rattle.ci_task.specs.declared.went.Went.TheVariants.{On}
use Rattle.ci_task.proofs.Coming.{joined_long, joined_short, texts_can, texts_do, text_is}
use Rattle.ci_task.proofs.texts.join.Goals as goal

pub overflow_sub-low : goal.overflow_sub-low
overflow_sub-low c =
    let f = texts_can c.args.code.now does.Cat kinds.Str joined c.args.at c.args.stack.now c.args.heard.now (λ m. refl) c.requires.can in
    omega (arith, c.count-count.ensures.value, length_two c.args.stack.now f.0 (Str f.1) (Str f.2) f.3)

pub overflow_sub-high : goal.overflow_sub-high
overflow_sub-high c =
    let f = texts_can c.args.code.now does.Cat kinds.Str joined c.args.at c.args.stack.now c.args.heard.now (λ m. refl) c.requires.can in
    omega (arith, c.count-count.ensures.value, length_two c.args.stack.now f.0 (Str f.1) (Str f.2) f.3)

pub text_at-first-requires : goal.text_at-first-requires
text_at-first-requires c =
    let f = texts_can c.args.code.now does.Cat kinds.Str joined c.args.at c.args.stack.now c.args.heard.now (λ m. refl) c.requires.can in
    (f.1, at c.args.stack.now f.0 (Str f.2 ∷ []) (Str f.1) (c.count-count.result - 2) f.3 (omega (arith, c.count-count.ensures.value, length_two c.args.stack.now f.0 (Str f.1) (Str f.2) f.3)))

pub text_at-second-requires : goal.text_at-second-requires
text_at-second-requires c =
    let f = texts_can c.args.code.now does.Cat kinds.Str joined c.args.at c.args.stack.now c.args.heard.now (λ m. refl) c.requires.can in
    (f.2, at c.args.stack.now (f.0 ++ Str f.1 ∷ []) [] (Str f.2) (c.count-count.result - 1) (two_as_one c.args.stack.now f.0 (Str f.1) (Str f.2) f.3) (omega (arith, c.count-count.ensures.value, length-append f.0 (Str f.1 ∷ []), length_two c.args.stack.now f.0 (Str f.1) (Str f.2) f.3)))

pub returns-then-first-second-gt-MOST_TEXT_BYTES : goal.returns-then-first-second-gt-MOST_TEXT_BYTES
returns-then-first-second-gt-MOST_TEXT_BYTES c =
    texts_do c.args.code.now does.Cat kinds.Str joined c.args.at c.args.stack.now c.fail.new.stack c.args.heard.now c.fail.new.heard c.fail.result c.text_at-first.result.now c.text_at-second.result.now (λ m. refl)
    (λ low s v e. text_is c.args.stack.now low (v ∷ []) (c.count-count.result - 2) c.text_at-first.result.now s c.text_at-first.ensures.value e (omega (arith, c.count-count.ensures.value, length_two c.args.stack.now low (Str s) v e)))
    (λ low s e. text_is c.args.stack.now low [] (c.count-count.result - 1) c.text_at-second.result.now s c.text_at-second.ensures.value e (omega (arith, c.count-count.ensures.value, length_last c.args.stack.now low (Str s) e)))
    (subst (λ (o : Outcome). Came 2 kinds.Str o c.args.stack.now c.args.heard.now c.fail.result c.fail.new.stack c.fail.new.heard) (sym (joined_long c.text_at-first.result.now c.text_at-second.result.now (omega arith))) c.fail.ensures)

pub join_last-requires : goal.join_last-requires
join_last-requires c =
    let f = texts_can c.args.code.now does.Cat kinds.Str joined c.args.at c.args.stack.now c.args.heard.now (λ m. refl) c.requires.can in
    let two = length_two c.args.stack.now f.0 (Str f.1) (Str f.2) f.3 in
    let first = text_is c.args.stack.now f.0 (Str f.2 ∷ []) (c.count-count.result - 2) c.text_at-first.result.now f.1 c.text_at-first.ensures.value f.3 (omega (arith, c.count-count.ensures.value, two)) in
    let second = text_is c.args.stack.now (f.0 ++ Str f.1 ∷ []) [] (c.count-count.result - 1) c.text_at-second.result.now f.2 c.text_at-second.ensures.value (two_as_one c.args.stack.now f.0 (Str f.1) (Str f.2) f.3) (omega (arith, c.count-count.ensures.value, length-append f.0 (Str f.1 ∷ []), two)) in
    (f.0, f.1, f.2, f.3, omega (arith, ap (λ (s : List ℕ). length s) first, ap (λ (s : List ℕ). length s) second))

pub returns : goal.returns
returns c =
    let x = c.text_at-first.result.now in
    let y = c.text_at-second.result.now in
    let f = texts_can c.args.code.now does.Cat kinds.Str joined c.args.at c.args.stack.now c.args.heard.now (λ m. refl) c.requires.can in
    let two = length_two c.args.stack.now f.0 (Str f.1) (Str f.2) f.3 in
    let first = text_is c.args.stack.now f.0 (Str f.2 ∷ []) (c.count-count.result - 2) x f.1 c.text_at-first.ensures.value f.3 (omega (arith, c.count-count.ensures.value, two)) in
    let second = text_is c.args.stack.now (f.0 ++ Str f.1 ∷ []) [] (c.count-count.result - 1) y f.2 c.text_at-second.ensures.value (two_as_one c.args.stack.now f.0 (Str f.1) (Str f.2) f.3) (omega (arith, c.count-count.ensures.value, length-append f.0 (Str f.1 ∷ []), two)) in
    texts_do c.args.code.now does.Cat kinds.Str joined c.args.at c.args.stack.now c.join_last.new.self c.args.heard.now c.args.heard.now On x y (λ m. refl)
    (λ low s v e. text_is c.args.stack.now low (v ∷ []) (c.count-count.result - 2) x s c.text_at-first.ensures.value e (omega (arith, c.count-count.ensures.value, length_two c.args.stack.now low (Str s) v e)))
    (λ low s e. text_is c.args.stack.now low [] (c.count-count.result - 1) y s c.text_at-second.ensures.value e (omega (arith, c.count-count.ensures.value, length_last c.args.stack.now low (Str s) e)))
    (subst (λ (o : Outcome). Came 2 kinds.Str o c.args.stack.now c.args.heard.now On c.join_last.new.self c.args.heard.now) (sym (joined_short x y (omega arith))) (
      refl,
      refl,
      λ low high split many.
          c.join_last.ensures f.0 f.1 f.2 f.3
          ∙ ap (λ (l : List Value). l ++ Str (f.1 ++ f.2) ∷ []) (sym (seam c.args.stack.now f.0 (Str f.1 ∷ Str f.2 ∷ []) (length f.0) f.3 refl) ∙ seam c.args.stack.now low high (length f.0) split (omega (arith, two, ap (λ (l : List Value). length l) split, length-append low high, many)))
          ∙ ap (λ (s : List ℕ). low ++ Str (s ++ f.2) ∷ []) (sym first)
          ∙ ap (λ (s : List ℕ). low ++ Str (x ++ s) ∷ []) (sym second),
    ))
