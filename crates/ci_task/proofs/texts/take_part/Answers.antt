use Rattle.std.proofs.Common.{◌≡◌, ◌-◌, ◌+◌, ◌∷◌, ◌++◌, [], List, ℕ, ℤ, length, take, drop, refl, sym, ap, ◌∙◌, arith, length-append, append_assoc, w32, to_z, of_z}
use Rattle.ci_base.specs.TextFunctions.{mid}
use Rattle.ci_base.specs.declared.value.Value.{Value}
use Rattle.ci_base.specs.declared.value.Value.TheVariants.{Int, Str}
use Rattle.ci_base.specs.declared.function.PrivateName.TheVariants as names
use Rattle.ci_stack.proofs.Placing.{trip}
use Rattle.ci_stack.proofs.Topping.{at}
use Rattle.ci_task.proofs.Coming.{part_can, three_are, private_gives_value}
use Rattle.ci_task.proofs.texts.take_part.Goals as goal

pub number_at-most-requires : goal.number_at-most-requires
number_at-most-requires c =
    let f = part_can c.args.code.now c.args.at c.args.stack.now c.args.heard.now c.requires.can in
    let long : length c.args.stack.now ≡ length f.0 + 3 = ap (λ (l : List Value). length l) f.4 ∙ length-append f.0 (Str f.1 ∷ Int f.2 ∷ Int f.3 ∷ []) in
    (f.3, at c.args.stack.now (f.0 ++ Str f.1 ∷ Int f.2 ∷ []) [] (Int f.3) (c.count-count.result - 1) (f.4 ∙ sym (append_assoc f.0 (Str f.1 ∷ Int f.2 ∷ []) (Int f.3 ∷ []))) (omega (arith, c.count-count.ensures.value, long, length-append f.0 (Str f.1 ∷ Int f.2 ∷ []))))

pub number_at-from-requires : goal.number_at-from-requires
number_at-from-requires c =
    let f = part_can c.args.code.now c.args.at c.args.stack.now c.args.heard.now c.requires.can in
    let long : length c.args.stack.now ≡ length f.0 + 3 = ap (λ (l : List Value). length l) f.4 ∙ length-append f.0 (Str f.1 ∷ Int f.2 ∷ Int f.3 ∷ []) in
    (f.2, at c.args.stack.now (f.0 ++ Str f.1 ∷ []) (Int f.3 ∷ []) (Int f.2) (c.count-count.result - 2) (f.4 ∙ sym (append_assoc f.0 (Str f.1 ∷ []) (Int f.2 ∷ Int f.3 ∷ []))) (omega (arith, c.count-count.ensures.value, long, length-append f.0 (Str f.1 ∷ []))))

pub keep_part-requires : goal.keep_part-requires
keep_part-requires c =
    let f = part_can c.args.code.now c.args.at c.args.stack.now c.args.heard.now c.requires.can in
    (f.0, f.1, Int f.2 ∷ Int f.3 ∷ [], f.4, refl)

pub returns : goal.returns
returns c =
    let f = part_can c.args.code.now c.args.at c.args.stack.now c.args.heard.now c.requires.can in
    let long : length c.args.stack.now ≡ length f.0 + 3 = ap (λ (l : List Value). length l) f.4 ∙ length-append f.0 (Str f.1 ∷ Int f.2 ∷ Int f.3 ∷ []) in
    let text = at c.args.stack.now f.0 (Int f.2 ∷ Int f.3 ∷ []) (Str f.1) (c.count-count.result - 3) f.4 (omega (arith, c.count-count.ensures.value, long)) in
    let are = three_are c.args.stack.now (Str f.1) (Int c.number_at-from.result) (Int c.number_at-most.result) c.count-count.result c.count-count.ensures.value text c.number_at-from.ensures c.number_at-most.ensures in
    let part : take c.part_of-many.result (drop c.count_of-start.result f.1) ≡ mid f.1 c.number_at-from.result c.number_at-most.result =
    ap (λ i. take c.part_of-many.result (drop i f.1)) c.count_of-start.ensures ∙ c.part_of-many.ensures f.1
    ∙ ap (λ (z : ℤ). mid f.1 z (to_z w32 (of_z w32 c.number_at-most.result))) (trip c.number_at-from.result c.number_at-from.type_inv)
    ∙ ap (λ (z : ℤ). mid f.1 c.number_at-from.result z) (trip c.number_at-most.result c.number_at-most.type_inv) in
    private_gives_value c.args.code.now names.StrMid c.args.at c.args.stack.now c.keep_part.new.self (Str f.1 ∷ Int c.number_at-from.result ∷ Int c.number_at-most.result ∷ []) c.args.heard.now c.args.heard.now (Str (mid f.1 c.number_at-from.result c.number_at-most.result))
    are refl refl
    (λ low high split many. c.keep_part.ensures low (Int c.number_at-from.result ∷ Int c.number_at-most.result ∷ []) f.1 (split ∙ ap (λ (l : List Value). low ++ l) (sym (are low high split many))) refl ∙ ap (λ (s : List ℕ). low ++ Str s ∷ []) part)
