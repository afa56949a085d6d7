use Rattle.std.proofs.Common.{◌+◌, ◌<◌, ◌++◌, [], List, ℕ, length, get_or, ap, ◌∙◌, arith}
use Rattle.ci_stack.proofs.Between.{in_first, in_second, set_first}
use Rattle.ci_stack.proofs.table.join_next.Goals as goal

pub returns : goal.returns
returns c =
    let all = c.args.texts.now in
    let low = c.split_at_mut-low.result.0.now in
    let high = c.split_at_mut-low.result.1.now in
    let within : c.args.place < length low = omega (arith, c.split_at_mut-low.ensures.front_len) in
    let first = in_first all low high c.args.place c.index-low-place.result c.split_at_mut-low.ensures.value within in
    let second = in_second all low high (c.args.place + 1) c.index-high-0.result c.split_at_mut-low.ensures.value c.split_at_mut-low.ensures.front_len c.requires.there in
    set_first all low high c.args.place c.join.new.self (get_or all c.args.place [] ++ get_or all (c.args.place + 1) []) c.split_at_mut-low.ensures.value within
    (c.join.ensures ∙ ap (λ (t : List ℕ). t ++ c.bytes.result.now) first ∙ ap (λ (t : List ℕ). get_or all c.args.place [] ++ t) (c.bytes.ensures.value ∙ second))
