use Rattle.std.proofs.Common.{◌<◌, [], length, get_or, ◌∙◌, arith}
use Rattle.ci_stack.proofs.Between.{in_first, in_second, set_first, set_second}
use Rattle.ci_stack.proofs.table.copy_between.Goals as goal

pub returns-then-from-to : goal.returns-then-from-to
returns-then-from-to c =
    let all = c.args.texts.now in
    let low = c.split_at_mut-low.result.0.now in
    let high = c.split_at_mut-low.result.1.now in
    let within : c.args.from < length low = omega (arith, c.split_at_mut-low.ensures.front_len, c.if-from-to.true) in
    let first = in_first all low high c.args.from c.index-low-from.result c.split_at_mut-low.ensures.value within in
    set_second all low high c.args.to c.set.new.self (get_or all c.args.from []) c.split_at_mut-low.ensures.value c.split_at_mut-low.ensures.front_len
    (c.set.ensures ∙ c.bytes.ensures.value ∙ first)

pub returns-then-to-from : goal.returns-then-to-from
returns-then-to-from c =
    let all = c.args.texts.now in
    let low = c.split_at_mut-low-then-to-from.result.0.now in
    let high = c.split_at_mut-low-then-to-from.result.1.now in
    let within : c.args.to < length low = omega (arith, c.split_at_mut-low-then-to-from.ensures.front_len, c.if-to-from.true) in
    let second = in_second all low high c.args.from c.index-high-0-then-to-from.result c.split_at_mut-low-then-to-from.ensures.value c.split_at_mut-low-then-to-from.ensures.front_len c.requires.from in
    set_first all low high c.args.to c.set-then-to-from.new.self (get_or all c.args.from []) c.split_at_mut-low-then-to-from.ensures.value within
    (c.set-then-to-from.ensures ∙ c.bytes-then-to-from.ensures.value ∙ second)
