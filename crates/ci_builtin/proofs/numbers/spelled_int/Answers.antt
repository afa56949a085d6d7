use Rattle.std.proofs.Common.{ap, ◌∙◌, to_z-of_z, w32, Ok, rules}
use Rattle.std.specs.Prelude.{FitsSigned}
use Rattle.ci_base.specs.declared.value.Value.TheVariants.{Int}
use Rattle.ci_base.specs.TextFunctions.{spelled_int}
use Rattle.ci_builtin.proofs.Spelling.{parsed, unparsed, unread}
use Rattle.ci_builtin.proofs.numbers.spelled_int.Goals as goal

pub returns-in-Ok-from_str_radix : goal.returns-in-Ok-from_str_radix
returns-in-Ok-from_str_radix c =
    let n = c.in-Ok-from_str_radix.n in
    let fits : FitsSigned w32 n = search rules in
    let spelled = parsed c.in-Ok.text.now c.from_str_radix.result n c.from_str_radix.ensures.value c.in-Ok-from_str_radix.is in
    ap (λ n. Ok (Int n)) (to_z-of_z fits) ∙ spelled ∙ ap spelled_int c.in-Ok.ensures.cases.0

pub returns-in-Err-from_str_radix : goal.returns-in-Err-from_str_radix
returns-in-Err-from_str_radix c =
    unparsed c.in-Ok.text.now c.from_str_radix.result c.in-Err-from_str_radix.field-0 c.from_str_radix.ensures.value c.in-Err-from_str_radix.is ∙ ap spelled_int c.in-Ok.ensures.cases.0

pub returns-in-Err : goal.returns-in-Err
returns-in-Err c = unread c.args.bytes.now c.in-Err.ensures.cases.0
