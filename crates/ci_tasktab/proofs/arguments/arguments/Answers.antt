use Rattle.std.proofs.Common.{◌≡◌, Some, sym, ap, ◌∙◌}
use Rattle.std.specs.Prelude.{slice_get}
use Rattle.std.proofs.lemmas.Option.{slice_get-get_or}
use Rattle.ci_base.specs.declared.layout.Head.{Head}
use Rattle.ci_tasktab.proofs.Fitting.{no_list, takes}
use Rattle.ci_tasktab.proofs.arguments.arguments.Goals as goal

pub returns-in-Some : goal.returns-in-Some
returns-in-Some c =
    let h = c.index-functions-function.result in
    let there : slice_get c.args.functions.now c.args.function ≡ Some h = slice_get-get_or c.args.functions.now c.args.function h c.requires.there ∙ ap (λ (x : Head). Some x) (sym c.index-functions-function.is) in
    c.fitting.ensures ∙ sym (takes c.args.functions.now c.args.function c.args.list.now h c.in-Some.given there (sym c.read_list.ensures ∙ c.in-Some.is))

pub returns-in-None : goal.returns-in-None
returns-in-None c = sym (no_list c.args.functions.now c.args.function c.args.list.now (sym c.read_list.ensures ∙ c.in-None.is))
