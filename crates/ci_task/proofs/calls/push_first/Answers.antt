use Rattle.std.proofs.Common.{List, [], ◌∷◌, ◌++◌, refl, sym, ap, ◌∙◌, ℕ}
use Rattle.std.proofs.lemmas.List.{append-nil}
use Rattle.ci_base.specs.declared.value.Kind.{Kind}
use Rattle.ci_base.specs.declared.value.Value.TheVariants.{Str}
use Rattle.ci_base.specs.Values.{first_of_kind}
use Rattle.ci_task.proofs.calls.push_first.Goals as goal

pub returns-in-Int : goal.returns-in-Int
returns-in-Int c = c.replace_by_number.ensures c.args.stack.now [] (sym (append-nil c.args.stack.now)) refl ∙ ap (λ (k : Kind). c.args.stack.now ++ first_of_kind k ∷ []) (sym c.in-Int.is)

pub returns-in-Str : goal.returns-in-Str
returns-in-Str c =
    c.replace_by.ensures c.args.stack.now [] (sym (append-nil c.args.stack.now)) refl
    ∙ ap (λ (s : List ℕ). c.args.stack.now ++ Str s ∷ []) c.empty.ensures
    ∙ ap (λ (k : Kind). c.args.stack.now ++ first_of_kind k ∷ []) (sym c.in-Str.is)
