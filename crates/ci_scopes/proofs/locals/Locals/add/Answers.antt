use Rattle.std.proofs.Common.{◌∙◌, ℕ, ap, sym, subst, cond, List, None, [], ◌∷◌, ◌++◌, Bor}
use Rattle.ci_base.specs.declared.value.Kind.{Kind}
use Rattle.ci_names.specs.Scopes.{Local}
use Rattle.ci_scopes.specs.Locals.{AreLocals, locals_from}
use Rattle.ci_scopes.specs.Table.{Noted, noted}
use Rattle.ci_scopes.proofs.Held.{held-push, locals-push}
use Rattle.ci_scopes.proofs.locals.Locals.add.Goals as goal

pub invariant_of-self-in-Ok : goal.invariant_of-self-in-Ok
invariant_of-self-in-Ok c =
    let names = c.self.inside.names.items in
    let kinds = c.self.inside.kinds.items in
    let p = c.push.ensures.items ∙ ap (λ b. cond b (names ++ c.args.name ∷ []) names) c.if-is_err.ensures.negation in
    let q = c.push-2.ensures.items ∙ ap (λ b. cond b (kinds ++ c.args.kind ∷ []) kinds) c.if-is_err-2.ensures.negation in
    let r = c.in-Ok.ensures.ok ∙ (λ i. noted c.self.inside.numbers None (c.bytes.ensures i) ((c.len-number.ensures ∙ c.self.inside.kinds.ok.0) i)) in
    subst (λ (t : List (Bor (List ℕ)) × List Kind × List Noted). AreLocals t.0 t.1 t.2) (sym (λ i. (p i, q i, r i)))
    (held-push names kinds c.self.inside.numbers c.args.name c.args.kind c.self.invariant)

pub returns-in-Ok-clause-ok : goal.returns-in-Ok-clause-ok
returns-in-Ok-clause-ok c =
    let names = c.self.inside.names.items in
    let kinds = c.self.inside.kinds.items in
    let p = c.push.ensures.items ∙ ap (λ b. cond b (names ++ c.args.name ∷ []) names) c.if-is_err.ensures.negation in
    let q = c.push-2.ensures.items ∙ ap (λ b. cond b (kinds ++ c.args.kind ∷ []) kinds) c.if-is_err-2.ensures.negation in
    (λ i. locals_from (p i) (q i)) ∙ locals-push names kinds c.args.name c.args.kind c.self.invariant.paired
    ∙ ap (λ (ls : List Local). ls ++ record { name = c.args.name.now; kind = c.args.kind } ∷ []) c.self.view_is
