use Rattle.std.proofs.Common.{◌∙◌, ap, sym, List, position, Some, None, option_map, slice_get}
use Rattle.std.specs.Option.{option_copied}
use Rattle.ci_base.specs.declared.value.Kind.{Kind}
use Rattle.ci_scopes.specs.Locals.{is_local}
use Rattle.ci_scopes.specs.Seen.{scope_of}
use Rattle.ci_scopes.specs.Values.{meaning_of}
use Rattle.ci_scopes.proofs.Named.{local_none, local_is}
use Rattle.ci_scopes.proofs.scope.Scope.local.Goals as goal

pub returns-in_err-number : goal.returns-in_err-number
unfolding scope_of
returns-in_err-number c =
    let ls = c.args.self.now.locals in
    ap (option_map meaning_of) c.from_residual.ensures
    ∙ local_none ls c.args.name.now (sym (sym c.in_err-number.was ∙ c.number.ensures ∙ ap (λ name. position (is_local name) ls) c.bytes.ensures))

pub returns-in_err-kind : goal.returns-in_err-kind
unfolding scope_of
returns-in_err-kind c =
    let ls = c.args.self.now.locals in
    ap (option_map meaning_of) c.from_residual-in_err-kind.ensures
    ∙ local_is ls c.args.name.now c.in_ok-number.number None (sym (sym c.in_ok-number.was ∙ c.number.ensures ∙ ap (λ name. position (is_local name) ls) c.bytes.ensures))
    (sym (ap option_copied c.in_err-kind.was) ∙ c.at.ensures ∙ ap (λ (ks : List Kind). slice_get ks c.in_ok-number.number) c.kinds.ensures)

pub returns : goal.returns
unfolding scope_of
returns c =
    let ls = c.args.self.now.locals in
    local_is ls c.args.name.now c.in_ok-number.number (Some c.in_ok-kind.kind.now) (sym (sym c.in_ok-number.was ∙ c.number.ensures ∙ ap (λ name. position (is_local name) ls) c.bytes.ensures))
    (sym (ap option_copied c.in_ok-kind.was) ∙ c.at.ensures ∙ ap (λ (ks : List Kind). slice_get ks c.in_ok-number.number) c.kinds.ensures)
