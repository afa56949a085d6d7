use Rattle.std.proofs.Common.{◌+◌, ◌++◌, take, map, sym, ap, ◌∙◌}
use Rattle.std.specs.Prelude.{◌||◌}
use Rattle.std.specs.List.{list_any}
use Rattle.ci_tree.specs.SeenBound.{param_of}
use Rattle.ci_names.specs.Fault.{noted}
use Rattle.ci_names.specs.Scopes.{Scope, param_local}
use Rattle.ci_names.specs.Faults.{has_default, param_faults}
use Rattle.ci_names.specs.Binding.{bound_param}
use Rattle.ci_scopes.specs.Seen.{scope_of}
use Rattle.ci_tree.specs.Written.{IsShortParam}
use Rattle.ci_binder.proofs.Steps.{next, holds, push_same, noted_more}
use Rattle.ci_binder.proofs.Told.{param_in, locals_more, default_more}
use Rattle.ci_binder.proofs.parameters.bound_params.Goals as goal

pub bound_param-requires : goal.bound_param-requires
bound_param-requires c = holds IsShortParam c.args.params.now c.loop-param.param-index c.param-item.result c.param-item.is c.loop-param-test.true c.requires.short

pub loop-param-preserved : goal.loop-param-preserved
loop-param-preserved c =
    let ps = c.args.params.now in
    let i = c.loop-param.param-index in
    let p = c.param-item.result in
    let s = scope_of c.args.scope.now in
    let here = scope_of c.loop-param.scope in
    let more = next ps i p c.param-item.is c.loop-param-test.true in
    let locals = ap (λ (t : Scope). t.locals) c.loop-param.invariant.scope ∙ ap (λ ls. ls ++ map param_local (take i ps)) c.requires.none in
    let one = c.note_param.ensures (take i ps) locals c.loop-param.invariant.default ∙ ap (noted c.loop-param.found) (param_in here s (ap (λ (t : Scope). t.file) c.loop-param.invariant.scope) (take i ps) p) in
    record {
      value = push_same param_of bound_param c.loop-param.all c.push.new.items c.bound_param.result (take i ps) (take (i + 1) ps) p c.in_ok-push.ensures c.loop-param.invariant.value c.bound_param.ensures more;
      faults = noted_more c.args.found.now c.loop-param.found c.note_param.new.found (param_faults s) (take i ps) (take (i + 1) ps) p c.loop-param.invariant.faults one more;
      scope = locals_more s here (scope_of c.declare.new.self) (take i ps) (take (i + 1) ps) p c.kind_of_type.result c.loop-param.invariant.scope c.kind_of_type.ensures c.in_ok-declare.ensures.ok more;
      default =
          ap (λ b. b || c.is_some-behind_default.result) c.loop-param.invariant.default
          ∙ ap (λ b. list_any has_default (take i ps) || b) c.is_some-behind_default.ensures
          ∙ sym (default_more (take i ps) (take (i + 1) ps) p more);
    }
