use Rattle.std.proofs.Common.{take, sym, ap, ◌∙◌}
use Rattle.std.proofs.lemmas.List.{length-take-le}
use Rattle.ci_tree.specs.SeenBound.{param_of, block_of}
use Rattle.std.specs.Prelude.{map}
use Rattle.ci_names.specs.Scopes.{Scope}
use Rattle.ci_names.specs.Binding.{heads_in}
use Rattle.ci_scopes.specs.Seen.{function_at, scope_of, declared_of}
use Rattle.ci_bodies.specs.Made.{block_in}
use Rattle.ci_binder.proofs.Made.{opened, function_same, function_told}
use Rattle.ci_binder.proofs.functions.bound_function.Goals as goal

pub returns-clause-value : goal.returns-clause-value
returns-clause-value c =
    let d = declared_of c.args.names.now in
    let f = function_at c.args.f.now in
    let here = scope_of c.bound_params.new.scope in
    let begins = opened d f c.given_kind-gives.result (scope_of c.of-scope.result) here c.given_kind-gives.ensures c.of-scope.ensures c.in_ok-params.ensures.scope in
    function_same d f here (scope_of c.body.new.scope) c.in_ok-copy.field-0 c.given_kind-gives.result (map param_of c.in_ok-params.params) c.in_ok-others.others (block_of (heads_in d) c.in_ok-body.body)
    begins c.in_ok-body.ensures.scope (c.in_ok-copy.ensures ∙ c.bytes.ensures) c.given_kind-gives.ensures c.in_ok-params.ensures.value c.in_ok-others.ensures
    (sym (ap (λ t. block_in t c.in_ok-body.body) begins) ∙ c.in_ok-body.ensures.tree)

pub returns-clause-faults : goal.returns-clause-faults
returns-clause-faults c =
    let d = declared_of c.args.names.now in
    let f = function_at c.args.f.now in
    let s = scope_of c.of-scope.result in
    let here = scope_of c.bound_params.new.scope in
    let begins = opened d f c.given_kind-gives.result s here c.given_kind-gives.ensures c.of-scope.ensures c.in_ok-params.ensures.scope in
    function_told c.args.found.now c.note_heading.new.found c.bound_params.new.found c.body.new.found d (take c.args.count d.functions) f s here c.args.count
    (length-take-le c.args.count d.functions c.requires.before) (ap (λ (t : Scope). t.file) c.of-scope.ensures) begins
    c.note_heading.ensures c.in_ok-params.ensures.faults c.in_ok-body.ensures.found
