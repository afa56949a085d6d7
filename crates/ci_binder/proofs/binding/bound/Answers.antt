use Rattle.std.proofs.Common.{◌≡◌, ◌≤◌, map, sym, ap, subst, ◌∙◌}
use Rattle.std.proofs.lemmas.List.{length-map}
use Rattle.ci_base.specs.declared.bounds.TheConstants.{MOST_FILES}
use Rattle.ci_tree.specs.Seen.{items_of}
use Rattle.ci_tree.specs.SeenBound.{heads_of, function_of}
use Rattle.ci_names.specs.Declarations.{Declared}
use Rattle.ci_names.specs.Binding.{bound_function}
use Rattle.ci_names.proofs.Projects.{bound_is_project}
use Rattle.ci_scopes.specs.Seen.{variable_at, declared_of}
use Rattle.ci_scopes.proofs.Kept.{functions_known, variables_known}
use Rattle.ci_binder.specs.Parts.{project_with}
use Rattle.ci_binder.proofs.Made.{heads_same}
use Rattle.ci_binder.proofs.Placed.{found_all, refused, accepted}
use Rattle.ci_binder.proofs.binding.bound.Goals as goal

pub bound_functions-requires : goal.bound_functions-requires
bound_functions-requires c = functions_known (declared_of c.in_ok-names.names) (map items_of c.args.trees.now) c.in_ok-names.ensures.declared c.in_ok-names.ensures.kept

pub returns-in-Some-clause-err : goal.returns-in-Some-clause-err
returns-in-Some-clause-err c =
    let files = map items_of c.args.trees.now in
    let all = found_all (declared_of c.in_ok-names.names) files c.bound_functions.new.found c.note_variables.new.found c.in_ok-names.ensures.declared c.in_ok-functions.ensures.faults c.note_variables.ensures in
    refused files c.note_variables.new.found c.in-Some.field-0 all c.in-Some.is

pub made-requires-clause-short : goal.made-requires-clause-short
made-requires-clause-short c =
    variables_known (map variable_at c.variables.result.now) (map items_of c.args.trees.now)
    (c.variables.ensures ∙ ap (λ (d : Declared). d.variables) c.in_ok-names.ensures.declared) c.in_ok-names.ensures.kept

pub made-requires-clause-whole : goal.made-requires-clause-whole
made-requires-clause-whole c =
    let files = map items_of c.args.trees.now in
    let d = declared_of c.in_ok-names.names in
    let fs = c.in_ok-functions.functions in
    let all = found_all d files c.bound_functions.new.found c.note_variables.new.found c.in_ok-names.ensures.declared c.in_ok-functions.ensures.faults c.note_variables.ensures in
    let variables = c.variables.ensures ∙ ap (λ (d : Declared). d.variables) c.in_ok-names.ensures.declared in
    let functions : map (function_of (heads_of fs)) fs ≡ map (bound_function d) d.functions = ap (λ heads. map (function_of heads) fs) (heads_same d fs c.in_ok-functions.ensures.value) ∙ c.in_ok-functions.ensures.value in
    bound_is_project files (project_with (map (function_of (heads_of fs)) fs) (map variable_at c.variables.result.now))
    (subst (λ n. n ≤ MOST_FILES) (sym (length-map c.args.trees.now items_of)) c.requires) c.in_ok-names.ensures.kept
    (accepted files c.note_variables.new.found d (map (function_of (heads_of fs)) fs) (map variable_at c.variables.result.now) all c.in-None.is c.in_ok-names.ensures.declared functions variables)

pub returns-clause-ok : goal.returns-clause-ok
returns-clause-ok c =
    let files = map items_of c.args.trees.now in
    let d = declared_of c.in_ok-names.names in
    let fs = c.in_ok-functions.functions in
    let all = found_all d files c.bound_functions.new.found c.note_variables.new.found c.in_ok-names.ensures.declared c.in_ok-functions.ensures.faults c.note_variables.ensures in
    let variables = c.variables.ensures ∙ ap (λ (d : Declared). d.variables) c.in_ok-names.ensures.declared in
    let functions : map (function_of (heads_of fs)) fs ≡ map (bound_function d) d.functions = ap (λ heads. map (function_of heads) fs) (heads_same d fs c.in_ok-functions.ensures.value) ∙ c.in_ok-functions.ensures.value in
    let binds = accepted files c.note_variables.new.found d (map (function_of (heads_of fs)) fs) (map variable_at c.variables.result.now) all c.in-None.is c.in_ok-names.ensures.declared functions variables in
    (binds.0, c.in_ok-made-in-None.ensures ∙ binds.1)
