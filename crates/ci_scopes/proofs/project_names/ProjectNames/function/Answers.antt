use Rattle.std.proofs.Common.{◌≡◌, ◌∙◌, sym, ap, Some}
use Rattle.std.specs.Option.{option_or, option_and_then}
use Rattle.ci_names.specs.Declarations.{called_function, function_number}
use Rattle.ci_names.specs.Given.{given_named}
use Rattle.ci_scopes.specs.Project.{declared_of}
use Rattle.ci_scopes.proofs.Owns.{called_there}
use Rattle.ci_scopes.proofs.project_names.ProjectNames.function.Goals as goal

pub returns-in-Some : goal.returns-in-Some
unfolding declared_of
returns-in-Some c =
    let fs = (declared_of c.args.self.now).functions in
    let e : function_number fs c.args.file c.args.name.now ≡ Some c.in-Some.number = sym c.function_number.ensures ∙ c.in-Some.is in
    c.called.ensures ∙ called_there fs c.args.file c.args.name.now c.in-Some.number (given_named c.args.name.now) e
    ∙ ap (λ o. option_or (option_and_then (called_function fs) o) (given_named c.args.name.now)) (sym e)
