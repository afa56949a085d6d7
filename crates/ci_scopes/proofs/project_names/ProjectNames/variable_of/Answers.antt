use Rattle.std.proofs.Common.{◌∙◌, sym, ap, map, List, None, Some, option_map, slice_get}
use Rattle.std.specs.Option.{option_copied}
use Rattle.ci_tree.specs.declared.tree.Item.{Item}
use Rattle.ci_tree.specs.Seen.{items_of}
use Rattle.ci_names.specs.Declarations.{declared_in}
use Rattle.ci_scopes.specs.declared.meaning.Meaning.{Meaning}
use Rattle.ci_scopes.specs.Project.{declared_of}
use Rattle.ci_scopes.specs.Values.{meaning_of}
use Rattle.ci_scopes.specs.Stands.{meanings_of}
use Rattle.ci_scopes.proofs.Lookups.{variable_is}
use Rattle.ci_scopes.proofs.project_names.ProjectNames.variable_of.Goals as goal

pub returns-in_err-meaning : goal.returns-in_err-meaning
unfolding declared_of
returns-in_err-meaning c =
    ap (option_map meaning_of) c.from_residual.ensures
    ∙ variable_is c.self.inside.variables.meanings.items (declared_in (map items_of c.args.self.now)).variables c.args.number None
    (c.self.invariant.variables_are.meanings ∙ ap (λ (t : List (List Item)). meanings_of (declared_in (map items_of t)).variables) c.self.view_is)
    (sym (ap option_copied c.in_err-meaning.was) ∙ c.at.ensures ∙ ap (λ (xs : List Meaning). slice_get xs c.args.number) c.as_slice.ensures.value)

pub returns : goal.returns
unfolding declared_of
returns c =
    variable_is c.self.inside.variables.meanings.items (declared_in (map items_of c.args.self.now)).variables c.args.number (Some c.in_ok-meaning.meaning.now)
    (c.self.invariant.variables_are.meanings ∙ ap (λ (t : List (List Item)). meanings_of (declared_in (map items_of t)).variables) c.self.view_is)
    (sym (ap option_copied c.in_ok-meaning.was) ∙ c.at.ensures ∙ ap (λ (xs : List Meaning). slice_get xs c.args.number) c.as_slice.ensures.value)
