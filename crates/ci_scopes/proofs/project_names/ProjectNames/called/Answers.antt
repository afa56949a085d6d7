use Rattle.std.proofs.Common.{◌∙◌, sym, ap, map, List, None, Some, option_map, slice_get}
use Rattle.std.specs.Option.{option_copied}
use Rattle.ci_tree.specs.declared.tree.Item.{Item}
use Rattle.ci_tree.specs.Seen.{items_of}
use Rattle.ci_names.specs.Declarations as declarations
use Rattle.ci_names.specs.Declarations.{declared_in}
use Rattle.ci_scopes.specs.declared.called.Heading.{Heading}
use Rattle.ci_scopes.specs.Project.{declared_of}
use Rattle.ci_scopes.specs.Values.{called_of}
use Rattle.ci_scopes.proofs.Lookups.{called_is}
use Rattle.ci_scopes.proofs.project_names.ProjectNames.called.Goals as goal

pub returns-in_err-heading : goal.returns-in_err-heading
unfolding declared_of
returns-in_err-heading c =
    ap (option_map called_of) c.from_residual.ensures
    ∙ called_is c.self.inside.functions.headings.items (declared_in (map items_of c.args.self.now)).functions c.args.number None
    (c.self.invariant.functions_are.headings ∙ ap (λ (t : List (List Item)). map declarations.heading_of (declared_in (map items_of t)).functions) c.self.view_is)
    (sym (ap option_copied c.in_err-heading.was) ∙ c.at.ensures ∙ ap (λ (xs : List Heading). slice_get xs c.args.number) c.as_slice.ensures.value)

pub returns : goal.returns
unfolding declared_of
returns c =
    called_is c.self.inside.functions.headings.items (declared_in (map items_of c.args.self.now)).functions c.args.number (Some c.in_ok-heading.heading.now)
    (c.self.invariant.functions_are.headings ∙ ap (λ (t : List (List Item)). map declarations.heading_of (declared_in (map items_of t)).functions) c.self.view_is)
    (sym (ap option_copied c.in_ok-heading.was) ∙ c.at.ensures ∙ ap (λ (xs : List Heading). slice_get xs c.args.number) c.as_slice.ensures.value)
