use Rattle.std.proofs.Common.{◌∙◌, ap, map, List, is_some, position, Some}
use Rattle.ci_tree.specs.declared.tree.Item.{Item}
use Rattle.ci_tree.specs.Seen.{items_of}
use Rattle.ci_names.specs.Declarations.{declared_in}
use Rattle.ci_scopes.specs.Project.{declared_of}
use Rattle.ci_scopes.specs.Stands.{is_own_private}
use Rattle.ci_scopes.specs.Table.{number_of}
use Rattle.ci_scopes.proofs.Firsts.{position-any}
use Rattle.ci_scopes.proofs.Owns.{private_there}
use Rattle.ci_scopes.proofs.project_names.ProjectNames.has_private.Goals as goal

pub returns : goal.returns
unfolding declared_of
returns c =
    let file = c.args.file in
    let name = c.args.name.now in
    let fs = (declared_in (map items_of c.args.self.now)).functions in
    c.is_some.ensures
    ∙ ap is_some (c.get.ensures ∙ ap (number_of c.self.inside.functions.privates (Some file)) c.bytes.ensures ∙ c.self.invariant.functions_are.privates file name
    ∙ ap (λ (t : List (List Item)). position (is_own_private file name) (declared_in (map items_of t)).functions) c.self.view_is)
    ∙ position-any (is_own_private file name) fs ∙ private_there file name fs
