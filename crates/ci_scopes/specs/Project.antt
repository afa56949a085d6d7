-- What the tables of a project stand for.
use Rattle.std.specs.Prelude.{map}
use Rattle.ci_tree.specs.Seen.{items_of}
use Rattle.ci_names.specs.Declarations.{Declared, declared_in}
use Rattle.ci_scopes.specs.declared.project_names.ProjectNames.{ProjectNames}

-- what all files declare
unfoldable pub declared_of : ProjectNames → Declared
declared_of names = declared_in (map items_of names)
