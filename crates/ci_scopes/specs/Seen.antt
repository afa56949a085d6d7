-- What the values of the code mean, as the definitions of names and kinds speak of them.
pub use Rattle.ci_scopes.specs.Values.{taken_of, heading_of, called_of, meaning_of}
pub use Rattle.ci_scopes.specs.Project.{declared_of}
pub use Rattle.ci_scopes.specs.Listed.{function_at, variable_at}
use Rattle.ci_names.specs.Scopes as scopes
use Rattle.ci_scopes.specs.declared.scope.Scope as code

-- where a part of a function stands
unfoldable pub scope_of : code.Scope → scopes.Scope
scope_of s = record { declared = declared_of s.names.now; file = s.file; gives = s.gives; locals = s.locals }
