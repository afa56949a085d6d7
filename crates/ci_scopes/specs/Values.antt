-- What headings and meanings of the code are, as the definitions of names and kinds speak of them.
use Rattle.std.specs.Prelude.{map}
use Rattle.ci_tree.specs.SeenBound.{scalar_of, callee_of}
use Rattle.ci_names.specs.Given as given
use Rattle.ci_names.specs.Scopes as scopes
use Rattle.ci_scopes.specs.declared.called.Taken as code_taken
use Rattle.ci_scopes.specs.declared.called.Taken.TheVariants as takens
use Rattle.ci_scopes.specs.declared.called.Heading as code_heading
use Rattle.ci_scopes.specs.declared.called.Called as code_called
use Rattle.ci_scopes.specs.declared.meaning.Meaning as code_meaning
use Rattle.ci_scopes.specs.declared.meaning.Meaning.TheVariants as meanings

-- an argument that a function takes
abbrev pub taken_of : code_taken.Taken → given.Taken
taken_of (takens.ByValue kind) = given.by_value kind
taken_of (takens.WithDefault kind default) = given.with_default kind default
taken_of (takens.ToBeSet kind) = given.to_be_set kind

-- what a function takes and gives
abbrev pub heading_of : code_heading.Heading → given.Heading
heading_of h = record { takes = map taken_of h.takes; gives = h.gives }

-- what a name means that is called
abbrev pub called_of : code_called.Called → given.Called
called_of c = record { callee = callee_of c.callee; heading = heading_of c.heading.now }

-- what a name means as a variable
abbrev pub meaning_of : code_meaning.Meaning → scopes.Meaning
meaning_of (meanings.Scalar of kind) = scopes.scalar (scalar_of of) kind
meaning_of (meanings.Array number kind) = scopes.array number kind
meaning_of meanings.OnlyFunction = scopes.only_function
meaning_of meanings.Nothing = scopes.nothing
