-- One argument of a call, where these are taken from there on.
use Rattle.std.specs.Prelude.{Bool, false, List, [], ◌∷◌, ◌++◌, Option}
use Rattle.ci_base.specs.declared.value.Kind.{Kind}
use Rattle.ci_tree.specs.Tree.{Expr}
use Rattle.ci_names.specs.declared.fault.Fault.{Fault}
use Rattle.ci_names.specs.Given.{Taken}
use Rattle.ci_names.specs.Scopes.{Scope}
use Rattle.ci_names.specs.Kinds.{is_taken}
use Rattle.ci_names.specs.Expressions.{argument, expr_faults}

-- what is taken behind the argument
abbrev pub behind : List Taken → List Taken
behind [] = []
behind (taken ∷ takes) = takes

-- an argument of this kind can stand there
abbrev pub fits : List Taken → Expr → Option Kind → Bool
fits [] arg given = false
fits (taken ∷ takes) arg given = is_taken taken arg given

abbrev pub arg_faults : Scope → List Taken → Expr → List Fault
arg_faults s [] arg = expr_faults s arg
arg_faults s (taken ∷ takes) arg = argument s taken arg ++ expr_faults s arg
