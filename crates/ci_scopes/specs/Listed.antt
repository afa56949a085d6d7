-- Which declarations the rows of the code stand for.
use Rattle.ci_tree.specs.Seen.{block_of}
use Rattle.ci_names.specs.Declarations.{Function, Variable}
use Rattle.ci_scopes.specs.declared.functions.FunctionAt.{FunctionAt}
use Rattle.ci_scopes.specs.declared.variables.VariableAt.{VariableAt}

-- the declaration of a function
abbrev pub function_at : FunctionAt → Function
function_at f = record {
  file = f.file;
  at = f.at;
  name = f.name.now;
  private = f.private;
  gives = f.gives;
  params = f.params.now;
  body = block_of f.body.now;
}

-- the declaration of a variable
abbrev pub variable_at : VariableAt → Variable
variable_at v = record {
  file = v.file;
  at = v.at;
  name = v.name.now;
  global = v.global;
  kind = v.kind;
  length = v.length;
  first = v.first.now;
}
