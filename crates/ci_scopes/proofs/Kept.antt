-- The texts in declarations of files are short.
use Rattle.std.proofs.Common.{◌≡◌, List, All, subst, sym}
use Rattle.std.proofs.lemmas.List.Elements.{All-weaker}
use Rattle.ci_tree.specs.Files.{IsFileTree}
use Rattle.ci_tree.specs.Tree.{Item}
use Rattle.ci_names.specs.Declarations.{Variable, Declared, declared_in, functions_from, variables_from}
use Rattle.ci_names.proofs.Contents.{IsWrittenFunction, IsWrittenVariable, all_functions, all_variables}
use Rattle.ci_scopes.specs.Short.{IsShortFunction, IsShortVariable}

-- those of functions
pub functions_known : (d : Declared) (files : List (List Item)) → d ≡ declared_in files → All IsFileTree files → All IsShortFunction d.functions
functions_known d files h all =
    subst (λ (e : Declared). All IsShortFunction e.functions) (sym h) (All-weaker IsWrittenFunction IsShortFunction (λ f is. is.1) (functions_from 0 files) (all_functions 0 files all))

-- those of variables
pub variables_known : (vs : List Variable) (files : List (List Item)) → vs ≡ (declared_in files).variables → All IsFileTree files → All IsShortVariable vs
variables_known vs files h all =
    subst (λ ws. All IsShortVariable ws) (sym h) (All-weaker IsWrittenVariable IsShortVariable (λ v is. is.1) (variables_from 0 files) (all_variables 0 files all))
