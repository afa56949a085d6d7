-- When code does what its project says.
use Rattle.std.specs.Prelude.{◌≡◌, ℕ, List, map, Some, slice_get}
use Rattle.ci_base.specs.declared.value.Kind.{Kind}
use Rattle.ci_base.specs.declared.value.Value.{Value}
use Rattle.ci_base.specs.Requests.{Fits}
use Rattle.ci_base.specs.Values.{kind_of}
use Rattle.ci_code.specs.declared.raw.RawParts.{RawParts}
use Rattle.ci_code.specs.Machine as code
use Rattle.ci_code.specs.Moves.{Machine}
use Rattle.ci_meaning.specs.Configuration.{Configuration, opening}
use Rattle.ci_meaning.specs.Meaning as tree
use Rattle.ci_tree.specs.Bound.{Cell, Function, Project}
use Rattle.ci_tree.specs.Sound.{param_kinds}
use Rattle.ci_translation.specs.Alike.{Tracks}

-- the kinds of the cells
abbrev pub cell_kinds : Project → List Kind
cell_kinds p = map (λ (x : Cell). x.kind) p.cells

-- a machine of the code does what the configuration of the tree does, whatever answers both get
abbrev pub Follows : RawParts → Project → Configuration → Machine → Type 0
Follows parts p c m = Tracks (tree.next p) tree.resume (code.next parts) (code.resume parts) (Fits (cell_kinds p)) c m

-- The code simulates the project: a task that is started from any function with arguments that fit it makes, on the tree and on the
-- code, the same requests after the same ticks.
abbrev pub Simulates : RawParts → Project → Type 0
Simulates parts p =
    (f : ℕ) (function : Function) (args : List Value) → slice_get p.functions f ≡ Some function → map kind_of args ≡ param_kinds function →
    Follows parts p (opening p f args) (code.opening parts f args)
