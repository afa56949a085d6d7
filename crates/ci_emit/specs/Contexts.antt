-- What a part of a function stands in, and what is written of it.
use Rattle.ci_tree.specs.declared.bound.Function.{Function}
use Rattle.ci_tree.specs.declared.bound.ProjectParts.{ProjectParts}
use Rattle.ci_tree.specs.LeftOut.{Heads}
use Rattle.ci_tree.specs.SeenBound.{heads_of, function_of, project_of}
use Rattle.ci_tree.specs.Sound.{Context, context_of}

-- what each function of the project takes
abbrev pub heads : ProjectParts → Heads
heads parts = heads_of parts.functions

-- the project, and the locals and the kind of this function
unfoldable pub context : ProjectParts → Function → Context
context parts f = context_of (project_of parts) (function_of (heads parts) f)
