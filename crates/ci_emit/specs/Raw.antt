-- What is made of one function.
use Rattle.std.specs.Prelude.{[], ◌++◌}
use Rattle.ci_code.specs.declared.raw.RawFunction.{RawFunction}
use Rattle.ci_translation.specs.Drafts.{function_code}
use Rattle.ci_tree.specs.Bound.{Function, Project}
use Rattle.ci_tree.specs.Rooms.{room}
use Rattle.ci_tree.specs.Sound.{param_kinds}
use Rattle.ci_emit.specs.Pads.{Pad, wrote}

-- the tables stay, and the steps are those of no function
abbrev pub without_steps : Pad → Pad
without_steps pad = record { texts = pad.texts; shapes = pad.shapes; steps = [] }

-- the function, with its steps as they are put down on a pad
abbrev pub made_function : Pad → Project → Function → RawFunction
made_function pad p f = record {
  gives = f.gives;
  room = room f;
  locals = param_kinds f ++ f.others;
  steps = (wrote pad (function_code p f)).steps;
}
