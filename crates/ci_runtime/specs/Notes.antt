-- What a run has noted: its entries, and what is known of each task that was started.
use Rattle.std.specs.Prelude.{ℕ, List, [], ◌∷◌, ◌++◌, Option, None, Some}
use Rattle.ci_base.specs.declared.entry.Entry.{Entry}
use Rattle.ci_base.specs.declared.task.Birth.{Birth}
use Rattle.ci_world.specs.Lists.{set_task}
use Rattle.ci_world.specs.Serial.{ticks_with}

-- the entries, and how many there can be; the ticks of each task since its last entry, or since its start; and its function
pub record Noted : Type 0 where
  pub entries : List Entry
  pub room : ℕ
  pub ticks : List ℕ
  pub functions : List ℕ

abbrev pub nothing_noted : ℕ → Noted
nothing_noted room = record { entries = []; room = room; ticks = []; functions = [] }

abbrev pub functions_with : List ℕ → Option Birth → List ℕ
functions_with functions None = functions
functions_with functions (Some b) = functions ++ b.function ∷ []

-- the task has made so many ticks
abbrev pub with_ticks : Noted → ℕ → ℕ → Noted
with_ticks n t ticks = record n { ticks = set_task n.ticks t ticks }

-- one entry more, by which a task may be started
abbrev pub with_entry : Noted → Entry → Option Birth → Noted
with_entry n e birth = record n { entries = n.entries ++ e ∷ []; ticks = ticks_with n.ticks birth; functions = functions_with n.functions birth }
