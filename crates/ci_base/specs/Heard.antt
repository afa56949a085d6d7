-- What an answer leaves in the task that gets it.
use Rattle.std.specs.Prelude.{ℕ, zero, suc, ℤ, pos, List, []}
use Rattle.ci_base.specs.declared.reply.Extra.{Extra}
use Rattle.ci_base.specs.declared.reply.Extra.TheVariants as extras

-- an element of a queue: the last one that the task has read
pub record Element : Type 0 where
  pub sort : ℤ
  pub text : List ℕ

-- what stands for it before one is read
abbrev pub no_element : Element
no_element = record { sort = pos 0; text = [] }

-- the last element read, behind an answer with this extra
abbrev pub last_after : Extra → Element → Element
last_after extras.Nothing last = last
last_after (extras.Element sort text) last = record { sort = sort; text = text }

-- the last error, behind an answer with this code: a code other than 0 is kept
abbrev pub error_kept : ℕ → ℕ → ℕ
error_kept zero error = error
error_kept (suc code) error = suc code
