-- Where the machines of the tests stand.
use Rattle.std.specs.Prelude.{◌≡◌, ℕ, Some}
use Rattle.ci_base.specs.declared.request.Request.{Request}
use Rattle.ci_base.specs.declared.task.Trail.{Trail}
use Rattle.ci_base.specs.Steps.{asks}
use Rattle.ci_code.specs.declared.raw.RawParts.{RawParts}
use Rattle.ci_code.specs.Machine.{next}
use Rattle.ci_task.specs.declared.behind.Behind.{Behind}
use Rattle.ci_task.specs.Moved.{Standing, machine_of, moved}

-- the machine has come along some trail
pub record HasCome (code : RawParts) (s : Standing) : Type 0 where
  pub trail : Trail
  pub ticks : ℕ
  pub moved_so : moved code trail ticks s

unfoldable pub HasBegun : RawParts → Standing → Type 0
HasBegun code s = HasCome code s

-- and has told this request
pub record HasToldOf (code : RawParts) (q : Request) (s : Standing) : Type 0 where
  pub trail : Trail
  pub ticks : ℕ
  pub moved_so : moved code trail ticks s
  pub behind : Behind
  pub told : s.told ≡ Some behind
  pub asks_it : next code (machine_of code s) ≡ asks q

unfoldable pub HasTold : RawParts → Request → Standing → Type 0
HasTold code q s = HasToldOf code q s
