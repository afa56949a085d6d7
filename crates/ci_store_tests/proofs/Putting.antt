-- One member more.
use Rattle.std.proofs.Common.{◌≤◌, ◌<◌, List, [], ◌∷◌, ◌++◌, length, Bool, true, false, arith}
use Rattle.std.specs.Prelude.{if◌then◌else◌}
use Rattle.std.proofs.lemmas.List.{length_push}
use Rattle.std.proofs.lemmas.List.Elements.{All-push}
use Rattle.ci_base.specs.declared.bounds.TheConstants.{MOST_FUNCTIONS, MOST_PARAMETERS}
use Rattle.ci_base.specs.declared.layout.Head.{Head}
use Rattle.ci_tasktab.specs.Births.{IsWithin}

pub within_pushed : (hs : List Head) (h : Head) → IsWithin hs → length hs < MOST_FUNCTIONS → length h.kinds ≤ MOST_PARAMETERS → IsWithin (hs ++ h ∷ [])
within_pushed hs h within few short = record {
  few = omega (arith, length_push hs h, few);
  short = All-push (λ (x : Head). length x.kinds ≤ MOST_PARAMETERS) hs h within.short short;
}

-- the member came, or it didn't
pub within_either : (b : Bool) (hs : List Head) (h : Head) → IsWithin hs → length hs < MOST_FUNCTIONS → length h.kinds ≤ MOST_PARAMETERS → IsWithin (if b then hs ++ h ∷ [] else hs)
within_either true hs h within few short = within_pushed hs h within few short
within_either false hs h within few short = within
