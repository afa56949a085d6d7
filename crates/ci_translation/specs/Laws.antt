-- What holds of the code of a project.
use Rattle.std.specs.Prelude.{ℕ, List, IsTrue}
use Rattle.ci_base.specs.declared.reply.Answer.{Answer}
use Rattle.ci_base.specs.declared.request.Request.{Request}
use Rattle.ci_base.specs.Requests.{Fits}
use Rattle.ci_base.specs.Steps.{Reaches, Stands}
use Rattle.ci_code.specs.declared.raw.RawParts.{RawParts}
use Rattle.ci_code.specs.Machine as code
use Rattle.ci_code.specs.Moves.{Machine}
use Rattle.ci_meaning.specs.Configuration.{Configuration}
use Rattle.ci_meaning.specs.Meaning as tree
use Rattle.ci_tree.specs.Bound.{Project}
use Rattle.ci_tree.specs.Sound.{is_sound}
use Rattle.ci_translation.specs.Alike.{Led}
use Rattle.ci_translation.specs.Simulates.{cell_kinds, Follows, Simulates}
use Rattle.ci_translation.specs.Stands.{IsCodeOf}
use Rattle.ci_translation.specs.Translation.{translation}

-- Code that is that of a right project, place by place, simulates it.
abbrev pub CodeSimulates : Type 0
CodeSimulates = (p : Project) (parts : RawParts) → IsTrue (is_sound p) → IsCodeOf p parts → Simulates parts p

-- What the list of its instructions gives is the code of a right project, place by place; so it simulates the project.
abbrev pub TranslationIsCode : Type 0
TranslationIsCode = (p : Project) → IsTrue (is_sound p) → IsCodeOf p (translation p)

abbrev pub TranslationSimulates : Type 0
TranslationSimulates = (p : Project) → IsTrue (is_sound p) → Simulates (translation p) p

-- Where a machine follows a configuration and comes to a request, the configuration comes to the same one after as many ticks; and
-- behind each answer that fits it the one still follows the other.
abbrev pub TreeAsksToo : Type 0
TreeAsksToo =
    (p : Project) (parts : RawParts) (c : Configuration) (m : Machine) → Follows parts p c m →
    (k : ℕ) (q : Request) (m' : Machine) → Stands (code.next parts) m k q m' →
    (c' : Configuration) × Stands (tree.next p) c k q c' × ((a : Answer) → Fits (cell_kinds p) q a → Follows parts p (tree.resume c' a) (code.resume parts m' a))

-- Where such a machine reaches a number of ticks, so does the configuration.
abbrev pub TreeTicksToo : Type 0
TreeTicksToo =
    (p : Project) (parts : RawParts) (c : Configuration) (m : Machine) → Follows parts p c m →
    (k : ℕ) (m' : Machine) → Reaches (code.next parts) m k m' → (c' : Configuration) × Reaches (tree.next p) c k c'

-- Where both are led on by the same answers, the one still follows the other.
abbrev pub StillFollows : Type 0
StillFollows =
    (p : Project) (parts : RawParts) (c c' : Configuration) (m m' : Machine) (answers : List Answer) → Follows parts p c m →
    Led (tree.next p) tree.resume (Fits (cell_kinds p)) c answers c' → Led (code.next parts) (code.resume parts) (Fits (cell_kinds p)) m answers m' →
    Follows parts p c' m'
