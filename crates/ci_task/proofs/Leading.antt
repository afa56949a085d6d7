-- From what an instruction does to the stack to where it leads.
use Rattle.std.proofs.Common.{◌≡◌, List, sym, subst}
use Rattle.ci_base.specs.declared.value.Value.{Value}
use Rattle.ci_code.specs.declared.instruction.Instruction.{Instruction}
use Rattle.ci_code.specs.declared.raw.RawParts.{RawParts}
use Rattle.ci_code.specs.Machine.{act}
use Rattle.ci_task.specs.declared.active.Active.{Active}
use Rattle.ci_task.specs.declared.heard.Heard.{Heard}
use Rattle.ci_task.specs.declared.went.Went.{Went}
use Rattle.ci_task.specs.declared.went.Went.TheVariants as went
use Rattle.ci_task.specs.Spelled.{spelled}
use Rattle.ci_task.specs.Going.{HasRoom, after, Can, Does, CanHeard, DoesHeard, CanNow, Leads}

pub can_as : (code : RawParts) (what w : Instruction) (a : Active) (callers : List Active) (values : List Value) (heard : Heard) → what ≡ w → CanNow code what a callers values heard → Can code w a values
can_as code what w a callers values heard e can = (callers, heard, can.0, subst (λ (x : Instruction). HasRoom (act code x (spelled code a callers values heard))) e can.1)

pub can_heard_as : (code : RawParts) (what w : Instruction) (a : Active) (callers : List Active) (values : List Value) (heard : Heard) → what ≡ w → CanNow code what a callers values heard → CanHeard code w a values heard
can_heard_as code what w a callers values heard e can = (callers, can.0, subst (λ (x : Instruction). HasRoom (act code x (spelled code a callers values heard))) e can.1)

pub can_now_as : (code : RawParts) (what w : Instruction) (a : Active) (callers : List Active) (values : List Value) (heard : Heard) → what ≡ w → CanNow code what a callers values heard → CanNow code w a callers values heard
can_now_as code what w a callers values heard e can = subst (λ (x : Instruction). CanNow code x a callers values heard) e can

pub leads_as : (code : RawParts) (what w : Instruction) (a a' : Active) (callers callers' : List Active) (values values' : List Value) (heard heard' : Heard) (went : Went) → what ≡ w → Leads code w a callers values heard went a' callers' values' heard' → Leads code what a callers values heard went a' callers' values' heard'
leads_as code what w a a' callers callers' values values' heard heard' went e leads = subst (λ (x : Instruction). Leads code x a callers values heard went a' callers' values' heard') (sym e) leads

pub does_leads : (code : RawParts) (what w : Instruction) (a a' to : Active) (callers : List Active) (values values' : List Value) (heard : Heard) → what ≡ w → CanNow code what a callers values heard → Does code w a values a' values' → to ≡ a' → Leads code what a callers values heard went.On to callers values' heard
does_leads code what w a a' to callers values values' heard e can did there =
    let now : CanNow code w a callers values heard = can_now_as code what w a callers values heard e can in
    subst (λ (x : Active). Leads code what a callers values heard went.On x callers values' heard) (sym there)
    (leads_as code what w a a' callers callers values values' heard heard went.On e (did callers heard now.0 now.1))

pub heard_leads : (code : RawParts) (what w : Instruction) (a to : Active) (callers : List Active) (values values' : List Value) (heard heard' : Heard) (went : Went) → what ≡ w → CanNow code what a callers values heard → DoesHeard code w a values heard went values' heard' → to ≡ after went a → Leads code what a callers values heard went to callers values' heard'
heard_leads code what w a to callers values values' heard heard' went e can did there =
    let now : CanNow code w a callers values heard = can_now_as code what w a callers values heard e can in
    subst (λ (x : Active). Leads code what a callers values heard went x callers values' heard') (sym there)
    (leads_as code what w a (after went a) callers callers values values' heard heard' went e (did callers now.0 now.1))

pub does_heard : (code : RawParts) (w : Instruction) (a : Active) (values values' : List Value) (heard : Heard) → Does code w a values (after went.On a) values' → DoesHeard code w a values heard went.On values' heard
does_heard code w a values values' heard did = λ callers s room. did callers heard s room

-- by what the instruction came to
pub leads_by : (code : RawParts) (what : Instruction) (a to : Active) (callers callers' : List Active) (values values' : List Value) (heard heard' : Heard) (w v : Went) → w ≡ v → Leads code what a callers values heard v to callers' values' heard' → Leads code what a callers values heard w to callers' values' heard'
leads_by code what a to callers callers' values values' heard heard' w v e leads = subst (λ (x : Went). Leads code what a callers values heard x to callers' values' heard') (sym e) leads
