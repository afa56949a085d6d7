-- Where a run goes on behind an instruction.
use Rattle.std.specs.Prelude.{ℕ}
use Rattle.ci_task.specs.declared.active.Active.{Active}
use Rattle.ci_task.specs.declared.course.Course.{Course}
use Rattle.ci_task.specs.declared.course.Course.TheVariants as course
use Rattle.ci_task.specs.declared.went.Went.{Went}
use Rattle.ci_task.specs.declared.went.Went.TheVariants as went
use Rattle.ci_task.specs.Going.{next_place}

-- at another place of the same function
abbrev pub at_place : ℕ → Active → Active
at_place place a = record a { place = place }

-- what the instruction came to
abbrev pub went_by : Course → Went
went_by course.Next = went.On
went_by (course.Jump place) = went.On
went_by (course.To a) = went.On
went_by course.Tick = went.Tick
went_by (course.Ends code) = went.Ends code
went_by course.Asks = went.Asks

-- where the function that then runs goes on
abbrev pub led_to : Active → Course → Active
led_to a course.Next = next_place a
led_to a (course.Jump place) = at_place place a
led_to a (course.To b) = b
led_to a course.Tick = a
led_to a (course.Ends code) = a
led_to a course.Asks = a
