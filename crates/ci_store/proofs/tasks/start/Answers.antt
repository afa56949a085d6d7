use Rattle.std.proofs.Common.{◌≡◌, ◌≤◌, ◌<◌, ◌∙◌, ap, ℕ, ℤ, pos, to_z, w32, arith}
use Rattle.std.proofs.lemmas.Int.{to_z_pos}
use Rattle.ci_base.specs.declared.bounds.TheConstants.{MOST_TASKS}
use Rattle.ci_shared.specs.Rows.{number, plain}
use Rattle.ci_shared.specs.Started.{spawn}
use Rattle.ci_tasktab.specs.Slots.{tasks_in}
use Rattle.ci_store.proofs.Ending.{refused_does, started_does}
use Rattle.ci_store.proofs.tasks.start.Goals as goal

-- its number is an INT
small : (n : ℕ) → n ≤ MOST_TASKS → to_z w32 n ≡ pos n
small n h = let m : n < 2147483648 = omega (arith, h) in to_z_pos w32 n m

pub returns-in-Ok : goal.returns-in-Ok
returns-in-Ok c =
    let p = c.args.parts.now in
    started_does p c.requires (spawn p.layout.functions (tasks_in p.lines p.tasks) c.args.name.now c.args.list.now) c.in-Ok.birth c.numbered.result c.spawn.new.self (c.in-Ok.ensures.tasks p.lines) (c.numbered.ensures ∙ ap (λ (n : ℤ). plain (number n)) (small c.in-Ok.birth.task c.in-Ok.ensures.within))

pub returns-in-Err : goal.returns-in-Err
returns-in-Err c =
    let p = c.args.parts.now in
    refused_does p c.requires (spawn p.layout.functions (tasks_in p.lines p.tasks) c.args.name.now c.args.list.now) c.in-Err.code c.refused.result c.spawn.new.self (c.in-Err.ensures.tasks p.lines) c.refused.ensures
