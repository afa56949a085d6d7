use Rattle.std.proofs.Common.{◌≡◌, ℕ, List, sym, ap, ◌∙◌}
use Rattle.ci_base.specs.declared.layout.Head.{Head}
use Rattle.ci_shared.specs.Arguments.{arguments}
use Rattle.ci_shared.specs.Started.{public_from}
use Rattle.ci_tasktab.proofs.Spawning.{born, crowded}
use Rattle.ci_tasktab.proofs.table.TaskTable.spawn.Goals as goal

pub returns-then-is_full-clause-tasks : goal.returns-then-is_full-clause-tasks
returns-then-is_full-clause-tasks c = λ ws.
    let hs = c.args.layout.now.functions in
    let is : c.public_named.result ≡ public_from 0 c.args.name.now hs = c.public_named.ensures.first ∙ ap (λ (l : List Head). public_from 0 c.args.name.now l) c.members-functions.ensures in
    let takes : c.arguments.result ≡ arguments hs c.in-Some.function c.args.list.now = c.arguments.ensures ∙ ap (λ (l : List Head). arguments l c.in-Some.function c.args.list.now) c.members-functions.ensures in
    crowded hs c.args.name.now c.args.list.now c.args.self.now ws c.in-Some.function c.public_named.result is c.in-Some.is c.arguments.result takes c.in-Some-arguments.args c.in-Some-arguments.is (sym c.is_full.ensures.exact ∙ c.if-is_full.true)

pub returns-clause-tasks : goal.returns-clause-tasks
returns-clause-tasks c = λ ws.
    let hs = c.args.layout.now.functions in
    let is : c.public_named.result ≡ public_from 0 c.args.name.now hs = c.public_named.ensures.first ∙ ap (λ (l : List Head). public_from 0 c.args.name.now l) c.members-functions.ensures in
    let takes : c.arguments.result ≡ arguments hs c.in-Some.function c.args.list.now = c.arguments.ensures ∙ ap (λ (l : List Head). arguments l c.in-Some.function c.args.list.now) c.members-functions.ensures in
    born hs c.args.name.now c.args.list.now c.args.self.now ws c.in-Some.function c.public_named.result is c.in-Some.is c.arguments.result takes c.in-Some-arguments.args _ c.add-task.new.self c.in-Some-arguments.is (sym c.is_full.ensures.exact ∙ c.if-is_full.false) (ap (λ (n : ℕ). record { task = n; function = c.in-Some.function; args = c.in-Some-arguments.args }) c.add-task.ensures.number) c.add-task.ensures.tasks
