use Rattle.std.proofs.Common.{◌∙◌, ◌+◌, ◌++◌, ◌∷◌, [], List, length, map, drop, ap, refl, arith, length-append}
use Rattle.ci_history.specs.declared.end.TaskEnd.{TaskEnd}
use Rattle.ci_runtime.specs.EndStates.{task_end}
use Rattle.ci_runtime.proofs.Standing.{ends_more}
use Rattle.ci_runtime.proofs.ends.add_ends.Goals as goal

pub loop-index-preserved : goal.loop-index-preserved
loop-index-preserved c =
    let i = c.loop-index.invariant in
    let s = c.args.store.now in
    record {
      kept = ap (λ (l : List TaskEnd). l ++ map (task_end s.basis s.shared) (drop (c.loop-index.index + 1) s.shared.roster.tasks)) c.add.ensures ∙
          ends_more (task_end s.basis s.shared) c.loop-index.ends s.shared.roster.tasks c.loop-index.index (c.loop-index.index + 1) c.end_of.result refl c.end_of.ensures ∙ i.kept;
      long = omega (arith, ap (λ (l : List TaskEnd). length l) c.add.ensures, length-append c.loop-index.ends (c.end_of.result ∷ []), i.long);
    }
