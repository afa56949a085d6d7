use Rattle.std.proofs.Common.{◌+◌, take}
use Rattle.ci_tree.specs.SeenBound.{function_of}
use Rattle.ci_names.specs.Faults.{function_faults}
use Rattle.ci_names.specs.Binding.{heads_in, bound_function}
use Rattle.ci_scopes.specs.Seen.{declared_of}
use Rattle.ci_scopes.specs.Listed.{function_at}
use Rattle.ci_scopes.specs.Short.{IsShortFunction}
use Rattle.ci_binder.proofs.Steps.{next, holds, listed_at, push_same, noted_more}
use Rattle.ci_binder.proofs.functions.bound_functions.Goals as goal

pub bound_function-requires-clause-short : goal.bound_function-requires-clause-short
bound_function-requires-clause-short c =
    let fs = (declared_of c.args.names.now).functions in
    let i = c.loop-count.count in
    let f = c.index-all-count.result in
    let at = listed_at function_at c.functions-all.result.now fs i f c.functions-all.ensures c.index-all-count.is c.loop-count-test.true in
    holds IsShortFunction fs i (function_at f) at.0 at.1 c.requires

pub loop-count-preserved : goal.loop-count-preserved
loop-count-preserved c =
    let d = declared_of c.args.names.now in
    let fs = d.functions in
    let i = c.loop-count.count in
    let f = c.index-all-count.result in
    let at = listed_at function_at c.functions-all.result.now fs i f c.functions-all.ensures c.index-all-count.is c.loop-count-test.true in
    let more = next fs i (function_at f) at.0 at.1 in
    record {
      value = push_same (function_of (heads_in d)) (bound_function d) c.loop-count.functions c.push.new.items c.in_ok-function.function (take i fs) (take (i + 1) fs) (function_at f) c.in_ok-push.ensures c.loop-count.invariant.value c.in_ok-function.ensures.value more;
      faults = noted_more c.args.found.now c.loop-count.found c.bound_function.new.found (function_faults d) (take i fs) (take (i + 1) fs) (function_at f) c.loop-count.invariant.faults c.in_ok-function.ensures.faults more;
    }
