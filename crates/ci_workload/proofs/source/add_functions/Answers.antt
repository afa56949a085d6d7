use Rattle.std.proofs.Common.{◌∙◌, ap, length, length-append, arith}
use Rattle.ci_workload.specs.Workload.{function_line}
use Rattle.ci_workload.proofs.Numbers.{text-next}
use Rattle.ci_workload.proofs.source.add_functions.Goals as goal

pub loop-earlier-preserved : goal.loop-earlier-preserved
loop-earlier-preserved c = record {
  value = text-next function_line c.loop-earlier.earlier c.args.text.now _ _ _ c.loop-earlier.invariant.value (c.bytes.ensures.value ∙ c.function_line.ensures.value) c.in_ok-append.ensures.ok;
  short = omega (arith, c.loop-earlier.invariant.short, ap length c.bytes.ensures.value, c.function_line.ensures.short, ap length c.in_ok-append.ensures.ok, length-append c.loop-earlier.text c.bytes.result.now);
}
