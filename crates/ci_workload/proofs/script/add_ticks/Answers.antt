use Rattle.std.proofs.Common.{ap, length, length-append, arith}
use Rattle.ci_workload.specs.Workload.{tick_line}
use Rattle.ci_workload.proofs.Numbers.{text-next}
use Rattle.ci_workload.proofs.script.add_ticks.Goals as goal

pub loop-earlier-preserved : goal.loop-earlier-preserved
loop-earlier-preserved c = record {
  value = text-next tick_line c.loop-earlier.earlier c.args.text.now _ _ _ c.loop-earlier.invariant.value (c.tick_line.ensures.value) c.in_ok-append.ensures.ok;
  short = omega (arith, c.loop-earlier.invariant.short, c.tick_line.ensures.short, ap length c.in_ok-append.ensures.ok, length-append c.loop-earlier.text c.tick_line.result.now);
}
