use Rattle.std.proofs.Common.{◌-◌, length, sym, ap, arith}
use Rattle.ci_tree.specs.Tokens.{after_mark}
use Rattle.ci_tree.specs.Tokens.Reads.{here}
use Rattle.ci_lexer.proofs.Reading.{front_shorter, read_front, read_kept, read_count, mark_short}
use Rattle.ci_lexer.proofs.lexing.lex.Goals as goal

pub loop-rest-init : goal.loop-rest-init
loop-rest-init c = record {
  short = omega (arith, ap length c.behind_mark-rest.ensures, mark_short c.args.source.now);
  read = rw c.new-kept.ensures.items (here (after_mark c.args.source.now) c.behind_mark-rest.result.now (sym c.behind_mark-rest.ensures));
}

pub loop-rest-preserved : goal.loop-rest-preserved
loop-rest-preserved c =
    let before = c.loop-rest.invariant in
    let step = c.in_ok-step.step in
    let found = c.in_ok-step.ensures.ok in
    let source = c.args.source.now in
    record {
      short = omega (arith, front_shorter step.front c.loop-rest.rest.now step.rest.now found);
      read = rw c.in_ok-keep.ensures.ok (read_front (length source) (after_mark source) c.loop-rest.kept.items c.loop-rest.rest.now step.rest.now step.front (length source - length c.loop-rest.rest.now) before.read found (omega (arith, before.short)));
    }

pub loop-rest-smaller : goal.loop-rest-smaller
loop-rest-smaller c =
    front_shorter c.in_ok-step.step.front c.loop-rest.rest.now c.in_ok-step.step.rest.now c.in_ok-step.ensures.ok

pub of-requires-clause-within : goal.of-requires-clause-within
of-requires-clause-within c =
    omega (arith, read_count _ _ _ _ c.loop-rest.invariant.read, mark_short c.args.source.now)

pub of-requires-clause-kept : goal.of-requires-clause-kept
of-requires-clause-kept c =
    read_kept (length c.args.source.now) 0 (after_mark c.args.source.now) c.loop-rest.kept.items c.loop-rest.rest.now c.loop-rest.invariant.read (omega (arith, mark_short c.args.source.now)) (omega arith)
