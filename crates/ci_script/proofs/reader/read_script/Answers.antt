use Rattle.std.proofs.lemmas.Bool.{eqb-true}
use Rattle.std.proofs.lemmas.List.{nil_from_length}
use Rattle.std.proofs.Common.{ap₂, true, length-append, ◌≡◌, ◌<◌, ◌∷◌, ◌++◌, [], suc, length, ap, sym, ◌∙◌, arith, subst, add-one, append-nil, Ok, Err}
use Rattle.ci_script.specs.declared.fault.ScriptFault.TheVariants as faults
use Rattle.ci_script.specs.declared.reading.Reading.{Reading}
use Rattle.ci_script.specs.declared.reading.Reading.TheVariants as readings
use Rattle.ci_script.specs.Lines.{lines}
use Rattle.ci_script.specs.Scripts.{IsScript, is_forward_event, is_forward_reading, events_first, line_first, told, told_behind}
use Rattle.ci_script.proofs.Cutting.{no_lines}
use Rattle.ci_script.proofs.Telling.{line_told, most_told, none_told, first_more, script_more}
use Rattle.ci_script.proofs.reader.read_script.Goals as goal
use Rattle.ci_script.proofs.reader.read_script.Goals.{After-read_line}

-- what the script says, by what the next line says
next : (c : After-read_line) (r : Reading) → c.read_line.result ≡ r
    → told c.args.source.now ≡ events_first c.loop-rest.kept.items (line_first (suc c.loop-rest.number) r (told_behind (suc c.loop-rest.number) (lines c.split_line.result.1.now)))
next c r is =
    let few : c.loop-rest.number < 100000 = omega (arith, c.loop-rest.invariant.few, c.if-number-eq-MOST_SCRIPT_LINES.false) in
    let line = c.split_line.result.0.now in
    let behind = lines c.split_line.result.1.now in
    c.loop-rest.invariant.split
    ∙ ap (λ ls. events_first c.loop-rest.kept.items (told_behind c.loop-rest.number ls)) c.split_line.ensures.value
    ∙ ap (events_first c.loop-rest.kept.items) (line_told c.loop-rest.number line behind r few (sym is ∙ c.read_line.ensures.value))

pub returns-then-number-eq-MOST_SCRIPT_LINES-clause-err : goal.returns-then-number-eq-MOST_SCRIPT_LINES-clause-err
returns-then-number-eq-MOST_SCRIPT_LINES-clause-err c = λ _.
    c.loop-rest.invariant.split
    ∙ ap₂ (λ n ls. events_first c.loop-rest.kept.items (told_behind n ls)) c.if-number-eq-MOST_SCRIPT_LINES.true c.split_line.ensures.value
    ∙ ap (events_first c.loop-rest.kept.items) (most_told c.split_line.result.0.now (lines c.split_line.result.1.now))

pub returns-in-UnknownEvent-clause-err : goal.returns-in-UnknownEvent-clause-err
returns-in-UnknownEvent-clause-err c = λ _.
    next (goal.at.returns-in-UnknownEvent-clause-err c).After-read_line readings.UnknownEvent c.in-UnknownEvent.is ∙ ap (λ n. Err (faults.UnknownEvent n)) (sym (add-one c.loop-rest.number))

pub returns-in-BadArgument-clause-err : goal.returns-in-BadArgument-clause-err
returns-in-BadArgument-clause-err c = λ _.
    next (goal.at.returns-in-BadArgument-clause-err c).After-read_line readings.BadArgument c.in-BadArgument.is ∙ ap (λ n. Err (faults.BadArgument n)) (sym (add-one c.loop-rest.number))

pub loop-rest-preserved-in-Nothing : goal.loop-rest-preserved-in-Nothing
loop-rest-preserved-in-Nothing c = record {
  few = omega (arith, c.loop-rest.invariant.few, c.if-number-eq-MOST_SCRIPT_LINES.false);
  fewer = omega (arith, c.loop-rest.invariant.fewer);
  script = c.loop-rest.invariant.script;
  split = next (goal.at.loop-rest-preserved-in-Nothing c).After-read_line readings.Nothing c.in-Nothing.is ∙ ap (λ n. events_first c.loop-rest.kept.items (told_behind n (lines c.split_line.result.1.now))) (sym (add-one c.loop-rest.number));
}

pub loop-rest-preserved : goal.loop-rest-preserved
loop-rest-preserved c =
    let kept = c.loop-rest.kept.items in
    let event = c.in-Event.event in
    let number = c.loop-rest.number in
    let behind = lines c.split_line.result.1.now in
    let more : c.push.new.self.items ≡ kept ++ event ∷ [] = c.in-Ok.ensures.items in
    let few : number < 100000 = omega (arith, c.loop-rest.invariant.few, c.if-number-eq-MOST_SCRIPT_LINES.false) in
    let forward : is_forward_event event.what ≡ true = sym (ap is_forward_reading c.in-Event.is) ∙ c.read_line.ensures.forward in
    record {
      few = omega (arith, few);
      fewer = omega (arith, ap length more, length-append kept (event ∷ []), c.loop-rest.invariant.fewer);
      script = subst IsScript (sym more) (script_more kept event c.loop-rest.invariant.script (omega (arith, c.loop-rest.invariant.fewer, few)) forward);
      split = next (goal.at.loop-rest-preserved c).After-read_line (readings.Event event) c.in-Event.is
          ∙ first_more kept event (told_behind (suc number) behind)
          ∙ ap₂ (λ es n. events_first es (told_behind n behind)) (sym more) (sym (add-one number));
    }

pub returns-clause-ok : goal.returns-clause-ok
returns-clause-ok c =
    let kept = c.loop-rest.kept.items in
    let end : c.loop-rest.rest.now ≡ [] = nil_from_length c.loop-rest.rest.now (eqb-true (length c.loop-rest.rest.now) 0 (sym c.is_empty.ensures ∙ c.loop-rest-test.false)) in
    c.loop-rest.invariant.split
    ∙ ap (λ s. events_first kept (told_behind c.loop-rest.number (lines s))) end
    ∙ ap (λ ls. events_first kept (told_behind c.loop-rest.number ls)) no_lines
    ∙ ap (events_first kept) (none_told c.loop-rest.number)
    ∙ ap (λ l. Ok l) (append-nil kept ∙ sym c.of.ensures)
