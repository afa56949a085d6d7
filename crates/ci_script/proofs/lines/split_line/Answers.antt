use Rattle.std.proofs.Common.{◌≡◌, ◌<◌, ◌≤◌, ◌∷◌, length, ap, ap₂, sym, ◌∙◌, arith, take, suc, drop}
use Rattle.ci_script.specs.declared.parts.Mark.TheVariants.{LineFeed}
use Rattle.ci_script.specs.Lines.{lines, without_return}
use Rattle.ci_script.specs.Parts.{reach}
use Rattle.ci_script.proofs.Cutting.{line_ends, line_last, behind_feed, behind_last}
use Rattle.ci_script.proofs.lines.split_line.Goals as goal

pub returns-then-end-rest-clause-value : goal.returns-then-end-rest-clause-value
returns-then-end-rest-clause-value c =
    let rest = c.args.rest.now in
    let within : reach LineFeed rest < length rest = omega (arith, c.reach-end.ensures.value, c.if-end-rest.true) in
    let front : without_return (take (reach LineFeed rest) rest) ≡ c.without_return.result.now = ap (λ n. without_return (take n rest)) (sym c.reach-end.ensures.value) ∙ sym c.without_return.ensures in
    line_ends rest within
    ∙ ap₂ (λ l n. l ∷ lines (drop (suc n) rest)) front (sym c.reach-end.ensures.value)
    ∙ ap (λ ls. c.without_return.result.now ∷ ls) (behind_feed rest c.reach-end.result)

pub returns-else-end-rest-clause-value : goal.returns-else-end-rest-clause-value
returns-else-end-rest-clause-value c =
    let rest = c.args.rest.now in
    let beyond : length rest ≤ c.reach-end.result = c.if-end-rest.false in
    line_last rest c.requires (omega (arith, c.reach-end.ensures.value, beyond))
    ∙ ap (λ ls. rest ∷ ls) (behind_last rest c.reach-end.result beyond)
