-- What a script says, line by line.
use Rattle.std.proofs.Common.{◌≡◌, ℕ, suc, ◌<◌, true, cond, List, [], ◌∷◌, ◌++◌, length, Ok, Err, sym, refl, ap, ◌∙◌, arith, ◌==◌, append_assoc, length-append}
use Rattle.std.proofs.lemmas.Bool.{eqb-true, false_from_ne_true}
use Rattle.std.proofs.lemmas.List.Elements.{All-push}
use Rattle.ci_base.specs.declared.event.Event.{Event}
use Rattle.ci_script.specs.declared.fault.ScriptFault.TheVariants as faults
use Rattle.ci_script.specs.declared.reading.Reading.{Reading}
use Rattle.ci_script.specs.Events.{reading}
use Rattle.ci_script.specs.Scripts.{Told, told_behind, line_first, events_first, IsScript, is_forward_event}

-- one line more
pub line_told : (before : ℕ) (line : List ℕ) (ls : List (List ℕ)) (r : Reading) → before < 100000 → r ≡ reading line → told_behind before (line ∷ ls) ≡ line_first (suc before) r (told_behind (suc before) ls)
unfolding told_behind
line_told before line ls r few is =
    ap (λ t. cond t (Err faults.TooManyLines) (line_first (suc before) (reading line) (told_behind (suc before) ls))) (false_from_ne_true (before == 100000) (λ e. omega (arith, eqb-true before 100000 e)))
    ∙ ap (λ r. line_first (suc before) r (told_behind (suc before) ls)) (sym is)

pub most_told : (line : List ℕ) (ls : List (List ℕ)) → told_behind 100000 (line ∷ ls) ≡ Err faults.TooManyLines
unfolding told_behind
most_told line ls = refl

pub none_told : (before : ℕ) → told_behind before [] ≡ Ok []
unfolding told_behind
none_told before = refl

pub first_nothing : (t : Told) → t ≡ events_first [] t
first_nothing (Ok es) = refl
first_nothing (Err fault) = refl

pub first_more : (es : List Event) (e : Event) (t : Told) → events_first es (events_first (e ∷ []) t) ≡ events_first (es ++ e ∷ []) t
first_more es e (Ok more) = ap (λ l. Ok l) (sym (append_assoc es (e ∷ []) more))
first_more es e (Err fault) = refl

-- one event more
pub script_more : (es : List Event) (e : Event) → IsScript es → length es < 100000 → is_forward_event e.what ≡ true → IsScript (es ++ e ∷ [])
script_more es e is few forward = record {
  few = omega (arith, length-append {A = Event} es (e ∷ []));
  forward = All-push (λ e. is_forward_event e.what ≡ true) es e is.forward forward;
}
