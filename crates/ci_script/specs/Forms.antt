-- What happens by an event, by the parts behind its word.
use Rattle.std.specs.Prelude.{ℕ, ℤ, pos, negsuc, ◌-◌, ◌==◌, nat_le, ◌&&◌, List, length, take, Option, Some, None, option_map, if◌then◌else◌}
use Rattle.ci_base.specs.declared.bounds.TheConstants.{MOST_TEXT_BYTES}
use Rattle.ci_base.specs.declared.event.EventKind.{EventKind}
use Rattle.ci_base.specs.declared.event.EventKind.TheVariants.{Run, Tick, Kill, Suspend, Resume, Put, Signal, Set}
use Rattle.ci_base.specs.declared.value.Value.{Value}
use Rattle.ci_base.specs.declared.value.Value.TheVariants.{Int, Str}
use Rattle.ci_base.specs.Letters.{begins}
use Rattle.ci_base.specs.TextFunctions.{is_blank, trimmed}
use Rattle.ci_literals.specs.Ints.{int_of}
use Rattle.ci_literals.specs.Texts.{Cut, begins_quote, text_at}
use Rattle.ci_script.specs.declared.parts.Mark.TheVariants.{Bracket, Equals}
use Rattle.ci_script.specs.declared.words.Word.{Word}
use Rattle.ci_script.specs.declared.words.Word.TheVariants as words
use Rattle.ci_script.specs.Parts.{Halves, halves, word, behind_word, closes, is_short_name}

-- a text, and nothing behind it
abbrev pub alone : Option Cut → Option (List ℕ)
alone None = None
alone (Some cut) = if length cut.rest == 0 then Some cut.text else None

abbrev pub text_of : List ℕ → Option (List ℕ)
text_of s = alone (text_at s)

-- an INT or a text
abbrev pub value_of : List ℕ → Option Value
value_of s = if begins_quote s then option_map (λ text. Str text) (text_of s) else option_map (λ n. Int n) (int_of s)

-- NAME(LIST): the list reaches from the first `(` to the `)` at the end
abbrev pub run_named : List ℕ → List ℕ → Option EventKind
run_named name list = if is_short_name name && nat_le (length list) MOST_TEXT_BYTES then Some (Run name list) else None

abbrev pub run_parts : Option Halves → Option EventKind
run_parts None = None
run_parts (Some parts) = run_named (trimmed is_blank parts.front) parts.back

abbrev pub run_of : List ℕ → Option EventKind
run_of s = if closes s then run_parts (halves Bracket (take (length s - 1) s)) else None

-- N, which isn't negative
abbrev pub tick_by : Option ℤ → Option EventKind
tick_by None = None
tick_by (Some (pos ms)) = Some (Tick (pos ms))
tick_by (Some (negsuc n)) = None

-- NAME = V
abbrev pub set_named : List ℕ → Option Value → Option EventKind
set_named name None = None
set_named name (Some value) = if is_short_name name then Some (Set name value) else None

abbrev pub set_parts : Option Halves → Option EventKind
set_parts None = None
set_parts (Some parts) = set_named (trimmed is_blank parts.front) (value_of (trimmed is_blank parts.back))

-- TEXT N TEXT
abbrev pub put_element : List ℕ → Option ℤ → Option (List ℕ) → Option EventKind
put_element name (Some sort) (Some text) = Some (Put name sort text)
put_element name _ _ = None

abbrev pub put_parts : Option Cut → Option EventKind
put_parts None = None
put_parts (Some cut) =
    let rest = trimmed is_blank cut.rest in
    if begins is_blank cut.rest then put_element cut.text (int_of (word rest)) (text_of (behind_word rest)) else None

-- what happens by the event of this word with these parts, if they fit it
abbrev pub kind_of : Word → List ℕ → Option EventKind
kind_of words.Run s = run_of s
kind_of words.Tick s = tick_by (int_of s)
kind_of words.Kill s = option_map (λ n. Kill n) (int_of s)
kind_of words.Suspend s = option_map (λ n. Suspend n) (int_of s)
kind_of words.Resume s = option_map (λ n. Resume n) (int_of s)
kind_of words.Set s = set_parts (halves Equals s)
kind_of words.Signal s = option_map (λ name. Signal name) (text_of s)
kind_of words.Put s = put_parts (text_at s)
