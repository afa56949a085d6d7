-- The event of a line.
use Rattle.std.specs.Prelude.{ℕ, Bool, true, false, ◌||◌, ◌==◌, List, [], ◌∷◌, length, codes, Option, Some, None, if◌then◌else◌, find}
use Rattle.std.specs.Str.{str_eq_ignore_ascii_case}
use Rattle.ci_base.specs.declared.event.EventKind.{EventKind}
use Rattle.ci_base.specs.Letters.{begins}
use Rattle.ci_base.specs.TextFunctions.{is_blank, trimmed}
use Rattle.ci_script.specs.declared.words.Word.{Word}
use Rattle.ci_script.specs.declared.words.Word.TheVariants as words
use Rattle.ci_script.specs.declared.reading.Reading.{Reading}
use Rattle.ci_script.specs.declared.reading.Reading.TheVariants as readings
use Rattle.ci_script.specs.Forms.{kind_of}
use Rattle.ci_script.specs.Parts.{word, behind_word}

-- how an event's word is spelled, in small letters
abbrev pub spelling : Word → List ℕ
spelling words.Run = codes "run"
spelling words.Tick = codes "tick"
spelling words.Kill = codes "kill"
spelling words.Suspend = codes "suspend"
spelling words.Resume = codes "resume"
spelling words.Set = codes "set"
spelling words.Signal = codes "signal"
spelling words.Put = codes "put"

abbrev pub all_words : List Word
all_words = words.Run ∷ words.Tick ∷ words.Kill ∷ words.Suspend ∷ words.Resume ∷ words.Set ∷ words.Signal ∷ words.Put ∷ []

-- the word that is spelled so in any letter case
abbrev pub word_named : List ℕ → Option Word
word_named s = find (λ w. str_eq_ignore_ascii_case (spelling w) s) all_words

-- the parts fit, or they don't
abbrev pub told : Bool → Option EventKind → Reading
told soon None = readings.BadArgument
told soon (Some what) = readings.Event (record { soon = soon; what = what })

abbrev pub worded : Bool → Option Word → List ℕ → Reading
worded soon None parts = readings.UnknownEvent
worded soon (Some w) parts = told soon (kind_of w parts)

-- an event's word, and then its parts
abbrev pub event_in : Bool → List ℕ → Reading
event_in soon s = worded soon (word_named (word s)) (behind_word s)

-- no event where nothing is left of the line or `!` is first; else an event, with `soon` before it or not
abbrev pub reading_of : List ℕ → Reading
reading_of s =
    if length s == 0 || begins (λ b. b == 33) s then readings.Nothing
    else (if str_eq_ignore_ascii_case (codes "soon") (word s) then event_in true (behind_word s) else event_in false s)

-- what a line says
unfoldable pub reading : List ℕ → Reading
reading line = reading_of (trimmed is_blank line)
