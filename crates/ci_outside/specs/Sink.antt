-- What a text leaves in a sink.
use Rattle.std.specs.Prelude.{◌≡◌, ℕ, ◌≤◌, List, ◌++◌, Option, Result, OnOk, OnErr}
use Rattle.std.specs.Io.KnownBytes.{Appends}
use Rattle.ci_outside.specs.Causes.{Rose}

-- the sink was given a front of the text
abbrev pub AppendsFront : Option (List ℕ) → Option (List ℕ) → List ℕ → Type 0
AppendsFront before after text = (front : List ℕ) × (rest : List ℕ) × (text ≡ front ++ rest) × Appends before after front

-- The text was put: all of it, or, where a put failed, a front of it. A put fails only where the count of faults rose.
pub record Puts {K T E : Type 0} (bytes : K → Option (List ℕ)) (faults : K → ℕ) (before after : K) (result : Result T E) (text : List ℕ) : Type 0 where
  pub later : faults before ≤ faults after
  pub whole : OnOk result (Appends (bytes before) (bytes after) text)
  pub front : OnErr result (AppendsFront (bytes before) (bytes after) text)
  pub failed : OnErr result (Rose (faults before) (faults after))
