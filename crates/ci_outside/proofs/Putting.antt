-- Texts that are put one after another.
use Rattle.std.proofs.Common.{◌≡◌, ℕ, ◌≤◌, List, [], ◌++◌, Option, Result, Ok, Err, sym, ◌∙◌, ap, subst, append_assoc, arith}
use Rattle.std.specs.Io.KnownBytes.{Appends}
use Rattle.std.proofs.KnownBytes.{Appends-nil, Appends-trans}
use Rattle.ci_outside.specs.Causes.{Rose}
use Rattle.ci_outside.specs.Sink.{AppendsFront, Puts}

-- a count that rose in a part of a call rose in the call
pub Rose-within : (before mid after now : ℕ) → before ≤ mid → Rose mid after → after ≤ now → Rose before now
Rose-within before mid after now first rose last = omega arith

-- a front of the first text is a front of both
pub AppendsFront-more : (before after : Option (List ℕ)) (text rest : List ℕ) → AppendsFront before after text → AppendsFront before after (text ++ rest)
AppendsFront-more before after text rest (front, behind, split, given) =
    (front, behind ++ rest, ap (λ l. l ++ rest) split ∙ append_assoc front behind rest, given)

-- after a whole text, a front of the next
pub AppendsFront-after : (before mid after : Option (List ℕ)) (first second : List ℕ) → Appends before mid first → AppendsFront mid after second → AppendsFront before after (first ++ second)
AppendsFront-after before mid after first second whole (front, behind, split, given) =
    (first ++ front, behind, ap (λ l. first ++ l) split ∙ sym (append_assoc first front behind), Appends-trans before mid after first front whole given)

-- a text was put, and then another: both were, or a front of both
pub Puts-then : {K T E T' E' : Type 0} (bytes : K → Option (List ℕ)) (faults : K → ℕ) (before mid after : K) (done : T) (result : Result T' E') (first second : List ℕ)
    → Puts {E = E} bytes faults before mid (Ok done) first → Puts bytes faults mid after result second → Puts bytes faults before after result (first ++ second)
Puts-then bytes faults before mid after done (Ok t) first second one two = record {
  later = omega (arith, one.later, two.later);
  whole = Appends-trans (bytes before) (bytes mid) (bytes after) first second one.whole two.whole;
  front = tt;
  failed = tt;
}
Puts-then bytes faults before mid after done (Err e) first second one two = record {
  later = omega (arith, one.later, two.later);
  whole = tt;
  front = AppendsFront-after (bytes before) (bytes mid) (bytes after) first second one.whole two.front;
  failed = Rose-within (faults before) (faults mid) (faults after) (faults after) one.later two.failed (omega arith);
}

-- a put failed: a front of the text was put, and so of each longer text
pub Puts-stop : {K T E T' E' : Type 0} (bytes : K → Option (List ℕ)) (faults : K → ℕ) (before after : K) (e : E) (e' : E') (text rest : List ℕ)
    → Puts {T = T} bytes faults before after (Err e) text → Puts {T = T'} bytes faults before after (Err e') (text ++ rest)
Puts-stop bytes faults before after e e' text rest stopped = record {
  later = stopped.later;
  whole = tt;
  front = AppendsFront-more (bytes before) (bytes after) text rest stopped.front;
  failed = stopped.failed;
}

-- a front of the text was put, and then a put of the next piece failed
pub Puts-fails : {K T E T' E' T'' E'' : Type 0} (bytes : K → Option (List ℕ)) (faults : K → ℕ) (before mid after : K) (done : T) (e : E') (e' : E'') (text so_far piece rest : List ℕ)
    → text ≡ so_far ++ (piece ++ rest) → Puts {E = E} bytes faults before mid (Ok done) so_far → Puts {T = T'} bytes faults mid after (Err e) piece → Puts {T = T''} bytes faults before after (Err e') text
Puts-fails {T' = T'} {T'' = T''} bytes faults before mid after done e e' text so_far piece rest split one two =
    let Family : List ℕ → Type 0 = λ l. Puts {T = T''} bytes faults before after (Err e') l in
    subst Family (sym split)
    (Puts-then bytes faults before mid after done (Err e') so_far (piece ++ rest) one (Puts-stop {T = T'} bytes faults mid after e e' piece rest two))

-- nothing was put yet
pub Puts-nothing : {K T E : Type 0} (bytes : K → Option (List ℕ)) (faults : K → ℕ) (out : K) (done : T) → Puts {E = E} bytes faults out out (Ok done) []
Puts-nothing bytes faults out done = record { later = omega arith; whole = Appends-nil (bytes out); front = tt; failed = tt }
