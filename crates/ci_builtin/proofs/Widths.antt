-- Texts that are short enough, or not.
use Rattle.std.proofs.Common.{◌≡◌, ℕ, ℤ, ◌-◌, ◌<◌, ◌≤◌, List, length, replicate, cond, sym, ap, arith, Ok, Err, length-append}
use Rattle.std.specs.Fmt.{signed_decimal}
use Rattle.std.proofs.lemmas.Bool.{le-leb, lt-leb}
use Rattle.std.proofs.lemmas.List.{length-replicate}
use Rattle.ci_base.specs.declared.bounds.TheConstants.{MOST_TEXT_BYTES}
use Rattle.ci_base.specs.declared.errors.TheConstants.{TEXT_TOO_LONG}
use Rattle.ci_base.specs.declared.value.Value.TheVariants.{Str}
use Rattle.ci_base.specs.TextFunctions.{bounded, padded}
use Rattle.ci_base.specs.Values.{Outcome}

pub bounded_short : (s : List ℕ) → length s ≤ MOST_TEXT_BYTES → Ok (Str s) ≡ bounded s
bounded_short s within = sym (ap (λ short. let outcome : Outcome = cond short (Ok (Str s)) (Err TEXT_TOO_LONG) in outcome) (le-leb (length s) MOST_TEXT_BYTES within))

pub bounded_long : (s : List ℕ) → MOST_TEXT_BYTES < length s → Err TEXT_TOO_LONG ≡ bounded s
bounded_long s long = sym (ap (λ short. let outcome : Outcome = cond short (Ok (Str s)) (Err TEXT_TOO_LONG) in outcome) (lt-leb (length s) MOST_TEXT_BYTES long))

-- a number is as long as its width, or longer
pub length-padded : (n : ℤ) (width : ℕ) → width ≤ length (padded n width)
length-padded n width =
    let digits = signed_decimal n in
    omega (arith, length-append (replicate (width - length digits) 32) digits, length-replicate {A = ℕ} (width - length digits) 32)
