-- The laws of nesting: what any number of levels changes.
use Rattle.std.proofs.Common.{◌≡◌, ℕ, zero, suc, ◌+◌, ◌≤◌, List, ◌++◌, length, take, sym, subst, inl, inr, arith}
use Rattle.std.specs.Prelude.{Option, Some, None, Result, Ok, Err}
use Rattle.ci_tree.specs.Tree.{Item}
use Rattle.ci_tree.specs.Grammar.{Tokens, spell_file, nesting}
use Rattle.ci_tree.specs.Refused.{Refusal, unexpected, too_deep, refused_at, refused_from}
use Rattle.ci_parser.specs.Reading.{items}
use Rattle.ci_parser.specs.OfGrammar.{TreeOrRefused}
use Rattle.ci_parser.proofs.ExactItems.{FileExact, items_exact}
use Rattle.ci_parser.proofs.AgainItems.{items_again}
use Rattle.ci_grammar.specs.FirstWrong.{AreTextWithin, BeginTextWithin, IsUnexpected, IsTooDeep, UnexpectedIsWrong, TooDeepWantsLevel}
use Rattle.ci_grammar.proofs.Deeper.{deeper, Remains, refusal_remains, too_deep_goes_on}
use Rattle.ci_grammar.proofs.Stopped.{start, Stop, Says, refused_from_says}
use Rattle.ci_grammar.proofs.Prefixes.{Means, refused_means, Refuses, first_refused}

-- Texts

same : (n : ℕ) → n ≤ n
same n = omega arith

read_exact : (levels : ℕ) (tokens : Tokens) → FileExact levels 0 tokens (items levels (length tokens) 0 tokens)
read_exact levels tokens = items_exact levels (length tokens) 0 tokens (same (length tokens))

-- a text passes with its levels, and what passes is a text
text_passes : (levels : ℕ) (tokens : Tokens) → AreTextWithin levels tokens → refused_from 0 tokens (start levels) ≡ None
text_passes levels tokens (file, within, spelled) =
    let read = items_again file levels within (length (spell_file file)) 0 (same (length (spell_file file))) in
    let exact = subst (FileExact levels 0 (spell_file file)) read (read_exact levels (spell_file file)) in
    subst (λ (ts : Tokens). refused_from 0 ts (start levels) ≡ None) (sym spelled) exact.passes

passing_text : (levels : ℕ) (tokens : Tokens) → refused_from 0 tokens (start levels) ≡ None → AreTextWithin levels tokens
passing_text levels tokens none = by_reading (items levels (length tokens) 0 tokens) (read_exact levels tokens)
  where
    by_reading : (r : Result (List Item) Refusal) → FileExact levels 0 tokens r → AreTextWithin levels tokens
    by_reading (Ok tree) read = (read.file, read.within, read.spelled)
    by_reading (Err f) refused = absurd (cc)

-- More levels

-- n levels more
abbrev more_levels : ℕ → ℕ → ℕ
more_levels zero levels = levels
more_levels (suc n) levels = suc (more_levels n levels)

more_levels-is : (n levels : ℕ) → more_levels n levels ≡ n + levels
more_levels-is zero levels = omega arith
more_levels-is (suc n) levels = omega (arith, more_levels-is n levels)

passes_deeper : (n levels : ℕ) (tokens : Tokens) → refused_from 0 tokens (start levels) ≡ None → refused_from 0 tokens (start (more_levels n levels)) ≡ None
passes_deeper zero levels tokens none = none
passes_deeper (suc n) levels tokens none =
    let below = start (more_levels n levels) in
    subst (λ (r : Option Refusal). Remains r (refused_from 0 tokens (deeper below))) (passes_deeper n levels tokens none) (refusal_remains 0 tokens below)

unexpected_deeper : (n levels : ℕ) (tokens : Tokens) (at : ℕ) → refused_from 0 tokens (start levels) ≡ Some (unexpected at) → refused_from 0 tokens (start (more_levels n levels)) ≡ Some (unexpected at)
unexpected_deeper zero levels tokens at e = e
unexpected_deeper (suc n) levels tokens at e =
    let below = start (more_levels n levels) in
    subst (λ (r : Option Refusal). Remains r (refused_from 0 tokens (deeper below))) (unexpected_deeper n levels tokens at e) (refusal_remains 0 tokens below)

-- The laws

-- a token that is unexpected with so many levels begins no text within them
unexpected_begins_none : (levels : ℕ) (tokens : Tokens) (at : ℕ) → refused_from 0 tokens (start levels) ≡ Some (unexpected at) → (more : Tokens) → refused_from 0 (take (suc at) tokens ++ more) (start levels) ≡ None → ⊥
unexpected_begins_none levels tokens at e more none =
    let (n, is_at, stop) = subst (Says 0 tokens (start levels)) e (refused_from_says 0 tokens (start levels) (tt, tt)) in
    let stops_there : Stop tokens (start levels) at = subst (Stop tokens (start levels)) (omega arith) stop in
    stops_there.with_it more 0 none

at_any_depth : (tokens : Tokens) (at : ℕ) → refused_at tokens ≡ Some (unexpected at) → (levels : ℕ) → ¬ BeginTextWithin levels (take (suc at) tokens)
at_any_depth tokens at e levels (more, text) =
    let passes = passes_deeper nesting levels (take (suc at) tokens ++ more) (text_passes levels (take (suc at) tokens ++ more) text) in
    let all : more_levels nesting levels ≡ more_levels levels nesting = omega (arith, more_levels-is nesting levels, more_levels-is levels nesting) in
    unexpected_begins_none (more_levels levels nesting) tokens at (unexpected_deeper levels nesting tokens at e) more
    (subst (λ (n : ℕ). refused_from 0 (take (suc at) tokens ++ more) (start n) ≡ None) all passes)

one_deeper : (tokens : Tokens) (at : ℕ) → refused_at tokens ≡ Some (too_deep at) → BeginTextWithin (suc nesting) (take (suc at) tokens)
one_deeper tokens at e =
    let (n, is_at, (more, passes)) = too_deep_goes_on 0 tokens (start nesting) (tt, tt) at e in
    let there : n ≡ at = omega arith in
    subst (λ (k : ℕ). BeginTextWithin (suc nesting) (take (suc k) tokens)) there (more, passing_text (suc nesting) (take (suc n) tokens ++ more) (passes 0))

is_unexpected : TreeOrRefused → (tokens : Tokens) (at : ℕ) → refused_at tokens ≡ Some (unexpected at) → IsUnexpected tokens at
is_unexpected law tokens at e = record { first_wrong = subst (Means tokens) e (refused_means law tokens); at_any_depth = at_any_depth tokens at e }

is_too_deep : TreeOrRefused → (tokens : Tokens) (at : ℕ) → refused_at tokens ≡ Some (too_deep at) → IsTooDeep tokens at
is_too_deep law tokens at e = record { first_wrong = subst (Means tokens) e (refused_means law tokens); one_deeper = one_deeper tokens at e }

pub unexpected_is_wrong : TreeOrRefused → UnexpectedIsWrong
unexpected_is_wrong law tokens at = (is_unexpected law tokens at, λ wrong. by_either wrong (first_refused law tokens at wrong.first_wrong))
  where
    by_either : IsUnexpected tokens at → Refuses (refused_at tokens) at → refused_at tokens ≡ Some (unexpected at)
    by_either wrong (inl e) = e
    by_either wrong (inr e) = absurd (wrong.at_any_depth (suc nesting) (one_deeper tokens at e))

pub too_deep_wants_level : TreeOrRefused → TooDeepWantsLevel
too_deep_wants_level law tokens at = (is_too_deep law tokens at, λ wrong. by_either wrong (first_refused law tokens at wrong.first_wrong))
  where
    by_either : IsTooDeep tokens at → Refuses (refused_at tokens) at → refused_at tokens ≡ Some (too_deep at)
    by_either wrong (inl e) = absurd (at_any_depth tokens at e (suc nesting) wrong.one_deeper)
    by_either wrong (inr e) = e
