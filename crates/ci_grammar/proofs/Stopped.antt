-- Where reading stops: what is completed up to there, and what is lost from there on.
use Rattle.std.proofs.Common.{◌≡◌, ℕ, suc, ◌+◌, ◌<◌, [], ◌∷◌, ◌++◌, length, take, refl, sym, ap, ◌∙◌, subst, arith}
use Rattle.std.specs.Prelude.{Bool, true, false, ◌&&◌, cond, Option, Some, None}
use Rattle.ci_tree.specs.declared.token.TokenKind.{TokenKind}
use Rattle.ci_tree.specs.Tokens.{IsKept}
use Rattle.ci_tree.specs.Grammar.{Tokens, AreAll}
use Rattle.ci_tree.specs.Refused.{Refusal, unexpected, unexpected_end, too_deep, Symbol, items, Rule, rule, takes, can_be_empty, Stack, push, Met, refused, deep, left, by_rule, meet, all_empty, from_met, refused_from}
use Rattle.ci_grammar.proofs.Completion.{completion, MayFollow, IsCompletable, Completes, by_nothing, by_token, completes, all_completed}
use Rattle.ci_grammar.proofs.Spelled.{kept_completion}
use Rattle.ci_grammar.proofs.Fitting.{LeavesCompletable, meet_completable, completion-push}

-- a file is to be read, with so many levels free
abbrev pub start : ℕ → Stack
start levels = (items, levels) ∷ []

-- nothing is refused of these tokens, wherever they begin
abbrev pub Passes : Tokens → Stack → Type 0
Passes tokens stack = (i : ℕ) → refused_from i tokens stack ≡ None

-- Completing

-- what a stack whose completion begins with a token becomes by it
record Step (t : TokenKind) (more : Tokens) (stack : Stack) : Type 0 where
  behind : Stack
  met : meet t stack ≡ left behind
  goes_on : completion behind ≡ more

step_front : (t : TokenKind) (more : Tokens) (s : Symbol × ℕ) (stack : Stack) → IsCompletable (s ∷ stack) → completion (s ∷ stack) ≡ t ∷ more
    → (completion stack ≡ t ∷ more → Step t more stack) → Completes s.0 → Step t more (s ∷ stack)
step_front t more s stack completable e next (by_nothing empty same none) =
    let same_rest : completion stack ≡ t ∷ more = sym (same (completion stack)) ∙ e in
    let inner = next same_rest in
    let dropped : meet t (s ∷ stack) ≡ meet t stack =
    rw (none t more (subst (MayFollow s.0) same_rest completable.0), empty) in
    record { behind = inner.behind; met = dropped ∙ inner.met; goes_on = inner.goes_on }
step_front t more s stack completable e next (by_token u then first rest) =
    let both : u ∷ all_completed then (completion stack) ≡ t ∷ more = sym (rest (completion stack)) ∙ e in
    let chosen : rule s.0 t ≡ takes then = subst (λ (v : TokenKind). rule s.0 v ≡ takes then) (cc) first in
    record {
      behind = push s.1 then stack;
      met = ap (λ (r : Rule). by_rule r (can_be_empty s.0) s.1 stack (meet t stack)) chosen;
      goes_on = completion-push s.1 then stack ∙ cc;
    }

step : (t : TokenKind) (more : Tokens) (stack : Stack) → IsCompletable stack → completion stack ≡ t ∷ more → Step t more stack
step t more [] completable e = absurd (cc)
step t more (s ∷ stack) completable e = step_front t more s stack completable e (step t more stack completable.1) (completes s.0)

-- what is completed by nothing can be empty
nothing_left : (stack : Stack) → completion stack ≡ [] → all_empty stack ≡ true
nothing_left [] e = refl
nothing_left (s ∷ stack) e = by_front (completes s.0) (nothing_left stack)
  where
    by_front : Completes s.0 → (completion stack ≡ [] → all_empty stack ≡ true) → (can_be_empty s.0 && all_empty stack) ≡ true
    by_front (by_nothing empty same none) then = rw (empty, then (sym (same (completion stack)) ∙ e))
    by_front (by_token u ss first rest) then = let no_token = rest (completion stack) in absurd (cc)

-- the completion of a stack passes
pub completion_passes : (more : Tokens) (stack : Stack) → IsCompletable stack → completion stack ≡ more → Passes more stack
completion_passes [] stack completable e i = rw (nothing_left stack e)
completion_passes (t ∷ more) stack completable e i =
    let s = step t more stack completable e in
    ap (from_met i (λ behind. refused_from (suc i) more behind)) s.met
    ∙ completion_passes more s.behind (subst LeavesCompletable s.met (meet_completable t stack completable)) s.goes_on (suc i)

-- Stopping

-- reading stops at this token: what is before it can be completed, and with it nothing passes
pub record Stop (tokens : Tokens) (stack : Stack) (at : ℕ) : Type 0 where
  pub is_there : at < length tokens
  pub before : (more : Tokens) × Passes (take at tokens ++ more) stack
  pub with_it : (more : Tokens) (i : ℕ) → refused_from i (take (suc at) tokens ++ more) stack ≡ None → ⊥

-- it stops so many tokens behind the first, which has this index
abbrev pub StopsAt : ℕ → Tokens → Stack → ℕ → Type 0
StopsAt first tokens stack at = (behind : ℕ) × (at ≡ first + behind) × Stop tokens stack behind

-- what a refusal says of the tokens
abbrev pub Says : ℕ → Tokens → Stack → Option Refusal → Type 0
Says first tokens stack None = Unit {0}
Says first tokens stack (Some (unexpected at)) = StopsAt first tokens stack at
Says first tokens stack (Some (too_deep at)) = StopsAt first tokens stack at
Says first tokens stack (Some unexpected_end) = (more : Tokens) × AreAll IsKept more × Passes (tokens ++ more) stack

stops_here : (t : TokenKind) (ts : Tokens) (stack : Stack) → IsCompletable stack
    → ((more : Tokens) (i : ℕ) → from_met i (λ behind. refused_from (suc i) more behind) (meet t stack) ≡ None → ⊥)
    → (first : ℕ) → StopsAt first (t ∷ ts) stack first
stops_here t ts stack completable with_it first =
    (0, omega arith, record { is_there = omega arith; before = (completion stack, completion_passes (completion stack) stack completable refl); with_it = with_it })

stops_later : (t : TokenKind) (ts : Tokens) (stack behind : Stack) → meet t stack ≡ left behind → (first at : ℕ) → StopsAt (suc first) ts behind at → StopsAt first (t ∷ ts) stack at
stops_later t ts stack behind met first at (n, e, stop) = (
  suc n,
  omega arith,
  record {
    is_there = omega (arith, stop.is_there);
    before = (stop.before.0, λ i. ap (from_met i (λ b. refused_from (suc i) (take n ts ++ stop.before.0) b)) met ∙ stop.before.1 (suc i));
    with_it = λ more i none. stop.with_it more (suc i) (sym (ap (from_met i (λ b. refused_from (suc i) (take (suc n) ts ++ more) b)) met) ∙ none);
  },
)

says_later : (t : TokenKind) (ts : Tokens) (stack behind : Stack) → meet t stack ≡ left behind → (first : ℕ) (r : Option Refusal) → Says (suc first) ts behind r → Says first (t ∷ ts) stack r
says_later t ts stack behind met first None says = tt
says_later t ts stack behind met first (Some (unexpected at)) says = stops_later t ts stack behind met first at says
says_later t ts stack behind met first (Some (too_deep at)) says = stops_later t ts stack behind met first at says
says_later t ts stack behind met first (Some unexpected_end) says =
    (says.0, says.1, λ i. ap (from_met i (λ b. refused_from (suc i) (ts ++ says.0) b)) met ∙ says.2 (suc i))

says_met : (first : ℕ) (t : TokenKind) (ts : Tokens) (stack : Stack) → IsCompletable stack → (m : Met) → meet t stack ≡ m → LeavesCompletable m
    → ((behind : Stack) → IsCompletable behind → Says (suc first) ts behind (refused_from (suc first) ts behind))
    → Says first (t ∷ ts) stack (from_met first (λ behind. refused_from (suc first) ts behind) m)
says_met first t ts stack completable refused e leaves later =
    stops_here t ts stack completable (λ more i none. let same = ap (from_met i (λ behind. refused_from (suc i) more behind)) e in absurd (cc)) first
says_met first t ts stack completable deep e leaves later =
    stops_here t ts stack completable (λ more i none. let same = ap (from_met i (λ behind. refused_from (suc i) more behind)) e in absurd (cc)) first
says_met first t ts stack completable (left behind) e leaves later =
    says_later t ts stack behind e first (refused_from (suc first) ts behind) (later behind leaves)

says_end : (first : ℕ) (stack : Stack) → IsCompletable stack → (b : Bool) → Says first [] stack (cond b None (Some unexpected_end))
says_end first stack completable true = tt
says_end first stack completable false = (completion stack, kept_completion stack, completion_passes (completion stack) stack completable refl)

-- the first refusal says so
pub refused_from_says : (first : ℕ) (tokens : Tokens) (stack : Stack) → IsCompletable stack → Says first tokens stack (refused_from first tokens stack)
refused_from_says first [] stack completable = says_end first stack completable (all_empty stack)
refused_from_says first (t ∷ ts) stack completable =
    says_met first t ts stack completable (meet t stack) refl (meet_completable t stack completable) (λ behind leaves. refused_from_says (suc first) ts behind leaves)
