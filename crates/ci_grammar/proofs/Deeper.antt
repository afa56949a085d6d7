-- Reading with one level more: what is unexpected stays so, and what was too deep goes on.
use Rattle.std.proofs.Common.{◌≡◌, ℕ, zero, suc, ◌+◌, List, [], ◌∷◌, ◌++◌, take, refl, sym, ap, ◌∙◌, subst, arith}
use Rattle.std.specs.Prelude.{Bool, true, false, ◌&&◌, cond, Option, Some, None}
use Rattle.ci_tree.specs.declared.token.TokenKind.{TokenKind}
use Rattle.ci_tree.specs.Grammar.{Tokens}
use Rattle.ci_tree.specs.Refused.{Refusal, unexpected, unexpected_end, too_deep, Symbol, Rule, no_rule, takes, opens, rule, can_be_empty, Stack, push, Met, refused, deep, left, by_rule, meet, all_empty, from_met, refused_from}
use Rattle.ci_grammar.proofs.Completion.{completed, completion, MayFollow, IsCompletable}
use Rattle.ci_grammar.proofs.Fitting.{LeavesCompletable, meet_completable}
use Rattle.ci_grammar.proofs.Stopped.{Passes, completion_passes}

-- one level more is free at each place
abbrev pub deeper : Stack → Stack
deeper [] = []
deeper (s ∷ stack) = (s.0, suc s.1) ∷ deeper stack

push_deeper : (free : ℕ) (ss : List Symbol) (stack : Stack) → push (suc free) ss (deeper stack) ≡ deeper (push free ss stack)
push_deeper free [] stack = refl
push_deeper free (s ∷ ss) stack = ap (λ (rest : Stack). (s, suc free) ∷ rest) (push_deeper free ss stack)

completion-deeper : (stack : Stack) → completion (deeper stack) ≡ completion stack
completion-deeper [] = refl
completion-deeper (s ∷ stack) = ap (completed s.0) (completion-deeper stack)

completable_deeper : (stack : Stack) → IsCompletable stack → IsCompletable (deeper stack)
completable_deeper [] completable = tt
completable_deeper (s ∷ stack) completable = (subst (MayFollow s.0) (sym (completion-deeper stack)) completable.0, completable_deeper stack completable.1)

all_empty-deeper : (stack : Stack) → all_empty (deeper stack) ≡ all_empty stack
all_empty-deeper [] = refl
all_empty-deeper (s ∷ stack) = ap (λ (b : Bool). can_be_empty s.0 && b) (all_empty-deeper stack)

-- what a token leaves with one level more
abbrev Deepened : Met → Met → Type 0
Deepened refused m = m ≡ refused
Deepened deep m = (stack : Stack) × (m ≡ left stack)
Deepened (left stack) m = m ≡ left (deeper stack)

by_rule_deeper : (r : Rule) (empty : Bool) (free : ℕ) (stack : Stack) (dropped other : Met) → Deepened dropped other
    → Deepened (by_rule r empty free stack dropped) (by_rule r empty (suc free) (deeper stack) other)
by_rule_deeper no_rule true free stack dropped other same = same
by_rule_deeper no_rule false free stack dropped other same = refl
by_rule_deeper (takes ss) empty free stack dropped other same = ap left (push_deeper free ss stack)
by_rule_deeper (opens inside ss) empty zero stack dropped other same = (push zero inside (push (suc zero) ss (deeper stack)), refl)
by_rule_deeper (opens inside ss) empty (suc free) stack dropped other same =
    ap left (ap (push (suc free) inside) (push_deeper (suc free) ss stack) ∙ push_deeper free inside (push (suc free) ss stack))

meet_deeper : (t : TokenKind) (stack : Stack) → Deepened (meet t stack) (meet t (deeper stack))
meet_deeper t [] = refl
meet_deeper t (s ∷ stack) = by_rule_deeper (rule s.0 t) (can_be_empty s.0) s.1 stack (meet t stack) (meet t (deeper stack)) (meet_deeper t stack)

-- a refusal with one level more: the same, unless levels were wanting
abbrev pub Remains : Option Refusal → Option Refusal → Type 0
Remains None r = r ≡ None
Remains (Some (unexpected at)) r = r ≡ Some (unexpected at)
Remains (Some unexpected_end) r = r ≡ Some unexpected_end
Remains (Some (too_deep at)) r = Unit {0}

remains : (r : Option Refusal) → Remains r r
remains None = refl
remains (Some (unexpected at)) = refl
remains (Some unexpected_end) = refl
remains (Some (too_deep at)) = tt

remains_met : (i : ℕ) (ts : Tokens) (m other : Met) → Deepened m other
    → ((stack : Stack) → Remains (refused_from (suc i) ts stack) (refused_from (suc i) ts (deeper stack)))
    → Remains (from_met i (λ b. refused_from (suc i) ts b) m) (from_met i (λ b. refused_from (suc i) ts b) other)
remains_met i ts refused other e next = ap (from_met i (λ b. refused_from (suc i) ts b)) e
remains_met i ts deep other e next = tt
remains_met i ts (left stack) other e next =
    subst (λ (m : Met). Remains (refused_from (suc i) ts stack) (from_met i (λ b. refused_from (suc i) ts b) m)) (sym e) (next stack)

pub refusal_remains : (i : ℕ) (tokens : Tokens) (stack : Stack) → Remains (refused_from i tokens stack) (refused_from i tokens (deeper stack))
refusal_remains i [] stack =
    subst (λ (b : Bool). Remains (cond (all_empty stack) None (Some unexpected_end)) (cond b None (Some unexpected_end))) (sym (all_empty-deeper stack)) (remains (cond (all_empty stack) None (Some unexpected_end)))
refusal_remains i (t ∷ ts) stack = remains_met i ts (meet t stack) (meet t (deeper stack)) (meet_deeper t stack) (refusal_remains (suc i) ts)

-- With one level more the token that was too deep, and those before it, can be completed; so many stand before it.
abbrev pub Deepens : ℕ → Tokens → Stack → ℕ → Type 0
Deepens first tokens stack at = (behind : ℕ) × (at ≡ first + behind) × ((more : Tokens) × Passes (take (suc behind) tokens ++ more) (deeper stack))

deepens_met : (first at : ℕ) (t : TokenKind) (ts : Tokens) (stack : Stack) → IsCompletable stack → (m : Met) → meet t stack ≡ m → Deepened m (meet t (deeper stack)) → LeavesCompletable m
    → ((behind : Stack) → IsCompletable behind → refused_from (suc first) ts behind ≡ Some (too_deep at) → Deepens (suc first) ts behind at)
    → from_met first (λ b. refused_from (suc first) ts b) m ≡ Some (too_deep at) → Deepens first (t ∷ ts) stack at
deepens_met first at t ts stack completable refused e d leaves next r = absurd (cc)
deepens_met first at t ts stack completable deep e (behind, met) leaves next r =
    let is_completable = subst LeavesCompletable met (meet_completable t (deeper stack) (completable_deeper stack completable)) in
    let here : at ≡ first = cc in
    (0, omega arith, (completion behind, λ i. ap (from_met i (λ b. refused_from (suc i) (completion behind) b)) met ∙ completion_passes (completion behind) behind is_completable refl (suc i)))
deepens_met first at t ts stack completable (left behind) e met leaves next r =
    let (n, same, (more, passes)) = next behind leaves r in
    (suc n, omega arith, (more, λ i. ap (from_met i (λ b. refused_from (suc i) (take (suc n) ts ++ more) b)) met ∙ passes (suc i)))

pub too_deep_goes_on : (first : ℕ) (tokens : Tokens) (stack : Stack) → IsCompletable stack → (at : ℕ) → refused_from first tokens stack ≡ Some (too_deep at) → Deepens first tokens stack at
too_deep_goes_on first [] stack completable at r = at_end (all_empty stack) r
  where
    at_end : (b : Bool) → cond b None (Some unexpected_end) ≡ Some (too_deep at) → Deepens first [] stack at
    at_end true e = absurd (cc)
    at_end false e = absurd (cc)
too_deep_goes_on first (t ∷ ts) stack completable at r =
    deepens_met first at t ts stack completable (meet t stack) refl (meet_deeper t stack) (meet_completable t stack completable) (λ behind leaves e. too_deep_goes_on (suc first) ts behind leaves at e) r
