-- The tokens that complete what is still to be read, and which tokens may stand behind a symbol.
use Rattle.std.proofs.Common.{◌≡◌, ℕ, zero, suc, List, [], ◌∷◌, ◌++◌, refl, sym, ap, ◌∙◌, arith}
use Rattle.std.specs.Prelude.{true, eqb, pos}
use Rattle.std.proofs.lemmas.Bool.Decides.{nat_tests}
use Rattle.ci_tree.specs.declared.token.TokenKind.{TokenKind}
use Rattle.ci_tree.specs.declared.token.TokenKind.TheVariants.{Name, Keyword, Number, Hashes, Sign}
use Rattle.ci_tree.specs.declared.token.Keyword.TheVariants as word
use Rattle.ci_tree.specs.declared.token.Sign.TheVariants as mark
use Rattle.ci_tree.specs.Grammar.{Tokens}
use Rattle.ci_tree.specs.Refused.{Symbol, keyword, sign, name, number, hashes, type, items, item, seen, typed, function, parameters, parameter, more_parameters, var_end, more_vars, first_value, const, body, statement, local_end, more_locals, tail, else, returned, cases, case, label, label_end, more_labels, relation, arguments, more_arguments, level, rest, suffix, no_rule, takes, rule, can_be_empty, followed_by, taken_if, level_rule, keyword_number, sign_number, Stack, expression}

-- `FUNCTION x ( ) END`, in front of what follows
abbrev pub a_function : Tokens → Tokens
a_function more = Keyword word.Function ∷ Name (120 ∷ []) ∷ Sign mark.LeftParen ∷ Sign mark.RightParen ∷ Keyword word.End ∷ more

-- a symbol's tokens that open no level, in front of what follows; none where it can be empty
abbrev pub completed : Symbol → Tokens → Tokens
completed (keyword k) more = Keyword k ∷ more
completed (sign s) more = Sign s ∷ more
completed name more = Name (120 ∷ []) ∷ more
completed number more = Number (pos 0) ∷ more
completed hashes more = Hashes 1 ∷ more
completed type more = Keyword word.Int ∷ more
completed item more = Sign mark.Semicolon ∷ more
completed seen more = a_function more
completed typed more = a_function more
completed function more = a_function more
completed parameter more = Keyword word.Int ∷ Name (120 ∷ []) ∷ more
completed const more = Number (pos 0) ∷ more
completed statement more = Sign mark.Semicolon ∷ more
completed tail more = Sign mark.Equal ∷ Number (pos 0) ∷ more
completed cases more = Keyword word.End ∷ Keyword word.Select ∷ more
completed case more = Keyword word.Else ∷ Keyword word.End ∷ Keyword word.Select ∷ more
completed label more = Number (pos 0) ∷ more
completed relation more = Sign mark.Equal ∷ more
completed (level n) more = Number (pos 0) ∷ more
completed s more = more

abbrev pub all_completed : List Symbol → Tokens → Tokens
all_completed [] more = more
all_completed (s ∷ ss) more = completed s (all_completed ss more)

abbrev pub completion : Stack → Tokens
completion [] = []
completion (s ∷ stack) = completed s.0 (completion stack)

-- no token is next
abbrev pub IsLast : Tokens → Type 0
IsLast [] = Unit {0}
IsLast (t ∷ more) = ⊥

-- END is next
abbrev pub IsBeforeEnd : Tokens → Type 0
IsBeforeEnd (Keyword word.End ∷ more) = Unit {0}
IsBeforeEnd more = ⊥

-- a token is next that ends an expression
abbrev pub IsBeforeStop : Tokens → Type 0
IsBeforeStop (Sign mark.RightParen ∷ more) = Unit {0}
IsBeforeStop (Sign mark.RightBracket ∷ more) = Unit {0}
IsBeforeStop (Sign mark.Semicolon ∷ more) = Unit {0}
IsBeforeStop (Keyword word.Then ∷ more) = Unit {0}
IsBeforeStop (Keyword word.Do ∷ more) = Unit {0}
IsBeforeStop (Keyword word.To ∷ more) = Unit {0}
IsBeforeStop (Keyword word.End ∷ more) = Unit {0}
IsBeforeStop more = ⊥

-- what may stand behind a symbol that can end in one that can be empty: tokens that begin no rule of the latter
abbrev pub MayFollow : Symbol → Tokens → Type 0
MayFollow items more = IsLast more
MayFollow body more = IsBeforeEnd more
MayFollow else more = IsBeforeEnd more
MayFollow label more = IsBeforeEnd more
MayFollow label_end more = IsBeforeEnd more
MayFollow more_labels more = IsBeforeEnd more
MayFollow parameters more = IsBeforeStop more
MayFollow parameter more = IsBeforeStop more
MayFollow more_parameters more = IsBeforeStop more
MayFollow var_end more = IsBeforeStop more
MayFollow more_vars more = IsBeforeStop more
MayFollow first_value more = IsBeforeStop more
MayFollow local_end more = IsBeforeStop more
MayFollow more_locals more = IsBeforeStop more
MayFollow tail more = IsBeforeStop more
MayFollow returned more = IsBeforeStop more
MayFollow arguments more = IsBeforeStop more
MayFollow more_arguments more = IsBeforeStop more
MayFollow (level n) more = IsBeforeStop more
MayFollow (rest n) more = IsBeforeStop more
MayFollow suffix more = IsBeforeStop more
MayFollow s more = Unit {0}

-- behind each symbol stands what may follow it, where all are completed
abbrev pub AllFollow : List Symbol → Tokens → Type 0
AllFollow [] more = Unit {0}
AllFollow (s ∷ ss) more = MayFollow s (all_completed ss more) × AllFollow ss more

-- the same of what is still to be read: so its completion is read
abbrev pub IsCompletable : Stack → Type 0
IsCompletable [] = Unit {0}
IsCompletable (s ∷ stack) = MayFollow s.0 (completion stack) × IsCompletable stack

-- Which tokens are next

stop_is : (P : TokenKind → Type 0)
    → P (Sign mark.RightParen) → P (Sign mark.RightBracket) → P (Sign mark.Semicolon) → P (Keyword word.Then) → P (Keyword word.Do) → P (Keyword word.To) → P (Keyword word.End)
    → (t : TokenKind) (more : Tokens) → IsBeforeStop (t ∷ more) → P t
stop_is P paren bracket semicolon then do_ to end (Sign mark.RightParen) more h = paren
stop_is P paren bracket semicolon then do_ to end (Sign mark.RightBracket) more h = bracket
stop_is P paren bracket semicolon then do_ to end (Sign mark.Semicolon) more h = semicolon
stop_is P paren bracket semicolon then do_ to end (Keyword word.Then) more h = then
stop_is P paren bracket semicolon then do_ to end (Keyword word.Do) more h = do_
stop_is P paren bracket semicolon then do_ to end (Keyword word.To) more h = to
stop_is P paren bracket semicolon then do_ to end (Keyword word.End) more h = end
stop_is P paren bracket semicolon then do_ to end t more h = absurd h

end_is : (P : TokenKind → Type 0) → P (Keyword word.End) → (t : TokenKind) (more : Tokens) → IsBeforeEnd (t ∷ more) → P t
end_is P end (Keyword word.End) more h = end
end_is P end t more h = absurd h

pub end_stops : (more : Tokens) → IsBeforeEnd more → IsBeforeStop more
end_stops [] h = absurd h
end_stops (t ∷ more) h = end_is (λ (u : TokenKind). IsBeforeStop (u ∷ more)) tt t more h

-- what stands behind FUNCTION
abbrev of_function : List Symbol
of_function = name ∷ sign mark.LeftParen ∷ parameters ∷ sign mark.RightParen ∷ body ∷ keyword word.End ∷ []

-- Completing a symbol

-- How a symbol is completed: by nothing, and then what follows begins none of its rules; or by a token that chooses a rule of
-- its without a new level, and what completes that rule.
pub data Completes (s : Symbol) : Type 0 where
  by_nothing : can_be_empty s ≡ true → ((more : Tokens) → completed s more ≡ more) → ((t : TokenKind) (more : Tokens) → MayFollow s (t ∷ more) → rule s t ≡ no_rule) → Completes s
  by_token : (t : TokenKind) (then : List Symbol) → rule s t ≡ takes then → ((more : Tokens) → completed s more ≡ t ∷ all_completed then more) → Completes s

-- a symbol that can be empty is dropped before each token that ends an expression
before_stops : (s : Symbol)
    → rule s (Sign mark.RightParen) ≡ no_rule → rule s (Sign mark.RightBracket) ≡ no_rule → rule s (Sign mark.Semicolon) ≡ no_rule → rule s (Keyword word.Then) ≡ no_rule → rule s (Keyword word.Do) ≡ no_rule → rule s (Keyword word.To) ≡ no_rule → rule s (Keyword word.End) ≡ no_rule
    → (t : TokenKind) (more : Tokens) → IsBeforeStop (t ∷ more) → rule s t ≡ no_rule
before_stops s = stop_is (λ (t : TokenKind). rule s t ≡ no_rule)

before_end : (s : Symbol) → rule s (Keyword word.End) ≡ no_rule → (t : TokenKind) (more : Tokens) → IsBeforeEnd (t ∷ more) → rule s t ≡ no_rule
before_end s = end_is (λ (t : TokenKind). rule s t ≡ no_rule)

pub all_completed-append : (ss us : List Symbol) (more : Tokens) → all_completed (ss ++ us) more ≡ all_completed ss (all_completed us more)
all_completed-append [] us more = refl
all_completed-append (s ∷ ss) us more = ap (completed s) (all_completed-append ss us more)

-- what may stand behind a number that is a member of level n
abbrev rests : ℕ → List Symbol
rests zero = []
rests (suc n) = rests n ++ rest n ∷ []

number_level : (n : ℕ) → level_rule n (Number (pos 0)) ≡ takes (rests n)
number_level zero = refl
number_level (suc n) = ap (followed_by (rest n ∷ [])) (number_level n)

rests_completed : (n : ℕ) (more : Tokens) → all_completed (rests n) more ≡ more
rests_completed zero more = refl
rests_completed (suc n) more = all_completed-append (rests n) (rest n ∷ []) more ∙ rests_completed n more

same_number : (n : ℕ) → eqb n n ≡ true
same_number n = grind (arith, nat_tests)

pub completes : (s : Symbol) → Completes s
completes (keyword k) = by_token (Keyword k) [] (ap taken_if (same_number (keyword_number k))) (λ more. refl)
completes (sign s) = by_token (Sign s) [] (ap taken_if (same_number (sign_number s))) (λ more. refl)
completes name = by_token (Name (120 ∷ [])) [] refl (λ more. refl)
completes number = by_token (Number (pos 0)) [] refl (λ more. refl)
completes hashes = by_token (Hashes 1) [] refl (λ more. refl)
completes type = by_token (Keyword word.Int) [] refl (λ more. refl)
completes items = by_nothing refl (λ more. refl) (λ t more h. absurd h)
completes item = by_token (Sign mark.Semicolon) [] refl (λ more. refl)
completes seen = by_token (Keyword word.Function) of_function refl (λ more. refl)
completes typed = by_token (Keyword word.Function) of_function refl (λ more. refl)
completes function = by_token (Keyword word.Function) of_function refl (λ more. refl)
completes parameters = by_nothing refl (λ more. refl) (before_stops parameters refl refl refl refl refl refl refl)
completes parameter = by_token (Keyword word.Int) (name ∷ first_value ∷ []) refl (λ more. refl)
completes more_parameters = by_nothing refl (λ more. refl) (before_stops more_parameters refl refl refl refl refl refl refl)
completes var_end = by_nothing refl (λ more. refl) (before_stops var_end refl refl refl refl refl refl refl)
completes more_vars = by_nothing refl (λ more. refl) (before_stops more_vars refl refl refl refl refl refl refl)
completes first_value = by_nothing refl (λ more. refl) (before_stops first_value refl refl refl refl refl refl refl)
completes const = by_token (Number (pos 0)) [] refl (λ more. refl)
completes body = by_nothing refl (λ more. refl) (before_end body refl)
completes statement = by_token (Sign mark.Semicolon) [] refl (λ more. refl)
completes local_end = by_nothing refl (λ more. refl) (before_stops local_end refl refl refl refl refl refl refl)
completes more_locals = by_nothing refl (λ more. refl) (before_stops more_locals refl refl refl refl refl refl refl)
completes tail = by_token (Sign mark.Equal) (expression ∷ []) refl (λ more. refl)
completes else = by_nothing refl (λ more. refl) (before_end else refl)
completes returned = by_nothing refl (λ more. refl) (before_stops returned refl refl refl refl refl refl refl)
completes cases = by_token (Keyword word.End) (keyword word.Select ∷ []) refl (λ more. refl)
completes case = by_token (Keyword word.Else) (body ∷ keyword word.End ∷ keyword word.Select ∷ []) refl (λ more. refl)
completes label = by_token (Number (pos 0)) (rests 8 ++ label_end ∷ []) refl (λ more. refl)
completes label_end = by_nothing refl (λ more. refl) (before_end label_end refl)
completes more_labels = by_nothing refl (λ more. refl) (before_end more_labels refl)
completes relation = by_token (Sign mark.Equal) [] refl (λ more. refl)
completes arguments = by_nothing refl (λ more. refl) (before_stops arguments refl refl refl refl refl refl refl)
completes more_arguments = by_nothing refl (λ more. refl) (before_stops more_arguments refl refl refl refl refl refl refl)
completes (level n) = by_token (Number (pos 0)) (rests n) (number_level n) (λ more. ap (λ (k : Tokens). Number (pos 0) ∷ k) (sym (rests_completed n more)))
completes (rest n) = by_nothing refl (λ more. refl) (before_stops (rest n) refl refl refl refl refl refl refl)
completes suffix = by_nothing refl (λ more. refl) (before_stops suffix refl refl refl refl refl refl refl)
