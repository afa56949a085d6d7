-- What a function of the code gives, beside what reading gives.
use Rattle.std.specs.Prelude.{◌≡◌, List, map, Result, Ok, Err}
use Rattle.ci_tree.specs.declared.token.Token.{Token}
use Rattle.ci_tree.specs.Grammar.{Tokens}
use Rattle.ci_tree.specs.Refused.{Refusal, unexpected, unexpected_end, too_deep}
use Rattle.ci_expressions.specs.declared.fault.ParseFault.{ParseFault}
use Rattle.ci_expressions.specs.declared.fault.ParseFault.TheVariants as faults

-- what the tokens are, without their places
abbrev pub kinds : List Token → Tokens
kinds tokens = map (λ t. t.what) tokens

-- The fault is what is refused; want of memory says nothing.
abbrev pub Fails : {Y : Type 0} → ParseFault → Result Y Refusal → Type 0
Fails faults.Memory read = Unit {0}
Fails faults.UnexpectedEnd read = read ≡ Err unexpected_end
Fails (faults.Unexpected at) read = read ≡ Err (unexpected at)
Fails (faults.TooDeep at) read = read ≡ Err (too_deep at)

-- The value, seen by view, is what was read, or the fault is the refusal.
abbrev pub Gives : {X Y : Type 0} → (X → Y) → Result X ParseFault → Result Y Refusal → Type 0
Gives view (Ok x) read = read ≡ Ok (view x)
Gives view (Err e) read = Fails e read
