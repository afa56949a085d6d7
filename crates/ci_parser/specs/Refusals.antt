-- What the parser's faults say.
use Rattle.std.specs.Prelude.{◌≡◌, Some}
use Rattle.ci_expressions.specs.declared.fault.ParseFault.{ParseFault}
use Rattle.ci_expressions.specs.declared.fault.ParseFault.TheVariants as faults
use Rattle.ci_tree.specs.Grammar.{Tokens}
use Rattle.ci_tree.specs.Refused.{refused_at, unexpected, unexpected_end, too_deep}

-- The fault is what is refused first of the tokens, so they have no tree; want of memory says nothing.
abbrev pub IsRefusal : Tokens → ParseFault → Type 0
IsRefusal tokens (faults.Unexpected at) = refused_at tokens ≡ Some (unexpected at)
IsRefusal tokens faults.UnexpectedEnd = refused_at tokens ≡ Some unexpected_end
IsRefusal tokens (faults.TooDeep at) = refused_at tokens ≡ Some (too_deep at)
IsRefusal tokens faults.Memory = Unit {0}
