-- The law of the parser's faults, from those of the refusals.
use Rattle.ci_expressions.specs.declared.fault.ParseFault.TheVariants as faults
use Rattle.ci_grammar.specs.FirstWrong.{UnexpectedIsWrong, TooDeepWantsLevel, EndIsCutShort}
use Rattle.ci_grammar.specs.Faults.{FaultsAreExplained}

pub faults_are_explained : UnexpectedIsWrong → TooDeepWantsLevel → EndIsCutShort → FaultsAreExplained
faults_are_explained unexpected too_deep end tokens (faults.Unexpected at) refusal = (unexpected tokens at).0 refusal
faults_are_explained unexpected too_deep end tokens faults.UnexpectedEnd refusal = (end tokens).0 refusal
faults_are_explained unexpected too_deep end tokens (faults.TooDeep at) refusal = (too_deep tokens at).0 refusal
faults_are_explained unexpected too_deep end tokens faults.Memory refusal = tt
