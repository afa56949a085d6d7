use Rattle.std.proofs.Common.{[], Some, None, refl, inl, inr, ⊎_elim, length}
use Rattle.ci_tree.specs.Tokens.{after_mark}
use Rattle.ci_lexer.proofs.Existence.{source_ends}
use Rattle.ci_lexer.proofs.Unique.{one_reading}
use Rattle.ci_lexer.proofs.laws.one_reading.Goals as goal

pub returns-clause-some : goal.returns-clause-some
returns-clause-some c = λ source. ⊎_elim (λ found. inl found) (λ found. inr (found.0, (found.1, found.2, found.3, found.4))) (source_ends source)

pub returns-clause-one_list : goal.returns-clause-one_list
returns-clause-one_list c = λ source ts us first second.
    (one_reading (length source) (after_mark source) ts us [] [] None None first refl second refl).0

pub returns-clause-one_fault : goal.returns-clause-one_fault
returns-clause-one_fault c = λ source fault other first second.
    let same = (one_reading (length source) (after_mark source) first.0 second.0 first.1 second.1 (Some fault) (Some other) first.2 first.3 second.2 second.3).1 in
    cc

pub returns-clause-not_both : goal.returns-clause-not_both
returns-clause-not_both c = λ source ts fault first second.
    let same = (one_reading (length source) (after_mark source) ts second.0 [] second.1 None (Some fault) first refl second.2 second.3).1 in
    cc
