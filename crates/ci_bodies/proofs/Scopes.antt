-- Where more locals hold.
use Rattle.std.proofs.Common.{◌≡◌, List, [], ◌++◌, ap, append_assoc, append-nil}
use Rattle.ci_names.specs.Scopes.{Scope, Local, with_locals}

pub with_none : (s : Scope) → with_locals s [] ≡ s
with_none s = ap (λ ls. record s { locals = ls }) (append-nil s.locals)

pub with_more : (s : Scope) (ls ms : List Local) → with_locals (with_locals s ls) ms ≡ with_locals s (ls ++ ms)
with_more s ls ms = ap (λ xs. record s { locals = xs }) (append_assoc s.locals ls ms)
