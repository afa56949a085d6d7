use Rattle.std.proofs.Common.{◌≡◌, ℕ, suc, cond, List, [], ◌∷◌, Option, Some, refl, ap, ◌∙◌, add-one}
use Rattle.std.specs.Prelude.{◌&&◌}
use Rattle.std.specs.List.{position_from}
use Rattle.std.specs.Str.{str_eq_ignore_ascii_case}
use Rattle.ci_base.specs.declared.layout.Head.{Head}
use Rattle.ci_shared.specs.Started.{public_from}
use Rattle.ci_tasktab.proofs.functions.public_named.Goals as goal

same : (n : ℕ) (name : List ℕ) (hs : List Head) → position_from (λ (h : Head). h.public && str_eq_ignore_ascii_case name h.name) n hs ≡ public_from n name hs
same n name [] = refl
same n name (h ∷ hs) =
    ap (λ (m : ℕ). cond (h.public && str_eq_ignore_ascii_case name h.name) (Some n) (position_from (λ (h : Head). h.public && str_eq_ignore_ascii_case name h.name) m hs)) (add-one n)
    ∙ ap (λ (o : Option ℕ). cond (h.public && str_eq_ignore_ascii_case name h.name) (Some n) o) (same (suc n) name hs)

pub returns-clause-first : goal.returns-clause-first
returns-clause-first c = c.at_public.ensures.first ∙ same 0 c.args.name.now c.args.functions.now
