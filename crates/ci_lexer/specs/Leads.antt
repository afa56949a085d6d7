-- What the first byte of a token tells.
use Rattle.std.specs.Prelude.{◌≡◌, ℕ, List, [], ◌∷◌, ◌==◌, if◌then◌else◌}
use Rattle.ci_base.specs.Letters.{is_digit, is_letter, is_white}
use Rattle.ci_lexer.specs.declared.lead.Lead.{Lead}
use Rattle.ci_lexer.specs.declared.lead.Lead.TheVariants.{Letter, Digit, White, Quote, Hash, Mark, Slash, Other}

-- what may begin with a byte
unfoldable pub lead : ℕ → Lead
lead b =
    if is_letter b then Letter
    else (if is_digit b then Digit
    else (if is_white b then White
    else (if b == 34 then Quote
    else (if b == 35 then Hash
    else (if b == 33 then Mark
    else (if b == 47 then Slash
    else Other))))))

-- the list has a first byte, and that has this lead
abbrev pub Leads : Lead → List ℕ → Type 0
Leads kind [] = ⊥
Leads kind (b ∷ s) = lead b ≡ kind
