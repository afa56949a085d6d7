-- What a lead says of its byte.
use Rattle.std.proofs.Common.{◌≡◌, ℕ, Bool, true, false, cond, List, [], ◌∷◌, sym, refl, ◌∙◌, ◌==◌}
use Rattle.std.proofs.lemmas.Bool.{eqb-true}
use Rattle.ci_base.specs.Letters.{is_digit, is_letter, is_white, begins}
use Rattle.ci_tree.specs.Shapes.{is_hash}
use Rattle.ci_lexer.specs.declared.lead.Lead.{Lead}
use Rattle.ci_lexer.specs.declared.lead.Lead.TheVariants.{Letter, Digit, White, Quote, Hash, Mark, Slash, Other}
use Rattle.ci_lexer.specs.Leads.{lead, Leads}

-- the second branch was taken
other : (t : Bool) (x y z : Lead) → cond t x y ≡ z → (x ≡ z → ⊥) → y ≡ z
other true x y z e unlike = absurd (unlike e)
other false x y z e unlike = e

-- the first branch was taken
hit : (t : Bool) (x y z : Lead) → cond t x y ≡ z → (y ≡ z → ⊥) → t ≡ true
hit true x y z e unlike = refl
hit false x y z e unlike = absurd (unlike e)

-- neither
neither : (t : Bool) (x y z : Lead) → (x ≡ z → ⊥) → (y ≡ z → ⊥) → cond t x y ≡ z → ⊥
neither true x y z unlike none e = unlike e
neither false x y z unlike none e = none e

module _ (b : ℕ) where
  -- the leads from a place of the list of tests on
  from_slash : Lead
  from_slash = cond (b == 47) Slash Other

  from_mark : Lead
  from_mark = cond (b == 33) Mark from_slash

  from_hash : Lead
  from_hash = cond (b == 35) Hash from_mark

  from_quote : Lead
  from_quote = cond (b == 34) Quote from_hash

  from_white : Lead
  from_white = cond (is_white b) White from_quote

  from_digit : Lead
  from_digit = cond (is_digit b) Digit from_white

  lead_is : lead b ≡ cond (is_letter b) Letter from_digit
  unfolding lead from_slash from_mark from_hash from_quote from_white from_digit
  lead_is = refl

  pub is_letter-lead : lead b ≡ Letter → is_letter b ≡ true
  unfolding from_slash from_mark from_hash from_quote from_white from_digit
  is_letter-lead e =
      hit (is_letter b) Letter from_digit Letter (sym lead_is ∙ e)
      (neither (is_digit b) Digit from_white Letter (λ h. cc)
      (neither (is_white b) White from_quote Letter (λ h. cc)
      (neither (b == 34) Quote from_hash Letter (λ h. cc)
      (neither (b == 35) Hash from_mark Letter (λ h. cc)
      (neither (b == 33) Mark from_slash Letter (λ h. cc)
      (neither (b == 47) Slash Other Letter (λ h. cc) (λ h. cc)))))))

  after_letter : (z : Lead) → lead b ≡ z → (Letter ≡ z → ⊥) → from_digit ≡ z
  after_letter z e unlike = other (is_letter b) Letter from_digit z (sym lead_is ∙ e) unlike

  pub is_digit-lead : lead b ≡ Digit → is_digit b ≡ true
  unfolding from_slash from_mark from_hash from_quote from_white from_digit
  is_digit-lead e =
      hit (is_digit b) Digit from_white Digit (after_letter Digit e (λ h. cc))
      (neither (is_white b) White from_quote Digit (λ h. cc)
      (neither (b == 34) Quote from_hash Digit (λ h. cc)
      (neither (b == 35) Hash from_mark Digit (λ h. cc)
      (neither (b == 33) Mark from_slash Digit (λ h. cc)
      (neither (b == 47) Slash Other Digit (λ h. cc) (λ h. cc))))))

  after_digit : (z : Lead) → lead b ≡ z → (Letter ≡ z → ⊥) → (Digit ≡ z → ⊥) → from_white ≡ z
  unfolding from_digit
  after_digit z e unlike no_digit = other (is_digit b) Digit from_white z (after_letter z e unlike) no_digit

  pub is_white-lead : lead b ≡ White → is_white b ≡ true
  unfolding from_slash from_mark from_hash from_quote from_white
  is_white-lead e =
      hit (is_white b) White from_quote White (after_digit White e (λ h. cc) (λ h. cc))
      (neither (b == 34) Quote from_hash White (λ h. cc)
      (neither (b == 35) Hash from_mark White (λ h. cc)
      (neither (b == 33) Mark from_slash White (λ h. cc)
      (neither (b == 47) Slash Other White (λ h. cc) (λ h. cc)))))

  after_white : (z : Lead) → lead b ≡ z → (Letter ≡ z → ⊥) → (Digit ≡ z → ⊥) → (White ≡ z → ⊥) → from_quote ≡ z
  unfolding from_white
  after_white z e unlike no_digit no_white = other (is_white b) White from_quote z (after_digit z e unlike no_digit) no_white

  pub quote-lead : lead b ≡ Quote → b ≡ 34
  unfolding from_slash from_mark from_hash from_quote
  quote-lead e =
      eqb-true b 34
      (hit (b == 34) Quote from_hash Quote (after_white Quote e (λ h. cc) (λ h. cc) (λ h. cc))
      (neither (b == 35) Hash from_mark Quote (λ h. cc)
      (neither (b == 33) Mark from_slash Quote (λ h. cc)
      (neither (b == 47) Slash Other Quote (λ h. cc) (λ h. cc)))))

  after_quote : (z : Lead) → lead b ≡ z → (Letter ≡ z → ⊥) → (Digit ≡ z → ⊥) → (White ≡ z → ⊥) → (Quote ≡ z → ⊥) → from_hash ≡ z
  unfolding from_quote
  after_quote z e unlike no_digit no_white no_quote = other (b == 34) Quote from_hash z (after_white z e unlike no_digit no_white) no_quote

  pub hash-lead : lead b ≡ Hash → is_hash b ≡ true
  unfolding from_slash from_mark from_hash is_hash
  hash-lead e =
      hit (b == 35) Hash from_mark Hash (after_quote Hash e (λ h. cc) (λ h. cc) (λ h. cc) (λ h. cc))
      (neither (b == 33) Mark from_slash Hash (λ h. cc)
      (neither (b == 47) Slash Other Hash (λ h. cc) (λ h. cc)))

  after_hash : (z : Lead) → lead b ≡ z → (Letter ≡ z → ⊥) → (Digit ≡ z → ⊥) → (White ≡ z → ⊥) → (Quote ≡ z → ⊥) → (Hash ≡ z → ⊥) → from_mark ≡ z
  unfolding from_hash
  after_hash z e unlike no_digit no_white no_quote no_hash =
      other (b == 35) Hash from_mark z (after_quote z e unlike no_digit no_white no_quote) no_hash

  pub mark-lead : lead b ≡ Mark → b ≡ 33
  unfolding from_slash from_mark
  mark-lead e =
      eqb-true b 33
      (hit (b == 33) Mark from_slash Mark (after_hash Mark e (λ h. cc) (λ h. cc) (λ h. cc) (λ h. cc) (λ h. cc))
      (neither (b == 47) Slash Other Mark (λ h. cc) (λ h. cc)))

  pub slash-lead : lead b ≡ Slash → b ≡ 47
  unfolding from_slash from_mark
  slash-lead e =
      eqb-true b 47
      (hit (b == 47) Slash Other Slash (other (b == 33) Mark from_slash Slash (after_hash Slash e (λ h. cc) (λ h. cc) (λ h. cc) (λ h. cc) (λ h. cc)) (λ h. cc)) (λ h. cc))

-- the same of a list's first byte
pub begins-lead : (kind : Lead) (p : ℕ → Bool) → ((b : ℕ) → lead b ≡ kind → p b ≡ true) → (s : List ℕ) → Leads kind s → begins p s ≡ true
begins-lead kind p each [] h = absurd h
begins-lead kind p each (b ∷ s) h = each b h
