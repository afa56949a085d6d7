-- What the first byte tells of the bytes behind it.
use Rattle.std.proofs.Common.{◌≡◌, ℕ, true, false, ◌&&◌, ◌||◌, List, [], ◌∷◌, ◌++◌, sym, refl, ap, ◌∙◌, subst, subst₂, get_or, drop, true≢false, inl, inr, ◌⊎◌, ⊎_elim, arith, ◌==◌}
use Rattle.std.specs.List.{list_all}
use Rattle.std.proofs.lemmas.Bool.{and_parts, or_cases, eqb-true}
use Rattle.std.proofs.lemmas.Bool.Decides.{nat_tests}
use Rattle.ci_base.specs.Letters.{is_digit, is_letter, is_white, is_capital, is_small, is_name_byte, is_hex_digit, is_run}
use Rattle.ci_base.specs.Names.{is_name}
use Rattle.ci_base.specs.Numbers.{is_decimal, is_hexadecimal, is_number}
use Rattle.ci_base.specs.Texts.{AreItems}
use Rattle.ci_tree.specs.declared.token.Sign.{Sign}
use Rattle.ci_tree.specs.declared.token.Sign.TheVariants.{LeftParen, RightParen, LeftBracket, RightBracket, Comma, Semicolon, Colon, Equal, Unequal, Less, Greater, AtMost, AtLeast, Plus, Minus, Star, Slash as the_slash}
use Rattle.ci_tree.specs.Comments.{IsBlank, has_close, is_inline}
use Rattle.ci_tree.specs.Comments.IsBlank.{white, marked, slashed, enclosed}
use Rattle.ci_tree.specs.Shapes.{Shape, is_hash}
use Rattle.ci_tree.specs.Shapes.Shape.{name, number, text, hashes, sign, blank, opened}
use Rattle.ci_tree.specs.Signs.{sign_bytes}
use Rattle.ci_lexer.specs.declared.lead.Lead.{Lead}
use Rattle.ci_lexer.specs.declared.lead.Lead.TheVariants.{Letter, Digit, White, Quote, Hash, Mark, Slash, Other}
use Rattle.ci_lexer.specs.Leads.{lead}

pub lead-letter : (b : ℕ) → is_letter b ≡ true → lead b ≡ Letter
unfolding lead
lead-letter b h = rw h refl

pub lead-digit : (b : ℕ) → is_digit b ≡ true → lead b ≡ Digit
unfolding lead is_digit is_letter is_capital is_small
lead-digit b h = grind (arith, nat_tests)

pub lead-white : (b : ℕ) → is_white b ≡ true → lead b ≡ White
unfolding lead is_white is_digit is_letter is_capital is_small
lead-white b h = grind (arith, nat_tests)

pub lead-hash : (b : ℕ) → is_hash b ≡ true → lead b ≡ Hash
unfolding lead is_hash is_white is_digit is_letter is_capital is_small
lead-hash b h = subst (λ n. lead n ≡ Hash) (sym (eqb-true b 35 h)) refl

-- what follows a first byte of this lead in a shape
abbrev pub Follows : Lead → ℕ → List ℕ → Type 0
Follows Letter b s = list_all is_name_byte s ≡ true
Follows Digit b s = (list_all is_digit s ≡ true) ⊎ (is_hexadecimal (b ∷ s) ≡ true)
Follows White b s = list_all is_white s ≡ true
Follows Quote b s = (items : List ℕ) × (value : List ℕ) × AreItems items value × (s ≡ items ++ 34 ∷ [])
Follows Hash b s = list_all is_hash s ≡ true
Follows Mark b s = list_all is_inline s ≡ true
Follows Slash b s =
    (s ≡ [])
    ⊎ (((body : List ℕ) × (s ≡ 47 ∷ body) × (list_all is_inline body ≡ true))
    ⊎ (((body : List ℕ) × (s ≡ 42 ∷ body ++ 42 ∷ 47 ∷ []) × (has_close body ≡ false))
    ⊎ ((body : List ℕ) × (s ≡ 42 ∷ body) × (has_close body ≡ false))))
Follows Other b s = (g : Sign) × (b ∷ s ≡ sign_bytes g)

pub follows_word : (b : ℕ) (s : List ℕ) → is_name (b ∷ s) ≡ true → Follows (lead b) b s
follows_word b s h =
    let parts = and_parts (is_letter b) (is_name_byte b && list_all is_name_byte s) h in
    let all = and_parts (is_name_byte b) (list_all is_name_byte s) parts.1 in
    subst (λ l. Follows l b s) (sym (lead-letter b parts.0)) all.1

-- a hexadecimal number begins with 0 and x
pub hex_first : (b : ℕ) (s : List ℕ) → is_hexadecimal (b ∷ s) ≡ true → b ≡ 48
hex_first b [] h = absurd (true≢false (sym h))
hex_first b (x ∷ digits) h =
    let parts = and_parts (b == 48 && (x == 120 || x == 88)) (is_run is_hex_digit digits) h in
    eqb-true b 48 (and_parts (b == 48) (x == 120 || x == 88) parts.0).0

pub lead-zero : lead 48 ≡ Digit
unfolding lead is_digit is_letter is_capital is_small
lead-zero = refl

pub lead-quote : lead 34 ≡ Quote
unfolding lead is_white is_digit is_letter is_capital is_small
lead-quote = refl

pub lead-mark : lead 33 ≡ Mark
unfolding lead is_white is_digit is_letter is_capital is_small
lead-mark = refl

pub lead-slash : lead 47 ≡ Slash
unfolding lead is_white is_digit is_letter is_capital is_small
lead-slash = refl

pub follows_number : (b : ℕ) (s : List ℕ) → is_number (b ∷ s) ≡ true → Follows (lead b) b s
follows_number b s h =
    ⊎_elim
    (λ decimal.
    let parts = and_parts (is_digit b) (is_digit b && list_all is_digit s) decimal in
    let all = and_parts (is_digit b) (list_all is_digit s) parts.1 in
    subst (λ l. Follows l b s) (sym (lead-digit b parts.0)) (inl all.1))
    (λ hexadecimal. subst (λ l. Follows l b s) (sym (ap lead (hex_first b s hexadecimal) ∙ lead-zero)) (inr hexadecimal))
    (or_cases (is_decimal (b ∷ s)) (is_hexadecimal (b ∷ s)) h)

pub number_lead : (b : ℕ) (s : List ℕ) → is_number (b ∷ s) ≡ true → lead b ≡ Digit
number_lead b s h =
    ⊎_elim
    (λ decimal. lead-digit b (and_parts (is_digit b) (is_digit b && list_all is_digit s) decimal).0)
    (λ hexadecimal. ap lead (hex_first b s hexadecimal) ∙ lead-zero)
    (or_cases (is_decimal (b ∷ s)) (is_hexadecimal (b ∷ s)) h)

-- at a first byte that is known
pub follows_at : (n : ℕ) (tail : List ℕ) (kind : Lead) → lead n ≡ kind → Follows kind n tail → (b : ℕ) (s : List ℕ) → n ∷ tail ≡ b ∷ s → Follows (lead b) b s
follows_at n tail kind is holds b s e =
    let head : n ≡ b = ap (λ l. get_or l 0 0) e in
    let rest : tail ≡ s = ap (λ l. drop 1 l) e in
    subst₂ (λ m t. Follows (lead m) m t) head rest (subst (λ l. Follows l n tail) (sym is) holds)

-- a sign other than `/`
pub follows_other : (g : Sign) → lead (get_or (sign_bytes g) 0 0) ≡ Other → (b : ℕ) (s : List ℕ) → sign_bytes g ≡ b ∷ s → Follows (lead b) b s
follows_other g is b s e =
    subst (λ l. Follows l b s) (sym (ap lead (sym (ap (λ l. get_or l 0 0) e)) ∙ is)) (g, sym e)

pub follows_sign : (g : Sign) (b : ℕ) (s : List ℕ) → sign_bytes g ≡ b ∷ s → Follows (lead b) b s
unfolding lead is_white is_digit is_letter is_capital is_small
follows_sign LeftParen b s e = follows_other LeftParen refl b s e
follows_sign RightParen b s e = follows_other RightParen refl b s e
follows_sign LeftBracket b s e = follows_other LeftBracket refl b s e
follows_sign RightBracket b s e = follows_other RightBracket refl b s e
follows_sign Comma b s e = follows_other Comma refl b s e
follows_sign Semicolon b s e = follows_other Semicolon refl b s e
follows_sign Colon b s e = follows_other Colon refl b s e
follows_sign Equal b s e = follows_other Equal refl b s e
follows_sign Unequal b s e = follows_other Unequal refl b s e
follows_sign Less b s e = follows_other Less refl b s e
follows_sign Greater b s e = follows_other Greater refl b s e
follows_sign AtMost b s e = follows_other AtMost refl b s e
follows_sign AtLeast b s e = follows_other AtLeast refl b s e
follows_sign Plus b s e = follows_other Plus refl b s e
follows_sign Minus b s e = follows_other Minus refl b s e
follows_sign Star b s e = follows_other Star refl b s e
follows_sign the_slash b s e = follows_at 47 [] Slash lead-slash (inl refl) b s e

pub follows_white : (b : ℕ) (s : List ℕ) → is_run is_white (b ∷ s) ≡ true → Follows (lead b) b s
follows_white b s h =
    let parts = and_parts (is_white b) (is_white b && list_all is_white s) h in
    let all = and_parts (is_white b) (list_all is_white s) parts.1 in
    subst (λ l. Follows l b s) (sym (lead-white b parts.0)) all.1

pub follows_hash : (b : ℕ) (s : List ℕ) → is_run is_hash (b ∷ s) ≡ true → Follows (lead b) b s
follows_hash b s h =
    let parts = and_parts (is_hash b) (is_hash b && list_all is_hash s) h in
    let all = and_parts (is_hash b) (list_all is_hash s) parts.1 in
    subst (λ l. Follows l b s) (sym (lead-hash b parts.0)) all.1

pub follows_blank : (t : List ℕ) → IsBlank t → (b : ℕ) (s : List ℕ) → t ≡ b ∷ s → Follows (lead b) b s
follows_blank _ (white t h) b s e = follows_white b s (sym (ap (λ l. is_run is_white l) e) ∙ h)
follows_blank _ (marked body h) b s e = follows_at 33 body Mark lead-mark h b s e
follows_blank _ (slashed body h) b s e = follows_at 47 (47 ∷ body) Slash lead-slash (inr (inl (body, refl, h))) b s e
follows_blank _ (enclosed body h) b s e =
    follows_at 47 (42 ∷ body ++ 42 ∷ 47 ∷ []) Slash lead-slash (inr (inr (inl (body, refl, h)))) b s e

-- what follows the first byte of any shape
pub follows : (t : List ℕ) → Shape t → (b : ℕ) (s : List ℕ) → t ≡ b ∷ s → Follows (lead b) b s
follows _ (name t h) b s e = follows_word b s (sym (ap is_name e) ∙ h)
follows _ (number t h) b s e = follows_number b s (sym (ap is_number e) ∙ h)
follows _ (text t value is) b s e =
    follows_at 34 (is.0 ++ 34 ∷ []) Quote lead-quote (is.0, value, is.1, refl) b s (sym is.2 ∙ e)
follows _ (hashes t h) b s e = follows_hash b s (sym (ap (λ l. is_run is_hash l) e) ∙ h)
follows _ (sign g) b s e = follows_sign g b s e
follows _ (blank t is) b s e = follows_blank t is b s e
follows _ (opened t is) b s e =
    follows_at 47 (42 ∷ is.0) Slash lead-slash (inr (inr (inr (is.0, refl, is.2)))) b s (sym is.1 ∙ e)

-- the same where the first byte's lead is known
pub follows_lead : (b : ℕ) (s : List ℕ) (kind : Lead) → lead b ≡ kind → Shape (b ∷ s) → Follows kind b s
follows_lead b s kind is shape = subst (λ l. Follows l b s) is (follows (b ∷ s) shape b s refl)
