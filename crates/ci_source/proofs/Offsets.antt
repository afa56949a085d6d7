-- Where the faults of a source are told.
use Rattle.std.proofs.Common.{◌≡◌, ◌≢◌, ℕ, zero, suc, ◌+◌, ◌<◌, ◌≤◌, Bool, true, false, cond, List, [], ◌∷◌, length, Option, Some, None, refl, sym, ◌∙◌, ap, subst, arith}
use Rattle.std.specs.Prelude.{slice_get, option_map}
use Rattle.std.proofs.lemmas.List.{length-map}
use Rattle.ci_lexer.specs.declared.fault.LexFault.{LexFault}
use Rattle.ci_lexer.specs.declared.fault.LexFault.TheVariants as lex_faults
use Rattle.ci_lexer.specs.Faults as lexical
use Rattle.ci_lexer.specs.Faults.{lex_fault, FaultAt}
use Rattle.ci_expressions.specs.Gives.{kinds}
use Rattle.ci_source.specs.declared.fault.Fault.{Fault}
use Rattle.ci_source.specs.Sources.{lexical_fault, grammar_fault}
use Rattle.ci_source.proofs.Options.{some_clash, some_same}
use Rattle.ci_tree.specs.declared.token.Token.{Token}
use Rattle.ci_tree.specs.declared.token.TokenKind.{TokenKind}
use Rattle.ci_tree.specs.Refused.{Refusal, unexpected, unexpected_end, too_deep, Met, refused, deep, left, Stack, all_empty, from_met, refused_from, refused_at, meet}
use Rattle.ci_tree.specs.Tokens as reading
use Rattle.ci_tree.specs.Tokens.{Reads, tokens}

-- Refused tokens

-- the refused token is before this one
abbrev pub IsBefore : ℕ → Refusal → Type 0
IsBefore end (unexpected at) = at < end
IsBefore end unexpected_end = Unit {0}
IsBefore end (too_deep at) = at < end

met-before : (i end : ℕ) (behind : Stack → Option Refusal) (met : Met) (r : Refusal) → i < end → ((stack : Stack) → behind stack ≡ Some r → IsBefore end r) → from_met i behind met ≡ Some r → IsBefore end r
met-before i end behind refused r within rest is = let P : Refusal → Type 0 = IsBefore end in subst P (some_same (unexpected i) r is) within
met-before i end behind deep r within rest is = let P : Refusal → Type 0 = IsBefore end in subst P (some_same (too_deep i) r is) within
met-before i end behind (left stack) r within rest is = rest stack is

end-before : (i : ℕ) (b : Bool) (r : Refusal) → cond b None (Some unexpected_end) ≡ Some r → IsBefore i r
end-before i true r is = absurd (some_clash r is)
end-before i false r is = let P : Refusal → Type 0 = IsBefore i in subst P (some_same unexpected_end r is) tt

before-more : (a b : ℕ) (r : Refusal) → a ≡ b → IsBefore a r → IsBefore b r
before-more a b r same before = let P : ℕ → Type 0 = λ n. IsBefore n r in subst P same before

from-before : (i : ℕ) (ts : List TokenKind) (stack : Stack) (r : Refusal) → refused_from i ts stack ≡ Some r → IsBefore (i + length ts) r
from-before i [] stack r is = end-before (i + 0) (all_empty stack) r is
from-before i (t ∷ ts) stack r is =
    met-before i (i + length (t ∷ ts)) (λ behind. refused_from (suc i) ts behind) (meet t stack) r (omega arith)
    (λ behind e. before-more (suc i + length ts) (i + length (t ∷ ts)) r (omega arith) (from-before (suc i) ts behind r e)) is

-- a refused token is one of the tokens
pub refused-before : (ts : List Token) (r : Refusal) → refused_at (kinds ts) ≡ Some r → IsBefore (length ts) r
refused-before ts r is =
    before-more (0 + length (kinds ts)) (length ts) r (omega (arith, length-map ts (λ t. t.what)))
    (from-before 0 (kinds ts) ((Rattle.ci_tree.specs.Refused.items, Rattle.ci_tree.specs.Grammar.nesting) ∷ []) r is)

-- Offsets

-- each token lies within its source
pub reads-place : (size : ℕ) (s : List ℕ) (ts : List Token) (rest : List ℕ) → Reads size s ts rest → (i : ℕ) (t : Token) → slice_get ts i ≡ Some t → t.place ≤ size
reads-place size s ts rest (reading.here _ _ e) i t is = absurd (some_clash t is)
reads-place size s ts rest (reading.blank _ behind _ _ blank more) i t is = reads-place size behind ts rest more i t is
reads-place size s ts rest (reading.token _ behind u us _ at place more) zero t is =
    let same : u ≡ t = some_same u t is in
    let P : Token → Type 0 = λ v. v.place ≤ size in
    subst P same (omega (arith, place))
reads-place size s ts rest (reading.token _ behind u us _ at place more) (suc i) t is = reads-place size behind us rest more i t is

told-place : (size offset : ℕ) (fault told : Fault) (o : Option Token) → option_map {U = Fault × ℕ} (λ t. (told, t.place)) o ≡ Some (fault, offset) → ((t : Token) → o ≡ Some t → t.place ≤ size) → offset ≤ size
told-place size offset fault told None is within = absurd (some_clash (fault, offset) is)
told-place size offset fault told (Some t) is within =
    let place : t.place ≤ size = within t refl in
    let same : t.place ≡ offset = ap (λ p. p.1) (some_same (told, t.place) (fault, offset) is) in
    omega arith

-- a refused token is told within its source
pub grammar-within : (source : List ℕ) (ts : List Token) (r : Refusal) (fault : Fault) (offset : ℕ) → tokens source ts → grammar_fault source ts r ≡ Some (fault, offset) → offset ≤ length source
grammar-within source ts (unexpected i) fault offset reads is = told-place (length source) offset fault _ (slice_get ts i) is (reads-place (length source) _ ts [] reads i)
grammar-within source ts unexpected_end fault offset reads is = let same : length source ≡ offset = ap (λ p. p.1) (some_same _ (fault, offset) is) in omega arith
grammar-within source ts (too_deep i) fault offset reads is = told-place (length source) offset fault _ (slice_get ts i) is (reads-place (length source) _ ts [] reads i)

-- where a lexical fault is told
abbrev pub offset_of : LexFault → ℕ
offset_of (lex_faults.StrayByte at) = at
offset_of (lex_faults.OpenString at) = at
offset_of (lex_faults.OpenComment at) = at
offset_of (lex_faults.BadEscape at) = at
offset_of (lex_faults.NumberTooLarge at) = at
offset_of (lex_faults.TextTooLong at) = at
offset_of (lex_faults.NameTooLong at) = at
offset_of lex_faults.Memory = 0

fault-within : (size : ℕ) (s : List ℕ) (f : LexFault) → FaultAt size s f → offset_of f ≤ size
fault-within size s f (lexical.stray _ at b rest e place none) = omega (arith, place)
fault-within size s f (lexical.run_on _ at value spelled b rest e place spells number whole letter) = omega (arith, place)
fault-within size s f (lexical.number_too_large _ at spelled rest e place number whole limit) = omega (arith, place)
fault-within size s f (lexical.name_too_long _ at spelled rest e place name whole limit) = omega (arith, place)
fault-within size s f (lexical.too_many_hashes _ at spelled rest e place hashes whole limit) = omega (arith, place)
fault-within size s f (lexical.open_comment _ at place is_open) = omega (arith, place)
fault-within size s f (lexical.bad_escape _ at items value rest e place are short none) = omega (arith, place)
fault-within size s f (lexical.text_too_long _ at items value rest e place are long) = omega (arith, place)
fault-within size s f (lexical.open_string _ at items value rest e place are short stops) = omega (arith, place)

told-offset : (f : LexFault) (fault : Fault) (offset : ℕ) → lexical_fault f ≡ Some (fault, offset) → offset_of f ≡ offset
told-offset (lex_faults.StrayByte at) fault offset is = ap (λ p. p.1) (some_same _ (fault, offset) is)
told-offset (lex_faults.OpenString at) fault offset is = ap (λ p. p.1) (some_same _ (fault, offset) is)
told-offset (lex_faults.OpenComment at) fault offset is = ap (λ p. p.1) (some_same _ (fault, offset) is)
told-offset (lex_faults.BadEscape at) fault offset is = ap (λ p. p.1) (some_same _ (fault, offset) is)
told-offset (lex_faults.NumberTooLarge at) fault offset is = ap (λ p. p.1) (some_same _ (fault, offset) is)
told-offset (lex_faults.TextTooLong at) fault offset is = ap (λ p. p.1) (some_same _ (fault, offset) is)
told-offset (lex_faults.NameTooLong at) fault offset is = ap (λ p. p.1) (some_same _ (fault, offset) is)
told-offset lex_faults.Memory fault offset is = absurd (some_clash (fault, offset) is)

-- a lexical fault is told within its source
pub lexical-within : (source : List ℕ) (f : LexFault) (fault : Fault) (offset : ℕ) → lex_fault source f → lexical_fault f ≡ Some (fault, offset) → offset ≤ length source
lexical-within source f fault offset (ts, rest, reads, at) told = omega (arith, fault-within (length source) rest f at, told-offset f fault offset told)

-- a fault that is told isn't want of memory
pub told-no_memory : (f : LexFault) (fault : Fault) (offset : ℕ) → lexical_fault f ≡ Some (fault, offset) → f ≢ lex_faults.Memory
told-no_memory f fault offset told same = some_clash (fault, offset) (sym (ap lexical_fault same) ∙ told)
