-- Looking for a section, counting it, and putting a new one at its place.
use Rattle.std.proofs.Common.{◌≡◌, ◌<◌, ℕ, zero, suc, Bool, cond, List, [], ◌∷◌, length, Some, None, refl, sym, ap, ◌∙◌, get_or}
use Rattle.std.specs.Prelude.{slice_get, slice_set}
use Rattle.std.specs.List.{insert, position_from}
use Rattle.std.proofs.lemmas.Option.{slice_get-get_or}
use Rattle.ci_shared.specs.declared.object.Section.{Section}
use Rattle.ci_shared.specs.Sections.{section_of, with_held, with_section}
use Rattle.ci_shared.specs.Words.{comes_first, same_text}
use Rattle.ci_shared.proofs.First.{FirstAt, Nowhere, first_at, nowhere}

abbrev pub named : List ℕ → Section → Bool
named name x = same_text x.name name

-- where one stands, as the code finds it
pub stands : (p : Section → Bool) (found xs : List Section) (i : ℕ) → found ≡ xs → Some i ≡ position_from p 0 found → FirstAt p xs i
stands p found xs i same at = first_at p xs i (ap (λ (l : List Section). position_from p 0 l) (sym same) ∙ sym at)

pub stands_nowhere : (p : Section → Bool) (found xs : List Section) → found ≡ xs → None ≡ position_from p 0 found → Nowhere p xs
stands_nowhere p found xs same at = nowhere p 0 xs (ap (λ (l : List Section). position_from p 0 l) (sym same) ∙ sym at)

pub got_in : (inside xs : List Section) (i : ℕ) (x : Section) → inside ≡ xs → i < length inside → x ≡ get_or inside i x → slice_get xs i ≡ Some x
got_in inside xs i x same lt is = ap (λ (l : List Section). slice_get l i) (sym same) ∙ slice_get-get_or inside i x lt ∙ ap (λ (z : Section). Some z) (sym is)

pub section_here : (name : List ℕ) (xs : List Section) (i : ℕ) (x : Section) → FirstAt (named name) xs i → slice_get xs i ≡ Some x → section_of name xs ≡ Some x
section_here name [] i x f g = absurd f
section_here name (y ∷ ys) zero x f g = ap (λ (b : Bool). cond b (Some y) (section_of name ys)) f ∙ g
section_here name (y ∷ ys) (suc i) x f g = ap (λ (b : Bool). cond b (Some y) (section_of name ys)) f.0 ∙ section_here name ys i x f.1 g

pub section_nowhere : (name : List ℕ) (xs : List Section) → Nowhere (named name) xs → section_of name xs ≡ None
section_nowhere name [] n = refl
section_nowhere name (y ∷ ys) n = ap (λ (b : Bool). cond b (Some y) (section_of name ys)) n.0 ∙ section_nowhere name ys n.1

pub held_here : (name : List ℕ) (k : ℕ) (xs : List Section) (i : ℕ) (x : Section) → FirstAt (named name) xs i → slice_get xs i ≡ Some x → slice_set xs i (record x { count = k }) ≡ with_held name k xs
held_here name k [] i x f g = absurd f
held_here name k (y ∷ ys) zero x f g =
    let same : y ≡ x = cc g in
    ap (λ (z : Section). record z { count = k } ∷ ys) (sym same) ∙ sym (ap (λ (b : Bool). cond b (record y { count = k } ∷ ys) (y ∷ with_held name k ys)) f)
held_here name k (y ∷ ys) (suc i) x f g =
    ap (λ (l : List Section). y ∷ l) (held_here name k ys i x f.1 g) ∙ sym (ap (λ (b : Bool). cond b (record y { count = k } ∷ ys) (y ∷ with_held name k ys)) f.0)

pub held_nowhere : (name : List ℕ) (k : ℕ) (xs : List Section) → Nowhere (named name) xs → xs ≡ with_held name k xs
held_nowhere name k [] n = refl
held_nowhere name k (y ∷ ys) n = ap (λ (l : List Section). y ∷ l) (held_nowhere name k ys n.1) ∙ sym (ap (λ (b : Bool). cond b (record y { count = k } ∷ ys) (y ∷ with_held name k ys)) n.0)

-- a new one
abbrev pub later : List ℕ → Section → Bool
later name x = comes_first name x.name

pub put_here : (y : Section) (xs : List Section) (i : ℕ) → FirstAt (later y.name) xs i → insert xs i y ≡ with_section y xs
put_here y [] i f = absurd f
put_here y (x ∷ xs) zero f = sym (ap (λ (b : Bool). cond b (y ∷ x ∷ xs) (x ∷ with_section y xs)) f)
put_here y (x ∷ xs) (suc i) f = ap (λ (l : List Section). x ∷ l) (put_here y xs i f.1) ∙ sym (ap (λ (b : Bool). cond b (y ∷ x ∷ xs) (x ∷ with_section y xs)) f.0)

pub put_last : (y : Section) (xs : List Section) (i : ℕ) → i ≡ length xs → Nowhere (later y.name) xs → insert xs i y ≡ with_section y xs
put_last y xs i e n = ap (λ (k : ℕ). insert xs k y) e ∙ ends xs n
  where
    ends : (zs : List Section) → Nowhere (later y.name) zs → insert zs (length zs) y ≡ with_section y zs
    ends [] m = refl
    ends (z ∷ zs) m = ap (λ (l : List Section). z ∷ l) (ends zs m.1) ∙ sym (ap (λ (b : Bool). cond b (y ∷ z ∷ zs) (z ∷ with_section y zs)) m.0)
