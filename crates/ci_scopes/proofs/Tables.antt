-- Lemmas on tables from names to numbers.
use Rattle.std.proofs.Common.{◌≡◌, ◌∙◌, ℕ, Bool, true, false, ◌&&◌, cond, List, [], ◌∷◌, ◌++◌, map, Option, Some, None, is_some, refl, sym, ap, true≢false}
use Rattle.std.specs.Prelude.{nat_eq}
use Rattle.std.proofs.lemmas.List.{map-append}
use Rattle.std.specs.Cmp.{nat_eq_equiv, first_so, second_so, unsigned_Decides}
use Rattle.std.specs.Cmp.Lexicographic.{options_equiv}
use Rattle.std.specs.Map.{lookup}
use Rattle.std.specs.Option.{option_or, option_eq}
use Rattle.std.specs.Str.{str_eq_ignore_ascii_case, str_to_ascii_lowercase, bytes_eq}
use Rattle.std.proofs.lemmas.Slice.Eq.{bytes_eq-Decides}
use Rattle.ci_scopes.specs.declared.table.Key.{Key}
use Rattle.indexmap.specs.IndexMap.{IndexMap, insert_entry}
use Rattle.indexmap.proofs.CallerLemmas.{insert_entry-new}
use Rattle.ci_scopes.specs.Table.{Noted, is_name, number_of, noted}

-- a name and number of a table, as contracts see them
abbrev pub seen : Key × ℕ → Noted
seen e = (e.0.file, e.0.name.bytes.now, e.1)

-- how the table compares
abbrev pub same : Key → Key → Bool
same x y = option_eq nat_eq x.file y.file && str_eq_ignore_ascii_case y.name.bytes.now x.name.bytes.now

-- a look-up in the table is one among what contracts see
pub lookup-seen : (es : List (Key × ℕ)) (k : Key) → lookup (same k) es ≡ number_of (map seen es) k.file k.name.bytes.now
lookup-seen [] k = refl
lookup-seen (e ∷ es) k = λ i.
    cond ((options_equiv nat_eq_equiv).symm k.file e.0.file i && str_eq_ignore_ascii_case e.0.name.bytes.now k.name.bytes.now) (Some e.1) (lookup-seen es k i)

none_from : {X : Type 0} (o : Option X) → is_some o ≡ false → o ≡ None
none_from None e = refl
none_from (Some x) e = absurd (true≢false e)

-- an insertion of a name that isn't there
pub seen-insert : {S : Type 0} (m : IndexMap Key ℕ S) (k : Key) (v : ℕ) (file : Option ℕ) (name : List ℕ) → k.file ≡ file → k.name.bytes.now ≡ name → is_some (number_of (map seen m.entries) file name) ≡ false →
    map seen (insert_entry same m.entries k v) ≡ noted (map seen m.entries) file name v
seen-insert m k v file name f e absent =
    let none : lookup (same k) m.entries ≡ None = lookup-seen m.entries k ∙ (λ i. number_of (map seen m.entries) (f i) (e i)) ∙ none_from (number_of (map seen m.entries) file name) absent in
    ap (map seen) (insert_entry-new same m k v none) ∙ map-append seen m.entries ((k, v) ∷ []) ∙ (λ i. map seen m.entries ++ (f i, e i, v) ∷ [])
    ∙ sym (ap (λ b. cond b (map seen m.entries) (map seen m.entries ++ (file, name, v) ∷ [])) absent)

-- names that differ in letter case alone have one number
number_of-lower : (es : List Noted) (file : Option ℕ) (name n : List ℕ) → str_to_ascii_lowercase name ≡ str_to_ascii_lowercase n → number_of es file name ≡ number_of es file n
number_of-lower [] file name n h = refl
number_of-lower (e ∷ es) file name n h = λ i. cond (option_eq nat_eq e.0 file && bytes_eq (str_to_ascii_lowercase e.1) (h i)) (Some e.2) (number_of-lower es file name n h i)

one_file : (f g : Option ℕ) → option_eq nat_eq f g ≡ true → f ≡ g
one_file None None h = refl
one_file None (Some b) h = absurd (true≢false (sym h))
one_file (Some a) None h = absurd (true≢false (sym h))
one_file (Some a) (Some b) h = ap Some ((unsigned_Decides a b).0 h)

-- one name has one number
number_of-same : (es : List Noted) (f g : Option ℕ) (name n : List ℕ) (k : ℕ) → is_name g n (f, name, k) ≡ true → number_of es f name ≡ number_of es g n
number_of-same es f g name n k h =
    ap (λ x. number_of es x name) (one_file f g (first_so (option_eq nat_eq f g) (str_eq_ignore_ascii_case name n) h))
    ∙ number_of-lower es g name n ((bytes_eq-Decides (str_to_ascii_lowercase name) (str_to_ascii_lowercase n)).0 (second_so (option_eq nat_eq f g) (str_eq_ignore_ascii_case name n) h))

number_of-append : (es : List Noted) (f g : Option ℕ) (name n : List ℕ) (k : ℕ) → number_of (es ++ (f, name, k) ∷ []) g n ≡ option_or (number_of es g n) (cond (is_name g n (f, name, k)) (Some k) None)
number_of-append [] f g name n k = refl
number_of-append (e ∷ es) f g name n k = by (number_of-append es f g name n k) (is_name g n e)
  where
    by : number_of (es ++ (f, name, k) ∷ []) g n ≡ option_or (number_of es g n) (cond (is_name g n (f, name, k)) (Some k) None) →
        (b : Bool) → cond b (Some e.2) (number_of (es ++ (f, name, k) ∷ []) g n) ≡ option_or (cond b (Some e.2) (number_of es g n)) (cond (is_name g n (f, name, k)) (Some k) None)
    by rest true = refl
    by rest false = rest

pub or_none : {X : Type 0} (o : Option X) → o ≡ option_or o None
or_none None = refl
or_none (Some x) = refl

pub or_some : {X : Type 0} (o p : Option X) → is_some o ≡ true → o ≡ option_or o p
or_some None p e = absurd (true≢false (sym e))
or_some (Some x) p e = refl

-- a look-up after a note
pub number_of-noted : (es : List Noted) (f g : Option ℕ) (name n : List ℕ) (k : ℕ) → number_of (noted es f name k) g n ≡ option_or (number_of es g n) (cond (is_name g n (f, name, k)) (Some k) None)
number_of-noted es f g name n k = by (is_some (number_of es f name)) refl
  where
    there : is_some (number_of es f name) ≡ true → (b : Bool) → is_name g n (f, name, k) ≡ b → number_of es g n ≡ option_or (number_of es g n) (cond b (Some k) None)
    there e false s = or_none (number_of es g n)
    there e true s = or_some (number_of es g n) (Some k) (ap is_some (sym (number_of-same es f g name n k s)) ∙ e)

    by : (b : Bool) → is_some (number_of es f name) ≡ b → number_of (cond b es (es ++ (f, name, k) ∷ [])) g n ≡ option_or (number_of es g n) (cond (is_name g n (f, name, k)) (Some k) None)
    by true e = there e (is_name g n (f, name, k)) refl
    by false e = number_of-append es f g name n k
