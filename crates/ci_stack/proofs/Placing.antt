-- Values in words and texts.
use Rattle.std.proofs.Common.{◌≡◌, ◌==◌, ℕ, zero, suc, ◌<◌, ◌≤◌, inl, inr, ℤ, pos, negsuc, cond, Bool, true, false, List, [], ◌∷◌, ◌++◌, length, replicate, set, get_or, Some, refl, sym, ap, ◌∙◌, subst, arith}
use Rattle.std.proofs.Common.{w32, w64, to_z, of_z, SFits}
use Rattle.std.proofs.Math.Facts.{to_z-of_z, sfits_lit}
use Rattle.std.specs.Prelude.{All, slice_get}
use Rattle.std.specs.Int.Signed.{mag}
use Rattle.std.proofs.lemmas.List.Elements.{All-get_or}
use Rattle.std.proofs.lemmas.Option.{slice_get_within}
use Rattle.ci_base.specs.declared.value.Value.{Value}
use Rattle.ci_base.specs.declared.value.Value.TheVariants.{Int, Str}
use Rattle.ci_stack.specs.Places.{text_word, held, values, IsWord, IsNumberAt, IsTextAt}

pub length-values : (words : List ℤ) (texts : List (List ℕ)) → length (values words texts) ≡ length words
length-values [] texts = refl
length-values (w ∷ words) [] = ap suc (length-values words [])
length-values (w ∷ words) (t ∷ texts) = ap suc (length-values words texts)

-- an INT is its own word
pub held_number : (z : ℤ) (text : List ℕ) → mag z < 2147483648 → held z text ≡ Int z
held_number (pos n) text small = by (n == text_word) refl
  where
    by : (b : Bool) → n == text_word ≡ b → cond b (Str text) (Int (pos n)) ≡ Int (pos n)
    by true e = absurd (grind (arith, e))
    by false e = refl
held_number (negsuc n) text small = refl

pub values_number : (words : List ℤ) (texts : List (List ℕ)) (i : ℕ) (z : ℤ) → mag z < 2147483648 → values (set words i z) texts ≡ set (values words texts) i (Int z)
values_number [] texts i z small = refl
values_number (w ∷ words) [] zero z small = ap (λ v. v ∷ values words []) (held_number z [] small)
values_number (w ∷ words) [] (suc i) z small = ap (λ vs. held w [] ∷ vs) (values_number words [] i z small)
values_number (w ∷ words) (t ∷ texts) zero z small = ap (λ v. v ∷ values words texts) (held_number z t small)
values_number (w ∷ words) (t ∷ texts) (suc i) z small = ap (λ vs. held w t ∷ vs) (values_number words texts i z small)

pub values_text : (words : List ℤ) (texts : List (List ℕ)) (i : ℕ) (s : List ℕ) → i < length texts → values (set words i (pos text_word)) (set texts i s) ≡ set (values words texts) i (Str s)
values_text [] texts i s within = refl
values_text (w ∷ words) [] i s within = absurd (omega arith)
values_text (w ∷ words) (t ∷ texts) zero s within = refl
values_text (w ∷ words) (t ∷ texts) (suc i) s within = ap (λ vs. held w t ∷ vs) (values_text words texts i s (omega arith))

-- a text may change where a number stands
pub values_longer : (words : List ℤ) (texts : List (List ℕ)) (n : ℕ) → values words (texts ++ replicate n []) ≡ values words texts
values_longer [] texts n = refl
values_longer (w ∷ words) [] zero = refl
values_longer (w ∷ words) [] (suc n) = ap (λ vs. held w [] ∷ vs) (values_longer words [] n)
values_longer (w ∷ words) (t ∷ texts) n = ap (λ vs. held w t ∷ vs) (values_longer words texts n)

pub values_at : (words : List ℤ) (texts : List (List ℕ)) (i : ℕ) (w : ℤ) → i < length words → slice_get (values words texts) i ≡ Some (held (get_or words i w) (get_or texts i []))
values_at [] texts i w within = absurd (omega arith)
values_at (v ∷ words) [] zero w within = refl
values_at (v ∷ words) [] (suc i) w within = values_at words [] i w (omega arith)
values_at (v ∷ words) (t ∷ texts) zero w within = refl
values_at (v ∷ words) (t ∷ texts) (suc i) w within = values_at words texts i w (omega arith)

-- a number of 32 bits, written and read
pub trip : (z : ℤ) → mag z < 2147483648 → to_z w32 (of_z w32 z) ≡ z
trip z h = to_z-of_z {w = w32} {z = z} (record { sfits = h })

pub trip_wide : (z : ℤ) → mag z < 9223372036854775808 → to_z w64 (of_z w64 z) ≡ z
trip_wide z h = to_z-of_z {w = w64} {z = z} (record { sfits = h })

-- The table's view is the stack's: what the words say of it.

pub within_words : (words : List ℤ) (texts : List (List ℕ)) (stack : List Value) (p : ℕ) → values words texts ≡ stack → p < length stack → p < length words
within_words words texts stack p e h = omega (arith, ap length e, length-values words texts)

pub at_place : (words : List ℤ) (texts : List (List ℕ)) (stack : List Value) (p : ℕ) (w : ℤ) → values words texts ≡ stack → p < length stack → w ≡ get_or words p w → slice_get stack p ≡ Some (held w (get_or texts p []))
at_place words texts stack p w e h is =
    sym (ap (λ (l : List Value). slice_get l p) e) ∙ values_at words texts p w (within_words words texts stack p e h) ∙ ap (λ (v : ℤ). Some (held v (get_or texts p []))) (sym is)

pub word_at : (words : List ℤ) (texts : List (List ℕ)) (stack : List Value) (p : ℕ) (w : ℤ) → All IsWord words → values words texts ≡ stack → p < length stack → w ≡ get_or words p w → IsWord w
word_at words texts stack p w all e h is = subst IsWord (sym is) (All-get_or IsWord words p w (within_words words texts stack p e h) all)

number_of : (w n : ℤ) (t : List ℕ) → IsWord w → held w t ≡ Int n → (mag w < 2147483648) × (w ≡ n)
number_of w n t (inl m) h =
    let other : Str t ≡ Int n = subst (λ (v : ℤ). held v t ≡ Int n) m h in
    absurd (cc other)
number_of w n t (inr small) h =
    let same : Int w ≡ Int n = sym (held_number w t small) ∙ h in
    (small, cc same)

text_of : (w : ℤ) (s t : List ℕ) → IsWord w → held w t ≡ Str s → t ≡ s
text_of w s t (inl m) h =
    let same : Str t ≡ Str s = subst (λ (v : ℤ). held v t ≡ Str s) m h in
    cc same
text_of w s t (inr small) h =
    let other : Int w ≡ Str s = sym (held_number w t small) ∙ h in
    absurd (cc other)

pub number_word : (words : List ℤ) (texts : List (List ℕ)) (stack : List Value) (p : ℕ) (w n : ℤ) → All IsWord words → values words texts ≡ stack → slice_get stack p ≡ Some (Int n) → w ≡ get_or words p w → (mag w < 2147483648) × (w ≡ n)
number_word words texts stack p w n all e f is =
    let h : p < length stack = slice_get_within stack p (Int n) f in
    number_of w n (get_or texts p []) (word_at words texts stack p w all e h is)
    (some_same (held w (get_or texts p [])) (Int n) (sym (at_place words texts stack p w e h is) ∙ f))
  where
    some_same : (u v : Value) → Some u ≡ Some v → u ≡ v
    some_same u v h = cc h

pub text_there : (words : List ℤ) (texts : List (List ℕ)) (stack : List Value) (p : ℕ) (s : List ℕ) → All IsWord words → values words texts ≡ stack → slice_get stack p ≡ Some (Str s) → get_or texts p [] ≡ s
text_there words texts stack p s all e f =
    let h : p < length stack = slice_get_within stack p (Str s) f in
    let w : ℤ = get_or words p (pos 0) in
    let is : w ≡ get_or words p w = same_or words p (pos 0) w (within_words words texts stack p e h) in
    text_of w s (get_or texts p []) (word_at words texts stack p w all e h is)
    (some_same (held w (get_or texts p [])) (Str s) (sym (at_place words texts stack p w e h is) ∙ f))
  where
    some_same : (u v : Value) → Some u ≡ Some v → u ≡ v
    some_same u v h = cc h

    same_or : (xs : List ℤ) (i : ℕ) (d e : ℤ) → i < length xs → get_or xs i d ≡ get_or xs i e
    same_or [] i d e h = absurd (omega arith)
    same_or (x ∷ xs) zero d e h = refl
    same_or (x ∷ xs) (suc i) d e h = same_or xs i d e (omega arith)

pub same_text : (texts : List (List ℕ)) (i : ℕ) (d e : List ℕ) → i < length texts → get_or texts i d ≡ get_or texts i e
same_text [] i d e h = absurd (omega arith)
same_text (x ∷ xs) zero d e h = refl
same_text (x ∷ xs) (suc i) d e h = same_text xs i d e (omega arith)

pub no_text : (texts : List (List ℕ)) (i : ℕ) → length texts ≤ i → get_or texts i [] ≡ []
no_text [] i h = refl
no_text (x ∷ xs) zero h = absurd (omega arith)
no_text (x ∷ xs) (suc i) h = no_text xs i (omega arith)

-- the kind at a place is that of its word
pub is_text_there : (words : List ℤ) (texts : List (List ℕ)) (stack : List Value) (p : ℕ) (w : ℤ) → values words texts ≡ stack → p < length stack → w ≡ get_or words p w → w ≡ pos text_word → IsTextAt stack p
is_text_there words texts stack p w e h is mark = (get_or texts p [], at_place words texts stack p w e h is ∙ ap (λ (v : ℤ). Some (held v (get_or texts p []))) mark)

pub is_number_there : (words : List ℤ) (texts : List (List ℕ)) (stack : List Value) (p : ℕ) (w : ℤ) → All IsWord words → values words texts ≡ stack → p < length stack → w ≡ get_or words p w → (w ≡ pos text_word → ⊥) → IsNumberAt stack p
is_number_there words texts stack p w all e h is other = by (word_at words texts stack p w all e h is)
  where
    by : IsWord w → IsNumberAt stack p
    by (inl m) = absurd (other m)
    by (inr small) = (w, at_place words texts stack p w e h is ∙ ap (λ (v : Value). Some v) (held_number w (get_or texts p []) small))

-- what is written
pub wrote_number : (words : List ℤ) (texts : List (List ℕ)) (stack : List Value) (p : ℕ) (n : ℤ) → values words texts ≡ stack → mag n < 2147483648 → values (set words p (to_z w64 (of_z w64 (to_z w32 (of_z w32 n))))) texts ≡ set stack p (Int n)
wrote_number words texts stack p n e small =
    let same : to_z w64 (of_z w64 (to_z w32 (of_z w32 n))) ≡ n = ap (λ (z : ℤ). to_z w64 (of_z w64 z)) (trip n small) ∙ trip_wide n (omega arith) in
    ap (λ (z : ℤ). values (set words p z) texts) same ∙ values_number words texts p n small ∙ ap (λ (l : List Value). set l p (Int n)) e

pub wrote_text : (words : List ℤ) (texts after : List (List ℕ)) (stack : List Value) (p : ℕ) (s bytes : List ℕ) → values words texts ≡ stack → values words after ≡ values words texts → p < length after → s ≡ bytes → values (set words p (pos text_word)) (set after p s) ≡ set stack p (Str bytes)
wrote_text words texts after stack p s bytes e more within is =
    values_text words after p s within ∙ ap (λ (l : List Value). set l p (Str s)) (more ∙ e) ∙ ap (λ (t : List ℕ). set stack p (Str t)) is

-- a word that is no mark is copied with its number
pub wrote_word : (words : List ℤ) (texts : List (List ℕ)) (stack : List Value) (from to : ℕ) (w : ℤ) (v : Value) → All IsWord words → values words texts ≡ stack → w ≡ get_or words from w → (w ≡ pos text_word → ⊥) → slice_get stack from ≡ Some v → values (set words to w) texts ≡ set stack to v
wrote_word words texts stack from to w v all e is other f =
    let h : from < length stack = slice_get_within stack from v f in
    let n = is_number_there words texts stack from w all e h is other in
    let found = number_word words texts stack from w n.0 all e n.1 is in
    let same : v ≡ Int w = some_same v (Int w) (sym f ∙ n.1 ∙ ap (λ (z : ℤ). Some (Int z)) (sym found.1)) in
    values_number words texts to w found.0 ∙ ap (λ (l : List Value). set l to (Int w)) e ∙ ap (λ (u : Value). set stack to u) (sym same)
  where
    some_same : (u v : Value) → Some u ≡ Some v → u ≡ v
    some_same u v h = cc h

-- the test for the mark
pub fits_word : (w : ℤ) → IsWord w → SFits w64 w
fits_word w (inl m) = subst (λ (z : ℤ). SFits w64 z) (sym m) (sfits_lit tt)
fits_word w (inr small) = record { sfits = omega arith }

pub marked : (w : ℤ) → IsWord w → of_z w64 w ≡ text_word → w ≡ pos text_word
marked w is e = sym (to_z-of_z {w = w64} {z = w} (fits_word w is)) ∙ ap (λ (n : ℕ). to_z w64 n) e

pub unmarked : (w : ℤ) → (of_z w64 w ≡ text_word → ⊥) → w ≡ pos text_word → ⊥
unmarked w other m = other (ap (λ (z : ℤ). of_z w64 z) m)

pub is_word_copied : (words : List ℤ) (texts : List (List ℕ)) (stack : List Value) (from : ℕ) (w : ℤ) → All IsWord words → values words texts ≡ stack → from < length stack → w ≡ get_or words from w → IsWord (to_z w64 (of_z w64 w))
is_word_copied words texts stack from w all e h is =
    let here : IsWord w = word_at words texts stack from w all e h is in
    subst IsWord (sym (to_z-of_z {w = w64} {z = w} (fits_word w here))) here

pub copied_word : (words : List ℤ) (texts : List (List ℕ)) (stack : List Value) (from to : ℕ) (w : ℤ) (v : Value) → All IsWord words → values words texts ≡ stack → w ≡ get_or words from w → (of_z w64 w ≡ text_word → ⊥) → slice_get stack from ≡ Some v → values (set words to (to_z w64 (of_z w64 w))) texts ≡ set stack to v
copied_word words texts stack from to w v all e is other f =
    let here : IsWord w = word_at words texts stack from w all e (slice_get_within stack from v f) is in
    ap (λ (z : ℤ). values (set words to z) texts) (to_z-of_z {w = w64} {z = w} (fits_word w here))
    ∙ wrote_word words texts stack from to w v all e is (unmarked w other) f

-- the text there is the one that is copied
pub copied_text : (stack new : List Value) (from to : ℕ) (v : Value) → IsTextAt stack from → ((s : List ℕ) → slice_get stack from ≡ Some (Str s) → new ≡ set stack to (Str s)) → slice_get stack from ≡ Some v → new ≡ set stack to v
copied_text stack new from to v is did f =
    let same : v ≡ Str is.0 = some_same v (Str is.0) (sym f ∙ is.1) in
    did is.0 is.1 ∙ ap (λ (u : Value). set stack to u) (sym same)
  where
    some_same : (u v : Value) → Some u ≡ Some v → u ≡ v
    some_same u v h = cc h

-- a text that changes where it stands
mark_of : (w : ℤ) (s t : List ℕ) → IsWord w → held w t ≡ Str s → w ≡ pos text_word
mark_of w s t (inl m) h = m
mark_of w s t (inr small) h =
    let other : Int w ≡ Str s = sym (held_number w t small) ∙ h in
    absurd (cc other)

pub mark_there : (words : List ℤ) (texts : List (List ℕ)) (stack : List Value) (p : ℕ) (s : List ℕ) → All IsWord words → values words texts ≡ stack → slice_get stack p ≡ Some (Str s) → get_or words p (pos 0) ≡ pos text_word
mark_there words texts stack p s all e f =
    let h : p < length stack = slice_get_within stack p (Str s) f in
    let w : ℤ = get_or words p (pos 0) in
    let here : slice_get stack p ≡ Some (held w (get_or texts p [])) = sym (ap (λ (l : List Value). slice_get l p) e) ∙ values_at words texts p (pos 0) (within_words words texts stack p e h) in
    mark_of w s (get_or texts p []) (All-get_or IsWord words p (pos 0) (within_words words texts stack p e h) all) (some_same (held w (get_or texts p [])) (Str s) (sym here ∙ f))
  where
    some_same : (u v : Value) → Some u ≡ Some v → u ≡ v
    some_same u v h = cc h

pub changed_text : (words : List ℤ) (texts : List (List ℕ)) (stack : List Value) (p : ℕ) (s part : List ℕ) → All IsWord words → values words texts ≡ stack → slice_get stack p ≡ Some (Str s) → p < length texts → values words (set texts p part) ≡ set stack p (Str part)
changed_text words texts stack p s part all e f within =
    ap (λ (l : List ℤ). values l (set texts p part)) (sym (set_same words p (pos 0) (pos text_word) (mark_there words texts stack p s all e f)))
    ∙ values_text words texts p part within
    ∙ ap (λ (l : List Value). set l p (Str part)) e
  where
    set_same : (xs : List ℤ) (i : ℕ) (d v : ℤ) → get_or xs i d ≡ v → set xs i v ≡ xs
    set_same [] i d v m = refl
    set_same (x ∷ xs) zero d v m = ap (λ (y : ℤ). y ∷ xs) (sym m)
    set_same (x ∷ xs) (suc i) d v m = ap (λ (l : List ℤ). x ∷ l) (set_same xs i d v m)

pub same_set : (stack : List Value) (p : ℕ) (v : Value) → slice_get stack p ≡ Some v → set stack p v ≡ stack
same_set [] p v h = refl
same_set (u ∷ stack) zero v h =
    let same : u ≡ v = cc h in
    ap (λ (w : Value). w ∷ stack) (sym same)
same_set (u ∷ stack) (suc p) v h = ap (λ (l : List Value). u ∷ l) (same_set stack p v h)
