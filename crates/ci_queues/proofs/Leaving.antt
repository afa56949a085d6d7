-- How an element or a queue leaves the two lists.
use Rattle.std.proofs.Common.{◌≡◌, ◌≢◌, ◌≤◌, ℕ, zero, suc, ℤ, Bool, true, false, cond, List, [], ◌∷◌, length, Some, None, refl, sym, ap, ap₂, ◌∙◌, subst, arith, true≢false}
use Rattle.std.specs.Prelude.{◌||◌, not, filter, slice_get}
use Rattle.std.specs.List.{position_from, remove}
use Rattle.std.specs.Ordering.{int_eq}
use Rattle.std.proofs.lemmas.Bool.Decides.{Decides-int_eq}
use Rattle.ci_base.specs.declared.bounds.TheConstants.{MOST_ELEMENTS}
use Rattle.ci_shared.specs.declared.object.Item.{Item}
use Rattle.ci_shared.specs.Queues.{Queue, no_queue}
use Rattle.ci_shared.proofs.First.{FirstAt, Nowhere, first_at, nowhere}
use Rattle.ci_queues.specs.declared.held.Element.{Element}
use Rattle.ci_queues.specs.declared.held.Head.{Head}
use Rattle.ci_queues.specs.Fronts.{TakesFront, items_in}
use Rattle.ci_queues.specs.Held.{AreApart, AreHeld, IsSound, has_number, items_of, queues_of}
use Rattle.ci_queues.proofs.Keeping.{apart_ints, changed, items_found, other_int, queue_with, same_elsewhere}

-- the front element
front_items : (h : ℤ) (es : List Element) (i : ℕ) (e : Element) → FirstAt (λ (y : Element). int_eq y.queue h) es i → slice_get es i ≡ Some e → items_of h es ≡ e.item ∷ items_of h (remove es i)
front_items h [] i e f g = absurd f
front_items h (y ∷ es) zero e f g =
    let same : y ≡ e = cc g in
    ap (λ (b : Bool). cond b (y.item ∷ items_of h es) (items_of h es)) f ∙ ap (λ (z : Element). z.item ∷ items_of h es) same
front_items h (y ∷ es) (suc i) e f g =
    ap (λ (b : Bool). cond b (y.item ∷ items_of h es) (items_of h es)) f.0 ∙ front_items h es i e f.1 g
    ∙ sym (ap (λ (b : Bool). e.item ∷ cond b (y.item ∷ items_of h (remove es i)) (items_of h (remove es i))) f.0)

other_items : (h k : ℤ) (es : List Element) (i : ℕ) → FirstAt (λ (y : Element). int_eq y.queue h) es i → k ≢ h → items_of k (remove es i) ≡ items_of k es
other_items h k [] i f n = absurd f
other_items h k (y ∷ es) zero f n = sym (ap (λ (b : Bool). cond b (y.item ∷ items_of k es) (items_of k es)) (other_int y.queue k (λ z. n (sym z ∙ (Decides-int_eq y.queue h).0 f))))
other_items h k (y ∷ es) (suc i) f n = ap (λ (l : List Item). cond (int_eq y.queue k) (y.item ∷ l) l) (other_items h k es i f.1 n)

nothing_of : (h : ℤ) (es : List Element) → Nowhere (λ (y : Element). int_eq y.queue h) es → items_of h es ≡ []
nothing_of h [] n = refl
nothing_of h (y ∷ es) n = ap (λ (b : Bool). cond b (y.item ∷ items_of h es) (items_of h es)) n.0 ∙ nothing_of h es n.1

pub taken_view : (h : ℤ) (xs : List Head) (es : List Element) (i : ℕ) (e : Element) → AreApart xs → AreHeld xs es → FirstAt (λ (y : Element). int_eq y.queue h) es i → slice_get es i ≡ Some e →
    TakesFront h (items_in h (queues_of xs es)) (queues_of xs es) (Some e.item) (queues_of xs (remove es i))
taken_view h xs es i e a held f g =
    subst (λ (l : List Item). TakesFront h l (queues_of xs es) (Some e.item) (queues_of xs (remove es i))) (sym (items_found h xs es held ∙ front_items h es i e f g))
    (refl, changed h xs es (remove es i) a (λ k n. other_items h k es i f n))

pub untaken_view : (h : ℤ) (xs : List Head) (es : List Element) → AreHeld xs es → Nowhere (λ (y : Element). int_eq y.queue h) es → TakesFront h (items_in h (queues_of xs es)) (queues_of xs es) None (queues_of xs es)
untaken_view h xs es held n = subst (λ (l : List Item). TakesFront h l (queues_of xs es) None (queues_of xs es)) (sym (items_found h xs es held ∙ nothing_of h es n)) refl

pub held_rest : (xs : List Head) (es : List Element) (i : ℕ) → AreHeld xs es → AreHeld xs (remove es i)
held_rest xs [] zero a = tt
held_rest xs [] (suc i) a = tt
held_rest xs (e ∷ es) zero a = a.1
held_rest xs (e ∷ es) (suc i) a = (a.0, held_rest xs es i a.1)

-- a queue with its elements
abbrev pub other_heads : ℤ → List Head → List Head
other_heads h xs = filter (λ (x : Head). not (int_eq x.number h)) xs

abbrev pub other_elements : ℤ → List Element → List Element
other_elements h es = filter (λ (e : Element). not (int_eq e.queue h)) es

kept_items : (h k : ℤ) (es : List Element) → k ≢ h → items_of k (other_elements h es) ≡ items_of k es
kept_items h k [] n = refl
kept_items h k (e ∷ es) n = by (int_eq e.queue h) refl (kept_items h k es n)
  where
    by : (b : Bool) → int_eq e.queue h ≡ b → items_of k (other_elements h es) ≡ items_of k es → items_of k (cond (not b) (e ∷ other_elements h es) (other_elements h es)) ≡ cond (int_eq e.queue k) (e.item ∷ items_of k es) (items_of k es)
    by true s more = more ∙ sym (ap (λ (b : Bool). cond b (e.item ∷ items_of k es) (items_of k es)) (other_int e.queue k (λ z. n (sym z ∙ (Decides-int_eq e.queue h).0 s))))
    by false s more = ap (λ (l : List Item). cond (int_eq e.queue k) (e.item ∷ l) l) more

neither : (a b : Bool) → (a || b) ≡ false → (a ≡ false) × (b ≡ false)
neither true b e = absurd (true≢false e)
neither false b e = (refl, e)

all_other : (h : ℤ) (xs : List Head) → has_number h xs ≡ false → other_heads h xs ≡ xs
all_other h [] f = refl
all_other h (x ∷ xs) f =
    let n = neither (int_eq x.number h) (has_number h xs) f in
    ap (λ (b : Bool). cond (not b) (x ∷ other_heads h xs) (other_heads h xs)) n.0 ∙ ap (λ (l : List Head). x ∷ l) (all_other h xs n.1)

gone_from : (h : ℤ) (xs : List Head) (es es' : List Element) → AreApart xs → ((k : ℤ) → k ≢ h → items_of k es' ≡ items_of k es) → queues_of (other_heads h xs) es' ≡ no_queue h (queues_of xs es)
gone_from h [] es es' a o = refl
gone_from h (x ∷ xs) es es' a o = by (int_eq x.number h) refl (gone_from h xs es es' a.1 o)
  where
    by : (b : Bool) → int_eq x.number h ≡ b → queues_of (other_heads h xs) es' ≡ no_queue h (queues_of xs es) →
        queues_of (cond (not b) (x ∷ other_heads h xs) (other_heads h xs)) es' ≡ cond b (queues_of xs es) (queue_with x (items_of x.number es) ∷ no_queue h (queues_of xs es))
    by true s more =
        let same : x.number ≡ h = (Decides-int_eq x.number h).0 s in
        let none : has_number h xs ≡ false = ap (λ (n : ℤ). has_number n xs) (sym same) ∙ a.0 in
        ap (λ (l : List Head). queues_of l es') (all_other h xs none)
        ∙ same_elsewhere xs es es' (λ k i. o k (λ z. true≢false (sym i ∙ ap (λ (n : ℤ). has_number n xs) z ∙ none)))
    by false s more = ap₂ (λ (l : List Item) (r : List Queue). queue_with x l ∷ r) (o x.number (apart_ints x.number h s)) more

pub gone_view : (h : ℤ) (xs : List Head) (es : List Element) → AreApart xs → queues_of (other_heads h xs) (other_elements h es) ≡ no_queue h (queues_of xs es)
gone_view h xs es a = gone_from h xs es (other_elements h es) a (λ k n. kept_items h k es n)

-- the numbers that are left
fewer : (h k : ℤ) (xs : List Head) → has_number k xs ≡ false → has_number k (other_heads h xs) ≡ false
fewer h k [] f = refl
fewer h k (x ∷ xs) f = by (int_eq x.number h) (neither (int_eq x.number k) (has_number k xs) f) (λ i. fewer h k xs i)
  where
    by : (b : Bool) → (int_eq x.number k ≡ false) × (has_number k xs ≡ false) → (has_number k xs ≡ false → has_number k (other_heads h xs) ≡ false) → has_number k (cond (not b) (x ∷ other_heads h xs) (other_heads h xs)) ≡ false
    by true n more = more n.1
    by false n more = ap₂ (λ (c d : Bool). c || d) n.0 (more n.1)

pub apart_kept : (h : ℤ) (xs : List Head) → AreApart xs → AreApart (other_heads h xs)
apart_kept h [] a = tt
apart_kept h (x ∷ xs) a = by (int_eq x.number h) (apart_kept h xs a.1)
  where
    by : (b : Bool) → AreApart (other_heads h xs) → AreApart (cond (not b) (x ∷ other_heads h xs) (other_heads h xs))
    by true more = more
    by false more = (fewer h x.number xs a.0, more)

still : (h k : ℤ) (xs : List Head) → k ≢ h → has_number k (other_heads h xs) ≡ has_number k xs
still h k [] n = refl
still h k (x ∷ xs) n = by (int_eq x.number h) refl (still h k xs n)
  where
    by : (b : Bool) → int_eq x.number h ≡ b → has_number k (other_heads h xs) ≡ has_number k xs → has_number k (cond (not b) (x ∷ other_heads h xs) (other_heads h xs)) ≡ (int_eq x.number k || has_number k xs)
    by true s more = more ∙ sym (ap (λ (c : Bool). c || has_number k xs) (other_int x.number k (λ z. n (sym z ∙ (Decides-int_eq x.number h).0 s))))
    by false s more = ap (λ (c : Bool). int_eq x.number k || c) more

pub held_kept : (h : ℤ) (xs : List Head) (es : List Element) → AreHeld xs es → AreHeld (other_heads h xs) (other_elements h es)
held_kept h xs [] a = tt
held_kept h xs (e ∷ es) a = by (int_eq e.queue h) refl (held_kept h xs es a.1)
  where
    by : (b : Bool) → int_eq e.queue h ≡ b → AreHeld (other_heads h xs) (other_elements h es) → AreHeld (other_heads h xs) (cond (not b) (e ∷ other_elements h es) (other_elements h es))
    by true s more = more
    by false s more = (still h e.queue xs (apart_ints e.queue h s) ∙ a.0, more)

-- and the two lists stay as they have to be
pub rest_sound : (xs : List Head) (es es' : List Element) (i : ℕ) → IsSound xs es → es' ≡ remove es i → length es' ≤ length es → IsSound xs es'
rest_sound xs es es' i s is fewer =
    let few : length es ≤ MOST_ELEMENTS = s.few in
    record { apart = s.apart; held = subst (λ (l : List Element). AreHeld xs l) (sym is) (held_rest xs es i s.held); few = omega (arith, few, fewer) }

pub gone_sound : (h : ℤ) (xs : List Head) (es : List Element) → IsSound xs es → length (other_elements h es) ≤ length es → IsSound (other_heads h xs) (other_elements h es)
gone_sound h xs es s fewer =
    let few : length es ≤ MOST_ELEMENTS = s.few in
    record { apart = apart_kept h xs s.apart; held = held_kept h xs es s.held; few = omega (arith, few, fewer) }

-- where the front stands, as the code finds it
pub front_there : (h k : ℤ) (es : List Element) (i : ℕ) → k ≡ h → position_from (λ (e : Element). int_eq e.queue k) 0 es ≡ Some i → FirstAt (λ (e : Element). int_eq e.queue h) es i
front_there h k es i same at = first_at (λ (e : Element). int_eq e.queue h) es i (ap (λ (n : ℤ). position_from (λ (e : Element). int_eq e.queue n) 0 es) (sym same) ∙ at)

pub nothing_there : (h k : ℤ) (es : List Element) → k ≡ h → position_from (λ (e : Element). int_eq e.queue k) 0 es ≡ None → Nowhere (λ (e : Element). int_eq e.queue h) es
nothing_there h k es same at = nowhere (λ (e : Element). int_eq e.queue h) 0 es (ap (λ (n : ℤ). position_from (λ (e : Element). int_eq e.queue n) 0 es) (sym same) ∙ at)
