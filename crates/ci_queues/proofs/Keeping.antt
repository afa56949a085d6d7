-- What the two lists say of the queues, and how a queue or an element comes in.
use Rattle.std.proofs.Common.{◌≡◌, ◌≢◌, ◌<◌, ◌+◌, ◌++◌, ℕ, zero, suc, ℤ, Bool, true, false, cond, List, [], ◌∷◌, length, Option, Some, None, refl, sym, ap, ap₂, ◌∙◌, subst, arith, length-append, true≢false}
use Rattle.std.specs.Prelude.{◌||◌, ◌<ℤ◌, filter, is_some, slice_get}
use Rattle.std.specs.Int.Signed.{<ℤ_irrefl}
use Rattle.std.specs.List.{All}
use Rattle.std.specs.Ordering.{int_eq}
use Rattle.std.proofs.lemmas.Bool.Decides.{Decides-int_eq}
use Rattle.ci_base.specs.declared.bounds.TheConstants.{MOST_ELEMENTS}
use Rattle.ci_shared.specs.declared.object.Item.{Item}
use Rattle.ci_shared.specs.Queues.{Queue, count_items, queue_named, queue_of, with_items}
use Rattle.ci_shared.specs.Words.{same_text}
use Rattle.ci_shared.proofs.First.{FirstAt, Nowhere}
use Rattle.ci_queues.specs.declared.held.Element.{Element}
use Rattle.ci_queues.specs.declared.held.Head.{Head}
use Rattle.ci_queues.specs.Fronts.{items_at, items_in}
use Rattle.ci_queues.specs.Held.{AreApart, AreHeld, IsSound, has_number, items_of, queues_of}

pub same_int : (a : ℤ) → int_eq a a ≡ true
same_int a = (Decides-int_eq a a).1 refl

pub other_int : (a b : ℤ) → a ≢ b → int_eq a b ≡ false
other_int a b n = by (int_eq a b) refl
  where
    by : (v : Bool) → int_eq a b ≡ v → v ≡ false
    by true t = absurd (n ((Decides-int_eq a b).0 t))
    by false t = refl

pub apart_ints : (a b : ℤ) → int_eq a b ≡ false → a ≢ b
apart_ints a b f e = true≢false (sym ((Decides-int_eq a b).1 e) ∙ f)

or_true : (a : Bool) → (a || true) ≡ true
or_true true = refl
or_true false = refl

neither : (a b : Bool) → (a || b) ≡ false → (a ≡ false) × (b ≡ false)
neither true b e = absurd (true≢false e)
neither false b e = (refl, e)

append_nil : (xs : List Item) → xs ++ [] ≡ xs
append_nil [] = refl
append_nil (x ∷ xs) = ap (λ (l : List Item). x ∷ l) (append_nil xs)

-- a queue of its head and these elements
abbrev pub queue_with : Head → List Item → Queue
queue_with x items = record { number = x.number; name = x.name; items = items }

-- a queue is there exactly where its number is
pub found : (h : ℤ) (xs : List Head) (es : List Element) → has_number h xs ≡ is_some (queue_of h (queues_of xs es))
found h [] es = refl
found h (x ∷ xs) es = by (int_eq x.number h) (found h xs es)
  where
    by : (b : Bool) → has_number h xs ≡ is_some (queue_of h (queues_of xs es)) → (b || has_number h xs) ≡ is_some (cond b (Some (queue_with x (items_of x.number es))) (queue_of h (queues_of xs es)))
    by true i = refl
    by false i = i

-- its elements are those with its number
items_there : (h : ℤ) (xs : List Head) (es : List Element) → has_number h xs ≡ true → items_in h (queues_of xs es) ≡ items_of h es
items_there h [] es t = absurd (true≢false (sym t))
items_there h (x ∷ xs) es t = by (int_eq x.number h) refl t (λ i. items_there h xs es i)
  where
    by : (b : Bool) → int_eq x.number h ≡ b → (b || has_number h xs) ≡ true → (has_number h xs ≡ true → items_in h (queues_of xs es) ≡ items_of h es) → items_at (cond b (Some (queue_with x (items_of x.number es))) (queue_of h (queues_of xs es))) ≡ items_of h es
    by true s i more = ap (λ (n : ℤ). items_of n es) ((Decides-int_eq x.number h).0 s)
    by false s i more = more i

pub no_items : (h : ℤ) (xs : List Head) (es : List Element) → AreHeld xs es → has_number h xs ≡ false → items_of h es ≡ []
no_items h xs [] a f = refl
no_items h xs (e ∷ es) a f = ap (λ (b : Bool). cond b (e.item ∷ items_of h es) (items_of h es)) (other_int e.queue h apart) ∙ no_items h xs es a.1 f
  where
    apart : e.queue ≢ h
    apart s = true≢false (sym a.0 ∙ ap (λ (n : ℤ). has_number n xs) s ∙ f)

pub items_found : (h : ℤ) (xs : List Head) (es : List Element) → AreHeld xs es → items_in h (queues_of xs es) ≡ items_of h es
items_found h xs es a = by (has_number h xs) refl
  where
    nothing : (o : Option Queue) → is_some o ≡ false → items_at o ≡ []
    nothing None e = refl
    nothing (Some x) e = absurd (true≢false e)

    by : (b : Bool) → has_number h xs ≡ b → items_in h (queues_of xs es) ≡ items_of h es
    by true t = items_there h xs es t
    by false f = nothing (queue_of h (queues_of xs es)) (sym (found h xs es) ∙ f) ∙ sym (no_items h xs es a f)

-- by name
pub named_here : (name : List ℕ) (xs : List Head) (es : List Element) (i : ℕ) (x : Head) → FirstAt (λ (z : Head). same_text z.name name) xs i → slice_get xs i ≡ Some x → Some x.number ≡ queue_named name (queues_of xs es)
named_here name [] es i x f g = absurd f
named_here name (y ∷ ys) es zero x f g =
    let same : y ≡ x = cc g in
    sym (ap (λ (b : Bool). cond b (Some y.number) (queue_named name (queues_of ys es))) f ∙ ap (λ (z : Head). Some z.number) same)
named_here name (y ∷ ys) es (suc i) x f g =
    named_here name ys es i x f.1 g ∙ sym (ap (λ (b : Bool). cond b (Some y.number) (queue_named name (queues_of ys es))) f.0)

pub named_nowhere : (name : List ℕ) (xs : List Head) (es : List Element) → Nowhere (λ (z : Head). same_text z.name name) xs → None ≡ queue_named name (queues_of xs es)
named_nowhere name [] es n = refl
named_nowhere name (y ∷ ys) es n = named_nowhere name ys es n.1 ∙ sym (ap (λ (b : Bool). cond b (Some y.number) (queue_named name (queues_of ys es))) n.0)

-- where the elements of the queues stay, the queues do
pub same_elsewhere : (xs : List Head) (es es' : List Element) → ((k : ℤ) → has_number k xs ≡ true → items_of k es' ≡ items_of k es) → queues_of xs es' ≡ queues_of xs es
same_elsewhere [] es es' h = refl
same_elsewhere (x ∷ xs) es es' h = ap₂ (λ (l : List Item) (r : List Queue). queue_with x l ∷ r) (h x.number here) (same_elsewhere xs es es' (λ k i. h k (there k i)))
  where
    here : (int_eq x.number x.number || has_number x.number xs) ≡ true
    here = ap (λ (b : Bool). b || has_number x.number xs) (same_int x.number)

    there : (k : ℤ) → has_number k xs ≡ true → (int_eq x.number k || has_number k xs) ≡ true
    there k i = ap (λ (b : Bool). int_eq x.number k || b) i ∙ or_true (int_eq x.number k)

-- where those of one queue change, this one does
pub changed : (h : ℤ) (xs : List Head) (es es' : List Element) → AreApart xs → ((k : ℤ) → k ≢ h → items_of k es' ≡ items_of k es) → queues_of xs es' ≡ with_items h (items_of h es') (queues_of xs es)
changed h [] es es' a o = refl
changed h (x ∷ xs) es es' a o = by (int_eq x.number h) refl (changed h xs es es' a.1 o)
  where
    rest : x.number ≡ h → (k : ℤ) → has_number k xs ≡ true → items_of k es' ≡ items_of k es
    rest same k i = o k (λ e. true≢false (sym i ∙ ap (λ (n : ℤ). has_number n xs) (e ∙ sym same) ∙ a.0))

    by : (b : Bool) → int_eq x.number h ≡ b → queues_of xs es' ≡ with_items h (items_of h es') (queues_of xs es) →
        queues_of (x ∷ xs) es' ≡ cond b (queue_with x (items_of h es') ∷ queues_of xs es) (queue_with x (items_of x.number es) ∷ with_items h (items_of h es') (queues_of xs es))
    by true s more =
        let same : x.number ≡ h = (Decides-int_eq x.number h).0 s in
        ap₂ (λ (l : List Item) (r : List Queue). queue_with x l ∷ r) (ap (λ (n : ℤ). items_of n es') same) (same_elsewhere xs es es' (rest same))
    by false s more = ap₂ (λ (l : List Item) (r : List Queue). queue_with x l ∷ r) (o x.number (apart_ints x.number h s)) more

-- an element comes last
items_more : (k : ℤ) (es : List Element) (e : Element) → items_of k (es ++ e ∷ []) ≡ items_of k es ++ items_of k (e ∷ [])
items_more k [] e = refl
items_more k (y ∷ es) e = by (int_eq y.queue k) (items_more k es e)
  where
    by : (b : Bool) → items_of k (es ++ e ∷ []) ≡ items_of k es ++ items_of k (e ∷ []) → cond b (y.item ∷ items_of k (es ++ e ∷ [])) (items_of k (es ++ e ∷ [])) ≡ cond b (y.item ∷ items_of k es) (items_of k es) ++ items_of k (e ∷ [])
    by true i = ap (λ (l : List Item). y.item ∷ l) i
    by false i = i

pub put_view : (h : ℤ) (item : Item) (xs : List Head) (es : List Element) → AreApart xs → AreHeld xs es → queues_of xs (es ++ record { queue = h; item = item } ∷ []) ≡ with_items h (items_in h (queues_of xs es) ++ item ∷ []) (queues_of xs es)
put_view h item xs es a held = changed h xs es (es ++ new ∷ []) a others ∙ ap (λ (l : List Item). with_items h l (queues_of xs es)) own
  where
    new : Element
    new = record { queue = h; item = item }

    others : (k : ℤ) → k ≢ h → items_of k (es ++ new ∷ []) ≡ items_of k es
    others k n = items_more k es new ∙ ap (λ (b : Bool). items_of k es ++ cond b (item ∷ []) []) (other_int h k (λ e. n (sym e))) ∙ append_nil (items_of k es)

    own : items_of h (es ++ new ∷ []) ≡ items_in h (queues_of xs es) ++ item ∷ []
    own = items_more h es new ∙ ap (λ (b : Bool). items_of h es ++ cond b (item ∷ []) []) (same_int h) ∙ ap (λ (l : List Item). l ++ item ∷ []) (sym (items_found h xs es held))

pub held_more : (xs : List Head) (es : List Element) (e : Element) → AreHeld xs es → has_number e.queue xs ≡ true → AreHeld xs (es ++ e ∷ [])
held_more xs [] e a t = (t, tt)
held_more xs (y ∷ es) e a t = (a.0, held_more xs es e a.1 t)

-- a queue comes last
pub made_view : (xs : List Head) (es : List Element) (y : Head) → AreHeld xs es → has_number y.number xs ≡ false → queues_of (xs ++ y ∷ []) es ≡ queues_of xs es ++ queue_with y [] ∷ []
made_view xs es y a f = pushed xs ∙ ap (λ (l : List Item). queues_of xs es ++ queue_with y l ∷ []) (no_items y.number xs es a f)
  where
    pushed : (zs : List Head) → queues_of (zs ++ y ∷ []) es ≡ queues_of zs es ++ queue_with y (items_of y.number es) ∷ []
    pushed [] = refl
    pushed (z ∷ zs) = ap (λ (l : List Queue). queue_with z (items_of z.number es) ∷ l) (pushed zs)

wider : (k : ℤ) (xs : List Head) (y : Head) → has_number k (xs ++ y ∷ []) ≡ (has_number k xs || (int_eq y.number k || false))
wider k [] y = refl
wider k (x ∷ xs) y = by (int_eq x.number k) (wider k xs y)
  where
    by : (b : Bool) → has_number k (xs ++ y ∷ []) ≡ (has_number k xs || (int_eq y.number k || false)) → (b || has_number k (xs ++ y ∷ [])) ≡ ((b || has_number k xs) || (int_eq y.number k || false))
    by true i = refl
    by false i = i

pub apart_more : (xs : List Head) (y : Head) → AreApart xs → has_number y.number xs ≡ false → AreApart (xs ++ y ∷ [])
apart_more [] y a f = (refl, tt)
apart_more (x ∷ xs) y a f =
    let n = neither (int_eq x.number y.number) (has_number y.number xs) f in
    let turned : int_eq y.number x.number ≡ false = other_int y.number x.number (λ e. apart_ints x.number y.number n.0 (sym e)) in
    (wider x.number xs y ∙ ap₂ (λ (b c : Bool). b || (c || false)) a.0 turned, apart_more xs y a.1 n.1)

pub held_wider : (xs : List Head) (es : List Element) (y : Head) → AreHeld xs es → AreHeld (xs ++ y ∷ []) es
held_wider xs [] y a = tt
held_wider xs (e ∷ es) y a = (wider e.queue xs y ∙ ap (λ (b : Bool). b || (int_eq y.number e.queue || false)) a.0, held_wider xs es y a.1)

-- a number above all is new
pub fresh : (n : ℤ) (xs : List Head) (es : List Element) → All (λ (q : Queue). q.number <ℤ n) (queues_of xs es) → has_number n xs ≡ false
fresh n [] es above = refl
fresh n (x ∷ xs) es above =
    ap₂ (λ (b c : Bool). b || c) (other_int x.number n apart)
    (fresh n xs es (λ k d lt. above (suc k) d (omega (arith, lt))))
  where
    first : x.number <ℤ n
    first = above 0 (queue_with x []) (omega arith)

    apart : x.number ≢ n
    apart e = <ℤ_irrefl {a = n} (subst (λ (m : ℤ). m <ℤ n) e first)

pub as_many : (xs : List Head) (es : List Element) → length (queues_of xs es) ≡ length xs
as_many [] es = refl
as_many (x ∷ xs) es = ap suc (as_many xs es)

-- the elements of one queue, and those of all, are counted
pub count_own : (h : ℤ) (es : List Element) → length (filter (λ (e : Element). int_eq e.queue h) es) ≡ length (items_of h es)
count_own h [] = refl
count_own h (e ∷ es) = by (int_eq e.queue h) (count_own h es)
  where
    by : (b : Bool) → length (filter (λ (y : Element). int_eq y.queue h) es) ≡ length (items_of h es) → length (cond b (e ∷ filter (λ (y : Element). int_eq y.queue h) es) (filter (λ (y : Element). int_eq y.queue h) es)) ≡ length (cond b (e.item ∷ items_of h es) (items_of h es))
    by true i = ap suc i
    by false i = i

count_none : (xs : List Head) → count_items (queues_of xs []) ≡ 0
count_none [] = refl
count_none (x ∷ xs) = let rest : count_items (queues_of xs []) ≡ 0 = count_none xs in omega (arith, rest)

count_one : (xs : List Head) (e : Element) (es : List Element) → AreApart xs → has_number e.queue xs ≡ true → count_items (queues_of xs (e ∷ es)) ≡ suc (count_items (queues_of xs es))
count_one [] e es a t = absurd (true≢false (sym t))
count_one (x ∷ xs) e es a t = by (int_eq e.queue x.number) refl (λ i. count_one xs e es a.1 i)
  where
    elsewhere : e.queue ≡ x.number → (k : ℤ) → has_number k xs ≡ true → items_of k (e ∷ es) ≡ items_of k es
    elsewhere same k i = ap (λ (b : Bool). cond b (e.item ∷ items_of k es) (items_of k es)) (other_int e.queue k (λ z. true≢false (sym i ∙ ap (λ (n : ℤ). has_number n xs) (sym z ∙ same) ∙ a.0)))

    further : int_eq e.queue x.number ≡ false → has_number e.queue xs ≡ true
    further s = sym (ap (λ (b : Bool). b || has_number e.queue xs) (other_int x.number e.queue (λ z. apart_ints e.queue x.number s (sym z)))) ∙ t

    by : (b : Bool) → int_eq e.queue x.number ≡ b → (has_number e.queue xs ≡ true → count_items (queues_of xs (e ∷ es)) ≡ suc (count_items (queues_of xs es))) →
        length (cond b (e.item ∷ items_of x.number es) (items_of x.number es)) + count_items (queues_of xs (e ∷ es)) ≡ suc (length (items_of x.number es) + count_items (queues_of xs es))
    by true s more =
        let rest : count_items (queues_of xs (e ∷ es)) ≡ count_items (queues_of xs es) = ap count_items (same_elsewhere xs es (e ∷ es) (elsewhere ((Decides-int_eq e.queue x.number).0 s))) in
        omega (arith, rest)
    by false s more = let rest : count_items (queues_of xs (e ∷ es)) ≡ suc (count_items (queues_of xs es)) = more (further s) in omega (arith, rest)

pub count_all : (xs : List Head) (es : List Element) → AreApart xs → AreHeld xs es → length es ≡ count_items (queues_of xs es)
count_all xs [] a h = sym (count_none xs)
count_all xs (e ∷ es) a h = ap suc (count_all xs es a h.1) ∙ sym (count_one xs e es a h.0)

-- and the two lists stay as they have to be
pub made_sound : (xs : List Head) (es : List Element) (y : Head) → IsSound xs es → has_number y.number xs ≡ false → IsSound (xs ++ y ∷ []) es
made_sound xs es y s f = record { apart = apart_more xs y s.apart f; held = held_wider xs es y s.held; few = s.few }

pub put_sound : (xs : List Head) (es : List Element) (e : Element) → IsSound xs es → has_number e.queue xs ≡ true → length es < MOST_ELEMENTS → IsSound xs (es ++ e ∷ [])
put_sound xs es e s t few =
    let long : length (es ++ e ∷ []) ≡ length es + 1 = length-append es (e ∷ []) in
    record { apart = s.apart; held = held_more xs es e s.held t; few = omega (arith, few, long) }
