-- The list of faults is in order, and its first member is the first of all.
use Rattle.std.specs.Prelude.{◌≡◌, refl, ℕ, zero, suc, ◌<◌, ◌≤◌, Bool, true, false, ◌&&◌, ◌||◌, ◌⊎◌, nat_lt, nat_le, ◌==◌, if◌then◌else◌, List, [], ◌∷◌, Option, Some, None, is_some, slice_get}
use Rattle.std.proofs.Common.{sym, ap, ◌∙◌, subst, inl, inr}
use Rattle.std.proofs.lemmas.Bool.{true≢false, ltb-true, lt-ltb, leb-true, le-leb, leb-false}
use Rattle.std.proofs.lemmas.Bool.Decides.{eqb_tells}
use native.Mathlib.Omega.{arith}
use Rattle.ci_tree.specs.Tree.{Item}
use Rattle.ci_names.specs.Fault.{Fault, kind_number, is_before, placed, sorted}
use Rattle.ci_names.specs.Declarations.{declared_in}
use Rattle.ci_names.specs.Faults.{declared_faults, faults, first_fault}
use Rattle.ci_names.specs.Laws.{AreBehind, AreInOrder}

-- three numbers, compared by the first, then by the second, then by the third
abbrev lex : ℕ → ℕ → ℕ → ℕ → ℕ → ℕ → Bool
lex a b c x y z = nat_lt a x || (a == x && (nat_lt b y || (b == y && nat_le c z)))

abbrev Lex : ℕ → ℕ → ℕ → ℕ → ℕ → ℕ → Type 0
Lex a b c x y z = (a < x) ⊎ ((a ≡ x) × ((b < y) ⊎ ((b ≡ y) × (c ≤ z))))

lex_trans : (a b c x y z p q r : ℕ) → Lex a b c x y z → Lex x y z p q r → Lex a b c p q r
lex_trans a b c x y z p q r (inl h) (inl i) = inl (omega arith)
lex_trans a b c x y z p q r (inl h) (inr i) = let e = i.0 in inl (omega arith)
lex_trans a b c x y z p q r (inr h) (inl i) = let e = h.0 in inl (omega arith)
lex_trans a b c x y z p q r (inr h) (inr i) = inr (h.0 ∙ i.0, inner h.1 i.1)
  where
    inner : ((b < y) ⊎ ((b ≡ y) × (c ≤ z))) → ((y < q) ⊎ ((y ≡ q) × (z ≤ r))) → (b < q) ⊎ ((b ≡ q) × (c ≤ r))
    inner (inl j) (inl k) = inl (omega arith)
    inner (inl j) (inr k) = let e = k.0 in inl (omega arith)
    inner (inr j) (inl k) = let e = j.0 in inl (omega arith)
    inner (inr j) (inr k) = let e = j.1 in let f = k.1 in inr (j.0 ∙ k.0, omega arith)

or_true : (a b : Bool) → (a || b) ≡ true → (a ≡ true) ⊎ (b ≡ true)
or_true true b h = inl refl
or_true false b h = inr h

and_true : (a b : Bool) → (a && b) ≡ true → (a ≡ true) × (b ≡ true)
and_true true b h = (refl, h)
and_true false b h = absurd (true≢false (sym h))

or_of : (a b : Bool) → (a ≡ true) ⊎ (b ≡ true) → (a || b) ≡ true
or_of true b h = refl
or_of false b (inl h) = absurd (true≢false (sym h))
or_of false b (inr h) = h

and_of : (a b : Bool) → a ≡ true → b ≡ true → (a && b) ≡ true
and_of true b h i = i
and_of false b h i = absurd (true≢false (sym h))

same_true : (a b : ℕ) → (a == b) ≡ true → a ≡ b
same_true a b h = by_cases (eqb_tells a b)
  where
    by_cases : (((a == b) ≡ true) × (a ≡ b)) ⊎ (((a == b) ≡ false) × (a ≡ b → ⊥)) → a ≡ b
    by_cases (inl t) = t.1
    by_cases (inr t) = absurd (true≢false (sym h ∙ t.0))

same_of : (a b : ℕ) → a ≡ b → (a == b) ≡ true
same_of a b h = by_cases (eqb_tells a b)
  where
    by_cases : (((a == b) ≡ true) × (a ≡ b)) ⊎ (((a == b) ≡ false) × (a ≡ b → ⊥)) → (a == b) ≡ true
    by_cases (inl t) = t.0
    by_cases (inr t) = absurd (t.1 h)

lex_true : (a b c x y z : ℕ) → lex a b c x y z ≡ true → Lex a b c x y z
lex_true a b c x y z h = outer (or_true (nat_lt a x) (a == x && (nat_lt b y || (b == y && nat_le c z))) h)
  where
    third : (b == y && nat_le c z) ≡ true → (b ≡ y) × (c ≤ z)
    third i = let t = and_true (b == y) (nat_le c z) i in (same_true b y t.0, leb-true c z t.1)

    inner : ((nat_lt b y ≡ true) ⊎ ((b == y && nat_le c z) ≡ true)) → (b < y) ⊎ ((b ≡ y) × (c ≤ z))
    inner (inl i) = inl (ltb-true b y i)
    inner (inr i) = inr (third i)

    outer : ((nat_lt a x ≡ true) ⊎ ((a == x && (nat_lt b y || (b == y && nat_le c z))) ≡ true)) → Lex a b c x y z
    outer (inl i) = inl (ltb-true a x i)
    outer (inr i) = let t = and_true (a == x) (nat_lt b y || (b == y && nat_le c z)) i in inr (same_true a x t.0, inner (or_true (nat_lt b y) (b == y && nat_le c z) t.1))

lex_of : (a b c x y z : ℕ) → Lex a b c x y z → lex a b c x y z ≡ true
lex_of a b c x y z (inl h) = or_of (nat_lt a x) (a == x && (nat_lt b y || (b == y && nat_le c z))) (inl (lt-ltb a x h))
lex_of a b c x y z (inr h) = or_of (nat_lt a x) (a == x && (nat_lt b y || (b == y && nat_le c z))) (inr (and_of (a == x) (nat_lt b y || (b == y && nat_le c z)) (same_of a x h.0) (inner h.1)))
  where
    inner : ((b < y) ⊎ ((b ≡ y) × (c ≤ z))) → (nat_lt b y || (b == y && nat_le c z)) ≡ true
    inner (inl i) = or_of (nat_lt b y) (b == y && nat_le c z) (inl (lt-ltb b y i))
    inner (inr i) = or_of (nat_lt b y) (b == y && nat_le c z) (inr (and_of (b == y) (nat_le c z) (same_of b y i.0) (le-leb c z i.1)))

-- two numbers are in one of three orders
three_ways : (a x : ℕ) → (a < x) ⊎ ((a ≡ x) ⊎ (x < a))
three_ways a x = by_cases (nat_le x a) refl
  where
    other : (b : Bool) → nat_le a x ≡ b → x ≤ a → (a < x) ⊎ ((a ≡ x) ⊎ (x < a))
    other true e h = let i = leb-true a x e in inr (inl (omega arith))
    other false e h = let i = leb-false a x e in inr (inr (omega arith))

    by_cases : (b : Bool) → nat_le x a ≡ b → (a < x) ⊎ ((a ≡ x) ⊎ (x < a))
    by_cases true e = other (nat_le a x) refl (leb-true x a e)
    by_cases false e = inl (leb-false x a e)

lex_total : (a b c x y z : ℕ) → Lex a b c x y z ⊎ Lex x y z a b c
lex_total a b c x y z = outer (three_ways a x)
  where
    third : a ≡ x → b ≡ y → ((c < z) ⊎ ((c ≡ z) ⊎ (z < c))) → Lex a b c x y z ⊎ Lex x y z a b c
    third h i (inl j) = inl (inr (h, inr (i, omega arith)))
    third h i (inr (inl j)) = inl (inr (h, inr (i, omega arith)))
    third h i (inr (inr j)) = inr (inr (sym h, inr (sym i, omega arith)))

    inner : a ≡ x → ((b < y) ⊎ ((b ≡ y) ⊎ (y < b))) → Lex a b c x y z ⊎ Lex x y z a b c
    inner h (inl i) = inl (inr (h, inl i))
    inner h (inr (inl i)) = third h i (three_ways c z)
    inner h (inr (inr i)) = inr (inr (sym h, inl i))

    outer : ((a < x) ⊎ ((a ≡ x) ⊎ (x < a))) → Lex a b c x y z ⊎ Lex x y z a b c
    outer (inl h) = inl (inl h)
    outer (inr (inl h)) = inner h (three_ways b y)
    outer (inr (inr h)) = inr (inl h)

pub before_trans : (f g h : Fault) → is_before f g ≡ true → is_before g h ≡ true → is_before f h ≡ true
before_trans f g h i j =
    lex_of f.file f.token (kind_number f.kind) h.file h.token (kind_number h.kind)
    (lex_trans f.file f.token (kind_number f.kind) g.file g.token (kind_number g.kind) h.file h.token (kind_number h.kind)
    (lex_true f.file f.token (kind_number f.kind) g.file g.token (kind_number g.kind) i) (lex_true g.file g.token (kind_number g.kind) h.file h.token (kind_number h.kind) j))

pub before_total : (f g : Fault) → is_before f g ≡ false → is_before g f ≡ true
before_total f g h = by_cases (lex_total f.file f.token (kind_number f.kind) g.file g.token (kind_number g.kind))
  where
    by_cases : Lex f.file f.token (kind_number f.kind) g.file g.token (kind_number g.kind) ⊎ Lex g.file g.token (kind_number g.kind) f.file f.token (kind_number f.kind) → is_before g f ≡ true
    by_cases (inl i) = absurd (true≢false (sym (lex_of f.file f.token (kind_number f.kind) g.file g.token (kind_number g.kind) i) ∙ h))
    by_cases (inr i) = lex_of g.file g.token (kind_number g.kind) f.file f.token (kind_number f.kind) i

before_same : (f : Fault) → is_before f f ≡ true
before_same f = lex_of f.file f.token (kind_number f.kind) f.file f.token (kind_number f.kind) (inr (refl, inr (refl, omega arith)))

-- what stands behind a fault stands behind each that is before it
behind_trans : (f g : Fault) (hs : List Fault) → is_before f g ≡ true → AreBehind g hs → AreBehind f hs
behind_trans f g [] i b = tt
behind_trans f g (h ∷ hs) i b = (before_trans f g h i b.0, not_before (is_before h f) refl, behind_trans f g hs i b.2)
  where
    not_before : (x : Bool) → is_before h f ≡ x → is_before h f ≡ false
    not_before true e = absurd (true≢false (sym (before_trans h f g e i) ∙ b.1))
    not_before false e = e

-- a fault among faults, by what is before what
abbrev put : Fault → Fault → List Fault → Bool → Bool → List Fault → List Fault
put f g gs a b rest = if a then (if b then g ∷ gs else f ∷ g ∷ gs) else g ∷ rest

behind_put : (h f g : Fault) (gs : List Fault) (a b : Bool) (rest : List Fault) → is_before h f ≡ true → is_before f h ≡ false → AreBehind h (g ∷ gs) → AreBehind h rest → AreBehind h (put f g gs a b rest)
behind_put h f g gs true true rest i j k r = k
behind_put h f g gs true false rest i j k r = (i, j, k)
behind_put h f g gs false b rest i j k r = (k.0, k.1, r)

behind_placed : (h f : Fault) (gs : List Fault) → is_before h f ≡ true → is_before f h ≡ false → AreBehind h gs → AreBehind h (placed f gs)
behind_placed h f [] i j k = (i, j, tt)
behind_placed h f (g ∷ gs) i j k = behind_put h f g gs (is_before f g) (is_before g f) (placed f gs) i j k (behind_placed h f gs i j k.2)

order_put : (f g : Fault) (gs : List Fault) (a b : Bool) → is_before f g ≡ a → is_before g f ≡ b → AreInOrder (g ∷ gs) → AreInOrder (placed f gs) → AreInOrder (put f g gs a b (placed f gs))
order_put f g gs true true h i k r = k
order_put f g gs true false h i k r = ((h, i, behind_trans f g gs h k.0), k)
order_put f g gs false b h i k r = (behind_placed g f gs (before_total f g h) h k.0, r)

order_placed : (f : Fault) (gs : List Fault) → AreInOrder gs → AreInOrder (placed f gs)
order_placed f [] k = (tt, tt)
order_placed f (g ∷ gs) k = order_put f g gs (is_before f g) (is_before g f) refl refl k (order_placed f gs k.1)

order_sorted : (fs : List Fault) → AreInOrder (sorted fs)
order_sorted [] = tt
order_sorted (f ∷ fs) = order_placed f (sorted fs) (order_sorted fs)

-- the first of a list is before a fault
abbrev Heads : List Fault → Fault → Type 0
Heads [] g = ⊥
Heads (f ∷ fs) g = is_before f g ≡ true

heads_new : (f g : Fault) (gs : List Fault) (a b : Bool) (rest : List Fault) → is_before f g ≡ a → is_before g f ≡ b → Heads (put f g gs a b rest) f
heads_new f g gs true true rest h i = i
heads_new f g gs true false rest h i = before_same f
heads_new f g gs false b rest h i = before_total f g h

heads_placed : (f : Fault) (gs : List Fault) → Heads (placed f gs) f
heads_placed f [] = before_same f
heads_placed f (g ∷ gs) = heads_new f g gs (is_before f g) (is_before g f) (placed f gs) refl refl

heads_old : (f g x : Fault) (gs : List Fault) (a b : Bool) (rest : List Fault) → is_before f g ≡ a → is_before g x ≡ true → Heads (put f g gs a b rest) x
heads_old f g x gs true true rest h i = i
heads_old f g x gs true false rest h i = before_trans f g x h i
heads_old f g x gs false b rest h i = i

heads_kept : (f x : Fault) (gs : List Fault) → Heads gs x → Heads (placed f gs) x
heads_kept f x [] h = absurd h
heads_kept f x (g ∷ gs) h = heads_old f g x gs (is_before f g) (is_before g f) (placed f gs) refl h

abbrev fault_or : Fault → Option Fault → Fault
fault_or d None = d
fault_or d (Some f) = f

same_fault : {f g : Fault} → Some f ≡ Some g → f ≡ g
same_fault {f} {g} e = ap (fault_or f) e

no_fault : {A : Type 0} {f : Fault} → None ≡ Some f → A
no_fault e = absurd (true≢false (sym (ap is_some e)))

heads_sorted : (fs : List Fault) (n : ℕ) (g : Fault) → slice_get fs n ≡ Some g → Heads (sorted fs) g
heads_sorted [] n g e = no_fault e
heads_sorted (f ∷ fs) zero g e = subst (Heads (placed f (sorted fs))) (same_fault e) (heads_placed f (sorted fs))
heads_sorted (f ∷ fs) (suc n) g e = heads_kept f g (sorted fs) (heads_sorted fs n g e)

head_before : (fs : List Fault) (f g : Fault) → slice_get fs 0 ≡ Some f → Heads fs g → is_before f g ≡ true
head_before [] f g e h = no_fault e
head_before (x ∷ fs) f g e h = subst (λ y. is_before y g ≡ true) (same_fault e) h

-- a member of a list with a fault placed in it
abbrev IsIn : List Fault → Fault → Type 0
IsIn fs f = (n : ℕ) × (slice_get fs n ≡ Some f)

in_put : (f g x : Fault) (gs : List Fault) (a b : Bool) (rest : List Fault) → (IsIn rest x → (x ≡ f) ⊎ IsIn gs x) → IsIn (put f g gs a b rest) x → (x ≡ f) ⊎ IsIn (g ∷ gs) x
in_put f g x gs true true rest r h = inr h
in_put f g x gs true false rest r (zero, e) = inl (sym (same_fault e))
in_put f g x gs true false rest r (suc n, e) = inr (n, e)
in_put f g x gs false b rest r (zero, e) = inr (zero, e)
in_put f g x gs false b rest r (suc n, e) = behind (r (n, e))
  where
    behind : (x ≡ f) ⊎ IsIn gs x → (x ≡ f) ⊎ IsIn (g ∷ gs) x
    behind (inl i) = inl i
    behind (inr i) = inr (suc i.0, i.1)

in_placed : (f x : Fault) (gs : List Fault) → IsIn (placed f gs) x → (x ≡ f) ⊎ IsIn gs x
in_placed f x [] (zero, e) = inl (sym (same_fault e))
in_placed f x [] (suc n, e) = no_fault e
in_placed f x (g ∷ gs) h = in_put f g x gs (is_before f g) (is_before g f) (placed f gs) (in_placed f x gs) h

in_sorted : (fs : List Fault) (x : Fault) → IsIn (sorted fs) x → IsIn fs x
in_sorted [] x h = h
in_sorted (f ∷ fs) x h = by_cases (in_placed f x (sorted fs) h) (in_sorted fs x)
  where
    by_cases : (x ≡ f) ⊎ IsIn (sorted fs) x → (IsIn (sorted fs) x → IsIn fs x) → IsIn (f ∷ fs) x
    by_cases (inl e) next = (0, ap (λ y. Some y) (sym e))
    by_cases (inr i) next = let found = next i in (suc found.0, found.1)

pub faults_are_in_order : (files : List (List Item)) → AreInOrder (faults files)
faults_are_in_order files = order_sorted (declared_faults (declared_in files))

pub first_is_least : (files : List (List Item)) (f : Fault) → first_fault files ≡ Some f →
    ((n : ℕ) × (slice_get (declared_faults (declared_in files)) n ≡ Some f))
    × ((n : ℕ) (g : Fault) → slice_get (declared_faults (declared_in files)) n ≡ Some g → is_before f g ≡ true)
first_is_least files f h =
    let found = declared_faults (declared_in files) in
    (in_sorted found f (0, h), λ n g e. head_before (sorted found) f g h (heads_sorted found n g e))
