-- A machine of one task comes to one request, and to no ticks behind it.
use Rattle.std.proofs.Common.{◌≡◌, ℕ, zero, suc, ◌≤◌, refl, sym, ap, ◌∙◌, subst, arith}
use Rattle.ci_base.specs.Steps.{Next, tick, quiet, asks, stuck, After, Steps, Reaches, Stands}
use Rattle.ci_world.specs.Serial.{IsTick, Ticks}

module _ {C Q : Type 0} (next : C → Next C Q) where
  pub here : (c : C) → Reaches next c 0 c
  here c = (0, (refl, refl))

  both_after : (x : Next C Q) (F G : C → ℕ → Type 0) (P : Type 0) (j k : ℕ) → ((e : C) (i h : ℕ) → F e i → G e h → (i ≡ h) × P) → After x F j → After x G k → (j ≡ k) × P
  both_after (tick e) F G P zero k f a b = absurd a
  both_after (tick e) F G P (suc j) zero f a b = absurd b
  both_after (tick e) F G P (suc j) (suc k) f a b = let r = f e j k a b in (ap suc r.0, r.1)
  both_after (quiet e) F G P j k f a b = f e j k a b
  both_after (asks q) F G P j k f a b = absurd a
  both_after stuck F G P j k f a b = absurd a

  one_stand_in : (m n : ℕ) (c d e : C) (j k : ℕ) (q r : Q) → Steps next m c j d → next d ≡ asks q → Steps next n c k e → next e ≡ asks r → (j ≡ k) × (d ≡ e)
  one_stand_in zero zero c d e j k q r s eq t er = (s.0 ∙ sym t.0, sym s.1 ∙ t.1)
  one_stand_in zero (suc n) c d e j k q r s eq t er =
      absurd (subst (λ x. After x (λ a i. Steps next n a i e) k) (ap next s.1 ∙ eq) t)
  one_stand_in (suc m) zero c d e j k q r s eq t er =
      absurd (subst (λ x. After x (λ a i. Steps next m a i d) j) (ap next t.1 ∙ er) s)
  one_stand_in (suc m) (suc n) c d e j k q r s eq t er =
      both_after (next c) (λ a i. Steps next m a i d) (λ a i. Steps next n a i e) (d ≡ e) j k (λ a i h f g. one_stand_in m n a d e i h q r f eq g er) s t

  pub one_stand : (c d e : C) (j k : ℕ) (q r : Q) → Stands next c j q d → Stands next c k r e → (j ≡ k) × (d ≡ e)
  one_stand c d e j k q r s t = one_stand_in s.0.0 t.0.0 c d e j k q r s.0.1 s.1 t.0.1 t.1

  pub one_request : (c d e : C) (j k : ℕ) (q r : Q) → Stands next c j q d → Stands next c k r e → q ≡ r
  one_request c d e j k q r s t =
      let same = sym s.1 ∙ ap next (one_stand c d e j k q r s t).1 ∙ t.1 in
      let eq : q ≡ r = cc same in eq

  both_le : (x : Next C Q) (F G : C → ℕ → Type 0) (j k : ℕ) → ((e : C) (i h : ℕ) → F e i → G e h → h ≤ i) → After x F j → After x G k → k ≤ j
  both_le (tick e) F G zero k f a b = absurd a
  both_le (tick e) F G (suc j) zero f a b = absurd b
  both_le (tick e) F G (suc j) (suc k) f a b = let r = f e j k a b in omega arith
  both_le (quiet e) F G j k f a b = f e j k a b
  both_le (asks q) F G j k f a b = absurd a
  both_le stuck F G j k f a b = absurd a

  no_later_in : (m n : ℕ) (c d e : C) (j k : ℕ) (q : Q) → Steps next m c j d → next d ≡ asks q → Steps next n c k e → k ≤ j
  no_later_in zero zero c d e j k q s eq t = omega (arith, s.0, t.0)
  no_later_in zero (suc n) c d e j k q s eq t =
      absurd (subst (λ x. After x (λ a i. Steps next n a i e) k) (ap next s.1 ∙ eq) t)
  no_later_in (suc m) zero c d e j k q s eq t = omega (arith, t.0)
  no_later_in (suc m) (suc n) c d e j k q s eq t =
      both_le (next c) (λ a i. Steps next m a i d) (λ a i. Steps next n a i e) j k (λ a i h f g. no_later_in m n a d e i h q f eq g) s t

  -- nothing is reached behind a request
  pub no_later : (c d e : C) (j k : ℕ) (q : Q) → Stands next c j q d → Reaches next c k e → k ≤ j
  no_later c d e j k q s t = no_later_in s.0.0 t.0 c d e j k q s.0.1 s.1 t.1

  -- one tick more, by what comes next at the end
  one_more_in : (n : ℕ) (c d e : C) (k : ℕ) → Steps next n c k d → next d ≡ tick e → Steps next (suc n) c (suc k) e
  one_more_in zero c d e k s eq =
      let z : k ≡ 0 = s.0 in
      let end : Steps next zero e k e = (z, refl) in
      subst (λ x. After x (λ a j. Steps next zero a j e) (suc k)) (sym (ap next s.1 ∙ eq)) end
  one_more_in (suc n) c d e k s eq = go (next c) k (λ a i h. one_more_in n a d e i h eq) s
    where
      go : (x : Next C Q) (k : ℕ) → ((a : C) (i : ℕ) → Steps next n a i d → Steps next (suc n) a (suc i) e) → After x (λ a i. Steps next n a i d) k → After x (λ a i. Steps next (suc n) a i e) (suc k)
      go (tick a) zero f h = absurd h
      go (tick a) (suc k) f h = f a k h
      go (quiet a) k f h = f a k h
      go (asks q) k f h = absurd h
      go stuck k f h = absurd h

  tick_of : (x : Next C Q) → IsTick x → (e : C) × (x ≡ tick e)
  tick_of (tick e) t = (e, refl)
  tick_of (quiet e) t = absurd t
  tick_of (asks q) t = absurd t
  tick_of stuck t = absurd t

  pub one_more : (c : C) (k : ℕ) → Ticks next c k → (e : C) × Reaches next c (suc k) e
  one_more c k (d, r, t) = let (e, eq) = tick_of (next d) t in (e, (suc r.0, one_more_in r.0 c d e k r.1 eq))
