-- A machine that follows another, step by step, makes the same requests after the same ticks.
use Rattle.std.proofs.Common.{◌≡◌, ℕ, zero, suc, ◌+◌, ◌≤◌, ◌⊎◌, inl, inr, List, [], ◌∷◌, refl, sym, ap, ◌∙◌, subst, arith}
use Prim.Native.Nat.add
use Rattle.ci_base.specs.Steps.{Next, tick, quiet, asks, stuck, After, Steps, Reaches, Stands}
use Rattle.ci_translation.specs.Alike.{MeetAt, BothReach, AlikeOn, Tracks}

module _ {C Q : Type 0} (next : C → Next C Q) where
  pub here : (c : C) → Reaches next c 0 c
  here c = (0, (refl, refl))

  onward_of : (x : Next C Q) (c d : C) (k : ℕ) → next c ≡ x → After x (λ e i. Reaches next e i d) k → Reaches next c k d
  onward_of (tick e) c d zero eq h = absurd h
  onward_of (tick e) c d (suc k) eq h = (suc h.0, subst (λ x. After x (λ a i. Steps next h.0 a i d) (suc k)) (sym eq) h.1)
  onward_of (quiet e) c d k eq h = (suc h.0, subst (λ x. After x (λ a i. Steps next h.0 a i d) k) (sym eq) h.1)
  onward_of (asks q) c d k eq h = absurd h
  onward_of stuck c d k eq h = absurd h

  -- one more step in front
  pub by_tick : (c e d : C) (k : ℕ) → next c ≡ tick e → Reaches next e k d → Reaches next c (suc k) d
  by_tick c e d k eq h = onward_of (tick e) c d (suc k) eq h

  pub by_quiet : (c e d : C) (k : ℕ) → next c ≡ quiet e → Reaches next e k d → Reaches next c k d
  by_quiet c e d k eq h = onward_of (quiet e) c d k eq h

  later : (x : Next C Q) (F G : C → ℕ → Type 0) (j k : ℕ) → ((e : C) (i : ℕ) → F e i → G e (i + k)) → After x F j → After x G (j + k)
  later (tick e) F G zero k f h = absurd h
  later (tick e) F G (suc j) k f h = let eq : suc (j + k) ≡ suc j + k = omega arith in subst (After {Q = Q} (tick e) G) eq (f e j h)
  later (quiet e) F G j k f h = f e j h
  later (asks q) F G j k f h = absurd h
  later stuck F G j k f h = absurd h

  joined_in : (n : ℕ) (c d e : C) (j k : ℕ) → Steps next n c j d → Reaches next d k e → Reaches next c (j + k) e
  joined_in zero c d e j k s r =
      let eq : k ≡ j + k = omega (arith, s.0) in
      subst (λ i. Reaches next c i e) eq (subst (λ a. Reaches next a k e) (sym s.1) r)
  joined_in (suc n) c d e j k s r =
      onward_of (next c) c e (j + k) refl (later (next c) (λ a i. Steps next n a i d) (λ a i. Reaches next a i e) j k (λ a i h. joined_in n a d e i k h r) s)

  pub joined : (c d e : C) (j k : ℕ) → Reaches next c j d → Reaches next d k e → Reaches next c (j + k) e
  joined c d e j k r s = joined_in r.0 c d e j k r.1 s

  both_after : (x : Next C Q) (F G : C → ℕ → Type 0) (P : Type 0) (j k : ℕ) → ((e : C) (i h : ℕ) → F e i → G e h → (i ≡ h) × P) → After x F j → After x G k → (j ≡ k) × P
  both_after (tick e) F G P zero k f a b = absurd a
  both_after (tick e) F G P (suc j) zero f a b = absurd b
  both_after (tick e) F G P (suc j) (suc k) f a b = let r = f e j k a b in (ap suc r.0, r.1)
  both_after (quiet e) F G P j k f a b = f e j k a b
  both_after (asks q) F G P j k f a b = absurd a
  both_after stuck F G P j k f a b = absurd a

  -- a run ends at one request
  one_stand_in : (m n : ℕ) (c d e : C) (j k : ℕ) (q r : Q) → Steps next m c j d → next d ≡ asks q → Steps next n c k e → next e ≡ asks r → (j ≡ k) × (d ≡ e)
  one_stand_in zero zero c d e j k q r s eq t er = (s.0 ∙ sym t.0, sym s.1 ∙ t.1)
  one_stand_in zero (suc n) c d e j k q r s eq t er =
      absurd (subst (λ x. After x (λ a i. Steps next n a i e) k) (ap next s.1 ∙ eq) t)
  one_stand_in (suc m) zero c d e j k q r s eq t er =
      absurd (subst (λ x. After x (λ a i. Steps next m a i d) j) (ap next t.1 ∙ er) s)
  one_stand_in (suc m) (suc n) c d e j k q r s eq t er =
      both_after (next c) (λ a i. Steps next m a i d) (λ a i. Steps next n a i e) (d ≡ e) j k (λ a i h f g. one_stand_in m n a d e i h q r f eq g er) s t

  pub one_stand : (c d e : C) (j k : ℕ) (q r : Q) → Stands next c j q d → Stands next c k r e → (j ≡ k) × (d ≡ e)
  one_stand c d e j k q r s t = one_stand_in s.0.0 t.0.0 c d e j k q r s.0.1 s.1 t.0.1 t.1

module _ {C Q : Type 0} (next : C → Next C Q) where
  both_le : (x : Next C Q) (F G : C → ℕ → Type 0) (j k : ℕ) → ((e : C) (i h : ℕ) → F e i → G e h → h ≤ i) → After x F j → After x G k → k ≤ j
  both_le (tick e) F G zero k f a b = absurd a
  both_le (tick e) F G (suc j) zero f a b = absurd b
  both_le (tick e) F G (suc j) (suc k) f a b = let r = f e j k a b in omega arith
  both_le (quiet e) F G j k f a b = f e j k a b
  both_le (asks q) F G j k f a b = absurd a
  both_le stuck F G j k f a b = absurd a

  no_later_in : (m n : ℕ) (c d e : C) (j k : ℕ) (q : Q) → Steps next m c j d → next d ≡ asks q → Steps next n c k e → k ≤ j
  no_later_in zero zero c d e j k q s eq t = omega (arith, s.0, t.0)
  no_later_in zero (suc n) c d e j k q s eq t =
      absurd (subst (λ x. After x (λ a i. Steps next n a i e) k) (ap next s.1 ∙ eq) t)
  no_later_in (suc m) zero c d e j k q s eq t = omega (arith, t.0)
  no_later_in (suc m) (suc n) c d e j k q s eq t =
      both_le (next c) (λ a i. Steps next m a i d) (λ a i. Steps next n a i e) j k (λ a i h f g. no_later_in m n a d e i h q f eq g) s t

  -- nothing is reached after a request
  pub no_later : (c d e : C) (j k : ℕ) (q : Q) → Stands next c j q d → Reaches next c k e → k ≤ j
  no_later c d e j k q s t = no_later_in s.0.0 t.0 c d e j k q s.0.1 s.1 t.1

-- the move is a tick, or a request
abbrev pub TicksOrAsks : {C Q : Type 0} → Next C Q → Type 0
TicksOrAsks (tick c) = Unit {0}
TicksOrAsks (quiet c) = ⊥
TicksOrAsks (asks q) = Unit {0}
TicksOrAsks stuck = ⊥

module _ {C D Q A : Type 0} (cnext : C → Next C Q) (cresume : C → A → C) (dnext : D → Next D Q) (dresume : D → A → D) (fits : Q → A → Type 0) (R : C → D → Type 0) where
  -- d follows what c does next
  abbrev pub Follows : C → Next C Q → D → Type 0
  Follows c (tick c') d = (d' : D) × Reaches dnext d 1 d' × R c' d'
  Follows c (quiet c') d = (d' : D) × Reaches dnext d 0 d' × R c' d'
  Follows c (asks q) d = (d' : D) × Reaches dnext d 0 d' × (dnext d' ≡ asks q) × ((a : A) → fits q a → R (cresume c a) (dresume d' a))
  Follows c stuck d = ⊥

  abbrev Meets : C → D → ℕ → Type 0
  Meets c d j = (q : Q) × (c' : C) × (d' : D) × Stands cnext c j q c' × Stands dnext d j q d' × ((a : A) → fits q a → R (cresume c' a) (dresume d' a))

  abbrev Related : C → D → ℕ → Type 0
  Related c d k = ((j : ℕ) × (j ≤ k) × Meets c d j) ⊎ ((c' : C) × (d' : D) × Reaches cnext c k c' × Reaches dnext d k d' × R c' d')

  one_more : (i : ℕ) → 1 + i ≡ suc i
  one_more i = omega arith

  by_one_tick : (c c1 : C) (d d1 : D) (k : ℕ) → cnext c ≡ tick c1 → Reaches dnext d 1 d1 → Related c1 d1 k → Related c d (suc k)
  by_one_tick c c1 d d1 k eq r (inl (j, le, m)) =
      let (q, c', d', s, t, f) = m in
      inl (suc j, omega arith, (q, c', d', (by_tick cnext c c1 c' j eq s.0, s.1), (subst (λ i. Reaches dnext d i d') (one_more j) (joined dnext d d1 d' 1 j r t.0), t.1), f))
  by_one_tick c c1 d d1 k eq r (inr (c', d', s, t, rel)) =
      inr (c', d', by_tick cnext c c1 c' k eq s, subst (λ i. Reaches dnext d i d') (one_more k) (joined dnext d d1 d' 1 k r t), rel)

  by_no_tick : (c c1 : C) (d d1 : D) (k : ℕ) → cnext c ≡ quiet c1 → Reaches dnext d 0 d1 → Related c1 d1 k → Related c d k
  by_no_tick c c1 d d1 k eq r (inl (j, le, m)) =
      let (q, c', d', s, t, f) = m in
      inl (j, le, (q, c', d', (by_quiet cnext c c1 c' j eq s.0, s.1), (subst (λ i. Reaches dnext d i d') (add.zero j) (joined dnext d d1 d' 0 j r t.0), t.1), f))
  by_no_tick c c1 d d1 k eq r (inr (c', d', s, t, rel)) =
      inr (c', d', by_quiet cnext c c1 c' k eq s, subst (λ i. Reaches dnext d i d') (add.zero k) (joined dnext d d1 d' 0 k r t), rel)

  -- from each c finitely many private steps lead to a tick or a request
  module _ (soon : (c : C) → (n : ℕ) × (d : C) × Steps cnext n c 0 d × TicksOrAsks (cnext d)) (follow : (c : C) (d : D) → R c d → Follows c (cnext c) d) where
    step_related : (k : ℕ) → ((c : C) (d : D) → R c d → Related c d k) → (c : C) (d : D) → ((c1 : C) (d1 : D) → cnext c ≡ quiet c1 → R c1 d1 → Related c1 d1 (suc k)) → (x : Next C Q) → cnext c ≡ x → Follows c x d → Related c d (suc k)
    step_related k rest c d again (tick c1) eq (d1, s, r1) = by_one_tick c c1 d d1 k eq s (rest c1 d1 r1)
    step_related k rest c d again (quiet c1) eq (d1, s, r1) = by_no_tick c c1 d d1 (suc k) eq s (again c1 d1 eq r1)
    step_related k rest c d again (asks q) eq (d1, s, e, f) = inl (0, omega arith, (q, c, d1, (here cnext c, eq), (s, e), f))
    step_related k rest c d again stuck eq f = absurd f

    related_next : (k : ℕ) → ((c : C) (d : D) → R c d → Related c d k) → (n : ℕ) (c e : C) (d : D) → Steps cnext n c 0 e → TicksOrAsks (cnext e) → R c d → Related c d (suc k)
    related_next k rest zero c e d s ends r =
        step_related k rest c d (λ c1 d1 eq r1. absurd (subst TicksOrAsks (ap cnext (sym s.1) ∙ eq) ends)) (cnext c) refl (follow c d r)
    related_next k rest (suc n) c e d s ends r =
        step_related k rest c d (λ c1 d1 eq r1. related_next k rest n c1 e d1 (subst (λ x. After x (λ a i. Steps cnext n a i e) 0) eq s) ends r1) (cnext c) refl (follow c d r)

    pub related : (k : ℕ) (c : C) (d : D) → R c d → Related c d k
    related zero c d r = inr (c, d, here cnext c, here dnext d, r)
    related (suc k) c d r = let (n, e, s, ends) = soon c in related_next k (related k) n c e d s ends r

    weaker : (c : C) (d : D) (k : ℕ) → Related c d k → ((j : ℕ) × (j ≤ k) × MeetAt cnext cresume dnext dresume fits c d j) ⊎ BothReach cnext cresume dnext dresume fits c d k
    weaker c d k (inl (j, le, m)) = let (q, c', d', s, t, f) = m in inl (j, le, (q, c', d', s, t))
    weaker c d k (inr (c', d', s, t, r)) = inr (c', d', s, t)

    -- what meets at a request is related after each answer
    after_answer : (c : C) (d : D) (a : A) → R c d → (k : ℕ) (q : Q) (c' : C) (d' : D) → Stands cnext c k q c' → Stands dnext d k q d' → fits q a → R (cresume c' a) (dresume d' a)
    after_answer c d a r k q c' d' s t fit = go (related (suc k) c d r)
      where
        go : Related c d (suc k) → R (cresume c' a) (dresume d' a)
        go (inl (j, le, m)) =
            let (r', c1, d1, s1, t1, f) = m in
            let e = (one_stand cnext c c1 c' j k r' q s1 s).1 in
            let g = (one_stand dnext d d1 d' j k r' q t1 t).1 in
            let same = sym s1.1 ∙ ap cnext e ∙ s.1 in
            let eq : r' ≡ q = cc same in
            subst (λ x. R (cresume c' a) (dresume x a)) g (subst (λ x. R (cresume x a) (dresume d1 a)) e (f a (subst (λ x. fits x a) (sym eq) fit)))
        go (inr (c1, d1, u, v, r1)) = let l = no_later cnext c c' c1 k (suc k) q s u in absurd (omega arith)

    pub alike_on : (answers : List A) (c : C) (d : D) → R c d → AlikeOn cnext cresume dnext dresume fits answers c d
    alike_on [] c d r = λ k. weaker c d k (related k c d r)
    alike_on (a ∷ answers) c d r = ((λ k. weaker c d k (related k c d r)), (λ k q c' d' s t f. alike_on answers (cresume c' a) (dresume d' a) (after_answer c d a r k q c' d' s t f)))

    pub tracks : (c : C) (d : D) → R c d → Tracks cnext cresume dnext dresume fits c d
    tracks c d r answers = alike_on answers c d r
