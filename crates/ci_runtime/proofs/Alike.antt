-- What one of two machines does that make the same requests, the other does.
use Rattle.std.proofs.Common.{◌≡◌, ℕ, zero, suc, ◌≤◌, ◌⊎◌, inl, inr, refl, sym, ap, ◌∙◌, subst, arith}
use Rattle.ci_base.specs.Steps.{Next, tick, quiet, asks, stuck, After, Steps, Reaches, Stands}
use Rattle.ci_translation.specs.Alike.{Alike}
use Rattle.ci_world.proofs.Machines.{here, one_stand, no_later, one_more}
use Rattle.ci_world.specs.Serial.{IsTick, Ticks}

module _ {C Q : Type 0} (next : C → Next C Q) where
  -- where one tick more is reached, the tick comes before any request
  last_tick_in : (n : ℕ) (c e : C) (k : ℕ) → Steps next n c (suc k) e → Ticks next c k
  last_tick_in zero c e k s = absurd (omega (arith, s.0))
  last_tick_in (suc n) c e k s = go (next c) refl k (λ a i h. last_tick_in n a e i h) s
    where
      go : (x : Next C Q) → next c ≡ x → (k : ℕ) → ((a : C) (i : ℕ) → Steps next n a (suc i) e → Ticks next a i) → After x (λ a i. Steps next n a i e) (suc k) → Ticks next c k
      go (tick a) eq zero f h = (c, here next c, subst IsTick (sym eq) tt)
      go (tick a) eq (suc k) f h = let (d, r, t) = f a k h in (d, (suc r.0, subst (λ x. After x (λ b i. Steps next r.0 b i d) (suc k)) (sym eq) r.1), t)
      go (quiet a) eq k f h = let (d, r, t) = f a k h in (d, (suc r.0, subst (λ x. After x (λ b i. Steps next r.0 b i d) k) (sym eq) r.1), t)
      go (asks q) eq k f h = absurd h
      go stuck eq k f h = absurd h

  last_tick : (c e : C) (k : ℕ) → Reaches next c (suc k) e → Ticks next c k
  last_tick c e k r = last_tick_in r.0 c e k r.1

module _ {C D Q A : Type 0} (cnext : C → Next C Q) (cresume : C → A → C) (dnext : D → Next D Q) (dresume : D → A → D) (fits : Q → A → Type 0) where
  pub asks_back : (c : C) (d : D) → Alike cnext cresume dnext dresume fits c d → (k : ℕ) (q : Q) (d' : D) → Stands dnext d k q d' → (c' : C) × Stands cnext c k q c'
  asks_back c d alike k q d' t = go (alike (suc k))
    where
      go : ((j : ℕ) × (j ≤ suc k) × ((r : Q) × (c' : C) × (e : D) × Stands cnext c j r c' × Stands dnext d j r e)) ⊎ ((c' : C) × (e : D) × Reaches cnext c (suc k) c' × Reaches dnext d (suc k) e) → (c' : C) × Stands cnext c k q c'
      go (inl (j, le, m)) =
          let (r, c', e, s, u) = m in
          let x = one_stand dnext d e d' j k r q u t in
          let same = sym u.1 ∙ ap dnext x.1 ∙ t.1 in
          let eq : r ≡ q = cc same in
          (c', (subst (λ n. Reaches cnext c n c') x.0 s.0, s.1 ∙ ap asks eq))
      go (inr (c', e, s, u)) = let l = no_later dnext d d' e k (suc k) q t u in absurd (omega arith)

  reach_back : (c : C) (d : D) → Alike cnext cresume dnext dresume fits c d → (k : ℕ) (d' : D) → Reaches dnext d k d' → (c' : C) × Reaches cnext c k c'
  reach_back c d alike k d' t = go (alike k)
    where
      go : ((j : ℕ) × (j ≤ k) × ((r : Q) × (c' : C) × (e : D) × Stands cnext c j r c' × Stands dnext d j r e)) ⊎ ((c' : C) × (e : D) × Reaches cnext c k c' × Reaches dnext d k e) → (c' : C) × Reaches cnext c k c'
      go (inl (j, le, m)) =
          let (r, c', e, s, u) = m in
          let l = no_later dnext d e d' j k r u t in
          let eq : j ≡ k = omega arith in
          (c', subst (λ n. Reaches cnext c n c') eq s.0)
      go (inr (c', e, s, u)) = (c', s)

  pub ticks_back : (c : C) (d : D) → Alike cnext cresume dnext dresume fits c d → (k : ℕ) → Ticks dnext d k → Ticks cnext c k
  ticks_back c d alike k t =
      let (e, r) = one_more dnext d k t in
      let (c', s) = reach_back c d alike (suc k) e r in
      last_tick cnext c c' k s
