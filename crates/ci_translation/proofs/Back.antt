-- What the code does, the tree does.
use Rattle.std.proofs.Common.{◌≡◌, ℕ, suc, ◌≤◌, ◌⊎◌, inl, inr, List, [], ◌∷◌, sym, ap, ◌∙◌, subst, arith}
use Rattle.ci_base.specs.Steps.{Next, asks, Reaches, Stands}
use Rattle.ci_translation.specs.Alike.{Alike, Tracks, Led}
use Rattle.ci_translation.proofs.Follow.{one_stand, no_later}

module _ {C D Q A : Type 0} (cnext : C → Next C Q) (cresume : C → A → C) (dnext : D → Next D Q) (dresume : D → A → D) (fits : Q → A → Type 0) where
  pub asks_back : (c : C) (d : D) → Alike cnext cresume dnext dresume fits c d → (k : ℕ) (q : Q) (d' : D) → Stands dnext d k q d' → (c' : C) × Stands cnext c k q c'
  asks_back c d alike k q d' t = go (alike (suc k))
    where
      go : ((j : ℕ) × (j ≤ suc k) × ((r : Q) × (c' : C) × (e : D) × Stands cnext c j r c' × Stands dnext d j r e)) ⊎ ((c' : C) × (e : D) × Reaches cnext c (suc k) c' × Reaches dnext d (suc k) e) → (c' : C) × Stands cnext c k q c'
      go (inl (j, le, m)) =
          let (r, c', e, s, u) = m in
          let x = one_stand dnext d e d' j k r q u t in
          let same = sym u.1 ∙ ap dnext x.1 ∙ t.1 in
          let eq : r ≡ q = cc same in
          (c', (subst (λ n. Reaches cnext c n c') x.0 s.0, s.1 ∙ ap asks eq))
      go (inr (c', e, s, u)) = let l = no_later dnext d d' e k (suc k) q t u in absurd (omega arith)

  pub reach_back : (c : C) (d : D) → Alike cnext cresume dnext dresume fits c d → (k : ℕ) (d' : D) → Reaches dnext d k d' → (c' : C) × Reaches cnext c k c'
  reach_back c d alike k d' t = go (alike k)
    where
      go : ((j : ℕ) × (j ≤ k) × ((r : Q) × (c' : C) × (e : D) × Stands cnext c j r c' × Stands dnext d j r e)) ⊎ ((c' : C) × (e : D) × Reaches cnext c k c' × Reaches dnext d k e) → (c' : C) × Reaches cnext c k c'
      go (inl (j, le, m)) =
          let (r, c', e, s, u) = m in
          let l = no_later dnext d e d' j k r u t in
          let eq : j ≡ k = omega arith in
          (c', subst (λ n. Reaches cnext c n c') eq s.0)
      go (inr (c', e, s, u)) = (c', s)

  one_request : (c d e : C) (j k : ℕ) (q r : Q) → Stands cnext c j q d → Stands cnext c k r e → q ≡ r
  one_request c d e j k q r s t = let same = sym s.1 ∙ ap cnext ((one_stand cnext c d e j k q r s t).1) ∙ t.1 in cc same

  -- behind an answer the one still tracks the other
  pub answered : (c : C) (d : D) → Tracks cnext cresume dnext dresume fits c d → (k : ℕ) (q : Q) (c' : C) (d' : D) → Stands cnext c k q c' → Stands dnext d k q d' → (a : A) → fits q a → Tracks cnext cresume dnext dresume fits (cresume c' a) (dresume d' a)
  answered c d h k q c' d' s t a f answers = (h (a ∷ answers)).1 k q c' d' s t f

  -- led by the same answers, the one still tracks the other
  pub led_tracks : (answers : List A) (c c' : C) (d d' : D) → Tracks cnext cresume dnext dresume fits c d → Led cnext cresume fits c answers c' → Led dnext dresume fits d answers d' → Tracks cnext cresume dnext dresume fits c' d'
  led_tracks [] c c' d d' h l m = subst (λ x. Tracks cnext cresume dnext dresume fits x d') (sym l) (subst (λ y. Tracks cnext cresume dnext dresume fits c y) (sym m) h)
  led_tracks (a ∷ more) c c' d d' h (k, q, e, s, f, l) (k', q', e', s', f', l') =
      let (e1, s1) = asks_back c d (h []) k' q' e' s' in
      let x = one_stand cnext c e e1 k k' q q' s s1 in
      let y : q ≡ q' = one_request c e e1 k k' q q' s s1 in
      let s2 : Stands dnext d k q e' = subst (λ (z : Q). Stands dnext d k z e') (sym y) (subst (λ (n : ℕ). Stands dnext d n q' e') (sym x.0) s') in
      led_tracks more (cresume e a) c' (dresume e' a) d' (answered c d h k q e e' s s2 a f) l l'
