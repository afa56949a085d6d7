-- When two machines of one task make the same requests after the same ticks, whatever answers they get.
use Rattle.std.specs.Prelude.{◌≡◌, ℕ, ◌≤◌, ◌⊎◌, List, [], ◌∷◌}
use Rattle.ci_base.specs.Steps.{Next, Reaches, Stands}

module _ {C D Q A : Type 0} (cnext : C → Next C Q) (cresume : C → A → C) (dnext : D → Next D Q) (dresume : D → A → D) (fits : Q → A → Type 0) where
  -- both come to the same request after the same number of ticks
  abbrev pub MeetAt : C → D → ℕ → Type 0
  MeetAt c d j = (q : Q) × (c' : C) × (d' : D) × Stands cnext c j q c' × Stands dnext d j q d'

  -- both reach so many ticks
  abbrev pub BothReach : C → D → ℕ → Type 0
  BothReach c d k = (c' : C) × (d' : D) × Reaches cnext c k c' × Reaches dnext d k d'

  -- Up to the next request: for each number of ticks they meet within it, or both reach it. So they meet, or neither ever makes a
  -- request and both reach every number of ticks; which of the two it is, nobody need know.
  abbrev pub Alike : C → D → Type 0
  Alike c d = (k : ℕ) → ((j : ℕ) × (j ≤ k) × MeetAt c d j) ⊎ BothReach c d k

  -- so they do after each of these answers, as long as each fits the request at which they meet
  abbrev pub AlikeOn : List A → C → D → Type 0
  AlikeOn [] c d = Alike c d
  AlikeOn (a ∷ answers) c d =
      Alike c d × ((k : ℕ) (q : Q) (c' : C) (d' : D) → Stands cnext c k q c' → Stands dnext d k q d' → fits q a → AlikeOn answers (cresume c' a) (dresume d' a))

  -- and so after all answers
  abbrev pub Tracks : C → D → Type 0
  Tracks c d = (answers : List A) → AlikeOn answers c d

-- answers lead from one configuration to another: each fits the request at which the task stands
abbrev pub Led : {C Q A : Type 0} → (C → Next C Q) → (C → A → C) → (Q → A → Type 0) → C → List A → C → Type 0
Led next resume fits c [] e = e ≡ c
Led {C} {Q} next resume fits c (a ∷ answers) e = (k : ℕ) × (q : Q) × (d : C) × Stands next c k q d × fits q a × Led next resume fits (resume d a) answers e
