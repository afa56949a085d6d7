-- What any machine of one task does: private steps, of which some are ticks, up to a request.
use Rattle.std.specs.Prelude.{◌≡◌, ℕ, zero, suc}

-- What a configuration does next: a private step, which is a tick or not, or it stands at a request. A machine of code that is no
-- code has a fourth case, in which nothing can be done.
pub data Next (C Q : Type 0) : Type 0 where
  tick : (next : C) → Next C Q
  quiet : (next : C) → Next C Q
  asks : (request : Q) → Next C Q
  stuck : Next C Q

-- what holds of the next configuration and of the ticks that are left, where it is reached by a private step
abbrev pub After : {C Q : Type 0} → Next C Q → (C → ℕ → Type 0) → ℕ → Type 0
After (tick c) F zero = ⊥
After (tick c) F (suc k) = F c k
After (quiet c) F k = F c k
After (asks q) F k = ⊥
After stuck F k = ⊥

-- n private steps lead from one configuration to another, and k of them are ticks
abbrev pub Steps : {C Q : Type 0} → (C → Next C Q) → ℕ → C → ℕ → C → Type 0
Steps next zero c k d = (k ≡ 0) × (c ≡ d)
Steps next (suc n) c k d = After (next c) (λ e j. Steps next n e j d) k

-- private steps lead from one configuration to another, and exactly k of them are ticks
abbrev pub Reaches : {C Q : Type 0} → (C → Next C Q) → C → ℕ → C → Type 0
Reaches next c k d = (n : ℕ) × Steps next n c k d

-- and there it stands at the request
abbrev pub Stands : {C Q : Type 0} → (C → Next C Q) → C → ℕ → Q → C → Type 0
Stands next c k q d = Reaches next c k d × (next d ≡ asks q)
