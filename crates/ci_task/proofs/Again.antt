-- A machine that stands at a request answers it again.
use Rattle.std.proofs.Common.{◌≡◌, ℕ, zero, suc, ◌+◌, min, List, [], ◌∷◌, Some, refl, sym, ap, ◌∙◌, subst, arith}
use Rattle.ci_base.specs.declared.reply.Answer.{Answer}
use Rattle.ci_base.specs.declared.request.Request.{Request}
use Rattle.ci_base.specs.declared.task.Birth.{Birth}
use Rattle.ci_base.specs.declared.task.Trail.{Trail}
use Rattle.ci_base.specs.Steps.{tick, quiet, asks, stuck, After, Steps, Stands}
use Rattle.ci_code.specs.declared.raw.RawParts.{RawParts}
use Rattle.ci_code.specs.Machine.{next, opening, resume}
use Rattle.ci_code.specs.Moves.{Machine, Move}
use Rattle.ci_task.specs.declared.machine.Pause.{Pause}
use Rattle.ci_task.specs.declared.machine.Pause.TheVariants as pauses
use Rattle.ci_task.specs.Running.{IsTick, most_counted}
use Rattle.ci_task.specs.Moved.{Standing, machine_of, Led, HasMoved, moved, Paused}

-- Of two runs from one machine, of which one ends at a request, the other is its beginning

-- what is left of the longer run
record Rest (go : Machine → Move) (n m k j : ℕ) (e d : Machine) : Type 0 where
  number : ℕ
  ticks : ℕ
  more : n ≡ m + number
  used : k ≡ j + ticks
  steps : Steps go number e ticks d

after_both : (x : Move) (F G : Machine → ℕ → Type 0) (P : ℕ → ℕ → Type 0) (k j : ℕ) → ((b : Machine) (k j : ℕ) → F b k → G b j → P k j) → ((k j : ℕ) → P k j → P (suc k) (suc j)) → After x F k → After x G j → P k j
after_both (tick c) F G P zero j f up a b = absurd a
after_both (tick c) F G P (suc k) zero f up a b = absurd b
after_both (tick c) F G P (suc k) (suc j) f up a b = up k j (f c k j a b)
after_both (quiet c) F G P k j f up a b = f c k j a b
after_both (asks q) F G P k j f up a b = absurd a
after_both stuck F G P k j f up a b = absurd a

begins_so : (go : Machine → Move) (n m : ℕ) (c d e : Machine) (k j : ℕ) (q : Request) → go d ≡ asks q → Steps go n c k d → Steps go m c j e → Rest go n m k j e d
begins_so go n zero c d e k j q h s t = record {
  number = n;
  ticks = k;
  more = omega arith;
  used = omega (arith, t.0);
  steps = subst (λ (b : Machine). Steps go n b k d) t.1 s;
}
begins_so go zero (suc m) c d e k j q h s t =
    let F : Machine → ℕ → Type 0 = λ b i. Steps go m b i e in
    absurd (subst (λ (x : Move). After x F j) (ap go s.1 ∙ h) t)
begins_so go (suc n) (suc m) c d e k j q h s t =
    after_both (go c) (λ b i. Steps go n b i d) (λ b i. Steps go m b i e) (λ a b. Rest go (suc n) (suc m) a b e d) k j
    (λ b a i f g. one_more a i (begins_so go n m b d e a i q h f g))
    (λ a i r. record { number = r.number; ticks = r.ticks; more = r.more; used = omega (arith, r.used); steps = r.steps })
    s t
  where
    one_more : (a i : ℕ) → Rest go n m a i e d → Rest go (suc n) (suc m) a i e d
    one_more a i r = record { number = r.number; ticks = r.ticks; more = omega (arith, r.more); used = r.used; steps = r.steps }

-- no step leads on from a request
stays : (go : Machine → Move) (n : ℕ) (c d : Machine) (k : ℕ) (q : Request) → go c ≡ asks q → Steps go n c k d → (n ≡ 0) × (k ≡ 0) × (c ≡ d)
stays go zero c d k q h s = (refl, s.0, s.1)
stays go (suc n) c d k q h s =
    let F : Machine → ℕ → Type 0 = λ b i. Steps go n b i d in
    absurd (subst (λ (x : Move). After x F k) h s)

-- The answers of a trail lead to one machine

one_stand : (go : Machine → Move) (c d e : Machine) (k j : ℕ) (q r : Request) → Stands go c k q d → Stands go c j r e → d ≡ e
one_stand go c d e k j q r s t =
    let rest = begins_so go s.0.0 t.0.0 c d e k j q s.1 s.0.1 t.0.1 in
    sym (stays go rest.number e d rest.ticks r t.1 rest.steps).2

one_led : (code : RawParts) (answers : List Answer) (m m' d e : Machine) → m ≡ m' → Led code m answers d → Led code m' answers e → d ≡ e
one_led code [] m m' d e same l k = l ∙ same ∙ sym k
one_led code (answer ∷ more) m m' d e same l k =
    let k' : Led code m (answer ∷ more) e = subst (λ (x : Machine). Led code x (answer ∷ more) e) (sym same) k in
    one_led code more (resume code l.2 answer) (resume code k'.2 answer) d e (ap (λ (x : Machine). resume code x answer) (one_stand (next code) m l.2 k'.2 l.0 k'.0 l.1 k'.1 l.3 k'.3)) l.5 k'.5

one_birth : (a b : Birth) → Some a ≡ Some b → a ≡ b
one_birth a b h = cc h

one_start : (code : RawParts) (trail : Trail) (j k : ℕ) (s s' : Standing) → (h : HasMoved code trail j s) → (h' : HasMoved code trail k s') → h.start ≡ h'.start
one_start code trail j k s s' h h' =
    let same : h.birth ≡ h'.birth = one_birth h.birth h'.birth (sym h.born ∙ h'.born) in
    one_led code trail.answers (opening code h.birth.function h.birth.args) (opening code h'.birth.function h'.birth.args) h.start h'.start (ap (λ (b : Birth). opening code b.function b.args) same) h.led h'.led

-- A later machine of the trail stands before the request, or at it

one_request : (x y : Request) (m : Move) → m ≡ asks x → m ≡ asks y → x ≡ y
one_request x y m h k = asked_same (sym h ∙ k)
  where
    asking : Request → Move
    asking r = asks r

    asked_same : asking x ≡ asking y → x ≡ y
    asked_same e = cc e

left : (code : RawParts) (trail : Trail) (before ticks : ℕ) (s s' : Standing) (q : Request) → next code (machine_of code s) ≡ asks q → (h : HasMoved code trail before s) → (h' : HasMoved code trail (before + ticks) s') → Rest (next code) h.number h'.number before (before + ticks) (machine_of code s') (machine_of code s)
left code trail before ticks s s' q asked h h' =
    begins_so (next code) h.number h'.number h.start (machine_of code s) (machine_of code s') before (before + ticks) q asked h.steps
    (subst (λ (c : Machine). Steps (next code) h'.number c (before + ticks) (machine_of code s')) (sym (one_start code trail before (before + ticks) s s' h h')) h'.steps)

-- where a tick comes next, no step without a tick leads on
not_past : (x : Move) (F : Machine → ℕ → Type 0) (k : ℕ) → k ≡ 0 → IsTick x → After x F k → ⊥
not_past (tick c) F k none is a =
    let P : ℕ → Type 0 = λ i. After {C = Machine} {Q = Request} (tick c) F i in
    subst P none a
not_past (quiet c) F k none is a = is
not_past (asks q) F k none is a = is
not_past stuck F k none is a = is

never_ticks : (go : Machine → Move) (n : ℕ) (c d : Machine) (k : ℕ) (q : Request) → k ≡ 0 → IsTick (go c) → go d ≡ asks q → Steps go n c k d → ⊥
never_ticks go zero c d k q none is h s = subst IsTick (ap go s.1 ∙ h) is
never_ticks go (suc n) c d k q none is h s = not_past (go c) (λ b i. Steps go n b i d) k none is s

pub answers_again : (code : RawParts) (trail : Trail) (before granted : ℕ) (s s' : Standing) (q : Request) (pause : Pause) → moved code trail before s → next code (machine_of code s) ≡ asks q → Paused code trail before granted pause s' → (pause ≡ pauses.Asks q 0) × (machine_of code s' ≡ machine_of code s) × (s'.count ≡ s.count)
unfolding moved Paused
answers_again code trail before granted s s' q (pauses.Asks r ticks) h asked p =
    let rest = left code trail before ticks s s' q asked h p.1 in
    let still = stays (next code) rest.number (machine_of code s') (machine_of code s) rest.ticks r p.2 rest.steps in
    let none : ticks ≡ 0 = omega (arith, rest.used) in
    let same : r ≡ q = one_request r q (next code (machine_of code s')) p.2 (ap (next code) still.2 ∙ asked) in
    let number : p.1.number ≡ h.number = omega (arith, rest.more, still.0) in (
      ap (λ (x : Request). pauses.Asks x ticks) same ∙ ap (λ n. pauses.Asks q n) none,
      still.2,
      p.1.counted ∙ ap (λ n. min n most_counted) number ∙ sym h.counted,
    )
answers_again code trail before granted s s' q (pauses.OutOfTicks ticks) h asked p =
    let rest = left code trail before ticks s s' q asked h p.1 in
    let none : rest.ticks ≡ 0 = omega (arith, rest.used) in
    absurd (never_ticks (next code) rest.number (machine_of code s') (machine_of code s) rest.ticks q none p.2 asked rest.steps)
