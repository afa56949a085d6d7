-- One instruction of a function, from the shape before it and the shape behind it.
use Rattle.std.proofs.Common.{◌≡◌, ℕ, suc, ◌+◌, ◌-◌, ◌<◌, ◌≤◌, inl, inr, ⊎_elim, List, [], ◌∷◌, ◌++◌, length, Some, refl, sym, ap, ◌∙◌, subst, arith, length-append}
use Rattle.std.proofs.lemmas.Bool.{cases_lt}
use Rattle.std.proofs.lemmas.List.{append-nil, append_assoc}
use Rattle.std.proofs.lemmas.Option.{slice_get_within}
use Rattle.std.specs.Prelude.{slice_get, option_map, unwrap_or}
use Rattle.ci_base.specs.declared.bounds.TheConstants.{MOST_ROOM}
use Rattle.ci_base.specs.declared.layout.CellHead.{CellHead}
use Rattle.ci_base.specs.declared.value.Kind.{Kind}
use Rattle.ci_base.specs.declared.value.Kind.TheVariants.{Int, Str}
use Rattle.ci_code.specs.declared.instruction.Instruction.{Instruction}
use Rattle.ci_code.specs.declared.instruction.Instruction.TheVariants as does
use Rattle.ci_code.specs.declared.raw.Cells.{Cells}
use Rattle.ci_code.specs.declared.raw.RawFunction.{RawFunction}
use Rattle.ci_code.specs.declared.raw.RawParts.{RawParts}
use Rattle.ci_translation.proofs.Lists.{take_front}
use Rattle.ci_translation.proofs.Machines.{cell_there, array_there}
use Rattle.ci_translation.proofs.Matches.{IsRight}
use Rattle.ci_translation.specs.Instructions.{reading, writing}
use Rattle.ci_translation.specs.Stands.{Scope, Is, Pushes, scope_of, IsFunctionOf}
use Rattle.ci_tree.specs.Bound as to
use Rattle.ci_tree.specs.Bound.{Scalar, Function, Project}
use Rattle.ci_tree.specs.Sound.{scalar_kind, array_kind}
use Rattle.ci_verify.specs.Kinds.{listed, top_kind, second_kind, takes_of, leaves_of, below, stays_of, after_of}
use Rattle.ci_verify.specs.Laws.{IsFine}
use Rattle.ci_verify.specs.Rules.{Stands, TickAt, Named, GoesOn, JumpsAhead}
use Rattle.ci_verify.specs.Ways.{way_of}

-- Shapes

-- with that shape a place begins
abbrev pub Begins : Scope → List Kind → ℕ → Type 0
Begins s b p = Stands s.code s.function p b

pub begins : {s : Scope} {b : List Kind} {p : ℕ} {what : Instruction} → Is s b p what → Begins s b p
begins {what = what} h = record { step = record { shape = h.shape; what = what }; at = record { found = h.found; shape = h.shaped } }

pub begins_from : (s : Scope) (b : List Kind) (p q : ℕ) → q ≡ p → Begins s b q → Begins s b p
begins_from s b p q e h = subst (Begins s b) e h

-- what lies in front of two kinds, or of more, is one shape
pub joined : (s : Scope) (b xs ys : List Kind) (p : ℕ) → Begins s (b ++ (xs ++ ys)) p → Begins s ((b ++ xs) ++ ys) p
joined s b xs ys p h = subst (λ x. Begins s x p) (sym (append_assoc b xs ys)) h

pub split : (s : Scope) (b xs ys : List Kind) (p : ℕ) → Begins s ((b ++ xs) ++ ys) p → Begins s (b ++ (xs ++ ys)) p
split s b xs ys p h = subst (λ x. Begins s x p) (append_assoc b xs ys) h

at_last : (b : List Kind) (xs : List Kind) (i : ℕ) → slice_get (b ++ xs) (length b + i) ≡ slice_get xs i
at_last [] xs i = let e : 0 + i ≡ i = omega arith in ap (slice_get xs) e
at_last (k ∷ b) xs i = let e : suc (length b) + i ≡ suc (length b + i) = omega arith in ap (slice_get (k ∷ (b ++ xs))) e ∙ at_last b xs i

top_at : (b xs : List Kind) (i : ℕ) (k : Kind) → length xs ≡ suc i → slice_get xs i ≡ Some k → top_kind (b ++ xs) ≡ k
top_at b xs i k n e =
    let at : length (b ++ xs) - 1 ≡ length b + i = omega (arith, length-append b xs) in
    ap (λ j. unwrap_or (slice_get (b ++ xs) j) Int) at ∙ ap (λ o. unwrap_or o Int) (at_last b xs i ∙ e)

pub top_one : (b : List Kind) (k : Kind) → top_kind (b ++ k ∷ []) ≡ k
top_one b k = top_at b (k ∷ []) 0 k refl refl

pub top_two : (b : List Kind) (j k : Kind) → top_kind (b ++ j ∷ k ∷ []) ≡ k
top_two b j k = top_at b (j ∷ k ∷ []) 1 k refl refl

pub second_two : (b : List Kind) (j k : Kind) → second_kind (b ++ j ∷ k ∷ []) ≡ j
second_two b j k =
    let at : length (b ++ j ∷ k ∷ []) - 2 ≡ length b + 0 = omega (arith, length-append b (j ∷ k ∷ [])) in
    ap (λ i. unwrap_or (slice_get (b ++ j ∷ k ∷ []) i) Int) at ∙ ap (λ o. unwrap_or o Int) (at_last b (j ∷ k ∷ []) 0)

-- A place at which all is fine

pub record FineAt (s : Scope) (p : ℕ) : Type 0 where
  pub before : List Kind
  pub what : Instruction
  pub is : Is s before p what
  pub fine : IsFine s.code s.function p before what

-- and all places from one up to another
abbrev pub Fine : Scope → ℕ → ℕ → Type 0
Fine s p q = (n : ℕ) → p ≤ n → n < q → FineAt s n

pub one : (s : Scope) (p q : ℕ) → q ≡ p + 1 → FineAt s p → Fine s p q
one s p q e f n a b = let same : p ≡ n = omega arith in subst (FineAt s) same f

pub both : (s : Scope) (p m q : ℕ) → Fine s p m → Fine s m q → Fine s p q
both s p m q f g n a b = ⊎_elim (λ lt. f n a lt) (λ le. g n le b) (cases_lt n m)

pub nothing : (s : Scope) (p q : ℕ) → p ≡ q → Fine s p q
nothing s p q e n a b = absurd (omega arith)

-- an instruction in front
pub line : (s : Scope) (p q : ℕ) → FineAt s p → Fine s (p + 1) q → Fine s p q
line s p q f g = both s p (p + 1) q (one s p (p + 1) refl f) g

-- What an instruction takes and leaves

pub record Effect (s : Scope) (before taken left : List Kind) (what : Instruction) : Type 0 where
  pub takes : takes_of s.code s.function before what ≡ taken
  pub stays : stays_of s.code s.function before what ≡ below before (takes_of s.code s.function before what)
  pub leaves : leaves_of s.code s.function before what ≡ left

below_is : (b taken : List Kind) → below (b ++ taken) taken ≡ b
below_is b taken = take_front b taken (length (b ++ taken) - length taken) (omega (arith, length-append b taken))

-- a function has some room, and not too much
pub record Roomy (s : Scope) : Type 0 where
  pub some : 0 < s.function.room
  pub most : s.function.room ≤ MOST_ROOM

-- there is room for n operands above those
abbrev pub Wide : Scope → List Kind → ℕ → Type 0
Wide s b n = length s.function.locals + length b + n ≤ s.function.room

module _ (s : Scope) (roomy : Roomy s) where
  -- an instruction takes some operands above b, and leaves others there
  pub fine : (b taken left : List Kind) (p : ℕ) (what : Instruction) (n : ℕ) → Is s (b ++ taken) p what → Effect s (b ++ taken) taken left what → Named s.code s.function what → GoesOn s.code s.function p (b ++ left) (way_of what) → JumpsAhead s.function p (way_of what) → Wide s b n → length taken ≤ n → length left ≤ n → FineAt s p
  fine b taken left p what n is effect named goes ahead wide tn ln =
      let stays : stays_of s.code s.function (b ++ taken) what ≡ b = effect.stays ∙ ap (below (b ++ taken)) effect.takes ∙ below_is b taken in
      let after : b ++ left ≡ after_of s.code s.function (b ++ taken) what = ap (λ x. x ++ left) (sym stays) ∙ ap (λ x. stays_of s.code s.function (b ++ taken) what ++ x) (sym effect.leaves) in
      record {
        before = b ++ taken;
        what = what;
        is = is;
        fine = record {
          named = named;
          finds =
              ap (λ x. x ++ taken) (sym (below_is b taken))
              ∙ ap (λ x. below (b ++ taken) x ++ x) (sym effect.takes);
          goes_on = subst (λ x. GoesOn s.code s.function p x (way_of what)) after goes;
          roomy = record {
            some = roomy.some;
            most = roomy.most;
            holds_before = omega (arith, length-append b taken);
            holds_after = subst (λ x. length s.function.locals + length x ≤ s.function.room) after (omega (arith, length-append b left));
          };
          ahead = ahead;
        };
      }

  -- the same for one that takes nothing
  pub fine_push : (b left : List Kind) (p : ℕ) (what : Instruction) (n : ℕ) → Is s b p what → Effect s b [] left what → Named s.code s.function what → GoesOn s.code s.function p (b ++ left) (way_of what) → JumpsAhead s.function p (way_of what) → Wide s b n → length left ≤ n → FineAt s p
  fine_push b left p what n is effect named goes ahead wide ln =
      let same : b ≡ b ++ [] = sym (append-nil b) in
      fine b [] left p what n (subst (λ x. Is s x p what) same is) (subst (λ x. Effect s x [] left what) same effect) named goes ahead wide (omega arith) ln

  -- a tick
  pub tick : (b : List Kind) (p n : ℕ) → Is s b p does.Tick → Begins s b (p + 1) → Wide s b n → FineAt s p
  tick b p n is at wide = fine_push b [] p does.Tick n is (record { takes = refl; stays = refl; leaves = refl }) tt (subst (λ x. Begins s x (p + 1)) (sym (append-nil b)) at) tt wide (omega arith)

  tick_at : (p : ℕ) (b : List Kind) → Is s b p does.Tick → TickAt s.function p
  tick_at p b is = record { step = record { shape = is.shape; what = does.Tick }; found = is.found; tick = refl }

  there : (b : List Kind) (p : ℕ) → Begins s b p → p < length s.function.steps
  there b p h = slice_get_within s.function.steps p h.step h.at.found

  -- jumps, on or back to a tick
  pub jump : (b : List Kind) (p x n : ℕ) → Is s b p (does.Jump x) → Begins s b x → p < x → Wide s b n → FineAt s p
  jump b p x n is at on wide =
      let to_it : Begins s (b ++ []) x = subst (λ y. Begins s y x) (sym (append-nil b)) at in
      fine_push b [] p (does.Jump x) n is (record { takes = refl; stays = refl; leaves = refl }) (there b x at) to_it (inl on) wide (omega arith)

  pub jump_back : (b : List Kind) (p x n : ℕ) → Is s b p (does.Jump x) → Is s b x does.Tick → Wide s b n → FineAt s p
  jump_back b p x n is at wide =
      let to_it : Begins s (b ++ []) x = subst (λ y. Begins s y x) (sym (append-nil b)) (begins at) in
      fine_push b [] p (does.Jump x) n is (record { takes = refl; stays = refl; leaves = refl }) (there b x (begins at)) to_it (inr (tick_at x b at)) wide (omega arith)

  pub branch : (b : List Kind) (p x n : ℕ) → Is s (b ++ Int ∷ []) p (does.JumpIfZero x) → Begins s b x → Begins s b (p + 1) → p < x → Wide s b n → 1 ≤ n → FineAt s p
  branch b p x n is to_it next on wide some =
      let over : (y : ℕ) → Begins s b y → Begins s (b ++ []) y = λ y h. subst (λ z. Begins s z y) (sym (append-nil b)) h in
      fine b (Int ∷ []) [] p (does.JumpIfZero x) n is (record { takes = refl; stays = refl; leaves = refl }) (there b x to_it) (over x to_it, over (p + 1) next) (inl on) wide some (omega arith)

  -- Dup, Swap and Drop
  pub dup : (b : List Kind) (k : Kind) (p n : ℕ) → Is s (b ++ k ∷ []) p does.Dup → Begins s (b ++ k ∷ k ∷ []) (p + 1) → Wide s b n → 2 ≤ n → FineAt s p
  dup b k p n is at wide some =
      fine b (k ∷ []) (k ∷ k ∷ []) p does.Dup n is (record { takes = ap (λ j. j ∷ []) (top_one b k); stays = refl; leaves = ap (λ j. j ∷ j ∷ []) (top_one b k) }) tt at tt wide (omega arith) some

  pub swap : (b : List Kind) (j k : Kind) (p n : ℕ) → Is s (b ++ j ∷ k ∷ []) p does.Swap → Begins s (b ++ k ∷ j ∷ []) (p + 1) → Wide s b n → 2 ≤ n → FineAt s p
  swap b j k p n is at wide some =
      let second : second_kind (b ++ j ∷ k ∷ []) ≡ j = second_two b j k in
      let top : top_kind (b ++ j ∷ k ∷ []) ≡ k = top_two b j k in
      fine b (j ∷ k ∷ []) (k ∷ j ∷ []) p does.Swap n is
      (record {
        takes = ap (λ x. x ∷ top_kind (b ++ j ∷ k ∷ []) ∷ []) second ∙ ap (λ x. j ∷ x ∷ []) top;
        stays = refl;
        leaves = ap (λ x. x ∷ second_kind (b ++ j ∷ k ∷ []) ∷ []) top ∙ ap (λ x. k ∷ x ∷ []) second;
      })
      tt at tt wide some some

  pub drop : (b : List Kind) (k : Kind) (p n : ℕ) → Is s (b ++ k ∷ []) p does.Drop → Begins s b (p + 1) → Wide s b n → 1 ≤ n → FineAt s p
  drop b k p n is at wide some =
      fine b (k ∷ []) [] p does.Drop n is (record { takes = ap (λ j. j ∷ []) (top_one b k); stays = refl; leaves = refl }) tt (subst (λ x. Begins s x (p + 1)) (sym (append-nil b)) at) tt wide some (omega arith)

  -- the value is given, and nothing stays
  pub gives : (b : List Kind) (k : Kind) (p n : ℕ) → takes_of s.code s.function (b ++ k ∷ []) does.Return ≡ k ∷ [] → Is s (b ++ k ∷ []) p does.Return → Wide s b n → 1 ≤ n → FineAt s p
  gives b k p n takes is wide some = record {
    before = b ++ k ∷ [];
    what = does.Return;
    is = is;
    fine = record {
      named = tt;
      finds =
          ap (λ x. x ++ k ∷ []) (sym (below_is b (k ∷ [])))
          ∙ ap (λ x. below (b ++ k ∷ []) x ++ x) (sym takes);
      goes_on = tt;
      roomy = record { some = roomy.some; most = roomy.most; holds_before = omega (arith, length-append b (k ∷ [])); holds_after = omega arith };
      ahead = tt;
    };
  }

  -- constants
  pub push_int : (b : List Kind) (p n : ℕ) (what : Instruction) → Is s b p what → takes_of s.code s.function b what ≡ [] → stays_of s.code s.function b what ≡ below b (takes_of s.code s.function b what) → leaves_of s.code s.function b what ≡ Int ∷ [] → Named s.code s.function what → GoesOn s.code s.function p (b ++ Int ∷ []) (way_of what) → JumpsAhead s.function p (way_of what) → Wide s b n → 1 ≤ n → FineAt s p
  push_int b p n what is t u l named goes ahead wide some = fine_push b (Int ∷ []) p what n is (record { takes = t; stays = u; leaves = l }) named goes ahead wide some

  pub push_text : (b : List Kind) (p n : ℕ) (text : List ℕ) → Pushes s b p text → Begins s (b ++ Str ∷ []) (p + 1) → Wide s b n → 1 ≤ n → FineAt s p
  push_text b p n text h at wide some =
      fine_push b (Str ∷ []) p (does.PushStr h.number) n h.is (record { takes = refl; stays = refl; leaves = refl }) (slice_get_within s.code.texts h.number text h.named) at tt wide some

-- Variables

module _ (project : Project) (parts : RawParts) (right : IsRight project parts) (f : Function) (raw : RawFunction) (of : IsFunctionOf project parts f raw) (roomy : Roomy (scope_of project parts f raw)) where
  abbrev here : Scope
  here = scope_of project parts f raw

  pub reads : (x : Scalar) (k : Kind) (b : List Kind) (p n : ℕ) → scalar_kind here.context x ≡ Some k → Is here b p (reading x) → Begins here (b ++ k ∷ []) (p + 1) → Wide here b n → 1 ≤ n → FineAt here p
  reads (to.local i) k b p n e is at wide some =
      let at_local : slice_get raw.locals i ≡ Some k = ap (λ ks. slice_get ks i) of.locals ∙ e in
      fine_push here roomy b (k ∷ []) p (does.Load i) n is (record { takes = refl; stays = refl; leaves = ap listed at_local }) (slice_get_within raw.locals i k at_local) at tt wide some
  reads (to.cell c) k b p n e is at wide some =
      let (head, there, same, _) = cell_there project parts right c k e in
      fine_push here roomy b (k ∷ []) p (does.ReadCell c) n is
      (record { takes = refl; stays = refl; leaves = ap (λ o. listed (option_map (λ (x : CellHead). x.kind) o)) there ∙ ap (λ j. j ∷ []) same })
      (slice_get_within parts.layout.cells c head there) at tt wide some

  pub writes : (x : Scalar) (k : Kind) (b : List Kind) (p n : ℕ) → scalar_kind here.context x ≡ Some k → Is here (b ++ k ∷ []) p (writing x) → Begins here b (p + 1) → Wide here b n → 1 ≤ n → FineAt here p
  writes (to.local i) k b p n e is at wide some =
      let at_local : slice_get raw.locals i ≡ Some k = ap (λ ks. slice_get ks i) of.locals ∙ e in
      fine here roomy b (k ∷ []) [] p (does.Store i) n is (record { takes = ap listed at_local; stays = refl; leaves = refl }) (slice_get_within raw.locals i k at_local) (subst (λ z. Begins here z (p + 1)) (sym (append-nil b)) at) tt wide some (omega arith)
  writes (to.cell c) k b p n e is at wide some =
      let (head, there, same, _) = cell_there project parts right c k e in
      fine here roomy b (k ∷ []) [] p (does.WriteCell c) n is
      (record { takes = ap (λ o. listed (option_map (λ (x : CellHead). x.kind) o)) there ∙ ap (λ j. j ∷ []) same; stays = refl; leaves = refl })
      (slice_get_within parts.layout.cells c head there) (subst (λ z. Begins here z (p + 1)) (sym (append-nil b)) at) tt wide some (omega arith)

  pub reads_element : (a : ℕ) (k : Kind) (b : List Kind) (p n : ℕ) → array_kind here.context a ≡ Some k → Is here (b ++ Int ∷ []) p (does.ReadAt a) → Begins here (b ++ k ∷ []) (p + 1) → Wide here b n → 1 ≤ n → FineAt here p
  reads_element a k b p n e is at wide some =
      let (x, _, there, same) = array_there project parts right a k e in
      fine here roomy b (Int ∷ []) (k ∷ []) p (does.ReadAt a) n is
      (record { takes = refl; stays = refl; leaves = ap (λ o. listed (option_map (λ (y : Cells). y.kind) o)) there ∙ ap (λ j. j ∷ []) same })
      (slice_get_within parts.arrays a _ there) at tt wide some some

  pub writes_element : (a : ℕ) (k : Kind) (b : List Kind) (p n : ℕ) → array_kind here.context a ≡ Some k → Is here (b ++ Int ∷ k ∷ []) p (does.WriteAt a) → Begins here b (p + 1) → Wide here b n → 2 ≤ n → FineAt here p
  writes_element a k b p n e is at wide some =
      let (x, _, there, same) = array_there project parts right a k e in
      fine here roomy b (Int ∷ k ∷ []) [] p (does.WriteAt a) n is
      (record { takes = ap (λ o. Int ∷ listed (option_map (λ (y : Cells). y.kind) o)) there ∙ ap (λ j. Int ∷ j ∷ []) same; stays = refl; leaves = refl })
      (slice_get_within parts.arrays a _ there) (subst (λ z. Begins here z (p + 1)) (sym (append-nil b)) at) tt wide some (omega arith)

-- an instruction over one shape that is two
pub is_joined : (s : Scope) (b xs ys : List Kind) (p : ℕ) (what : Instruction) → Is s (b ++ (xs ++ ys)) p what → Is s ((b ++ xs) ++ ys) p what
is_joined s b xs ys p what h = subst (λ x. Is s x p what) (sym (append_assoc b xs ys)) h

-- room above more operands
pub up : (s : Scope) (b xs : List Kind) (m n : ℕ) → Wide s b m → length xs + n ≤ m → Wide s (b ++ xs) n
up s b xs m n wide h = omega (arith, length-append b xs)
