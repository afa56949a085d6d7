-- Each step with the value of a whole expression is followed by the code.
use Rattle.std.proofs.Common.{◌≡◌, ℕ, zero, suc, ◌+◌, Bool, true, false, inl, List, [], ◌∷◌, ◌++◌, Option, Some, None, refl, sym, ap, ◌∙◌, subst}
use Rattle.std.specs.Ordering.{int_eq}
use Rattle.std.specs.Prelude.{ℤ, pos, not}
use Rattle.ci_base.specs.declared.errors.TheConstants.{BAD_INDEX}
use Rattle.ci_base.specs.declared.relation.Relation.TheVariants as relation
use Rattle.ci_base.specs.declared.value.Kind.{Kind}
use Rattle.ci_base.specs.declared.value.Kind.TheVariants.{Int}
use Rattle.ci_base.specs.declared.value.Value.{Value}
use Rattle.ci_base.specs.declared.value.Value.TheVariants as values
use Rattle.ci_base.specs.Comparisons.{holds, within}
use Rattle.ci_base.specs.Steps.{quiet, Reaches}
use Rattle.ci_base.specs.Values.{kind_of, fails, truth}
use Rattle.ci_code.specs.declared.instruction.Instruction.TheVariants as does
use Rattle.ci_code.specs.declared.raw.RawParts.{RawParts}
use Rattle.ci_code.specs.Machine as code
use Rattle.ci_code.specs.Moves as moves
use Rattle.ci_code.specs.Moves.{Machine, only_if}
use Rattle.ci_meaning.specs.Configuration.{Counting, Branch, Aim, to_store, to_index, to_element, to_choose, to_turn, to_begin, to_count, to_compare, to_raise, to_select, to_match, to_low, to_high, to_return, to_drop, Left, run, again, round, bump, sift, pick, eval, give, go, Task, Configuration, with}
use Rattle.ci_meaning.specs.Meaning as tree
use Rattle.ci_meaning.specs.Moves as walk
use Rattle.ci_tree.specs.Bound as to
use Rattle.ci_tree.specs.Bound.{Scalar, Expr, Label, Other, Block, Array, Project}
use Rattle.ci_tree.specs.Sound.{array_kind}
use Rattle.ci_translation.specs.Instructions as instructions
use Rattle.ci_translation.specs.Instructions.{past, comparing, left_kind}
use Rattle.ci_translation.specs.Stands.{Scope, PicksAt, BlockAt, OtherAt, cells_of}
use Rattle.ci_translation.proofs.Calls.{failed, returned}
use Rattle.ci_translation.proofs.Facts.{some_kind}
use Rattle.ci_translation.proofs.Follow.{here, by_quiet, joined}
use Rattle.ci_translation.proofs.Lists.{is_of_kind}
use Rattle.ci_translation.proofs.Machines.{on, cell_in_same, array_there, Followed, heard, own, machine, at_place, fetched, does_it, step, last_step, stores}
use Rattle.ci_translation.proofs.Matches.{Does, JumpsIn, Jumps, TurnAt, CountAt, SiftAt, PickAt, LeftAt, AimAt, operands, left_held, IsRight, Running, Matches}
use Rattle.ci_translation.proofs.Values.{comparing_acts, within_acts, at_least_last, unequal}

jump_in_front : (s : Scope) (p q : ℕ) → Does s p (does.Jump q) → (x : ℕ) → Jumps s q x → Jumps s p x
jump_in_front s p q is x (n, j) = (suc n, (q, is, j))

-- what is left behind a jump is left before it
pub before_jump : (s : Scope) (left : List Left) (p q : ℕ) → Does s p (does.Jump q) → LeftAt s left q → LeftAt s left p
before_jump s [] p q is (x, j, a, b) = (x, jump_in_front s p q is x j, a, b)
before_jump s (run body ∷ left) p q is (k, x, e, j, a, b) = (k, x, e, jump_in_front s p q is x j, a, b)
before_jump s (again test body ∷ left) p q is (k, l, e, j, a, b) = (k, l, e, jump_in_front s p q is l j, a, b)
before_jump s (round c ∷ left) p q is (k, l, e, last, j, a, b) = (k, l, e, last, jump_in_front s p q is l j, a, b)
before_jump s (bump c ∷ left) p q is (k, l, e, r, last, j, a) = (k, l, e, r, last, jump_in_front s p q is r.y j, a)
before_jump s (sift of clauses other ∷ left) p q is (c, e, j, a) = (c, e, jump_in_front s p q is c j, a)
before_jump s (pick of labels branch ∷ left) p q is (x, j, a) = (x, jump_in_front s p q is x j, a)

pub before_jumps : (s : Scope) (left : List Left) (n p q : ℕ) → JumpsIn s n p q → LeftAt s left q → LeftAt s left p
before_jumps s left zero p q j a = subst (LeftAt s left) (sym j) a
before_jumps s left (suc n) p q (x, is, j) a = before_jump s left p x is (before_jumps s left n x q j a)

module _ (project : Project) (parts : RawParts) (right : IsRight project parts) (t : Task) (r : Running project parts t.function t.locals t.callers) where
  abbrev s : Scope
  s = own project parts t r

  abbrev at : ℕ → List Value → Machine
  at p ops = machine project parts t r p ops

  pub go_at : (left : List Left) (p : ℕ) → LeftAt s left p → Matches project parts (with go (tree.to_do left t)) (at p (left_held left))
  go_at left p a = at_place project parts t r go left p a

  -- a jump where an INT is 0, which is a condition that fails
  tests : (v : Value) (p to : ℕ) (ops : List Value) → kind_of v ≡ Int → Does s p (does.JumpIfZero to) → code.next parts (at p (v ∷ ops)) ≡ code.branched (fails v) to ops (at p (v ∷ ops))
  tests (values.Int n) p to ops k h = does_it project parts t r p _ (does.JumpIfZero to) h
  tests (values.Str z) p to ops k h = absurd (cc k)

  chosen : (c0 : Configuration) (v : Value) (body : Block) (last : Other) (b : List Kind) (p y e q : ℕ) → BlockAt s b body (p + 1) y → OtherAt s b last y e q → LeftAt s t.left q → (z : Bool) → code.next parts (at p (v ∷ left_held t.left)) ≡ code.branched z e (left_held t.left) (at p (v ∷ left_held t.left)) → Followed project parts c0 (tree.chosen_if z body last t) (at p (v ∷ left_held t.left))
  chosen c0 v body to.no_other b p y e q bl (ey, eq) lf true x =
      (at e (left_held t.left), by_quiet (code.next parts) _ _ _ 0 x (here _ _), go_at t.left e (subst (LeftAt s t.left) (sym eq) lf))
  chosen c0 v body to.no_other b p y e q bl (ey, eq) lf false x =
      (at (p + 1) (left_held t.left), by_quiet (code.next parts) _ _ _ 0 x (here _ _), go_at (run body ∷ t.left) (p + 1) (b, p + 1, y, (0, refl), bl, subst (LeftAt s t.left) (sym ey) lf))
  chosen c0 v body (to.other other) b p y e q bl (j, ee, bo) lf true x =
      (at e (left_held t.left), by_quiet (code.next parts) _ _ _ 0 x (here _ _), go_at (run other ∷ t.left) e (b, y + 1, q, (0, ee), bo, lf))
  chosen c0 v body (to.other other) b p y e q bl (j, ee, bo) lf false x =
      (at (p + 1) (left_held t.left), by_quiet (code.next parts) _ _ _ 0 x (here _ _), go_at (run body ∷ t.left) (p + 1) (b, p + 1, y, (0, refl), bl, before_jump s t.left y q (on j) lf))

  turns : (c0 : Configuration) (v : Value) (test : Expr) (body : Block) (b : List Kind) (l q : ℕ) (a : TurnAt s b test body l q) → LeftAt s t.left q → (z : Bool) → code.next parts (at a.x (v ∷ left_held t.left)) ≡ code.branched z q (left_held t.left) (at a.x (v ∷ left_held t.left)) → Followed project parts c0 (tree.turned_if z test body t) (at a.x (v ∷ left_held t.left))
  turns c0 v test body b l q a lf true x =
      (at q (left_held t.left), by_quiet (code.next parts) _ _ _ 0 x (here _ _), go_at t.left q lf)
  turns c0 v test body b l q a lf false x =
      (at (a.x + 1) (left_held t.left), by_quiet (code.next parts) _ _ _ 0 x (here _ _), go_at (run body ∷ again test body ∷ t.left) (a.x + 1) (b, a.x + 1, a.y, (0, refl), a.ran, (b, l, q, (1, (l, on a.back, refl)), a, lf)))

  compares : (c0 : Configuration) (v : Value) (c : Counting) (b : List Kind) (l q : ℕ) (a : CountAt s b c.counter c.body l q) → kind_of v ≡ Int → kind_of c.last ≡ Int → LeftAt s t.left q → Followed project parts c0 (tree.compared_if (holds relation.AtMost v c.last) c t) (at (past 3 l) (v ∷ c.last ∷ c.last ∷ left_held t.left))
  compares c0 v c b l q a ek el lf = follow (holds relation.AtMost v c.last) (acts v c.last ek el)
    where
      acts : (u last : Value) → kind_of u ≡ Int → kind_of last ≡ Int → code.next parts (at (past 3 l) (u ∷ last ∷ last ∷ left_held t.left)) ≡ quiet (at (past 4 l) (values.Int (truth (holds relation.AtMost u last)) ∷ last ∷ left_held t.left))
      acts (values.Int x) (values.Int y) e f =
          does_it project parts t r (past 3 l) _ (does.CmpInt relation.AtLeast) (on a.compare)
          ∙ ap (λ z. quiet (at (past 4 l) (values.Int (truth z) ∷ values.Int y ∷ left_held t.left))) (at_least_last y x)
      acts (values.Str x) last e f = absurd (cc e)
      acts (values.Int x) (values.Str y) e f = absurd (cc f)

      follow : (z : Bool) → code.next parts (at (past 3 l) (v ∷ c.last ∷ c.last ∷ left_held t.left)) ≡ quiet (at (past 4 l) (values.Int (truth z) ∷ c.last ∷ left_held t.left)) → Followed project parts c0 (tree.compared_if z c t) (at (past 3 l) (v ∷ c.last ∷ c.last ∷ left_held t.left))
      follow true x = (
        at (past 5 l) (c.last ∷ left_held t.left),
        by_quiet (code.next parts) _ _ _ 0 x (last_step project parts t r (past 4 l) _ (does.JumpIfZero a.e) _ (on a.leave) refl),
        go_at (run c.body ∷ bump c ∷ t.left) (past 5 l) (b ++ Int ∷ [], past 5 l, a.y, (0, refl), a.ran, (b, l, q, a, el, (0, refl), lf)),
      )
      follow false x = (
        at (a.e + 1) (left_held t.left),
        by_quiet (code.next parts) _ _ _ 0 x (step project parts t r (past 4 l) _ (does.JumpIfZero a.e) _ _ 0 (on a.leave) refl (last_step project parts t r a.e _ does.Drop _ (on a.drop) refl)),
        go_at t.left (a.e + 1) (subst (LeftAt s t.left) a.over lf),
      )

  raises : (c0 : Configuration) (v : Value) (c : Counting) (b : List Kind) (l q : ℕ) (a : CountAt s b c.counter c.body l q) → kind_of v ≡ Int → kind_of c.last ≡ Int → LeftAt s t.left q → Followed project parts c0 (tree.raised_if (tree.is_largest v) v c t) (at (a.y + 1) (v ∷ c.last ∷ left_held t.left))
  raises c0 (values.Str z) c b l q a ek el lf = absurd (cc ek)
  raises c0 (values.Int n) c b l q a ek el lf = follow (int_eq n (pos 2147483647)) front
    where
      differs : code.next parts (at (past 3 a.y) (values.Int (pos 2147483647) ∷ values.Int n ∷ values.Int n ∷ c.last ∷ left_held t.left)) ≡ quiet (at (past 4 a.y) (values.Int (truth (not (int_eq n (pos 2147483647)))) ∷ values.Int n ∷ c.last ∷ left_held t.left))
      differs =
          does_it project parts t r (past 3 a.y) _ (does.CmpInt relation.Unequal) (on a.raises.differs)
          ∙ ap (λ z. quiet (at (past 4 a.y) (values.Int (truth z) ∷ values.Int n ∷ c.last ∷ left_held t.left))) (unequal n (pos 2147483647))

      front : Reaches (code.next parts) (at (a.y + 1) (values.Int n ∷ c.last ∷ left_held t.left)) 0 (at (past 4 a.y) (values.Int (truth (not (int_eq n (pos 2147483647)))) ∷ values.Int n ∷ c.last ∷ left_held t.left))
      front =
          step project parts t r (past 1 a.y) _ does.Dup _ _ 0 (on a.raises.twice) refl
          (step project parts t r (past 2 a.y) _ instructions.largest _ _ 0 (on a.raises.most) refl (by_quiet (code.next parts) _ _ _ 0 differs (here _ _)))

      follow : (z : Bool) → Reaches (code.next parts) (at (a.y + 1) (values.Int n ∷ c.last ∷ left_held t.left)) 0 (at (past 4 a.y) (values.Int (truth (not z)) ∷ values.Int n ∷ c.last ∷ left_held t.left)) → Followed project parts c0 (tree.raised_if z (values.Int n) c t) (at (a.y + 1) (values.Int n ∷ c.last ∷ left_held t.left))
      follow true x = (
        at (past 11 a.y) (left_held t.left),
        joined (code.next parts) _ (at (past 4 a.y) (values.Int (truth false) ∷ values.Int n ∷ c.last ∷ left_held t.left)) _ 0 0 x
            (step project parts t r (past 4 a.y) _ (does.JumpIfZero (past 9 a.y)) _ _ 0 (on a.raises.leave) refl
            (step project parts t r (past 9 a.y) _ does.Drop _ _ 0 (on a.raises.drop) refl (last_step project parts t r (past 10 a.y) _ does.Drop _ (on a.raises.drop_last) refl))),
        go_at t.left (past 11 a.y) (subst (LeftAt s t.left) a.raises.over lf),
      )
      follow false x =
          let d = stores project parts t r right c.counter (tree.one_more (values.Int n)) go (round c ∷ t.left) (past 7 a.y) a.kind (on a.raises.store) (b, l, q, el, (1, (l, on a.raises.back, refl)), a, lf) in (
            d.0,
            joined (code.next parts) _ (at (past 4 a.y) (values.Int (truth true) ∷ values.Int n ∷ c.last ∷ left_held t.left)) _ 0 0 x
                (step project parts t r (past 4 a.y) _ (does.JumpIfZero (past 9 a.y)) _ _ 0 (on a.raises.leave) refl
                (step project parts t r (past 5 a.y) _ (does.PushInt (pos 1)) _ _ 0 (on a.raises.one) refl (step project parts t r (past 6 a.y) _ does.Add _ _ 0 (on a.raises.add) refl d.1))),
            d.2,
          )

  -- behind a label's test, at p: to the body, or on to the next label
  picked : (c0 : Configuration) (of : Value) (labels : List Label) (branch : Branch) (b : List Kind) (p : ℕ) (d : PickAt s (kind_of of) labels branch (LeftAt s t.left) (past 2 p)) → PicksAt s b d.found p → (z : Bool) (m0 : Machine) → code.next parts m0 ≡ quiet (at p (values.Int (truth z) ∷ of ∷ left_held t.left)) → Followed project parts c0 (tree.picked_if z of labels branch t) m0
  picked c0 of labels branch b p d jumps true m0 x = (
    at (d.found + 1) (left_held t.left),
    by_quiet (code.next parts) _ _ _ 0 x
        (step project parts t r p _ (does.JumpIfZero (past 2 p)) _ _ 0 (on jumps.fails) refl
        (step project parts t r (past 1 p) _ (does.Jump d.found) _ _ 0 (on jumps.holds) refl (last_step project parts t r d.found _ does.Drop _ d.drop refl))),
    go_at (run branch.body ∷ t.left) (d.found + 1) (d.b, d.found + 1, d.y, (0, refl), d.body, before_jump s t.left d.y d.q d.out d.others.after),
  )
  picked c0 of labels branch b p d jumps false m0 x = (
    at (past 2 p) (of ∷ left_held t.left),
    by_quiet (code.next parts) _ _ _ 0 x (last_step project parts t r p _ (does.JumpIfZero (past 2 p)) _ (on jumps.fails) refl),
    go_at (pick of labels branch ∷ t.left) (past 2 p) (past 2 p, (0, refl), d),
  )

  -- an element is assigned
  element_written : (x : Array) (v : Value) (i : ℤ) (p : ℕ) (a : ℕ) → Does s p (does.WriteAt a) → LeftAt s t.left (p + 1) → (c : Option ℕ) → code.next parts (at p (v ∷ values.Int i ∷ left_held t.left)) ≡ code.write_cell c v (left_held t.left) (at p (v ∷ values.Int i ∷ left_held t.left)) → Followed project parts (with (give v [] (to_element a (values.Int i))) t) (walk.write_cell c v t) (at p (v ∷ values.Int i ∷ left_held t.left))
  element_written x v i p a h lf (Some c) e = (
    at p (v ∷ values.Int i ∷ left_held t.left),
    here (code.next parts) _,
    e,
    λ y fit. record {
      hand = go;
      shows = inl refl;
      place = p + 1;
      running = r;
      at = lf;
      is = ap (heard (at p (v ∷ values.Int i ∷ left_held t.left)) y) (fetched project parts t r p (v ∷ values.Int i ∷ left_held t.left) (does.WriteAt a) h);
    },
  )
  element_written x v i p a h lf None e =
      failed project parts right t r (give v [] (to_element a (values.Int i))) go BAD_INDEX (v ∷ values.Int i ∷ left_held t.left) p lf t.goes_on e

  element_step : (a : ℕ) (i v : Value) (p : ℕ) (k : Kind) → Some (kind_of v) ≡ Some k → kind_of i ≡ Int → array_kind s.context a ≡ Some k → Does s p (does.WriteAt a) → LeftAt s t.left (p + 1) → Followed project parts (with (give v [] (to_element a i)) t) (walk.write_element project a i v t) (at p (v ∷ i ∷ left_held t.left))
  element_step a (values.Str z) v p k ek ei kind h lf = absurd (cc ei)
  element_step a (values.Int i) v p k ek ei kind h lf =
      let (x, found, there, same) = array_there project parts right a k kind in
      let m0 : Machine = at p (v ∷ values.Int i ∷ left_held t.left) in
      subst (λ o. Followed project parts (with (give v [] (to_element a (values.Int i))) t) (walk.write_cell (walk.cell_of o (values.Int i)) v t) m0) (sym found)
      (element_written x v i p a h lf (walk.cell_in x i)
      (does_it project parts t r p (v ∷ values.Int i ∷ left_held t.left) (does.WriteAt a) h
      ∙ ap (λ o. code.write_at o m0) there
      ∙ ap (λ z. only_if z (code.write_cell (moves.cell_in (cells_of x) i) v (left_held t.left) m0)) (is_of_kind x.kind v (some_kind _ _ ek ∙ sym same))
      ∙ ap (λ o. code.write_cell o v (left_held t.left) m0) (cell_in_same x i)))

  pub reached : (v : Value) (aim : Aim) (p : ℕ) → AimAt s aim t.left (Some (kind_of v)) p → Followed project parts (with (give v [] aim) t) (tree.reached project v aim t) (at p (v ∷ operands [] aim t.left))
  reached v (to_store target) p (k, ek, kind, h, lf) = stores project parts t r right target v go t.left p (kind ∙ sym ek) h lf
  reached v (to_index a e) p (b, k, y, ek, kind, ee, h, lf) = (
    at p (v ∷ left_held t.left),
    here _ _,
    at_place project parts t r (eval e [] (to_element a v)) t.left p (b, Some k, y, ee, (k, refl, some_kind _ _ ek, kind, h, lf)),
  )
  reached v (to_element a i) p (k, ek, ei, kind, h, lf) = element_step a i v p k ek ei kind h lf
  reached v (to_choose body last) p (b, y, e, q, ek, h, bl, ot, lf) =
      chosen (with (give v [] (to_choose body last)) t) v body last b p y e q bl ot lf (fails v) (tests v p e (left_held t.left) (some_kind _ _ ek) h)
  reached v (to_turn test body) p (b, l, q, ek, a, ep, lf) =
      subst (λ y. Followed project parts (with (give v [] (to_turn test body)) t) (tree.turned_if (fails v) test body t) (at y (v ∷ left_held t.left))) (sym ep)
      (turns (with (give v [] (to_turn test body)) t) v test body b l q a lf (fails v) (tests v a.x q (left_held t.left) (some_kind _ _ ek) (on a.leave)))
  reached v (to_begin counter e body) p (b, y, q, ek, ee, swap, h, a, lf) = (
    at p (v ∷ left_held t.left),
    here _ _,
    at_place project parts t r (eval e [] (to_count v counter body)) t.left p (b ++ Int ∷ [], Some Int, y, ee, (b, q, refl, some_kind _ _ ek, swap, h, a, lf)),
  )
  reached v (to_count u counter body) p (b, q, ek, eu, swap, h, a, lf) =
      let d = stores project parts t r right counter u go (round (record { counter = counter; last = v; body = body }) ∷ t.left) (p + 1) (a.kind ∙ ap Some (sym eu)) h (b, past 2 p, q, some_kind _ _ ek, (0, refl), a, lf) in
      (d.0, step project parts t r p _ does.Swap _ _ 0 swap refl d.1, d.2)
  reached v (to_compare c) p (b, l, q, ek, el, a, ep, lf) =
      subst (λ y. Followed project parts (with (give v [] (to_compare c)) t) (tree.compared_if (holds relation.AtMost v c.last) c t) (at y (v ∷ c.last ∷ c.last ∷ left_held t.left))) (sym ep)
      (compares (with (give v [] (to_compare c)) t) v c b l q a (some_kind _ _ ek) el lf)
  reached v (to_raise c) p (b, l, q, a, ek, el, ep, lf) =
      subst (λ y. Followed project parts (with (give v [] (to_raise c)) t) (tree.raised_if (tree.is_largest v) v c t) (at y (v ∷ c.last ∷ left_held t.left))) (sym ep)
      (raises (with (give v [] (to_raise c)) t) v c b l q a (some_kind _ _ ek) el lf)
  reached v (to_select clauses other) p (k, q, ek, d) =
      let same : k ≡ kind_of v = sym (some_kind _ _ ek) in (
        at p (v ∷ left_held t.left),
        here _ _,
        go_at (sift v clauses other ∷ t.left) p (p, q, (0, refl), subst (λ j. SiftAt s j clauses other (LeftAt s t.left) p q) same d),
      )
  reached v (to_match of x labels branch) p (b, ek, h, d, jumps) =
      let m0 : Machine = at p (v ∷ of ∷ of ∷ left_held t.left) in
      picked (with (give v [] (to_match of x labels branch)) t) of labels branch b (p + 1) d jumps (holds x of v) m0
      (does_it project parts t r p _ (comparing x (kind_of of)) h ∙ comparing_acts parts x of v (of ∷ left_held t.left) m0 (some_kind _ _ ek))
  reached v (to_low of e labels branch) p (b, c, y, ek, ee, h, d, jumps) = (
    at p (v ∷ of ∷ of ∷ left_held t.left),
    here _ _,
    at_place project parts t r (eval e [] (to_high of v labels branch)) t.left p (b, Some (kind_of of), y, ee, (c, refl, some_kind _ _ ek, h, d, jumps)),
  )
  reached v (to_high of low labels branch) p (b, ek, el, h, d, jumps) =
      let m0 : Machine = at p (v ∷ low ∷ of ∷ of ∷ left_held t.left) in
      picked (with (give v [] (to_high of low labels branch)) t) of labels branch b (p + 1) d jumps (within of low v) m0
      (does_it project parts t r p _ (instructions.within (kind_of of)) h ∙ within_acts parts of low v (of ∷ left_held t.left) m0 (some_kind _ _ ek) el)
  reached v to_return p (ek, h) = returned project parts right t r (with (give v [] to_return) t) v (left_held t.left) p (some_kind _ _ ek) h
  reached v to_drop p (h, lf) = (at (p + 1) (left_held t.left), last_step project parts t r p _ does.Drop _ h refl, go_at t.left (p + 1) lf)
