-- Each step with nothing in hand is followed by the code; and so is each step.
use Rattle.std.proofs.Common.{◌≡◌, ℕ, ◌+◌, ◌⊎◌, inl, inr, List, [], ◌∷◌, ◌++◌, Some, refl, sym, ap, ◌∙◌, subst}
use Rattle.ci_base.specs.declared.relation.Relation.{Relation}
use Rattle.ci_base.specs.declared.relation.Relation.TheVariants as relation
use Rattle.ci_base.specs.declared.value.Kind.{Kind}
use Rattle.ci_base.specs.declared.value.Kind.TheVariants.{Int, Str}
use Rattle.ci_base.specs.declared.value.Value.{Value}
use Rattle.ci_base.specs.Steps.{Reaches}
use Rattle.ci_base.specs.Values.{kind_of, first_of_kind}
use Rattle.ci_code.specs.declared.instruction.Instruction.TheVariants as does
use Rattle.ci_code.specs.declared.raw.RawParts.{RawParts}
use Rattle.ci_code.specs.Machine as code
use Rattle.ci_code.specs.Moves.{Machine}
use Rattle.ci_meaning.specs.Configuration.{Branch, to_store, to_index, to_choose, to_turn, to_begin, to_compare, to_raise, to_select, to_match, to_low, to_return, to_drop, Left, run, again, round, bump, sift, pick, Hand, eval, give, write, enter, go, Task, Configuration, with, function_at}
use Rattle.ci_meaning.specs.Meaning as tree
use Rattle.ci_tree.specs.Bound as to
use Rattle.ci_tree.specs.Bound.{Scalar, Expr, Label, Stmt, Block, Function, Project}
use Rattle.ci_tree.specs.Sound.{scalar_kind}
use Rattle.ci_verify.proofs.Outcomes.{first_kind}
use Rattle.ci_translation.specs.Instructions.{past, comparing, reading, left_kind}
use Rattle.ci_translation.specs.Stands.{Scope, Is, PushesFirst, ExprAt, StmtAt, PicksAt}
use Rattle.ci_translation.proofs.Behind.{before_jumps, go_at, reached}
use Rattle.ci_translation.proofs.Calls.{found_function}
use Rattle.ci_translation.proofs.Follow.{here, joined}
use Rattle.ci_translation.proofs.Inside.{evaluated, used}
use Rattle.ci_translation.proofs.Machines.{on, Followed, heard, own, machine, at_place, fetched, last_step, jumps_reach, one_tick, pushes, writes}
use Rattle.ci_translation.proofs.Matches.{Does, Jumps, PickAt, LeftAt, HandAt, left_held, hand_held, spelled, IsDropped, IsRight, Running, Matches}

-- the variable is read
read_at : (s : Scope) (b : List Kind) (of : Scalar) (k : Kind) (p : ℕ) → scalar_kind s.context of ≡ Some k → Is s b p (reading of) → ExprAt s b (to.scalar of) (Some k) p (p + 1)
read_at s b of k p kind is = (k, refl, kind, is, refl)

module _ (project : Project) (parts : RawParts) (right : IsRight project parts) (t : Task) (r : Running project parts t.function t.locals t.callers) where
  abbrev s : Scope
  s = own project parts t r

  abbrev at : ℕ → List Value → Machine
  at p ops = machine project parts t r p ops

  -- a statement begins
  begun : (x : Stmt) (b : Block) (left : List Left) (k : List Kind) (p p' q : ℕ) → Jumps s p p' → StmtAt s k x p' q → LeftAt s (run b ∷ left) q → (d : Machine) × Reaches (code.next parts) (at p (left_held left)) 1 d × Matches project parts (tree.begun x (tree.to_do (run b ∷ left) t)) d
  begun (to.assign n target value) b left k p p' q j (x, kind, ek, is, ev, h, eq) l = (
    at (p' + 1) (left_held left),
    one_tick project parts t r _ p p' j (on is),
    at_place project parts t r (eval value [] (to_store target)) (run b ∷ left) (p' + 1) (k, Some kind, x, ev, (kind, refl, ek, on h, subst (LeftAt s (run b ∷ left)) eq l)),
  )
  begun (to.assign_element n a index value) b left k p p' q j (x, y, kind, ek, is, ei, ev, h, eq) l = (
    at (p' + 1) (left_held left),
    one_tick project parts t r _ p p' j (on is),
    at_place project parts t r (eval index [] (to_index a value)) (run b ∷ left) (p' + 1) (k, Some Int, x, ei, (k ++ Int ∷ [], kind, y, refl, ek, ev, on h, subst (LeftAt s (run b ∷ left)) eq l)),
  )
  begun (to.call_of n what) b left k p p' q j (x, kind, is, ec, drop, eq) l = (
    at (p' + 1) (left_held left),
    one_tick project parts t r _ p p' j (on is),
    at_place project parts t r (eval (to.called what) [] to_drop) (run b ∷ left) (p' + 1) (k, kind, x, ec, (on drop, subst (LeftAt s (run b ∷ left)) eq l)),
  )
  begun (to.choose n test body last) b left k p p' q j (x, y, e, is, et, h, bl, ot) l = (
    at (p' + 1) (left_held left),
    one_tick project parts t r _ p p' j (on is),
    at_place project parts t r (eval test [] (to_choose body last)) (run b ∷ left) (p' + 1) (k, Some Int, x, et, (k, y, e, q, refl, on h, bl, ot, l)),
  )
  begun (to.while n test body) b left k p p' q j (is, a) l = (
    at (p' + 1) (left_held left),
    one_tick project parts t r _ p p' j (on is),
    go_at project parts right t r (again test body ∷ run b ∷ left) (p' + 1) (k, p' + 1, q, (0, refl), a, l),
  )
  begun (to.for n counter begin last body) b left k p p' q j (x, y, is, eb, el, swap, h, a) l = (
    at (p' + 1) (left_held left),
    one_tick project parts t r _ p p' j (on is),
    at_place project parts t r (eval begin [] (to_begin counter last body)) (run b ∷ left) (p' + 1) (k, Some Int, x, eb, (k, y, q, refl, el, on swap, on h, a, l)),
  )
  begun (to.select n subject clauses last) b left k p p' q j (x, y, kind, is, es, cl, drop, bl) l = (
    at (p' + 1) (left_held left),
    one_tick project parts t r _ p p' j (on is),
    at_place project parts t r (eval subject [] (to_select clauses last)) (run b ∷ left) (p' + 1) (k, Some kind, x, es, (kind, q, refl, record { b = k; z = y; sifted = cl; drop = on drop; block = bl; after = l })),
  )
  begun (to.return n value) b left k p p' q j (x, is, ev, ret, eq) l = (
    at (p' + 1) (left_held left),
    one_tick project parts t r _ p p' j (on is),
    at_place project parts t r (eval value [] to_return) (run b ∷ left) (p' + 1) (k, Some (left_kind r.function.gives), x, ev, (refl, on ret)),
  )

  -- the function's END leaves 0 or the empty text
  first_pushed : (kind : Kind) (p : ℕ) → PushesFirst s [] p kind → Reaches (code.next parts) (at p []) 0 (at (p + 1) (first_of_kind kind ∷ []))
  first_pushed Int p h = last_step project parts t r p _ (does.PushInt _) _ (on h) refl
  first_pushed Str p h = pushes project parts t r p [] [] [] h

  -- a label with one value is tried
  tried_one : (c0 : Configuration) (of : Value) (x : Relation) (e : Expr) (labels : List Label) (branch : Branch) (left : List Left) (p p' y : ℕ) → Jumps s p p' → (d : PickAt s (kind_of of) labels branch (LeftAt s left) (past 2 (y + 1))) → Is s (d.b ++ kind_of of ∷ []) p' does.Dup → ExprAt s (d.b ++ kind_of of ∷ kind_of of ∷ []) e (Some (kind_of of)) (p' + 1) y → Does s y (comparing x (kind_of of)) → PicksAt s (d.b ++ kind_of of ∷ []) d.found (y + 1) → (m : Machine) × Reaches (code.next parts) (at p (of ∷ left_held left)) 0 m × Matches project parts (with (eval e [] (to_match of x labels branch)) (tree.to_do left t)) m
  tried_one c0 of x e labels branch left p p' y j d dup ee h jumps = (
    at (p' + 1) (of ∷ of ∷ left_held left),
    joined (code.next parts) _ (at p' (of ∷ left_held left)) _ 0 0 (jumps_reach project parts t r _ j.0 p p' j.1) (last_step project parts t r p' _ does.Dup _ (on dup) refl),
    at_place project parts t r (eval e [] (to_match of x labels branch)) left (p' + 1) (d.b ++ kind_of of ∷ kind_of of ∷ [], Some (kind_of of), y, ee, (d.b ++ kind_of of ∷ [], refl, h, d, jumps)),
  )

  gone : (c0 : Configuration) (left : List Left) (p : ℕ) → LeftAt s left p → Followed project parts c0 (tree.gone project left t) (at p (left_held left))
  gone c0 [] p (q, j, h, back) =
      let same : left_kind r.function.gives ≡ left_kind (function_at project t.function).gives = ap (λ (g : Function). left_kind g.gives) (sym (found_function project t.function r.function r.found.tree)) in
      let k : Kind = left_kind (function_at project t.function).gives in (
        at (q + 1) (first_of_kind k ∷ []),
        joined (code.next parts) _ (at q []) _ 0 0 (jumps_reach project parts t r [] j.0 p q j.1) (first_pushed k q (subst (PushesFirst s [] q) same h)),
        at_place project parts t r (give (first_of_kind k) [] to_return) [] (q + 1) (ap Some (first_kind k ∙ sym same), back),
      )
  gone c0 (run to.done ∷ left) p (k, p', q, j, e, l) =
      (at p (left_held left), here _ _, go_at project parts right t r left p (before_jumps s left j.0 p p' j.1 (subst (LeftAt s left) (sym e) l)))
  gone c0 (run (to.then x b) ∷ left) p (k, p', q, j, (y, a, bl), l) = begun x b left k p p' y j a (k, y, q, (0, refl), bl, l)
  gone c0 (again test body ∷ left) p (b, l, q, j, a, lf) = (
    at (l + 1) (left_held left),
    one_tick project parts t r _ p l j (on a.tick),
    at_place project parts t r (eval test [] (to_turn test body)) left (l + 1) (b, Some Int, a.x, a.tested, (b, l, q, refl, a, refl, lf)),
  )
  gone c0 (round c ∷ left) p (b, l, q, el, j, a, lf) = (
    at (past 2 l) (c.last ∷ c.last ∷ left_held left),
    joined (code.next parts) _ (at (l + 1) (c.last ∷ left_held left)) _ 1 0 (one_tick project parts t r _ p l j (on a.tick)) (last_step project parts t r (l + 1) _ does.Dup _ (on a.twice) refl),
    at_place project parts t r (eval (to.scalar c.counter) [] (to_compare c)) left (past 2 l)
        (b ++ Int ∷ Int ∷ [], Some Int, past 3 l, read_at s (b ++ Int ∷ Int ∷ []) c.counter Int (past 2 l) a.kind a.load, (b, l, q, refl, el, a, refl, lf)),
  )
  gone c0 (bump c ∷ left) p (b, l, q, a, el, j, lf) = (
    at a.y (c.last ∷ left_held left),
    jumps_reach project parts t r _ j.0 p a.y j.1,
    at_place project parts t r (eval (to.scalar c.counter) [] (to_raise c)) left a.y
        (b ++ Int ∷ [], Some Int, a.y + 1, read_at s (b ++ Int ∷ []) c.counter Int a.y a.kind a.raises.load, (b, l, q, a, refl, el, refl, lf)),
  )
  gone c0 (sift of to.no_clause other ∷ left) p (c, q, j, d) = (
    at (d.z + 1) (left_held left),
    joined (code.next parts) _ (at c (of ∷ left_held left)) _ 0 0 (jumps_reach project parts t r _ j.0 p c j.1)
        (subst (λ n. Reaches (code.next parts) (at n (of ∷ left_held left)) 0 (at (d.z + 1) (left_held left))) (sym d.sifted) (last_step project parts t r d.z _ does.Drop _ d.drop refl)),
    go_at project parts right t r (run other ∷ left) (d.z + 1) (d.b, d.z + 1, q, (0, refl), d.block, d.after),
  )
  gone c0 (sift of (to.clause labels body rest) other ∷ left) p (c, q, j, d) =
      let (x, y, la, out, drop, bl, back, cl) = d.sifted in (
        at c (of ∷ left_held left),
        jumps_reach project parts t r _ j.0 p c j.1,
        go_at project parts right t r (pick of labels (record { body = body; rest = rest; other = other }) ∷ left) c (
          c,
          (0, refl),
          record {
            b = d.b;
            found = x + 1;
            m = x;
            y = y;
            c = y + 1;
            q = q;
            picked = la;
            on = on out;
            drop = on drop;
            body = bl;
            out = on back;
            others = record { b = d.b; z = d.z; sifted = cl; drop = d.drop; block = d.block; after = d.after };
          },
        ),
      )
  gone c0 (pick of [] branch ∷ left) p (p', j, d) = (
    at p (of ∷ left_held left),
    here _ _,
    go_at project parts right t r (sift of branch.rest branch.other ∷ left) p
        (before_jumps s (sift of branch.rest branch.other ∷ left) j.0 p p' j.1 (d.c, d.q, (1, (d.c, subst (λ n. Does s n (does.Jump d.c)) (sym d.picked) d.on, refl)), d.others)),
  )
  gone c0 (pick of (to.one e ∷ labels) branch ∷ left) p (p', j, d) =
      let (y, dup, ee, h, jumps, la) = d.picked in
      tried_one c0 of relation.Equal e labels branch left p p' y j
      (record { b = d.b; found = d.found; m = d.m; y = d.y; c = d.c; q = d.q; picked = la; on = d.on; drop = d.drop; body = d.body; out = d.out; others = d.others })
      dup ee (on h) jumps
  gone c0 (pick of (to.compared x e ∷ labels) branch ∷ left) p (p', j, d) =
      let (y, dup, ee, h, jumps, la) = d.picked in
      tried_one c0 of x e labels branch left p p' y j
      (record { b = d.b; found = d.found; m = d.m; y = d.y; c = d.c; q = d.q; picked = la; on = d.on; drop = d.drop; body = d.body; out = d.out; others = d.others })
      dup ee (on h) jumps
  gone c0 (pick of (to.range low high ∷ labels) branch ∷ left) p (p', j, d) =
      let (x, y, dup, el, eh, h, jumps, la) = d.picked in
      let k : Kind = kind_of of in (
        at (p' + 1) (of ∷ of ∷ left_held left),
        joined (code.next parts) _ (at p' (of ∷ left_held left)) _ 0 0 (jumps_reach project parts t r _ j.0 p p' j.1) (last_step project parts t r p' _ does.Dup _ (on dup) refl),
        at_place project parts t r (eval low [] (to_low of high labels branch)) left (p' + 1)
            (d.b ++ k ∷ k ∷ [], Some k, x, el, (d.b ++ k ∷ k ∷ k ∷ [], d.b ++ k ∷ [], y, refl, eh, on h, record { b = d.b; found = d.found; m = d.m; y = d.y; c = d.c; q = d.q; picked = la; on = d.on; drop = d.drop; body = d.body; out = d.out; others = d.others }, jumps)),
      )

  pub acted : (hand : Hand) (p : ℕ) → HandAt s hand t.left p → Followed project parts (with hand t) (tree.act project hand t) (spelled hand t p r.places)
  acted (eval e wants aim) p a = evaluated project parts right t r e wants aim p a
  acted (give v [] aim) p a = reached project parts right t r v aim p a
  acted (give v (want ∷ wants) aim) p a = used project parts right t r v want wants aim p a
  acted (write c v hand) p (kind, h, a) = (
    at p (v ∷ hand_held hand t.left),
    here _ _,
    writes project parts t r right c v (hand_held hand t.left) p kind h,
    λ x fit. record {
      hand = hand;
      shows = inl refl;
      place = p + 1;
      running = r;
      at = a;
      is = ap (heard (at p (v ∷ hand_held hand t.left)) x) (fetched project parts t r p (v ∷ hand_held hand t.left) (does.WriteCell c) h);
    },
  )
  acted enter p (h, lf) = (at (p + 1) (left_held t.left), one_tick project parts t r _ p p (0, refl) h, go_at project parts right t r t.left (p + 1) lf)
  acted go p lf = gone (with go t) t.left p lf

module _ (project : Project) (parts : RawParts) (right : IsRight project parts) where
  -- what is dropped next may be any value
  dropped : (x y : Hand) (t : Task) (m : Machine) → IsDropped x y → Followed project parts (with y t) (tree.act project y t) m → Followed project parts (with x t) (tree.act project x t) m
  dropped x y t m d f =
      let P : Hand → Type 0 = λ z. Followed project parts (with z t) (tree.act project z t) m in
      let go_on : P (give d.v [] to_drop) = subst P d.second f in
      subst P (sym d.first) go_on

  shown : (c : Configuration) (m : Machine) (h : Matches project parts c m) → (c.hand ≡ h.hand) ⊎ IsDropped c.hand h.hand → Followed project parts (with h.hand c.task) (tree.act project h.hand c.task) m → Followed project parts c (tree.next project c) m
  shown c m h (inl e) f = subst (λ z. Followed project parts (with z c.task) (tree.act project z c.task) m) (sym e) f
  shown c m h (inr d) f = dropped c.hand h.hand c.task m d f

  -- the code follows each configuration that it matches
  pub follow : (c : Configuration) (m : Machine) → Matches project parts c m → Followed project parts c (tree.next project c) m
  follow c m h =
      shown c m h h.shows (subst (Followed project parts (with h.hand c.task) (tree.act project h.hand c.task)) (sym h.is) (acted project parts right c.task h.running h.hand h.place h.at))
