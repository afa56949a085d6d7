-- Each place of the code of a statement is fine.
use Rattle.std.proofs.Common.{◌≡◌, ℕ, ◌+◌, ◌<◌, ◌≤◌, true, List, [], ◌∷◌, ◌++◌, Some, refl, sym, ap, arith}
use Rattle.std.specs.List.{list_all}
use Rattle.std.specs.Prelude.{◌&&◌, pos}
use Rattle.ci_base.specs.declared.relation.Relation.{Relation}
use Rattle.ci_base.specs.declared.relation.Relation.TheVariants as relation
use Rattle.ci_base.specs.declared.value.Kind.{Kind}
use Rattle.ci_base.specs.declared.value.Kind.TheVariants.{Int}
use Rattle.ci_code.specs.declared.instruction.Instruction.TheVariants as does
use Rattle.ci_code.specs.declared.raw.RawFunction.{RawFunction}
use Rattle.ci_code.specs.declared.raw.RawParts.{RawParts}
use Rattle.ci_translation.proofs.Facts.{and_both}
use Rattle.ci_translation.proofs.Matches.{IsRight, CountAt}
use Rattle.ci_translation.specs.Instructions.{past, comparing, within, left_kind, largest}
use Rattle.ci_translation.specs.Stands.{Scope, Is, ExprAt, PicksAt, LabelsAt, BlockAt, StmtAt, OtherAt, ClausesAt, scope_of, IsFunctionOf}
use Rattle.ci_tree.specs.Bound as to
use Rattle.ci_tree.specs.Bound.{Scalar, Expr, Label, Stmt, Other, Clauses, Block, Function, Project}
use Rattle.ci_tree.specs.BoundTests.{formats_fit, expr_passes, label_passes, stmt_passes, other_passes, clauses_pass, block_passes}
use Rattle.ci_tree.specs.Rooms.{width, labels_width, stmt_width, other_width, clauses_width, block_width}
use Rattle.ci_rules.proofs.Expressions.{some_width, call_some, expr_begins, expr_forward, call_begins, call_forward, compares, lies_within, leaves_int, plain}
use Rattle.ci_rules.proofs.Shapes.{Begins, begins, begins_from, joined, Fine, one, both, nothing, line, Roomy, Wide, tick, jump, jump_back, branch, dup, swap, drop, gives, reads, writes, writes_element, is_joined, up}
use Rattle.ci_rules.proofs.Values.{expr_fine, call_fine}

-- Where code begins its shape is the one below, and it goes on

module _ (s : Scope) where
  stmt_begins : (b : List Kind) (x : Stmt) (p q : ℕ) → StmtAt s b x p q → Begins s b p
  stmt_begins b (to.assign at target value) p q h = begins h.3
  stmt_begins b (to.assign_element at a index value) p q h = begins h.4
  stmt_begins b (to.call_of at what) p q h = begins h.2
  stmt_begins b (to.choose at test body last) p q h = begins h.3
  stmt_begins b (to.while at test body) p q h = begins h.0
  stmt_begins b (to.for at counter begin last body) p q h = begins h.2
  stmt_begins b (to.select at subject clauses last) p q h = begins h.3
  stmt_begins b (to.return at value) p q h = begins h.1

  pub block_begins : (b : List Kind) (body : Block) (p q : ℕ) → BlockAt s b body p q → Begins s b q → Begins s b p
  block_begins b to.done p q h at = begins_from s b p q (sym h) at
  block_begins b (to.then x rest) p q (y, hx, hr) at = stmt_begins b x p y hx

  labels_begin : (b : List Kind) (k : Kind) (labels : List Label) (found p q : ℕ) → LabelsAt s b k labels found p q → Begins s (b ++ k ∷ []) q → Begins s (b ++ k ∷ []) p
  labels_begin b k [] found p q h at = begins_from s (b ++ k ∷ []) p q (sym h) at
  labels_begin b k (to.one e ∷ labels) found p q h at = begins h.1
  labels_begin b k (to.range low high ∷ labels) found p q h at = begins h.2
  labels_begin b k (to.compared r e ∷ labels) found p q h at = begins h.1

  labels_forward : (b : List Kind) (k : Kind) (labels : List Label) (found p q : ℕ) → LabelsAt s b k labels found p q → p ≤ q
  labels_forward b k [] found p q h = omega arith
  labels_forward b k (to.one e ∷ labels) found p q (x, is, ee, ic, pk, rest) =
      let h = expr_forward s (b ++ k ∷ k ∷ []) e (Some k) (p + 1) x ee in
      let i = labels_forward b k labels found (past 2 (x + 1)) q rest in
      omega arith
  labels_forward b k (to.range low high ∷ labels) found p q (x, y, is, el, eh, ic, pk, rest) =
      let h = expr_forward s (b ++ k ∷ k ∷ []) low (Some k) (p + 1) x el in
      let j = expr_forward s (b ++ k ∷ k ∷ k ∷ []) high (Some k) x y eh in
      let i = labels_forward b k labels found (past 2 (y + 1)) q rest in
      omega arith
  labels_forward b k (to.compared r e ∷ labels) found p q (x, is, ee, ic, pk, rest) =
      let h = expr_forward s (b ++ k ∷ k ∷ []) e (Some k) (p + 1) x ee in
      let i = labels_forward b k labels found (past 2 (x + 1)) q rest in
      omega arith

  clauses_begin : (b : List Kind) (k : Kind) (clauses : Clauses) (z p q : ℕ) → ClausesAt s b k clauses z p q → Begins s (b ++ k ∷ []) q → Begins s (b ++ k ∷ []) p
  clauses_begin b k to.no_clause z p q h at = begins_from s (b ++ k ∷ []) p q (sym h) at
  clauses_begin b k (to.clause labels body rest) z p q (x, y, hl, ij, id, hb, io, hr) at = labels_begin b k labels (x + 1) p x hl (begins ij)

  mutual
    pub block_forward : (b : List Kind) (body : Block) (p q : ℕ) → BlockAt s b body p q → p ≤ q
    block_forward b to.done p q h = omega arith
    block_forward b (to.then x rest) p q (y, hx, hr) =
        let h = stmt_forward b x p y hx in
        let i = block_forward b rest y q hr in
        omega arith

    stmt_forward : (b : List Kind) (x : Stmt) (p q : ℕ) → StmtAt s b x p q → p ≤ q
    stmt_forward b (to.assign at target value) p q (x, k, kind, is, ev, iw, eq) = let h = expr_forward s b value (Some k) (p + 1) x ev in omega arith
    stmt_forward b (to.assign_element at a index value) p q (x, y, k, kind, is, ei, ev, iw, eq) =
        let h = expr_forward s b index (Some Int) (p + 1) x ei in
        let i = expr_forward s (b ++ Int ∷ []) value (Some k) x y ev in
        omega arith
    stmt_forward b (to.call_of at what) p q (x, kind, is, ec, id, eq) = let h = call_forward s b what kind (p + 1) x ec in omega arith
    stmt_forward b (to.choose at test body last) p q (x, y, e, is, et, ij, hb, ho) =
        let h = expr_forward s b test (Some Int) (p + 1) x et in
        let i = block_forward b body (x + 1) y hb in
        let j = other_forward b last y e q ho in
        omega (arith, j.0, j.1)
    stmt_forward b (to.while at test body) p q (is, a) =
        let h = expr_forward s b test (Some Int) (p + 1 + 1) a.x a.tested in
        let i = block_forward b body (a.x + 1) a.y a.ran in
        omega (arith, a.over)
    stmt_forward b (to.for at counter begin last body) p q (x, y, is, eb, el, iw, is', a) =
        let h = expr_forward s b begin (Some Int) (p + 1) x eb in
        let i = expr_forward s (b ++ Int ∷ []) last (Some Int) x y el in
        let j = block_forward (b ++ Int ∷ []) body (past 5 (past 2 y)) a.y a.ran in
        omega (arith, a.raises.over)
    stmt_forward b (to.select at subject clauses last) p q (x, y, k, is, es, hc, id, hb) =
        let h = expr_forward s b subject (Some k) (p + 1) x es in
        let i = clauses_forward b k clauses q x y hc in
        let j = block_forward b last (y + 1) q hb in
        omega arith
    stmt_forward b (to.return at value) p q (x, is, ev, ir, eq) = let h = expr_forward s b value (Some (left_kind s.context.gives)) (p + 1) x ev in omega arith

    other_forward : (b : List Kind) (last : Other) (y e q : ℕ) → OtherAt s b last y e q → (y ≤ e) × (e ≤ q)
    other_forward b to.no_other y e q (ey, eq) = (omega arith, omega arith)
    other_forward b (to.other body) y e q (ij, ee, hb) = let h = block_forward b body (y + 1) q hb in (omega arith, omega arith)

    clauses_forward : (b : List Kind) (k : Kind) (clauses : Clauses) (z p q : ℕ) → ClausesAt s b k clauses z p q → p ≤ q
    clauses_forward b k to.no_clause z p q h = omega arith
    clauses_forward b k (to.clause labels body rest) z p q (x, y, hl, ij, id, hb, io, hr) =
        let h = labels_forward b k labels (x + 1) p x hl in
        let i = block_forward b body (past 2 x) y hb in
        let j = clauses_forward b k rest z (y + 1) q hr in
        omega arith

  other_begins : (b : List Kind) (last : Other) (y e q : ℕ) → OtherAt s b last y e q → Begins s b q → Begins s b y × Begins s b e
  other_begins b to.no_other y e q (ey, eq) at = (begins_from s b y q (sym ey) at, begins_from s b e q (sym eq) at)
  other_begins b (to.other body) y e q (ij, ee, hb) at = (begins ij, begins_from s b e (y + 1) (sym ee) (block_begins b body (y + 1) q hb at))

module _ (project : Project) (parts : RawParts) (right : IsRight project parts) (f : Function) (raw : RawFunction) (of : IsFunctionOf project parts f raw) (roomy : Roomy (scope_of project parts f raw)) where
  abbrev s : Scope
  s = scope_of project parts f raw

  -- an expression, and what stands behind it
  value : (b : List Kind) (e : Expr) (k : Kind) (p q : ℕ) → ExprAt s b e (Some k) p q → Begins s (b ++ k ∷ []) q → Wide s b (width e) → expr_passes formats_fit e ≡ true → Fine s p q
  value b e k p q h at wide fit = expr_fine project parts right f raw of roomy b e (Some k) p q h at wide fit

  -- SELECT

  -- behind a label's test, over c
  picks : (c : List Kind) (found p n : ℕ) → PicksAt s c found p → Begins s c (past 2 p) → Begins s c found → past 1 p < found → Wide s c n → 1 ≤ n → Fine s p (past 2 p)
  picks c found p n h on at lt wide some =
      line s p (past 2 p) (branch s roomy c p (past 2 p) n h.fails on (begins h.holds) (omega arith) wide some)
      (one s (past 1 p) (past 2 p) refl (jump s roomy c (past 1 p) found n h.holds at lt wide))

  -- a label with one value
  matches : (b : List Kind) (k : Kind) (r : Relation) (e : Expr) (found p x : ℕ) → Is s (b ++ k ∷ []) p does.Dup → ExprAt s (b ++ k ∷ k ∷ []) e (Some k) (p + 1) x → Is s (b ++ k ∷ k ∷ k ∷ []) x (comparing r k) → PicksAt s (b ++ k ∷ []) found (x + 1) → Begins s (b ++ k ∷ []) (past 2 (x + 1)) → Begins s (b ++ k ∷ []) found → past 1 (x + 1) < found → Wide s b (2 + width e) → expr_passes formats_fit e ≡ true → Fine s p (past 2 (x + 1))
  matches b k r e found p x is ee ic h on at lt wide fit =
      let c : List Kind = b ++ k ∷ [] in
      let z : ℕ = past 2 (x + 1) in
      let some = some_width e in
      let go = expr_forward s (b ++ k ∷ k ∷ []) e (Some k) (p + 1) x ee in
      let above : Wide s c (1 + width e) = up s b (k ∷ []) (2 + width e) (1 + width e) wide (omega arith) in
      let compare : Is s (c ++ k ∷ k ∷ []) x (comparing r k) = is_joined s b (k ∷ []) (k ∷ k ∷ []) x (comparing r k) ic in
      line s p z (dup s roomy b k p (2 + width e) is (expr_begins s (b ++ k ∷ k ∷ []) e (Some k) (p + 1) x ee) wide (omega arith))
      (both s (p + 1) x z (value (b ++ k ∷ k ∷ []) e k (p + 1) x ee (joined s b (k ∷ k ∷ []) (k ∷ []) x (begins ic)) (up s b (k ∷ k ∷ []) (2 + width e) (width e) wide (omega arith)) fit)
      (line s x z (compares s roomy r k c x (1 + width e) compare (begins h.fails) above (omega arith))
      (picks c found (x + 1) (1 + width e) h on at lt above (omega arith))))

  labels_fine : (b : List Kind) (k : Kind) (labels : List Label) (found p q : ℕ) → LabelsAt s b k labels found p q → Begins s (b ++ k ∷ []) q → Begins s (b ++ k ∷ []) found → q < found → Wide s b (labels_width labels) → list_all (label_passes formats_fit) labels ≡ true → Fine s p q
  labels_fine b k [] found p q h on at lt wide fit = nothing s p q h
  labels_fine b k (to.one e ∷ labels) found p q (x, is, ee, ic, pk, rest) on at lt wide fit =
      let (fe, fr) = and_both (expr_passes formats_fit e) (list_all (label_passes formats_fit) labels) fit in
      let z : ℕ = past 2 (x + 1) in
      let go = labels_forward s b k labels found z q rest in
      both s p z q (matches b k relation.Equal e found p x is ee ic pk (labels_begin s b k labels found z q rest on) at (omega arith) (omega arith) fe)
      (labels_fine b k labels found z q rest on at lt (omega arith) fr)
  labels_fine b k (to.compared r e ∷ labels) found p q (x, is, ee, ic, pk, rest) on at lt wide fit =
      let (fe, fr) = and_both (expr_passes formats_fit e) (list_all (label_passes formats_fit) labels) fit in
      let z : ℕ = past 2 (x + 1) in
      let go = labels_forward s b k labels found z q rest in
      both s p z q (matches b k r e found p x is ee ic pk (labels_begin s b k labels found z q rest on) at (omega arith) (omega arith) fe)
      (labels_fine b k labels found z q rest on at lt (omega arith) fr)
  labels_fine b k (to.range low high ∷ labels) found p q (x, y, is, el, eh, ic, pk, rest) on at lt wide fit =
      let (fe, fr) = and_both (expr_passes formats_fit low && expr_passes formats_fit high) (list_all (label_passes formats_fit) labels) fit in
      let (fl, fh) = and_both (expr_passes formats_fit low) (expr_passes formats_fit high) fe in
      let c : List Kind = b ++ k ∷ [] in
      let z : ℕ = past 2 (y + 1) in
      let n : ℕ = 3 + width high in
      let some = some_width low in
      let some_high = some_width high in
      let go = labels_forward s b k labels found z q rest in
      let wide_n : Wide s b n = omega arith in
      let above : Wide s c (2 + width high) = up s b (k ∷ []) n (2 + width high) wide_n (omega arith) in
      let test : Is s (c ++ k ∷ k ∷ k ∷ []) y (within k) = is_joined s b (k ∷ []) (k ∷ k ∷ k ∷ []) y (within k) ic in
      line s p q (dup s roomy b k p n is (expr_begins s (b ++ k ∷ k ∷ []) low (Some k) (p + 1) x el) wide_n (omega arith))
      (both s (p + 1) x q
      (value (b ++ k ∷ k ∷ []) low k (p + 1) x el (joined s b (k ∷ k ∷ []) (k ∷ []) x (expr_begins s (b ++ k ∷ k ∷ k ∷ []) high (Some k) x y eh)) (up s b (k ∷ k ∷ []) (2 + width low) (width low) (omega arith) (omega arith)) fl)
      (both s x y q
      (value (b ++ k ∷ k ∷ k ∷ []) high k x y eh (joined s b (k ∷ k ∷ k ∷ []) (k ∷ []) y (begins ic)) (up s b (k ∷ k ∷ k ∷ []) n (width high) wide_n (omega arith)) fh)
      (line s y q (lies_within s roomy k c y (2 + width high) test (begins pk.fails) above (omega arith))
      (both s (y + 1) z q (picks c found (y + 1) (2 + width high) pk (labels_begin s b k labels found z q rest on) at (omega arith) above (omega arith))
      (labels_fine b k labels found z q rest on at lt (omega arith) fr)))))

  -- FOR

  raises : (b : List Kind) (counter : Scalar) (body : Block) (l q : ℕ) (a : CountAt s b counter body l q) → Begins s b q → l < a.y → Wide s b 4 → Fine s a.y q
  raises b counter body l q a at go wide =
      let r = a.raises in
      let y : ℕ = a.y in
      let c : List Kind = b ++ Int ∷ [] in
      let d : List Kind = b ++ Int ∷ Int ∷ [] in
      let e : List Kind = b ++ Int ∷ Int ∷ Int ∷ [] in
      let c3 : Wide s c 3 = up s b (Int ∷ []) 4 3 wide (omega arith) in
      let d2 : Wide s d 2 = up s b (Int ∷ Int ∷ []) 4 2 wide (omega arith) in
      let e1 : Wide s e 1 = up s b (Int ∷ Int ∷ Int ∷ []) 4 1 wide (omega arith) in
      let over = r.over in
      let twice : Is s (c ++ Int ∷ []) (past 1 y) does.Dup = is_joined s b (Int ∷ []) (Int ∷ []) (past 1 y) _ r.twice in
      let differs : Is s (d ++ Int ∷ Int ∷ []) (past 3 y) (does.CmpInt relation.Unequal) = is_joined s b (Int ∷ Int ∷ []) (Int ∷ Int ∷ []) (past 3 y) _ r.differs in
      let leave : Is s (d ++ Int ∷ []) (past 4 y) (does.JumpIfZero (past 9 y)) = is_joined s b (Int ∷ Int ∷ []) (Int ∷ []) (past 4 y) _ r.leave in
      let add : Is s (c ++ Int ∷ Int ∷ []) (past 6 y) does.Add = is_joined s b (Int ∷ []) (Int ∷ Int ∷ []) (past 6 y) _ r.add in
      let store : Is s (c ++ Int ∷ []) (past 7 y) _ = is_joined s b (Int ∷ []) (Int ∷ []) (past 7 y) _ r.store in
      let drop_it : Is s (c ++ Int ∷ []) (past 9 y) does.Drop = is_joined s b (Int ∷ []) (Int ∷ []) (past 9 y) _ r.drop in
      line s y q (reads project parts right f raw of roomy counter Int c y 3 a.kind r.load (begins twice) c3 (omega arith))
      (line s (past 1 y) q (dup s roomy c Int (past 1 y) 3 twice (joined s b (Int ∷ []) (Int ∷ Int ∷ []) (past 2 y) (begins r.most)) c3 (omega arith))
      (line s (past 2 y) q (leaves_int s roomy e (past 2 y) largest 1 refl refl refl tt refl r.most (joined s b (Int ∷ Int ∷ Int ∷ []) (Int ∷ []) (past 3 y) (begins r.differs)) e1 (omega arith))
      (line s (past 3 y) q (compares s roomy relation.Unequal Int d (past 3 y) 2 differs (begins leave) d2 (omega arith))
      (line s (past 4 y) q (branch s roomy d (past 4 y) (past 9 y) 2 leave (begins r.drop) (begins r.one) (omega arith) d2 (omega arith))
      (line s (past 5 y) q (leaves_int s roomy d (past 5 y) (does.PushInt (pos 1)) 2 refl refl refl tt refl r.one (joined s b (Int ∷ Int ∷ []) (Int ∷ []) (past 6 y) (begins r.add)) d2 (omega arith))
      (line s (past 6 y) q (plain s roomy c (Int ∷ Int ∷ []) Int Int (past 6 y) does.Add 3 refl refl refl tt refl refl add (begins store) c3 (omega arith) (omega arith))
      (line s (past 7 y) q (writes project parts right f raw of roomy counter Int c (past 7 y) 3 a.kind store (begins r.back) c3 (omega arith))
      (line s (past 8 y) q (jump_back s roomy c (past 8 y) l 3 r.back a.tick c3)
      (line s (past 9 y) q (drop s roomy c Int (past 9 y) 3 drop_it (begins r.drop_last) c3 (omega arith))
      (one s (past 10 y) q over (drop s roomy b Int (past 10 y) 4 r.drop_last (begins_from s b (past 11 y) q over at) wide (omega arith))))))))))))

  counts : (b : List Kind) (counter : Scalar) (body : Block) (l q : ℕ) (a : CountAt s b counter body l q) → Begins s b q → Wide s b 4 → Fine s (past 5 l) a.y → Fine s l q
  counts b counter body l q a at wide ran =
      let c : List Kind = b ++ Int ∷ [] in
      let d : List Kind = b ++ Int ∷ Int ∷ [] in
      let c3 : Wide s c 3 = up s b (Int ∷ []) 4 3 wide (omega arith) in
      let d2 : Wide s d 2 = up s b (Int ∷ Int ∷ []) 4 2 wide (omega arith) in
      let go = block_forward s c body (past 5 l) a.y a.ran in
      let over = a.over in
      let last = a.raises.over in
      let compare : Is s (c ++ Int ∷ Int ∷ []) (past 3 l) (does.CmpInt relation.AtLeast) = is_joined s b (Int ∷ []) (Int ∷ Int ∷ []) (past 3 l) _ a.compare in
      let leave : Is s (c ++ Int ∷ []) (past 4 l) (does.JumpIfZero a.e) = is_joined s b (Int ∷ []) (Int ∷ []) (past 4 l) _ a.leave in
      line s l q (tick s roomy c l 3 a.tick (begins a.twice) c3)
      (line s (past 1 l) q (dup s roomy b Int (past 1 l) 4 a.twice (begins a.load) wide (omega arith))
      (line s (past 2 l) q (reads project parts right f raw of roomy counter Int d (past 2 l) 2 a.kind a.load (joined s b (Int ∷ Int ∷ []) (Int ∷ []) (past 3 l) (begins a.compare)) d2 (omega arith))
      (line s (past 3 l) q (compares s roomy relation.AtLeast Int c (past 3 l) 3 compare (begins leave) c3 (omega arith))
      (line s (past 4 l) q (branch s roomy c (past 4 l) a.e 3 leave (begins a.drop) (block_begins s c body (past 5 l) a.y a.ran (begins a.raises.load)) (omega arith) c3 (omega arith))
      (both s (past 5 l) a.y q ran (raises b counter body l q a at (omega arith) wide))))))

  mutual
    pub block_fine : (b : List Kind) (body : Block) (p q : ℕ) → BlockAt s b body p q → Begins s b q → Wide s b 0 → Wide s b (block_width body) → block_passes formats_fit body ≡ true → Fine s p q
    block_fine b to.done p q h at none wide fit = nothing s p q h
    block_fine b (to.then x rest) p q (y, hx, hr) at none wide fit =
        let (fx, fr) = and_both (stmt_passes formats_fit x) (block_passes formats_fit rest) fit in
        both s p y q (stmt_fine b x p y hx (block_begins s b rest y q hr at) none (omega arith) fx)
        (block_fine b rest y q hr at none (omega arith) fr)

    stmt_fine : (b : List Kind) (x : Stmt) (p q : ℕ) → StmtAt s b x p q → Begins s b q → Wide s b 0 → Wide s b (stmt_width x) → stmt_passes formats_fit x ≡ true → Fine s p q
    stmt_fine b (to.assign n target e) p q (x, k, kind, is, ev, iw, eq) at none wide fit =
        let some = some_width e in
        line s p q (tick s roomy b p 0 is (expr_begins s b e (Some k) (p + 1) x ev) none)
        (both s (p + 1) x q (value b e k (p + 1) x ev (begins iw) wide fit)
        (one s x q eq (writes project parts right f raw of roomy target k b x (width e) kind iw (begins_from s b (x + 1) q eq at) wide some)))
    stmt_fine b (to.assign_element n a index e) p q (x, y, k, kind, is, ei, ev, iw, eq) at none wide fit =
        let (fi, fe) = and_both (expr_passes formats_fit index) (expr_passes formats_fit e) fit in
        let some = some_width e in
        let m : ℕ = 1 + width e in
        let wide_m : Wide s b m = omega arith in
        line s p q (tick s roomy b p 0 is (expr_begins s b index (Some Int) (p + 1) x ei) none)
        (both s (p + 1) x q (value b index Int (p + 1) x ei (expr_begins s (b ++ Int ∷ []) e (Some k) x y ev) (omega arith) fi)
        (both s x y q (value (b ++ Int ∷ []) e k x y ev (joined s b (Int ∷ []) (k ∷ []) y (begins iw)) (up s b (Int ∷ []) m (width e) wide_m (omega arith)) fe)
        (one s y q eq (writes_element project parts right f raw of roomy a k b y m kind iw (begins_from s b (y + 1) q eq at) wide_m (omega arith)))))
    stmt_fine b (to.call_of n what) p q (x, kind, is, ec, id, eq) at none wide fit =
        let some = call_some what in
        line s p q (tick s roomy b p 0 is (call_begins s b what kind (p + 1) x ec) none)
        (both s (p + 1) x q (call_fine project parts right f raw of roomy b what kind (p + 1) x ec (begins id) wide fit)
        (one s x q eq (drop s roomy b (left_kind kind) x _ id (begins_from s b (x + 1) q eq at) wide some)))
    stmt_fine b (to.choose n test body last) p q (x, y, e, is, et, ij, hb, ho) at none wide fit =
        let (f1, fl) = and_both (expr_passes formats_fit test && block_passes formats_fit body) (other_passes formats_fit last) fit in
        let (ft, fb) = and_both (expr_passes formats_fit test) (block_passes formats_fit body) f1 in
        let some = some_width test in
        let go = block_forward s b body (x + 1) y hb in
        let on = other_forward s b last y e q ho in
        let there = other_begins s b last y e q ho at in
        let wide_test : Wide s b (width test) = omega arith in
        line s p q (tick s roomy b p 0 is (expr_begins s b test (Some Int) (p + 1) x et) none)
        (both s (p + 1) x q (value b test Int (p + 1) x et (begins ij) wide_test ft)
        (line s x q (branch s roomy b x e (width test) ij there.1 (block_begins s b body (x + 1) y hb there.0) (omega (arith, on.0)) wide_test some)
        (both s (x + 1) y q (block_fine b body (x + 1) y hb there.0 none (omega arith) fb) (other_fine b last y e q ho at none (omega arith) fl))))
    stmt_fine b (to.while n test body) p q (is, a) at none wide fit =
        let (ft, fb) = and_both (expr_passes formats_fit test) (block_passes formats_fit body) fit in
        let some = some_width test in
        let over = a.over in
        let go = block_forward s b body (a.x + 1) a.y a.ran in
        let wide_test : Wide s b (width test) = omega arith in
        line s p q (tick s roomy b p 0 is (begins a.tick) none)
        (line s (p + 1) q (tick s roomy b (p + 1) 0 a.tick (expr_begins s b test (Some Int) (p + 1 + 1) a.x a.tested) none)
        (both s (p + 1 + 1) a.x q (value b test Int (p + 1 + 1) a.x a.tested (begins a.leave) wide_test ft)
        (line s a.x q (branch s roomy b a.x q (width test) a.leave at (block_begins s b body (a.x + 1) a.y a.ran (begins a.back)) (omega arith) wide_test some)
        (both s (a.x + 1) a.y q (block_fine b body (a.x + 1) a.y a.ran (begins a.back) none (omega arith) fb)
        (one s a.y q over (jump_back s roomy b a.y (p + 1) 0 a.back a.tick none))))))
    stmt_fine b (to.for n counter begin last body) p q (x, y, is, eb, el, sw, iw, a) at none wide fit =
        let (f1, fb) = and_both (expr_passes formats_fit begin && expr_passes formats_fit last) (block_passes formats_fit body) fit in
        let (fx, fl) = and_both (expr_passes formats_fit begin) (expr_passes formats_fit last) f1 in
        let c : List Kind = b ++ Int ∷ [] in
        let four : Wide s b 4 = omega arith in
        let above : Wide s c 3 = up s b (Int ∷ []) 4 3 four (omega arith) in
        let store : Is s (c ++ Int ∷ []) (y + 1) _ = is_joined s b (Int ∷ []) (Int ∷ []) (y + 1) _ iw in
        let inside : Wide s c (block_width body) = up s b (Int ∷ []) (1 + block_width body) (block_width body) (omega arith) (omega arith) in
        line s p q (tick s roomy b p 0 is (expr_begins s b begin (Some Int) (p + 1) x eb) none)
        (both s (p + 1) x q (value b begin Int (p + 1) x eb (expr_begins s c last (Some Int) x y el) (omega arith) fx)
        (both s x y q (value c last Int x y el (joined s b (Int ∷ []) (Int ∷ []) y (begins sw)) (up s b (Int ∷ []) (1 + width last) (width last) (omega arith) (omega arith)) fl)
        (line s y q (swap s roomy b Int Int y 4 sw (begins iw) four (omega arith))
        (line s (y + 1) q (writes project parts right f raw of roomy counter Int c (y + 1) 3 a.kind store (begins a.tick) above (omega arith))
        (counts b counter body (past 2 y) q a at four (block_fine c body (past 5 (past 2 y)) a.y a.ran (begins a.raises.load) (omega arith) inside fb))))))
    stmt_fine b (to.select n subject clauses last) p q (x, y, k, is, es, hc, id, hb) at none wide fit =
        let (f1, fl) = and_both (expr_passes formats_fit subject && clauses_pass formats_fit clauses) (block_passes formats_fit last) fit in
        let (fs, fc) = and_both (expr_passes formats_fit subject) (clauses_pass formats_fit clauses) f1 in
        let some = some_width subject in
        let go = block_forward s b last (y + 1) q hb in
        let wide_subject : Wide s b (width subject) = omega arith in
        line s p q (tick s roomy b p 0 is (expr_begins s b subject (Some k) (p + 1) x es) none)
        (both s (p + 1) x q (value b subject k (p + 1) x es (clauses_begin s b k clauses q x y hc (begins id)) wide_subject fs)
        (both s x y q (clauses_fine b k clauses q x y hc (begins id) at (omega arith) none (width subject) some wide_subject (omega arith) fc)
        (line s y q (drop s roomy b k y (width subject) id (block_begins s b last (y + 1) q hb at) wide_subject some)
        (block_fine b last (y + 1) q hb at none (omega arith) fl))))
    stmt_fine b (to.return n e) p q (x, is, ev, ir, eq) at none wide fit =
        let k : Kind = left_kind f.gives in
        let some = some_width e in
        let wide_value : Wide s b (width e) = omega arith in
        line s p q (tick s roomy b p 0 is (expr_begins s b e (Some k) (p + 1) x ev) none)
        (both s (p + 1) x q (value b e k (p + 1) x ev (begins ir) wide_value fit)
        (one s x q eq (gives s roomy b k x (width e) (ap (λ o. left_kind o ∷ []) of.gives) ir wide_value some)))

    other_fine : (b : List Kind) (last : Other) (y e q : ℕ) → OtherAt s b last y e q → Begins s b q → Wide s b 0 → Wide s b (other_width last) → other_passes formats_fit last ≡ true → Fine s y q
    other_fine b to.no_other y e q (ey, eq) at none wide fit = nothing s y q ey
    other_fine b (to.other body) y e q (ij, ee, hb) at none wide fit =
        let go = block_forward s b body (y + 1) q hb in
        line s y q (jump s roomy b y q 0 ij at (omega arith) none) (block_fine b body (y + 1) q hb at none wide fit)

    clauses_fine : (b : List Kind) (k : Kind) (clauses : Clauses) (z p q : ℕ) → ClausesAt s b k clauses z p q → Begins s (b ++ k ∷ []) q → Begins s b z → q < z → Wide s b 0 → (n : ℕ) → 1 ≤ n → Wide s b n → Wide s b (clauses_width clauses) → clauses_pass formats_fit clauses ≡ true → Fine s p q
    clauses_fine b k to.no_clause z p q h on at lt none n some first wide fit = nothing s p q h
    clauses_fine b k (to.clause labels body rest) z p q (x, y, hl, ij, id, hb, io, hr) on at lt none n some first wide fit =
        let (f1, fr) = and_both (list_all (label_passes formats_fit) labels && block_passes formats_fit body) (clauses_pass formats_fit rest) fit in
        let (fl, fb) = and_both (list_all (label_passes formats_fit) labels) (block_passes formats_fit body) f1 in
        let c : List Kind = b ++ k ∷ [] in
        let go = block_forward s b body (past 2 x) y hb in
        let more = clauses_forward s b k rest z (y + 1) q hr in
        let above : Wide s c 0 = up s b (k ∷ []) n 0 first (omega arith) in
        both s p x q (labels_fine b k labels (x + 1) p x hl (begins ij) (begins id) (omega arith) (omega arith) fl)
        (line s x q (jump s roomy c x (y + 1) 0 ij (clauses_begin s b k rest z (y + 1) q hr on) (omega arith) above)
        (line s (x + 1) q (drop s roomy b k (x + 1) n id (block_begins s b body (past 2 x) y hb (begins io)) first some)
        (both s (past 2 x) y q (block_fine b body (past 2 x) y hb (begins io) none (omega arith) fb)
        (line s y q (jump s roomy b y z 0 io at (omega arith) none) (clauses_fine b k rest z (y + 1) q hr on at lt none n some first (omega arith) fr)))))
