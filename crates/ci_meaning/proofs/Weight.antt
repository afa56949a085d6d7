-- Only so many private steps are made before a tick or a request: each makes the configuration lighter.
use Rattle.std.proofs.Common.{◌≡◌, ℕ, zero, suc, ◌+◌, ◌<◌, ◌≤◌, Bool, true, false, List, [], ◌∷◌, Option, Some, None, Ok, Err, refl, sym, subst, arith}
use Rattle.std.specs.Prelude.{reverse}
use Rattle.ci_base.specs.declared.function.PrivateName.{PrivateName}
use Rattle.ci_base.specs.declared.value.Kind.{Kind}
use Rattle.ci_base.specs.declared.value.Kind.TheVariants as kinds
use Rattle.ci_base.specs.declared.value.Value.{Value}
use Rattle.ci_base.specs.declared.value.Value.TheVariants.{Int, Str}
use Rattle.ci_base.specs.Steps.{tick, quiet, asks, stuck, After, Steps}
use Rattle.ci_base.specs.Values.{Outcome, kind_of}
use Rattle.ci_tree.specs.Bound as to
use Rattle.ci_tree.specs.Bound.{Scalar, Callee, Expr, Call, Links, Exprs, Label, Other, Clauses, Block, Project}
use Rattle.ci_meaning.specs.Configuration.{Targets, Counting, Branch, Want, as_operand, as_front, as_right, as_index, as_argument, as_queue, as_mode, as_answer, as_kept, Aim, to_store, to_index, to_element, to_choose, to_turn, to_begin, to_count, to_compare, to_raise, to_select, to_match, to_low, to_high, to_return, to_drop, Left, run, again, round, bump, sift, pick, Hand, eval, give, write, enter, go, Caller, Task, Configuration, with}
use Rattle.ci_meaning.specs.Moves.{Move, failed_if, came, stored, read_cell, write_cell, entered_if, computed, called, returned}
use Rattle.ci_meaning.specs.Operators.{operate, form}
use Rattle.ci_meaning.specs.Meaning.{to_do, argued, read_if, used, chosen_if, turned_if, compared_if, raised_if, picked_if, one_more, reached, evaluated, gone, act, next}
use Rattle.ci_meaning.specs.Laws.{TicksOrAsks, SoonTicksOrAsks}

abbrev mutual
  expr_weight : Expr → ℕ
  expr_weight (to.number n) = 1
  expr_weight (to.literal s) = 1
  expr_weight (to.scalar of) = 1
  expr_weight (to.element a e) = 2 + expr_weight e
  expr_weight (to.called what) = call_weight what
  expr_weight (to.unary minus e) = 2 + expr_weight e
  expr_weight (to.chain e rest) = 1 + expr_weight e + links_weight rest

  call_weight : Call → ℕ
  call_weight (to.call callee given args) = args_weight args
  call_weight (to.que_read e sort text m) = 5 + expr_weight e + expr_weight m

  links_weight : Links → ℕ
  links_weight to.no_link = 1
  links_weight (to.operand op e rest) = 2 + expr_weight e + links_weight rest
  links_weight (to.hashes count rest) = 1 + links_weight rest

  args_weight : Exprs → ℕ
  args_weight to.no_expr = 1
  args_weight (to.more e rest) = 1 + expr_weight e + args_weight rest

abbrev labels_weight : List Label → ℕ
labels_weight [] = 0
labels_weight (to.one e ∷ rest) = 2 + expr_weight e + labels_weight rest
labels_weight (to.range e f ∷ rest) = 3 + expr_weight e + expr_weight f + labels_weight rest
labels_weight (to.compared r e ∷ rest) = 2 + expr_weight e + labels_weight rest

abbrev clauses_weight : Clauses → ℕ
clauses_weight to.no_clause = 2
clauses_weight (to.clause labels body rest) = 2 + labels_weight labels + clauses_weight rest

abbrev left_weight : List Left → ℕ
left_weight [] = 2
left_weight (run b ∷ left) = 1 + left_weight left
left_weight (again test body ∷ left) = 1 + left_weight left
left_weight (round c ∷ left) = 1 + left_weight left
left_weight (bump c ∷ left) = 4 + left_weight left
left_weight (sift of clauses other ∷ left) = clauses_weight clauses + left_weight left
left_weight (pick of labels branch ∷ left) = 1 + labels_weight labels + clauses_weight branch.rest + left_weight left

abbrev aim_weight : Aim → ℕ → ℕ
aim_weight (to_store target) n = 1 + n
aim_weight (to_index a e) n = 2 + expr_weight e + n
aim_weight (to_element a i) n = 1 + n
aim_weight (to_choose body last) n = 2 + n
aim_weight (to_turn test body) n = 3 + n
aim_weight (to_begin counter e body) n = 3 + expr_weight e + n
aim_weight (to_count u counter body) n = 2 + n
aim_weight (to_compare c) n = 6 + n
aim_weight (to_raise c) n = 2 + n
aim_weight (to_select clauses other) n = 1 + clauses_weight clauses + n
aim_weight (to_match of relation labels branch) n = 2 + labels_weight labels + clauses_weight branch.rest + n
aim_weight (to_low of e labels branch) n = 3 + expr_weight e + labels_weight labels + clauses_weight branch.rest + n
aim_weight (to_high of low labels branch) n = 2 + labels_weight labels + clauses_weight branch.rest + n
aim_weight to_return n = 1
aim_weight to_drop n = 1 + n

abbrev wants_weight : List Want → ℕ
wants_weight [] = 0
wants_weight (as_operand minus ∷ wants) = 1 + wants_weight wants
wants_weight (as_front rest ∷ wants) = links_weight rest + wants_weight wants
wants_weight (as_right u op rest ∷ wants) = 1 + links_weight rest + wants_weight wants
wants_weight (as_index a ∷ wants) = 1 + wants_weight wants
wants_weight (as_argument callee before rest ∷ wants) = args_weight rest + wants_weight wants
wants_weight (as_queue e targets ∷ wants) = 4 + expr_weight e + wants_weight wants
wants_weight (as_mode number targets ∷ wants) = 3 + wants_weight wants
wants_weight (as_answer targets ∷ wants) = 2 + wants_weight wants
wants_weight (as_kept target ∷ wants) = 1 + wants_weight wants

abbrev callers_weight : List Caller → ℕ
callers_weight [] = 0
callers_weight (c ∷ callers) = wants_weight c.wants + aim_weight c.aim (left_weight c.left) + callers_weight callers

abbrev hand_weight : Hand → List Left → ℕ
hand_weight (eval e wants aim) left = expr_weight e + wants_weight wants + aim_weight aim (left_weight left)
hand_weight (give v wants aim) left = wants_weight wants + aim_weight aim (left_weight left)
hand_weight (write c v hand) left = hand_weight hand left
hand_weight enter left = 0
hand_weight go left = left_weight left

abbrev weight : Configuration → ℕ
weight c = hand_weight c.hand c.task.left + callers_weight c.task.callers

-- a step that is no tick comes below this weight, and there is a move
abbrev Lighter : Move → ℕ → Type 0
Lighter (tick c) n = Unit {0}
Lighter (quiet c) n = weight c < n
Lighter (asks q) n = Unit {0}
Lighter stuck n = ⊥

stored_weight : (of : Scalar) (v : Value) (hand : Hand) (left : List Left) (t : Task) → weight (stored of v hand (to_do left t)) ≡ hand_weight hand left + callers_weight t.callers
stored_weight (to.local i) v hand left t = refl
stored_weight (to.cell c) v hand left t = refl

failed_light : (b : Bool) (code : ℕ) (hand : Hand) (t : Task) (n : ℕ) → hand_weight hand t.left + callers_weight t.callers < n → Lighter (failed_if b code hand t) n
failed_light true code hand t n h = h
failed_light false code hand t n h = tt

came_light : (kind : Kind) (o : Outcome) (wants : List Want) (aim : Aim) (t : Task) (n : ℕ) → wants_weight wants + aim_weight aim (left_weight t.left) + callers_weight t.callers < n → Lighter (came kind o wants aim t) n
came_light kind (Ok v) wants aim t n h = h
came_light kind (Err code) wants aim t n h = failed_light t.goes_on code _ t n h

read_cell_light : (c : Option ℕ) (kind : Kind) (wants : List Want) (aim : Aim) (t : Task) (n : ℕ) → wants_weight wants + aim_weight aim (left_weight t.left) + callers_weight t.callers < n → Lighter (read_cell c kind wants aim t) n
read_cell_light (Some c) kind wants aim t n h = tt
read_cell_light None kind wants aim t n h = failed_light t.goes_on _ _ t n h

write_cell_light : (c : Option ℕ) (v : Value) (t : Task) (n : ℕ) → left_weight t.left + callers_weight t.callers < n → Lighter (write_cell c v t) n
write_cell_light (Some c) v t n h = tt
write_cell_light None v t n h = failed_light t.goes_on _ _ t n h

entered_light : (b : Bool) (p : Project) (f : ℕ) (args : List Value) (wants : List Want) (aim : Aim) (t : Task) (n : ℕ) → wants_weight wants + aim_weight aim (left_weight t.left) + callers_weight t.callers < n → Lighter (entered_if b p f args wants aim t) n
entered_light true p f args wants aim t n h = omega arith
entered_light false p f args wants aim t n h = tt

computed_light : (q : PrivateName) (args : List Value) (o : Outcome) (wants : List Want) (aim : Aim) (t : Task) (n : ℕ) → wants_weight wants + aim_weight aim (left_weight t.left) + callers_weight t.callers < n → Lighter (computed q args o wants aim t) n
computed_light q args (Ok v) wants aim t n h = h
computed_light q args (Err code) wants aim t n h = failed_light t.goes_on code _ t n h

called_light : (p : Project) (callee : Callee) (args : List Value) (wants : List Want) (aim : Aim) (t : Task) (n : ℕ) → wants_weight wants + aim_weight aim (left_weight t.left) + callers_weight t.callers < n → Lighter (called p callee args wants aim t) n
called_light p (to.function f) args wants aim t n h = entered_light _ p f args wants aim t n h
called_light p (to.private q) args wants aim t n h = computed_light q args _ wants aim t n h
called_light p (to.shared q) args wants aim t n h = tt

argued_light : (p : Project) (callee : Callee) (before : List Value) (rest : Exprs) (wants : List Want) (aim : Aim) (t : Task) (n : ℕ) → args_weight rest + wants_weight wants + aim_weight aim (left_weight t.left) + callers_weight t.callers ≤ n → Lighter (argued p callee before rest wants aim t) n
argued_light p callee before to.no_expr wants aim t n h = called_light p callee (reverse before) wants aim t n (omega arith)
argued_light p callee before (to.more e rest) wants aim t n h = omega arith

returned_light : (v : Value) (callers : List Caller) (t : Task) → Lighter (returned v callers t) (1 + callers_weight callers)
returned_light v [] t = tt
returned_light v (c ∷ callers) t = omega arith

read_light : (z : Bool) (v : Value) (targets : Targets) (wants : List Want) (aim : Aim) (t : Task) → Lighter (read_if z v targets wants aim t) (2 + wants_weight wants + aim_weight aim (left_weight t.left) + callers_weight t.callers)
read_light true v targets wants aim t = omega (arith, stored_weight targets.sort (Int t.last.sort) (give v (as_kept targets.text ∷ wants) aim) t.left t)
read_light false v targets wants aim t = omega arith

chosen_light : (z : Bool) (body : Block) (last : Other) (t : Task) → Lighter (chosen_if z body last t) (2 + left_weight t.left + callers_weight t.callers)
chosen_light true body to.no_other t = omega arith
chosen_light true body (to.other b) t = omega arith
chosen_light false body last t = omega arith

turned_light : (z : Bool) (test : Expr) (body : Block) (t : Task) → Lighter (turned_if z test body t) (3 + left_weight t.left + callers_weight t.callers)
turned_light true test body t = omega arith
turned_light false test body t = omega arith

compared_light : (z : Bool) (c : Counting) (t : Task) → Lighter (compared_if z c t) (6 + left_weight t.left + callers_weight t.callers)
compared_light true c t = omega arith
compared_light false c t = omega arith

raised_light : (z : Bool) (v : Value) (c : Counting) (t : Task) → Lighter (raised_if z v c t) (2 + left_weight t.left + callers_weight t.callers)
raised_light true v c t = omega arith
raised_light false v c t = omega (arith, stored_weight c.counter (one_more v) go (round c ∷ t.left) t)

picked_light : (z : Bool) (of : Value) (labels : List Label) (branch : Branch) (t : Task) → Lighter (picked_if z of labels branch t) (2 + labels_weight labels + clauses_weight branch.rest + left_weight t.left + callers_weight t.callers)
picked_light true of labels branch t = omega arith
picked_light false of labels branch t = omega arith

reached_light : (p : Project) (v : Value) (aim : Aim) (t : Task) → Lighter (reached p v aim t) (aim_weight aim (left_weight t.left) + callers_weight t.callers)
reached_light p v (to_store target) t = omega (arith, stored_weight target v go t.left t)
reached_light p v (to_index a e) t = omega arith
reached_light p v (to_element a i) t = write_cell_light _ v t _ (omega arith)
reached_light p v (to_choose body last) t = chosen_light _ body last t
reached_light p v (to_turn test body) t = turned_light _ test body t
reached_light p v (to_begin counter e body) t = omega arith
reached_light p v (to_count u counter body) t = omega (arith, stored_weight counter u go (round (record { counter = counter; last = v; body = body }) ∷ t.left) t)
reached_light p v (to_compare c) t = compared_light _ c t
reached_light p v (to_raise c) t = raised_light _ v c t
reached_light p v (to_select clauses other) t = omega arith
reached_light p v (to_match of relation labels branch) t = picked_light _ of labels branch t
reached_light p v (to_low of e labels branch) t = omega arith
reached_light p v (to_high of low labels branch) t = picked_light _ of labels branch t
reached_light p v to_return t = returned_light v t.callers t
reached_light p v to_drop t = omega arith

used_light : (p : Project) (v : Value) (want : Want) (wants : List Want) (aim : Aim) (t : Task) → Lighter (used p v want wants aim t) (wants_weight (want ∷ wants) + aim_weight aim (left_weight t.left) + callers_weight t.callers)
used_light p v (as_operand minus) wants aim t = omega arith
used_light p v (as_front to.no_link) wants aim t = omega arith
used_light p v (as_front (to.operand op e rest)) wants aim t = omega arith
used_light p v (as_front (to.hashes count rest)) wants aim t = came_light kinds.Str (form count v) (as_front rest ∷ wants) aim t _ (omega arith)
used_light p v (as_right u op rest) wants aim t = came_light (kind_of u) (operate op u v) (as_front rest ∷ wants) aim t _ (omega arith)
used_light p v (as_index a) wants aim t = read_cell_light _ _ wants aim t _ (omega arith)
used_light p v (as_argument callee before rest) wants aim t = argued_light p callee (v ∷ before) rest wants aim t _ (omega arith)
used_light p v (as_queue e targets) wants aim t = omega arith
used_light p v (as_mode number targets) wants aim t = tt
used_light p v (as_answer targets) wants aim t = read_light _ v targets wants aim t
used_light p v (as_kept target) wants aim t = omega (arith, stored_weight target (Str t.last.text) (give v wants aim) t.left t)

evaluated_light : (p : Project) (e : Expr) (wants : List Want) (aim : Aim) (t : Task) → Lighter (evaluated p e wants aim t) (expr_weight e + wants_weight wants + aim_weight aim (left_weight t.left) + callers_weight t.callers)
evaluated_light p (to.number n) wants aim t = omega arith
evaluated_light p (to.literal s) wants aim t = omega arith
evaluated_light p (to.scalar (to.local i)) wants aim t = omega arith
evaluated_light p (to.scalar (to.cell c)) wants aim t = tt
evaluated_light p (to.element a e) wants aim t = omega arith
evaluated_light p (to.called (to.call callee given args)) wants aim t = argued_light p callee [] args wants aim t _ (omega arith)
evaluated_light p (to.called (to.que_read e sort text m)) wants aim t = omega arith
evaluated_light p (to.unary minus e) wants aim t = omega arith
evaluated_light p (to.chain e rest) wants aim t = omega arith

gone_light : (p : Project) (left : List Left) (t : Task) → Lighter (gone p left t) (left_weight left + callers_weight t.callers)
gone_light p [] t = omega arith
gone_light p (run to.done ∷ left) t = omega arith
gone_light p (run (to.then s rest) ∷ left) t = tt
gone_light p (again test body ∷ left) t = tt
gone_light p (round c ∷ left) t = tt
gone_light p (bump c ∷ left) t = omega arith
gone_light p (sift of to.no_clause other ∷ left) t = omega arith
gone_light p (sift of (to.clause labels body rest) other ∷ left) t = omega arith
gone_light p (pick of [] branch ∷ left) t = omega arith
gone_light p (pick of (to.one e ∷ labels) branch ∷ left) t = omega arith
gone_light p (pick of (to.range e f ∷ labels) branch ∷ left) t = omega arith
gone_light p (pick of (to.compared r e ∷ labels) branch ∷ left) t = omega arith

light : (p : Project) (hand : Hand) (t : Task) → Lighter (act p hand t) (weight (with hand t))
light p (eval e wants aim) t = evaluated_light p e wants aim t
light p (give v [] aim) t =
    let same : aim_weight aim (left_weight t.left) + callers_weight t.callers ≡ 0 + aim_weight aim (left_weight t.left) + callers_weight t.callers = omega arith in
    subst (Lighter (reached p v aim t)) same (reached_light p v aim t)
light p (give v (want ∷ wants) aim) t = used_light p v want wants aim t
light p (write c v hand) t = tt
light p enter t = tt
light p go t = gone_light p t.left t

-- from a configuration of at most this weight
soon_within : (p : Project) (n : ℕ) (c : Configuration) (m : Move) → next p c ≡ m → Lighter m (weight c) → weight c ≤ n →
    (k : ℕ) × (d : Configuration) × Steps (next p) k c 0 d × TicksOrAsks (next p d)
soon_within p n c (tick e) is l h = (0, c, (refl, refl), subst TicksOrAsks (sym is) tt)
soon_within p n c (asks q) is l h = (0, c, (refl, refl), subst TicksOrAsks (sym is) tt)
soon_within p n c stuck is l h = elim l [ ]
soon_within p zero c (quiet e) is l h = absurd (omega arith)
soon_within p (suc n) c (quiet e) is l h =
    let (k, d, steps, ends) = soon_within p n e (next p e) refl (light p e.hand e.task) (omega arith) in
    (suc k, d, subst (λ m. After m (λ x j. Steps (next p) k x j d) 0) (sym is) steps, ends)

pub soon : SoonTicksOrAsks
soon p c = soon_within p (weight c) c (next p c) refl (light p c.hand c.task) (omega arith)
