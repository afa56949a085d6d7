-- Each step of a task keeps to texts that a STRING holds and to cells that a request names.
use Rattle.std.proofs.Common.{ℕ, zero, suc, Bool, true, false, List, [], ◌∷◌, Option, Some, None, Ok, Err, sym, subst}
use Rattle.std.specs.Prelude.{reverse, All}
use Rattle.std.proofs.lemmas.List.Elements.{All-head, All-tail}
use Rattle.ci_base.specs.declared.function.PrivateName.{PrivateName}
use Rattle.ci_base.specs.declared.reply.Answer.{Answer}
use Rattle.ci_base.specs.declared.value.Kind.{Kind}
use Rattle.ci_base.specs.declared.value.Kind.TheVariants as kinds
use Rattle.ci_base.specs.declared.value.Value.{Value}
use Rattle.ci_base.specs.Steps.{tick, quiet, asks, stuck}
use Rattle.ci_base.specs.Values.{Outcome, kind_of}
use Rattle.ci_tree.specs.Bound as to
use Rattle.ci_tree.specs.Bound.{Scalar, Callee, Expr, Links, Exprs, Label, Stmt, Other, Clauses, Block, Function, Project}
use Rattle.ci_meaning.specs.Configuration.{Targets, Counting, Branch, Want, as_operand, as_front, as_right, as_index, as_argument, as_queue, as_mode, as_answer, as_kept, Aim, to_store, to_index, to_element, to_choose, to_turn, to_begin, to_count, to_compare, to_raise, to_select, to_match, to_low, to_high, to_return, to_drop, Left, run, again, round, bump, sift, pick, Hand, eval, give, write, enter, go, Caller, Task, Configuration, function_in, opening}
use Rattle.ci_meaning.specs.Moves.{Move, failed_if, came, stored, read_cell, write_cell, entered_if, computed, called, returned}
use Rattle.ci_meaning.specs.Operators.{operate, form}
use Rattle.ci_meaning.specs.Meaning.{to_do, argued, read_if, used, chosen_if, turned_if, compared_if, raised_if, picked_if, reached, begun, evaluated, gone, act, next, answered, resumed, resume}
use Rattle.ci_meaning.specs.Laws.{AtNext}
use Rattle.ci_meaning.specs.Held.{Did}
use Rattle.ci_meaning.specs.declared.tree_task.TreeMove.{TreeMove}
use Rattle.ci_meaning.specs.declared.tree_task.TreeMove.TheVariants as moves
use Rattle.ci_meaning.specs.Within.{scalar_within, expr_within, exprs_within, labels_within, stmt_within, other_within, block_within, targets_within, counting_within, branch_within, want_within, wants_within, aim_within, lefts_within, hand_within, callers_within, task_within, Within, ProjectWithin}

-- the next configuration is within
abbrev Stays : Move → Type 0
Stays m = AtNext m (λ (d : Configuration). Within d)

stored_within : (of : Scalar) (v : Value) (hand : Hand) (t : Task) → scalar_within of → hand_within hand → task_within t → Within (stored of v hand t)
stored_within (to.local i) v hand t s h k = (h, k)
stored_within (to.cell c) v hand t s h k = ((s, h), k)

failed_within : (b : Bool) (code : ℕ) (hand : Hand) (t : Task) → hand_within hand → task_within t → Stays (failed_if b code hand t)
failed_within true code hand t h k = (h, k)
failed_within false code hand t h k = tt

came_within : (kind : Kind) (o : Outcome) (wants : List Want) (aim : Aim) (t : Task) → wants_within wants → aim_within aim → task_within t → Stays (came kind o wants aim t)
came_within kind (Ok v) wants aim t w a k = ((w, a), k)
came_within kind (Err code) wants aim t w a k = failed_within t.goes_on code _ t (w, a) k

read_within : (c : Option ℕ) (kind : Kind) (wants : List Want) (aim : Aim) (t : Task) → wants_within wants → aim_within aim → task_within t → Stays (read_cell c kind wants aim t)
read_within (Some c) kind wants aim t w a k = tt
read_within None kind wants aim t w a k = failed_within t.goes_on _ _ t (w, a) k

write_within : (c : Option ℕ) (v : Value) (t : Task) → task_within t → Stays (write_cell c v t)
write_within (Some c) v t k = tt
write_within None v t k = failed_within t.goes_on _ _ t tt k

abbrev BodyWithin : Function → Type 0
BodyWithin f = block_within f.body

function_within : (fs : List Function) (f : ℕ) → All (λ (g : Function). block_within g.body) fs → block_within (function_in fs f).body
function_within [] f h = tt
function_within (g ∷ gs) zero h = All-head BodyWithin g gs h
function_within (g ∷ gs) (suc f) h = function_within gs f (All-tail BodyWithin g gs h)

entered_within : (b : Bool) (p : Project) (f : ℕ) (args : List Value) (wants : List Want) (aim : Aim) (t : Task) → ProjectWithin p → wants_within wants → aim_within aim → task_within t → Stays (entered_if b p f args wants aim t)
entered_within true p f args wants aim t small w a k = (tt, ((function_within p.functions f small, tt), (w, a, k.0, k.1)))
entered_within false p f args wants aim t small w a k = tt

computed_within : (q : PrivateName) (args : List Value) (o : Outcome) (wants : List Want) (aim : Aim) (t : Task) → wants_within wants → aim_within aim → task_within t → Stays (computed q args o wants aim t)
computed_within q args (Ok v) wants aim t w a k = ((w, a), k)
computed_within q args (Err code) wants aim t w a k = failed_within t.goes_on code _ t (w, a) k

called_within : (p : Project) (callee : Callee) (args : List Value) (wants : List Want) (aim : Aim) (t : Task) → ProjectWithin p → wants_within wants → aim_within aim → task_within t → Stays (called p callee args wants aim t)
called_within p (to.function f) args wants aim t small w a k = entered_within _ p f args wants aim t small w a k
called_within p (to.private q) args wants aim t small w a k = computed_within q args _ wants aim t w a k
called_within p (to.shared q) args wants aim t small w a k = tt

argued_within : (p : Project) (callee : Callee) (before : List Value) (rest : Exprs) (wants : List Want) (aim : Aim) (t : Task) → ProjectWithin p → exprs_within rest → wants_within wants → aim_within aim → task_within t → Stays (argued p callee before rest wants aim t)
argued_within p callee before to.no_expr wants aim t small r w a k = called_within p callee (reverse before) wants aim t small w a k
argued_within p callee before (to.more e rest) wants aim t small r w a k = ((r.0, (r.1, w), a), k)

returned_within : (v : Value) (callers : List Caller) (t : Task) → callers_within callers → Stays (returned v callers t)
returned_within v [] t k = tt
returned_within v (c ∷ callers) t k = ((k.0, k.1), (k.2, k.3))

read_if_within : (z : Bool) (v : Value) (targets : Targets) (wants : List Want) (aim : Aim) (t : Task) → targets_within targets → wants_within wants → aim_within aim → task_within t → Stays (read_if z v targets wants aim t)
read_if_within true v targets wants aim t s w a k = stored_within targets.sort _ _ t s.0 ((s.1, w), a) k
read_if_within false v targets wants aim t s w a k = ((w, a), k)

chosen_within : (z : Bool) (body : Block) (last : Other) (t : Task) → block_within body → other_within last → task_within t → Stays (chosen_if z body last t)
chosen_within true body to.no_other t b o k = (tt, k)
chosen_within true body (to.other c) t b o k = (tt, ((o, k.0), k.1))
chosen_within false body last t b o k = (tt, ((b, k.0), k.1))

turned_within : (z : Bool) (test : Expr) (body : Block) (t : Task) → expr_within test → block_within body → task_within t → Stays (turned_if z test body t)
turned_within true test body t e b k = (tt, k)
turned_within false test body t e b k = (tt, ((b, ((e, b), k.0)), k.1))

compared_within : (z : Bool) (c : Counting) (t : Task) → counting_within c → task_within t → Stays (compared_if z c t)
compared_within true c t s k = (tt, ((s.1, (s, k.0)), k.1))
compared_within false c t s k = (tt, k)

raised_within : (z : Bool) (v : Value) (c : Counting) (t : Task) → counting_within c → task_within t → Stays (raised_if z v c t)
raised_within true v c t s k = (tt, k)
raised_within false v c t s k = stored_within c.counter _ _ _ s.0 tt ((s, k.0), k.1)

picked_within : (z : Bool) (of : Value) (labels : List Label) (branch : Branch) (t : Task) → labels_within labels → branch_within branch → task_within t → Stays (picked_if z of labels branch t)
picked_within true of labels branch t l b k = (tt, ((b.0, k.0), k.1))
picked_within false of labels branch t l b k = (tt, (((l, b), k.0), k.1))

reached_within : (p : Project) (v : Value) (aim : Aim) (t : Task) → aim_within aim → task_within t → Stays (reached p v aim t)
reached_within p v (to_store target) t a k = stored_within target v go t a tt k
reached_within p v (to_index x e) t a k = ((a, tt, tt), k)
reached_within p v (to_element x i) t a k = write_within _ v t k
reached_within p v (to_choose body last) t a k = chosen_within _ body last t a.0 a.1 k
reached_within p v (to_turn test body) t a k = turned_within _ test body t a.0 a.1 k
reached_within p v (to_begin counter e body) t a k = ((a.1, tt, (a.0, a.2)), k)
reached_within p v (to_count u counter body) t a k = stored_within counter u go _ a.0 tt ((a, k.0), k.1)
reached_within p v (to_compare c) t a k = compared_within _ c t a k
reached_within p v (to_raise c) t a k = raised_within _ v c t a k
reached_within p v (to_select clauses other) t a k = (tt, ((a, k.0), k.1))
reached_within p v (to_match of relation labels branch) t a k = picked_within _ of labels branch t a.0 a.1 k
reached_within p v (to_low of e labels branch) t a k = ((a.0, tt, (a.1, a.2)), k)
reached_within p v (to_high of low labels branch) t a k = picked_within _ of labels branch t a.0 a.1 k
reached_within p v to_return t a k = returned_within v t.callers t k.1
reached_within p v to_drop t a k = (tt, k)

used_within : (p : Project) (v : Value) (want : Want) (wants : List Want) (aim : Aim) (t : Task) → ProjectWithin p → want_within want → wants_within wants → aim_within aim → task_within t → Stays (used p v want wants aim t)
used_within p v (as_operand minus) wants aim t small x w a k = ((w, a), k)
used_within p v (as_front to.no_link) wants aim t small x w a k = ((w, a), k)
used_within p v (as_front (to.operand op e rest)) wants aim t small x w a k = ((x.0, (x.1, w), a), k)
used_within p v (as_front (to.hashes count rest)) wants aim t small x w a k = came_within kinds.Str (form count v) (as_front rest ∷ wants) aim t (x, w) a k
used_within p v (as_right u op rest) wants aim t small x w a k = came_within (kind_of u) (operate op u v) (as_front rest ∷ wants) aim t (x, w) a k
used_within p v (as_index i) wants aim t small x w a k = read_within _ _ wants aim t w a k
used_within p v (as_argument callee before rest) wants aim t small x w a k = argued_within p callee (v ∷ before) rest wants aim t small x w a k
used_within p v (as_queue e targets) wants aim t small x w a k = ((x.0, (x.1, w), a), k)
used_within p v (as_mode number targets) wants aim t small x w a k = tt
used_within p v (as_answer targets) wants aim t small x w a k = read_if_within _ v targets wants aim t x w a k
used_within p v (as_kept target) wants aim t small x w a k = stored_within target _ _ t x (w, a) k

evaluated_within : (p : Project) (e : Expr) (wants : List Want) (aim : Aim) (t : Task) → ProjectWithin p → expr_within e → wants_within wants → aim_within aim → task_within t → Stays (evaluated p e wants aim t)
evaluated_within p (to.number n) wants aim t small x w a k = ((w, a), k)
evaluated_within p (to.literal s) wants aim t small x w a k = ((w, a), k)
evaluated_within p (to.scalar (to.local i)) wants aim t small x w a k = ((w, a), k)
evaluated_within p (to.scalar (to.cell c)) wants aim t small x w a k = tt
evaluated_within p (to.element i e) wants aim t small x w a k = ((x, (tt, w), a), k)
evaluated_within p (to.called (to.call callee given args)) wants aim t small x w a k = argued_within p callee [] args wants aim t small x w a k
evaluated_within p (to.called (to.que_read e sort text m)) wants aim t small x w a k = ((x.0, ((x.3, (x.1, x.2)), w), a), k)
evaluated_within p (to.unary minus e) wants aim t small x w a k = ((x, (tt, w), a), k)
evaluated_within p (to.chain e rest) wants aim t small x w a k = ((x.0, (x.1, w), a), k)

begun_within : (s : Stmt) (t : Task) → stmt_within s → task_within t → Within (begun s t)
begun_within (to.assign at target e) t s k = ((s.1, tt, s.0), k)
begun_within (to.assign_element at a i e) t s k = ((s.0, tt, s.1), k)
begun_within (to.call_of at what) t s k = ((s, tt, tt), k)
begun_within (to.choose at test body last) t s k = ((s.0, tt, (s.1, s.2)), k)
begun_within (to.while at test body) t s k = (tt, ((s, k.0), k.1))
begun_within (to.for at counter e bound body) t s k = ((s.1, tt, (s.0, s.2, s.3)), k)
begun_within (to.select at e clauses other) t s k = ((s.0, tt, (s.1, s.2)), k)
begun_within (to.return at e) t s k = ((s, tt, tt), k)

gone_within : (p : Project) (left : List Left) (t : Task) → lefts_within left → callers_within t.callers → Stays (gone p left t)
gone_within p [] t l k = ((tt, tt), (tt, k))
gone_within p (run to.done ∷ left) t l k = (tt, (l.1, k))
gone_within p (run (to.then s rest) ∷ left) t l k = begun_within s (to_do (run rest ∷ left) t) l.0.0 ((l.0.1, l.1), k)
gone_within p (again test body ∷ left) t l k = ((l.0.0, tt, l.0), (l.1, k))
gone_within p (round c ∷ left) t l k = ((l.0.0, tt, l.0), (l.1, k))
gone_within p (bump c ∷ left) t l k = ((l.0.0, tt, l.0), (l.1, k))
gone_within p (sift of to.no_clause other ∷ left) t l k = (tt, ((l.0.1, l.1), k))
gone_within p (sift of (to.clause labels body rest) other ∷ left) t l k = (tt, (((l.0.0.0, (l.0.0.1, l.0.0.2, l.0.1)), l.1), k))
gone_within p (pick of [] branch ∷ left) t l k = (tt, (((l.0.1.1, l.0.1.2), l.1), k))
gone_within p (pick of (to.one e ∷ labels) branch ∷ left) t l k = ((l.0.0.0, tt, (l.0.0.1, l.0.1)), (l.1, k))
gone_within p (pick of (to.range e f ∷ labels) branch ∷ left) t l k = ((l.0.0.0, tt, (l.0.0.1, l.0.0.2, l.0.1)), (l.1, k))
gone_within p (pick of (to.compared r e ∷ labels) branch ∷ left) t l k = ((l.0.0.0, tt, (l.0.0.1, l.0.1)), (l.1, k))

act_within : (p : Project) (hand : Hand) (t : Task) → ProjectWithin p → hand_within hand → task_within t → Stays (act p hand t)
act_within p (eval e wants aim) t small h k = evaluated_within p e wants aim t small h.0 h.1 h.2 k
act_within p (give v [] aim) t small h k = reached_within p v aim t h.1 k
act_within p (give v (want ∷ wants) aim) t small h k = used_within p v want wants aim t small h.0.0 h.0.1 h.1 k
act_within p (write c v hand) t small h k = tt
act_within p enter t small h k = (tt, k)
act_within p go t small h k = gone_within p t.left t k.0 k.1

-- after a private step
pub next_within : (p : Project) (c : Configuration) → ProjectWithin p → Within c → Stays (next p c)
next_within p c small h = act_within p c.hand c.task small h.0 h.1

-- at the start
pub opening_within : (p : Project) (f : ℕ) (args : List Value) → ProjectWithin p → Within (opening p f args)
opening_within p f args small = (tt, ((function_within p.functions f small, tt), tt))

-- with an answer
answered_within : (x : Value) (wants : List Want) (aim : Aim) → wants_within wants → aim_within aim → hand_within (answered x wants aim)
answered_within x [] aim w a = tt
answered_within x (as_operand minus ∷ wants) aim w a = (w.1, a)
answered_within x (as_front rest ∷ wants) aim w a = (w.1, a)
answered_within x (as_right u op rest ∷ wants) aim w a = (w.1, a)
answered_within x (as_index i ∷ wants) aim w a = (w.1, a)
answered_within x (as_argument callee before rest ∷ wants) aim w a = (w.1, a)
answered_within x (as_queue e targets ∷ wants) aim w a = (w.1, a)
answered_within x (as_mode number targets ∷ wants) aim w a = (w, a)
answered_within x (as_answer targets ∷ wants) aim w a = (w.1, a)
answered_within x (as_kept target ∷ wants) aim w a = (w.1, a)

resumed_within : (hand : Hand) (x : Value) → hand_within hand → hand_within (resumed hand x)
resumed_within (eval e wants aim) x h = (h.1, h.2)
resumed_within (give v wants aim) x h = answered_within x wants aim h.0 h.1
resumed_within (write c v hand) x h = h.1
resumed_within enter x h = tt
resumed_within go x h = tt

pub resume_within : (c : Configuration) (a : Answer) → Within c → Within (resume c a)
resume_within c a h = (resumed_within c.hand a.value h.0, h.1)

-- a step that makes its move
pub did_within : (m : Move) (r : TreeMove) (old new : Configuration) → Did m r old new → Stays m → Within old → Within new
did_within (tick c) (moves.Private t) old new d s h = subst Within (sym d.1) s
did_within (quiet c) (moves.Private t) old new d s h = subst Within (sym d.1) s
did_within (asks q) (moves.Asks r) old new d s h = subst Within (sym d.1) h
did_within (tick c) (moves.Asks r) old new d s h = absurd d
did_within (quiet c) (moves.Asks r) old new d s h = absurd d
did_within (asks q) (moves.Private t) old new d s h = absurd d
did_within stuck m old new d s h = absurd d
