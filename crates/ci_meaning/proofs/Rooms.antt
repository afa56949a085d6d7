-- The rooms of the active functions stay small.
use Rattle.std.proofs.Common.{◌≡◌, ℕ, zero, suc, ◌+◌, ◌≤◌, Bool, true, false, List, [], ◌∷◌, Option, Some, None, Ok, Err, refl, arith}
use Rattle.std.specs.Prelude.{reverse, nat_le, All}
use Rattle.std.proofs.lemmas.Bool.{leb-true}
use Rattle.std.proofs.lemmas.List.Elements.{All-head, All-tail}
use Rattle.ci_base.specs.declared.bounds.TheConstants.{MOST_ROOM}
use Rattle.ci_base.specs.declared.function.PrivateName.{PrivateName}
use Rattle.ci_base.specs.declared.value.Kind.{Kind}
use Rattle.ci_base.specs.declared.value.Kind.TheVariants as kinds
use Rattle.ci_base.specs.declared.value.Value.{Value}
use Rattle.ci_base.specs.Steps.{quiet}
use Rattle.ci_base.specs.Values.{Outcome, kind_of}
use Rattle.ci_tree.specs.Bound as to
use Rattle.ci_tree.specs.Bound.{Scalar, Callee, Expr, Links, Exprs, Label, Stmt, Other, Clauses, Block, Function, Project}
use Rattle.ci_tree.specs.Rooms.{room}
use Rattle.ci_meaning.specs.Configuration.{Targets, Counting, Branch, Want, as_operand, as_front, as_right, as_index, as_argument, as_queue, as_mode, as_answer, as_kept, Aim, to_store, to_index, to_element, to_choose, to_turn, to_begin, to_count, to_compare, to_raise, to_select, to_match, to_low, to_high, to_return, to_drop, Left, run, again, round, bump, sift, pick, Hand, eval, give, write, enter, go, Caller, Task, Configuration, function_in, function_at}
use Rattle.ci_meaning.specs.Moves.{Move, failed_if, came, stored, read_cell, write_cell, entered_if, computed, called, returned, rooms, rooms_of}
use Rattle.ci_meaning.specs.Operators.{operate, form}
use Rattle.ci_meaning.specs.Meaning.{to_do, argued, read_if, used, chosen_if, turned_if, compared_if, raised_if, picked_if, reached, begun, evaluated, gone, act}
use Rattle.ci_meaning.specs.Laws.{AtNext, RoomsStaySmall}

-- the rooms are small in the next configuration
abbrev Small : Project → Move → Type 0
Small p m = AtNext m (λ (d : Configuration). rooms p d.task ≤ MOST_ROOM)

-- the rooms of a task are small
abbrev Fits : Project → Task → Type 0
Fits p t = rooms p t ≤ MOST_ROOM

stored_small : (p : Project) (of : Scalar) (v : Value) (hand : Hand) (t : Task) → Fits p t → Small p (quiet (stored of v hand t))
stored_small p (to.local i) v hand t h = h
stored_small p (to.cell c) v hand t h = h

failed_small : (p : Project) (b : Bool) (code : ℕ) (hand : Hand) (t : Task) → Fits p t → Small p (failed_if b code hand t)
failed_small p true code hand t h = h
failed_small p false code hand t h = tt

came_small : (p : Project) (kind : Kind) (o : Outcome) (wants : List Want) (aim : Aim) (t : Task) → Fits p t → Small p (came kind o wants aim t)
came_small p kind (Ok v) wants aim t h = h
came_small p kind (Err code) wants aim t h = failed_small p t.goes_on code _ t h

read_small : (p : Project) (c : Option ℕ) (kind : Kind) (wants : List Want) (aim : Aim) (t : Task) → Fits p t → Small p (read_cell c kind wants aim t)
read_small p (Some c) kind wants aim t h = tt
read_small p None kind wants aim t h = failed_small p t.goes_on _ _ t h

write_small : (p : Project) (c : Option ℕ) (v : Value) (t : Task) → Fits p t → Small p (write_cell c v t)
write_small p (Some c) v t h = tt
write_small p None v t h = failed_small p t.goes_on _ _ t h

entered_small : (p : Project) (b : Bool) (f : ℕ) (args : List Value) (wants : List Want) (aim : Aim) (t : Task) → nat_le (room (function_at p f) + rooms p t) MOST_ROOM ≡ b → Small p (entered_if b p f args wants aim t)
entered_small p true f args wants aim t is = omega (arith, leb-true (room (function_at p f) + rooms p t) MOST_ROOM is)
entered_small p false f args wants aim t is = tt

computed_small : (p : Project) (q : PrivateName) (args : List Value) (o : Outcome) (wants : List Want) (aim : Aim) (t : Task) → Fits p t → Small p (computed q args o wants aim t)
computed_small p q args (Ok v) wants aim t h = h
computed_small p q args (Err code) wants aim t h = failed_small p t.goes_on code _ t h

called_small : (p : Project) (callee : Callee) (args : List Value) (wants : List Want) (aim : Aim) (t : Task) → Fits p t → Small p (called p callee args wants aim t)
called_small p (to.function f) args wants aim t h = entered_small p _ f args wants aim t refl
called_small p (to.private q) args wants aim t h = computed_small p q args _ wants aim t h
called_small p (to.shared q) args wants aim t h = tt

argued_small : (p : Project) (callee : Callee) (before : List Value) (rest : Exprs) (wants : List Want) (aim : Aim) (t : Task) → Fits p t → Small p (argued p callee before rest wants aim t)
argued_small p callee before to.no_expr wants aim t h = called_small p callee (reverse before) wants aim t h
argued_small p callee before (to.more e rest) wants aim t h = h

returned_small : (p : Project) (v : Value) (callers : List Caller) (t : Task) → room (function_at p t.function) + rooms_of p callers ≤ MOST_ROOM → Small p (returned v callers t)
returned_small p v [] t h = tt
returned_small p v (c ∷ callers) t h = omega (arith, h)

read_if_small : (p : Project) (z : Bool) (v : Value) (targets : Targets) (wants : List Want) (aim : Aim) (t : Task) → Fits p t → Small p (read_if z v targets wants aim t)
read_if_small p true v targets wants aim t h = stored_small p targets.sort _ _ t h
read_if_small p false v targets wants aim t h = h

chosen_small : (p : Project) (z : Bool) (body : Block) (last : Other) (t : Task) → Fits p t → Small p (chosen_if z body last t)
chosen_small p true body to.no_other t h = h
chosen_small p true body (to.other b) t h = h
chosen_small p false body last t h = h

turned_small : (p : Project) (z : Bool) (test : Expr) (body : Block) (t : Task) → Fits p t → Small p (turned_if z test body t)
turned_small p true test body t h = h
turned_small p false test body t h = h

compared_small : (p : Project) (z : Bool) (c : Counting) (t : Task) → Fits p t → Small p (compared_if z c t)
compared_small p true c t h = h
compared_small p false c t h = h

raised_small : (p : Project) (z : Bool) (v : Value) (c : Counting) (t : Task) → Fits p t → Small p (raised_if z v c t)
raised_small p true v c t h = h
raised_small p false v c t h = stored_small p c.counter _ _ _ h

picked_small : (p : Project) (z : Bool) (of : Value) (labels : List Label) (branch : Branch) (t : Task) → Fits p t → Small p (picked_if z of labels branch t)
picked_small p true of labels branch t h = h
picked_small p false of labels branch t h = h

reached_small : (p : Project) (v : Value) (aim : Aim) (t : Task) → Fits p t → Small p (reached p v aim t)
reached_small p v (to_store target) t h = stored_small p target v go t h
reached_small p v (to_index a e) t h = h
reached_small p v (to_element a i) t h = write_small p _ v t h
reached_small p v (to_choose body last) t h = chosen_small p _ body last t h
reached_small p v (to_turn test body) t h = turned_small p _ test body t h
reached_small p v (to_begin counter e body) t h = h
reached_small p v (to_count u counter body) t h = stored_small p counter u go _ h
reached_small p v (to_compare c) t h = compared_small p _ c t h
reached_small p v (to_raise c) t h = raised_small p _ v c t h
reached_small p v (to_select clauses other) t h = h
reached_small p v (to_match of relation labels branch) t h = picked_small p _ of labels branch t h
reached_small p v (to_low of e labels branch) t h = h
reached_small p v (to_high of low labels branch) t h = picked_small p _ of labels branch t h
reached_small p v to_return t h = returned_small p v t.callers t h
reached_small p v to_drop t h = h

used_small : (p : Project) (v : Value) (want : Want) (wants : List Want) (aim : Aim) (t : Task) → Fits p t → Small p (used p v want wants aim t)
used_small p v (as_operand minus) wants aim t h = h
used_small p v (as_front to.no_link) wants aim t h = h
used_small p v (as_front (to.operand op e rest)) wants aim t h = h
used_small p v (as_front (to.hashes count rest)) wants aim t h = came_small p kinds.Str (form count v) (as_front rest ∷ wants) aim t h
used_small p v (as_right u op rest) wants aim t h = came_small p (kind_of u) (operate op u v) (as_front rest ∷ wants) aim t h
used_small p v (as_index a) wants aim t h = read_small p _ _ wants aim t h
used_small p v (as_argument callee before rest) wants aim t h = argued_small p callee (v ∷ before) rest wants aim t h
used_small p v (as_queue e targets) wants aim t h = h
used_small p v (as_mode number targets) wants aim t h = tt
used_small p v (as_answer targets) wants aim t h = read_if_small p _ v targets wants aim t h
used_small p v (as_kept target) wants aim t h = stored_small p target _ _ t h

evaluated_small : (p : Project) (e : Expr) (wants : List Want) (aim : Aim) (t : Task) → Fits p t → Small p (evaluated p e wants aim t)
evaluated_small p (to.number n) wants aim t h = h
evaluated_small p (to.literal s) wants aim t h = h
evaluated_small p (to.scalar (to.local i)) wants aim t h = h
evaluated_small p (to.scalar (to.cell c)) wants aim t h = tt
evaluated_small p (to.element a e) wants aim t h = h
evaluated_small p (to.called (to.call callee given args)) wants aim t h = argued_small p callee [] args wants aim t h
evaluated_small p (to.called (to.que_read e sort text m)) wants aim t h = h
evaluated_small p (to.unary minus e) wants aim t h = h
evaluated_small p (to.chain e rest) wants aim t h = h

begun_small : (p : Project) (s : Stmt) (t : Task) → Fits p t → rooms p (begun s t).task ≤ MOST_ROOM
begun_small p (to.assign at target e) t h = h
begun_small p (to.assign_element at a i e) t h = h
begun_small p (to.call_of at what) t h = h
begun_small p (to.choose at test body last) t h = h
begun_small p (to.while at test body) t h = h
begun_small p (to.for at counter e bound body) t h = h
begun_small p (to.select at e clauses other) t h = h
begun_small p (to.return at e) t h = h

gone_small : (p : Project) (left : List Left) (t : Task) → Fits p t → Small p (gone p left t)
gone_small p [] t h = h
gone_small p (run to.done ∷ left) t h = h
gone_small p (run (to.then s rest) ∷ left) t h = begun_small p s (to_do (run rest ∷ left) t) h
gone_small p (again test body ∷ left) t h = h
gone_small p (round c ∷ left) t h = h
gone_small p (bump c ∷ left) t h = h
gone_small p (sift of to.no_clause other ∷ left) t h = h
gone_small p (sift of (to.clause labels body rest) other ∷ left) t h = h
gone_small p (pick of [] branch ∷ left) t h = h
gone_small p (pick of (to.one e ∷ labels) branch ∷ left) t h = h
gone_small p (pick of (to.range e f ∷ labels) branch ∷ left) t h = h
gone_small p (pick of (to.compared r e ∷ labels) branch ∷ left) t h = h

act_small : (p : Project) (hand : Hand) (t : Task) → Fits p t → Small p (act p hand t)
act_small p (eval e wants aim) t h = evaluated_small p e wants aim t h
act_small p (give v [] aim) t h = reached_small p v aim t h
act_small p (give v (want ∷ wants) aim) t h = used_small p v want wants aim t h
act_small p (write c v hand) t h = tt
act_small p enter t h = h
act_small p go t h = gone_small p t.left t h

abbrev IsSmall : Function → Type 0
IsSmall g = room g ≤ MOST_ROOM

-- the room of a function, also of one that isn't there
function_small : (fs : List Function) (f : ℕ) → All (λ (g : Function). room g ≤ MOST_ROOM) fs → room (function_in fs f) ≤ MOST_ROOM
function_small [] f h = omega arith
function_small (g ∷ gs) zero h = All-head IsSmall g gs h
function_small (g ∷ gs) (suc f) h = function_small gs f (All-tail IsSmall g gs h)

pub stay : RoomsStaySmall
stay p small = (λ f args. omega (arith, function_small p.functions f small), λ c h. act_small p c.hand c.task h, λ c a h. h)
