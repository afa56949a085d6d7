-- What one task does next, on the tree.
use Rattle.std.specs.Prelude.{ℕ, pos, Bool, true, false, List, [], ◌∷◌, reverse, unwrap_or}
use Rattle.std.specs.Ordering.{int_eq}
use Rattle.ci_base.specs.declared.relation.Relation.TheVariants as relation
use Rattle.ci_base.specs.declared.reply.Answer.{Answer}
use Rattle.ci_base.specs.declared.function.SharedName.TheVariants as shared
use Rattle.ci_base.specs.declared.request.Request.TheVariants as requests
use Rattle.ci_base.specs.declared.value.Kind.TheVariants as kinds
use Rattle.ci_base.specs.declared.value.Value.{Value}
use Rattle.ci_base.specs.declared.value.Value.TheVariants.{Int, Str}
use Rattle.ci_base.specs.Arithmetic.{sum}
use Rattle.ci_base.specs.Comparisons.{holds, within}
use Rattle.ci_base.specs.Heard.{last_after, error_kept}
use Rattle.ci_base.specs.Requests.{request_of}
use Rattle.ci_base.specs.Steps.{tick, quiet, asks, Reaches}
use Rattle.ci_base.specs.Values.{fails, first_of_kind, kind_of}
use Rattle.ci_tree.specs.Bound as to
use Rattle.ci_tree.specs.Bound.{Scalar, Expr, Links, Exprs, Label, Stmt, Other, Clauses, Block, Project}
use Rattle.ci_meaning.specs.Configuration.{Targets, Counting, Branch, Want, as_operand, as_front, as_right, as_index, as_argument, as_queue, as_mode, as_answer, as_kept, Aim, to_store, to_index, to_element, to_choose, to_turn, to_begin, to_count, to_compare, to_raise, to_select, to_match, to_low, to_high, to_return, to_drop, Left, run, again, round, bump, sift, pick, Hand, eval, give, write, enter, go, Task, Configuration, with, function_at}
use Rattle.ci_meaning.specs.Moves.{Move, goes, came, local_at, stored, read_element, write_element, called, returned}
use Rattle.ci_meaning.specs.Operators.{operate, turned, form}

-- this is left to do from now on
abbrev pub to_do : List Left → Task → Task
to_do left t = record t { left = left }

-- Values that are wanted inside an expression

abbrev pub read_scalar : Scalar → List Want → Aim → Task → Move
read_scalar (to.local i) wants aim t = goes (give (local_at t i) wants aim) t
read_scalar (to.cell c) wants aim t = asks (requests.Read c)

-- an argument is there: the next one is evaluated, or the call is made
abbrev pub argued : Project → to.Callee → List Value → Exprs → List Want → Aim → Task → Move
argued p callee before to.no_expr wants aim t = called p callee (reverse before) wants aim t
argued p callee before (to.more e rest) wants aim t = goes (eval e (as_argument callee before rest ∷ wants) aim) t

-- where it was answered 0 the element is assigned, first its sort
abbrev pub read_if : Bool → Value → Targets → List Want → Aim → Task → Move
read_if true v targets wants aim t = quiet (stored targets.sort (Int t.last.sort) (give v (as_kept targets.text ∷ wants) aim) t)
read_if false v targets wants aim t = goes (give v wants aim) t

-- the value is used for what it was wanted for
abbrev pub used : Project → Value → Want → List Want → Aim → Task → Move
used p v (as_operand minus) wants aim t = goes (give (turned minus v) wants aim) t
used p v (as_front to.no_link) wants aim t = goes (give v wants aim) t
used p v (as_front (to.operand op e rest)) wants aim t = goes (eval e (as_right v op rest ∷ wants) aim) t
used p v (as_front (to.hashes count rest)) wants aim t = came kinds.Str (form count v) (as_front rest ∷ wants) aim t
used p v (as_right u op rest) wants aim t = came (kind_of u) (operate op u v) (as_front rest ∷ wants) aim t
used p v (as_index a) wants aim t = read_element p a v wants aim t
used p v (as_argument callee before rest) wants aim t = argued p callee (v ∷ before) rest wants aim t
used p v (as_queue e targets) wants aim t = goes (eval e (as_mode v targets ∷ wants) aim) t
used p v (as_mode number targets) wants aim t = asks (request_of shared.QueRead (number ∷ v ∷ []))
used p v (as_answer targets) wants aim t = read_if (fails v) v targets wants aim t
used p v (as_kept target) wants aim t = quiet (stored target (Str t.last.text) (give v wants aim) t)

-- The value of a whole expression

abbrev pub chosen_if : Bool → Block → Other → Task → Move
chosen_if true body to.no_other t = goes go t
chosen_if true body (to.other b) t = goes go (to_do (run b ∷ t.left) t)
chosen_if false body last t = goes go (to_do (run body ∷ t.left) t)

abbrev pub turned_if : Bool → Expr → Block → Task → Move
turned_if true test body t = goes go t
turned_if false test body t = goes go (to_do (run body ∷ again test body ∷ t.left) t)

-- FOR's test: the body runs where the counter isn't above the last value
abbrev pub compared_if : Bool → Counting → Task → Move
compared_if true c t = goes go (to_do (run c.body ∷ bump c ∷ t.left) t)
compared_if false c t = goes go t

abbrev pub is_largest : Value → Bool
is_largest (Int n) = int_eq n (pos 2147483647)
is_largest (Str s) = true

abbrev pub one_more : Value → Value
one_more (Int n) = Int (sum n (pos 1))
one_more (Str s) = Str s

-- behind FOR's body: a counter that is the largest INT ends the loop, any other goes up
abbrev pub raised_if : Bool → Value → Counting → Task → Move
raised_if true v c t = goes go t
raised_if false v c t = quiet (stored c.counter (one_more v) go (to_do (round c ∷ t.left) t))

-- a label of SELECT that is met has its body run, else the next label is tried
abbrev pub picked_if : Bool → Value → List Label → Branch → Task → Move
picked_if true of labels branch t = goes go (to_do (run branch.body ∷ t.left) t)
picked_if false of labels branch t = goes go (to_do (pick of labels branch ∷ t.left) t)

-- the value is used for what the expression is for
abbrev pub reached : Project → Value → Aim → Task → Move
reached p v (to_store target) t = quiet (stored target v go t)
reached p v (to_index a e) t = goes (eval e [] (to_element a v)) t
reached p v (to_element a i) t = write_element p a i v t
reached p v (to_choose body last) t = chosen_if (fails v) body last t
reached p v (to_turn test body) t = turned_if (fails v) test body t
reached p v (to_begin counter e body) t = goes (eval e [] (to_count v counter body)) t
reached p v (to_count u counter body) t = quiet (stored counter u go (to_do (round (record { counter = counter; last = v; body = body }) ∷ t.left) t))
reached p v (to_compare c) t = compared_if (holds relation.AtMost v c.last) c t
reached p v (to_raise c) t = raised_if (is_largest v) v c t
reached p v (to_select clauses other) t = goes go (to_do (sift v clauses other ∷ t.left) t)
reached p v (to_match of relation labels branch) t = picked_if (holds relation of v) of labels branch t
reached p v (to_low of e labels branch) t = goes (eval e [] (to_high of v labels branch)) t
reached p v (to_high of u labels branch) t = picked_if (within of u v) of labels branch t
reached p v to_return t = returned v t.callers t
reached p v to_drop t = goes go t

-- Expressions

abbrev pub evaluated : Project → Expr → List Want → Aim → Task → Move
evaluated p (to.number n) wants aim t = goes (give (Int n) wants aim) t
evaluated p (to.literal s) wants aim t = goes (give (Str s) wants aim) t
evaluated p (to.scalar of) wants aim t = read_scalar of wants aim t
evaluated p (to.element a e) wants aim t = goes (eval e (as_index a ∷ wants) aim) t
evaluated p (to.called (to.call callee given args)) wants aim t = argued p callee [] args wants aim t
evaluated p (to.called (to.que_read e sort text m)) wants aim t = goes (eval e (as_queue m (record { sort = sort; text = text }) ∷ wants) aim) t
evaluated p (to.unary minus e) wants aim t = goes (eval e (as_operand minus ∷ wants) aim) t
evaluated p (to.chain e rest) wants aim t = goes (eval e (as_front rest ∷ wants) aim) t

-- Statements

abbrev pub begun : Stmt → Task → Configuration
begun (to.assign at target e) t = with (eval e [] (to_store target)) t
begun (to.assign_element at a i e) t = with (eval i [] (to_index a e)) t
begun (to.call_of at what) t = with (eval (to.called what) [] to_drop) t
begun (to.choose at test body last) t = with (eval test [] (to_choose body last)) t
begun (to.while at test body) t = with go (to_do (again test body ∷ t.left) t)
begun (to.for at counter e bound body) t = with (eval e [] (to_begin counter bound body)) t
begun (to.select at e clauses other) t = with (eval e [] (to_select clauses other)) t
begun (to.return at e) t = with (eval e [] to_return) t

-- the first of these labels is tried, or the clauses behind them
abbrev pub tried : Value → List Label → Branch → Task → Configuration
tried of [] branch t = with go (to_do (sift of branch.rest branch.other ∷ t.left) t)
tried of (to.one e ∷ labels) branch t = with (eval e [] (to_match of relation.Equal labels branch)) t
tried of (to.range e bound ∷ labels) branch t = with (eval e [] (to_low of bound labels branch)) t
tried of (to.compared r e ∷ labels) branch t = with (eval e [] (to_match of r labels branch)) t

-- the first of these clauses is tried, or the ELSE part runs
abbrev pub sifted : Value → Clauses → Block → Task → Configuration
sifted of to.no_clause other t = with go (to_do (run other ∷ t.left) t)
sifted of (to.clause labels body rest) other t = with go (to_do (pick of labels (record { body = body; rest = rest; other = other }) ∷ t.left) t)

-- with nothing in hand: the first of what is left; where nothing is left, the function's END, which gives 0 or the empty text
abbrev pub gone : Project → List Left → Task → Move
gone p [] t = goes (give (first_of_kind (unwrap_or (function_at p t.function).gives kinds.Int)) [] to_return) (to_do [] t)
gone p (run to.done ∷ left) t = goes go (to_do left t)
gone p (run (to.then s rest) ∷ left) t = tick (begun s (to_do (run rest ∷ left) t))
gone p (again test body ∷ left) t = tick (with (eval test [] (to_turn test body)) (to_do left t))
gone p (round c ∷ left) t = tick (with (eval (to.scalar c.counter) [] (to_compare c)) (to_do left t))
gone p (bump c ∷ left) t = goes (eval (to.scalar c.counter) [] (to_raise c)) (to_do left t)
gone p (sift of clauses other ∷ left) t = quiet (sifted of clauses other (to_do left t))
gone p (pick of labels branch ∷ left) t = quiet (tried of labels branch (to_do left t))

-- The whole

abbrev pub act : Project → Hand → Task → Move
act p (eval e wants aim) t = evaluated p e wants aim t
act p (give v [] aim) t = reached p v aim t
act p (give v (want ∷ wants) aim) t = used p v want wants aim t
act p (write c v hand) t = asks (requests.Write c v)
act p enter t = tick (with go t)
act p go t = gone p t.left t

-- what a task does next: a private step, which is a tick or not, or the request at which it stands
abbrev pub next : Project → Configuration → Move
next p c = act p c.hand c.task

-- private steps lead from one configuration to another, and exactly so many of them are ticks
abbrev pub reaches : Project → Configuration → ℕ → Configuration → Type 0
reaches p c k d = Reaches (next p) c k d

-- Answers

-- the value of an answer, in hand
abbrev pub answered : Value → List Want → Aim → Hand
answered x (as_mode number targets ∷ wants) aim = give x (as_answer targets ∷ wants) aim
answered x (want ∷ wants) aim = give x wants aim
answered x [] aim = go

abbrev pub resumed : Hand → Value → Hand
resumed (eval e wants aim) x = give x wants aim
resumed (give v wants aim) x = answered x wants aim
resumed (write c v hand) x = hand
resumed enter x = enter
resumed go x = go

-- the task has its answer: it keeps an element, and a code other than 0 as the last error
abbrev pub resume : Configuration → Answer → Configuration
resume c a = with (resumed c.hand a.value) (record c.task { error = error_kept a.code c.task.error; last = last_after a.extra c.task.last })
