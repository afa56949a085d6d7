-- In the trees of a value of the code each argument that is left out takes one place.
use Rattle.std.proofs.Common.{◌≡◌, zero, List, [], ◌∷◌, map, drop, Option, Some, None, refl, sym, subst}
use Rattle.ci_base.specs.declared.value.Value.{Value}
use Rattle.ci_base.specs.declared.value.Value.TheVariants as values
use Rattle.ci_tree.specs.declared.bound.Call as code_call
use Rattle.ci_tree.specs.declared.bound.Call.TheFolds.{map-Call, map-Expr, map-Link, ind-Call, ind-Expr, fold-roll-Call, fold-roll-Expr, fold-roll-Link}
use Rattle.ci_tree.specs.declared.bound.Call.TheOpen.{Call-F, Expr-F, Link-F}
use Rattle.ci_tree.specs.declared.bound.Clause as code_clause
use Rattle.ci_tree.specs.declared.bound.Expr as code_expr
use Rattle.ci_tree.specs.declared.bound.Label as code_label
use Rattle.ci_tree.specs.declared.bound.Label.TheVariants as labels
use Rattle.ci_tree.specs.declared.bound.Link as code_link
use Rattle.ci_tree.specs.declared.bound.Stmt as code_stmt
use Rattle.ci_tree.specs.declared.bound.Stmt.TheFolds.{map-Stmt, map-Clause, ind-Stmt, fold-roll-Stmt, fold-roll-Clause}
use Rattle.ci_tree.specs.declared.bound.Stmt.TheOpen.{Stmt-F, Clause-F}
use Rattle.ci_tree.specs.Bound as to
use Rattle.ci_tree.specs.Bound.{exprs_from, links_from, block_from, clauses_from, other_from}
use Rattle.ci_tree.specs.LeftOut.{Heads, constant, constants, firsts, followed, left_out, count_of, call_given}
use Rattle.ci_tree.specs.SeenBound.{callee_of, expr_layer, call_layer, link_layer, expr_of, call_of, link_of, label_of, stmt_layer, clause_layer, stmt_of, clause_of, block_of}
use Rattle.ci_translation.specs.Drafts.{expr_size}
use Rattle.ci_emit.proofs.Short.{expr_made, call_made, links_made, args_made, label_made, labels_made, stmt_made, clauses_made, block_made}

-- Arguments

constant_size : (v : Value) → expr_size (constant v) ≡ 1
constant_size (values.Int n) = refl
constant_size (values.Str text) = refl

constants_made : (vs : List (Option Value)) → args_made zero (constants vs)
constants_made [] = tt
constants_made (None ∷ vs) = constants_made vs
constants_made (Some v ∷ vs) = (constant_size v, constants_made vs)

-- each of these is made
abbrev all_made : to.Exprs → Type 0
all_made to.no_expr = Unit {0}
all_made (to.more e rest) = expr_made e × all_made rest

none_more : (behind : to.Exprs) → args_made zero behind → args_made (count_of to.no_expr) behind
none_more behind m = m

followed_made : (args behind : to.Exprs) → all_made args → args_made zero behind → args_made (count_of args) (followed args behind)
followed_made to.no_expr behind m b = b
followed_made (to.more e rest) behind m b = (m.0, followed_made rest behind m.1 b)

given_made : (heads : Heads) (callee : to.Callee) (args : to.Exprs) → all_made args → call_made (call_given heads callee args)
unfolding call_given
given_made heads callee args m = followed_made args (left_out heads callee (count_of args)) m (constants_made (drop (count_of args) (firsts heads callee)))

-- Expressions

abbrev link_made : to.Link → Type 0
link_made (to.operand_link op e) = expr_made e
link_made (to.hashes_link count) = Unit {0}

abbrev P : Heads → code_call.Call → Type 0
P heads c = call_made (call_of heads c)

abbrev Q : Heads → code_expr.Expr → Type 0
Q heads e = expr_made (expr_of heads e)

abbrev R : Heads → code_link.Link → Type 0
R heads l = link_made (link_of heads l)

-- what holds of each member of a list
exprs_made : {B : Type 0} (heads : Heads) (g : B → code_expr.Expr) → ((b : B) → Q heads (g b)) → (es : List B) → all_made (exprs_from (map (expr_of heads) (map g es)))
exprs_made heads g q [] = tt
exprs_made heads g q (e ∷ es) = (q e, exprs_made heads g q es)

link_joined : (l : to.Link) (ls : List to.Link) → link_made l → links_made (links_from ls) → links_made (links_from (l ∷ ls))
link_joined (to.operand_link op e) ls m n = (m, n)
link_joined (to.hashes_link count) ls m n = n

links_all_made : {C : Type 0} (heads : Heads) (h : C → code_link.Link) → ((c : C) → R heads (h c)) → (ls : List C) → links_made (links_from (map (link_of heads) (map h ls)))
links_all_made heads h r [] = tt
links_all_made heads h r (l ∷ ls) = link_joined (link_of heads (h l)) (map (link_of heads) (map h ls)) (r l) (links_all_made heads h r ls)

-- one layer of a call, an expression or a member, over parts of which it holds
call_layer_made : {A B C : Type 0} (heads : Heads) (f : A → code_call.Call) (g : B → code_expr.Expr) (h : C → code_link.Link) → ((b : B) → Q heads (g b)) → (y : Call-F A B C) →
    call_made (call_layer heads (map-Call code_call.Call code_expr.Expr code_link.Link to.Call to.Expr to.Link (call_of heads) (expr_of heads) (link_of heads) (map-Call A B C code_call.Call code_expr.Expr code_link.Link f g h y)))
call_layer_made heads f g h q (Call-F.Plain callee args) = given_made heads (callee_of callee) (exprs_from (map (expr_of heads) (map g args))) (exprs_made heads g q args)
call_layer_made heads f g h q (Call-F.QueRead queue sort text mode) = (q queue, q mode)

expr_layer_made : {A B C : Type 0} (heads : Heads) (f : A → code_call.Call) (g : B → code_expr.Expr) (h : C → code_link.Link) → ((a : A) → P heads (f a)) → ((b : B) → Q heads (g b)) → ((c : C) → R heads (h c)) → (y : Expr-F A B C) →
    expr_made (expr_layer (map-Expr code_call.Call code_expr.Expr code_link.Link to.Call to.Expr to.Link (call_of heads) (expr_of heads) (link_of heads) (map-Expr A B C code_call.Call code_expr.Expr code_link.Link f g h y)))
expr_layer_made heads f g h p q r (Expr-F.Number value) = tt
expr_layer_made heads f g h p q r (Expr-F.Literal text) = tt
expr_layer_made heads f g h p q r (Expr-F.Scalar of) = tt
expr_layer_made heads f g h p q r (Expr-F.Element array index) = q index
expr_layer_made heads f g h p q r (Expr-F.Called what) = p what
expr_layer_made heads f g h p q r (Expr-F.Unary minus operand) = q operand
expr_layer_made heads f g h p q r (Expr-F.Chain first rest) = (q first, links_all_made heads h r rest)

link_layer_made : {A B C : Type 0} (heads : Heads) (f : A → code_call.Call) (g : B → code_expr.Expr) (h : C → code_link.Link) → ((b : B) → Q heads (g b)) → (y : Link-F A B C) →
    link_made (link_layer (map-Link code_call.Call code_expr.Expr code_link.Link to.Call to.Expr to.Link (call_of heads) (expr_of heads) (link_of heads) (map-Link A B C code_call.Call code_expr.Expr code_link.Link f g h y)))
link_layer_made heads f g h q (Link-F.Operand operator operand) = q operand
link_layer_made heads f g h q (Link-F.Hashes count) = tt

pub expr_of_made : (heads : Heads) (e : code_expr.Expr) → expr_made (expr_of heads e)
expr_of_made heads e =
    ind-Expr (P heads) (Q heads) (R heads)
    (λ x y is.
    subst call_made (sym (fold-roll-Call to.Call to.Expr to.Link (call_layer heads) expr_layer link_layer x))
    (subst (λ z. call_made (call_layer heads (map-Call code_call.Call code_expr.Expr code_link.Link to.Call to.Expr to.Link (call_of heads) (expr_of heads) (link_of heads) z))) is
    (call_layer_made heads (λ a. a.0) (λ b. b.0) (λ c. c.0) (λ b. b.1) y)))
    (λ x y is.
    subst expr_made (sym (fold-roll-Expr to.Call to.Expr to.Link (call_layer heads) expr_layer link_layer x))
    (subst (λ z. expr_made (expr_layer (map-Expr code_call.Call code_expr.Expr code_link.Link to.Call to.Expr to.Link (call_of heads) (expr_of heads) (link_of heads) z))) is
    (expr_layer_made heads (λ a. a.0) (λ b. b.0) (λ c. c.0) (λ a. a.1) (λ b. b.1) (λ c. c.1) y)))
    (λ x y is.
    subst link_made (sym (fold-roll-Link to.Call to.Expr to.Link (call_layer heads) expr_layer link_layer x))
    (subst (λ z. link_made (link_layer (map-Link code_call.Call code_expr.Expr code_link.Link to.Call to.Expr to.Link (call_of heads) (expr_of heads) (link_of heads) z))) is
    (link_layer_made heads (λ a. a.0) (λ b. b.0) (λ c. c.0) (λ b. b.1) y)))
    e

pub call_of_made : (heads : Heads) (c : code_call.Call) → call_made (call_of heads c)
call_of_made heads c =
    ind-Call (P heads) (Q heads) (R heads)
    (λ x y is.
    subst call_made (sym (fold-roll-Call to.Call to.Expr to.Link (call_layer heads) expr_layer link_layer x))
    (subst (λ z. call_made (call_layer heads (map-Call code_call.Call code_expr.Expr code_link.Link to.Call to.Expr to.Link (call_of heads) (expr_of heads) (link_of heads) z))) is
    (call_layer_made heads (λ a. a.0) (λ b. b.0) (λ c. c.0) (λ b. b.1) y)))
    (λ x y is.
    subst expr_made (sym (fold-roll-Expr to.Call to.Expr to.Link (call_layer heads) expr_layer link_layer x))
    (subst (λ z. expr_made (expr_layer (map-Expr code_call.Call code_expr.Expr code_link.Link to.Call to.Expr to.Link (call_of heads) (expr_of heads) (link_of heads) z))) is
    (expr_layer_made heads (λ a. a.0) (λ b. b.0) (λ c. c.0) (λ a. a.1) (λ b. b.1) (λ c. c.1) y)))
    (λ x y is.
    subst link_made (sym (fold-roll-Link to.Call to.Expr to.Link (call_layer heads) expr_layer link_layer x))
    (subst (λ z. link_made (link_layer (map-Link code_call.Call code_expr.Expr code_link.Link to.Call to.Expr to.Link (call_of heads) (expr_of heads) (link_of heads) z))) is
    (link_layer_made heads (λ a. a.0) (λ b. b.0) (λ c. c.0) (λ b. b.1) y)))
    c

-- Statements

label_of_made : (heads : Heads) (l : code_label.Label) → label_made (label_of heads l)
label_of_made heads (labels.One value) = expr_of_made heads value
label_of_made heads (labels.Range low high) = (expr_of_made heads low, expr_of_made heads high)
label_of_made heads (labels.Is relation value) = expr_of_made heads value

labels_of_made : (heads : Heads) (ls : List code_label.Label) → labels_made (map (label_of heads) ls)
labels_of_made heads [] = tt
labels_of_made heads (l ∷ ls) = (label_of_made heads l, labels_of_made heads ls)

abbrev S : Heads → code_stmt.Stmt → Type 0
S heads s = stmt_made (stmt_of heads s)

abbrev one_clause_made : to.Clause → Type 0
one_clause_made c = labels_made c.labels × block_made c.body

abbrev T : Heads → code_clause.Clause → Type 0
T heads c = one_clause_made (clause_of heads c)

block_made_of : {A : Type 0} (heads : Heads) (f : A → code_stmt.Stmt) → ((a : A) → S heads (f a)) → (ss : List A) → block_made (block_from (map (stmt_of heads) (map f ss)))
block_made_of heads f s [] = tt
block_made_of heads f s (x ∷ xs) = (s x, block_made_of heads f s xs)

clauses_made_of : {B : Type 0} (heads : Heads) (g : B → code_clause.Clause) → ((b : B) → T heads (g b)) → (cs : List B) → clauses_made (clauses_from (map (clause_of heads) (map g cs)))
clauses_made_of heads g t [] = tt
clauses_made_of heads g t (c ∷ cs) = ((t c).0, (t c).1, clauses_made_of heads g t cs)

stmt_layer_made : {A B : Type 0} (heads : Heads) (f : A → code_stmt.Stmt) (g : B → code_clause.Clause) → ((a : A) → S heads (f a)) → ((b : B) → T heads (g b)) → (y : Stmt-F A B) →
    stmt_made (stmt_layer heads (map-Stmt code_stmt.Stmt code_clause.Clause to.Stmt to.Clause (stmt_of heads) (clause_of heads) (map-Stmt A B code_stmt.Stmt code_clause.Clause f g y)))
stmt_layer_made heads f g s t (Stmt-F.Assign at target value) = expr_of_made heads value
stmt_layer_made heads f g s t (Stmt-F.AssignElement at array index value) = (expr_of_made heads index, expr_of_made heads value)
stmt_layer_made heads f g s t (Stmt-F.CallOf at what) = call_of_made heads what
stmt_layer_made heads f g s t (Stmt-F.If at test body None) = (expr_of_made heads test, block_made_of heads f s body, tt)
stmt_layer_made heads f g s t (Stmt-F.If at test body (Some last)) = (expr_of_made heads test, block_made_of heads f s body, block_made_of heads f s last)
stmt_layer_made heads f g s t (Stmt-F.While at test body) = (expr_of_made heads test, block_made_of heads f s body)
stmt_layer_made heads f g s t (Stmt-F.For at counter first last body) = (expr_of_made heads first, expr_of_made heads last, block_made_of heads f s body)
stmt_layer_made heads f g s t (Stmt-F.Select at subject clauses other) = (expr_of_made heads subject, clauses_made_of heads g t clauses, block_made_of heads f s other)
stmt_layer_made heads f g s t (Stmt-F.Return at value) = expr_of_made heads value

clause_layer_made : {A B : Type 0} (heads : Heads) (f : A → code_stmt.Stmt) (g : B → code_clause.Clause) → ((a : A) → S heads (f a)) → (y : Clause-F A B) →
    one_clause_made (clause_layer heads (map-Clause code_stmt.Stmt code_clause.Clause to.Stmt to.Clause (stmt_of heads) (clause_of heads) (map-Clause A B code_stmt.Stmt code_clause.Clause f g y)))
clause_layer_made heads f g s y = (labels_of_made heads y.labels, block_made_of heads f s y.body)

stmt_of_made : (heads : Heads) (s : code_stmt.Stmt) → stmt_made (stmt_of heads s)
stmt_of_made heads s =
    ind-Stmt (S heads) (T heads)
    (λ x y is.
    subst stmt_made (sym (fold-roll-Stmt to.Stmt to.Clause (stmt_layer heads) (clause_layer heads) x))
    (subst (λ z. stmt_made (stmt_layer heads (map-Stmt code_stmt.Stmt code_clause.Clause to.Stmt to.Clause (stmt_of heads) (clause_of heads) z))) is
    (stmt_layer_made heads (λ a. a.0) (λ b. b.0) (λ a. a.1) (λ b. b.1) y)))
    (λ x y is.
    subst one_clause_made (sym (fold-roll-Clause to.Stmt to.Clause (stmt_layer heads) (clause_layer heads) x))
    (subst (λ z. one_clause_made (clause_layer heads (map-Clause code_stmt.Stmt code_clause.Clause to.Stmt to.Clause (stmt_of heads) (clause_of heads) z))) is
    (clause_layer_made heads (λ a. a.0) (λ b. b.0) (λ a. a.1) y)))
    s

pub block_of_made : (heads : Heads) (ss : List code_stmt.Stmt) → block_made (block_of heads ss)
block_of_made heads [] = tt
block_of_made heads (s ∷ ss) = (stmt_of_made heads s, block_of_made heads ss)
