-- A project's code is short: each node of a tree makes few places.
use Rattle.std.proofs.Common.{◌≡◌, ℕ, zero, suc, ◌+◌, ◌*◌, ◌≤◌, Bool, true, false, ◌&&◌, List, [], ◌∷◌, length, Option, Some, None, refl, subst, arith}
use Rattle.std.proofs.lemmas.List.Sums.{sum_by-cons}
use Rattle.std.specs.List.{list_all}
use Rattle.std.specs.Prelude.{if◌then◌else◌, slice_get, is_some, sum_by}
use Rattle.ci_base.specs.Functions.{private_takes, shared_takes}
use Rattle.ci_base.specs.declared.bounds.TheConstants.{MOST_PARAMETERS}
use Rattle.ci_base.specs.declared.function.PrivateName.{PrivateName}
use Rattle.ci_base.specs.declared.function.PrivateName.TheVariants as private_names
use Rattle.ci_base.specs.declared.function.SharedName.{SharedName}
use Rattle.ci_base.specs.declared.function.SharedName.TheVariants as shared_names
use Rattle.ci_base.specs.declared.value.Kind.{Kind}
use Rattle.ci_base.specs.declared.value.Kind.TheVariants.{Int, Str}
use Rattle.ci_translation.proofs.Facts.{and_both}
use Rattle.ci_translation.proofs.Lists.{length_mapped}
use Rattle.ci_translation.specs.Drafts.{expr_size, call_size, links_size, args_size, label_size, labels_size, stmt_size, other_size, clauses_size, block_size}
use Rattle.ci_tree.specs.Bound as to
use Rattle.ci_tree.specs.Bound.{Callee, Expr, Call, Links, Exprs, Label, Stmt, Other, Clauses, Block, Param, Function}
use Rattle.ci_tree.specs.BoundNodes.{expr_nodes, call_nodes, links_nodes, exprs_nodes, label_nodes, stmt_nodes, other_nodes, clauses_nodes, block_nodes}
use Rattle.ci_tree.specs.Operators.{Joins, sums, compares, counts, has_kind, joins, joined}
use Rattle.ci_tree.specs.Sound.{Context, scalar_kind, array_kind, kind_of, links_kind, call_kind, is_call, have_kinds, signature, takes_of, have_one_kind, is_label, is_stmt, is_other, are_clauses, is_block}

-- Trees in which each argument that is left out takes one place

abbrev mutual
  pub expr_made : Expr → Type 0
  expr_made (to.number n) = Unit {0}
  expr_made (to.literal text) = Unit {0}
  expr_made (to.scalar of) = Unit {0}
  expr_made (to.element a index) = expr_made index
  expr_made (to.called what) = call_made what
  expr_made (to.unary minus operand) = expr_made operand
  expr_made (to.chain first rest) = expr_made first × links_made rest

  pub call_made : Call → Type 0
  call_made (to.call callee given args) = args_made given args
  call_made (to.que_read queue sort text mode) = expr_made queue × expr_made mode

  pub links_made : Links → Type 0
  links_made to.no_link = Unit {0}
  links_made (to.operand op right rest) = expr_made right × links_made rest
  links_made (to.hashes count rest) = links_made rest

  -- the first so many stand in the source
  pub args_made : ℕ → Exprs → Type 0
  args_made given to.no_expr = Unit {0}
  args_made zero (to.more e rest) = (expr_size e ≡ 1) × args_made zero rest
  args_made (suc given) (to.more e rest) = expr_made e × args_made given rest

abbrev pub label_made : Label → Type 0
label_made (to.one e) = expr_made e
label_made (to.range low high) = expr_made low × expr_made high
label_made (to.compared r e) = expr_made e

abbrev pub labels_made : List Label → Type 0
labels_made [] = Unit {0}
labels_made (label ∷ labels) = label_made label × labels_made labels

abbrev mutual
  pub stmt_made : Stmt → Type 0
  stmt_made (to.assign at target value) = expr_made value
  stmt_made (to.assign_element at a index value) = expr_made index × expr_made value
  stmt_made (to.call_of at what) = call_made what
  stmt_made (to.choose at test body last) = expr_made test × block_made body × other_made last
  stmt_made (to.while at test body) = expr_made test × block_made body
  stmt_made (to.for at counter first last body) = expr_made first × expr_made last × block_made body
  stmt_made (to.select at subject clauses last) = expr_made subject × clauses_made clauses × block_made last
  stmt_made (to.return at value) = expr_made value

  pub other_made : Other → Type 0
  other_made to.no_other = Unit {0}
  other_made (to.other body) = block_made body

  pub clauses_made : Clauses → Type 0
  clauses_made to.no_clause = Unit {0}
  clauses_made (to.clause labels body rest) = labels_made labels × block_made body × clauses_made rest

  pub block_made : Block → Type 0
  block_made to.done = Unit {0}
  block_made (to.then s rest) = stmt_made s × block_made rest

-- Kinds

has_some : (k : Kind) (o : Option Kind) → has_kind k o ≡ true → is_some o ≡ true
has_some k None e = e
has_some k (Some x) e = refl

one_some : (l r : Option Kind) → have_one_kind l r ≡ true → is_some r ≡ true
one_some None r e = absurd (cc e)
one_some (Some k) r e = has_some k r e

test_holds : (b : Bool) (o : Option Kind) → is_some (if b then o else None) ≡ true → b ≡ true
test_holds true o e = refl
test_holds false o e = absurd (cc e)

no_left : (j : Joins) (r : Option Kind) → joined j None r ≡ None
no_left sums r = refl
no_left compares r = refl
no_left counts r = refl

no_right : (j : Joins) (l : Option Kind) → joined j l None ≡ None
no_right sums None = refl
no_right sums (Some Int) = refl
no_right sums (Some Str) = refl
no_right compares None = refl
no_right compares (Some Int) = refl
no_right compares (Some Str) = refl
no_right counts None = refl
no_right counts (Some Int) = refl
no_right counts (Some Str) = refl

none_ends : (c : Context) (rest : Links) → is_some (links_kind c None rest) ≡ true → ⊥
none_ends c to.no_link e = cc e
none_ends c (to.operand op r rest) e = none_ends c rest (subst (λ o. is_some (links_kind c o rest) ≡ true) (no_left (joins op) (kind_of c r)) e)
none_ends c (to.hashes n rest) e = none_ends c rest e

right_there : (c : Context) (j : Joins) (l r : Option Kind) (rest : Links) → is_some (links_kind c (joined j l r) rest) ≡ true → is_some r ≡ true
right_there c j l None rest e = absurd (none_ends c rest (subst (λ o. is_some (links_kind c o rest) ≡ true) (no_right j l) e))
right_there c j l (Some k) rest e = refl

left_there : (c : Context) (l : Option Kind) (rest : Links) → is_some (links_kind c l rest) ≡ true → is_some l ≡ true
left_there c None rest e = absurd (none_ends c rest e)
left_there c (Some k) rest e = refl

-- an INT may be formatted, and then it is a text
abbrev slack : Option Kind → ℕ
slack None = 0
slack (Some Int) = 1
slack (Some Str) = 0

slack_small : (o : Option Kind) → slack o ≤ 1
slack_small None = omega arith
slack_small (Some Int) = omega arith
slack_small (Some Str) = omega arith

-- Numbers of arguments

-- each function takes few
pub record Few (c : Context) : Type 0 where
  pub few : (n : ℕ) (g : Function) → slice_get c.project.functions n ≡ Some g → length g.params ≤ MOST_PARAMETERS

private_few : (q : PrivateName) → length (private_takes q) ≤ 16
private_few private_names.StrLength = omega arith
private_few _ = omega arith

shared_few : (q : SharedName) → length (shared_takes q) ≤ 16
shared_few shared_names.TaskNew = omega arith
shared_few _ = omega arith

takes_few : (c : Context) → Few c → (callee : Callee) → length (takes_of (signature c callee)) ≤ 16
takes_few c few (to.function f) = by_found (slice_get c.project.functions f) refl
  where
    by_found : (o : Option Function) → slice_get c.project.functions f ≡ o → length (takes_of (signature c (to.function f))) ≤ 16
    by_found None e = rw e (omega arith)
    by_found (Some g) e = rw e (omega (arith, few.few f g e, length_mapped (λ (p : Param). p.kind) g.params))
takes_few c few (to.private q) = private_few q
takes_few c few (to.shared q) = shared_few q

none_in_source : (args : Exprs) → exprs_nodes zero args ≡ 0
none_in_source to.no_expr = refl
none_in_source (to.more e rest) = refl

-- Expressions

-- a chain whose parts are short; a kind that the members behind the first have says that the first has one
chain_short : (c : Context) (first : Expr) (rest : Links) → (is_some (kind_of c first) ≡ true → expr_size first + 4 ≤ 24 * expr_nodes first)
    → (is_some (links_kind c (kind_of c first) rest) ≡ true → links_size rest ≤ 24 * links_nodes rest + slack (kind_of c first))
    → is_some (links_kind c (kind_of c first) rest) ≡ true → expr_size (to.chain first rest) + 4 ≤ 24 * expr_nodes (to.chain first rest)
chain_short c first rest one others e =
    let some : is_some (kind_of c first) ≡ true = left_there c (kind_of c first) rest e in
    omega (arith, one some, others e, slack_small (kind_of c first))

mutual
  expr_short : (c : Context) → Few c → (e : Expr) → expr_made e → is_some (kind_of c e) ≡ true → expr_size e + 4 ≤ 24 * expr_nodes e
  expr_short c few (to.number n) m e = omega arith
  expr_short c few (to.literal text) m e = omega arith
  expr_short c few (to.scalar of) m e = omega arith
  expr_short c few (to.element a index) m e =
      let h : has_kind Int (kind_of c index) ≡ true = test_holds (has_kind Int (kind_of c index)) (array_kind c a) e in
      omega (arith, expr_short c few index m (has_some Int (kind_of c index) h))
  expr_short c few (to.called what) m e = omega (arith, call_short c few what m (test_holds (is_call c what) (call_kind c what) e))
  expr_short c few (to.unary minus operand) m e =
      let h : has_kind Int (kind_of c operand) ≡ true = test_holds (has_kind Int (kind_of c operand)) (Some Int) e in
      omega (arith, expr_short c few operand m (has_some Int (kind_of c operand) h))
  expr_short c few (to.chain first rest) m e = chain_short c first rest (λ h. expr_short c few first m.0 h) (λ h. links_short c few (kind_of c first) rest m.1 h) e

  call_short : (c : Context) → Few c → (what : Call) → call_made what → is_call c what ≡ true → call_size what ≤ 24 * call_nodes what + 17
  call_short c few (to.call callee given args) m e =
      let (there, kinds) = and_both (is_some (signature c callee)) (have_kinds c (takes_of (signature c callee)) args) e in
      omega (arith, args_short c few (takes_of (signature c callee)) given args m kinds, takes_few c few callee)
  call_short c few (to.que_read queue sort text mode) m e =
      let q : Bool = has_kind Int (kind_of c queue) in
      let s : Bool = has_kind Int (scalar_kind c sort) in
      let t : Bool = has_kind Str (scalar_kind c text) in
      let o : Bool = has_kind Int (kind_of c mode) in
      let (three, last) = and_both (q && s && t) o e in
      let (two, third) = and_both (q && s) t three in
      let (first, second) = and_both q s two in
      omega (arith, expr_short c few queue m.0 (has_some Int (kind_of c queue) first), expr_short c few mode m.1 (has_some Int (kind_of c mode) last))

  links_short : (c : Context) → Few c → (left : Option Kind) (rest : Links) → links_made rest → is_some (links_kind c left rest) ≡ true → links_size rest ≤ 24 * links_nodes rest + slack left
  links_short c few left to.no_link m e = omega arith
  links_short c few left (to.operand op right rest) m e =
      let o : Option Kind = joined (joins op) left (kind_of c right) in
      let some : is_some (kind_of c right) ≡ true = right_there c (joins op) left (kind_of c right) rest e in
      omega (arith, expr_short c few right m.0 some, links_short c few o rest m.1 e, slack_small o)
  links_short c few None (to.hashes count rest) m e = absurd (none_ends c rest e)
  links_short c few (Some Int) (to.hashes count rest) m e = omega (arith, links_short c few (Some Str) rest m e)
  links_short c few (Some Str) (to.hashes count rest) m e = absurd (none_ends c rest e)

  args_short : (c : Context) → Few c → (kinds : List Kind) (given : ℕ) (args : Exprs) → args_made given args → have_kinds c kinds args ≡ true → args_size args ≤ 24 * exprs_nodes given args + length kinds
  args_short c few [] given to.no_expr m e = omega arith
  args_short c few [] given (to.more first rest) m e = absurd (cc e)
  args_short c few (k ∷ kinds) given to.no_expr m e = omega arith
  args_short c few (k ∷ kinds) zero (to.more first rest) m e =
      let (h, t) = and_both (has_kind k (kind_of c first)) (have_kinds c kinds rest) e in
      omega (arith, m.0, args_short c few kinds zero rest m.1 t, none_in_source rest)
  args_short c few (k ∷ kinds) (suc given) (to.more first rest) m e =
      let (h, t) = and_both (has_kind k (kind_of c first)) (have_kinds c kinds rest) e in
      omega (arith, expr_short c few first m.0 (has_some k (kind_of c first) h), args_short c few kinds given rest m.1 t)

-- Labels

label_short : (c : Context) → Few c → (subject : Option Kind) (label : Label) → label_made label → is_label c subject label ≡ true → label_size label ≤ 24 * label_nodes label
label_short c few subject (to.one value) m e = omega (arith, expr_short c few value m (one_some subject (kind_of c value) e))
label_short c few subject (to.compared r value) m e = omega (arith, expr_short c few value m (one_some subject (kind_of c value) e))
label_short c few subject (to.range low high) m e =
    let (l, h) = and_both (have_one_kind subject (kind_of c low)) (have_one_kind subject (kind_of c high)) e in
    omega (arith, expr_short c few low m.0 (one_some subject (kind_of c low) l), expr_short c few high m.1 (one_some subject (kind_of c high) h))

labels_short : (c : Context) → Few c → (subject : Option Kind) (labels : List Label) → labels_made labels → list_all (is_label c subject) labels ≡ true → labels_size labels ≤ 24 * sum_by label_nodes labels
labels_short c few subject [] m e = omega arith
labels_short c few subject (label ∷ labels) m e =
    let (h, t) = and_both (is_label c subject label) (list_all (is_label c subject) labels) e in
    omega (arith, sum_by-cons label_nodes label labels, label_short c few subject label m.0 h, labels_short c few subject labels m.1 t)

-- Statements

mutual
  stmt_short : (c : Context) → Few c → (s : Stmt) → stmt_made s → is_stmt c s ≡ true → stmt_size s ≤ 24 * stmt_nodes s
  stmt_short c few (to.assign at target value) m e = omega (arith, expr_short c few value m (one_some (scalar_kind c target) (kind_of c value) e))
  stmt_short c few (to.assign_element at a index value) m e =
      let (i, v) = and_both (has_kind Int (kind_of c index)) (have_one_kind (array_kind c a) (kind_of c value)) e in
      omega (arith, expr_short c few index m.0 (has_some Int (kind_of c index) i), expr_short c few value m.1 (one_some (array_kind c a) (kind_of c value) v))
  stmt_short c few (to.call_of at what) m e = omega (arith, call_short c few what m e)
  stmt_short c few (to.choose at test body last) m e =
      let t : Bool = has_kind Int (kind_of c test) in
      let (two, third) = and_both (t && is_block c body) (is_other c last) e in
      let (first, second) = and_both t (is_block c body) two in
      omega (arith, expr_short c few test m.0 (has_some Int (kind_of c test) first), block_short c few body m.1 second, other_short c few last m.2 third)
  stmt_short c few (to.while at test body) m e =
      let (first, second) = and_both (has_kind Int (kind_of c test)) (is_block c body) e in
      omega (arith, expr_short c few test m.0 (has_some Int (kind_of c test) first), block_short c few body m.1 second)
  stmt_short c few (to.for at counter begin last body) m e =
      let n : Bool = has_kind Int (scalar_kind c counter) in
      let b : Bool = has_kind Int (kind_of c begin) in
      let l : Bool = has_kind Int (kind_of c last) in
      let (three, fourth) = and_both (n && b && l) (is_block c body) e in
      let (two, third) = and_both (n && b) l three in
      let (first, second) = and_both n b two in
      omega (arith, expr_short c few begin m.0 (has_some Int (kind_of c begin) second), expr_short c few last m.1 (has_some Int (kind_of c last) third), block_short c few body m.2 fourth)
  stmt_short c few (to.select at subject clauses last) m e =
      let s : Bool = is_some (kind_of c subject) in
      let (two, third) = and_both (s && are_clauses c (kind_of c subject) clauses) (is_block c last) e in
      let (first, second) = and_both s (are_clauses c (kind_of c subject) clauses) two in
      omega (arith, expr_short c few subject m.0 first, clauses_short c few (kind_of c subject) clauses m.1 second, block_short c few last m.2 third)
  stmt_short c few (to.return at value) m e = omega (arith, expr_short c few value m (has_some _ (kind_of c value) e))

  other_short : (c : Context) → Few c → (last : Other) → other_made last → is_other c last ≡ true → other_size last ≤ 24 * other_nodes last + 1
  other_short c few to.no_other m e = omega arith
  other_short c few (to.other body) m e = omega (arith, block_short c few body m e)

  clauses_short : (c : Context) → Few c → (subject : Option Kind) (clauses : Clauses) → clauses_made clauses → are_clauses c subject clauses ≡ true → clauses_size clauses ≤ 24 * clauses_nodes clauses
  clauses_short c few subject to.no_clause m e = omega arith
  clauses_short c few subject (to.clause labels body rest) m e =
      let l : Bool = list_all (is_label c subject) labels in
      let (two, third) = and_both (l && is_block c body) (are_clauses c subject rest) e in
      let (first, second) = and_both l (is_block c body) two in
      omega (arith, labels_short c few subject labels m.0 first, block_short c few body m.1 second, clauses_short c few subject rest m.2 third)

  pub block_short : (c : Context) → Few c → (body : Block) → block_made body → is_block c body ≡ true → block_size body ≤ 24 * block_nodes body
  block_short c few to.done m e = omega arith
  block_short c few (to.then s rest) m e =
      let (h, t) = and_both (is_stmt c s) (is_block c rest) e in
      omega (arith, stmt_short c few s m.0 h, block_short c few rest m.1 t)
