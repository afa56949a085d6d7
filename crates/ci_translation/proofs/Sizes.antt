-- How long the code of a part is.
use Rattle.std.proofs.Common.{◌≡◌, ℕ, ◌+◌, List, [], ◌∷◌, ◌++◌, length, refl, arith, length-append}
use Rattle.ci_base.specs.declared.relation.Relation.{Relation}
use Rattle.ci_base.specs.declared.relation.Relation.TheVariants as relation
use Rattle.ci_base.specs.declared.value.Kind.{Kind}
use Rattle.ci_base.specs.declared.value.Kind.TheVariants.{Int, Str}
use Rattle.ci_code.specs.declared.instruction.Instruction.TheVariants as does
use Rattle.ci_tree.specs.Bound as to
use Rattle.ci_tree.specs.Bound.{Expr, Call, Links, Exprs, Label, Stmt, Other, Clauses, Block}
use Rattle.ci_tree.specs.Sound.{Context, call_kind}
use Rattle.ci_translation.specs.Instructions.{comparing, within, operating, operated, turning, writing, calling, left_kind, past}
use Rattle.ci_translation.specs.Drafts.{step, kind_in, kinds_in, expr_size, call_size, links_size, args_size, label_size, labels_size, stmt_size, other_size, clauses_size, block_size, que_code, expr_code, call_code, links_code, args_code, pick_code, match_code, label_code, labels_code, count_code, raise_code, stmt_code, else_place, other_code, clauses_code, block_code}

mutual
  pub expr_length : (c : Context) (b : List Kind) (p : ℕ) (e : Expr) → length (expr_code c b p e) ≡ expr_size e
  expr_length c b p (to.number n) = refl
  expr_length c b p (to.literal text) = refl
  expr_length c b p (to.scalar of) = refl
  expr_length c b p (to.element a index) = omega (arith, length-append (expr_code c b p index) (step (b ++ Int ∷ []) (does.ReadAt a) ∷ []), expr_length c b p index)
  expr_length c b p (to.called what) = call_length c b p what
  expr_length c b p (to.unary minus e) = omega (arith, length-append (expr_code c b p e) (step (b ++ Int ∷ []) (turning minus) ∷ []), expr_length c b p e)
  expr_length c b p (to.chain e rest) =
      omega (arith, length-append (expr_code c b p e) (links_code c b (kind_in c e) (p + expr_size e) rest), expr_length c b p e, links_length c b (kind_in c e) (p + expr_size e) rest)

  pub call_length : (c : Context) (b : List Kind) (p : ℕ) (what : Call) → length (call_code c b p what) ≡ call_size what
  call_length c b p (to.call callee given args) = omega (arith, length-append (args_code c b p args) (step (b ++ kinds_in c args) (calling callee) ∷ []), args_length c b p args)
  call_length c b p (to.que_read queue sort text mode) =
      let x : ℕ = p + expr_size queue in
      let last = que_code b (p + expr_size queue + expr_size mode) sort text in
      omega (arith, length-append (expr_code c b p queue) (expr_code c (b ++ Int ∷ []) x mode ++ last), length-append (expr_code c (b ++ Int ∷ []) x mode) last, expr_length c b p queue, expr_length c (b ++ Int ∷ []) x mode)

  pub links_length : (c : Context) (b : List Kind) (k : Kind) (p : ℕ) (rest : Links) → length (links_code c b k p rest) ≡ links_size rest
  links_length c b k p to.no_link = refl
  links_length c b k p (to.operand op e rest) =
      let j : Kind = left_kind (operated op k) in
      let x : ℕ = p + expr_size e + 1 in
      omega (arith, length-append (expr_code c (b ++ k ∷ []) p e) (step (b ++ k ∷ k ∷ []) (operating op k) ∷ links_code c b j x rest), expr_length c (b ++ k ∷ []) p e, links_length c b j x rest)
  links_length c b k p (to.hashes count rest) = omega (arith, links_length c b Str (p + 1) rest)

  pub args_length : (c : Context) (b : List Kind) (p : ℕ) (args : Exprs) → length (args_code c b p args) ≡ args_size args
  args_length c b p to.no_expr = refl
  args_length c b p (to.more e rest) =
      omega (arith, length-append (expr_code c b p e) (args_code c (b ++ kind_in c e ∷ []) (p + expr_size e) rest), expr_length c b p e, args_length c (b ++ kind_in c e ∷ []) (p + expr_size e) rest)

match_length : (c : Context) (b : List Kind) (k : Kind) (r : Relation) (to_body p : ℕ) (e : Expr) → length (match_code c b k r to_body p e) ≡ 1 + expr_size e + 3
match_length c b k r to_body p e =
    omega (arith, length-append (expr_code c (b ++ k ∷ k ∷ []) (p + 1) e) (step (b ++ k ∷ k ∷ k ∷ []) (comparing r k) ∷ pick_code (b ++ k ∷ []) to_body (p + 1 + expr_size e + 1)), expr_length c (b ++ k ∷ k ∷ []) (p + 1) e)

pub label_length : (c : Context) (b : List Kind) (k : Kind) (to_body p : ℕ) (label : Label) → length (label_code c b k to_body p label) ≡ label_size label
label_length c b k to_body p (to.one e) = match_length c b k relation.Equal to_body p e
label_length c b k to_body p (to.compared r e) = match_length c b k r to_body p e
label_length c b k to_body p (to.range low high) =
    let x : ℕ = p + 1 + expr_size low in
    let last = step (b ++ k ∷ k ∷ k ∷ k ∷ []) (within k) ∷ pick_code (b ++ k ∷ []) to_body (p + 1 + expr_size low + expr_size high + 1) in
    omega (arith, length-append (expr_code c (b ++ k ∷ k ∷ []) (p + 1) low) (expr_code c (b ++ k ∷ k ∷ k ∷ []) x high ++ last), length-append (expr_code c (b ++ k ∷ k ∷ k ∷ []) x high) last, expr_length c (b ++ k ∷ k ∷ []) (p + 1) low, expr_length c (b ++ k ∷ k ∷ k ∷ []) x high)

pub labels_length : (c : Context) (b : List Kind) (k : Kind) (to_body p : ℕ) (labels : List Label) → length (labels_code c b k to_body p labels) ≡ labels_size labels
labels_length c b k to_body p [] = refl
labels_length c b k to_body p (label ∷ labels) =
    omega (arith, length-append (label_code c b k to_body p label) (labels_code c b k to_body (p + label_size label) labels), label_length c b k to_body p label, labels_length c b k to_body (p + label_size label) labels)

mutual
  pub stmt_length : (c : Context) (b : List Kind) (p : ℕ) (x : Stmt) → length (stmt_code c b p x) ≡ stmt_size x
  stmt_length c b p (to.assign at target value) = omega (arith, length-append (expr_code c b (p + 1) value) (step (b ++ kind_in c value ∷ []) (writing target) ∷ []), expr_length c b (p + 1) value)
  stmt_length c b p (to.assign_element at a index value) =
      let x : ℕ = p + 1 + expr_size index in
      let last = step (b ++ Int ∷ kind_in c value ∷ []) (does.WriteAt a) ∷ [] in
      omega (arith, length-append (expr_code c b (p + 1) index) (expr_code c (b ++ Int ∷ []) x value ++ last), length-append (expr_code c (b ++ Int ∷ []) x value) last, expr_length c b (p + 1) index, expr_length c (b ++ Int ∷ []) x value)
  stmt_length c b p (to.call_of at what) = omega (arith, length-append (call_code c b (p + 1) what) (step (b ++ left_kind (call_kind c what) ∷ []) does.Drop ∷ []), call_length c b (p + 1) what)
  stmt_length c b p (to.choose at test body last) =
      let x : ℕ = p + 1 + expr_size test in
      let y : ℕ = x + 1 + block_size body in
      let other = other_code c b y last in
      omega (arith, length-append (expr_code c b (p + 1) test) (step (b ++ Int ∷ []) (does.JumpIfZero (else_place last y)) ∷ (block_code c b (x + 1) body ++ other)), length-append (block_code c b (x + 1) body) other, expr_length c b (p + 1) test, block_length c b (x + 1) body, other_length c b y last)
  stmt_length c b p (to.while at test body) =
      let x : ℕ = past 2 p + expr_size test in
      let y : ℕ = x + 1 + block_size body in
      let last = step b (does.Jump (p + 1)) ∷ [] in
      omega (arith, length-append (expr_code c b (past 2 p) test) (step (b ++ Int ∷ []) (does.JumpIfZero (y + 1)) ∷ (block_code c b (x + 1) body ++ last)), length-append (block_code c b (x + 1) body) last, expr_length c b (past 2 p) test, block_length c b (x + 1) body)
  stmt_length c b p (to.for at counter begin last body) =
      let x : ℕ = p + 1 + expr_size begin in
      let y : ℕ = x + expr_size last in
      let l : ℕ = past 2 y in
      let r : ℕ = past 5 l + block_size body in
      let behind = raise_code b counter r l in
      let loop = block_code c (b ++ Int ∷ []) (past 5 l) body ++ behind in
      let test = step (b ++ Int ∷ Int ∷ []) does.Swap ∷ step (b ++ Int ∷ Int ∷ []) (writing counter) ∷ (count_code b counter (past 10 r) ++ loop) in
      omega (arith, length-append (expr_code c b (p + 1) begin) (expr_code c (b ++ Int ∷ []) x last ++ test), length-append (expr_code c (b ++ Int ∷ []) x last) test, length-append (block_code c (b ++ Int ∷ []) (past 5 l) body) behind, expr_length c b (p + 1) begin, expr_length c (b ++ Int ∷ []) x last, block_length c (b ++ Int ∷ []) (past 5 l) body)
  stmt_length c b p (to.select at subject clauses last) =
      let x : ℕ = p + 1 + expr_size subject in
      let y : ℕ = x + clauses_size clauses in
      let k : Kind = kind_in c subject in
      let other = step (b ++ k ∷ []) does.Drop ∷ block_code c b (y + 1) last in
      let cs = clauses_code c b k (y + 1 + block_size last) x clauses in
      omega (arith, length-append (expr_code c b (p + 1) subject) (cs ++ other), length-append cs other, expr_length c b (p + 1) subject, clauses_length c b k (y + 1 + block_size last) x clauses, block_length c b (y + 1) last)
  stmt_length c b p (to.return at value) = omega (arith, length-append (expr_code c b (p + 1) value) (step (b ++ left_kind c.gives ∷ []) does.Return ∷ []), expr_length c b (p + 1) value)

  other_length : (c : Context) (b : List Kind) (y : ℕ) (last : Other) → length (other_code c b y last) ≡ other_size last
  other_length c b y to.no_other = refl
  other_length c b y (to.other body) = omega (arith, block_length c b (y + 1) body)

  pub clauses_length : (c : Context) (b : List Kind) (k : Kind) (z p : ℕ) (clauses : Clauses) → length (clauses_code c b k z p clauses) ≡ clauses_size clauses
  clauses_length c b k z p to.no_clause = refl
  clauses_length c b k z p (to.clause labels body rest) =
      let x : ℕ = p + labels_size labels in
      let y : ℕ = past 2 x + block_size body in
      let last = step b (does.Jump z) ∷ clauses_code c b k z (y + 1) rest in
      let body_on = step (b ++ k ∷ []) (does.Jump (y + 1)) ∷ step (b ++ k ∷ []) does.Drop ∷ (block_code c b (past 2 x) body ++ last) in
      omega (arith, length-append (labels_code c b k (x + 1) p labels) body_on, length-append (block_code c b (past 2 x) body) last, labels_length c b k (x + 1) p labels, block_length c b (past 2 x) body, clauses_length c b k z (y + 1) rest)

  pub block_length : (c : Context) (b : List Kind) (p : ℕ) (body : Block) → length (block_code c b p body) ≡ block_size body
  block_length c b p to.done = refl
  block_length c b p (to.then x rest) =
      omega (arith, length-append (stmt_code c b p x) (block_code c b (p + stmt_size x) rest), stmt_length c b p x, block_length c b (p + stmt_size x) rest)
