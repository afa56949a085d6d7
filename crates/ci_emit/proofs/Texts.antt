-- The texts of a bound project are short, and so are those that its code leaves.
use Rattle.std.proofs.Common.{rules, ◌≡◌, ℕ, ◌+◌, ◌≤◌, Bool, true, false, List, [], ◌∷◌, ◌++◌, length, All, sym, subst}
use Rattle.std.proofs.lemmas.List.Elements.{All-nil, All-cons, All-head, All-tail}
use Rattle.std.proofs.lemmas.List.Concat.{flat_map-cons}
use Rattle.std.specs.List.{list_all, filter_map, flat_map}
use Rattle.std.specs.Prelude.{◌&&◌, if◌then◌else◌}
use Rattle.ci_base.specs.declared.bounds.TheConstants.{MOST_TEXT_BYTES}
use Rattle.ci_base.specs.declared.relation.Relation.{Relation}
use Rattle.ci_base.specs.declared.relation.Relation.TheVariants as relation
use Rattle.ci_base.specs.declared.value.Kind.{Kind}
use Rattle.ci_base.specs.declared.value.Kind.TheVariants.{Int, Str}
use Rattle.ci_translation.proofs.Facts.{and_both}
use Rattle.ci_translation.specs.Drafts.{Doing, push_text, plain, Draft, first_step, kind_in, expr_code, call_code, links_code, args_code, match_code, label_code, labels_code, stmt_code, other_code, clauses_code, block_code, function_code, expr_size, label_size, stmt_size, labels_size, clauses_size, block_size}
use Rattle.ci_translation.specs.Instructions.{past, operated, left_kind}
use Rattle.ci_translation.specs.Translation.{without, each_once, text_of, same_text, drafts, texts}
use Rattle.ci_tree.specs.Bound as to
use Rattle.ci_tree.specs.Bound.{Expr, Call, Links, Exprs, Label, Stmt, Other, Clauses, Block, Function, Project}
use Rattle.ci_tree.specs.BoundTests.{texts_fit, expr_passes, call_passes, links_pass, exprs_pass, label_passes, stmt_passes, other_passes, clauses_pass, block_passes}
use Rattle.ci_tree.specs.Projects.{IsProject}
use Rattle.ci_tree.specs.Sound.{Context, context_of}

-- a text that is left has few bytes
abbrev Few : Doing → Type 0
Few (push_text text) = length text ≤ MOST_TEXT_BYTES
Few (plain what) = Unit {0}

abbrev Short : Draft → Type 0
Short d = Few d.doing

data Shorts : List Draft → Type 0 where
  none : Shorts []
  more : {d : Draft} {ds : List Draft} → Short d → Shorts ds → Shorts (d ∷ ds)

joined : {xs ys : List Draft} → Shorts xs → Shorts ys → Shorts (xs ++ ys)
joined none k = k
joined (more d h) k = more d (joined h k)

mutual
  expr_short : (c : Context) (b : List Kind) (p : ℕ) (e : Expr) → expr_passes texts_fit e ≡ true → Shorts (expr_code c b p e)
  expr_short c b p (to.number n) h = more tt none
  expr_short c b p (to.literal text) h = more (search (rules, h)) none
  expr_short c b p (to.scalar of) h = more tt none
  expr_short c b p (to.element a index) h = joined (expr_short c b p index h) (more tt none)
  expr_short c b p (to.called what) h = call_short c b p what h
  expr_short c b p (to.unary minus e) h = joined (expr_short c b p e h) (more tt none)
  expr_short c b p (to.chain e rest) h =
      let (he, hr) = and_both (expr_passes texts_fit e) (links_pass texts_fit rest) h in
      joined (expr_short c b p e he) (links_short c b (kind_in c e) (p + expr_size e) rest hr)

  call_short : (c : Context) (b : List Kind) (p : ℕ) (what : Call) → call_passes texts_fit what ≡ true → Shorts (call_code c b p what)
  call_short c b p (to.call callee given args) h = joined (args_short c b p args h) (more tt none)
  call_short c b p (to.que_read queue sort text mode) h =
      let (hq, hm) = and_both (expr_passes texts_fit queue) (expr_passes texts_fit mode) h in
      joined (expr_short c b p queue hq)
      (joined (expr_short c (b ++ Int ∷ []) (p + expr_size queue) mode hm) (more tt (more tt (more tt (more tt (more tt (more tt (more tt (more tt none)))))))))

  links_short : (c : Context) (b : List Kind) (k : Kind) (p : ℕ) (rest : Links) → links_pass texts_fit rest ≡ true → Shorts (links_code c b k p rest)
  links_short c b k p to.no_link h = none
  links_short c b k p (to.operand op e rest) h =
      let (he, hr) = and_both (expr_passes texts_fit e) (links_pass texts_fit rest) h in
      joined (expr_short c (b ++ k ∷ []) p e he) (more tt (links_short c b (left_kind (operated op k)) (p + expr_size e + 1) rest hr))
  links_short c b k p (to.hashes count rest) h = more tt (links_short c b Str (p + 1) rest h)

  args_short : (c : Context) (b : List Kind) (p : ℕ) (args : Exprs) → exprs_pass texts_fit args ≡ true → Shorts (args_code c b p args)
  args_short c b p to.no_expr h = none
  args_short c b p (to.more e rest) h =
      let (he, hr) = and_both (expr_passes texts_fit e) (exprs_pass texts_fit rest) h in
      joined (expr_short c b p e he) (args_short c (b ++ kind_in c e ∷ []) (p + expr_size e) rest hr)

match_short : (c : Context) (b : List Kind) (k : Kind) (r : Relation) (found p : ℕ) (e : Expr) → expr_passes texts_fit e ≡ true → Shorts (match_code c b k r found p e)
match_short c b k r found p e h = more tt (joined (expr_short c (b ++ k ∷ k ∷ []) (p + 1) e h) (more tt (more tt (more tt none))))

label_short : (c : Context) (b : List Kind) (k : Kind) (found p : ℕ) (label : Label) → label_passes texts_fit label ≡ true → Shorts (label_code c b k found p label)
label_short c b k found p (to.one e) h = match_short c b k relation.Equal found p e h
label_short c b k found p (to.compared r e) h = match_short c b k r found p e h
label_short c b k found p (to.range low high) h =
    let (hl, hh) = and_both (expr_passes texts_fit low) (expr_passes texts_fit high) h in
    more tt
    (joined (expr_short c (b ++ k ∷ k ∷ []) (p + 1) low hl)
    (joined (expr_short c (b ++ k ∷ k ∷ k ∷ []) (p + 1 + expr_size low) high hh) (more tt (more tt (more tt none)))))

labels_short : (c : Context) (b : List Kind) (k : Kind) (found p : ℕ) (labels : List Label) → list_all (label_passes texts_fit) labels ≡ true → Shorts (labels_code c b k found p labels)
labels_short c b k found p [] h = none
labels_short c b k found p (label ∷ labels) h =
    let (hl, hr) = and_both (label_passes texts_fit label) (list_all (label_passes texts_fit) labels) h in
    joined (label_short c b k found p label hl) (labels_short c b k found (p + label_size label) labels hr)

mutual
  stmt_short : (c : Context) (b : List Kind) (p : ℕ) (x : Stmt) → stmt_passes texts_fit x ≡ true → Shorts (stmt_code c b p x)
  stmt_short c b p (to.assign at target value) h = more tt (joined (expr_short c b (p + 1) value h) (more tt none))
  stmt_short c b p (to.assign_element at a index value) h =
      let (hi, hv) = and_both (expr_passes texts_fit index) (expr_passes texts_fit value) h in
      more tt (joined (expr_short c b (p + 1) index hi) (joined (expr_short c (b ++ Int ∷ []) (p + 1 + expr_size index) value hv) (more tt none)))
  stmt_short c b p (to.call_of at what) h = more tt (joined (call_short c b (p + 1) what h) (more tt none))
  stmt_short c b p (to.choose at test body last) h =
      let (hf, hl) = and_both (expr_passes texts_fit test && block_passes texts_fit body) (other_passes texts_fit last) h in
      let (ht, hb) = and_both (expr_passes texts_fit test) (block_passes texts_fit body) hf in
      let x : ℕ = p + 1 + expr_size test in
      more tt
      (joined (expr_short c b (p + 1) test ht) (more tt (joined (block_short c b (x + 1) body hb) (other_short c b (x + 1 + block_size body) last hl))))
  stmt_short c b p (to.while at test body) h =
      let (ht, hb) = and_both (expr_passes texts_fit test) (block_passes texts_fit body) h in
      more tt
      (more tt
      (joined (expr_short c b (past 2 p) test ht) (more tt (joined (block_short c b (past 2 p + expr_size test + 1) body hb) (more tt none)))))
  stmt_short c b p (to.for at counter begin last body) h =
      let (hf, hb) = and_both (expr_passes texts_fit begin && expr_passes texts_fit last) (block_passes texts_fit body) h in
      let (hx, hl) = and_both (expr_passes texts_fit begin) (expr_passes texts_fit last) hf in
      let y : ℕ = p + 1 + expr_size begin + expr_size last in
      more tt
      (joined (expr_short c b (p + 1) begin hx)
      (joined (expr_short c (b ++ Int ∷ []) (p + 1 + expr_size begin) last hl)
      (more tt
      (more tt
      (more tt
      (more tt
      (more tt
      (more tt
      (more tt
      (joined (block_short c (b ++ Int ∷ []) (past 5 (past 2 y)) body hb)
      (more tt (more tt (more tt (more tt (more tt (more tt (more tt (more tt (more tt (more tt (more tt none)))))))))))))))))))))
  stmt_short c b p (to.select at subject clauses last) h =
      let (hf, hl) = and_both (expr_passes texts_fit subject && clauses_pass texts_fit clauses) (block_passes texts_fit last) h in
      let (hs, hc) = and_both (expr_passes texts_fit subject) (clauses_pass texts_fit clauses) hf in
      more tt (joined (expr_short c b (p + 1) subject hs) (joined (clauses_short c b (kind_in c subject) (p + 1 + expr_size subject + clauses_size clauses + 1 + block_size last) (p + 1 + expr_size subject) clauses hc) (more tt (block_short c b (p + 1 + expr_size subject + clauses_size clauses + 1) last hl))))
  stmt_short c b p (to.return at value) h = more tt (joined (expr_short c b (p + 1) value h) (more tt none))

  other_short : (c : Context) (b : List Kind) (y : ℕ) (last : Other) → other_passes texts_fit last ≡ true → Shorts (other_code c b y last)
  other_short c b y to.no_other h = none
  other_short c b y (to.other body) h = more tt (block_short c b (y + 1) body h)

  clauses_short : (c : Context) (b : List Kind) (k : Kind) (z p : ℕ) (clauses : Clauses) → clauses_pass texts_fit clauses ≡ true → Shorts (clauses_code c b k z p clauses)
  clauses_short c b k z p to.no_clause h = none
  clauses_short c b k z p (to.clause labels body rest) h =
      let (hf, hr) = and_both (list_all (label_passes texts_fit) labels && block_passes texts_fit body) (clauses_pass texts_fit rest) h in
      let (hl, hb) = and_both (list_all (label_passes texts_fit) labels) (block_passes texts_fit body) hf in
      let x : ℕ = p + labels_size labels in
      joined (labels_short c b k (x + 1) p labels hl)
      (more tt (more tt (joined (block_short c b (past 2 x) body hb) (more tt (clauses_short c b k z (past 2 x + block_size body + 1) rest hr)))))

  block_short : (c : Context) (b : List Kind) (p : ℕ) (body : Block) → block_passes texts_fit body ≡ true → Shorts (block_code c b p body)
  block_short c b p to.done h = none
  block_short c b p (to.then x rest) h =
      let (hx, hr) = and_both (stmt_passes texts_fit x) (block_passes texts_fit rest) h in
      joined (stmt_short c b p x hx) (block_short c b (p + stmt_size x) rest hr)

first_short : (b : List Kind) (k : Kind) → Short (first_step b k)
first_short b Int = tt
first_short b Str = search rules

function_short : (p : Project) (f : Function) → block_passes texts_fit f.body ≡ true → Shorts (function_code p f)
function_short p f h = more tt (joined (block_short (context_of p f) [] 1 f.body h) (more (first_short [] (left_kind f.gives)) (more tt none)))

functions_short : (p : Project) (fs : List Function) → All (λ (f : Function). block_passes texts_fit f.body ≡ true) fs → Shorts (flat_map (function_code p) fs)
functions_short p [] h = none
functions_short p (f ∷ fs) h =
    let whole : Shorts (function_code p f ++ flat_map (function_code p) fs) =
    joined (function_short p f (All-head (λ (g : Function). block_passes texts_fit g.body ≡ true) f fs h)) (functions_short p fs (All-tail (λ (g : Function). block_passes texts_fit g.body ≡ true) f fs h)) in
    subst Shorts (sym (flat_map-cons (function_code p) f fs)) whole

-- Texts

abbrev FewBytes : List ℕ → Type 0
FewBytes text = length text ≤ MOST_TEXT_BYTES

used_few : (ds : List Draft) → Shorts ds → All FewBytes (filter_map (λ (d : Draft). text_of d.doing) ds)
used_few [] h = All-nil FewBytes
used_few (d ∷ ds) (more few rest) = by_doing d.doing few (used_few ds rest)
  where
    by_doing : (doing : Doing) → Few doing → All FewBytes (filter_map (λ (x : Draft). text_of x.doing) ds) → All FewBytes (filter_map (λ (x : Draft). text_of x.doing) (record { before = d.before; doing = doing } ∷ ds))
    by_doing (push_text text) few rest = All-cons FewBytes text (filter_map (λ (x : Draft). text_of x.doing) ds) few rest
    by_doing (plain what) few rest = rest

without_few : (x : List ℕ) (xs : List (List ℕ)) → All FewBytes xs → All FewBytes (without same_text x xs)
without_few x [] h = h
without_few x (y ∷ xs) h = by_test (same_text x y) (without_few x xs (All-tail FewBytes y xs h))
  where
    by_test : (b : Bool) → All FewBytes (without same_text x xs) → All FewBytes (if b then without same_text x xs else y ∷ without same_text x xs)
    by_test true rest = rest
    by_test false rest = All-cons FewBytes y (without same_text x xs) (All-head FewBytes y xs h) rest

once_few : (xs : List (List ℕ)) → All FewBytes xs → All FewBytes (each_once same_text xs)
once_few [] h = h
once_few (x ∷ xs) h = All-cons FewBytes x (without same_text x (each_once same_text xs)) (All-head FewBytes x xs h) (without_few x (each_once same_text xs) (once_few xs (All-tail FewBytes x xs h)))

-- the texts of a bound project's code have few bytes
pub texts_few : (p : Project) → IsProject p → All FewBytes (texts p)
texts_few p h = once_few (filter_map (λ (d : Draft). text_of d.doing) (drafts p)) (used_few (drafts p) (functions_short p p.functions h.texts))
