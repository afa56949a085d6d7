-- Where the list of a part's instructions lies, the part stands.
use Rattle.std.proofs.Common.{◌≡◌, ℕ, ◌+◌, Bool, true, false, List, [], ◌∷◌, ◌++◌, length, Option, Some, None, refl, sym, ap, ◌∙◌, subst, arith}
use Rattle.std.specs.List.{list_all}
use Rattle.std.specs.Prelude.{◌&&◌, if◌then◌else◌, is_some}
use Rattle.ci_base.specs.declared.relation.Relation.{Relation}
use Rattle.ci_base.specs.declared.relation.Relation.TheVariants as relation
use Rattle.ci_base.specs.declared.value.Kind.{Kind}
use Rattle.ci_base.specs.declared.value.Kind.TheVariants.{Int, Str}
use Rattle.ci_code.specs.declared.instruction.Instruction.TheVariants as does
use Rattle.ci_tree.specs.Bound as to
use Rattle.ci_tree.specs.Bound.{Scalar, Callee, Expr, Call, Links, Exprs, Label, Stmt, Other, Clauses, Block}
use Rattle.ci_tree.specs.Operators.{Joins, sums, compares, counts, joins, joined, has_kind, formed}
use Rattle.ci_tree.specs.Sound.{Context, signature, takes_of, gives_of, scalar_kind, array_kind, kind_of, links_kind, call_kind, is_call, have_kinds, have_one_kind, is_label, is_stmt, is_other, are_clauses, is_block}
use Rattle.ci_translation.specs.Drafts.{Doing, push_text, plain, Draft, step, links_leave, kind_in, kinds_in, expr_size, call_size, links_size, args_size, label_size, labels_size, stmt_size, other_size, clauses_size, block_size, que_code, expr_code, call_code, links_code, args_code, pick_code, match_code, label_code, labels_code, count_code, raise_code, stmt_code, else_place, other_code, clauses_code, block_code}
use Rattle.ci_translation.specs.Instructions.{past, comparing, within, operating, operated, turning, writing, calling, left_kind}
use Rattle.ci_translation.specs.Stands.{Scope, Is, Pushes, KeepsAt, ExprAt, CallAt, LinksAt, ArgsAt, RaisesAt, CountsAt, PicksAt, LabelsAt, BlockAt, StmtAt, OtherAt, ClausesAt}
use Rattle.ci_translation.proofs.Facts.{and_both, some_kind}
use Rattle.ci_translation.proofs.Sizes.{expr_length, args_length, label_length, call_length, labels_length, clauses_length, stmt_length, block_length}

-- The list lies from a place on

abbrev pub HereIs : Scope → List Kind → ℕ → Doing → Type 0
HereIs s b p (push_text text) = Pushes s b p text
HereIs s b p (plain what) = Is s b p what

abbrev pub Lies : Scope → ℕ → List Draft → Type 0
Lies s p [] = Unit {0}
Lies s p (d ∷ rest) = HereIs s d.before p d.doing × Lies s (p + 1) rest

front : (s : Scope) (p : ℕ) (xs ys : List Draft) → Lies s p (xs ++ ys) → Lies s p xs
front s p [] ys h = tt
front s p (x ∷ xs) ys h = (h.0, front s (p + 1) xs ys h.1)

behind : (s : Scope) (p q : ℕ) (xs ys : List Draft) → q ≡ p + length xs → Lies s p (xs ++ ys) → Lies s q ys
behind s p q [] ys e h = let same : p ≡ q = omega arith in subst (λ n. Lies s n ys) same h
behind s p q (x ∷ xs) ys e h = behind s (p + 1) q xs ys (omega arith) h.1

-- one list, and then another
pub apart : (s : Scope) (p n : ℕ) (xs ys : List Draft) → length xs ≡ n → Lies s p (xs ++ ys) → Lies s p xs × Lies s (p + n) ys
apart s p n xs ys e h = (front s p xs ys h, behind s p (p + n) xs ys (omega arith) h)

-- What is right of a tree

where_true : (b : Bool) (o : Option Kind) (k : Kind) → (if b then o else None) ≡ Some k → (b ≡ true) × (o ≡ Some k)
where_true true o k e = (refl, e)
where_true false o k e = absurd (cc e)

has_it : (k : Kind) (o : Option Kind) → has_kind k o ≡ true → o ≡ Some k
has_it Int (Some Int) e = refl
has_it Str (Some Str) e = refl
has_it Int (Some Str) e = absurd (cc e)
has_it Str (Some Int) e = absurd (cc e)
has_it k None e = absurd (cc e)

one_kind : (a o : Option Kind) → have_one_kind a o ≡ true → (k : Kind) × (a ≡ Some k) × (o ≡ Some k)
one_kind (Some k) o e = (k, refl, has_it k o e)
one_kind None o e = absurd (cc e)

some_there : {A : Type 0} (o : Option A) → is_some o ≡ true → (x : A) × (o ≡ Some x)
some_there (Some x) e = (x, refl)
some_there None e = absurd (cc e)

joined_some : (j : Joins) (o : Option Kind) (k l : Kind) → joined j (Some k) o ≡ Some l → (o ≡ Some k) × (joined j (Some k) (Some k) ≡ Some l)
joined_some sums (Some Int) Int l e = (refl, e)
joined_some sums (Some Str) Str l e = (refl, e)
joined_some sums (Some Int) Str l e = absurd (cc e)
joined_some sums (Some Str) Int l e = absurd (cc e)
joined_some sums None Int l e = absurd (cc e)
joined_some sums None Str l e = absurd (cc e)
joined_some compares (Some Int) Int l e = (refl, e)
joined_some compares (Some Str) Str l e = (refl, e)
joined_some compares (Some Int) Str l e = absurd (cc e)
joined_some compares (Some Str) Int l e = absurd (cc e)
joined_some compares None Int l e = absurd (cc e)
joined_some compares None Str l e = absurd (cc e)
joined_some counts (Some Int) Int l e = (refl, e)
joined_some counts (Some Str) Int l e = absurd (cc e)
joined_some counts None Int l e = absurd (cc e)
joined_some counts o Str l e = absurd (cc e)

joined_none : (j : Joins) (o : Option Kind) (l : Kind) → joined j None o ≡ Some l → ⊥
joined_none sums o l e = absurd (cc e)
joined_none compares o l e = absurd (cc e)
joined_none counts o l e = absurd (cc e)

left_some : (j : Joins) (a o : Option Kind) (l : Kind) → joined j a o ≡ Some l → (k : Kind) × (a ≡ Some k)
left_some j (Some k) o l e = (k, refl)
left_some j None o l e = absurd (joined_none j o l e)

formed_some : (a : Option Kind) (l : Kind) → formed a ≡ Some l → a ≡ Some Int
formed_some (Some Int) l e = refl
formed_some (Some Str) l e = absurd (cc e)
formed_some None l e = absurd (cc e)

-- a chain that has a kind begins with a part that has one
links_some : (c : Context) (left : Option Kind) (rest : Links) (k : Kind) → links_kind c left rest ≡ Some k → (j : Kind) × (left ≡ Some j)
links_some c left to.no_link k e = (k, e)
links_some c left (to.operand op right rest) k e =
    let (l, f) = links_some c (joined (joins op) left (kind_of c right)) rest k e in left_some (joins op) left (kind_of c right) l f
links_some c left (to.hashes count rest) k e = let (l, f) = links_some c (formed left) rest k e in (Int, formed_some left l f)

-- where a part has a kind it leaves a value of that kind
links_is : (c : Context) (left : Option Kind) (j : Kind) (rest : Links) (k : Kind) → left ≡ Some j → links_kind c left rest ≡ Some k → links_leave j rest ≡ k
links_is c left j to.no_link k e f = some_kind j k (sym e ∙ f)
links_is c left j (to.operand op right rest) k e f =
    let (l, fl) = links_some c (joined (joins op) left (kind_of c right)) rest k f in
    let fo = (joined_some (joins op) (kind_of c right) j l (ap (λ o. joined (joins op) o (kind_of c right)) (sym e) ∙ fl)).1 in
    ap (λ i. links_leave (left_kind i) rest) fo ∙ links_is c (joined (joins op) left (kind_of c right)) l rest k fl f
links_is c left j (to.hashes count rest) k e f =
    let (l, fl) = links_some c (formed left) rest k f in
    links_is c (formed left) Str rest k (ap formed (formed_some left l fl)) f

kind_is : (c : Context) (e : Expr) (k : Kind) → kind_of c e ≡ Some k → kind_in c e ≡ k
kind_is c (to.number n) k f = some_kind Int k f
kind_is c (to.literal text) k f = some_kind Str k f
kind_is c (to.scalar of) k f = ap left_kind f
kind_is c (to.element a index) k f = ap left_kind ((where_true (has_kind Int (kind_of c index)) (array_kind c a) k f).1)
kind_is c (to.called what) k f = ap left_kind ((where_true (is_call c what) (call_kind c what) k f).1)
kind_is c (to.unary minus operand) k f = some_kind Int k ((where_true (has_kind Int (kind_of c operand)) (Some Int) k f).1)
kind_is c (to.chain first rest) k f =
    let (j, fe) = links_some c (kind_of c first) rest k f in
    ap (λ i. links_leave i rest) (kind_is c first j fe) ∙ links_is c (kind_of c first) j rest k fe f

kinds_same : (c : Context) (kinds : List Kind) (args : Exprs) → have_kinds c kinds args ≡ true → kinds_in c args ≡ kinds
kinds_same c [] to.no_expr e = refl
kinds_same c [] (to.more x rest) e = absurd (cc e)
kinds_same c (k ∷ kinds) to.no_expr e = absurd (cc e)
kinds_same c (k ∷ kinds) (to.more x rest) e =
    let (fx, fr) = and_both (has_kind k (kind_of c x)) (have_kinds c kinds rest) e in
    let head : kind_in c x ≡ k = kind_is c x k (has_it k (kind_of c x) fx) in
    ap (λ j. j ∷ kinds_in c rest) head ∙ ap (λ js. k ∷ js) (kinds_same c kinds rest fr)

module _ (s : Scope) where
  abbrev c : Context
  c = s.context

  que_stands : (b : List Kind) (y q : ℕ) (sort text : Scalar) → scalar_kind c sort ≡ Some Int → scalar_kind c text ≡ Some Str → Lies s y (que_code b y sort text) → q ≡ past 8 y → KeepsAt s b sort text (y + 1) q
  que_stands b y q sort text fs ft h e =
      let h1 = h.1 in
      let h2 = h1.1 in
      let h3 = h2.1 in
      let h4 = h3.1 in
      let h5 = h4.1 in
      let h6 = h5.1 in
      let h7 = h6.1 in
      subst (KeepsAt s b sort text (y + 1)) (sym e)
      (record {
        sort_kind = fs;
        text_kind = ft;
        twice = h1.0;
        zero = h2.0;
        leave = h3.0;
        take_sort = h4.0;
        write_sort = h5.0;
        take_text = h6.0;
        write_text = h7.0;
        over = refl;
      })

  mutual
    pub expr_stands : (b : List Kind) (e : Expr) (k : Kind) (p q : ℕ) → kind_of c e ≡ Some k → Lies s p (expr_code c b p e) → q ≡ p + expr_size e → ExprAt s b e (Some k) p q
    expr_stands b (to.number n) k p q f h eq = (sym f, h.0, eq)
    expr_stands b (to.literal text) k p q f h eq = (sym f, h.0, eq)
    expr_stands b (to.scalar of) k p q f h eq = (k, refl, f, h.0, eq)
    expr_stands b (to.element a index) k p q f h eq =
        let (fi, fa) = where_true (has_kind Int (kind_of c index)) (array_kind c a) k f in
        let (hi, hr) = apart s p (expr_size index) (expr_code c b p index) (step (b ++ Int ∷ []) (does.ReadAt a) ∷ []) (expr_length c b p index) h in
        (k, p + expr_size index, refl, fa, expr_stands b index Int p (p + expr_size index) (has_it Int (kind_of c index) fi) hi refl, hr.0, omega arith)
    expr_stands b (to.called what) k p q f h eq =
        let (fc, fk) = where_true (is_call c what) (call_kind c what) k f in
        subst (λ g. CallAt s b what g p q) fk (call_stands b what p q fc h eq)
    expr_stands b (to.unary minus e) k p q f h eq =
        let (fe, fk) = where_true (has_kind Int (kind_of c e)) (Some Int) k f in
        let (he, hr) = apart s p (expr_size e) (expr_code c b p e) (step (b ++ Int ∷ []) (turning minus) ∷ []) (expr_length c b p e) h in
        (p + expr_size e, sym fk, expr_stands b e Int p (p + expr_size e) (has_it Int (kind_of c e) fe) he refl, hr.0, omega arith)
    expr_stands b (to.chain e rest) k p q f h eq =
        let (j, fe) = links_some c (kind_of c e) rest k f in
        let x : ℕ = p + expr_size e in
        let (he, hr) = apart s p (expr_size e) (expr_code c b p e) (links_code c b (kind_in c e) x rest) (expr_length c b p e) h in (
          j,
          x,
          expr_stands b e j p x fe he refl,
          links_stands b j rest k x q (subst (λ o. links_kind c o rest ≡ Some k) fe f) (subst (λ i. Lies s x (links_code c b i x rest)) (kind_is c e j fe) hr) (omega arith),
        )

    pub call_stands : (b : List Kind) (what : Call) (p q : ℕ) → is_call c what ≡ true → Lies s p (call_code c b p what) → q ≡ p + call_size what → CallAt s b what (call_kind c what) p q
    call_stands b (to.call callee given args) p q f h eq =
        let (fs, fa) = and_both (is_some (signature c callee)) (have_kinds c (takes_of (signature c callee)) args) f in
        let (head, found) = some_there (signature c callee) fs in
        let fine : have_kinds c head.takes args ≡ true = subst (λ o. have_kinds c (takes_of o) args ≡ true) found fa in
        let x : ℕ = p + args_size args in
        let (ha, hr) = apart s p (args_size args) (args_code c b p args) (step (b ++ kinds_in c args) (calling callee) ∷ []) (args_length c b p args) h in (
          x,
          head,
          found,
          args_stand b args head.takes p x fine ha refl,
          subst (λ ks. Is s (b ++ ks) x (calling callee)) (kinds_same c head.takes args fine) hr.0,
          ap gives_of found,
          omega arith,
        )
    call_stands b (to.que_read queue sort text mode) p q f h eq =
        let (f3, fm) = and_both (has_kind Int (kind_of c queue) && has_kind Int (scalar_kind c sort) && has_kind Str (scalar_kind c text)) (has_kind Int (kind_of c mode)) f in
        let (f2, ft) = and_both (has_kind Int (kind_of c queue) && has_kind Int (scalar_kind c sort)) (has_kind Str (scalar_kind c text)) f3 in
        let (fq, fs) = and_both (has_kind Int (kind_of c queue)) (has_kind Int (scalar_kind c sort)) f2 in
        let x : ℕ = p + expr_size queue in
        let y : ℕ = x + expr_size mode in
        let last = que_code b y sort text in
        let (hq, h1) = apart s p (expr_size queue) (expr_code c b p queue) (expr_code c (b ++ Int ∷ []) x mode ++ last) (expr_length c b p queue) h in
        let (hm, hl) = apart s x (expr_size mode) (expr_code c (b ++ Int ∷ []) x mode) last (expr_length c (b ++ Int ∷ []) x mode) h1 in (
          x,
          y,
          refl,
          expr_stands b queue Int p x (has_it Int (kind_of c queue) fq) hq refl,
          expr_stands (b ++ Int ∷ []) mode Int x y (has_it Int (kind_of c mode) fm) hm refl,
          hl.0,
          que_stands b y q sort text (has_it Int (scalar_kind c sort) fs) (has_it Str (scalar_kind c text) ft) hl (omega arith),
        )

    links_stands : (b : List Kind) (j : Kind) (rest : Links) (k : Kind) (p q : ℕ) → links_kind c (Some j) rest ≡ Some k → Lies s p (links_code c b j p rest) → q ≡ p + links_size rest → LinksAt s b rest j (Some k) p q
    links_stands b j to.no_link k p q f h eq = (sym f, omega arith)
    links_stands b j (to.operand op e rest) k p q f h eq =
        let (l, fl) = links_some c (joined (joins op) (Some j) (kind_of c e)) rest k f in
        let (fe, fo) = joined_some (joins op) (kind_of c e) j l fl in
        let x : ℕ = p + expr_size e in
        let (he, hr) = apart s p (expr_size e) (expr_code c (b ++ j ∷ []) p e) (step (b ++ j ∷ j ∷ []) (operating op j) ∷ links_code c b (left_kind (operated op j)) (x + 1) rest) (expr_length c (b ++ j ∷ []) p e) h in (
          x,
          l,
          fo,
          expr_stands (b ++ j ∷ []) e j p x fe he refl,
          hr.0,
          links_stands b l rest k (x + 1) q (subst (λ o. links_kind c o rest ≡ Some k) fl f) (subst (λ i. Lies s (x + 1) (links_code c b i (x + 1) rest)) (ap left_kind fo) hr.1) (omega arith),
        )
    links_stands b j (to.hashes count rest) k p q f h eq =
        let (l, fl) = links_some c (formed (Some j)) rest k f in
        let fj : Some j ≡ Some Int = formed_some (Some j) l fl in
        (some_kind j Int fj, h.0, links_stands b Str rest k (p + 1) q (subst (λ o. links_kind c (formed o) rest ≡ Some k) fj f) h.1 (omega arith))

    args_stand : (b : List Kind) (args : Exprs) (kinds : List Kind) (p q : ℕ) → have_kinds c kinds args ≡ true → Lies s p (args_code c b p args) → q ≡ p + args_size args → ArgsAt s b args kinds p q
    args_stand b to.no_expr [] p q f h eq = omega arith
    args_stand b to.no_expr (k ∷ kinds) p q f h eq = absurd (cc f)
    args_stand b (to.more e rest) [] p q f h eq = absurd (cc f)
    args_stand b (to.more e rest) (k ∷ kinds) p q f h eq =
        let (fe, fr) = and_both (has_kind k (kind_of c e)) (have_kinds c kinds rest) f in
        let fk : kind_of c e ≡ Some k = has_it k (kind_of c e) fe in
        let x : ℕ = p + expr_size e in
        let (he, hr) = apart s p (expr_size e) (expr_code c b p e) (args_code c (b ++ kind_in c e ∷ []) x rest) (expr_length c b p e) h in (
          x,
          expr_stands b e k p x fk he refl,
          args_stand (b ++ k ∷ []) rest kinds x q fr (subst (λ i. Lies s x (args_code c (b ++ i ∷ []) x rest)) (kind_is c e k fk) hr) (omega arith),
        )

  -- behind a label's test
  picks_stand : (b : List Kind) (found p : ℕ) → Lies s p (pick_code b found p) → PicksAt s b found p
  picks_stand b found p h = record { fails = h.0; holds = h.1.0 }

  match_stands : (b : List Kind) (k : Kind) (r : Relation) (found p : ℕ) (e : Expr) (rest : List Draft) → has_kind k (kind_of c e) ≡ true → Lies s p (match_code c b k r found p e ++ rest) → Is s (b ++ k ∷ []) p does.Dup × ExprAt s (b ++ k ∷ k ∷ []) e (Some k) (p + 1) (p + 1 + expr_size e) × Is s (b ++ k ∷ k ∷ k ∷ []) (p + 1 + expr_size e) (comparing r k) × PicksAt s (b ++ k ∷ []) found (p + 1 + expr_size e + 1)
  match_stands b k r found p e rest f h =
      let x : ℕ = p + 1 + expr_size e in
      let last = step (b ++ k ∷ k ∷ k ∷ []) (comparing r k) ∷ pick_code (b ++ k ∷ []) found (x + 1) in
      let whole = front s p (match_code c b k r found p e) rest h in
      let (he, hr) = apart s (p + 1) (expr_size e) (expr_code c (b ++ k ∷ k ∷ []) (p + 1) e) last (expr_length c (b ++ k ∷ k ∷ []) (p + 1) e) whole.1 in
      (whole.0, expr_stands (b ++ k ∷ k ∷ []) e k (p + 1) x (has_it k (kind_of c e) f) he refl, hr.0, picks_stand (b ++ k ∷ []) found (x + 1) hr.1)

  -- the labels behind one
  labels_behind : (b : List Kind) (k : Kind) (found p : ℕ) (label : Label) (labels : List Label) (n : ℕ) → n ≡ p + label_size label → Lies s p (labels_code c b k found p (label ∷ labels)) → Lies s n (labels_code c b k found n labels)
  labels_behind b k found p label labels n e h =
      let (hl, hr) = apart s p (label_size label) (label_code c b k found p label) (labels_code c b k found (p + label_size label) labels) (label_length c b k found p label) h in
      subst (λ i. Lies s i (labels_code c b k found i labels)) (sym e) hr

  labels_stand : (b : List Kind) (k : Kind) (found : ℕ) (labels : List Label) (p q : ℕ) → list_all (is_label c (Some k)) labels ≡ true → Lies s p (labels_code c b k found p labels) → q ≡ p + labels_size labels → LabelsAt s b k labels found p q
  labels_stand b k found [] p q f h eq = omega arith
  labels_stand b k found (to.one e ∷ labels) p q f h eq =
      let (fe, fr) = and_both (has_kind k (kind_of c e)) (list_all (is_label c (Some k)) labels) f in
      let x : ℕ = p + 1 + expr_size e in
      let (dup, ee, is, jumps) = match_stands b k relation.Equal found p e (labels_code c b k found (p + label_size (to.one e)) labels) fe h in
      (x, dup, ee, is, jumps, labels_stand b k found labels (past 2 (x + 1)) q fr (labels_behind b k found p (to.one e) labels (past 2 (x + 1)) (omega arith) h) (omega arith))
  labels_stand b k found (to.compared r e ∷ labels) p q f h eq =
      let (fe, fr) = and_both (has_kind k (kind_of c e)) (list_all (is_label c (Some k)) labels) f in
      let x : ℕ = p + 1 + expr_size e in
      let (dup, ee, is, jumps) = match_stands b k r found p e (labels_code c b k found (p + label_size (to.compared r e)) labels) fe h in
      (x, dup, ee, is, jumps, labels_stand b k found labels (past 2 (x + 1)) q fr (labels_behind b k found p (to.compared r e) labels (past 2 (x + 1)) (omega arith) h) (omega arith))
  labels_stand b k found (to.range low high ∷ labels) p q f h eq =
      let (fe, fr) = and_both (has_kind k (kind_of c low) && has_kind k (kind_of c high)) (list_all (is_label c (Some k)) labels) f in
      let (fl, fh) = and_both (has_kind k (kind_of c low)) (has_kind k (kind_of c high)) fe in
      let x : ℕ = p + 1 + expr_size low in
      let y : ℕ = x + expr_size high in
      let last = step (b ++ k ∷ k ∷ k ∷ k ∷ []) (within k) ∷ pick_code (b ++ k ∷ []) found (y + 1) in
      let tail = expr_code c (b ++ k ∷ k ∷ k ∷ []) x high ++ last in
      let whole = front s p (label_code c b k found p (to.range low high)) (labels_code c b k found (p + label_size (to.range low high)) labels) h in
      let (hl, h1) = apart s (p + 1) (expr_size low) (expr_code c (b ++ k ∷ k ∷ []) (p + 1) low) tail (expr_length c (b ++ k ∷ k ∷ []) (p + 1) low) whole.1 in
      let (hh, h2) = apart s x (expr_size high) (expr_code c (b ++ k ∷ k ∷ k ∷ []) x high) last (expr_length c (b ++ k ∷ k ∷ k ∷ []) x high) h1 in (
        x,
        y,
        whole.0,
        expr_stands (b ++ k ∷ k ∷ []) low k (p + 1) x (has_it k (kind_of c low) fl) hl refl,
        expr_stands (b ++ k ∷ k ∷ k ∷ []) high k x y (has_it k (kind_of c high) fh) hh refl,
        h2.0,
        picks_stand (b ++ k ∷ []) found (y + 1) h2.1,
        labels_stand b k found labels (past 2 (y + 1)) q fr (labels_behind b k found p (to.range low high) labels (past 2 (y + 1)) (omega arith) h) (omega arith),
      )

  raises_stand : (b : List Kind) (counter : Scalar) (r l q : ℕ) → Lies s r (raise_code b counter r l) → q ≡ past 11 r → RaisesAt s b counter r l q
  raises_stand b counter r l q h e =
      let h1 = h.1 in
      let h2 = h1.1 in
      let h3 = h2.1 in
      let h4 = h3.1 in
      let h5 = h4.1 in
      let h6 = h5.1 in
      let h7 = h6.1 in
      let h8 = h7.1 in
      let h9 = h8.1 in
      let h10 = h9.1 in
      record {
        load = h.0;
        twice = h1.0;
        most = h2.0;
        differs = h3.0;
        leave = h4.0;
        one = h5.0;
        add = h6.0;
        store = h7.0;
        back = h8.0;
        drop = h9.0;
        drop_last = h10.0;
        over = e;
      }

  -- FOR behind its last value, from its test at l on
  counts_stand : (b : List Kind) (counter : Scalar) (body : ℕ → ℕ → Type 0) (code : List Draft) (n l q : ℕ) → scalar_kind c counter ≡ Some Int → (Lies s (past 5 l) code → body (past 5 l) (past 5 l + n)) → length code ≡ n → Lies s l (count_code b counter (past 10 (past 5 l + n)) ++ (code ++ raise_code b counter (past 5 l + n) l)) → q ≡ past 11 (past 5 l + n) → CountsAt s b counter body l q
  counts_stand b counter body code n l q f ran len h e =
      let h1 = h.1 in
      let h2 = h1.1 in
      let h3 = h2.1 in
      let h4 = h3.1 in
      let r : ℕ = past 5 l + n in
      let (hb, hr) = apart s (past 5 l) n code (raise_code b counter r l) len h4.1 in
      let raises : RaisesAt s b counter r l q = raises_stand b counter r l q hr e in
      record {
        y = r;
        e = past 10 r;
        kind = f;
        tick = h.0;
        twice = h1.0;
        load = h2.0;
        compare = h3.0;
        leave = h4.0;
        ran = ran hb;
        raises = raises;
        drop = raises.drop_last;
        over = e;
      }

  mutual
    pub block_stands : (b : List Kind) (body : Block) (p q : ℕ) → is_block c body ≡ true → Lies s p (block_code c b p body) → q ≡ p + block_size body → BlockAt s b body p q
    block_stands b to.done p q f h eq = omega arith
    block_stands b (to.then x rest) p q f h eq =
        let (fx, fr) = and_both (is_stmt c x) (is_block c rest) f in
        let (hx, hr) = apart s p (stmt_size x) (stmt_code c b p x) (block_code c b (p + stmt_size x) rest) (stmt_length c b p x) h in
        (p + stmt_size x, stmt_stands b x p (p + stmt_size x) fx hx refl, block_stands b rest (p + stmt_size x) q fr hr (omega arith))

    stmt_stands : (b : List Kind) (x : Stmt) (p q : ℕ) → is_stmt c x ≡ true → Lies s p (stmt_code c b p x) → q ≡ p + stmt_size x → StmtAt s b x p q
    stmt_stands b (to.assign at target value) p q f h eq =
        let (k, ft, fv) = one_kind (scalar_kind c target) (kind_of c value) f in
        let x : ℕ = p + 1 + expr_size value in
        let (hv, hr) = apart s (p + 1) (expr_size value) (expr_code c b (p + 1) value) (step (b ++ kind_in c value ∷ []) (writing target) ∷ []) (expr_length c b (p + 1) value) h.1 in
        (x, k, ft, h.0, expr_stands b value k (p + 1) x fv hv refl, subst (λ j. Is s (b ++ j ∷ []) x (writing target)) (kind_is c value k fv) hr.0, omega arith)
    stmt_stands b (to.assign_element at a index value) p q f h eq =
        let (fi, fr) = and_both (has_kind Int (kind_of c index)) (have_one_kind (array_kind c a) (kind_of c value)) f in
        let (k, fa, fv) = one_kind (array_kind c a) (kind_of c value) fr in
        let x : ℕ = p + 1 + expr_size index in
        let y : ℕ = x + expr_size value in
        let last = step (b ++ Int ∷ kind_in c value ∷ []) (does.WriteAt a) ∷ [] in
        let (hi, h1) = apart s (p + 1) (expr_size index) (expr_code c b (p + 1) index) (expr_code c (b ++ Int ∷ []) x value ++ last) (expr_length c b (p + 1) index) h.1 in
        let (hv, hr) = apart s x (expr_size value) (expr_code c (b ++ Int ∷ []) x value) last (expr_length c (b ++ Int ∷ []) x value) h1 in (
          x,
          y,
          k,
          fa,
          h.0,
          expr_stands b index Int (p + 1) x (has_it Int (kind_of c index) fi) hi refl,
          expr_stands (b ++ Int ∷ []) value k x y fv hv refl,
          subst (λ j. Is s (b ++ Int ∷ j ∷ []) y (does.WriteAt a)) (kind_is c value k fv) hr.0,
          omega arith,
        )
    stmt_stands b (to.call_of at what) p q f h eq =
        let x : ℕ = p + 1 + call_size what in
        let (hc, hr) = apart s (p + 1) (call_size what) (call_code c b (p + 1) what) (step (b ++ left_kind (call_kind c what) ∷ []) does.Drop ∷ []) (call_length c b (p + 1) what) h.1 in
        (x, call_kind c what, h.0, call_stands b what (p + 1) x f hc refl, hr.0, omega arith)
    stmt_stands b (to.choose at test body last) p q f h eq =
        let (f1, fl) = and_both (has_kind Int (kind_of c test) && is_block c body) (is_other c last) f in
        let (ft, fb) = and_both (has_kind Int (kind_of c test)) (is_block c body) f1 in
        let x : ℕ = p + 1 + expr_size test in
        let y : ℕ = x + 1 + block_size body in
        let other = other_code c b y last in
        let tail = step (b ++ Int ∷ []) (does.JumpIfZero (else_place last y)) ∷ (block_code c b (x + 1) body ++ other) in
        let (ht, h1) = apart s (p + 1) (expr_size test) (expr_code c b (p + 1) test) tail (expr_length c b (p + 1) test) h.1 in
        let (hb, ho) = apart s (x + 1) (block_size body) (block_code c b (x + 1) body) other (block_length c b (x + 1) body) h1.1 in (
          x,
          y,
          else_place last y,
          h.0,
          expr_stands b test Int (p + 1) x (has_it Int (kind_of c test) ft) ht refl,
          h1.0,
          block_stands b body (x + 1) y fb hb refl,
          other_stands b last y q fl ho (omega arith),
        )
    stmt_stands b (to.while at test body) p q f h eq =
        let (ft, fb) = and_both (has_kind Int (kind_of c test)) (is_block c body) f in
        let x : ℕ = past 2 p + expr_size test in
        let y : ℕ = x + 1 + block_size body in
        let back = step b (does.Jump (p + 1)) ∷ [] in
        let tail = step (b ++ Int ∷ []) (does.JumpIfZero (y + 1)) ∷ (block_code c b (x + 1) body ++ back) in
        let (ht, h1) = apart s (past 2 p) (expr_size test) (expr_code c b (past 2 p) test) tail (expr_length c b (past 2 p) test) h.1.1 in
        let (hb, hj) = apart s (x + 1) (block_size body) (block_code c b (x + 1) body) back (block_length c b (x + 1) body) h1.1 in
        let over : q ≡ y + 1 = omega arith in (
          h.0,
          record {
            x = x;
            y = y;
            tick = h.1.0;
            tested = expr_stands b test Int (past 2 p) x (has_it Int (kind_of c test) ft) ht refl;
            leave = subst (λ n. Is s (b ++ Int ∷ []) x (does.JumpIfZero n)) (sym over) h1.0;
            ran = block_stands b body (x + 1) y fb hb refl;
            back = hj.0;
            over = over;
          },
        )
    stmt_stands b (to.for at counter begin last body) p q f h eq =
        let (f2, fb) = and_both (has_kind Int (scalar_kind c counter) && has_kind Int (kind_of c begin) && has_kind Int (kind_of c last)) (is_block c body) f in
        let (f1, fl) = and_both (has_kind Int (scalar_kind c counter) && has_kind Int (kind_of c begin)) (has_kind Int (kind_of c last)) f2 in
        let (fc, fx) = and_both (has_kind Int (scalar_kind c counter)) (has_kind Int (kind_of c begin)) f1 in
        let x : ℕ = p + 1 + expr_size begin in
        let y : ℕ = x + expr_size last in
        let l : ℕ = past 2 y in
        let n : ℕ = block_size body in
        let r : ℕ = past 5 l + n in
        let code = block_code c (b ++ Int ∷ []) (past 5 l) body in
        let loop = count_code b counter (past 10 r) ++ (code ++ raise_code b counter r l) in
        let tail = step (b ++ Int ∷ Int ∷ []) does.Swap ∷ step (b ++ Int ∷ Int ∷ []) (writing counter) ∷ loop in
        let (hx, h1) = apart s (p + 1) (expr_size begin) (expr_code c b (p + 1) begin) (expr_code c (b ++ Int ∷ []) x last ++ tail) (expr_length c b (p + 1) begin) h.1 in
        let (hl, h2) = apart s x (expr_size last) (expr_code c (b ++ Int ∷ []) x last) tail (expr_length c (b ++ Int ∷ []) x last) h1 in (
          x,
          y,
          h.0,
          expr_stands b begin Int (p + 1) x (has_it Int (kind_of c begin) fx) hx refl,
          expr_stands (b ++ Int ∷ []) last Int x y (has_it Int (kind_of c last) fl) hl refl,
          h2.0,
          h2.1.0,
          counts_stand b counter (BlockAt s (b ++ Int ∷ []) body) code n l q (has_it Int (scalar_kind c counter) fc) (λ hb. block_stands (b ++ Int ∷ []) body (past 5 l) r fb hb refl) (block_length c (b ++ Int ∷ []) (past 5 l) body) h2.1.1 (omega arith),
        )
    stmt_stands b (to.select at subject clauses last) p q f h eq =
        let (f1, fl) = and_both (is_some (kind_of c subject) && are_clauses c (kind_of c subject) clauses) (is_block c last) f in
        let (fs, fc) = and_both (is_some (kind_of c subject)) (are_clauses c (kind_of c subject) clauses) f1 in
        let (k, fk) = some_there (kind_of c subject) fs in
        let x : ℕ = p + 1 + expr_size subject in
        let y : ℕ = x + clauses_size clauses in
        let z : ℕ = y + 1 + block_size last in
        let j : Kind = kind_in c subject in
        let jk : j ≡ k = kind_is c subject k fk in
        let tail = step (b ++ j ∷ []) does.Drop ∷ block_code c b (y + 1) last in
        let (hs, h1) = apart s (p + 1) (expr_size subject) (expr_code c b (p + 1) subject) (clauses_code c b j z x clauses ++ tail) (expr_length c b (p + 1) subject) h.1 in
        let (hc, h2) = apart s x (clauses_size clauses) (clauses_code c b j z x clauses) tail (clauses_length c b j z x clauses) h1 in
        let over : z ≡ q = omega arith in (
          x,
          y,
          k,
          h.0,
          expr_stands b subject k (p + 1) x fk hs refl,
          subst (λ n. ClausesAt s b k clauses n x y) over (clauses_stand b k z clauses x y (subst (λ o. are_clauses c o clauses ≡ true) fk fc) (subst (λ i. Lies s x (clauses_code c b i z x clauses)) jk hc) refl),
          subst (λ i. Is s (b ++ i ∷ []) y does.Drop) jk h2.0,
          block_stands b last (y + 1) q fl h2.1 (sym over),
        )
    stmt_stands b (to.return at value) p q f h eq =
        let x : ℕ = p + 1 + expr_size value in
        let (hv, hr) = apart s (p + 1) (expr_size value) (expr_code c b (p + 1) value) (step (b ++ left_kind c.gives ∷ []) does.Return ∷ []) (expr_length c b (p + 1) value) h.1 in
        (x, h.0, expr_stands b value (left_kind c.gives) (p + 1) x (has_it (left_kind c.gives) (kind_of c value) f) hv refl, hr.0, omega arith)

    other_stands : (b : List Kind) (last : Other) (y q : ℕ) → is_other c last ≡ true → Lies s y (other_code c b y last) → q ≡ y + other_size last → OtherAt s b last y (else_place last y) q
    other_stands b to.no_other y q f h eq = (omega arith, omega arith)
    other_stands b (to.other body) y q f h eq =
        let over : y + 1 + block_size body ≡ q = omega arith in
        (subst (λ n. Is s b y (does.Jump n)) over h.0, refl, block_stands b body (y + 1) q f h.1 (sym over))

    clauses_stand : (b : List Kind) (k : Kind) (z : ℕ) (clauses : Clauses) (p q : ℕ) → are_clauses c (Some k) clauses ≡ true → Lies s p (clauses_code c b k z p clauses) → q ≡ p + clauses_size clauses → ClausesAt s b k clauses z p q
    clauses_stand b k z to.no_clause p q f h eq = omega arith
    clauses_stand b k z (to.clause labels body rest) p q f h eq =
        let (f1, fr) = and_both (list_all (is_label c (Some k)) labels && is_block c body) (are_clauses c (Some k) rest) f in
        let (fl, fb) = and_both (list_all (is_label c (Some k)) labels) (is_block c body) f1 in
        let x : ℕ = p + labels_size labels in
        let y : ℕ = past 2 x + block_size body in
        let last = step b (does.Jump z) ∷ clauses_code c b k z (y + 1) rest in
        let tail = step (b ++ k ∷ []) (does.Jump (y + 1)) ∷ step (b ++ k ∷ []) does.Drop ∷ (block_code c b (past 2 x) body ++ last) in
        let (hl, h1) = apart s p (labels_size labels) (labels_code c b k (x + 1) p labels) tail (labels_length c b k (x + 1) p labels) h in
        let (hb, h2) = apart s (past 2 x) (block_size body) (block_code c b (past 2 x) body) last (block_length c b (past 2 x) body) h1.1.1 in (
          x,
          y,
          labels_stand b k (x + 1) labels p x fl hl refl,
          h1.0,
          h1.1.0,
          block_stands b body (past 2 x) y fb hb refl,
          h2.0,
          clauses_stand b k z rest (y + 1) q fr h2.1 (omega arith),
        )
