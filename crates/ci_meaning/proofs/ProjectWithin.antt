-- The functions of a project have only texts that a STRING holds, and only cells that a request names.
use Rattle.std.proofs.Common.{◌≡◌, ℕ, ◌+◌, ◌<◌, ◌≤◌, Bool, true, false, List, [], ◌∷◌, length, zero, suc, Option, Some, None, refl, sym, ap, ◌∙◌, subst, arith}
use Rattle.std.specs.Prelude.{◌&&◌, nat_le, if◌then◌else◌, is_some, option_map, slice_get, All, unwrap_or, map, take, drop}
use Rattle.std.specs.List.{list_all}
use Rattle.std.proofs.lemmas.Bool.{true≢false, leb-true}
use Rattle.std.proofs.lemmas.List.Elements.{All-nil, All-cons, All-head, All-tail}
use Rattle.std.proofs.lemmas.Option.{slice_get_within, slice_get-map}
use Rattle.ci_base.specs.declared.bounds.TheConstants.{MOST_FUNCTIONS, MOST_PARAMETERS, MOST_LOCALS, MOST_CELLS, MOST_TEXT_BYTES}
use Rattle.ci_base.specs.declared.value.Kind.{Kind}
use Rattle.ci_base.specs.declared.value.Kind.TheVariants.{Int, Str}
use Rattle.ci_tree.specs.Bound as to
use Rattle.ci_tree.specs.Bound.{Scalar, Expr, Call, Links, Exprs, Label, Stmt, Other, Clauses, Block, Function, Cell, Param, Project}
use Rattle.ci_tree.specs.BoundTests.{expr_passes, call_passes, links_pass, exprs_pass, label_passes, stmt_passes, other_passes, clauses_pass, block_passes, texts_fit}
use Rattle.ci_tree.specs.LeftOut.{Heads}
use Rattle.ci_tree.specs.Rooms.{room}
use Rattle.ci_tree.specs.SeenBound.{array_of, function_of, heads_of, project_of}
use Rattle.ci_tree.specs.declared.bound.Array as code_array
use Rattle.ci_tree.specs.declared.bound.Function as code_function
use Rattle.ci_tree.specs.declared.bound.ProjectParts as code_project
use Rattle.ci_base.specs.declared.bounds.TheConstants.{MOST_ROOM}
use Rattle.ci_tree.specs.Operators.{same_kind, has_kind, Joins, sums, compares, counts, joins, joined, formed}
use Rattle.ci_tree.specs.Projects.{IsProject}
use Rattle.ci_tree.specs.Sound.{Context, scalar_kind, array_kind, signature, takes_of, kind_of, links_kind, call_kind, is_call, have_kinds, have_one_kind, is_label, is_stmt, is_other, are_clauses, is_block, is_default, are_last, context_of, is_function, is_cell, is_array, is_global, is_sound}
use Rattle.ci_meaning.specs.Configuration.{no_function, function_at}
use Rattle.ci_meaning.specs.Within.{scalar_within, expr_within, call_within, links_within, exprs_within, labels_within, stmt_within, other_within, clauses_within, block_within, ProjectWithin}

left_true : (a b : Bool) → (a && b) ≡ true → a ≡ true
left_true true b h = refl
left_true false b h = h

right_true : (a b : Bool) → (a && b) ≡ true → b ≡ true
right_true true b h = h
right_true false b h = absurd (true≢false (sym h))

-- There is a kind

has_some : (kind : Kind) (o : Option Kind) → has_kind kind o ≡ true → is_some o ≡ true
has_some kind None h = h
has_some kind (Some k) h = refl

one_left : (a b : Option Kind) → have_one_kind a b ≡ true → is_some a ≡ true
one_left None b h = h
one_left (Some k) b h = refl

one_right : (a b : Option Kind) → have_one_kind a b ≡ true → is_some b ≡ true
one_right None b h = absurd (true≢false (sym h))
one_right (Some k) b h = has_some k b h

if_some : (b : Bool) (o : Option Kind) → is_some (if b then o else None) ≡ true → b ≡ true
if_some true o h = refl
if_some false o h = h

joined_left : (j : Joins) (a b : Option Kind) → is_some (joined j a b) ≡ true → is_some a ≡ true
joined_left sums None b h = h
joined_left compares None b h = h
joined_left counts None b h = h
joined_left j (Some k) b h = refl

joined_right : (j : Joins) (a b : Option Kind) → is_some (joined j a b) ≡ true → is_some b ≡ true
joined_right j a (Some k) h = refl
joined_right sums None None h = h
joined_right sums (Some Int) None h = h
joined_right sums (Some Str) None h = h
joined_right compares None None h = h
joined_right compares (Some Int) None h = h
joined_right compares (Some Str) None h = h
joined_right counts None None h = h
joined_right counts (Some Int) None h = h
joined_right counts (Some Str) None h = h

-- Cells

cell_at : (cells : List Cell) (n : ℕ) (o : Option Cell) → slice_get cells n ≡ o → is_some (option_map (λ (x : Cell). x.kind) o) ≡ true → n < length cells
cell_at cells n None e h = absurd (true≢false (sym h))
cell_at cells n (Some x) e h = slice_get_within cells n x e

-- the project has few cells
abbrev Few : Context → Type 0
Few c = length c.project.cells ≤ MOST_CELLS

scalar_in : (c : Context) → Few c → (of : Scalar) → is_some (scalar_kind c of) ≡ true → scalar_within of
scalar_in c few (to.local i) h = tt
scalar_in c few (to.cell n) h = let here = cell_at c.project.cells n (slice_get c.project.cells n) refl h in omega (arith, here, few)

mutual
  expr_in : (c : Context) → Few c → (e : Expr) → is_some (kind_of c e) ≡ true → expr_passes texts_fit e ≡ true → expr_within e
  expr_in c few (to.number value) h t = tt
  expr_in c few (to.literal text) h t = leb-true (length text) MOST_TEXT_BYTES t
  expr_in c few (to.scalar of) h t = scalar_in c few of h
  expr_in c few (to.element a index) h t = expr_in c few index (has_some Int (kind_of c index) (if_some (has_kind Int (kind_of c index)) (array_kind c a) h)) t
  expr_in c few (to.called what) h t = call_in c few what (if_some (is_call c what) (call_kind c what) h) t
  expr_in c few (to.unary minus operand) h t = expr_in c few operand (has_some Int (kind_of c operand) (if_some (has_kind Int (kind_of c operand)) (Some Int) h)) t
  expr_in c few (to.chain first rest) h t =
      let links = links_in c few rest (kind_of c first) h (right_true (expr_passes texts_fit first) (links_pass texts_fit rest) t) in
      (expr_in c few first links.0 (left_true (expr_passes texts_fit first) (links_pass texts_fit rest) t), links.1)

  call_in : (c : Context) → Few c → (what : Call) → is_call c what ≡ true → call_passes texts_fit what ≡ true → call_within what
  call_in c few (to.call callee given args) h t =
      exprs_in c few args (takes_of (signature c callee)) (right_true (is_some (signature c callee)) (have_kinds c (takes_of (signature c callee)) args) h) t
  call_in c few (to.que_read queue sort text mode) h t =
      let three = left_true (has_kind Int (kind_of c queue) && has_kind Int (scalar_kind c sort) && has_kind Str (scalar_kind c text)) (has_kind Int (kind_of c mode)) h in
      let two = left_true (has_kind Int (kind_of c queue) && has_kind Int (scalar_kind c sort)) (has_kind Str (scalar_kind c text)) three in (
        expr_in c few queue (has_some Int (kind_of c queue) (left_true (has_kind Int (kind_of c queue)) (has_kind Int (scalar_kind c sort)) two)) (left_true (expr_passes texts_fit queue) (expr_passes texts_fit mode) t),
        scalar_in c few sort (has_some Int (scalar_kind c sort) (right_true (has_kind Int (kind_of c queue)) (has_kind Int (scalar_kind c sort)) two)),
        scalar_in c few text (has_some Str (scalar_kind c text) (right_true (has_kind Int (kind_of c queue) && has_kind Int (scalar_kind c sort)) (has_kind Str (scalar_kind c text)) three)),
        expr_in c few mode (has_some Int (kind_of c mode) (right_true (has_kind Int (kind_of c queue) && has_kind Int (scalar_kind c sort) && has_kind Str (scalar_kind c text)) (has_kind Int (kind_of c mode)) h)) (right_true (expr_passes texts_fit queue) (expr_passes texts_fit mode) t),
      )

  links_in : (c : Context) → Few c → (rest : Links) (left : Option Kind) → is_some (links_kind c left rest) ≡ true → links_pass texts_fit rest ≡ true → (is_some left ≡ true) × links_within rest
  links_in c few to.no_link left h t = (h, tt)
  links_in c few (to.operand op right rest) left h t =
      let behind = links_in c few rest (joined (joins op) left (kind_of c right)) h (right_true (expr_passes texts_fit right) (links_pass texts_fit rest) t) in (
        joined_left (joins op) left (kind_of c right) behind.0,
        (expr_in c few right (joined_right (joins op) left (kind_of c right) behind.0) (left_true (expr_passes texts_fit right) (links_pass texts_fit rest) t), behind.1),
      )
  links_in c few (to.hashes count rest) left h t =
      let behind = links_in c few rest (formed left) h t in
      (has_some Int left (if_some (has_kind Int left) (Some Str) behind.0), behind.1)

  exprs_in : (c : Context) → Few c → (args : Exprs) (kinds : List Kind) → have_kinds c kinds args ≡ true → exprs_pass texts_fit args ≡ true → exprs_within args
  exprs_in c few to.no_expr kinds h t = tt
  exprs_in c few (to.more first rest) [] h t = absurd (true≢false (sym h))
  exprs_in c few (to.more first rest) (kind ∷ kinds) h t = (
    expr_in c few first (has_some kind (kind_of c first) (left_true (has_kind kind (kind_of c first)) (have_kinds c kinds rest) h)) (left_true (expr_passes texts_fit first) (exprs_pass texts_fit rest) t),
    exprs_in c few rest kinds (right_true (has_kind kind (kind_of c first)) (have_kinds c kinds rest) h) (right_true (expr_passes texts_fit first) (exprs_pass texts_fit rest) t),
  )

-- an expression of this kind
part_in : (c : Context) → Few c → (kind : Kind) (e : Expr) → has_kind kind (kind_of c e) ≡ true → expr_passes texts_fit e ≡ true → expr_within e
part_in c few kind e h t = expr_in c few e (has_some kind (kind_of c e) h) t

labels_in : (c : Context) → Few c → (subject : Option Kind) (labels : List Label) → list_all (is_label c subject) labels ≡ true → list_all (label_passes texts_fit) labels ≡ true → labels_within labels
labels_in c few subject [] h t = tt
labels_in c few subject (to.one e ∷ labels) h t = (
  expr_in c few e (one_right subject (kind_of c e) (left_true (have_one_kind subject (kind_of c e)) (list_all (is_label c subject) labels) h)) (left_true (expr_passes texts_fit e) (list_all (label_passes texts_fit) labels) t),
  labels_in c few subject labels (right_true (have_one_kind subject (kind_of c e)) (list_all (is_label c subject) labels) h) (right_true (expr_passes texts_fit e) (list_all (label_passes texts_fit) labels) t),
)
labels_in c few subject (to.range e f ∷ labels) h t =
    let both = left_true (have_one_kind subject (kind_of c e) && have_one_kind subject (kind_of c f)) (list_all (is_label c subject) labels) h in
    let texts = left_true (expr_passes texts_fit e && expr_passes texts_fit f) (list_all (label_passes texts_fit) labels) t in (
      expr_in c few e (one_right subject (kind_of c e) (left_true (have_one_kind subject (kind_of c e)) (have_one_kind subject (kind_of c f)) both)) (left_true (expr_passes texts_fit e) (expr_passes texts_fit f) texts),
      expr_in c few f (one_right subject (kind_of c f) (right_true (have_one_kind subject (kind_of c e)) (have_one_kind subject (kind_of c f)) both)) (right_true (expr_passes texts_fit e) (expr_passes texts_fit f) texts),
      labels_in c few subject labels (right_true (have_one_kind subject (kind_of c e) && have_one_kind subject (kind_of c f)) (list_all (is_label c subject) labels) h) (right_true (expr_passes texts_fit e && expr_passes texts_fit f) (list_all (label_passes texts_fit) labels) t),
    )
labels_in c few subject (to.compared r e ∷ labels) h t = (
  expr_in c few e (one_right subject (kind_of c e) (left_true (have_one_kind subject (kind_of c e)) (list_all (is_label c subject) labels) h)) (left_true (expr_passes texts_fit e) (list_all (label_passes texts_fit) labels) t),
  labels_in c few subject labels (right_true (have_one_kind subject (kind_of c e)) (list_all (is_label c subject) labels) h) (right_true (expr_passes texts_fit e) (list_all (label_passes texts_fit) labels) t),
)

mutual
  stmt_in : (c : Context) → Few c → (s : Stmt) → is_stmt c s ≡ true → stmt_passes texts_fit s ≡ true → stmt_within s
  stmt_in c few (to.assign at target value) h t =
      (scalar_in c few target (one_left (scalar_kind c target) (kind_of c value) h), expr_in c few value (one_right (scalar_kind c target) (kind_of c value) h) t)
  stmt_in c few (to.assign_element at a index value) h t = (
    part_in c few Int index (left_true (has_kind Int (kind_of c index)) (have_one_kind (array_kind c a) (kind_of c value)) h) (left_true (expr_passes texts_fit index) (expr_passes texts_fit value) t),
    expr_in c few value (one_right (array_kind c a) (kind_of c value) (right_true (has_kind Int (kind_of c index)) (have_one_kind (array_kind c a) (kind_of c value)) h)) (right_true (expr_passes texts_fit index) (expr_passes texts_fit value) t),
  )
  stmt_in c few (to.call_of at what) h t = call_in c few what h t
  stmt_in c few (to.choose at test body last) h t =
      let kinds = left_true (has_kind Int (kind_of c test) && is_block c body) (is_other c last) h in
      let texts = left_true (expr_passes texts_fit test && block_passes texts_fit body) (other_passes texts_fit last) t in (
        part_in c few Int test (left_true (has_kind Int (kind_of c test)) (is_block c body) kinds) (left_true (expr_passes texts_fit test) (block_passes texts_fit body) texts),
        block_in c few body (right_true (has_kind Int (kind_of c test)) (is_block c body) kinds) (right_true (expr_passes texts_fit test) (block_passes texts_fit body) texts),
        other_in c few last (right_true (has_kind Int (kind_of c test) && is_block c body) (is_other c last) h) (right_true (expr_passes texts_fit test && block_passes texts_fit body) (other_passes texts_fit last) t),
      )
  stmt_in c few (to.while at test body) h t = (
    part_in c few Int test (left_true (has_kind Int (kind_of c test)) (is_block c body) h) (left_true (expr_passes texts_fit test) (block_passes texts_fit body) t),
    block_in c few body (right_true (has_kind Int (kind_of c test)) (is_block c body) h) (right_true (expr_passes texts_fit test) (block_passes texts_fit body) t),
  )
  stmt_in c few (to.for at counter first last body) h t =
      let three = left_true (has_kind Int (scalar_kind c counter) && has_kind Int (kind_of c first) && has_kind Int (kind_of c last)) (is_block c body) h in
      let two = left_true (has_kind Int (scalar_kind c counter) && has_kind Int (kind_of c first)) (has_kind Int (kind_of c last)) three in
      let texts = left_true (expr_passes texts_fit first && expr_passes texts_fit last) (block_passes texts_fit body) t in (
        scalar_in c few counter (has_some Int (scalar_kind c counter) (left_true (has_kind Int (scalar_kind c counter)) (has_kind Int (kind_of c first)) two)),
        part_in c few Int first (right_true (has_kind Int (scalar_kind c counter)) (has_kind Int (kind_of c first)) two) (left_true (expr_passes texts_fit first) (expr_passes texts_fit last) texts),
        part_in c few Int last (right_true (has_kind Int (scalar_kind c counter) && has_kind Int (kind_of c first)) (has_kind Int (kind_of c last)) three) (right_true (expr_passes texts_fit first) (expr_passes texts_fit last) texts),
        block_in c few body (right_true (has_kind Int (scalar_kind c counter) && has_kind Int (kind_of c first) && has_kind Int (kind_of c last)) (is_block c body) h) (right_true (expr_passes texts_fit first && expr_passes texts_fit last) (block_passes texts_fit body) t),
      )
  stmt_in c few (to.select at subject clauses last) h t =
      let two = left_true (is_some (kind_of c subject) && are_clauses c (kind_of c subject) clauses) (is_block c last) h in
      let texts = left_true (expr_passes texts_fit subject && clauses_pass texts_fit clauses) (block_passes texts_fit last) t in (
        expr_in c few subject (left_true (is_some (kind_of c subject)) (are_clauses c (kind_of c subject) clauses) two) (left_true (expr_passes texts_fit subject) (clauses_pass texts_fit clauses) texts),
        clauses_in c few (kind_of c subject) clauses (right_true (is_some (kind_of c subject)) (are_clauses c (kind_of c subject) clauses) two) (right_true (expr_passes texts_fit subject) (clauses_pass texts_fit clauses) texts),
        block_in c few last (right_true (is_some (kind_of c subject) && are_clauses c (kind_of c subject) clauses) (is_block c last) h) (right_true (expr_passes texts_fit subject && clauses_pass texts_fit clauses) (block_passes texts_fit last) t),
      )
  stmt_in c few (to.return at value) h t = part_in c few (unwrap_or c.gives Int) value h t

  other_in : (c : Context) → Few c → (last : Other) → is_other c last ≡ true → other_passes texts_fit last ≡ true → other_within last
  other_in c few to.no_other h t = tt
  other_in c few (to.other body) h t = block_in c few body h t

  clauses_in : (c : Context) → Few c → (subject : Option Kind) (clauses : Clauses) → are_clauses c subject clauses ≡ true → clauses_pass texts_fit clauses ≡ true → clauses_within clauses
  clauses_in c few subject to.no_clause h t = tt
  clauses_in c few subject (to.clause labels body rest) h t =
      let two = left_true (list_all (is_label c subject) labels && is_block c body) (are_clauses c subject rest) h in
      let texts = left_true (list_all (label_passes texts_fit) labels && block_passes texts_fit body) (clauses_pass texts_fit rest) t in (
        labels_in c few subject labels (left_true (list_all (is_label c subject) labels) (is_block c body) two) (left_true (list_all (label_passes texts_fit) labels) (block_passes texts_fit body) texts),
        block_in c few body (right_true (list_all (is_label c subject) labels) (is_block c body) two) (right_true (list_all (label_passes texts_fit) labels) (block_passes texts_fit body) texts),
        clauses_in c few subject rest (right_true (list_all (is_label c subject) labels && is_block c body) (are_clauses c subject rest) h) (right_true (list_all (label_passes texts_fit) labels && block_passes texts_fit body) (clauses_pass texts_fit rest) t),
      )

  block_in : (c : Context) → Few c → (body : Block) → is_block c body ≡ true → block_passes texts_fit body ≡ true → block_within body
  block_in c few to.done h t = tt
  block_in c few (to.then first rest) h t = (
    stmt_in c few first (left_true (is_stmt c first) (is_block c rest) h) (left_true (stmt_passes texts_fit first) (block_passes texts_fit rest) t),
    block_in c few rest (right_true (is_stmt c first) (is_block c rest) h) (right_true (stmt_passes texts_fit first) (block_passes texts_fit rest) t),
  )

abbrev HasTexts : Function → Type 0
HasTexts f = block_passes texts_fit f.body ≡ true

abbrev BodyWithin : Function → Type 0
BodyWithin f = block_within f.body

functions_in : (p : Project) → length p.cells ≤ MOST_CELLS → (fs : List Function) → list_all (is_function p) fs ≡ true → All (λ (f : Function). block_passes texts_fit f.body ≡ true) fs → All (λ (f : Function). block_within f.body) fs
functions_in p few [] h t = All-nil BodyWithin
functions_in p few (f ∷ fs) h t =
    let sound = left_true (is_function p f) (list_all (is_function p) fs) h in
    let body = right_true (nat_le (length f.params) MOST_PARAMETERS && nat_le (length f.params + length f.others) MOST_LOCALS && list_all (λ (q : Param). is_default q.kind q.first) f.params && are_last f.params) (is_block (context_of p f) f.body) sound in
    All-cons BodyWithin f fs (block_in (context_of p f) few f.body body (All-head HasTexts f fs t))
    (functions_in p few fs (right_true (is_function p f) (list_all (is_function p) fs) h) (All-tail HasTexts f fs t))

-- three of the rules of a project
sound_rules : (p : Project) → is_sound p ≡ true → (length p.cells ≤ MOST_CELLS) × (list_all (is_function p) p.functions ≡ true) × (list_all (is_array p) p.arrays ≡ true)
sound_rules p h =
    let a = nat_le (length p.functions) MOST_FUNCTIONS in
    let b = nat_le (length p.cells) MOST_CELLS in
    let f = list_all (is_function p) p.functions in
    let x = list_all is_cell p.cells in
    let y = list_all (is_array p) p.arrays in
    let z = list_all (is_global p) p.globals in
    let arrays = left_true (a && b && f && x && y) z h in
    let functions = left_true (a && b && f) x (left_true (a && b && f && x) y arrays) in
    (leb-true (length p.cells) MOST_CELLS (right_true a b (left_true (a && b) f functions)), right_true (a && b) f functions, right_true (a && b && f && x) y arrays)

pub project_within : (p : Project) → IsProject p → ProjectWithin p
project_within p h = let rules = sound_rules p h.sound in functions_in p rules.0 p.functions rules.1 h.texts

-- Members of a project

array_sound : (p : Project) (xs : List code_array.Array) (n : ℕ) (x : code_array.Array) → list_all (is_array p) (map array_of xs) ≡ true → slice_get xs n ≡ Some x → is_array p (array_of x) ≡ true
array_sound p [] n x h e = absurd (cc e)
array_sound p (y ∷ ys) zero x h e =
    let same : y ≡ x = cc e in
    subst (λ (z : code_array.Array). is_array p (array_of z) ≡ true) same (left_true (is_array p (array_of y)) (list_all (is_array p) (map array_of ys)) h)
array_sound p (y ∷ ys) (suc n) x h e = array_sound p ys n x (right_true (is_array p (array_of y)) (list_all (is_array p) (map array_of ys)) h) e

-- an array ends among the cells
pub array_within : (parts : code_project.ProjectParts) → IsProject (project_of parts) → (n : ℕ) (x : code_array.Array) → slice_get parts.arrays n ≡ Some x → x.first + x.length ≤ MOST_CELLS
array_within parts h n x e =
    let p = project_of parts in
    let rules = sound_rules p h.sound in
    let sound = array_sound p parts.arrays n x rules.2 e in
    let cells = list_all (λ (c : Cell). same_kind x.kind c.kind) (take x.length (drop x.first p.cells)) in
    let ends = right_true (nat_le 1 x.length) (nat_le (x.first + x.length) (length p.cells)) (left_true (nat_le 1 x.length && nat_le (x.first + x.length) (length p.cells)) cells sound) in
    omega (arith, leb-true (x.first + x.length) (length p.cells) ends, rules.0)

abbrev IsSmall : Function → Type 0
IsSmall f = room f ≤ MOST_ROOM

small_at : (heads : Heads) (fs : List code_function.Function) (n : ℕ) (f : code_function.Function) → All (λ (g : Function). room g ≤ MOST_ROOM) (map (function_of heads) fs) → slice_get fs n ≡ Some f → room (function_of heads f) ≤ MOST_ROOM
small_at heads [] n f h e = absurd (cc e)
small_at heads (g ∷ gs) zero f h e =
    let same : g ≡ f = cc e in
    subst (λ (x : code_function.Function). room (function_of heads x) ≤ MOST_ROOM) same (All-head IsSmall (function_of heads g) (map (function_of heads) gs) h)
small_at heads (g ∷ gs) (suc n) f h e = small_at heads gs n f (All-tail IsSmall (function_of heads g) (map (function_of heads) gs) h) e

-- a function has a small room
pub room_small : (parts : code_project.ProjectParts) → IsProject (project_of parts) → (n : ℕ) (f : code_function.Function) → slice_get parts.functions n ≡ Some f → room (function_of (heads_of parts.functions) f) ≤ MOST_ROOM
room_small parts h n f e = small_at (heads_of parts.functions) parts.functions n f h.rooms e

-- a function that is there, and one that isn't
pub function_there : (parts : code_project.ProjectParts) (n : ℕ) (f : code_function.Function) → slice_get parts.functions n ≡ Some f → function_at (project_of parts) n ≡ function_of (heads_of parts.functions) f
function_there parts n f e = ap (λ (o : Option Function). unwrap_or o no_function) (slice_get-map (function_of (heads_of parts.functions)) parts.functions n ∙ ap (λ (o : Option code_function.Function). option_map (function_of (heads_of parts.functions)) o) e)

pub function_missing : (parts : code_project.ProjectParts) (n : ℕ) → slice_get parts.functions n ≡ None → function_at (project_of parts) n ≡ no_function
function_missing parts n e = ap (λ (o : Option Function). unwrap_or o no_function) (slice_get-map (function_of (heads_of parts.functions)) parts.functions n ∙ ap (λ (o : Option code_function.Function). option_map (function_of (heads_of parts.functions)) o) e)
