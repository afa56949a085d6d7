-- A body without a fault is sound where its names are replaced.
use Rattle.std.specs.Prelude.{◌≡◌, refl, ℕ, Bool, true, false, not, ◌&&◌, if◌then◌else◌, List, [], ◌∷◌, ◌++◌, length, map, Option, Some, None, is_some, unwrap_or, slice_get}
use Rattle.std.specs.List.{list_all}
use Rattle.std.proofs.Common.{sym, ap, ap₂, ◌∙◌}
use Rattle.std.proofs.lemmas.Bool.{true≢false}
use Rattle.std.proofs.lemmas.List.{map-append, append_assoc, length-map}
use Rattle.ci_base.specs.declared.value.Kind.{Kind}
use Rattle.ci_base.specs.declared.value.Kind.TheVariants.{Int, Str}
use Rattle.ci_tree.specs.Tree as from
use Rattle.ci_tree.specs.Bound as to
use Rattle.ci_tree.specs.Operators.{has_kind}
use Rattle.ci_tree.specs.Sound as sound
use Rattle.ci_tree.specs.Sound.{Context, scalar_kind, array_kind, have_one_kind, is_label, is_call, is_block, is_other, are_clauses}
use Rattle.ci_names.specs.declared.fault.BindKind.{BindKind}
use Rattle.ci_names.specs.declared.fault.BindKind.TheVariants as faults
use Rattle.ci_names.specs.Fault.{Fault}
use Rattle.ci_names.specs.Given.{Called}
use Rattle.ci_names.specs.Declarations.{Function, Declared, kind_of_type, heading_of}
use Rattle.ci_names.specs.Scopes.{Scope, Local, with_locals, declared_local, locals_in, locals_in_other, locals_in_clauses, locals_in_block, Meaning, meaning, callee}
use Rattle.ci_names.specs.Kinds.{plain_kind, element_kind, takes_of, is_count, kind_of, are_taken}
use Rattle.ci_names.specs.Expressions.{broken, differ, start_of, wants_kind, called_name, argument_count, expr_faults, args_faults}
use Rattle.ci_names.specs.Statements.{type_faults, local_name, maybe, part_faults, locals_faults, target, assigned, compared, label_faults, labels_faults, return_faults, stmt_faults, other_faults, clauses_faults, block_faults}
use Rattle.ci_names.specs.Binding.{scalar_of, array_of, callee_of, heads_in, called_with, bound_expr, bound_args, bound_call, set_before, locals_before, bound_assign, bound_label, returned, bound_before, bound_other, bound_last, bound_clauses, bound_block, bound_declared}
use Rattle.ci_names.proofs.Free.{is_free, free_append, wanted, expr_free, args_free}
use Rattle.ci_names.proofs.Leads.{left_true, right_true, both_true, Leads, has_leads, Fits, IsThere, plain_kept, element_kept, expr_kept, args_kept, read_kept, call_kept, is_right}
use Rattle.ci_names.proofs.Meant.{kinds, Stands, slice_get_seam, fits}

pub free_left : (fs gs : List Fault) → is_free (fs ++ gs) ≡ true → is_free fs ≡ true
free_left fs gs h = left_true (is_free fs) (is_free gs) (sym (free_append fs gs) ∙ h)

pub free_right : (fs gs : List Fault) → is_free (fs ++ gs) ≡ true → is_free gs ≡ true
free_right fs gs h = right_true (is_free fs) (is_free gs) (sym (free_append fs gs) ∙ h)

-- a rule that finds no fault isn't broken
pub unbroken : (b : Bool) (s : Scope) (at : ℕ) (kind : BindKind) → is_free (broken b s at kind) ≡ true → b ≡ false
unbroken false s at kind h = refl
unbroken true s at kind h = absurd (true≢false (sym h))

-- a part of a function stands in this context: behind its locals these are declared, and then those of this kind
pub record Stood (d : Declared) (c : Context) (s : Scope) (ls : List Local) (rest : List Kind) : Type 0 where
  pub declared : s.declared ≡ d
  pub project : c.project ≡ bound_declared d
  pub gives : c.gives ≡ s.gives
  pub locals : c.locals ≡ kinds s.locals ++ (kinds ls ++ rest)
  pub defaults : (n : ℕ) (f : Function) → slice_get d.functions n ≡ Some f → list_all is_right (heading_of f).takes ≡ true

stands : (d : Declared) (c : Context) (s : Scope) (ls : List Local) (rest : List Kind) → Stood d c s ls rest → Stands d c s
stands d c s ls rest h = record { declared = h.declared; project = h.project; gives = h.gives; rest = kinds ls ++ rest; locals = h.locals; defaults = h.defaults }

pub fitting : (d : Declared) (c : Context) (s : Scope) (ls : List Local) (rest : List Kind) → Stood d c s ls rest → Fits c s
fitting d c s ls rest h = fits d c s (stands d c s ls rest h)

-- kinds of two lists
kinds_append : (xs ys : List Local) (rest : List Kind) → kinds (xs ++ ys) ++ rest ≡ kinds xs ++ (kinds ys ++ rest)
kinds_append xs ys rest = ap (λ ks. ks ++ rest) (map-append (λ (l : Local). l.kind) xs ys) ∙ append_assoc (kinds xs) (kinds ys) rest

-- before the second of two parts
pub first_part : (d : Declared) (c : Context) (s : Scope) (xs ys : List Local) (rest : List Kind) → Stood d c s (xs ++ ys) rest → Stood d c s xs (kinds ys ++ rest)
first_part d c s xs ys rest h = record { declared = h.declared; project = h.project; gives = h.gives; locals = h.locals ∙ ap (λ ks. kinds s.locals ++ ks) (kinds_append xs ys rest); defaults = h.defaults }

-- behind the first of two parts
pub second_part : (d : Declared) (c : Context) (s : Scope) (xs ys : List Local) (rest : List Kind) → Stood d c s (xs ++ ys) rest → Stood d c (with_locals s xs) ys rest
second_part d c s xs ys rest h = record {
  declared = h.declared;
  project = h.project;
  gives = h.gives;
  locals = h.locals ∙ ap (λ ks. kinds s.locals ++ ks) (kinds_append xs ys rest) ∙ sym (kinds_append s.locals xs (kinds ys ++ rest));
  defaults = h.defaults;
}

-- Parts

part_kind : (s : Scope) (want : Kind) (e : from.Expr) → is_free (part_faults s want e) ≡ true → has_kind want (kind_of s e) ≡ true
part_kind s want e h =
    wanted s (start_of e) want (kind_of s e)
    ∙ both_true (is_free (wants_kind s want e)) (is_some (kind_of s e)) (free_left (wants_kind s want e) (expr_faults s e) h) (expr_free s e ∙ free_right (wants_kind s want e) (expr_faults s e) h)

-- the part has the kind where names are replaced
part_sound : (d : Declared) (c : Context) (s : Scope) (ls : List Local) (rest : List Kind) → Stood d c s ls rest → (want : Kind) (e : from.Expr) → is_free (part_faults s want e) ≡ true → has_kind want (sound.kind_of c (bound_expr s e)) ≡ true
part_sound d c s ls rest h want e free = has_leads want (kind_of s e) (sound.kind_of c (bound_expr s e)) (expr_kept c s (fitting d c s ls rest h) e) (part_kind s want e free)

have_leads : (a a' b b' : Option Kind) → Leads a a' → Leads b b' → have_one_kind a b ≡ true → have_one_kind a' b' ≡ true
have_leads None a' b b' h i e = absurd (true≢false (sym e))
have_leads (Some kind) a' b b' h i e = ap (λ x. have_one_kind x b') (h kind refl) ∙ has_leads kind b b' i e

-- two parts with kinds that don't differ
same_kinds : (a b : Option Kind) → is_some a ≡ true → is_some b ≡ true → differ a b ≡ false → have_one_kind a b ≡ true
same_kinds None b h i e = absurd (true≢false (sym h))
same_kinds (Some x) None h i e = absurd (true≢false (sym i))
same_kinds (Some Int) (Some Int) h i e = refl
same_kinds (Some Int) (Some Str) h i e = absurd (true≢false e)
same_kinds (Some Str) (Some Int) h i e = absurd (true≢false e)
same_kinds (Some Str) (Some Str) h i e = refl

some_if : (b : Bool) (a : Option Kind) → is_some (if b then a else None) ≡ true → (b ≡ true) × (is_some a ≡ true)
some_if true a h = (refl, h)
some_if false a h = absurd (true≢false (sym h))

-- Declarations

next_local : (c : Context) (s : Scope) (kind : Kind) (rest : List Kind) → c.locals ≡ kinds s.locals ++ (kind ∷ rest) → slice_get c.locals (length s.locals) ≡ Some kind
next_local c s kind rest h = ap₂ slice_get h (sym (length-map s.locals (λ (l : Local). l.kind))) ∙ slice_get_seam (kinds s.locals) rest kind

set_sound : (c : Context) (s : Scope) (kind : Kind) (at : ℕ) → Fits c s → slice_get c.locals (length s.locals) ≡ Some kind → (o : Option from.Expr) → is_free (maybe (part_faults s kind) o) ≡ true →
    (block : to.Block) → is_block c block ≡ true → is_block c (set_before s at o block) ≡ true
set_sound c s kind at f h None free block b = b
set_sound c s kind at f h (Some e) free block b =
    both_true (have_one_kind (slice_get c.locals (length s.locals)) (sound.kind_of c (bound_expr s e))) (is_block c block)
    (ap (λ x. have_one_kind x (sound.kind_of c (bound_expr s e))) h ∙ has_leads kind (kind_of s e) (sound.kind_of c (bound_expr s e)) (expr_kept c s f e) (part_kind s kind e free)) b

locals_sound : (d : Declared) (c : Context) (s : Scope) (kind : Kind) (ls : List from.Local) (rest : List Kind) → Stood d c s (map (declared_local kind) ls) rest → is_free (locals_faults s kind ls) ≡ true →
    (block : to.Block) → is_block c block ≡ true → is_block c (locals_before s kind ls block) ≡ true
locals_sound d c s kind [] rest h free block b = b
locals_sound d c s kind (l ∷ ls) rest h free block b =
    let next = with_locals s (declared_local kind l ∷ []) in
    let front = free_left (local_name s l.at l.name ++ maybe (part_faults s kind) l.value) (locals_faults next kind ls) free in
    set_sound c s kind l.at (fitting d c s (map (declared_local kind) (l ∷ ls)) rest h) (next_local c s kind (kinds (map (declared_local kind) ls) ++ rest) h.locals) l.value
    (free_right (local_name s l.at l.name) (maybe (part_faults s kind) l.value) front)
    (locals_before next kind ls block)
    (locals_sound d c next kind ls rest (second_part d c s (declared_local kind l ∷ []) (map (declared_local kind) ls) rest h)
    (free_right (local_name s l.at l.name ++ maybe (part_faults s kind) l.value) (locals_faults next kind ls) free) block b)

-- Assignments and calls

assigned_sound : (c : Context) (s : Scope) → Fits c s → (at : ℕ) (name : List ℕ) (index : Option from.Expr) (equals : ℕ) (value : from.Expr) →
    is_free (expr_faults s (target at name index) ++ assigned s equals (target at name index) value ++ expr_faults s value) ≡ true → sound.is_stmt c (bound_assign s at (meaning s name) index value) ≡ true
assigned_sound c s f at name None equals value free =
    let front = free_left (expr_faults s (target at name None) ++ assigned s equals (target at name None) value) (expr_faults s value) free in
    have_leads (plain_kind (meaning s name)) (scalar_kind c (scalar_of (meaning s name))) (kind_of s value) (sound.kind_of c (bound_expr s value))
    (plain_kept c s f name (meaning s name) refl) (expr_kept c s f value)
    (same_kinds (plain_kind (meaning s name)) (kind_of s value)
    (expr_free s (target at name None) ∙ free_left (expr_faults s (target at name None)) (assigned s equals (target at name None) value) front)
    (expr_free s value ∙ free_right (expr_faults s (target at name None) ++ assigned s equals (target at name None) value) (expr_faults s value) free)
    (unbroken (differ (plain_kind (meaning s name)) (kind_of s value)) s equals faults.KindsDiffer (free_right (expr_faults s (target at name None)) (assigned s equals (target at name None) value) front)))
assigned_sound c s f at name (Some index) equals value free =
    let front = free_left (expr_faults s (target at name (Some index)) ++ assigned s equals (target at name (Some index)) value) (expr_faults s value) free in
    let whole = expr_free s (target at name (Some index)) ∙ free_left (expr_faults s (target at name (Some index))) (assigned s equals (target at name (Some index)) value) front in
    let parts = some_if (has_kind Int (kind_of s index)) (element_kind (meaning s name)) whole in
    let one = same_kinds (kind_of s (target at name (Some index))) (kind_of s value) whole
    (expr_free s value ∙ free_right (expr_faults s (target at name (Some index)) ++ assigned s equals (target at name (Some index)) value) (expr_faults s value) free)
    (unbroken (differ (kind_of s (target at name (Some index))) (kind_of s value)) s equals faults.KindsDiffer (free_right (expr_faults s (target at name (Some index))) (assigned s equals (target at name (Some index)) value) front)) in
    both_true (has_kind Int (sound.kind_of c (bound_expr s index))) (have_one_kind (array_kind c (array_of (meaning s name))) (sound.kind_of c (bound_expr s value)))
    (has_leads Int (kind_of s index) (sound.kind_of c (bound_expr s index)) (expr_kept c s f index) parts.0)
    (have_leads (element_kind (meaning s name)) (array_kind c (array_of (meaning s name))) (kind_of s value) (sound.kind_of c (bound_expr s value))
    (element_kept c s f name (meaning s name) refl) (expr_kept c s f value)
    (ap (λ b. have_one_kind (if b then element_kind (meaning s name) else None) (kind_of s value)) (sym parts.0) ∙ one))

pub not_false : (b : Bool) → not b ≡ false → b ≡ true
not_false true h = refl
not_false false h = absurd (true≢false h)

pub call_sound : (c : Context) (s : Scope) → Fits c s → (at : ℕ) (args : from.Exprs) (m : Meaning) (o : Option Called) → ((called : Called) → o ≡ Some called → IsThere c (heads_in s.declared) called) →
    is_free (called_name s at o m ++ argument_count s at o args ++ args_faults s (takes_of o) args) ≡ true → is_call c (called_with (heads_in s.declared) (callee_of o) (bound_args s args)) ≡ true
call_sound c s f at args m None there free = absurd (true≢false (sym free))
call_sound c s f at args m (Some called) there free =
    let count = not_false (is_count called.heading.takes args) (unbroken (not (is_count called.heading.takes args)) s at faults.ArgumentCount (free_left (argument_count s at (Some called) args) (args_faults s called.heading.takes args) free)) in
    let taken = args_free s called.heading.takes args count ∙ free_right (argument_count s at (Some called) args) (args_faults s called.heading.takes args) free in
    (call_kept c s args called (there called refl) (λ takes. args_kept c s f takes args) (read_kept c s f args) (both_true (is_count called.heading.takes args) (are_taken s called.heading.takes args) count taken)).0

-- Labels

compared_sound : (c : Context) (s : Scope) → Fits c s → (a a' : Option Kind) → is_some a ≡ true → Leads a a' → (value : from.Expr) → is_free (compared s a value) ≡ true → have_one_kind a' (sound.kind_of c (bound_expr s value)) ≡ true
compared_sound c s f a a' is leads value free =
    have_leads a a' (kind_of s value) (sound.kind_of c (bound_expr s value)) leads (expr_kept c s f value)
    (same_kinds a (kind_of s value) is (expr_free s value ∙ free_right (broken (differ a (kind_of s value)) s (start_of value) faults.KindsDiffer) (expr_faults s value) free)
    (unbroken (differ a (kind_of s value)) s (start_of value) faults.KindsDiffer (free_left (broken (differ a (kind_of s value)) s (start_of value) faults.KindsDiffer) (expr_faults s value) free)))

label_sound : (c : Context) (s : Scope) → Fits c s → (a a' : Option Kind) → is_some a ≡ true → Leads a a' → (label : from.Label) → is_free (label_faults s a label) ≡ true → is_label c a' (bound_label s label) ≡ true
label_sound c s f a a' is leads (from.one value) free = compared_sound c s f a a' is leads value free
label_sound c s f a a' is leads (from.range low high) free =
    both_true (have_one_kind a' (sound.kind_of c (bound_expr s low))) (have_one_kind a' (sound.kind_of c (bound_expr s high)))
    (compared_sound c s f a a' is leads low (free_left (compared s a low) (compared s a high) free)) (compared_sound c s f a a' is leads high (free_right (compared s a low) (compared s a high) free))
label_sound c s f a a' is leads (from.compared at relation value) free = compared_sound c s f a a' is leads value free

labels_sound : (c : Context) (s : Scope) → Fits c s → (a a' : Option Kind) → is_some a ≡ true → Leads a a' → (labels : List from.Label) → is_free (labels_faults s a labels) ≡ true → list_all (is_label c a') (map (bound_label s) labels) ≡ true
labels_sound c s f a a' is leads [] free = refl
labels_sound c s f a a' is leads (label ∷ labels) free =
    both_true (is_label c a' (bound_label s label)) (list_all (is_label c a') (map (bound_label s) labels))
    (label_sound c s f a a' is leads label (free_left (label_faults s a label) (labels_faults s a labels) free))
    (labels_sound c s f a a' is leads labels (free_right (label_faults s a label) (labels_faults s a labels) free))

-- RETURN

returned_sound : (c : Context) (s : Scope) → Fits c s → (at : ℕ) (gives : Option Kind) (value : Option from.Expr) → is_free (return_faults s at gives value) ≡ true → has_kind (unwrap_or gives Int) (sound.kind_of c (returned s value)) ≡ true
returned_sound c s f at None None free = refl
returned_sound c s f at None (Some value) free = absurd (true≢false (sym free))
returned_sound c s f at (Some kind) None free = absurd (true≢false (sym free))
returned_sound c s f at (Some kind) (Some value) free = has_leads kind (kind_of s value) (sound.kind_of c (bound_expr s value)) (expr_kept c s f value) (part_kind s kind value free)

some_leads : (a a' : Option Kind) → Leads a a' → is_some a ≡ true → is_some a' ≡ true
some_leads None a' h e = absurd (true≢false (sym e))
some_leads (Some kind) a' h e = ap is_some (h kind refl)

mutual
  before_sound : (d : Declared) (c : Context) (s : Scope) (stmt : from.Stmt) (rest : List Kind) → Stood d c s (locals_in stmt) rest → is_free (stmt_faults s stmt) ≡ true →
      (block : to.Block) → is_block c block ≡ true → is_block c (bound_before s stmt block) ≡ true
  before_sound d c s (from.declare at kind locals) rest h free block b =
      locals_sound d c s (kind_of_type kind.name) locals rest h (free_right (type_faults s kind) (locals_faults s (kind_of_type kind.name) locals) free) block b
  before_sound d c s (from.assign at name index equals value) rest h free block b =
      both_true (sound.is_stmt c (bound_assign s at (meaning s name) index value)) (is_block c block) (assigned_sound c s (fitting d c s [] rest h) at name index equals value free) b
  before_sound d c s (from.call_of at name args) rest h free block b =
      both_true (is_call c (bound_call s name args)) (is_block c block)
      (call_sound c s (fitting d c s [] rest h) at args (meaning s name) (callee s name) ((fitting d c s [] rest h).calls name) free) b
  before_sound d c s (from.choose at test body last) rest h free block b =
      let behind = with_locals s (locals_in_block body) in
      let front = free_left (part_faults s Int test ++ block_faults s body) (other_faults behind last) free in
      both_true (has_kind Int (sound.kind_of c (bound_expr s test)) && is_block c (bound_block s body) && is_other c (bound_other behind last)) (is_block c block)
      (both_true (has_kind Int (sound.kind_of c (bound_expr s test)) && is_block c (bound_block s body)) (is_other c (bound_other behind last))
      (both_true (has_kind Int (sound.kind_of c (bound_expr s test))) (is_block c (bound_block s body))
      (part_sound d c s (locals_in_block body ++ locals_in_other last) rest h Int test (free_left (part_faults s Int test) (block_faults s body) front))
      (block_sound d c s body (kinds (locals_in_other last) ++ rest) (first_part d c s (locals_in_block body) (locals_in_other last) rest h) (free_right (part_faults s Int test) (block_faults s body) front)))
      (other_sound d c behind last rest (second_part d c s (locals_in_block body) (locals_in_other last) rest h) (free_right (part_faults s Int test ++ block_faults s body) (other_faults behind last) free)))
      b
  before_sound d c s (from.while at test body) rest h free block b =
      both_true (has_kind Int (sound.kind_of c (bound_expr s test)) && is_block c (bound_block s body)) (is_block c block)
      (both_true (has_kind Int (sound.kind_of c (bound_expr s test))) (is_block c (bound_block s body))
      (part_sound d c s (locals_in_block body) rest h Int test (free_left (part_faults s Int test) (block_faults s body) free))
      (block_sound d c s body rest h (free_right (part_faults s Int test) (block_faults s body) free)))
      b
  before_sound d c s (from.for at name_at name first last body) rest h free block b =
      let three = free_left (part_faults s Int (target name_at name None) ++ part_faults s Int first ++ part_faults s Int last) (block_faults s body) free in
      let two = free_left (part_faults s Int (target name_at name None) ++ part_faults s Int first) (part_faults s Int last) three in
      both_true
      (has_kind Int (scalar_kind c (scalar_of (meaning s name))) && has_kind Int (sound.kind_of c (bound_expr s first)) && has_kind Int (sound.kind_of c (bound_expr s last)) && is_block c (bound_block s body)) (is_block c block)
      (both_true (has_kind Int (scalar_kind c (scalar_of (meaning s name))) && has_kind Int (sound.kind_of c (bound_expr s first)) && has_kind Int (sound.kind_of c (bound_expr s last))) (is_block c (bound_block s body))
      (both_true (has_kind Int (scalar_kind c (scalar_of (meaning s name))) && has_kind Int (sound.kind_of c (bound_expr s first))) (has_kind Int (sound.kind_of c (bound_expr s last)))
      (both_true (has_kind Int (scalar_kind c (scalar_of (meaning s name)))) (has_kind Int (sound.kind_of c (bound_expr s first)))
      (part_sound d c s (locals_in_block body) rest h Int (target name_at name None) (free_left (part_faults s Int (target name_at name None)) (part_faults s Int first) two))
      (part_sound d c s (locals_in_block body) rest h Int first (free_right (part_faults s Int (target name_at name None)) (part_faults s Int first) two)))
      (part_sound d c s (locals_in_block body) rest h Int last (free_right (part_faults s Int (target name_at name None) ++ part_faults s Int first) (part_faults s Int last) three)))
      (block_sound d c s body rest h (free_right (part_faults s Int (target name_at name None) ++ part_faults s Int first ++ part_faults s Int last) (block_faults s body) free)))
      b
  before_sound d c s (from.select at subject clauses last) rest h free block b =
      let behind = with_locals s (locals_in_clauses clauses) in
      let front = free_left (expr_faults s subject ++ clauses_faults s (kind_of s subject) clauses) (other_faults behind last) free in
      let is = expr_free s subject ∙ free_left (expr_faults s subject) (clauses_faults s (kind_of s subject) clauses) front in
      let leads = expr_kept c s (fitting d c s (locals_in_clauses clauses ++ locals_in_other last) rest h) subject in
      both_true (is_some (sound.kind_of c (bound_expr s subject)) && are_clauses c (sound.kind_of c (bound_expr s subject)) (bound_clauses s clauses) && is_block c (bound_last behind last)) (is_block c block)
      (both_true (is_some (sound.kind_of c (bound_expr s subject)) && are_clauses c (sound.kind_of c (bound_expr s subject)) (bound_clauses s clauses)) (is_block c (bound_last behind last))
      (both_true (is_some (sound.kind_of c (bound_expr s subject))) (are_clauses c (sound.kind_of c (bound_expr s subject)) (bound_clauses s clauses))
      (some_leads (kind_of s subject) (sound.kind_of c (bound_expr s subject)) leads is)
      (clauses_sound d c s (kind_of s subject) (sound.kind_of c (bound_expr s subject)) is leads clauses (kinds (locals_in_other last) ++ rest) (first_part d c s (locals_in_clauses clauses) (locals_in_other last) rest h)
      (free_right (expr_faults s subject) (clauses_faults s (kind_of s subject) clauses) front)))
      (last_sound d c behind last rest (second_part d c s (locals_in_clauses clauses) (locals_in_other last) rest h) (free_right (expr_faults s subject ++ clauses_faults s (kind_of s subject) clauses) (other_faults behind last) free)))
      b
  before_sound d c s (from.return at value) rest h free block b =
      both_true (has_kind (unwrap_or c.gives Int) (sound.kind_of c (returned s value))) (is_block c block)
      (ap (λ g. has_kind (unwrap_or g Int) (sound.kind_of c (returned s value))) h.gives ∙ returned_sound c s (fitting d c s [] rest h) at s.gives value free) b

  other_sound : (d : Declared) (c : Context) (s : Scope) (last : from.Other) (rest : List Kind) → Stood d c s (locals_in_other last) rest → is_free (other_faults s last) ≡ true → is_other c (bound_other s last) ≡ true
  other_sound d c s from.no_other rest h free = refl
  other_sound d c s (from.other body) rest h free = block_sound d c s body rest h free

  last_sound : (d : Declared) (c : Context) (s : Scope) (last : from.Other) (rest : List Kind) → Stood d c s (locals_in_other last) rest → is_free (other_faults s last) ≡ true → is_block c (bound_last s last) ≡ true
  last_sound d c s from.no_other rest h free = refl
  last_sound d c s (from.other body) rest h free = block_sound d c s body rest h free

  clauses_sound : (d : Declared) (c : Context) (s : Scope) (a a' : Option Kind) → is_some a ≡ true → Leads a a' → (clauses : from.Clauses) (rest : List Kind) → Stood d c s (locals_in_clauses clauses) rest →
      is_free (clauses_faults s a clauses) ≡ true → are_clauses c a' (bound_clauses s clauses) ≡ true
  clauses_sound d c s a a' is leads from.no_clause rest h free = refl
  clauses_sound d c s a a' is leads (from.clause at labels body more) rest h free =
      let behind = with_locals s (locals_in_block body) in
      let front = free_left (labels_faults s a labels ++ block_faults s body) (clauses_faults behind a more) free in
      both_true (list_all (is_label c a') (map (bound_label s) labels) && is_block c (bound_block s body)) (are_clauses c a' (bound_clauses behind more))
      (both_true (list_all (is_label c a') (map (bound_label s) labels)) (is_block c (bound_block s body))
      (labels_sound c s (fitting d c s (locals_in_block body ++ locals_in_clauses more) rest h) a a' is leads labels (free_left (labels_faults s a labels) (block_faults s body) front))
      (block_sound d c s body (kinds (locals_in_clauses more) ++ rest) (first_part d c s (locals_in_block body) (locals_in_clauses more) rest h) (free_right (labels_faults s a labels) (block_faults s body) front)))
      (clauses_sound d c behind a a' is leads more rest (second_part d c s (locals_in_block body) (locals_in_clauses more) rest h) (free_right (labels_faults s a labels ++ block_faults s body) (clauses_faults behind a more) free))

  pub block_sound : (d : Declared) (c : Context) (s : Scope) (block : from.Block) (rest : List Kind) → Stood d c s (locals_in_block block) rest → is_free (block_faults s block) ≡ true → is_block c (bound_block s block) ≡ true
  block_sound d c s from.done rest h free = refl
  block_sound d c s (from.then first more) rest h free =
      let behind = with_locals s (locals_in first) in
      before_sound d c s first (kinds (locals_in_block more) ++ rest) (first_part d c s (locals_in first) (locals_in_block more) rest h) (free_left (stmt_faults s first) (block_faults behind more) free)
      (bound_block behind more)
      (block_sound d c behind more rest (second_part d c s (locals_in first) (locals_in_block more) rest h) (free_right (stmt_faults s first) (block_faults behind more) free))
