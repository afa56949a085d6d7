-- A bound body passes each test that what tokens have passes, and every call but a plain one of QueRead: where its tree is of a
-- written source and has no fault.
use Rattle.std.specs.Prelude.{◌≡◌, refl, ℕ, ◌≤◌, Bool, true, not, ◌&&◌, nat_le, List, [], ◌∷◌, ◌++◌, length, map, Option, Some, None, All}
use Rattle.std.specs.List.{list_all}
use Rattle.std.proofs.Common.{sym, ap, ap₂, ◌∙◌, subst, inl, inr}
use Rattle.std.proofs.lemmas.Bool.{true≢false, leb-true}
use Rattle.std.proofs.lemmas.List.Elements.{All-head, All-tail}
use Rattle.ci_base.specs.declared.bounds.TheConstants.{MOST_TEXT_BYTES, MOST_HASHES}
use Rattle.ci_base.specs.declared.value.Kind.{Kind}
use Rattle.ci_base.specs.declared.value.Kind.TheVariants.{Int, Str}
use Rattle.ci_base.specs.declared.value.Value.{Value}
use Rattle.ci_base.specs.declared.value.Value.TheVariants as values
use Rattle.ci_base.specs.declared.function.SharedName.TheVariants as requests
use Rattle.ci_tree.specs.Tree as from
use Rattle.ci_tree.specs.Bound as to
use Rattle.ci_tree.specs.BoundTests.{Test, expr_passes, call_passes, links_pass, exprs_pass, label_passes, stmt_passes, other_passes, clauses_pass, block_passes, is_plain}
use Rattle.ci_tree.specs.LeftOut.{constant, constants}
use Rattle.ci_tree.specs.Operators.{has_kind, joins, joined, formed}
use Rattle.ci_tree.specs.Sound.{Context}
use Rattle.ci_tree.specs.Written.{IsWritten, IsWrittenWhat, AreWrittenLinks, AreWritten, IsWrittenPart, IsWrittenLocal, IsWrittenLabel, IsWrittenStmt, IsWrittenOther, AreWrittenClauses, IsWrittenBlock}
use Rattle.ci_names.specs.declared.fault.BindKind.TheVariants as kind_of_fault
use Rattle.ci_names.specs.Given.{Taken, by_value, with_default, to_be_set, Called}
use Rattle.ci_names.specs.Declarations.{Declared, kind_of_type}
use Rattle.ci_names.specs.Scopes.{Scope, Local, with_locals, declared_local, locals_in, locals_in_other, locals_in_clauses, locals_in_block, Meaning, meaning, callee}
use Rattle.ci_names.specs.Kinds.{takes_of, is_count, is_name_alone, kind_of, are_taken}
use Rattle.ci_names.specs.Expressions.{broken, differ, start_of, wants_kind, indexed_name, called_name, argument_count, call_faults, call_value, argument, operation, int_operand, expr_faults, what_faults, links_faults, args_faults}
use Rattle.ci_names.specs.Statements.{type_faults, local_name, maybe, part_faults, locals_faults, target, assigned, compared, label_faults, labels_faults, return_faults, stmt_faults, other_faults, clauses_faults, block_faults}
use Rattle.ci_names.specs.Binding.{callee_of, heads_in, called_with, bound_expr, bound_what, bound_links, bound_args, bound_call, set_before, locals_before, bound_assign, bound_label, returned, bound_before, bound_other, bound_last, bound_clauses, bound_block}
use Rattle.ci_names.proofs.Free.{is_free, args_free}
use Rattle.ci_names.proofs.AllArguments.{default_of, all_args}
use Rattle.ci_names.proofs.Leads.{left_true, right_true, both_true, Fits, IsThere, plain_all, read_takes, alone_kept}
use Rattle.ci_names.proofs.Meant.{kinds}
use Rattle.ci_names.proofs.Bodies.{free_left, free_right, unbroken, not_false, Stood, fitting, first_part, second_part}

-- what tokens have passes the test, and every call but a plain one of QueRead
pub record IsMild (t : Test) : Type 0 where
  pub literals : (text : List ℕ) → length text ≤ MOST_TEXT_BYTES → t.literal text ≡ true
  pub formats : (count : ℕ) → (1 ≤ count) × (count ≤ MOST_HASHES) → t.hashes count ≡ true
  pub calls : (callee : to.Callee) → is_plain callee ≡ true → t.callee callee ≡ true

-- a value is a number, or a text that a STRING holds
abbrev pub is_short_value : Value → Bool
is_short_value (values.Int n) = true
is_short_value (values.Str text) = nat_le (length text) MOST_TEXT_BYTES

abbrev pub is_short_taken : Taken → Bool
is_short_taken (by_value kind) = true
is_short_taken (with_default kind default) = is_short_value default
is_short_taken (to_be_set kind) = true

-- the values for what is left out are such
abbrev pub is_short_called : Called → Bool
is_short_called called = list_all is_short_taken called.heading.takes

-- where an expression stands, and the test
pub record Place (t : Test) (c : Context) (s : Scope) : Type 0 where
  pub mild : IsMild t
  pub fits : Fits c s
  pub short : (name : List ℕ) (called : Called) → callee s name ≡ Some called → is_short_called called ≡ true

-- Calls

constant_passes : (t : Test) → IsMild t → (v : Value) → is_short_value v ≡ true → expr_passes t (constant v) ≡ true
constant_passes t mild (values.Int n) h = refl
constant_passes t mild (values.Str text) h = mild.literals text (leb-true (length text) MOST_TEXT_BYTES h)

constants_pass : (t : Test) → IsMild t → (takes : List Taken) → list_all is_short_taken takes ≡ true → exprs_pass t (constants (map default_of takes)) ≡ true
constants_pass t mild [] h = refl
constants_pass t mild ((by_value kind) ∷ takes) h = constants_pass t mild takes h
constants_pass t mild ((with_default kind v) ∷ takes) h =
    both_true (expr_passes t (constant v)) (exprs_pass t (constants (map default_of takes)))
    (constant_passes t mild v (left_true (is_short_value v) (list_all is_short_taken takes) h)) (constants_pass t mild takes (right_true (is_short_value v) (list_all is_short_taken takes) h))
constants_pass t mild ((to_be_set kind) ∷ takes) h = constants_pass t mild takes h

abbrev ArgsPass : Test → Scope → from.Exprs → Type 0
ArgsPass t s args = (takes : List Taken) → list_all is_short_taken takes ≡ true → is_count takes args ≡ true → is_free (args_faults s takes args) ≡ true → exprs_pass t (all_args s takes args) ≡ true

abbrev ReadPasses : Test → Scope → from.Exprs → Type 0
ReadPasses t s args =
    is_count read_takes args ≡ true → are_taken s read_takes args ≡ true → is_free (args_faults s read_takes args) ≡ true →
    call_passes t (called_with (heads_in s.declared) (to.shared requests.QueRead) (bound_args s args)) ≡ true

abbrev CallPasses : Test → Scope → from.Exprs → Called → Type 0
CallPasses t s args called =
    is_count called.heading.takes args ≡ true → are_taken s called.heading.takes args ≡ true → is_free (args_faults s called.heading.takes args) ≡ true →
    call_passes t (called_with (heads_in s.declared) called.callee (bound_args s args)) ≡ true

there_passes : (t : Test) (c : Context) (s : Scope) → Place t c s → (args : from.Exprs) (called : Called) → IsThere c (heads_in s.declared) called → is_short_called called ≡ true → ArgsPass t s args → ReadPasses t s args → CallPasses t s args called
there_passes t c s p args called (inl plain) short all read count taken free =
    ap (call_passes t) (plain_all c s called plain args)
    ∙ both_true (t.callee called.callee) (exprs_pass t (all_args s called.heading.takes args)) (p.mild.calls called.callee plain.plain) (all called.heading.takes short count free)
there_passes t c s p args called (inr same) short all read count taken free = subst (CallPasses t s args) (sym same) read count taken free

called_passes : (t : Test) (c : Context) (s : Scope) → Place t c s → (at : ℕ) (args : from.Exprs) (m : Meaning) (o : Option Called) → ((called : Called) → o ≡ Some called → IsThere c (heads_in s.declared) called) →
    ((called : Called) → o ≡ Some called → is_short_called called ≡ true) → ArgsPass t s args → ReadPasses t s args → is_free (called_name s at o m ++ argument_count s at o args) ≡ true → is_free (args_faults s (takes_of o) args) ≡ true →
    call_passes t (called_with (heads_in s.declared) (callee_of o) (bound_args s args)) ≡ true
called_passes t c s p at args m None there short all read h free = absurd (true≢false (sym h))
called_passes t c s p at args m (Some called) there short all read h free =
    let count = not_false (is_count called.heading.takes args) (unbroken (not (is_count called.heading.takes args)) s at kind_of_fault.ArgumentCount h) in
    there_passes t c s p args called (there called refl) (short called refl) all read count (args_free s called.heading.takes args count ∙ free) free

-- Expressions

mutual
  expr_pass : (t : Test) (c : Context) (s : Scope) → Place t c s → (e : from.Expr) → IsWritten e → is_free (expr_faults s e) ≡ true → expr_passes t (bound_expr s e) ≡ true
  expr_pass t c s p (from.expr start at what) w h = what_pass t c s p at what w h

  what_pass : (t : Test) (c : Context) (s : Scope) → Place t c s → (at : ℕ) (what : from.What) → IsWrittenWhat what → is_free (what_faults s at what) ≡ true → expr_passes t (bound_what s what) ≡ true
  what_pass t c s p at (from.number value) w h = refl
  what_pass t c s p at (from.literal text) w h = p.mild.literals text w
  what_pass t c s p at (from.name name) w h = refl
  what_pass t c s p at (from.element name index) w h = expr_pass t c s p index w.1 (free_right (indexed_name s at (meaning s name) ++ wants_kind s Int index) (expr_faults s index) h)
  what_pass t c s p at (from.call name args) w h =
      called_passes t c s p at args (meaning s name) (callee s name) (p.fits.calls name) (p.short name) (args_pass t c s p args w.1) (read_passes t c s p args w.1)
      (free_right (call_value s at (callee s name)) (call_faults s at name args) (free_left (call_value s at (callee s name) ++ call_faults s at name args) (args_faults s (takes_of (callee s name)) args) h))
      (free_right (call_value s at (callee s name) ++ call_faults s at name args) (args_faults s (takes_of (callee s name)) args) h)
  what_pass t c s p at (from.unary minus operand) w h = expr_pass t c s p operand w (free_right (int_operand s at (kind_of s operand)) (expr_faults s operand) h)
  what_pass t c s p at (from.chain first rest) w h =
      both_true (expr_passes t (bound_expr s first)) (links_pass t (bound_links s rest))
      (expr_pass t c s p first w.0 (free_left (expr_faults s first) (links_faults s (kind_of s first) rest) h))
      (links_passing t c s p (kind_of s first) rest w.1 (free_right (expr_faults s first) (links_faults s (kind_of s first) rest) h))

  links_passing : (t : Test) (c : Context) (s : Scope) → Place t c s → (left : Option Kind) (rest : from.Links) → AreWrittenLinks rest → is_free (links_faults s left rest) ≡ true → links_pass t (bound_links s rest) ≡ true
  links_passing t c s p left from.no_link w h = refl
  links_passing t c s p left (from.operand at op right rest) w h =
      let next = joined (joins op) left (kind_of s right) in
      let front = free_left (operation s at op left (kind_of s right) ++ expr_faults s right) (links_faults s next rest) h in
      both_true (expr_passes t (bound_expr s right)) (links_pass t (bound_links s rest))
      (expr_pass t c s p right w.0 (free_right (operation s at op left (kind_of s right)) (expr_faults s right) front))
      (links_passing t c s p next rest w.1 (free_right (operation s at op left (kind_of s right) ++ expr_faults s right) (links_faults s next rest) h))
  links_passing t c s p left (from.hashes at count rest) w h =
      both_true (t.hashes count) (links_pass t (bound_links s rest)) (p.mild.formats count w.0)
      (links_passing t c s p (formed left) rest w.1 (free_right (int_operand s at left) (links_faults s (formed left) rest) h))

  args_pass : (t : Test) (c : Context) (s : Scope) → Place t c s → (args : from.Exprs) → AreWritten args → ArgsPass t s args
  args_pass t c s p from.no_expr w takes short n h = constants_pass t p.mild takes short
  args_pass t c s p (from.more first rest) w [] short n h = absurd (true≢false (sym n))
  args_pass t c s p (from.more first rest) w (taken ∷ takes) short n h =
      both_true (expr_passes t (bound_expr s first)) (exprs_pass t (all_args s takes rest))
      (expr_pass t c s p first w.0 (free_right (argument s taken first) (expr_faults s first) (free_left (argument s taken first ++ expr_faults s first) (args_faults s takes rest) h)))
      (args_pass t c s p rest w.1 takes (right_true (is_short_taken taken) (list_all is_short_taken takes) short) n (free_right (argument s taken first ++ expr_faults s first) (args_faults s takes rest) h))

  read_passes : (t : Test) (c : Context) (s : Scope) → Place t c s → (args : from.Exprs) → AreWritten args → ReadPasses t s args
  read_passes t c s p from.no_expr w n h free = absurd (true≢false (sym n))
  read_passes t c s p (from.more queue from.no_expr) w n h free = absurd (true≢false (sym n))
  read_passes t c s p (from.more queue (from.more a from.no_expr)) w n h free = absurd (true≢false (sym n))
  read_passes t c s p (from.more queue (from.more a (from.more b from.no_expr))) w n h free = absurd (true≢false (sym n))
  read_passes t c s p (from.more queue (from.more a (from.more b (from.more mode (from.more last rest))))) w n h free = absurd (true≢false (sym n))
  read_passes t c s p (from.more queue (from.more a (from.more b (from.more mode from.no_expr)))) w n h free =
      let tail = right_true (has_kind Int (kind_of s queue)) ((is_name_alone a && has_kind Int (kind_of s a)) && ((is_name_alone b && has_kind Str (kind_of s b)) && (has_kind Int (kind_of s mode) && true))) h in
      let last = right_true (is_name_alone a && has_kind Int (kind_of s a)) ((is_name_alone b && has_kind Str (kind_of s b)) && (has_kind Int (kind_of s mode) && true)) tail in
      let sort = alone_kept c s p.fits Int a (left_true (is_name_alone a && has_kind Int (kind_of s a)) ((is_name_alone b && has_kind Str (kind_of s b)) && (has_kind Int (kind_of s mode) && true)) tail) in
      let text = alone_kept c s p.fits Str b (left_true (is_name_alone b && has_kind Str (kind_of s b)) (has_kind Int (kind_of s mode) && true) last) in
      let behind_q = args_faults s (to_be_set Int ∷ to_be_set Str ∷ by_value Int ∷ []) (from.more a (from.more b (from.more mode from.no_expr))) in
      let behind_a = args_faults s (to_be_set Str ∷ by_value Int ∷ []) (from.more b (from.more mode from.no_expr)) in
      let behind_b = args_faults s (by_value Int ∷ []) (from.more mode from.no_expr) in
      let after_q = free_right (argument s (by_value Int) queue ++ expr_faults s queue) behind_q free in
      let after_a = free_right (argument s (to_be_set Int) a ++ expr_faults s a) behind_a after_q in
      let after_b = free_right (argument s (to_be_set Str) b ++ expr_faults s b) behind_b after_a in
      ap₂ (λ x y. call_passes t (called_with (heads_in s.declared) (to.shared requests.QueRead) (to.more (bound_expr s queue) (to.more x (to.more y (to.more (bound_expr s mode) to.no_expr)))))) sort.1 text.1
      ∙ both_true (expr_passes t (bound_expr s queue)) (expr_passes t (bound_expr s mode))
      (expr_pass t c s p queue w.0 (free_right (argument s (by_value Int) queue) (expr_faults s queue) (free_left (argument s (by_value Int) queue ++ expr_faults s queue) behind_q free)))
      (expr_pass t c s p mode w.1.1.1.0 (free_right (argument s (by_value Int) mode) (expr_faults s mode) (free_left (argument s (by_value Int) mode ++ expr_faults s mode) [] after_b)))

-- Statements

-- where a body stands, and the test
pub record Within (t : Test) (d : Declared) : Type 0 where
  pub mild : IsMild t
  pub short : (s : Scope) → s.declared ≡ d → (name : List ℕ) (called : Called) → callee s name ≡ Some called → is_short_called called ≡ true

place : (t : Test) (d : Declared) → Within t d → (c : Context) (s : Scope) (ls : List Local) (rest : List Kind) → Stood d c s ls rest → Place t c s
place t d within c s ls rest h = record { mild = within.mild; fits = fitting d c s ls rest h; short = within.short s h.declared }

part_passes : (t : Test) (c : Context) (s : Scope) → Place t c s → (kind : Kind) (e : from.Expr) → IsWritten e → is_free (part_faults s kind e) ≡ true → expr_passes t (bound_expr s e) ≡ true
part_passes t c s p kind e w free = expr_pass t c s p e w (free_right (wants_kind s kind e) (expr_faults s e) free)

set_passes : (t : Test) (c : Context) (s : Scope) → Place t c s → (kind : Kind) (at : ℕ) (o : Option from.Expr) → IsWrittenPart o → is_free (maybe (part_faults s kind) o) ≡ true → (block : to.Block) → block_passes t block ≡ true → block_passes t (set_before s at o block) ≡ true
set_passes t c s p kind at None w free block b = b
set_passes t c s p kind at (Some e) w free block b = both_true (expr_passes t (bound_expr s e)) (block_passes t block) (part_passes t c s p kind e w free) b

locals_pass : (t : Test) (d : Declared) → Within t d → (c : Context) (s : Scope) (kind : Kind) (ls : List from.Local) (rest : List Kind) → Stood d c s (map (declared_local kind) ls) rest → All IsWrittenLocal ls → is_free (locals_faults s kind ls) ≡ true →
    (block : to.Block) → block_passes t block ≡ true → block_passes t (locals_before s kind ls block) ≡ true
locals_pass t d within c s kind [] rest h w free block b = b
locals_pass t d within c s kind (l ∷ ls) rest h w free block b =
    let next = with_locals s (declared_local kind l ∷ []) in
    let front = free_left (local_name s l.at l.name ++ maybe (part_faults s kind) l.value) (locals_faults next kind ls) free in
    set_passes t c s (place t d within c s (map (declared_local kind) (l ∷ ls)) rest h) kind l.at l.value (All-head IsWrittenLocal l ls w).1
    (free_right (local_name s l.at l.name) (maybe (part_faults s kind) l.value) front)
    (locals_before next kind ls block)
    (locals_pass t d within c next kind ls rest (second_part d c s (declared_local kind l ∷ []) (map (declared_local kind) ls) rest h) (All-tail IsWrittenLocal l ls w)
    (free_right (local_name s l.at l.name ++ maybe (part_faults s kind) l.value) (locals_faults next kind ls) free) block b)

assigned_passes : (t : Test) (c : Context) (s : Scope) → Place t c s → (at : ℕ) (name : List ℕ) (index : Option from.Expr) (equals : ℕ) (value : from.Expr) → IsWrittenPart index → IsWritten value →
    is_free (expr_faults s (target at name index) ++ assigned s equals (target at name index) value ++ expr_faults s value) ≡ true → stmt_passes t (bound_assign s at (meaning s name) index value) ≡ true
assigned_passes t c s p at name None equals value wi wv free =
    expr_pass t c s p value wv (free_right (expr_faults s (target at name None) ++ assigned s equals (target at name None) value) (expr_faults s value) free)
assigned_passes t c s p at name (Some index) equals value wi wv free =
    let front = free_left (expr_faults s (target at name (Some index)) ++ assigned s equals (target at name (Some index)) value) (expr_faults s value) free in
    let whole = free_left (expr_faults s (target at name (Some index))) (assigned s equals (target at name (Some index)) value) front in
    both_true (expr_passes t (bound_expr s index)) (expr_passes t (bound_expr s value))
    (expr_pass t c s p index wi (free_right (indexed_name s at (meaning s name) ++ wants_kind s Int index) (expr_faults s index) whole))
    (expr_pass t c s p value wv (free_right (expr_faults s (target at name (Some index)) ++ assigned s equals (target at name (Some index)) value) (expr_faults s value) free))

compared_passes : (t : Test) (c : Context) (s : Scope) → Place t c s → (a : Option Kind) (value : from.Expr) → IsWritten value → is_free (compared s a value) ≡ true → expr_passes t (bound_expr s value) ≡ true
compared_passes t c s p a value w free = expr_pass t c s p value w (free_right (broken (differ a (kind_of s value)) s (start_of value) kind_of_fault.KindsDiffer) (expr_faults s value) free)

label_pass : (t : Test) (c : Context) (s : Scope) → Place t c s → (a : Option Kind) (label : from.Label) → IsWrittenLabel label → is_free (label_faults s a label) ≡ true → label_passes t (bound_label s label) ≡ true
label_pass t c s p a (from.one value) w free = compared_passes t c s p a value w free
label_pass t c s p a (from.range low high) w free =
    both_true (expr_passes t (bound_expr s low)) (expr_passes t (bound_expr s high))
    (compared_passes t c s p a low w.0 (free_left (compared s a low) (compared s a high) free)) (compared_passes t c s p a high w.1 (free_right (compared s a low) (compared s a high) free))
label_pass t c s p a (from.compared at relation value) w free = compared_passes t c s p a value w free

labels_pass : (t : Test) (c : Context) (s : Scope) → Place t c s → (a : Option Kind) (labels : List from.Label) → All IsWrittenLabel labels → is_free (labels_faults s a labels) ≡ true → list_all (label_passes t) (map (bound_label s) labels) ≡ true
labels_pass t c s p a [] w free = refl
labels_pass t c s p a (label ∷ labels) w free =
    both_true (label_passes t (bound_label s label)) (list_all (label_passes t) (map (bound_label s) labels))
    (label_pass t c s p a label (All-head IsWrittenLabel label labels w) (free_left (label_faults s a label) (labels_faults s a labels) free))
    (labels_pass t c s p a labels (All-tail IsWrittenLabel label labels w) (free_right (label_faults s a label) (labels_faults s a labels) free))

returned_passes : (t : Test) (c : Context) (s : Scope) → Place t c s → (at : ℕ) (gives : Option Kind) (value : Option from.Expr) → IsWrittenPart value → is_free (return_faults s at gives value) ≡ true → expr_passes t (returned s value) ≡ true
returned_passes t c s p at gives None w free = refl
returned_passes t c s p at None (Some value) w free = absurd (true≢false (sym free))
returned_passes t c s p at (Some kind) (Some value) w free = part_passes t c s p kind value w free

-- the kinds of locals before others
abbrev kinds_then : List Local → List Kind → List Kind
kinds_then ls rest = kinds ls ++ rest

mutual
  before_pass : (t : Test) (d : Declared) → Within t d → (c : Context) (s : Scope) (stmt : from.Stmt) (rest : List Kind) → Stood d c s (locals_in stmt) rest → IsWrittenStmt stmt → is_free (stmt_faults s stmt) ≡ true →
      (block : to.Block) → block_passes t block ≡ true → block_passes t (bound_before s stmt block) ≡ true
  before_pass t d m c s (from.declare at kind locals) rest h w free block b =
      locals_pass t d m c s (kind_of_type kind.name) locals rest h w (free_right (type_faults s kind) (locals_faults s (kind_of_type kind.name) locals) free) block b
  before_pass t d m c s (from.assign at name index equals value) rest h w free block b =
      both_true (stmt_passes t (bound_assign s at (meaning s name) index value)) (block_passes t block) (assigned_passes t c s (place t d m c s [] rest h) at name index equals value w.1 w.2 free) b
  before_pass t d m c s (from.call_of at name args) rest h w free block b =
      let p = place t d m c s [] rest h in
      both_true (call_passes t (bound_call s name args)) (block_passes t block)
      (called_passes t c s p at args (meaning s name) (callee s name) (p.fits.calls name) (p.short name) (args_pass t c s p args w.1) (read_passes t c s p args w.1)
      (free_left (call_faults s at name args) (args_faults s (takes_of (callee s name)) args) free) (free_right (call_faults s at name args) (args_faults s (takes_of (callee s name)) args) free))
      b
  before_pass t d m c s (from.choose at test body last) rest h w free block b =
      let behind = with_locals s (locals_in_block body) in
      let front = free_left (part_faults s Int test ++ block_faults s body) (other_faults behind last) free in
      both_true (expr_passes t (bound_expr s test) && block_passes t (bound_block s body) && other_passes t (bound_other behind last)) (block_passes t block)
      (both_true (expr_passes t (bound_expr s test) && block_passes t (bound_block s body)) (other_passes t (bound_other behind last))
      (both_true (expr_passes t (bound_expr s test)) (block_passes t (bound_block s body))
      (part_passes t c s (place t d m c s (locals_in_block body ++ locals_in_other last) rest h) Int test w.0 (free_left (part_faults s Int test) (block_faults s body) front))
      (block_pass t d m c s body (kinds_then (locals_in_other last) rest) (first_part d c s (locals_in_block body) (locals_in_other last) rest h) w.1 (free_right (part_faults s Int test) (block_faults s body) front)))
      (other_pass t d m c behind last rest (second_part d c s (locals_in_block body) (locals_in_other last) rest h) w.2 (free_right (part_faults s Int test ++ block_faults s body) (other_faults behind last) free)))
      b
  before_pass t d m c s (from.while at test body) rest h w free block b =
      both_true (expr_passes t (bound_expr s test) && block_passes t (bound_block s body)) (block_passes t block)
      (both_true (expr_passes t (bound_expr s test)) (block_passes t (bound_block s body))
      (part_passes t c s (place t d m c s (locals_in_block body) rest h) Int test w.0 (free_left (part_faults s Int test) (block_faults s body) free))
      (block_pass t d m c s body rest h w.1 (free_right (part_faults s Int test) (block_faults s body) free)))
      b
  before_pass t d m c s (from.for at name_at name first last body) rest h w free block b =
      let three = free_left (part_faults s Int (target name_at name None) ++ part_faults s Int first ++ part_faults s Int last) (block_faults s body) free in
      let two = free_left (part_faults s Int (target name_at name None) ++ part_faults s Int first) (part_faults s Int last) three in
      let p = place t d m c s (locals_in_block body) rest h in
      both_true (expr_passes t (bound_expr s first) && expr_passes t (bound_expr s last) && block_passes t (bound_block s body)) (block_passes t block)
      (both_true (expr_passes t (bound_expr s first) && expr_passes t (bound_expr s last)) (block_passes t (bound_block s body))
      (both_true (expr_passes t (bound_expr s first)) (expr_passes t (bound_expr s last))
      (part_passes t c s p Int first w.1 (free_right (part_faults s Int (target name_at name None)) (part_faults s Int first) two))
      (part_passes t c s p Int last w.2 (free_right (part_faults s Int (target name_at name None) ++ part_faults s Int first) (part_faults s Int last) three)))
      (block_pass t d m c s body rest h w.3 (free_right (part_faults s Int (target name_at name None) ++ part_faults s Int first ++ part_faults s Int last) (block_faults s body) free)))
      b
  before_pass t d m c s (from.select at subject clauses last) rest h w free block b =
      let behind = with_locals s (locals_in_clauses clauses) in
      let front = free_left (expr_faults s subject ++ clauses_faults s (kind_of s subject) clauses) (other_faults behind last) free in
      both_true (expr_passes t (bound_expr s subject) && clauses_pass t (bound_clauses s clauses) && block_passes t (bound_last behind last)) (block_passes t block)
      (both_true (expr_passes t (bound_expr s subject) && clauses_pass t (bound_clauses s clauses)) (block_passes t (bound_last behind last))
      (both_true (expr_passes t (bound_expr s subject)) (clauses_pass t (bound_clauses s clauses))
      (expr_pass t c s (place t d m c s (locals_in_clauses clauses ++ locals_in_other last) rest h) subject w.0 (free_left (expr_faults s subject) (clauses_faults s (kind_of s subject) clauses) front))
      (clauses_passing t d m c s (kind_of s subject) clauses (kinds_then (locals_in_other last) rest) (first_part d c s (locals_in_clauses clauses) (locals_in_other last) rest h) w.1
      (free_right (expr_faults s subject) (clauses_faults s (kind_of s subject) clauses) front)))
      (last_pass t d m c behind last rest (second_part d c s (locals_in_clauses clauses) (locals_in_other last) rest h) w.2 (free_right (expr_faults s subject ++ clauses_faults s (kind_of s subject) clauses) (other_faults behind last) free)))
      b
  before_pass t d m c s (from.return at value) rest h w free block b =
      both_true (expr_passes t (returned s value)) (block_passes t block) (returned_passes t c s (place t d m c s [] rest h) at s.gives value w free) b

  other_pass : (t : Test) (d : Declared) → Within t d → (c : Context) (s : Scope) (last : from.Other) (rest : List Kind) → Stood d c s (locals_in_other last) rest → IsWrittenOther last → is_free (other_faults s last) ≡ true → other_passes t (bound_other s last) ≡ true
  other_pass t d m c s from.no_other rest h w free = refl
  other_pass t d m c s (from.other body) rest h w free = block_pass t d m c s body rest h w free

  last_pass : (t : Test) (d : Declared) → Within t d → (c : Context) (s : Scope) (last : from.Other) (rest : List Kind) → Stood d c s (locals_in_other last) rest → IsWrittenOther last → is_free (other_faults s last) ≡ true → block_passes t (bound_last s last) ≡ true
  last_pass t d m c s from.no_other rest h w free = refl
  last_pass t d m c s (from.other body) rest h w free = block_pass t d m c s body rest h w free

  clauses_passing : (t : Test) (d : Declared) → Within t d → (c : Context) (s : Scope) (a : Option Kind) (clauses : from.Clauses) (rest : List Kind) → Stood d c s (locals_in_clauses clauses) rest → AreWrittenClauses clauses →
      is_free (clauses_faults s a clauses) ≡ true → clauses_pass t (bound_clauses s clauses) ≡ true
  clauses_passing t d m c s a from.no_clause rest h w free = refl
  clauses_passing t d m c s a (from.clause at labels body more) rest h w free =
      let behind = with_locals s (locals_in_block body) in
      let front = free_left (labels_faults s a labels ++ block_faults s body) (clauses_faults behind a more) free in
      both_true (list_all (label_passes t) (map (bound_label s) labels) && block_passes t (bound_block s body)) (clauses_pass t (bound_clauses behind more))
      (both_true (list_all (label_passes t) (map (bound_label s) labels)) (block_passes t (bound_block s body))
      (labels_pass t c s (place t d m c s (locals_in_block body ++ locals_in_clauses more) rest h) a labels w.0 (free_left (labels_faults s a labels) (block_faults s body) front))
      (block_pass t d m c s body (kinds_then (locals_in_clauses more) rest) (first_part d c s (locals_in_block body) (locals_in_clauses more) rest h) w.1 (free_right (labels_faults s a labels) (block_faults s body) front)))
      (clauses_passing t d m c behind a more rest (second_part d c s (locals_in_block body) (locals_in_clauses more) rest h) w.2 (free_right (labels_faults s a labels ++ block_faults s body) (clauses_faults behind a more) free))

  pub block_pass : (t : Test) (d : Declared) → Within t d → (c : Context) (s : Scope) (block : from.Block) (rest : List Kind) → Stood d c s (locals_in_block block) rest → IsWrittenBlock block → is_free (block_faults s block) ≡ true →
      block_passes t (bound_block s block) ≡ true
  block_pass t d m c s from.done rest h w free = refl
  block_pass t d m c s (from.then first more) rest h w free =
      let behind = with_locals s (locals_in first) in
      before_pass t d m c s first (kinds_then (locals_in_block more) rest) (first_part d c s (locals_in first) (locals_in_block more) rest h) w.0 (free_left (stmt_faults s first) (block_faults behind more) free)
      (bound_block behind more)
      (block_pass t d m c behind more rest (second_part d c s (locals_in first) (locals_in_block more) rest h) w.1 (free_right (stmt_faults s first) (block_faults behind more) free))
