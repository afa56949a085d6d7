-- What a bound tree needs at once is no more than what its tree can need.
use Rattle.std.specs.Prelude.{◌≡◌, refl, ℕ, zero, suc, ◌+◌, ◌≤◌, max, Bool, true, false, not, ◌&&◌, nat_le, if◌then◌else◌, List, [], ◌∷◌, ◌++◌, length, map, find, Option, Some, None, is_some, option_map, option_and_then, slice_get}
use Rattle.std.specs.Option.{option_or}
use Rattle.std.specs.List.{list_all}
use Rattle.std.specs.Str.{str_eq_ignore_ascii_case}
use Rattle.std.proofs.Common.{sym, ap, ap₂, ◌∙◌, subst, inl, inr}
use Rattle.std.proofs.lemmas.Bool.{true≢false, leb-true}
use Rattle.std.proofs.lemmas.List.{length-map}
use native.Mathlib.Omega.{arith}
use Rattle.ci_base.specs.declared.bounds.TheConstants.{MOST_PARAMETERS}
use Rattle.ci_base.specs.declared.value.Kind.{Kind}
use Rattle.ci_base.specs.declared.value.Kind.TheVariants.{Int, Str}
use Rattle.ci_base.specs.declared.value.Value.{Value}
use Rattle.ci_base.specs.declared.value.Value.TheVariants as values
use Rattle.ci_base.specs.declared.function.SharedName.TheVariants as requests
use Rattle.ci_tree.specs.Tree as from
use Rattle.ci_tree.specs.Bound as to
use Rattle.ci_tree.specs.Operators.{has_kind, joins, joined, formed}
use Rattle.ci_tree.specs.Rooms.{width, call_width, links_width, args_width, label_width, labels_width, stmt_width, other_width, clauses_width, block_width}
use Rattle.ci_tree.specs.Sound.{Context}
use Rattle.ci_names.specs.declared.fault.BindKind.TheVariants as kind_of_fault
use Rattle.ci_names.specs.Given.{Taken, by_value, with_default, to_be_set, Called, Given, private_functions, shared_functions, given_named}
use Rattle.ci_names.specs.Declarations.{Function, Declared, kind_of_type, heading_of, called_function, function_number, function_named}
use Rattle.ci_names.specs.Scopes.{Scope, Local, with_locals, declared_local, locals_in, locals_in_other, locals_in_clauses, locals_in_block, Meaning, meaning, callee}
use Rattle.ci_names.specs.Kinds.{takes_of, is_count, is_name_alone, kind_of, are_taken}
use Rattle.ci_names.specs.Expressions.{broken, differ, start_of, wants_kind, indexed_name, called_name, argument_count, call_faults, call_value, argument, operation, int_operand, expr_faults, what_faults, links_faults, args_faults}
use Rattle.ci_names.specs.Statements.{type_faults, local_name, maybe, part_faults, locals_faults, target, assigned, compared, label_faults, labels_faults, return_faults, stmt_faults, other_faults, clauses_faults, block_faults}
use Rattle.ci_tree.specs.LeftOut.{constant, constants}
use Rattle.ci_names.specs.Binding.{callee_of, heads_in, called_with, bound_expr, bound_what, bound_links, bound_args, bound_call, set_before, locals_before, bound_assign, bound_label, returned, bound_before, bound_other, bound_last, bound_clauses, bound_block}
use Rattle.ci_names.proofs.Free.{is_free, args_free}
use Rattle.ci_names.proofs.AllArguments.{default_of, all_args}
use Rattle.ci_names.proofs.Leads.{left_true, right_true, Fits, IsThere, Plain, plain_all, read_takes, alone_kept}
use Rattle.ci_names.proofs.Meant.{kinds}
use Rattle.ci_names.proofs.Bodies.{free_left, free_right, unbroken, not_false, Stood, fitting, first_part, second_part}
use Rattle.ci_names.proofs.Maxima.{max_least, max_both}
use Rattle.ci_names.proofs.Tall.{tall, what_tall, links_tall, args_tall, maybe_tall, locals_tall, label_tall, labels_tall, stmt_tall, other_tall, clauses_tall, block_tall}

-- no function that is seen takes more than 16 arguments
abbrev pub Few : Scope → Type 0
Few s = (name : List ℕ) (called : Called) → callee s name ≡ Some called → length called.heading.takes ≤ MOST_PARAMETERS

constant_wide : (v : Value) → width (constant v) ≡ 1
constant_wide (values.Int n) = refl
constant_wide (values.Str t) = refl

left_wide : (k : ℕ) (takes : List Taken) → k + length takes ≤ MOST_PARAMETERS → args_width k (constants (map default_of takes)) ≤ MOST_PARAMETERS + 1
left_wide k [] h = omega arith
left_wide k ((by_value kind) ∷ takes) h = left_wide k takes (omega arith)
left_wide k ((with_default kind v) ∷ takes) h =
    let one : k + width (constant v) ≤ MOST_PARAMETERS + 1 = subst (λ n. k + n ≤ MOST_PARAMETERS + 1) (sym (constant_wide v)) (omega arith) in
    let rest = left_wide (k + 1) takes (omega arith) in
    omega arith
left_wide k ((to_be_set kind) ∷ takes) h = left_wide k takes (omega arith)

-- what is known of the arguments of a call
abbrev ArgsWide : Scope → from.Exprs → Type 0
ArgsWide s args = (k : ℕ) (takes : List Taken) → k + length takes ≤ MOST_PARAMETERS → is_count takes args ≡ true → is_free (args_faults s takes args) ≡ true → args_width k (all_args s takes args) ≤ MOST_PARAMETERS + args_tall args

abbrev ReadWide : Scope → from.Exprs → Type 0
ReadWide s args =
    is_count read_takes args ≡ true → are_taken s read_takes args ≡ true → is_free (args_faults s read_takes args) ≡ true →
    call_width (called_with (heads_in s.declared) (to.shared requests.QueRead) (bound_args s args)) ≤ MOST_PARAMETERS + args_tall args

abbrev CallWide : Scope → from.Exprs → Called → Type 0
CallWide s args called =
    is_count called.heading.takes args ≡ true → are_taken s called.heading.takes args ≡ true → is_free (args_faults s called.heading.takes args) ≡ true →
    call_width (called_with (heads_in s.declared) called.callee (bound_args s args)) ≤ MOST_PARAMETERS + args_tall args

plain_wide : (c : Context) (s : Scope) (args : from.Exprs) (called : Called) → Plain c (heads_in s.declared) called → length called.heading.takes ≤ MOST_PARAMETERS → ArgsWide s args → CallWide s args called
plain_wide c s args called plain few wide count taken free =
    let a = wide 0 called.heading.takes (omega arith) count free in
    subst (λ what. call_width what ≤ MOST_PARAMETERS + args_tall args) (sym (plain_all c s called plain args)) (omega arith)

there_wide : (c : Context) (s : Scope) (args : from.Exprs) (called : Called) → IsThere c (heads_in s.declared) called → length called.heading.takes ≤ MOST_PARAMETERS → ArgsWide s args → ReadWide s args → CallWide s args called
there_wide c s args called (inl plain) few wide read = plain_wide c s args called plain few wide
there_wide c s args called (inr same) few wide read = subst (CallWide s args) (sym same) read

called_wide : (c : Context) (s : Scope) (at : ℕ) (args : from.Exprs) (m : Meaning) (o : Option Called) → ((called : Called) → o ≡ Some called → IsThere c (heads_in s.declared) called) → ((called : Called) → o ≡ Some called → length called.heading.takes ≤ MOST_PARAMETERS) →
    ArgsWide s args → ReadWide s args → is_free (called_name s at o m ++ argument_count s at o args) ≡ true → is_free (args_faults s (takes_of o) args) ≡ true →
    call_width (called_with (heads_in s.declared) (callee_of o) (bound_args s args)) ≤ MOST_PARAMETERS + args_tall args
called_wide c s at args m None there few wide read h free = absurd (true≢false (sym h))
called_wide c s at args m (Some called) there few wide read h free =
    let count = not_false (is_count called.heading.takes args) (unbroken (not (is_count called.heading.takes args)) s at kind_of_fault.ArgumentCount h) in
    there_wide c s args called (there called refl) (few called refl) wide read count (args_free s called.heading.takes args count ∙ free) free

read_sum : (wq wm q a b m : ℕ) → wq ≤ q → wm ≤ m → max wq (max (1 + wm) 2) ≤ MOST_PARAMETERS + max q (max a (max b (max m 1)))
read_sum wq wm q a b m h i = omega arith

mutual
  pub expr_wide : (c : Context) (s : Scope) → Fits c s → Few s → (e : from.Expr) → is_free (expr_faults s e) ≡ true → width (bound_expr s e) ≤ tall e
  expr_wide c s f few (from.expr start at what) h = what_wide c s f few at what h

  what_wide : (c : Context) (s : Scope) → Fits c s → Few s → (at : ℕ) (what : from.What) → is_free (what_faults s at what) ≡ true → width (bound_what s what) ≤ what_tall what
  what_wide c s f few at (from.number value) h = omega arith
  what_wide c s f few at (from.literal text) h = omega arith
  what_wide c s f few at (from.name name) h = omega arith
  what_wide c s f few at (from.element name index) h = expr_wide c s f few index (free_right (indexed_name s at (meaning s name) ++ wants_kind s Int index) (expr_faults s index) h)
  what_wide c s f few at (from.call name args) h =
      called_wide c s at args (meaning s name) (callee s name) (f.calls name) (few name) (args_wide c s f few args) (read_wide c s f few args)
      (free_right (call_value s at (callee s name)) (call_faults s at name args) (free_left (call_value s at (callee s name) ++ call_faults s at name args) (args_faults s (takes_of (callee s name)) args) h))
      (free_right (call_value s at (callee s name) ++ call_faults s at name args) (args_faults s (takes_of (callee s name)) args) h)
  what_wide c s f few at (from.unary minus operand) h = expr_wide c s f few operand (free_right (int_operand s at (kind_of s operand)) (expr_faults s operand) h)
  what_wide c s f few at (from.chain first rest) h =
      max_both (width (bound_expr s first)) (links_width (bound_links s rest)) (tall first) (links_tall rest)
      (expr_wide c s f few first (free_left (expr_faults s first) (links_faults s (kind_of s first) rest) h))
      (links_wide c s f few (kind_of s first) rest (free_right (expr_faults s first) (links_faults s (kind_of s first) rest) h))

  links_wide : (c : Context) (s : Scope) → Fits c s → Few s → (left : Option Kind) (rest : from.Links) → is_free (links_faults s left rest) ≡ true → links_width (bound_links s rest) ≤ links_tall rest
  links_wide c s f few left from.no_link h = omega arith
  links_wide c s f few left (from.operand at op right rest) h =
      let next = joined (joins op) left (kind_of s right) in
      let front = free_left (operation s at op left (kind_of s right) ++ expr_faults s right) (links_faults s next rest) h in
      let one = expr_wide c s f few right (free_right (operation s at op left (kind_of s right)) (expr_faults s right) front) in
      max_both (1 + width (bound_expr s right)) (links_width (bound_links s rest)) (1 + tall right) (links_tall rest) (omega arith)
      (links_wide c s f few next rest (free_right (operation s at op left (kind_of s right) ++ expr_faults s right) (links_faults s next rest) h))
  links_wide c s f few left (from.hashes at count rest) h = links_wide c s f few (formed left) rest (free_right (int_operand s at left) (links_faults s (formed left) rest) h)

  args_wide : (c : Context) (s : Scope) → Fits c s → Few s → (args : from.Exprs) (k : ℕ) (takes : List Taken) → k + length takes ≤ MOST_PARAMETERS → is_count takes args ≡ true → is_free (args_faults s takes args) ≡ true →
      args_width k (all_args s takes args) ≤ MOST_PARAMETERS + args_tall args
  args_wide c s f few from.no_expr k takes room n h = left_wide k takes room
  args_wide c s f few (from.more first rest) k [] room n h = absurd (true≢false (sym n))
  args_wide c s f few (from.more first rest) k (taken ∷ takes) room n h =
      let one = expr_wide c s f few first (free_right (argument s taken first) (expr_faults s first) (free_left (argument s taken first ++ expr_faults s first) (args_faults s takes rest) h)) in
      let more = args_wide c s f few rest (k + 1) takes (omega arith) n (free_right (argument s taken first ++ expr_faults s first) (args_faults s takes rest) h) in
      omega arith

  read_wide : (c : Context) (s : Scope) → Fits c s → Few s → (args : from.Exprs) → is_count read_takes args ≡ true → are_taken s read_takes args ≡ true → is_free (args_faults s read_takes args) ≡ true →
      call_width (called_with (heads_in s.declared) (to.shared requests.QueRead) (bound_args s args)) ≤ MOST_PARAMETERS + args_tall args
  read_wide c s f few from.no_expr n h free = absurd (true≢false (sym n))
  read_wide c s f few (from.more queue from.no_expr) n h free = absurd (true≢false (sym n))
  read_wide c s f few (from.more queue (from.more a from.no_expr)) n h free = absurd (true≢false (sym n))
  read_wide c s f few (from.more queue (from.more a (from.more b from.no_expr))) n h free = absurd (true≢false (sym n))
  read_wide c s f few (from.more queue (from.more a (from.more b (from.more mode (from.more last rest))))) n h free = absurd (true≢false (sym n))
  read_wide c s f few (from.more queue (from.more a (from.more b (from.more mode from.no_expr)))) n h free =
      let tail = right_true (has_kind Int (kind_of s queue)) ((is_name_alone a && has_kind Int (kind_of s a)) && ((is_name_alone b && has_kind Str (kind_of s b)) && (has_kind Int (kind_of s mode) && true))) h in
      let last = right_true (is_name_alone a && has_kind Int (kind_of s a)) ((is_name_alone b && has_kind Str (kind_of s b)) && (has_kind Int (kind_of s mode) && true)) tail in
      let sort = alone_kept c s f Int a (left_true (is_name_alone a && has_kind Int (kind_of s a)) ((is_name_alone b && has_kind Str (kind_of s b)) && (has_kind Int (kind_of s mode) && true)) tail) in
      let text = alone_kept c s f Str b (left_true (is_name_alone b && has_kind Str (kind_of s b)) (has_kind Int (kind_of s mode) && true) last) in
      let behind_q = args_faults s (to_be_set Int ∷ to_be_set Str ∷ by_value Int ∷ []) (from.more a (from.more b (from.more mode from.no_expr))) in
      let behind_a = args_faults s (to_be_set Str ∷ by_value Int ∷ []) (from.more b (from.more mode from.no_expr)) in
      let behind_b = args_faults s (by_value Int ∷ []) (from.more mode from.no_expr) in
      let q = expr_wide c s f few queue (free_right (argument s (by_value Int) queue) (expr_faults s queue) (free_left (argument s (by_value Int) queue ++ expr_faults s queue) behind_q free)) in
      let after_q = free_right (argument s (by_value Int) queue ++ expr_faults s queue) behind_q free in
      let after_a = free_right (argument s (to_be_set Int) a ++ expr_faults s a) behind_a after_q in
      let after_b = free_right (argument s (to_be_set Str) b ++ expr_faults s b) behind_b after_a in
      let m = expr_wide c s f few mode (free_right (argument s (by_value Int) mode) (expr_faults s mode) (free_left (argument s (by_value Int) mode ++ expr_faults s mode) [] after_b)) in
      subst (λ what. call_width what ≤ MOST_PARAMETERS + max (tall queue) (max (tall a) (max (tall b) (max (tall mode) 1))))
      (sym (ap₂ (λ x y. called_with (heads_in s.declared) (to.shared requests.QueRead) (to.more (bound_expr s queue) (to.more x (to.more y (to.more (bound_expr s mode) to.no_expr))))) sort.1 text.1))
      (read_sum (width (bound_expr s queue)) (width (bound_expr s mode)) (tall queue) (tall a) (tall b) (tall mode) q m)

-- Statements

-- no function of the files has more than 16 parameters
abbrev pub FewParams : Declared → Type 0
FewParams d = (n : ℕ) (f : Function) → slice_get d.functions n ≡ Some f → length f.params ≤ MOST_PARAMETERS

abbrev AreFew : Option Called → Type 0
AreFew o = (called : Called) → o ≡ Some called → length called.heading.takes ≤ MOST_PARAMETERS

abbrev some_or : {A : Type 0} → A → Option A → A
some_or d None = d
some_or d (Some x) = x

few_same : {x y : Called} → Some x ≡ Some y → length x.heading.takes ≤ MOST_PARAMETERS → length y.heading.takes ≤ MOST_PARAMETERS
few_same {x} {y} e h = subst (λ z. length z.heading.takes ≤ MOST_PARAMETERS) (ap (some_or x) e) h

none_few : {A B : Type 0} {x : A} → None ≡ Some x → B
none_few e = absurd (true≢false (sym (ap is_some e)))

abbrev is_few : Given → Bool
is_few g = nat_le (length g.called.heading.takes) MOST_PARAMETERS

find_few_if : (g : Given) (b : Bool) (o : Option Given) → is_few g ≡ true → AreFew (option_map (λ (x : Given). x.called) o) → AreFew (option_map (λ (x : Given). x.called) (if b then Some g else o))
find_few_if g true o h next called e = few_same e (leb-true (length g.called.heading.takes) MOST_PARAMETERS h)
find_few_if g false o h next called e = next called e

find_few : (test : Given → Bool) (gs : List Given) → list_all is_few gs ≡ true → AreFew (option_map (λ (g : Given). g.called) (find test gs))
find_few test [] all = λ called e. none_few e
find_few test (g ∷ gs) all = find_few_if g (test g) (find test gs) (left_true (is_few g) (list_all is_few gs) all) (find_few test gs (right_true (is_few g) (list_all is_few gs) all))

function_few : (d : Declared) → FewParams d → (n : ℕ) (o : Option Function) → slice_get d.functions n ≡ o → AreFew (option_map (λ (f : Function). record { callee = to.function n; heading = heading_of f }) o)
function_few d few n None h called e = none_few e
function_few d few n (Some f) h called e = few_same e (subst (λ k. k ≤ MOST_PARAMETERS) (sym (length-map f.params (λ p. _))) (few n f h))

number_few : (d : Declared) → FewParams d → (o : Option ℕ) → AreFew (option_and_then (called_function d.functions) o)
number_few d few None called e = none_few e
number_few d few (Some n) called e = function_few d few n (slice_get d.functions n) refl called e

few_or : (a b : Option Called) → AreFew a → AreFew b → AreFew (option_or a b)
few_or (Some x) b ha hb called e = ha called e
few_or None b ha hb called e = hb called e

pub few_in : (d : Declared) (s : Scope) → s.declared ≡ d → FewParams d → Few s
few_in d s same few name =
    subst (λ x. AreFew (function_named x s.file name)) (sym same)
    (few_or (option_and_then (called_function d.functions) (function_number d.functions s.file name)) (given_named name)
    (number_few d few (function_number d.functions s.file name))
    (find_few (λ g. str_eq_ignore_ascii_case g.name name) (private_functions ++ shared_functions) refl))

-- an assignment in front
max_in_front : (w b t l : ℕ) → w ≤ t → b ≤ l → max w b ≤ max t l
max_in_front w b t l h i = omega arith

set_wide : (c : Context) (s : Scope) (kind : Kind) (at : ℕ) → Fits c s → Few s → (o : Option from.Expr) → is_free (maybe (part_faults s kind) o) ≡ true → (block : to.Block) → block_width (set_before s at o block) ≤ max (maybe_tall o) (block_width block)
set_wide c s kind at f few None free block = omega arith
set_wide c s kind at f few (Some e) free block = max_in_front (width (bound_expr s e)) (block_width block) (tall e) (block_width block) (expr_wide c s f few e (free_right (wants_kind s kind e) (expr_faults s e) free)) (omega arith)

locals_wide : (d : Declared) (c : Context) (s : Scope) → FewParams d → (kind : Kind) (ls : List from.Local) (rest : List Kind) → Stood d c s (map (declared_local kind) ls) rest → is_free (locals_faults s kind ls) ≡ true →
    (block : to.Block) → block_width (locals_before s kind ls block) ≤ max (locals_tall ls) (block_width block)
locals_wide d c s few kind [] rest h free block = omega arith
locals_wide d c s few kind (l ∷ ls) rest h free block =
    let next = with_locals s (declared_local kind l ∷ []) in
    let front = free_left (local_name s l.at l.name ++ maybe (part_faults s kind) l.value) (locals_faults next kind ls) free in
    let one = set_wide c s kind l.at (fitting d c s (map (declared_local kind) (l ∷ ls)) rest h) (few_in d s h.declared few) l.value (free_right (local_name s l.at l.name) (maybe (part_faults s kind) l.value) front) (locals_before next kind ls block) in
    let more = locals_wide d c next few kind ls rest (second_part d c s (declared_local kind l ∷ []) (map (declared_local kind) ls) rest h) (free_right (local_name s l.at l.name ++ maybe (part_faults s kind) l.value) (locals_faults next kind ls) free) block in
    omega arith

assigned_wide : (c : Context) (s : Scope) → Fits c s → Few s → (at : ℕ) (name : List ℕ) (index : Option from.Expr) (equals : ℕ) (value : from.Expr) →
    is_free (expr_faults s (target at name index) ++ assigned s equals (target at name index) value ++ expr_faults s value) ≡ true → stmt_width (bound_assign s at (meaning s name) index value) ≤ max (maybe_tall index) (1 + tall value)
assigned_wide c s f few at name None equals value free =
    let v = expr_wide c s f few value (free_right (expr_faults s (target at name None) ++ assigned s equals (target at name None) value) (expr_faults s value) free) in
    omega arith
assigned_wide c s f few at name (Some index) equals value free =
    let front = free_left (expr_faults s (target at name (Some index)) ++ assigned s equals (target at name (Some index)) value) (expr_faults s value) free in
    let whole = free_left (expr_faults s (target at name (Some index))) (assigned s equals (target at name (Some index)) value) front in
    let i = expr_wide c s f few index (free_right (indexed_name s at (meaning s name) ++ wants_kind s Int index) (expr_faults s index) whole) in
    let v = expr_wide c s f few value (free_right (expr_faults s (target at name (Some index)) ++ assigned s equals (target at name (Some index)) value) (expr_faults s value) free) in
    omega arith

compared_wide : (c : Context) (s : Scope) → Fits c s → Few s → (a : Option Kind) (value : from.Expr) → is_free (compared s a value) ≡ true → width (bound_expr s value) ≤ tall value
compared_wide c s f few a value free = expr_wide c s f few value (free_right (broken (differ a (kind_of s value)) s (start_of value) kind_of_fault.KindsDiffer) (expr_faults s value) free)

label_wide : (c : Context) (s : Scope) → Fits c s → Few s → (a : Option Kind) (label : from.Label) → is_free (label_faults s a label) ≡ true → label_width (bound_label s label) ≤ label_tall label
label_wide c s f few a (from.one value) free = let v = compared_wide c s f few a value free in omega arith
label_wide c s f few a (from.range low high) free =
    let v = compared_wide c s f few a low (free_left (compared s a low) (compared s a high) free) in
    let w = compared_wide c s f few a high (free_right (compared s a low) (compared s a high) free) in
    omega arith
label_wide c s f few a (from.compared at relation value) free = let v = compared_wide c s f few a value free in omega arith

labels_wide : (c : Context) (s : Scope) → Fits c s → Few s → (a : Option Kind) (labels : List from.Label) → is_free (labels_faults s a labels) ≡ true → labels_width (map (bound_label s) labels) ≤ labels_tall labels
labels_wide c s f few a [] free = omega arith
labels_wide c s f few a (label ∷ labels) free =
    max_both (label_width (bound_label s label)) (labels_width (map (bound_label s) labels)) (label_tall label) (labels_tall labels)
    (label_wide c s f few a label (free_left (label_faults s a label) (labels_faults s a labels) free))
    (labels_wide c s f few a labels (free_right (label_faults s a label) (labels_faults s a labels) free))

returned_wide : (c : Context) (s : Scope) → Fits c s → Few s → (at : ℕ) (gives : Option Kind) (value : Option from.Expr) → is_free (return_faults s at gives value) ≡ true → max 1 (width (returned s value)) ≤ max 1 (maybe_tall value)
returned_wide c s f few at gives None free = omega arith
returned_wide c s f few at None (Some value) free = absurd (true≢false (sym free))
returned_wide c s f few at (Some kind) (Some value) free = let v = expr_wide c s f few value (free_right (wants_kind s kind value) (expr_faults s value) free) in omega arith

part_wide : (c : Context) (s : Scope) → Fits c s → Few s → (kind : Kind) (e : from.Expr) → is_free (part_faults s kind e) ≡ true → width (bound_expr s e) ≤ tall e
part_wide c s f few kind e free = expr_wide c s f few e (free_right (wants_kind s kind e) (expr_faults s e) free)

max_left : (a b l : ℕ) → max a b ≤ l → a ≤ l
max_left a b l h = omega arith

max_right : (a b l : ℕ) → max a b ≤ l → b ≤ l
max_right a b l h = omega arith

-- the body of FOR has one fewer
for_room : (x y z l : ℕ) → max x (max y (max 4 (1 + z))) ≤ l → (m : ℕ) × (1 ≤ m) × (z ≤ m) × (l ≡ 1 + m)
for_room x y z zero h = absurd (none h)
  where
    none : max x (max y (max 4 (1 + z))) ≤ 0 → ⊥
    none i = omega arith
for_room x y z (suc m) h = (m, omega arith, omega arith, omega arith)

for_sum : (x y z u v w b m l : ℕ) → l ≡ 1 + m → max x (max (1 + y) (max 4 (1 + z))) ≤ l → u ≤ x → v ≤ y → w ≤ m → b ≤ l → max (max u (max (1 + v) (max 4 (1 + w)))) b ≤ l
for_sum x y z u v w b m l e h hu hv hw hb = omega arith

-- the kinds of locals before others
abbrev kinds_then : List Local → List Kind → List Kind
kinds_then ls rest = kinds ls ++ rest

mutual
  before_wide : (d : Declared) (c : Context) (s : Scope) → FewParams d → (stmt : from.Stmt) (rest : List Kind) → Stood d c s (locals_in stmt) rest → is_free (stmt_faults s stmt) ≡ true →
      (l : ℕ) → 1 ≤ l → stmt_tall stmt ≤ l → (block : to.Block) → block_width block ≤ l → block_width (bound_before s stmt block) ≤ l
  before_wide d c s few (from.declare at kind locals) rest h free l least t block b =
      let w = locals_wide d c s few (kind_of_type kind.name) locals rest h (free_right (type_faults s kind) (locals_faults s (kind_of_type kind.name) locals) free) block in
      omega arith
  before_wide d c s few (from.assign at name index equals value) rest h free l least t block b =
      let w = assigned_wide c s (fitting d c s [] rest h) (few_in d s h.declared few) at name index equals value free in
      max_least (stmt_width (bound_assign s at (meaning s name) index value)) (block_width block) l (omega arith) b
  before_wide d c s few (from.call_of at name args) rest h free l least t block b =
      let f = fitting d c s [] rest h in
      let w = called_wide c s at args (meaning s name) (callee s name) (f.calls name) (few_in d s h.declared few name) (args_wide c s f (few_in d s h.declared few) args) (read_wide c s f (few_in d s h.declared few) args)
      (free_left (call_faults s at name args) (args_faults s (takes_of (callee s name)) args) free) (free_right (call_faults s at name args) (args_faults s (takes_of (callee s name)) args) free) in
      max_least (call_width (bound_call s name args)) (block_width block) l (omega arith) b
  before_wide d c s few (from.choose at test body last) rest h free l least t block b =
      let behind = with_locals s (locals_in_block body) in
      let front = free_left (part_faults s Int test ++ block_faults s body) (other_faults behind last) free in
      let inner = max_right (tall test) (max (block_tall body) (other_tall last)) l t in
      let u = part_wide c s (fitting d c s (locals_in_block body ++ locals_in_other last) rest h) (few_in d s h.declared few) Int test (free_left (part_faults s Int test) (block_faults s body) front) in
      let v = block_wide d c s few body (kinds_then (locals_in_other last) rest) (first_part d c s (locals_in_block body) (locals_in_other last) rest h) (free_right (part_faults s Int test) (block_faults s body) front) l least (max_left (block_tall body) (other_tall last) l inner) in
      let w = other_wide d c behind few last rest (second_part d c s (locals_in_block body) (locals_in_other last) rest h) (free_right (part_faults s Int test ++ block_faults s body) (other_faults behind last) free) l least (max_right (block_tall body) (other_tall last) l inner) in
      let x = max_left (tall test) (max (block_tall body) (other_tall last)) l t in
      max_least (max (width (bound_expr s test)) (max (block_width (bound_block s body)) (other_width (bound_other behind last)))) (block_width block) l
      (max_least (width (bound_expr s test)) (max (block_width (bound_block s body)) (other_width (bound_other behind last))) l (omega arith) (max_least (block_width (bound_block s body)) (other_width (bound_other behind last)) l v w)) b
  before_wide d c s few (from.while at test body) rest h free l least t block b =
      let u = part_wide c s (fitting d c s (locals_in_block body) rest h) (few_in d s h.declared few) Int test (free_left (part_faults s Int test) (block_faults s body) free) in
      let x = max_left (tall test) (block_tall body) l t in
      let v = block_wide d c s few body rest h (free_right (part_faults s Int test) (block_faults s body) free) l least (max_right (tall test) (block_tall body) l t) in
      max_least (max (width (bound_expr s test)) (block_width (bound_block s body))) (block_width block) l (max_least (width (bound_expr s test)) (block_width (bound_block s body)) l (omega arith) v) b
  before_wide d c s few (from.for at name_at name first last body) rest h free l least t block b =
      let three = free_left (part_faults s Int (target name_at name None) ++ part_faults s Int first ++ part_faults s Int last) (block_faults s body) free in
      let two = free_left (part_faults s Int (target name_at name None) ++ part_faults s Int first) (part_faults s Int last) three in
      let f = fitting d c s (locals_in_block body) rest h in
      let u = part_wide c s f (few_in d s h.declared few) Int first (free_right (part_faults s Int (target name_at name None)) (part_faults s Int first) two) in
      let v = part_wide c s f (few_in d s h.declared few) Int last (free_right (part_faults s Int (target name_at name None) ++ part_faults s Int first) (part_faults s Int last) three) in
      let w = for_room (tall first) (1 + tall last) (block_tall body) l t in
      let y = block_wide d c s few body rest h (free_right (part_faults s Int (target name_at name None) ++ part_faults s Int first ++ part_faults s Int last) (block_faults s body) free) w.0 w.1 w.2 in
      for_sum (tall first) (tall last) (block_tall body) (width (bound_expr s first)) (width (bound_expr s last)) (block_width (bound_block s body)) (block_width block) w.0 l w.3 t u v y b
  before_wide d c s few (from.select at subject clauses last) rest h free l least t block b =
      let behind = with_locals s (locals_in_clauses clauses) in
      let front = free_left (expr_faults s subject ++ clauses_faults s (kind_of s subject) clauses) (other_faults behind last) free in
      let inner = max_right (tall subject) (max (clauses_tall clauses) (other_tall last)) l t in
      let u = expr_wide c s (fitting d c s (locals_in_clauses clauses ++ locals_in_other last) rest h) (few_in d s h.declared few) subject (free_left (expr_faults s subject) (clauses_faults s (kind_of s subject) clauses) front) in
      let x = max_left (tall subject) (max (clauses_tall clauses) (other_tall last)) l t in
      let v = clauses_wide d c s few (kind_of s subject) clauses (kinds_then (locals_in_other last) rest) (first_part d c s (locals_in_clauses clauses) (locals_in_other last) rest h) (free_right (expr_faults s subject) (clauses_faults s (kind_of s subject) clauses) front) l least (max_left (clauses_tall clauses) (other_tall last) l inner) in
      let w = last_wide d c behind few last rest (second_part d c s (locals_in_clauses clauses) (locals_in_other last) rest h) (free_right (expr_faults s subject ++ clauses_faults s (kind_of s subject) clauses) (other_faults behind last) free) l least (max_right (clauses_tall clauses) (other_tall last) l inner) in
      max_least (max (width (bound_expr s subject)) (max (clauses_width (bound_clauses s clauses)) (block_width (bound_last behind last)))) (block_width block) l
      (max_least (width (bound_expr s subject)) (max (clauses_width (bound_clauses s clauses)) (block_width (bound_last behind last))) l (omega arith) (max_least (clauses_width (bound_clauses s clauses)) (block_width (bound_last behind last)) l v w)) b
  before_wide d c s few (from.return at value) rest h free l least t block b =
      let u = returned_wide c s (fitting d c s [] rest h) (few_in d s h.declared few) at s.gives value free in
      max_least (max 1 (width (returned s value))) (block_width block) l (omega arith) b

  other_wide : (d : Declared) (c : Context) (s : Scope) → FewParams d → (last : from.Other) (rest : List Kind) → Stood d c s (locals_in_other last) rest → is_free (other_faults s last) ≡ true →
      (l : ℕ) → 1 ≤ l → other_tall last ≤ l → other_width (bound_other s last) ≤ l
  other_wide d c s few from.no_other rest h free l least t = omega arith
  other_wide d c s few (from.other body) rest h free l least t = block_wide d c s few body rest h free l least t

  last_wide : (d : Declared) (c : Context) (s : Scope) → FewParams d → (last : from.Other) (rest : List Kind) → Stood d c s (locals_in_other last) rest → is_free (other_faults s last) ≡ true →
      (l : ℕ) → 1 ≤ l → other_tall last ≤ l → block_width (bound_last s last) ≤ l
  last_wide d c s few from.no_other rest h free l least t = omega arith
  last_wide d c s few (from.other body) rest h free l least t = block_wide d c s few body rest h free l least t

  clauses_wide : (d : Declared) (c : Context) (s : Scope) → FewParams d → (a : Option Kind) (clauses : from.Clauses) (rest : List Kind) → Stood d c s (locals_in_clauses clauses) rest → is_free (clauses_faults s a clauses) ≡ true →
      (l : ℕ) → 1 ≤ l → clauses_tall clauses ≤ l → clauses_width (bound_clauses s clauses) ≤ l
  clauses_wide d c s few a from.no_clause rest h free l least t = omega arith
  clauses_wide d c s few a (from.clause at labels body more) rest h free l least t =
      let behind = with_locals s (locals_in_block body) in
      let front = free_left (labels_faults s a labels ++ block_faults s body) (clauses_faults behind a more) free in
      let inner = max_right (labels_tall labels) (max (block_tall body) (clauses_tall more)) l t in
      let u = labels_wide c s (fitting d c s (locals_in_block body ++ locals_in_clauses more) rest h) (few_in d s h.declared few) a labels (free_left (labels_faults s a labels) (block_faults s body) front) in
      let x = max_left (labels_tall labels) (max (block_tall body) (clauses_tall more)) l t in
      let v = block_wide d c s few body (kinds_then (locals_in_clauses more) rest) (first_part d c s (locals_in_block body) (locals_in_clauses more) rest h) (free_right (labels_faults s a labels) (block_faults s body) front) l least (max_left (block_tall body) (clauses_tall more) l inner) in
      let w = clauses_wide d c behind few a more rest (second_part d c s (locals_in_block body) (locals_in_clauses more) rest h) (free_right (labels_faults s a labels ++ block_faults s body) (clauses_faults behind a more) free) l least (max_right (block_tall body) (clauses_tall more) l inner) in
      max_least (labels_width (map (bound_label s) labels)) (max (block_width (bound_block s body)) (clauses_width (bound_clauses behind more))) l (omega arith) (max_least (block_width (bound_block s body)) (clauses_width (bound_clauses behind more)) l v w)

  pub block_wide : (d : Declared) (c : Context) (s : Scope) → FewParams d → (block : from.Block) (rest : List Kind) → Stood d c s (locals_in_block block) rest → is_free (block_faults s block) ≡ true →
      (l : ℕ) → 1 ≤ l → block_tall block ≤ l → block_width (bound_block s block) ≤ l
  block_wide d c s few from.done rest h free l least t = omega arith
  block_wide d c s few (from.then first more) rest h free l least t =
      let behind = with_locals s (locals_in first) in
      before_wide d c s few first (kinds_then (locals_in_block more) rest) (first_part d c s (locals_in first) (locals_in_block more) rest h) (free_left (stmt_faults s first) (block_faults behind more) free) l least (max_left (stmt_tall first) (block_tall more) l t)
      (bound_block behind more)
      (block_wide d c behind few more rest (second_part d c s (locals_in first) (locals_in_block more) rest h) (free_right (stmt_faults s first) (block_faults behind more) free) l least (max_right (stmt_tall first) (block_tall more) l t))
