-- An expression that has a kind has it also where its names are replaced.
use Rattle.std.specs.Prelude.{◌≡◌, refl, ℕ, Bool, true, false, ◌&&◌, ◌⊎◌, if◌then◌else◌, List, [], ◌∷◌, map, Option, Some, None, is_some}
use Rattle.std.specs.List.{list_all}
use Rattle.std.proofs.Common.{sym, ap, ap₂, ◌∙◌, subst, inl, inr}
use Rattle.std.proofs.lemmas.Bool.{true≢false}
use Rattle.ci_base.specs.declared.value.Kind.{Kind}
use Rattle.ci_base.specs.declared.value.Kind.TheVariants.{Int, Str}
use Rattle.ci_base.specs.declared.value.Value.{Value}
use Rattle.ci_base.specs.declared.value.Value.TheVariants as values
use Rattle.ci_base.specs.declared.function.SharedName.TheVariants as requests
use Rattle.ci_tree.specs.Tree as from
use Rattle.ci_tree.specs.Bound as to
use Rattle.ci_tree.specs.Operators.{same_kind, has_kind, Joins, sums, compares, counts, joins, joined, formed}
use Rattle.ci_tree.specs.Sound as sound
use Rattle.ci_tree.specs.Sound.{Context, Signature, scalar_kind, array_kind, signature, have_kinds, is_call, call_kind, kind_of_value}
use Rattle.ci_names.specs.Given.{Taken, by_value, with_default, to_be_set, Called}
use Rattle.ci_names.specs.Scopes.{Scope, Meaning, scalar, array, only_function, nothing, meaning, callee}
use Rattle.ci_names.specs.Kinds.{plain_kind, element_kind, takes_of, gives_of, is_count, is_name_alone, is_taken, kind_of, what_kind, links_kind, are_taken}
use Rattle.ci_tree.specs.BoundTests.{is_plain}
use Rattle.ci_tree.specs.LeftOut.{Heads, constant, constants, count_of, call_given}
use Rattle.ci_names.specs.Binding.{scalar_of, array_of, callee_of, heads_in, called_with, bound_expr, bound_what, bound_links, bound_args}
use Rattle.ci_names.proofs.AllArguments.{default_of, all_args, Stands, given_all}

no_some : {A : Type 0} {kind : Kind} → None ≡ Some kind → A
no_some e = absurd (true≢false (sym (ap is_some e)))

pub left_true : (a b : Bool) → (a && b) ≡ true → a ≡ true
left_true true b h = refl
left_true false b h = h

pub right_true : (a b : Bool) → (a && b) ≡ true → b ≡ true
right_true true b h = h
right_true false b h = absurd (true≢false (sym h))

pub both_true : (a b : Bool) → a ≡ true → b ≡ true → (a && b) ≡ true
both_true true b h i = i
both_true false b h i = h

-- the second has the kind that the first has, if any
abbrev pub Leads : Option Kind → Option Kind → Type 0
Leads a b = (kind : Kind) → a ≡ Some kind → b ≡ Some kind

pub has_leads : (want : Kind) (a b : Option Kind) → Leads a b → has_kind want a ≡ true → has_kind want b ≡ true
has_leads want None b h e = absurd (true≢false (sym e))
has_leads want (Some kind) b h e = ap (has_kind want) (h kind refl) ∙ e

none_left : (j : Joins) (b : Option Kind) → joined j None b ≡ None
none_left sums None = refl
none_left sums (Some Int) = refl
none_left sums (Some Str) = refl
none_left compares None = refl
none_left compares (Some Int) = refl
none_left compares (Some Str) = refl
none_left counts None = refl
none_left counts (Some Int) = refl
none_left counts (Some Str) = refl

none_right : (j : Joins) (a : Option Kind) → joined j a None ≡ None
none_right sums None = refl
none_right sums (Some Int) = refl
none_right sums (Some Str) = refl
none_right compares None = refl
none_right compares (Some Int) = refl
none_right compares (Some Str) = refl
none_right counts None = refl
none_right counts (Some Int) = refl
none_right counts (Some Str) = refl

joined_leads : (j : Joins) (a a' b b' : Option Kind) → Leads a a' → Leads b b' → Leads (joined j a b) (joined j a' b')
joined_leads j None a' b b' h i kind e = no_some (sym (none_left j b) ∙ e)
joined_leads j (Some x) a' None b' h i kind e = no_some (sym (none_right j (Some x)) ∙ e)
joined_leads j (Some x) a' (Some y) b' h i kind e = ap₂ (joined j) (h x refl) (i y refl) ∙ e

formed_leads : (a a' : Option Kind) → Leads a a' → Leads (formed a) (formed a')
formed_leads None a' h kind e = no_some e
formed_leads (Some x) a' h kind e = ap formed (h x refl) ∙ e

if_leads : (p q : Bool) (a b : Option Kind) → (p ≡ true → q ≡ true) → Leads a b → Leads (if p then a else None) (if q then b else None)
if_leads true q a b f h kind e = ap (λ t. if t then b else None) (f refl) ∙ h kind e
if_leads false q a b f h kind e = no_some e

-- What is called

-- the kind of an argument that is taken
abbrev pub taken_kind : Taken → Kind
taken_kind (by_value kind) = kind
taken_kind (with_default kind default) = kind
taken_kind (to_be_set kind) = kind

-- it is taken by value, and its default has the kind
abbrev pub is_right : Taken → Bool
is_right (by_value kind) = true
is_right (with_default kind default) = same_kind kind (kind_of_value default)
is_right (to_be_set kind) = false

abbrev pub read_takes : List Taken
read_takes = by_value Int ∷ to_be_set Int ∷ to_be_set Str ∷ by_value Int ∷ []

abbrev pub read_called : Called
read_called = record { callee = to.shared requests.QueRead; heading = record { takes = read_takes; gives = Some Int } }

-- a function whose arguments are taken by value, among functions with these heads
pub record Plain (c : Context) (heads : Heads) (called : Called) : Type 0 where
  pub right : list_all is_right called.heading.takes ≡ true
  pub signed : signature c called.callee ≡ Some (record { takes = map taken_kind called.heading.takes; gives = called.heading.gives })
  pub same : (args : to.Exprs) → called_with heads called.callee args ≡ call_given heads called.callee args
  pub firsts : Stands heads called.callee called.heading.takes
  pub plain : is_plain called.callee ≡ true

-- a call of it has all arguments
pub plain_all : (c : Context) (s : Scope) (called : Called) → Plain c (heads_in s.declared) called → (args : from.Exprs) →
    called_with (heads_in s.declared) called.callee (bound_args s args) ≡ to.call called.callee (count_of (bound_args s args)) (all_args s called.heading.takes args)
plain_all c s called plain args = plain.same (bound_args s args) ∙ given_all (heads_in s.declared) called.callee s called.heading.takes args plain.firsts

-- what a name means that is called is there
abbrev pub IsThere : Context → Heads → Called → Type 0
IsThere c heads called = Plain c heads called ⊎ (called ≡ read_called)

-- each name means something that is there, of the kind that it has
pub record Fits (c : Context) (s : Scope) : Type 0 where
  pub scalars : (name : List ℕ) (of : to.Scalar) (kind : Kind) → meaning s name ≡ scalar of kind → scalar_kind c of ≡ Some kind
  pub arrays : (name : List ℕ) (a : ℕ) (kind : Kind) → meaning s name ≡ array a kind → array_kind c a ≡ Some kind
  pub calls : (name : List ℕ) (called : Called) → callee s name ≡ Some called → IsThere c (heads_in s.declared) called

pub plain_kept : (c : Context) (s : Scope) → Fits c s → (name : List ℕ) (m : Meaning) → meaning s name ≡ m → Leads (plain_kind m) (scalar_kind c (scalar_of m))
plain_kept c s fits name (scalar of kind) h other e = fits.scalars name of kind h ∙ e
plain_kept c s fits name (array a kind) h other e = no_some e
plain_kept c s fits name only_function h other e = no_some e
plain_kept c s fits name nothing h other e = no_some e

pub element_kept : (c : Context) (s : Scope) → Fits c s → (name : List ℕ) (m : Meaning) → meaning s name ≡ m → Leads (element_kind m) (array_kind c (array_of m))
element_kept c s fits name (scalar of kind) h other e = no_some e
element_kept c s fits name (array a kind) h other e = fits.arrays name a kind h ∙ e
element_kept c s fits name only_function h other e = no_some e
element_kept c s fits name nothing h other e = no_some e

same_has : (kind : Kind) (v : Value) (c : Context) → same_kind kind (kind_of_value v) ≡ true → has_kind kind (sound.kind_of c (constant v)) ≡ true
same_has kind (values.Int n) c h = h
same_has kind (values.Str t) c h = h

left_out_kept : (c : Context) (takes : List Taken) → list_all is_right takes ≡ true → is_count takes from.no_expr ≡ true → have_kinds c (map taken_kind takes) (constants (map default_of takes)) ≡ true
left_out_kept c [] r h = refl
left_out_kept c ((by_value kind) ∷ takes) r h = absurd (true≢false (sym h))
left_out_kept c ((with_default kind v) ∷ takes) r h =
    both_true (has_kind kind (sound.kind_of c (constant v))) (have_kinds c (map taken_kind takes) (constants (map default_of takes)))
    (same_has kind v c (left_true (same_kind kind (kind_of_value v)) (list_all is_right takes) r))
    (left_out_kept c takes (right_true (same_kind kind (kind_of_value v)) (list_all is_right takes) r) h)
left_out_kept c ((to_be_set kind) ∷ takes) r h = absurd (true≢false (sym h))

-- Calls

-- a name alone is a scalar
pub alone_kept : (c : Context) (s : Scope) → Fits c s → (want : Kind) (e : from.Expr) → (is_name_alone e && has_kind want (kind_of s e)) ≡ true →
    (of : to.Scalar) × (bound_expr s e ≡ to.scalar of) × (has_kind want (scalar_kind c of) ≡ true)
alone_kept c s fits want (from.expr start at (from.name name)) h = (
  scalar_of (meaning s name),
  refl,
  has_leads want (plain_kind (meaning s name)) (scalar_kind c (scalar_of (meaning s name))) (plain_kept c s fits name (meaning s name) refl)
      (right_true (is_name_alone (from.expr start at (from.name name))) (has_kind want (plain_kind (meaning s name))) h),
)
alone_kept c s fits want (from.expr start at (from.number value)) h = absurd (true≢false (sym h))
alone_kept c s fits want (from.expr start at (from.literal text)) h = absurd (true≢false (sym h))
alone_kept c s fits want (from.expr start at (from.element name index)) h = absurd (true≢false (sym h))
alone_kept c s fits want (from.expr start at (from.call name args)) h = absurd (true≢false (sym h))
alone_kept c s fits want (from.expr start at (from.unary minus operand)) h = absurd (true≢false (sym h))
alone_kept c s fits want (from.expr start at (from.chain first rest)) h = absurd (true≢false (sym h))

-- a call of QueRead that is right
abbrev pub IsRead : Context → to.Call → Type 0
IsRead c what =
    (queue : to.Expr) × (sort : to.Scalar) × (text : to.Scalar) × (mode : to.Expr) × (what ≡ to.que_read queue sort text mode)
    × (is_call c (to.que_read queue sort text mode) ≡ true)

-- its four arguments
read_of : (c : Context) (heads : Heads) (queue a b mode : to.Expr) (sort text : to.Scalar) → a ≡ to.scalar sort → b ≡ to.scalar text →
    has_kind Int (sound.kind_of c queue) ≡ true → has_kind Int (scalar_kind c sort) ≡ true → has_kind Str (scalar_kind c text) ≡ true → has_kind Int (sound.kind_of c mode) ≡ true →
    IsRead c (called_with heads (to.shared requests.QueRead) (to.more queue (to.more a (to.more b (to.more mode to.no_expr)))))
read_of c heads queue a b mode sort text ha hb hq hs ht hm = (
  queue,
  sort,
  text,
  mode,
  ap₂ (λ x y. called_with heads (to.shared requests.QueRead) (to.more queue (to.more x (to.more y (to.more mode to.no_expr))))) ha hb,
  both_true (has_kind Int (sound.kind_of c queue) && has_kind Int (scalar_kind c sort) && has_kind Str (scalar_kind c text)) (has_kind Int (sound.kind_of c mode))
      (both_true (has_kind Int (sound.kind_of c queue) && has_kind Int (scalar_kind c sort)) (has_kind Str (scalar_kind c text))
      (both_true (has_kind Int (sound.kind_of c queue)) (has_kind Int (scalar_kind c sort)) hq hs) ht) hm,
)

-- the arguments can stand where these are taken
abbrev pub Takes : Scope → List Taken → from.Exprs → Type 0
Takes s takes args = (is_count takes args && are_taken s takes args) ≡ true

abbrev no_kind : Option Kind
no_kind = None

none_if : {A : Type 0} {kind : Kind} (b : Bool) → (if b then no_kind else no_kind) ≡ Some kind → A
none_if true h = no_some h
none_if false h = no_some h

-- what is given where a test holds
pub given_if : (b : Bool) (a : Option Kind) (kind : Kind) → (if b then a else None) ≡ Some kind → (b ≡ true) × (a ≡ Some kind)
given_if true a kind h = (refl, h)
given_if false a kind h = no_some h

plain_call : (c : Context) (s : Scope) (called : Called) → Plain c (heads_in s.declared) called → (args : from.Exprs) → have_kinds c (map taken_kind called.heading.takes) (all_args s called.heading.takes args) ≡ true →
    is_call c (called_with (heads_in s.declared) called.callee (bound_args s args)) ≡ true
plain_call c s called plain args h =
    ap (is_call c) (plain_all c s called plain args)
    ∙ ap (λ x. is_some x && have_kinds c (sound.takes_of x) (all_args s called.heading.takes args)) plain.signed
    ∙ h

plain_gives : (c : Context) (s : Scope) (called : Called) → Plain c (heads_in s.declared) called → (args : from.Exprs) → Leads called.heading.gives (call_kind c (called_with (heads_in s.declared) called.callee (bound_args s args)))
plain_gives c s called plain args kind e = ap (call_kind c) (plain_all c s called plain args) ∙ ap sound.gives_of plain.signed ∙ e

-- where a call is right and gives this kind
call_gives : (c : Context) (what : to.Call) (kind : Kind) → is_call c what ≡ true → call_kind c what ≡ Some kind → sound.kind_of c (to.called what) ≡ Some kind
call_gives c what kind h e = ap (λ b. if b then call_kind c what else None) h ∙ e

argument_kept : (c : Context) (s : Scope) (taken : Taken) (e : from.Expr) → Leads (kind_of s e) (sound.kind_of c (bound_expr s e)) → is_right taken ≡ true → is_taken taken e (kind_of s e) ≡ true →
    has_kind (taken_kind taken) (sound.kind_of c (bound_expr s e)) ≡ true
argument_kept c s (by_value kind) e leads r h = has_leads kind (kind_of s e) (sound.kind_of c (bound_expr s e)) leads h
argument_kept c s (with_default kind default) e leads r h = has_leads kind (kind_of s e) (sound.kind_of c (bound_expr s e)) leads h
argument_kept c s (to_be_set kind) e leads r h = absurd (true≢false (sym r))

-- what is known of the arguments of a call
abbrev pub ArgsKept : Context → Scope → from.Exprs → Type 0
ArgsKept c s args = (takes : List Taken) → list_all is_right takes ≡ true → is_count takes args ≡ true → are_taken s takes args ≡ true → have_kinds c (map taken_kind takes) (all_args s takes args) ≡ true

abbrev pub ReadKept : Context → Scope → from.Exprs → Type 0
ReadKept c s args = is_count read_takes args ≡ true → are_taken s read_takes args ≡ true → IsRead c (called_with (heads_in s.declared) (to.shared requests.QueRead) (bound_args s args))

-- a call whose arguments can stand is right, and gives what its function gives
abbrev pub IsKept : Context → Scope → from.Exprs → Called → Type 0
IsKept c s args called =
    Takes s called.heading.takes args →
    (is_call c (called_with (heads_in s.declared) called.callee (bound_args s args)) ≡ true) × Leads called.heading.gives (call_kind c (called_with (heads_in s.declared) called.callee (bound_args s args)))

read_is_kept : (c : Context) (s : Scope) (args : from.Exprs) → ReadKept c s args → IsKept c s args read_called
read_is_kept c s args r h =
    let found = r (left_true (is_count read_takes args) (are_taken s read_takes args) h) (right_true (is_count read_takes args) (are_taken s read_takes args) h) in
    (ap (is_call c) found.4 ∙ found.5, λ kind e. ap (call_kind c) found.4 ∙ e)

pub call_kept : (c : Context) (s : Scope) (args : from.Exprs) (called : Called) → IsThere c (heads_in s.declared) called → ArgsKept c s args → ReadKept c s args → IsKept c s args called
call_kept c s args called (inl plain) a r h = (
  plain_call c s called plain args
      (a called.heading.takes plain.right (left_true (is_count called.heading.takes args) (are_taken s called.heading.takes args) h) (right_true (is_count called.heading.takes args) (are_taken s called.heading.takes args) h)),
  plain_gives c s called plain args,
)
call_kept c s args called (inr read) a r h = subst (IsKept c s args) (sym read) (read_is_kept c s args r) h

called_kept : (c : Context) (s : Scope) (args : from.Exprs) (o : Option Called) → ((called : Called) → o ≡ Some called → IsThere c (heads_in s.declared) called) → ArgsKept c s args → ReadKept c s args →
    Leads (if is_count (takes_of o) args && are_taken s (takes_of o) args then gives_of o else None) (sound.kind_of c (to.called (called_with (heads_in s.declared) (callee_of o) (bound_args s args))))
called_kept c s args None there a r kind e = none_if (is_count [] args && are_taken s [] args) e
called_kept c s args (Some called) there a r kind e =
    let given = given_if (is_count called.heading.takes args && are_taken s called.heading.takes args) called.heading.gives kind e in
    let kept = call_kept c s args called (there called refl) a r given.0 in
    call_gives c (called_with (heads_in s.declared) called.callee (bound_args s args)) kind kept.0 (kept.1 kind given.1)

mutual
  pub expr_kept : (c : Context) (s : Scope) → Fits c s → (e : from.Expr) → Leads (kind_of s e) (sound.kind_of c (bound_expr s e))
  expr_kept c s fits (from.expr start at what) = what_kept c s fits what

  what_kept : (c : Context) (s : Scope) → Fits c s → (what : from.What) → Leads (what_kind s what) (sound.kind_of c (bound_what s what))
  what_kept c s fits (from.number value) kind e = e
  what_kept c s fits (from.literal text) kind e = e
  what_kept c s fits (from.name name) kind e = plain_kept c s fits name (meaning s name) refl kind e
  what_kept c s fits (from.element name index) kind e =
      if_leads (has_kind Int (kind_of s index)) (has_kind Int (sound.kind_of c (bound_expr s index))) (element_kind (meaning s name)) (array_kind c (array_of (meaning s name)))
      (has_leads Int (kind_of s index) (sound.kind_of c (bound_expr s index)) (expr_kept c s fits index))
      (element_kept c s fits name (meaning s name) refl) kind e
  what_kept c s fits (from.call name args) kind e = called_kept c s args (callee s name) (fits.calls name) (λ takes. args_kept c s fits takes args) (read_kept c s fits args) kind e
  what_kept c s fits (from.unary minus operand) kind e =
      if_leads (has_kind Int (kind_of s operand)) (has_kind Int (sound.kind_of c (bound_expr s operand))) (Some Int) (Some Int)
      (has_leads Int (kind_of s operand) (sound.kind_of c (bound_expr s operand)) (expr_kept c s fits operand)) (λ k h. h) kind e
  what_kept c s fits (from.chain first rest) kind e = links_kept c s fits (kind_of s first) (sound.kind_of c (bound_expr s first)) rest (expr_kept c s fits first) kind e

  links_kept : (c : Context) (s : Scope) → Fits c s → (left left' : Option Kind) (rest : from.Links) → Leads left left' → Leads (links_kind s left rest) (sound.links_kind c left' (bound_links s rest))
  links_kept c s fits left left' from.no_link h kind e = h kind e
  links_kept c s fits left left' (from.operand at op right rest) h kind e =
      links_kept c s fits (joined (joins op) left (kind_of s right)) (joined (joins op) left' (sound.kind_of c (bound_expr s right))) rest
      (joined_leads (joins op) left left' (kind_of s right) (sound.kind_of c (bound_expr s right)) h (expr_kept c s fits right)) kind e
  links_kept c s fits left left' (from.hashes at count rest) h kind e = links_kept c s fits (formed left) (formed left') rest (formed_leads left left' h) kind e

  pub args_kept : (c : Context) (s : Scope) → Fits c s → (takes : List Taken) (args : from.Exprs) → list_all is_right takes ≡ true → is_count takes args ≡ true → are_taken s takes args ≡ true →
      have_kinds c (map taken_kind takes) (all_args s takes args) ≡ true
  args_kept c s fits takes from.no_expr r n h = left_out_kept c takes r n
  args_kept c s fits [] (from.more first rest) r n h = absurd (true≢false (sym h))
  args_kept c s fits (taken ∷ takes) (from.more first rest) r n h =
      both_true (has_kind (taken_kind taken) (sound.kind_of c (bound_expr s first))) (have_kinds c (map taken_kind takes) (all_args s takes rest))
      (argument_kept c s taken first (expr_kept c s fits first) (left_true (is_right taken) (list_all is_right takes) r) (left_true (is_taken taken first (kind_of s first)) (are_taken s takes rest) h))
      (args_kept c s fits takes rest (right_true (is_right taken) (list_all is_right takes) r) n (right_true (is_taken taken first (kind_of s first)) (are_taken s takes rest) h))

  pub read_kept : (c : Context) (s : Scope) → Fits c s → (args : from.Exprs) → is_count read_takes args ≡ true → are_taken s read_takes args ≡ true →
      IsRead c (called_with (heads_in s.declared) (to.shared requests.QueRead) (bound_args s args))
  read_kept c s fits from.no_expr n h = absurd (true≢false (sym n))
  read_kept c s fits (from.more queue from.no_expr) n h = absurd (true≢false (sym n))
  read_kept c s fits (from.more queue (from.more a from.no_expr)) n h = absurd (true≢false (sym n))
  read_kept c s fits (from.more queue (from.more a (from.more b from.no_expr))) n h = absurd (true≢false (sym n))
  read_kept c s fits (from.more queue (from.more a (from.more b (from.more mode (from.more last rest))))) n h = absurd (true≢false (sym n))
  read_kept c s fits (from.more queue (from.more a (from.more b (from.more mode from.no_expr)))) n h =
      let tail = right_true (has_kind Int (kind_of s queue)) ((is_name_alone a && has_kind Int (kind_of s a)) && ((is_name_alone b && has_kind Str (kind_of s b)) && (has_kind Int (kind_of s mode) && true))) h in
      let last = right_true (is_name_alone a && has_kind Int (kind_of s a)) ((is_name_alone b && has_kind Str (kind_of s b)) && (has_kind Int (kind_of s mode) && true)) tail in
      let sort = alone_kept c s fits Int a (left_true (is_name_alone a && has_kind Int (kind_of s a)) ((is_name_alone b && has_kind Str (kind_of s b)) && (has_kind Int (kind_of s mode) && true)) tail) in
      let text = alone_kept c s fits Str b (left_true (is_name_alone b && has_kind Str (kind_of s b)) (has_kind Int (kind_of s mode) && true) last) in
      read_of c (heads_in s.declared) (bound_expr s queue) (bound_expr s a) (bound_expr s b) (bound_expr s mode) sort.0 text.0 sort.1 text.1
      (has_leads Int (kind_of s queue) (sound.kind_of c (bound_expr s queue)) (expr_kept c s fits queue) (left_true (has_kind Int (kind_of s queue)) ((is_name_alone a && has_kind Int (kind_of s a)) && ((is_name_alone b && has_kind Str (kind_of s b)) && (has_kind Int (kind_of s mode) && true))) h))
      sort.2 text.2
      (has_leads Int (kind_of s mode) (sound.kind_of c (bound_expr s mode)) (expr_kept c s fits mode) (left_true (has_kind Int (kind_of s mode)) true (right_true (is_name_alone b && has_kind Str (kind_of s b)) (has_kind Int (kind_of s mode) && true) last)))
