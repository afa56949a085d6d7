-- An expression has a kind exactly where its list of faults is empty.
use Rattle.std.specs.Prelude.{◌≡◌, ◌≢◌, refl, ℕ, Bool, true, false, not, ◌&&◌, if◌then◌else◌, List, [], ◌∷◌, ◌++◌, Option, Some, None, is_some, is_none}
use Rattle.std.proofs.Common.{sym, ap, ap₂, ◌∙◌}
use Rattle.std.proofs.lemmas.Bool.{true≢false}
use Rattle.ci_base.specs.declared.value.Kind.{Kind}
use Rattle.ci_base.specs.declared.value.Kind.TheVariants.{Int, Str}
use Rattle.ci_tree.specs.Tree as from
use Rattle.ci_tree.specs.Tree.{Expr, What, Links, Exprs}
use Rattle.ci_names.specs.declared.fault.BindKind.TheVariants as kinds
use Rattle.ci_names.specs.Fault.{Fault}
use Rattle.ci_names.specs.Given.{Taken, by_value, with_default, to_be_set, Called}
use Rattle.ci_names.specs.Scopes.{Scope, Meaning, scalar, array, only_function, nothing, meaning, callee}
use Rattle.ci_tree.specs.Operators.{has_kind, Joins, sums, compares, counts, joins, joined, formed}
use Rattle.ci_names.specs.Kinds.{plain_kind, element_kind, takes_of, gives_of, is_count, is_name_alone, is_taken, kind_of, what_kind, links_kind, are_taken}
use Rattle.ci_names.specs.Expressions.{broken, differs, start_of, wants_kind, plain_name, indexed_name, call_value, called_name, argument_count, argument, clash, operation, int_operand, expr_faults, what_faults, links_faults, args_faults}

-- there is no fault
abbrev pub is_free : List Fault → Bool
is_free [] = true
is_free (f ∷ fs) = false

pub free_append : (fs gs : List Fault) → is_free (fs ++ gs) ≡ is_free fs && is_free gs
free_append [] gs = refl
free_append (f ∷ fs) gs = refl

and_assoc : (a b c : Bool) → (a && b) && c ≡ a && (b && c)
and_assoc true b c = refl
and_assoc false b c = refl

-- three lists, one behind the other
free_three : (fs gs hs : List Fault) → is_free (fs ++ gs ++ hs) ≡ is_free fs && (is_free gs && is_free hs)
free_three fs gs hs = free_append (fs ++ gs) hs ∙ ap (λ b. b && is_free hs) (free_append fs gs) ∙ and_assoc (is_free fs) (is_free gs) (is_free hs)

and_true : (a : Bool) → a && true ≡ a
and_true true = refl
and_true false = refl

plain : (s : Scope) (at : ℕ) (m : Meaning) → is_some (plain_kind m) ≡ is_free (plain_name s at m)
plain s at (scalar of kind) = refl
plain s at (array a kind) = refl
plain s at only_function = refl
plain s at nothing = refl

-- a part that is to have a kind
pub wanted : (s : Scope) (at : ℕ) (kind : Kind) (given : Option Kind) → has_kind kind given ≡ is_free (broken (differs kind given) s at kinds.KindsDiffer) && is_some given
wanted s at Int None = refl
wanted s at Int (Some Int) = refl
wanted s at Int (Some Str) = refl
wanted s at Str None = refl
wanted s at Str (Some Int) = refl
wanted s at Str (Some Str) = refl

indexed : (s : Scope) (at : ℕ) (m : Meaning) (is_int : Bool) → is_some (if is_int then element_kind m else None) ≡ is_free (indexed_name s at m) && is_int
indexed s at (scalar of kind) true = refl
indexed s at (scalar of kind) false = refl
indexed s at (array a kind) true = refl
indexed s at (array a kind) false = refl
indexed s at only_function true = refl
indexed s at only_function false = refl
indexed s at nothing true = refl
indexed s at nothing false = refl

-- what has a kind where the operand is an INT
whole : (kind : Kind) (is_int : Bool) → is_some (if is_int then Some kind else None) ≡ is_int
whole kind true = refl
whole kind false = refl

joined_free : (s : Scope) (at : ℕ) (j : Joins) (left right : Option Kind) →
    is_some (joined j left right) ≡ is_some left && (is_free (broken (clash j left right) s at kinds.KindsDiffer) && is_some right)
joined_free s at sums None None = refl
joined_free s at sums None (Some Int) = refl
joined_free s at sums None (Some Str) = refl
joined_free s at sums (Some Int) None = refl
joined_free s at sums (Some Int) (Some Int) = refl
joined_free s at sums (Some Int) (Some Str) = refl
joined_free s at sums (Some Str) None = refl
joined_free s at sums (Some Str) (Some Int) = refl
joined_free s at sums (Some Str) (Some Str) = refl
joined_free s at compares None None = refl
joined_free s at compares None (Some Int) = refl
joined_free s at compares None (Some Str) = refl
joined_free s at compares (Some Int) None = refl
joined_free s at compares (Some Int) (Some Int) = refl
joined_free s at compares (Some Int) (Some Str) = refl
joined_free s at compares (Some Str) None = refl
joined_free s at compares (Some Str) (Some Int) = refl
joined_free s at compares (Some Str) (Some Str) = refl
joined_free s at counts None None = refl
joined_free s at counts None (Some Int) = refl
joined_free s at counts None (Some Str) = refl
joined_free s at counts (Some Int) None = refl
joined_free s at counts (Some Int) (Some Int) = refl
joined_free s at counts (Some Int) (Some Str) = refl
joined_free s at counts (Some Str) None = refl
joined_free s at counts (Some Str) (Some Int) = refl
joined_free s at counts (Some Str) (Some Str) = refl

formed_free : (s : Scope) (at : ℕ) (left : Option Kind) → is_some (formed left) ≡ is_some left && is_free (int_operand s at left)
formed_free s at None = refl
formed_free s at (Some Int) = refl
formed_free s at (Some Str) = refl

named_free : (s : Scope) (alone : Bool) (e : Expr) (kind : Kind) (given : Option Kind) → (
    alone && has_kind kind given
    ≡ is_free (if alone then broken (differs kind given) s (start_of e) kinds.KindsDiffer else broken true s (start_of e) kinds.NotAVariableArgument) && is_some given)
named_free s true e kind given = wanted s (start_of e) kind given
named_free s false e kind given = refl

argument_free : (s : Scope) (t : Taken) (e : Expr) → is_taken t e (kind_of s e) ≡ is_free (argument s t e) && is_some (kind_of s e)
argument_free s (by_value kind) e = wanted s (start_of e) kind (kind_of s e)
argument_free s (with_default kind default) e = wanted s (start_of e) kind (kind_of s e)
argument_free s (to_be_set kind) e = named_free s (is_name_alone e) e kind (kind_of s e)

-- a call, where its number of arguments is right or not, and each of them can stand where it stands or not
called_free : (s : Scope) (at : ℕ) (gives : Option Kind) (count taken : Bool) (fs : List Fault) → (count ≡ true → taken ≡ is_free fs) →
    is_some (if count && taken then gives else None)
    ≡ is_free (broken (is_none gives) s at kinds.KindsDiffer ++ broken (not count) s at kinds.ArgumentCount ++ fs)
called_free s at None true true fs h = refl
called_free s at None true false fs h = refl
called_free s at None false true fs h = refl
called_free s at None false false fs h = refl
called_free s at (Some kind) true true fs h = h refl
called_free s at (Some kind) true false fs h = h refl
called_free s at (Some kind) false true fs h = refl
called_free s at (Some kind) false false fs h = refl

abbrev no_kind : Option Kind
no_kind = None

uncalled : (b : Bool) → is_some (if b then no_kind else no_kind) ≡ false
uncalled true = refl
uncalled false = refl

-- as it stands in a call, with the name's own faults in front
call_free : (s : Scope) (at : ℕ) (c : Option Called) (m : Meaning) (args : Exprs) (taken : Bool) (fs : List Fault) →
    (is_count (takes_of c) args ≡ true → taken ≡ is_free fs) →
    is_some (if is_count (takes_of c) args && taken then gives_of c else None)
    ≡ is_free (call_value s at c ++ (called_name s at c m ++ argument_count s at c args) ++ fs)
call_free s at None m args taken fs h = uncalled (is_count [] args && taken)
call_free s at (Some c) m args taken fs h = called_free s at c.heading.gives (is_count c.heading.takes args) taken fs h

-- a member of a chain, with what follows it
member : (a : Bool) (fs : List Fault) (b : Bool) (gs hs : List Fault) → b ≡ is_free gs → (a && (is_free fs && b)) && is_free hs ≡ a && is_free (fs ++ gs ++ hs)
member a fs b gs hs h =
    ap (λ c. (a && (is_free fs && c)) && is_free hs) h
    ∙ and_assoc a (is_free fs && is_free gs) (is_free hs)
    ∙ ap (λ c. a && c) (and_assoc (is_free fs) (is_free gs) (is_free hs) ∙ sym (free_three fs gs hs))

mutual
  pub expr_free : (s : Scope) (e : Expr) → is_some (kind_of s e) ≡ is_free (expr_faults s e)
  expr_free s (from.expr start at what) = what_free s at what

  what_free : (s : Scope) (at : ℕ) (what : What) → is_some (what_kind s what) ≡ is_free (what_faults s at what)
  what_free s at (from.number value) = refl
  what_free s at (from.literal text) = refl
  what_free s at (from.name name) = plain s at (meaning s name)
  what_free s at (from.element name index) =
      indexed s at (meaning s name) (has_kind Int (kind_of s index))
      ∙ ap (λ b. is_free (indexed_name s at (meaning s name)) && b) (wanted s (start_of index) Int (kind_of s index) ∙ ap (λ b. is_free (wants_kind s Int index) && b) (expr_free s index))
      ∙ sym (free_three (indexed_name s at (meaning s name)) (wants_kind s Int index) (expr_faults s index))
  what_free s at (from.call name args) = call_free s at (callee s name) (meaning s name) args (are_taken s (takes_of (callee s name)) args) (args_faults s (takes_of (callee s name)) args) (args_free s (takes_of (callee s name)) args)
  what_free s at (from.unary minus operand) =
      whole Int (has_kind Int (kind_of s operand))
      ∙ wanted s at Int (kind_of s operand)
      ∙ ap (λ b. is_free (int_operand s at (kind_of s operand)) && b) (expr_free s operand)
      ∙ sym (free_append (int_operand s at (kind_of s operand)) (expr_faults s operand))
  what_free s at (from.chain first rest) =
      links_free s (kind_of s first) rest
      ∙ ap (λ b. b && is_free (links_faults s (kind_of s first) rest)) (expr_free s first)
      ∙ sym (free_append (expr_faults s first) (links_faults s (kind_of s first) rest))

  links_free : (s : Scope) (left : Option Kind) (rest : Links) → is_some (links_kind s left rest) ≡ is_some left && is_free (links_faults s left rest)
  links_free s left from.no_link = sym (and_true (is_some left))
  links_free s left (from.operand at op right rest) =
      links_free s (joined (joins op) left (kind_of s right)) rest
      ∙ ap (λ b. b && is_free (links_faults s (joined (joins op) left (kind_of s right)) rest)) (joined_free s at (joins op) left (kind_of s right))
      ∙ member (is_some left) (operation s at op left (kind_of s right)) (is_some (kind_of s right)) (expr_faults s right) (links_faults s (joined (joins op) left (kind_of s right)) rest) (expr_free s right)
  links_free s left (from.hashes at count rest) =
      links_free s (formed left) rest
      ∙ ap (λ b. b && is_free (links_faults s (formed left) rest)) (formed_free s at left)
      ∙ and_assoc (is_some left) (is_free (int_operand s at left)) (is_free (links_faults s (formed left) rest))
      ∙ ap (λ b. is_some left && b) (sym (free_append (int_operand s at left) (links_faults s (formed left) rest)))

  pub args_free : (s : Scope) (takes : List Taken) (args : Exprs) → is_count takes args ≡ true → are_taken s takes args ≡ is_free (args_faults s takes args)
  args_free s takes from.no_expr h = refl
  args_free s [] (from.more first rest) h = absurd (true≢false (sym h))
  args_free s (taken ∷ takes) (from.more first rest) h =
      ap₂ (λ a b. a && b) (argument_free s taken first ∙ ap (λ b. is_free (argument s taken first) && b) (expr_free s first)) (args_free s takes rest h)
      ∙ and_assoc (is_free (argument s taken first)) (is_free (expr_faults s first)) (is_free (args_faults s takes rest))
      ∙ sym (free_three (argument s taken first) (expr_faults s first) (args_faults s takes rest))

-- a list that is empty or not, by the test
none_of : (fs : List Fault) → is_free fs ≡ true → fs ≡ []
none_of [] h = refl
none_of (f ∷ fs) h = absurd (true≢false (sym h))

pub kind_means_no_fault : (s : Scope) (e : Expr) (kind : Kind) → kind_of s e ≡ Some kind → expr_faults s e ≡ []
kind_means_no_fault s e kind h = none_of (expr_faults s e) (sym (expr_free s e) ∙ ap is_some h)

pub no_kind_means_fault : (s : Scope) (e : Expr) → kind_of s e ≡ None → expr_faults s e ≢ []
no_kind_means_fault s e h free = true≢false (sym (ap is_free free) ∙ sym (expr_free s e) ∙ ap is_some h)
