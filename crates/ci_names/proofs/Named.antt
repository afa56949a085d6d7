-- Each fault of names names a token of its file.
use Rattle.std.specs.Prelude.{◌≡◌, refl, ℕ, zero, suc, ◌+◌, ◌<◌, Bool, true, false, not, ◌&&◌, ◌||◌, ◌==◌, if◌then◌else◌, List, [], ◌∷◌, ◌++◌, length, map, Option, Some, None, is_some, is_none, unwrap_or, slice_get, All}
use Rattle.std.specs.List.{list_any}
use Rattle.std.specs.Str.{str_eq_ignore_ascii_case}
use Rattle.std.proofs.Common.{sym, ap, ◌∙◌, subst}
use Rattle.std.proofs.lemmas.Bool.{true≢false}
use Rattle.std.proofs.lemmas.List.Elements.{All-nil, All-cons, All-head, All-tail, All-append, All-weaker}
use native.Mathlib.Omega.{arith}
use Rattle.ci_base.specs.declared.bounds.TheConstants.{MOST_FUNCTIONS, MOST_PARAMETERS, MOST_LOCALS}
use Rattle.ci_base.specs.declared.value.Kind.{Kind}
use Rattle.ci_base.specs.declared.value.Kind.TheVariants.{Int, Str}
use Rattle.ci_tree.specs.declared.tree.Const.{Const}
use Rattle.ci_tree.specs.declared.tree.Const.TheVariants as const
use Rattle.ci_tree.specs.declared.tree.Length.{Length}
use Rattle.ci_tree.specs.declared.tree.Param.{Param}
use Rattle.ci_tree.specs.declared.tree.TypeAt.{TypeAt}
use Rattle.ci_tree.specs.Grammar.{Tokens, derives}
use Rattle.ci_tree.specs.Operators.{joins, joined, formed}
use Rattle.ci_tree.specs.Tree as from
use Rattle.ci_tree.specs.Tree.{Item}
use Rattle.ci_tree.proofs.Indices.{ExprBelow, WhatBelow, LinksBelow, ExprsBelow, PartBelow, LocalBelow, LabelBelow, StmtBelow, OtherBelow, ClausesBelow, BlockBelow, ConstBelow, TypeBelow, LengthBelow, ParamBelow, ItemBelow, derived_below}
use Rattle.ci_names.specs.declared.fault.BindKind.{BindKind}
use Rattle.ci_names.specs.declared.fault.BindKind.TheVariants as kinds
use Rattle.ci_names.specs.declared.fault.Limit.TheVariants as limits
use Rattle.ci_names.specs.Fault.{Fault, is_before, placed, sorted}
use Rattle.ci_names.specs.Given.{Taken, by_value, with_default, to_be_set, Called, given_named}
use Rattle.ci_names.specs.Declarations.{Function, Variable, Declared, declared_in, each_behind, functions_in, variables_in, functions_from, variables_from, kind_of_type, array_size, kind_of_variable}
use Rattle.ci_names.specs.Scopes.{Scope, Local, scope_of, param_local, with_locals, declared_local, locals_in, locals_in_block, locals_in_clauses, Meaning, scalar, array, only_function, nothing, meaning, callee}
use Rattle.ci_names.specs.Kinds.{takes_of, is_count, is_name_alone, kind_of}
use Rattle.ci_names.specs.Expressions.{broken, differs, differ, start_of, wants_kind, plain_name, indexed_name, is_variable, called_name, argument_count, call_faults, call_value, argument, clash, operation, int_operand, expr_faults, what_faults, links_faults, args_faults}
use Rattle.ci_names.specs.Statements.{type_faults, local_name, maybe, part_faults, locals_faults, target, assigned, compared, label_faults, labels_faults, return_faults, stmt_faults, other_faults, clauses_faults, block_faults}
use Rattle.ci_names.specs.Faults.{first_value, has_default, param_faults, same_function, function_faults, same_variable, passes_cells, length_faults, file_scope, variable_faults, declared_faults, faults}
use Rattle.ci_names.specs.Laws.{IsDerived, AreDerived, NamesToken}

-- the fault stands in this file, and its token is below this number
abbrev InFile : ℕ → ℕ → Fault → Type 0
InFile file n f = (f.file ≡ file) × (f.token < n)

abbrev AllIn : ℕ → ℕ → List Fault → Type 0
AllIn file n fs = All (InFile file n) fs

none_in : (file n : ℕ) → AllIn file n []
none_in file n = All-nil (InFile file n)

both_in : (file n : ℕ) (fs gs : List Fault) → AllIn file n fs → AllIn file n gs → AllIn file n (fs ++ gs)
both_in file n fs gs h i = All-append (InFile file n) fs gs h i

broken_in : (n : ℕ) (b : Bool) (s : Scope) (at : ℕ) (kind : BindKind) → at < n → AllIn s.file n (broken b s at kind)
broken_in n false s at kind h = none_in s.file n
broken_in n true s at kind h = All-cons (InFile s.file n) (record { file = s.file; token = at; kind = kind }) [] (refl, h) (none_in s.file n)

-- Expressions

start_below : (n : ℕ) (e : from.Expr) → ExprBelow n e → start_of e < n
start_below n (from.expr start at what) h = h.0

wants_in : (n : ℕ) (s : Scope) (kind : Kind) (e : from.Expr) → ExprBelow n e → AllIn s.file n (wants_kind s kind e)
wants_in n s kind e h = broken_in n (differs kind (kind_of s e)) s (start_of e) kinds.KindsDiffer (start_below n e h)

plain_in : (n : ℕ) (s : Scope) (at : ℕ) (m : Meaning) → at < n → AllIn s.file n (plain_name s at m)
plain_in n s at (scalar of kind) h = none_in s.file n
plain_in n s at (array a kind) h = broken_in n true s at kinds.IndexMissing h
plain_in n s at only_function h = broken_in n true s at kinds.NotAVariable h
plain_in n s at nothing h = broken_in n true s at kinds.NameUnknown h

indexed_in : (n : ℕ) (s : Scope) (at : ℕ) (m : Meaning) → at < n → AllIn s.file n (indexed_name s at m)
indexed_in n s at (scalar of kind) h = broken_in n true s at kinds.IndexOnScalar h
indexed_in n s at (array a kind) h = none_in s.file n
indexed_in n s at only_function h = broken_in n true s at kinds.NotAVariable h
indexed_in n s at nothing h = broken_in n true s at kinds.NameUnknown h

called_in : (n : ℕ) (s : Scope) (at : ℕ) (o : Option Called) (m : Meaning) → at < n → AllIn s.file n (called_name s at o m)
called_in n s at (Some called) m h = none_in s.file n
called_in n s at None m h = broken_in n true s at (if is_variable m then kinds.NotAFunction else kinds.NameUnknown) h

count_in : (n : ℕ) (s : Scope) (at : ℕ) (o : Option Called) (args : from.Exprs) → at < n → AllIn s.file n (argument_count s at o args)
count_in n s at None args h = none_in s.file n
count_in n s at (Some called) args h = broken_in n (not (is_count called.heading.takes args)) s at kinds.ArgumentCount h

call_in : (n : ℕ) (s : Scope) (at : ℕ) (name : List ℕ) (args : from.Exprs) → at < n → AllIn s.file n (call_faults s at name args)
call_in n s at name args h =
    both_in s.file n (called_name s at (callee s name) (meaning s name)) (argument_count s at (callee s name) args) (called_in n s at (callee s name) (meaning s name) h) (count_in n s at (callee s name) args h)

value_in : (n : ℕ) (s : Scope) (at : ℕ) (o : Option Called) → at < n → AllIn s.file n (call_value s at o)
value_in n s at None h = none_in s.file n
value_in n s at (Some called) h = broken_in n (is_none called.heading.gives) s at kinds.KindsDiffer h

argument_in : (n : ℕ) (s : Scope) (taken : Taken) (e : from.Expr) → ExprBelow n e → AllIn s.file n (argument s taken e)
argument_in n s (by_value kind) e h = wants_in n s kind e h
argument_in n s (with_default kind default) e h = wants_in n s kind e h
argument_in n s (to_be_set kind) e h = by_form (is_name_alone e)
  where
    by_form : (b : Bool) → AllIn s.file n (if b then wants_kind s kind e else broken true s (start_of e) kinds.NotAVariableArgument)
    by_form true = wants_in n s kind e h
    by_form false = broken_in n true s (start_of e) kinds.NotAVariableArgument (start_below n e h)

mutual
  expr_in : (n : ℕ) (s : Scope) (e : from.Expr) → ExprBelow n e → AllIn s.file n (expr_faults s e)
  expr_in n s (from.expr start at what) h = what_in n s at what h.1 h.2

  what_in : (n : ℕ) (s : Scope) (at : ℕ) (what : from.What) → at < n → WhatBelow n what → AllIn s.file n (what_faults s at what)
  what_in n s at (from.number value) a h = none_in s.file n
  what_in n s at (from.literal text) a h = none_in s.file n
  what_in n s at (from.name name) a h = plain_in n s at (meaning s name) a
  what_in n s at (from.element name index) a h =
      both_in s.file n (indexed_name s at (meaning s name) ++ wants_kind s Int index) (expr_faults s index)
      (both_in s.file n (indexed_name s at (meaning s name)) (wants_kind s Int index) (indexed_in n s at (meaning s name) a) (wants_in n s Int index h)) (expr_in n s index h)
  what_in n s at (from.call name args) a h =
      both_in s.file n (call_value s at (callee s name) ++ call_faults s at name args) (args_faults s (takes_of (callee s name)) args)
      (both_in s.file n (call_value s at (callee s name)) (call_faults s at name args) (value_in n s at (callee s name) a) (call_in n s at name args a)) (args_in n s (takes_of (callee s name)) args h)
  what_in n s at (from.unary minus operand) a h =
      both_in s.file n (int_operand s at (kind_of s operand)) (expr_faults s operand) (broken_in n (differs Int (kind_of s operand)) s at kinds.KindsDiffer a) (expr_in n s operand h)
  what_in n s at (from.chain first rest) a h = both_in s.file n (expr_faults s first) (links_faults s (kind_of s first) rest) (expr_in n s first h.0) (links_in n s (kind_of s first) rest h.1)

  links_in : (n : ℕ) (s : Scope) (left : Option Kind) (rest : from.Links) → LinksBelow n rest → AllIn s.file n (links_faults s left rest)
  links_in n s left from.no_link h = none_in s.file n
  links_in n s left (from.operand at op right rest) h =
      let next = joined (joins op) left (kind_of s right) in
      both_in s.file n (operation s at op left (kind_of s right) ++ expr_faults s right) (links_faults s next rest)
      (both_in s.file n (operation s at op left (kind_of s right)) (expr_faults s right) (broken_in n (clash (joins op) left (kind_of s right)) s at kinds.KindsDiffer h.0) (expr_in n s right h.1)) (links_in n s next rest h.2)
  links_in n s left (from.hashes at count rest) h =
      both_in s.file n (int_operand s at left) (links_faults s (formed left) rest) (broken_in n (differs Int left) s at kinds.KindsDiffer h.0) (links_in n s (formed left) rest h.1)

  args_in : (n : ℕ) (s : Scope) (takes : List Taken) (args : from.Exprs) → ExprsBelow n args → AllIn s.file n (args_faults s takes args)
  args_in n s takes from.no_expr h = none_in s.file n
  args_in n s [] (from.more first rest) h = both_in s.file n (expr_faults s first) (args_faults s [] rest) (expr_in n s first h.0) (args_in n s [] rest h.1)
  args_in n s (taken ∷ takes) (from.more first rest) h =
      both_in s.file n (argument s taken first ++ expr_faults s first) (args_faults s takes rest)
      (both_in s.file n (argument s taken first) (expr_faults s first) (argument_in n s taken first h.0) (expr_in n s first h.0)) (args_in n s takes rest h.1)

-- Statements

type_in : (n : ℕ) (s : Scope) (t : TypeAt) → t.at < n → AllIn s.file n (type_faults s t)
type_in n s t h = broken_in n _ s t.at kinds.TypeOutOfScope h

local_in : (n : ℕ) (s : Scope) (at : ℕ) (name : List ℕ) → at < n → AllIn s.file n (local_name s at name)
local_in n s at name h =
    both_in s.file n (broken (list_any (λ (l : Local). str_eq_ignore_ascii_case l.name name) s.locals) s at kinds.DeclaredTwice) (broken (length s.locals == MOST_LOCALS) s at (kinds.Limit limits.Locals))
    (broken_in n (list_any (λ (l : Local). str_eq_ignore_ascii_case l.name name) s.locals) s at kinds.DeclaredTwice h) (broken_in n (length s.locals == MOST_LOCALS) s at (kinds.Limit limits.Locals) h)

part_in : (n : ℕ) (s : Scope) (kind : Kind) (e : from.Expr) → ExprBelow n e → AllIn s.file n (part_faults s kind e)
part_in n s kind e h = both_in s.file n (wants_kind s kind e) (expr_faults s e) (wants_in n s kind e h) (expr_in n s e h)

maybe_part_in : (n : ℕ) (s : Scope) (kind : Kind) (o : Option from.Expr) → PartBelow n o → AllIn s.file n (maybe (part_faults s kind) o)
maybe_part_in n s kind None h = none_in s.file n
maybe_part_in n s kind (Some e) h = part_in n s kind e h

locals_in_file : (n : ℕ) (s : Scope) (kind : Kind) (ls : List from.Local) → All (LocalBelow n) ls → AllIn s.file n (locals_faults s kind ls)
locals_in_file n s kind [] h = none_in s.file n
locals_in_file n s kind (l ∷ ls) h =
    let next = with_locals s (declared_local kind l ∷ []) in
    let own = All-head (LocalBelow n) l ls h in
    both_in s.file n (local_name s l.at l.name ++ maybe (part_faults s kind) l.value) (locals_faults next kind ls)
    (both_in s.file n (local_name s l.at l.name) (maybe (part_faults s kind) l.value) (local_in n s l.at l.name own.0) (maybe_part_in n s kind l.value own.1))
    (locals_in_file n next kind ls (All-tail (LocalBelow n) l ls h))

target_below : (n at : ℕ) (name : List ℕ) (index : Option from.Expr) → at < n → PartBelow n index → ExprBelow n (target at name index)
target_below n at name None a h = (a, a, tt)
target_below n at name (Some index) a h = (a, a, h)

compared_in : (n : ℕ) (s : Scope) (a : Option Kind) (value : from.Expr) → ExprBelow n value → AllIn s.file n (compared s a value)
compared_in n s a value h =
    both_in s.file n (broken (differ a (kind_of s value)) s (start_of value) kinds.KindsDiffer) (expr_faults s value)
    (broken_in n (differ a (kind_of s value)) s (start_of value) kinds.KindsDiffer (start_below n value h)) (expr_in n s value h)

label_in : (n : ℕ) (s : Scope) (a : Option Kind) (label : from.Label) → LabelBelow n label → AllIn s.file n (label_faults s a label)
label_in n s a (from.one value) h = compared_in n s a value h
label_in n s a (from.range low high) h = both_in s.file n (compared s a low) (compared s a high) (compared_in n s a low h.0) (compared_in n s a high h.1)
label_in n s a (from.compared at relation value) h = compared_in n s a value h

labels_in : (n : ℕ) (s : Scope) (a : Option Kind) (labels : List from.Label) → All (LabelBelow n) labels → AllIn s.file n (labels_faults s a labels)
labels_in n s a [] h = none_in s.file n
labels_in n s a (label ∷ labels) h =
    both_in s.file n (label_faults s a label) (labels_faults s a labels) (label_in n s a label (All-head (LabelBelow n) label labels h)) (labels_in n s a labels (All-tail (LabelBelow n) label labels h))

return_in : (n : ℕ) (s : Scope) (at : ℕ) (gives : Option Kind) (value : Option from.Expr) → at < n → PartBelow n value → AllIn s.file n (return_faults s at gives value)
return_in n s at None None a h = none_in s.file n
return_in n s at None (Some value) a h = both_in s.file n (broken true s at kinds.ReturnValue) (expr_faults s value) (broken_in n true s at kinds.ReturnValue a) (expr_in n s value h)
return_in n s at (Some kind) None a h = broken_in n true s at kinds.ReturnValue a
return_in n s at (Some kind) (Some value) a h = part_in n s kind value h

mutual
  stmt_in : (n : ℕ) (s : Scope) (stmt : from.Stmt) → StmtBelow n stmt → AllIn s.file n (stmt_faults s stmt)
  stmt_in n s (from.declare at kind locals) h =
      both_in s.file n (type_faults s kind) (locals_faults s (kind_of_type kind.name) locals) (type_in n s kind h.0) (locals_in_file n s (kind_of_type kind.name) locals h.1)
  stmt_in n s (from.assign at name index equals value) h =
      let to = target at name index in
      both_in s.file n (expr_faults s to ++ assigned s equals to value) (expr_faults s value)
      (both_in s.file n (expr_faults s to) (assigned s equals to value) (expr_in n s to (target_below n at name index h.0 h.2)) (broken_in n (differ (kind_of s to) (kind_of s value)) s equals kinds.KindsDiffer h.1))
      (expr_in n s value h.3)
  stmt_in n s (from.call_of at name args) h =
      both_in s.file n (call_faults s at name args) (args_faults s (takes_of (callee s name)) args) (call_in n s at name args h.0) (args_in n s (takes_of (callee s name)) args h.1)
  stmt_in n s (from.choose at test body last) h =
      let behind = with_locals s (locals_in_block body) in
      both_in s.file n (part_faults s Int test ++ block_faults s body) (other_faults behind last)
      (both_in s.file n (part_faults s Int test) (block_faults s body) (part_in n s Int test h.0) (block_in n s body h.1)) (other_in n behind last h.2)
  stmt_in n s (from.while at test body) h = both_in s.file n (part_faults s Int test) (block_faults s body) (part_in n s Int test h.0) (block_in n s body h.1)
  stmt_in n s (from.for at name_at name first last body) h =
      let counter = target name_at name None in
      both_in s.file n (part_faults s Int counter ++ part_faults s Int first ++ part_faults s Int last) (block_faults s body)
      (both_in s.file n (part_faults s Int counter ++ part_faults s Int first) (part_faults s Int last)
      (both_in s.file n (part_faults s Int counter) (part_faults s Int first) (part_in n s Int counter (target_below n name_at name None h.0 tt)) (part_in n s Int first h.1)) (part_in n s Int last h.2)) (block_in n s body h.3)
  stmt_in n s (from.select at subject clauses last) h =
      let behind = with_locals s (locals_in_clauses clauses) in
      both_in s.file n (expr_faults s subject ++ clauses_faults s (kind_of s subject) clauses) (other_faults behind last)
      (both_in s.file n (expr_faults s subject) (clauses_faults s (kind_of s subject) clauses) (expr_in n s subject h.0) (clauses_in n s (kind_of s subject) clauses h.1)) (other_in n behind last h.2)
  stmt_in n s (from.return at value) h = return_in n s at s.gives value h.0 h.1

  other_in : (n : ℕ) (s : Scope) (last : from.Other) → OtherBelow n last → AllIn s.file n (other_faults s last)
  other_in n s from.no_other h = none_in s.file n
  other_in n s (from.other body) h = block_in n s body h

  clauses_in : (n : ℕ) (s : Scope) (a : Option Kind) (clauses : from.Clauses) → ClausesBelow n clauses → AllIn s.file n (clauses_faults s a clauses)
  clauses_in n s a from.no_clause h = none_in s.file n
  clauses_in n s a (from.clause at labels body rest) h =
      let behind = with_locals s (locals_in_block body) in
      both_in s.file n (labels_faults s a labels ++ block_faults s body) (clauses_faults behind a rest)
      (both_in s.file n (labels_faults s a labels) (block_faults s body) (labels_in n s a labels h.0) (block_in n s body h.1)) (clauses_in n behind a rest h.2)

  block_in : (n : ℕ) (s : Scope) (block : from.Block) → BlockBelow n block → AllIn s.file n (block_faults s block)
  block_in n s from.done h = none_in s.file n
  block_in n s (from.then first rest) h =
      let behind = with_locals s (locals_in first) in both_in s.file n (stmt_faults s first) (block_faults behind rest) (stmt_in n s first h.0) (block_in n behind rest h.1)

-- Declarations

first_in : (n : ℕ) (s : Scope) (kind : Kind) (o : Option Const) → ConstBelow n o → AllIn s.file n (maybe (first_value s kind) o)
first_in n s kind None h = none_in s.file n
first_in n s kind (Some (const.Number at value)) h = broken_in n (differs kind (Some Int)) s at kinds.KindsDiffer h
first_in n s kind (Some (const.Literal at text)) h = broken_in n (differs kind (Some Str)) s at kinds.KindsDiffer h

param_in : (n : ℕ) (s : Scope) (before : List Param) (p : Param) → ParamBelow n p → AllIn s.file n (param_faults s before p)
param_in n s before p h =
    let a = type_faults s p.kind in
    let b = local_name (record s { locals = map param_local before }) p.at p.name in
    let c = broken (length before == MOST_PARAMETERS) s p.at (kinds.Limit limits.Parameters) in
    let d = broken (not (has_default p) && list_any has_default before) s p.at kinds.ArgumentCount in
    let e = maybe (first_value s (kind_of_type p.kind.name)) p.first in
    both_in s.file n (a ++ b ++ c ++ d) e
    (both_in s.file n (a ++ b ++ c) d
    (both_in s.file n (a ++ b) c (both_in s.file n a b (type_in n s p.kind h.1) (local_in n (record s { locals = map param_local before }) p.at p.name h.0)) (broken_in n (length before == MOST_PARAMETERS) s p.at (kinds.Limit limits.Parameters) h.0))
    (broken_in n (not (has_default p) && list_any has_default before) s p.at kinds.ArgumentCount h.0))
    (first_in n s (kind_of_type p.kind.name) p.first h.2)

-- what each member of a list gives
each_in : {A : Type 0} (P : Fault → Type 0) (Q : A → Type 0) (at : List A → A → List Fault) → ((before : List A) (x : A) → Q x → All P (at before x)) → (before xs : List A) → All Q xs → All P (each_behind at before xs)
each_in P Q at each before [] h = All-nil P
each_in P Q at each before (x ∷ xs) h =
    All-append P (at before x) (each_behind at (before ++ x ∷ []) xs) (each before x (All-head Q x xs h)) (each_in P Q at each (before ++ x ∷ []) xs (All-tail Q x xs h))

given_in : (n : ℕ) (s : Scope) (o : Option TypeAt) → TypeBelow n o → AllIn s.file n (maybe (type_faults s) o)
given_in n s None h = none_in s.file n
given_in n s (Some t) h = type_in n s t h

length_in : (n : ℕ) (s : Scope) (o : Option Length) → LengthBelow n o → AllIn s.file n (maybe (length_faults s) o)
length_in n s None h = none_in s.file n
length_in n s (Some l) h = broken_in n (array_size l.value == 0) s l.at (kinds.Limit limits.Array) h

abbrev FunctionBelow : ℕ → Function → Type 0
FunctionBelow n f = (f.at < n) × TypeBelow n f.gives × All (ParamBelow n) f.params × BlockBelow n f.body

abbrev VariableBelow : ℕ → Variable → Type 0
VariableBelow n v = (v.at < n) × (v.kind.at < n) × LengthBelow n v.length × ConstBelow n v.first

function_in : (n : ℕ) (d : Declared) (before : List Function) (f : Function) → FunctionBelow n f → AllIn f.file n (function_faults d before f)
function_in n d before f h =
    let s = scope_of d f in
    let a = broken (list_any (same_function f) before || is_some (given_named f.name)) s f.at kinds.DeclaredTwice in
    let b = broken (length before == MOST_FUNCTIONS) s f.at (kinds.Limit limits.Functions) in
    let c = maybe (type_faults s) f.gives in
    let e = each_behind (param_faults s) [] f.params in
    both_in f.file n (a ++ b ++ c ++ e) (block_faults s f.body)
    (both_in f.file n (a ++ b ++ c) e
    (both_in f.file n (a ++ b) c (both_in f.file n a b (broken_in n (list_any (same_function f) before || is_some (given_named f.name)) s f.at kinds.DeclaredTwice h.0) (broken_in n (length before == MOST_FUNCTIONS) s f.at (kinds.Limit limits.Functions) h.0)) (given_in n s f.gives h.1))
    (each_in (InFile f.file n) (ParamBelow n) (param_faults s) (param_in n s) [] f.params h.2))
    (block_in n s f.body h.3)

variable_in : (n : ℕ) (d : Declared) (before : List Variable) (v : Variable) → VariableBelow n v → AllIn v.file n (variable_faults d before v)
variable_in n d before v h =
    let s = file_scope d v.file in
    let a = broken (list_any (same_variable v) before) s v.at kinds.DeclaredTwice in
    let b = broken (passes_cells before v) s v.at (kinds.Limit limits.Cells) in
    let c = type_faults s v.kind in
    let e = maybe (length_faults s) v.length in
    let g = maybe (first_value s (kind_of_variable v)) v.first in
    both_in v.file n (a ++ b ++ c ++ e) g
    (both_in v.file n (a ++ b ++ c) e
    (both_in v.file n (a ++ b) c (both_in v.file n a b (broken_in n (list_any (same_variable v) before) s v.at kinds.DeclaredTwice h.0) (broken_in n (passes_cells before v) s v.at (kinds.Limit limits.Cells) h.0)) (type_in n s v.kind h.1))
    (length_in n s v.length h.2))
    (first_in n s (kind_of_variable v) v.first h.3)

-- Files

-- it is declared in one of these files, numbered from `start` on, and its indices are below each number of tokens that spell that file
abbrev Stands : {A : Type 0} → (A → ℕ) → (ℕ → A → Type 0) → ℕ → List (List Item) → A → Type 0
Stands file below start files x =
    (m : ℕ) × (items : List Item) × (file x ≡ start + m) × (slice_get files m ≡ Some items) × ((tokens : Tokens) → derives tokens items → below (length tokens) x)

later : {A : Type 0} (file : A → ℕ) (below : ℕ → A → Type 0) (start : ℕ) (items : List Item) (files : List (List Item)) (x : A) → Stands file below (start + 1) files x → Stands file below start (items ∷ files) x
later file below start items files x h = (suc h.0, h.1, h.2 ∙ moved start h.0, h.3, h.4)
  where
    moved : (a b : ℕ) → (a + 1) + b ≡ a + suc b
    moved a b = omega arith

first_stands : {A : Type 0} (file : A → ℕ) (below : ℕ → A → Type 0) (start : ℕ) (items : List Item) (files : List (List Item)) (x : A) → file x ≡ start → ((n : ℕ) → All (ItemBelow n) items → below n x) → Stands file below start (items ∷ files) x
first_stands file below start items files x same h = (0, items, same ∙ plus start, refl, λ tokens d. h (length tokens) (derived_below tokens items d))
  where
    plus : (a : ℕ) → a ≡ a + 0
    plus a = omega arith

-- a function of a file, and what is below a number there
abbrev OfFile : {A : Type 0} → (A → ℕ) → (ℕ → A → Type 0) → ℕ → List Item → A → Type 0
OfFile file below number items x = (file x ≡ number) × ((n : ℕ) → All (ItemBelow n) items → below n x)

functions_of : (number : ℕ) (items : List Item) → All (OfFile (λ (f : Function). f.file) FunctionBelow number items) (functions_in number items)
functions_of number [] = All-nil (OfFile (λ (f : Function). f.file) FunctionBelow number [])
functions_of number ((from.function at name private gives params body) ∷ items) =
    let item = from.function at name private gives params body in
    All-cons (OfFile (λ (f : Function). f.file) FunctionBelow number (item ∷ items)) (record { file = number; at = at; name = name; private = private; gives = gives; params = params; body = body }) (functions_in number items)
    (refl, λ n h. All-head (ItemBelow n) item items h)
    (All-weaker (OfFile (λ (f : Function). f.file) FunctionBelow number items) (OfFile (λ (f : Function). f.file) FunctionBelow number (item ∷ items)) (λ f h. (h.0, λ n below. h.1 n (All-tail (ItemBelow n) item items below))) (functions_in number items) (functions_of number items))
functions_of number ((from.variable at name global kind size first) ∷ items) =
    let item = from.variable at name global kind size first in
    All-weaker (OfFile (λ (f : Function). f.file) FunctionBelow number items) (OfFile (λ (f : Function). f.file) FunctionBelow number (item ∷ items)) (λ f h. (h.0, λ n below. h.1 n (All-tail (ItemBelow n) item items below))) (functions_in number items) (functions_of number items)

variables_of : (number : ℕ) (items : List Item) → All (OfFile (λ (v : Variable). v.file) VariableBelow number items) (variables_in number items)
variables_of number [] = All-nil (OfFile (λ (v : Variable). v.file) VariableBelow number [])
variables_of number ((from.function at name private gives params body) ∷ items) =
    let item = from.function at name private gives params body in
    All-weaker (OfFile (λ (v : Variable). v.file) VariableBelow number items) (OfFile (λ (v : Variable). v.file) VariableBelow number (item ∷ items)) (λ v h. (h.0, λ n below. h.1 n (All-tail (ItemBelow n) item items below))) (variables_in number items) (variables_of number items)
variables_of number ((from.variable at name global kind size first) ∷ items) =
    let item = from.variable at name global kind size first in
    All-cons (OfFile (λ (v : Variable). v.file) VariableBelow number (item ∷ items)) (record { file = number; at = at; name = name; global = global; kind = kind; length = size; first = first }) (variables_in number items)
    (refl, λ n h. All-head (ItemBelow n) item items h)
    (All-weaker (OfFile (λ (v : Variable). v.file) VariableBelow number items) (OfFile (λ (v : Variable). v.file) VariableBelow number (item ∷ items)) (λ v h. (h.0, λ n below. h.1 n (All-tail (ItemBelow n) item items below))) (variables_in number items) (variables_of number items))

functions_stand : (start : ℕ) (files : List (List Item)) → All (Stands (λ (f : Function). f.file) FunctionBelow start files) (functions_from start files)
functions_stand start [] = All-nil (Stands (λ (f : Function). f.file) FunctionBelow start [])
functions_stand start (items ∷ files) =
    All-append (Stands (λ (f : Function). f.file) FunctionBelow start (items ∷ files)) (functions_in start items) (functions_from (start + 1) files)
    (All-weaker (OfFile (λ (f : Function). f.file) FunctionBelow start items) (Stands (λ (f : Function). f.file) FunctionBelow start (items ∷ files)) (λ f h. first_stands (λ (g : Function). g.file) FunctionBelow start items files f h.0 h.1) (functions_in start items) (functions_of start items))
    (All-weaker (Stands (λ (f : Function). f.file) FunctionBelow (start + 1) files) (Stands (λ (f : Function). f.file) FunctionBelow start (items ∷ files)) (λ f h. later (λ (g : Function). g.file) FunctionBelow start items files f h) (functions_from (start + 1) files) (functions_stand (start + 1) files))

variables_stand : (start : ℕ) (files : List (List Item)) → All (Stands (λ (v : Variable). v.file) VariableBelow start files) (variables_from start files)
variables_stand start [] = All-nil (Stands (λ (v : Variable). v.file) VariableBelow start [])
variables_stand start (items ∷ files) =
    All-append (Stands (λ (v : Variable). v.file) VariableBelow start (items ∷ files)) (variables_in start items) (variables_from (start + 1) files)
    (All-weaker (OfFile (λ (v : Variable). v.file) VariableBelow start items) (Stands (λ (v : Variable). v.file) VariableBelow start (items ∷ files)) (λ v h. first_stands (λ (w : Variable). w.file) VariableBelow start items files v h.0 h.1) (variables_in start items) (variables_of start items))
    (All-weaker (Stands (λ (v : Variable). v.file) VariableBelow (start + 1) files) (Stands (λ (v : Variable). v.file) VariableBelow start (items ∷ files)) (λ v h. later (λ (w : Variable). w.file) VariableBelow start items files v h) (variables_from (start + 1) files) (variables_stand (start + 1) files))

derived_at : (files : List (List Item)) → AreDerived files → (m : ℕ) (items : List Item) → slice_get files m ≡ Some items → (tokens : Tokens) × derives tokens items
derived_at [] h m items e = absurd (true≢false (sym (ap is_some e)))
derived_at (first ∷ files) h zero items e = subst IsDerived (ap (λ o. unwrap_or o first) e) h.0
derived_at (first ∷ files) h (suc m) items e = derived_at files h.1 m items e

-- what is told of a declaration names a token of its file
told_named : (files : List (List Item)) → AreDerived files → (file m : ℕ) (items : List Item) → file ≡ 0 + m → slice_get files m ≡ Some items →
    (told : List Fault) → ((tokens : Tokens) → derives tokens items → AllIn file (length tokens) told) → All (NamesToken files) told
told_named files derived file m items same at told all = λ k d h.
    let found = derived_at files derived m items at in
    (items, ap (slice_get files) ((all found.0 found.1 k d h).0 ∙ same ∙ plus m) ∙ at, λ tokens is. (all tokens is k d h).1)
  where
    plus : (a : ℕ) → 0 + a ≡ a
    plus a = omega arith

declared_named : (files : List (List Item)) → AreDerived files → All (NamesToken files) (declared_faults (declared_in files))
declared_named files derived =
    let d = declared_in files in
    All-append (NamesToken files) (each_behind (function_faults d) [] d.functions) (each_behind (variable_faults d) [] d.variables)
    (each_in (NamesToken files) (Stands (λ (f : Function). f.file) FunctionBelow 0 files) (function_faults d)
    (λ before f h. told_named files derived f.file h.0 h.1 h.2 h.3 (function_faults d before f) (λ tokens is. function_in (length tokens) d before f (h.4 tokens is))) [] d.functions (functions_stand 0 files))
    (each_in (NamesToken files) (Stands (λ (v : Variable). v.file) VariableBelow 0 files) (variable_faults d)
    (λ before v h. told_named files derived v.file h.0 h.1 h.2 h.3 (variable_faults d before v) (λ tokens is. variable_in (length tokens) d before v (h.4 tokens is))) [] d.variables (variables_stand 0 files))

-- the order of faults changes none

placed_all : (P : Fault → Type 0) (f : Fault) (gs : List Fault) → P f → All P gs → All P (placed f gs)
placed_all P f [] p h = All-cons P f [] p (All-nil P)
placed_all P f (g ∷ gs) p h = by_order (is_before f g) (is_before g f) (placed_all P f gs p (All-tail P g gs h))
  where
    by_order : (a b : Bool) → All P (placed f gs) → All P (if a then (if b then g ∷ gs else f ∷ g ∷ gs) else g ∷ placed f gs)
    by_order true true rest = h
    by_order true false rest = All-cons P f (g ∷ gs) p h
    by_order false b rest = All-cons P g (placed f gs) (All-head P g gs h) rest

sorted_all : (P : Fault → Type 0) (fs : List Fault) → All P fs → All P (sorted fs)
sorted_all P [] h = All-nil P
sorted_all P (f ∷ fs) h = placed_all P f (sorted fs) (All-head P f fs h) (sorted_all P fs (All-tail P f fs h))

pub faults_name_tokens : (files : List (List Item)) → AreDerived files → All (NamesToken files) (faults files)
faults_name_tokens files derived = sorted_all (NamesToken files) (declared_faults (declared_in files)) (declared_named files derived)
