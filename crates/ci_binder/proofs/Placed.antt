-- Each fault is told in the file of its declaration.
use Rattle.std.proofs.Common.{◌≡◌, ℕ, ◌+◌, ◌<◌, ◌≤◌, Bool, true, false, List, [], ◌∷◌, ◌++◌, length, map, Option, Some, None, refl, sym, ap, subst, ◌∙◌, arith}
use Rattle.std.specs.Prelude.{if◌then◌else◌, All}
use Rattle.std.proofs.lemmas.List.Elements.{All-nil, All-cons, All-head, All-tail, All-append}
use Rattle.ci_base.specs.declared.value.Kind.{Kind}
use Rattle.ci_base.specs.declared.value.Kind.TheVariants.{Int}
use Rattle.ci_tree.specs.declared.tree.Const.{Const}
use Rattle.ci_tree.specs.declared.tree.Param.{Param}
use Rattle.ci_tree.specs.Operators.{joins, joined, formed}
use Rattle.ci_tree.specs.Bound as to
use Rattle.ci_tree.specs.Tree as from
use Rattle.ci_tree.specs.Tree.{Expr, What, Links, Exprs, Label, Stmt, Other, Clauses, Block, Item}
use Rattle.ci_names.specs.declared.fault.Fault.{Fault}
use Rattle.ci_names.specs.declared.fault.BindKind.{BindKind}
use Rattle.ci_names.specs.Fault.{is_before, sorted, first_of, noted}
use Rattle.ci_names.specs.Given.{Taken, by_value, with_default, to_be_set, Called}
use Rattle.ci_names.specs.Declarations.{Function, Variable, Declared, functions_in, variables_in, functions_from, variables_from, declared_in, each_behind, kind_of_type, kind_of_variable}
use Rattle.ci_names.specs.Scopes.{Scope, Meaning, scalar, array, only_function, nothing, meaning, callee, scope_of, with_locals, declared_local, locals_in, locals_in_block, locals_in_clauses, param_local}
use Rattle.ci_names.specs.Kinds.{takes_of, is_name_alone, kind_of}
use Rattle.ci_names.specs.Expressions.{broken, start_of, wants_kind, plain_name, indexed_name, called_name, argument_count, call_faults, call_value, argument, operation, int_operand, expr_faults, what_faults, links_faults, args_faults}
use Rattle.ci_names.specs.Statements.{maybe, type_faults, local_name, part_faults, locals_faults, target, assigned, compared, label_faults, labels_faults, return_faults, stmt_faults, other_faults, clauses_faults, block_faults}
use Rattle.ci_names.specs.Faults.{first_value, param_faults, function_faults, length_faults, file_scope, variable_faults, declared_faults, first_fault}
use Rattle.ci_names.specs.Binding.{bound_function, binds}
use Rattle.ci_binder.specs.Parts.{project_with}
use Rattle.ci_names.proofs.FirstFound.{noted_append, noted_none, first_is_noted}

-- these faults are told in this file
abbrev AllIn : ℕ → List Fault → Type 0
AllIn file [] = Unit {0}
AllIn file (f ∷ fs) = (f.file ≡ file) × AllIn file fs

both : (file : ℕ) (fs gs : List Fault) → AllIn file fs → AllIn file gs → AllIn file (fs ++ gs)
both file [] gs h i = i
both file (f ∷ fs) gs h i = (h.0, both file fs gs h.1 i)

if_broken : (b : Bool) (s : Scope) (token : ℕ) (kind : BindKind) → AllIn s.file (broken b s token kind)
if_broken true s token kind = (refl, tt)
if_broken false s token kind = tt

if_some : {A : Type 0} (file : ℕ) (rule : A → List Fault) → ((x : A) → AllIn file (rule x)) → (o : Option A) → AllIn file (maybe rule o)
if_some file rule h None = tt
if_some file rule h (Some x) = h x

plain_in : (s : Scope) (at : ℕ) (m : Meaning) → AllIn s.file (plain_name s at m)
plain_in s at (scalar of kind) = tt
plain_in s at (array a kind) = (refl, tt)
plain_in s at only_function = (refl, tt)
plain_in s at nothing = (refl, tt)

indexed_in : (s : Scope) (at : ℕ) (m : Meaning) → AllIn s.file (indexed_name s at m)
indexed_in s at (scalar of kind) = (refl, tt)
indexed_in s at (array a kind) = tt
indexed_in s at only_function = (refl, tt)
indexed_in s at nothing = (refl, tt)

called_in : (s : Scope) (at : ℕ) (o : Option Called) (m : Meaning) → AllIn s.file (called_name s at o m)
called_in s at (Some called) m = tt
called_in s at None m = (refl, tt)

count_in : (s : Scope) (at : ℕ) (o : Option Called) (args : Exprs) → AllIn s.file (argument_count s at o args)
count_in s at None args = tt
count_in s at (Some called) args = if_broken _ s at _

call_in : (s : Scope) (at : ℕ) (name : List ℕ) (args : Exprs) → AllIn s.file (call_faults s at name args)
call_in s at name args = both s.file (called_name s at (callee s name) (meaning s name)) (argument_count s at (callee s name) args) (called_in s at (callee s name) (meaning s name)) (count_in s at (callee s name) args)

value_in : (s : Scope) (at : ℕ) (o : Option Called) → AllIn s.file (call_value s at o)
value_in s at None = tt
value_in s at (Some called) = if_broken _ s at _

set_in : (s : Scope) (kind : Kind) (e : Expr) (b : Bool) (other : BindKind) → AllIn s.file (if b then wants_kind s kind e else broken true s (start_of e) other)
set_in s kind e true other = if_broken _ s (start_of e) _
set_in s kind e false other = (refl, tt)

argument_in : (s : Scope) (t : Taken) (e : Expr) → AllIn s.file (argument s t e)
argument_in s (by_value kind) e = if_broken _ s (start_of e) _
argument_in s (with_default kind default) e = if_broken _ s (start_of e) _
argument_in s (to_be_set kind) e = set_in s kind e (is_name_alone e) _

mutual
  expr_in : (s : Scope) (e : Expr) → AllIn s.file (expr_faults s e)
  expr_in s (from.expr start at what) = what_in s at what

  what_in : (s : Scope) (at : ℕ) (w : What) → AllIn s.file (what_faults s at w)
  what_in s at (from.number value) = tt
  what_in s at (from.literal text) = tt
  what_in s at (from.name name) = plain_in s at (meaning s name)
  what_in s at (from.element name index) = both s.file _ (expr_faults s index) (both s.file (indexed_name s at (meaning s name)) (wants_kind s Int index) (indexed_in s at (meaning s name)) (if_broken _ s (start_of index) _)) (expr_in s index)
  what_in s at (from.call name args) = both s.file _ (args_faults s (takes_of (callee s name)) args) (both s.file (call_value s at (callee s name)) (call_faults s at name args) (value_in s at (callee s name)) (call_in s at name args)) (args_in s (takes_of (callee s name)) args)
  what_in s at (from.unary minus operand) = both s.file (int_operand s at (kind_of s operand)) (expr_faults s operand) (if_broken _ s at _) (expr_in s operand)
  what_in s at (from.chain first rest) = both s.file (expr_faults s first) (links_faults s (kind_of s first) rest) (expr_in s first) (links_in s (kind_of s first) rest)

  links_in : (s : Scope) (left : Option Kind) (ls : Links) → AllIn s.file (links_faults s left ls)
  links_in s left from.no_link = tt
  links_in s left (from.operand at op right rest) =
      both s.file _ (links_faults s (joined (joins op) left (kind_of s right)) rest) (both s.file (operation s at op left (kind_of s right)) (expr_faults s right) (if_broken _ s at _) (expr_in s right)) (links_in s (joined (joins op) left (kind_of s right)) rest)
  links_in s left (from.hashes at count rest) = both s.file (int_operand s at left) (links_faults s (formed left) rest) (if_broken _ s at _) (links_in s (formed left) rest)

  args_in : (s : Scope) (takes : List Taken) (es : Exprs) → AllIn s.file (args_faults s takes es)
  args_in s takes from.no_expr = tt
  args_in s [] (from.more first rest) = both s.file (expr_faults s first) (args_faults s [] rest) (expr_in s first) (args_in s [] rest)
  args_in s (taken ∷ takes) (from.more first rest) = both s.file _ (args_faults s takes rest) (both s.file (argument s taken first) (expr_faults s first) (argument_in s taken first) (expr_in s first)) (args_in s takes rest)

part_in : (s : Scope) (kind : Kind) (e : Expr) → AllIn s.file (part_faults s kind e)
part_in s kind e = both s.file (wants_kind s kind e) (expr_faults s e) (if_broken _ s (start_of e) _) (expr_in s e)

name_in : (s : Scope) (at : ℕ) (name : List ℕ) → AllIn s.file (local_name s at name)
name_in s at name = both s.file (broken _ s at _) (broken _ s at _) (if_broken _ s at _) (if_broken _ s at _)

locals_in_file : (s : Scope) (kind : Kind) (ls : List from.Local) → AllIn s.file (locals_faults s kind ls)
locals_in_file s kind [] = tt
locals_in_file s kind (l ∷ ls) =
    both s.file _ (locals_faults (with_locals s (declared_local kind l ∷ [])) kind ls) (both s.file (local_name s l.at l.name) (maybe (part_faults s kind) l.value) (name_in s l.at l.name) (if_some s.file (part_faults s kind) (part_in s kind) l.value)) (locals_in_file (with_locals s (declared_local kind l ∷ [])) kind ls)

compared_in : (s : Scope) (subject : Option Kind) (value : Expr) → AllIn s.file (compared s subject value)
compared_in s subject value = both s.file (broken _ s (start_of value) _) (expr_faults s value) (if_broken _ s (start_of value) _) (expr_in s value)

label_in : (s : Scope) (subject : Option Kind) (l : Label) → AllIn s.file (label_faults s subject l)
label_in s subject (from.one value) = compared_in s subject value
label_in s subject (from.range low high) = both s.file (compared s subject low) (compared s subject high) (compared_in s subject low) (compared_in s subject high)
label_in s subject (from.compared at relation value) = compared_in s subject value

labels_in : (s : Scope) (subject : Option Kind) (ls : List Label) → AllIn s.file (labels_faults s subject ls)
labels_in s subject [] = tt
labels_in s subject (l ∷ ls) = both s.file (label_faults s subject l) (labels_faults s subject ls) (label_in s subject l) (labels_in s subject ls)

return_in : (s : Scope) (at : ℕ) (gives : Option Kind) (value : Option Expr) → AllIn s.file (return_faults s at gives value)
return_in s at None None = tt
return_in s at None (Some value) = (refl, expr_in s value)
return_in s at (Some kind) None = (refl, tt)
return_in s at (Some kind) (Some value) = part_in s kind value

mutual
  stmt_in : (s : Scope) (x : Stmt) → AllIn s.file (stmt_faults s x)
  stmt_in s (from.declare at kind locals) = both s.file (type_faults s kind) (locals_faults s (kind_of_type kind.name) locals) (if_broken _ s kind.at _) (locals_in_file s (kind_of_type kind.name) locals)
  stmt_in s (from.assign at name index equals value) =
      both s.file _ (expr_faults s value) (both s.file (expr_faults s (target at name index)) (assigned s equals (target at name index) value) (expr_in s (target at name index)) (if_broken _ s equals _)) (expr_in s value)
  stmt_in s (from.call_of at name args) = both s.file (call_faults s at name args) (args_faults s (takes_of (callee s name)) args) (call_in s at name args) (args_in s (takes_of (callee s name)) args)
  stmt_in s (from.choose at test body last) =
      both s.file _ (other_faults (with_locals s (locals_in_block body)) last) (both s.file (part_faults s Int test) (block_faults s body) (part_in s Int test) (block_in s body)) (other_in (with_locals s (locals_in_block body)) last)
  stmt_in s (from.while at test body) = both s.file (part_faults s Int test) (block_faults s body) (part_in s Int test) (block_in s body)
  stmt_in s (from.for at name_at name first last body) =
      both s.file _ (block_faults s body) (both s.file _ (part_faults s Int last) (both s.file (part_faults s Int (target name_at name None)) (part_faults s Int first) (part_in s Int (target name_at name None)) (part_in s Int first)) (part_in s Int last)) (block_in s body)
  stmt_in s (from.select at subject clauses last) =
      both s.file _ (other_faults (with_locals s (locals_in_clauses clauses)) last) (both s.file (expr_faults s subject) (clauses_faults s (kind_of s subject) clauses) (expr_in s subject) (clauses_in s (kind_of s subject) clauses)) (other_in (with_locals s (locals_in_clauses clauses)) last)
  stmt_in s (from.return at value) = return_in s at s.gives value

  other_in : (s : Scope) (o : Other) → AllIn s.file (other_faults s o)
  other_in s from.no_other = tt
  other_in s (from.other body) = block_in s body

  clauses_in : (s : Scope) (subject : Option Kind) (cs : Clauses) → AllIn s.file (clauses_faults s subject cs)
  clauses_in s subject from.no_clause = tt
  clauses_in s subject (from.clause at labels body rest) =
      both s.file _ (clauses_faults (with_locals s (locals_in_block body)) subject rest) (both s.file (labels_faults s subject labels) (block_faults s body) (labels_in s subject labels) (block_in s body)) (clauses_in (with_locals s (locals_in_block body)) subject rest)

  block_in : (s : Scope) (b : Block) → AllIn s.file (block_faults s b)
  block_in s from.done = tt
  block_in s (from.then first rest) = both s.file (stmt_faults s first) (block_faults (with_locals s (locals_in first)) rest) (stmt_in s first) (block_in (with_locals s (locals_in first)) rest)

first_in : (s : Scope) (kind : Kind) (o : Option Const) → AllIn s.file (maybe (first_value s kind) o)
first_in s kind o = if_some s.file (first_value s kind) (λ f. if_broken _ s _ _) o

param_in : (s : Scope) (before : List Param) (p : Param) → AllIn s.file (param_faults s before p)
param_in s before p =
    both s.file _ (maybe (first_value s (kind_of_type p.kind.name)) p.first) (
    both s.file _ (broken _ s p.at _) (
    both s.file _ (broken _ s p.at _) (both s.file (type_faults s p.kind) (local_name (record s { locals = map param_local before }) p.at p.name) (if_broken _ s p.kind.at _) (name_in (record s { locals = map param_local before }) p.at p.name))
    (if_broken _ s p.at _))
    (if_broken _ s p.at _))
    (first_in s (kind_of_type p.kind.name) p.first)

params_in : (s : Scope) (before ps : List Param) → AllIn s.file (each_behind (param_faults s) before ps)
params_in s before [] = tt
params_in s before (p ∷ ps) = both s.file (param_faults s before p) (each_behind (param_faults s) (before ++ p ∷ []) ps) (param_in s before p) (params_in s (before ++ p ∷ []) ps)

function_in : (d : Declared) (before : List Function) (f : Function) → AllIn f.file (function_faults d before f)
function_in d before f =
    let s = scope_of d f in
    both s.file _ (block_faults s f.body) (
    both s.file _ (each_behind (param_faults s) [] f.params) (
    both s.file _ (maybe (type_faults s) f.gives) (both s.file (broken _ s f.at _) (broken _ s f.at _) (if_broken _ s f.at _) (if_broken _ s f.at _))
    (if_some s.file (type_faults s) (λ t. if_broken _ s t.at _) f.gives))
    (params_in s [] f.params))
    (block_in s f.body)

variable_in : (d : Declared) (before : List Variable) (v : Variable) → AllIn v.file (variable_faults d before v)
variable_in d before v =
    let s = file_scope d v.file in
    both s.file _ (maybe (first_value s (kind_of_variable v)) v.first) (
    both s.file _ (maybe (length_faults s) v.length) (
    both s.file _ (type_faults s v.kind) (both s.file (broken _ s v.at _) (broken _ s v.at _) (if_broken _ s v.at _) (if_broken _ s v.at _))
    (if_broken _ s v.kind.at _))
    (if_some s.file (length_faults s) (λ l. if_broken _ s l.at _) v.length))
    (first_in s (kind_of_variable v) v.first)

-- these faults are told in one of so many files
abbrev Below : ℕ → List Fault → Type 0
Below n [] = Unit {0}
Below n (f ∷ fs) = (f.file < n) × Below n fs

below_both : (n : ℕ) (fs gs : List Fault) → Below n fs → Below n gs → Below n (fs ++ gs)
below_both n [] gs h i = i
below_both n (f ∷ fs) gs h i = (h.0, below_both n fs gs h.1 i)

below_in : (n file : ℕ) (fs : List Fault) → file < n → AllIn file fs → Below n fs
below_in n file [] h i = tt
below_in n file (f ∷ fs) h i = (subst (λ k. k < n) (sym i.0) h, below_in n file fs h i.1)

below_each : {A : Type 0} (n : ℕ) (file : A → ℕ) (rule : List A → A → List Fault) → ((before : List A) (x : A) → AllIn (file x) (rule before x)) → (before xs : List A) → All (λ x. file x < n) xs → Below n (each_behind rule before xs)
below_each n file rule h before [] i = tt
below_each n file rule h before (x ∷ xs) i =
    below_both n (rule before x) (each_behind rule (before ++ x ∷ []) xs) (below_in n (file x) (rule before x) (All-head (λ y. file y < n) x xs i) (h before x))
    (below_each n file rule h (before ++ x ∷ []) xs (All-tail (λ y. file y < n) x xs i))

-- a fault that was found, if any, is told in one of so many files
abbrev IsBelow : ℕ → Option Fault → Type 0
IsBelow n None = Unit {0}
IsBelow n (Some f) = f.file < n

first_below : (n : ℕ) (f g : Fault) (b : Bool) → f.file < n → g.file < n → (if b then f else g).file < n
first_below n f g true h i = h
first_below n f g false h i = i

one_below : (n : ℕ) (found : Option Fault) (f : Fault) → IsBelow n found → f.file < n → (first_of found f).file < n
one_below n None f h i = i
one_below n (Some g) f h i = first_below n f g (is_before f g) i h

noted_below : (n : ℕ) (found : Option Fault) (fs : List Fault) → IsBelow n found → Below n fs → IsBelow n (noted found fs)
noted_below n found [] h i = h
noted_below n found (f ∷ fs) h i = noted_below n (Some (first_of found f)) fs (one_below n found f h i.0) i.1

functions_at : (n file : ℕ) (items : List Item) → file < n → All (λ (f : Function). f.file < n) (functions_in file items)
functions_at n file [] h = All-nil (λ (f : Function). f.file < n)
functions_at n file ((from.function at name private gives params body) ∷ items) h = All-cons (λ (f : Function). f.file < n) _ _ h (functions_at n file items h)
functions_at n file ((from.variable at name global kind size first) ∷ items) h = functions_at n file items h

variables_at : (n file : ℕ) (items : List Item) → file < n → All (λ (v : Variable). v.file < n) (variables_in file items)
variables_at n file [] h = All-nil (λ (v : Variable). v.file < n)
variables_at n file ((from.function at name private gives params body) ∷ items) h = variables_at n file items h
variables_at n file ((from.variable at name global kind size first) ∷ items) h = All-cons (λ (v : Variable). v.file < n) _ _ h (variables_at n file items h)

-- each function stands in one of the files
pub functions_within : (n file : ℕ) (files : List (List Item)) → file + length files ≤ n → All (λ (f : Function). f.file < n) (functions_from file files)
functions_within n file [] h = All-nil (λ (f : Function). f.file < n)
functions_within n file (items ∷ files) h = All-append (λ (f : Function). f.file < n) (functions_in file items) (functions_from (file + 1) files) (functions_at n file items (omega arith)) (functions_within n (file + 1) files (omega arith))

-- each variable stands in one of the files
pub variables_within : (n file : ℕ) (files : List (List Item)) → file + length files ≤ n → All (λ (v : Variable). v.file < n) (variables_from file files)
variables_within n file [] h = All-nil (λ (v : Variable). v.file < n)
variables_within n file (items ∷ files) h = All-append (λ (v : Variable). v.file < n) (variables_in file items) (variables_from (file + 1) files) (variables_at n file items (omega arith)) (variables_within n (file + 1) files (omega arith))

-- the first fault is told in one of the files
pub first_within : (files : List (List Item)) (f : Fault) → noted None (declared_faults (declared_in files)) ≡ Some f → f.file < length files
first_within files f h =
    let d = declared_in files in
    let n = length files in
    subst (IsBelow n) h (noted_below n None (declared_faults d) tt (
    below_both n (each_behind (function_faults d) [] d.functions) (each_behind (variable_faults d) [] d.variables)
    (below_each n (λ (g : Function). g.file) (function_faults d) (function_in d) [] d.functions (functions_within n 0 files (omega arith)))
    (below_each n (λ (v : Variable). v.file) (variable_faults d) (variable_in d) [] d.variables (variables_within n 0 files (omega arith)))))

-- the first fault of the functions, and then of the variables
pub found_all : (d : Declared) (files : List (List Item)) (found1 found2 : Option Fault) → d ≡ declared_in files → found1 ≡ noted None (each_behind (function_faults d) [] d.functions) → found2 ≡ noted found1 (each_behind (variable_faults d) [] d.variables) →
    found2 ≡ noted None (declared_faults (declared_in files))
found_all d files found1 found2 h i j =
    j ∙ ap (λ o. noted o (each_behind (variable_faults d) [] d.variables)) i
    ∙ sym (noted_append None (each_behind (function_faults d) [] d.functions) (each_behind (variable_faults d) [] d.variables))
    ∙ ap (λ e. noted None (declared_faults e)) h

-- a fault that was found is the first, and is told in one of the files
pub refused : (files : List (List Item)) (found : Option Fault) (f : Fault) → found ≡ noted None (declared_faults (declared_in files)) → found ≡ Some f → (first_fault files ≡ Some f) × (f.file < length files)
refused files found f h i = (first_is_noted files ∙ sym h ∙ i, first_within files f (sym h ∙ i))

-- where none was found, this is the project
pub accepted : (files : List (List Item)) (found : Option Fault) (d : Declared) (functions : List to.Function) (vs : List Variable) →
    found ≡ noted None (declared_faults (declared_in files)) → found ≡ None → d ≡ declared_in files → functions ≡ map (bound_function d) d.functions → vs ≡ (declared_in files).variables →
    binds files (project_with functions vs)
accepted files found d functions vs h none is made variables = (
  ap sorted (noted_none (declared_faults (declared_in files)) (sym h ∙ none)),
  ap (λ fs. project_with fs vs) (made ∙ ap (λ (e : Declared). map (bound_function e) e.functions) is) ∙ ap (project_with (map (bound_function (declared_in files)) (declared_in files).functions)) variables,
)
