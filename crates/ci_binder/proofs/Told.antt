-- Where a fault is told depends on the file alone.
use Rattle.std.proofs.Common.{◌≡◌, ℕ, ◌+◌, min, Bool, true, false, List, [], ◌∷◌, ◌++◌, length, map, Option, Some, None, refl, sym, ap, ◌∙◌, arith}
use Rattle.std.specs.Prelude.{not, ◌&&◌, ◌||◌, nat_le, nat_lt, ◌==◌, is_some}
use Rattle.std.specs.List.{list_any}
use Rattle.std.specs.Str.{str_eq_ignore_ascii_case}
use Rattle.std.proofs.lemmas.Bool.{leb-true, leb-false}
use Rattle.std.proofs.lemmas.List.{append_assoc, length-map, map_push}
use Rattle.std.proofs.lemmas.List.Folds.{list_any-append}
use Rattle.std.proofs.lemmas.List.Sums.{sum_by_push}
use Rattle.ci_base.specs.declared.bounds.TheConstants.{MOST_LOCALS, MOST_PARAMETERS, MOST_FUNCTIONS, MOST_CELLS}
use Rattle.ci_base.specs.declared.value.Kind.{Kind}
use Rattle.ci_tree.specs.declared.tree.TypeAt.{TypeAt}
use Rattle.ci_tree.specs.declared.tree.Param.{Param}
use Rattle.ci_names.specs.declared.fault.Fault.{Fault}
use Rattle.ci_names.specs.declared.fault.BindKind.{BindKind}
use Rattle.ci_names.specs.declared.fault.BindKind.TheVariants as kinds
use Rattle.ci_names.specs.declared.fault.Limit.TheVariants as limits
use Rattle.ci_names.specs.Fault.{noted}
use Rattle.ci_names.specs.Given.{given_named}
use Rattle.ci_names.specs.Declarations.{Function, Variable, Declared, each_behind, kind_of_type, cells_of, size_of, kind_of_variable}
use Rattle.ci_names.specs.Scopes.{Scope, Local, param_local, scope_of, with_locals}
use Rattle.ci_names.specs.Expressions.{broken, differs}
use Rattle.ci_names.specs.Statements.{maybe, type_faults, local_name, block_faults}
use Rattle.ci_names.specs.Faults.{const_kind, const_at, first_value, has_default, param_faults, same_function, function_faults, same_variable, length_faults, file_scope, variable_faults}
use Rattle.ci_names.proofs.FirstFound.{noted_append}
use Rattle.ci_binder.specs.Before.{counted}

pub broken_in : (s t : Scope) → s.file ≡ t.file → (b : Bool) (token : ℕ) (kind : BindKind) → broken b s token kind ≡ broken b t token kind
broken_in s t h true token kind = ap (λ (file : ℕ). record { file = file; token = token; kind = kind } ∷ []) h
broken_in s t h false token kind = refl

pub type_in : (s t : Scope) → s.file ≡ t.file → (k : TypeAt) → type_faults s k ≡ type_faults t k
type_in s t h k = broken_in s t h _ k.at kinds.TypeOutOfScope

pub maybe_in : {A : Type 0} (p q : A → List Fault) → ((x : A) → p x ≡ q x) → (o : Option A) → maybe p o ≡ maybe q o
maybe_in p q h None = refl
maybe_in p q h (Some x) = h x

-- the parts of what is told of a parameter
abbrev held : List Param → Scope → Scope
held before s = record s { locals = map param_local before }

abbrev twice : List Param → Param → Scope → List Fault
twice before p s = broken (list_any (λ (l : Local). str_eq_ignore_ascii_case l.name p.name) (map param_local before)) (held before s) p.at kinds.DeclaredTwice

abbrev locals : List Param → Param → Scope → List Fault
locals before p s = broken (length (map param_local before) == MOST_LOCALS) (held before s) p.at (kinds.Limit limits.Locals)

abbrev number : List Param → Param → Scope → List Fault
number before p s = broken (length before == MOST_PARAMETERS) s p.at (kinds.Limit limits.Parameters)

abbrev behind : List Param → Param → Scope → List Fault
behind before p s = broken (not (has_default p) && list_any has_default before) s p.at kinds.ArgumentCount

abbrev first : Param → Scope → List Fault
first p s = maybe (first_value s (kind_of_type p.kind.name)) p.first

name_in : (s t : Scope) → s.file ≡ t.file → (before : List Param) (p : Param) → twice before p s ++ locals before p s ≡ twice before p t ++ locals before p t
name_in s t h before p =
    ap (λ a. a ++ locals before p s) (broken_in (held before s) (held before t) h (list_any (λ (l : Local). str_eq_ignore_ascii_case l.name p.name) (map param_local before)) p.at kinds.DeclaredTwice)
    ∙ ap (λ a. twice before p t ++ a) (broken_in (held before s) (held before t) h (length (map param_local before) == MOST_LOCALS) p.at (kinds.Limit limits.Locals))

first_in : (s t : Scope) → s.file ≡ t.file → (p : Param) → first p s ≡ first p t
first_in s t h p = maybe_in (first_value s (kind_of_type p.kind.name)) (first_value t (kind_of_type p.kind.name)) (λ f. broken_in s t h (differs (kind_of_type p.kind.name) (Some (const_kind f))) (const_at f) kinds.KindsDiffer) p.first

pub param_in : (s t : Scope) → s.file ≡ t.file → (before : List Param) (p : Param) → param_faults s before p ≡ param_faults t before p
param_in s t h before p =
    ap (λ a. a ++ (twice before p s ++ locals before p s) ++ number before p s ++ behind before p s ++ first p s) (type_in s t h p.kind)
    ∙ ap (λ a. type_faults t p.kind ++ a ++ number before p s ++ behind before p s ++ first p s) (name_in s t h before p)
    ∙ ap (λ a. type_faults t p.kind ++ (twice before p t ++ locals before p t) ++ a ++ behind before p s ++ first p s) (broken_in s t h (length before == MOST_PARAMETERS) p.at (kinds.Limit limits.Parameters))
    ∙ ap (λ a. type_faults t p.kind ++ (twice before p t ++ locals before p t) ++ number before p t ++ a ++ first p s) (broken_in s t h (not (has_default p) && list_any has_default before) p.at kinds.ArgumentCount)
    ∙ ap (λ a. type_faults t p.kind ++ (twice before p t ++ locals before p t) ++ number before p t ++ behind before p t ++ a) (first_in s t h p)

-- the parameters before one are as many as the locals
abbrev full : Scope → ℕ → List Fault
full s at = broken (length s.locals == MOST_PARAMETERS) s at (kinds.Limit limits.Parameters)

same_scope : (s : Scope) (ls : List Local) → s.locals ≡ ls → record s { locals = ls } ≡ s
same_scope s ls h = ap (λ (xs : List Local). record s { locals = xs }) (sym h)

-- the first fault so far, through the rules of a parameter
pub param_noted : (found : Option Fault) (s : Scope) (before : List Param) (p : Param) → s.locals ≡ map param_local before →
    noted found (param_faults s before p)
    ≡ noted
    (noted
    (noted
    (noted
    (noted found (type_faults s p.kind))
    (local_name s p.at p.name))
    (broken (length s.locals == MOST_PARAMETERS) s p.at (kinds.Limit limits.Parameters)))
    (broken (not (has_default p) && list_any has_default before) s p.at kinds.ArgumentCount))
    (maybe (first_value s (kind_of_type p.kind.name)) p.first)
param_noted found s before p is =
    ap (λ t. noted found (type_faults s p.kind ++ local_name t p.at p.name ++ number before p s ++ behind before p s ++ first p s)) (same_scope s (map param_local before) is)
    ∙ ap (λ n. noted found (type_faults s p.kind ++ local_name s p.at p.name ++ broken (n == MOST_PARAMETERS) s p.at (kinds.Limit limits.Parameters) ++ behind before p s ++ first p s)) (sym (ap length is ∙ length-map before param_local))
    ∙ noted_append found (type_faults s p.kind ++ local_name s p.at p.name ++ full s p.at ++ behind before p s) (first p s)
    ∙ ap (λ o. noted o (first p s)) (noted_append found (type_faults s p.kind ++ local_name s p.at p.name ++ full s p.at) (behind before p s))
    ∙ ap (λ o. noted (noted o (behind before p s)) (first p s)) (noted_append found (type_faults s p.kind ++ local_name s p.at p.name) (full s p.at))
    ∙ ap (λ o. noted (noted (noted o (full s p.at)) (behind before p s)) (first p s)) (noted_append found (type_faults s p.kind) (local_name s p.at p.name))

-- the number of cells may stop at one above the limit
counted_enough : (b : Bool) (all size : ℕ) → nat_le all MOST_CELLS ≡ b → (nat_le (min all (MOST_CELLS + 1)) MOST_CELLS && nat_lt MOST_CELLS (min all (MOST_CELLS + 1) + size)) ≡ (nat_le all MOST_CELLS && nat_lt MOST_CELLS (all + size))
counted_enough true all size h = let le = leb-true all MOST_CELLS h in let e : min all (MOST_CELLS + 1) ≡ all = omega arith in ap (λ n. nat_le n MOST_CELLS && nat_lt MOST_CELLS (n + size)) e
counted_enough false all size h = let lt = leb-false all MOST_CELLS h in let e : min all (MOST_CELLS + 1) ≡ (MOST_CELLS + 1) = omega arith in ap (λ n. nat_le n MOST_CELLS && nat_lt MOST_CELLS (n + size)) e ∙ ap (λ x. x && nat_lt MOST_CELLS (all + size)) (sym h)

-- the first fault so far, through the rules of a variable
pub variable_noted : (found : Option Fault) (d : Declared) (before : List Variable) (v : Variable) (cells : ℕ) → cells ≡ counted before →
    noted found (variable_faults d before v)
    ≡ noted
    (noted
    (noted
    (noted
    (noted found (broken (list_any (same_variable v) before) (file_scope d v.file) v.at kinds.DeclaredTwice))
    (broken (nat_le cells MOST_CELLS && nat_lt MOST_CELLS (cells + size_of v)) (file_scope d v.file) v.at (kinds.Limit limits.Cells)))
    (type_faults (file_scope d v.file) v.kind))
    (maybe (length_faults (file_scope d v.file)) v.length))
    (maybe (first_value (file_scope d v.file) (kind_of_variable v)) v.first)
variable_noted found d before v cells is =
    let s = file_scope d v.file in
    let a = broken (list_any (same_variable v) before) s v.at kinds.DeclaredTwice in
    let b = broken (nat_le cells MOST_CELLS && nat_lt MOST_CELLS (cells + size_of v)) s v.at (kinds.Limit limits.Cells) in
    let c = type_faults s v.kind in
    let e = maybe (length_faults s) v.length in
    let f = maybe (first_value s (kind_of_variable v)) v.first in
    ap (λ x. noted found (a ++ broken x s v.at (kinds.Limit limits.Cells) ++ c ++ e ++ f)) (sym (ap (λ n. nat_le n MOST_CELLS && nat_lt MOST_CELLS (n + size_of v)) is ∙ counted_enough (nat_le (cells_of before) MOST_CELLS) (cells_of before) (size_of v) refl))
    ∙ noted_append found (a ++ b ++ c ++ e) f
    ∙ ap (λ o. noted o f) (noted_append found (a ++ b ++ c) e)
    ∙ ap (λ o. noted (noted o e) f) (noted_append found (a ++ b) c)
    ∙ ap (λ o. noted (noted (noted o c) e) f) (noted_append found a b)

-- what is told of a function's name, of its number and of its type
abbrev pub heading_told : Scope → List Function → Function → List Fault
heading_told s before f =
    broken (list_any (same_function f) before || is_some (given_named f.name)) s f.at kinds.DeclaredTwice
    ++ broken (length before == MOST_FUNCTIONS) s f.at (kinds.Limit limits.Functions)
    ++ maybe (type_faults s) f.gives

pub heading_noted : (found : Option Fault) (s : Scope) (before : List Function) (f : Function) →
    noted found (heading_told s before f)
    ≡ noted
    (noted
    (noted found (broken (list_any (same_function f) before || is_some (given_named f.name)) s f.at kinds.DeclaredTwice))
    (broken (length before == MOST_FUNCTIONS) s f.at (kinds.Limit limits.Functions)))
    (maybe (type_faults s) f.gives)
heading_noted found s before f =
    let a = broken (list_any (same_function f) before || is_some (given_named f.name)) s f.at kinds.DeclaredTwice in
    let b = broken (length before == MOST_FUNCTIONS) s f.at (kinds.Limit limits.Functions) in
    let c = maybe (type_faults s) f.gives in
    noted_append found (a ++ b) c ∙ ap (λ o. noted o c) (noted_append found a b)

heading_in : (s t : Scope) → s.file ≡ t.file → (before : List Function) (f : Function) → heading_told s before f ≡ heading_told t before f
heading_in s t h before f =
    ap (λ a. a ++ broken (length before == MOST_FUNCTIONS) s f.at (kinds.Limit limits.Functions) ++ maybe (type_faults s) f.gives) (broken_in s t h (list_any (same_function f) before || is_some (given_named f.name)) f.at kinds.DeclaredTwice)
    ∙ ap (λ a. broken (list_any (same_function f) before || is_some (given_named f.name)) t f.at kinds.DeclaredTwice ++ a ++ maybe (type_faults s) f.gives) (broken_in s t h (length before == MOST_FUNCTIONS) f.at (kinds.Limit limits.Functions))
    ∙ ap (λ a. broken (list_any (same_function f) before || is_some (given_named f.name)) t f.at kinds.DeclaredTwice ++ broken (length before == MOST_FUNCTIONS) t f.at (kinds.Limit limits.Functions) ++ a) (maybe_in (type_faults s) (type_faults t) (type_in s t h) f.gives)

params_in : (s t : Scope) → s.file ≡ t.file → (before ps : List Param) → each_behind (param_faults s) before ps ≡ each_behind (param_faults t) before ps
params_in s t h before [] = refl
params_in s t h before (p ∷ ps) = ap (λ a. a ++ each_behind (param_faults s) (before ++ p ∷ []) ps) (param_in s t h before p) ∙ ap (λ a. param_faults t before p ++ a) (params_in s t h (before ++ p ∷ []) ps)

-- the first fault so far, through the rules of a function
pub function_noted : (found : Option Fault) (d : Declared) (before : List Function) (f : Function) (s : Scope) → s.file ≡ f.file →
    noted found (function_faults d before f) ≡ noted (noted (noted found (heading_told s before f)) (each_behind (param_faults s) [] f.params)) (block_faults (scope_of d f) f.body)
function_noted found d before f s h =
    let t = scope_of d f in
    let y = block_faults t f.body in
    ap (λ a. noted found (a ++ each_behind (param_faults t) [] f.params ++ y)) (sym (heading_in s t h before f))
    ∙ ap (λ a. noted found (heading_told s before f ++ a ++ y)) (sym (params_in s t h [] f.params))
    ∙ noted_append found (heading_told s before f ++ each_behind (param_faults s) [] f.params) y
    ∙ ap (λ o. noted o y) (noted_append found (heading_told s before f) (each_behind (param_faults s) [] f.params))

-- the rules of a variable, one after the other
pub variable_told : (d : Declared) (before : List Variable) (v : Variable) (s : Scope) (kind : Kind) (twice passes : Bool) (cells size : ℕ) (found found1 found2 found3 found4 found5 : Option Fault) →
    s ≡ file_scope d v.file → kind ≡ kind_of_variable v → twice ≡ list_any (same_variable v) before → cells ≡ counted before → size ≡ size_of v → passes ≡ (nat_le cells MOST_CELLS && nat_lt MOST_CELLS (cells + size)) →
    found1 ≡ noted found (broken twice s v.at kinds.DeclaredTwice) →
    found2 ≡ noted found1 (broken passes s v.at (kinds.Limit limits.Cells)) →
    found3 ≡ noted found2 (type_faults s v.kind) →
    found4 ≡ noted found3 (maybe (length_faults s) v.length) →
    found5 ≡ noted found4 (maybe (first_value s kind) v.first) →
    found5 ≡ noted found (variable_faults d before v)
variable_told d before v s kind twice passes cells size found found1 found2 found3 found4 found5 hs hk ht hc hz hp h1 h2 h3 h4 h5 =
    let parts = variable_noted found d before v cells hc in
    cc parts

-- where one more parameter holds
pub locals_more : (s here there : Scope) (ps qs : List Param) (p : Param) (kind : Kind) → here ≡ with_locals s (map param_local ps) → kind ≡ kind_of_type p.kind.name →
    there ≡ with_locals here (record { name = p.name; kind = kind } ∷ []) → qs ≡ ps ++ p ∷ [] → there ≡ with_locals s (map param_local qs)
locals_more s here there ps qs p kind h k i more =
    i
    ∙ ap (λ x. with_locals here (record { name = p.name; kind = x } ∷ [])) k
    ∙ ap (λ t. with_locals t (param_local p ∷ [])) h
    ∙ ap (λ ls. record s { locals = ls }) (append_assoc s.locals (map param_local ps) (param_local p ∷ []) ∙ ap (λ ls. s.locals ++ ls) (sym (map_push param_local ps p) ∙ ap (map param_local) (sym more)))

-- one more parameter may have a default
pub default_more : (ps qs : List Param) (p : Param) → qs ≡ ps ++ p ∷ [] → list_any has_default qs ≡ (list_any has_default ps || has_default p)
default_more ps qs p more = ap (list_any has_default) more ∙ list_any-append has_default ps (p ∷ []) ∙ ap (λ b. list_any has_default ps || b) (or_false (has_default p))
  where
    or_false : (b : Bool) → (b || false) ≡ b
    or_false true = refl
    or_false false = refl

-- the cells of one more variable
pub cells_more : (vs ws : List Variable) (v : Variable) (cells size new : ℕ) → cells ≡ counted vs → size ≡ size_of v → new ≡ min (cells + size) (MOST_CELLS + 1) → ws ≡ vs ++ v ∷ [] → new ≡ counted ws
cells_more vs ws v cells size new h z i more =
    i
    ∙ ap (λ n. min (n + size) (MOST_CELLS + 1)) h
    ∙ stopped (cells_of vs) size
    ∙ ap (λ n. min (cells_of vs + n) (MOST_CELLS + 1)) z
    ∙ ap (λ n. min n (MOST_CELLS + 1)) (sym (ap cells_of more ∙ sum_by_push size_of vs v))
  where
    stopped : (a b : ℕ) → min (min a (MOST_CELLS + 1) + b) (MOST_CELLS + 1) ≡ min (a + b) (MOST_CELLS + 1)
    stopped a b = omega arith

-- the rules of a parameter, one after the other
pub param_told : (s : Scope) (before : List Param) (p : Param) (kind : Kind) (count : ℕ) (lacks after : Bool) (found found1 found2 found3 found4 found5 : Option Fault) →
    s.locals ≡ map param_local before → kind ≡ kind_of_type p.kind.name → count ≡ length s.locals →
    after ≡ list_any has_default before → lacks ≡ (not (has_default p) && after) →
    found1 ≡ noted found (type_faults s p.kind) →
    found2 ≡ noted found1 (local_name s p.at p.name) →
    found3 ≡ noted found2 (broken (count == MOST_PARAMETERS) s p.at (kinds.Limit limits.Parameters)) →
    found4 ≡ noted found3 (broken lacks s p.at kinds.ArgumentCount) →
    found5 ≡ noted found4 (maybe (first_value s kind) p.first) →
    found5 ≡ noted found (param_faults s before p)
param_told s before p kind count lacks after found found1 found2 found3 found4 found5 is hk hc ha hl h1 h2 h3 h4 h5 =
    h5 ∙ (λ i. noted (h4 i) (maybe (first_value s (hk i)) p.first))
    ∙ (λ i. noted (noted (h3 i) (broken ((hl ∙ ap (λ b. not (has_default p) && b) ha) i) s p.at kinds.ArgumentCount)) (first p s))
    ∙ (λ i. noted (noted (noted (h2 i) (broken (hc i == MOST_PARAMETERS) s p.at (kinds.Limit limits.Parameters))) (behind before p s)) (first p s))
    ∙ (λ i. noted (noted (noted (noted (h1 i) (local_name s p.at p.name)) (full s p.at)) (behind before p s)) (first p s))
    ∙ sym (param_noted found s before p is)
