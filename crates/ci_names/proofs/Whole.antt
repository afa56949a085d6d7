-- The bound project of files without a fault is sound.
use Rattle.std.specs.Prelude.{◌≡◌, refl, ℕ, zero, suc, ◌+◌, ◌<◌, ◌≤◌, Bool, true, false, not, ◌&&◌, ◌||◌, nat_le, nat_lt, ◌==◌, if◌then◌else◌, List, [], ◌∷◌, ◌++◌, length, map, take, drop, flat_map, replicate, Option, Some, None, is_some, option_map, unwrap_or, slice_get, All}
use Rattle.std.specs.List.{list_all, list_any}
use Rattle.std.specs.Str.{str_eq_ignore_ascii_case}
use Rattle.std.proofs.Common.{sym, ap, ap₂, ◌∙◌, subst}
use Rattle.std.proofs.lemmas.Bool.{true≢false, leb-true, le-leb, leb-false, lt-ltb, eqb-false}
use Rattle.std.proofs.lemmas.List.{length-append, append_assoc, append-nil, length-map, length-replicate}
use Rattle.std.proofs.lemmas.List.Sums.{sum_by-cons, sum_by-append}
use Rattle.std.proofs.lemmas.Grind.{flat_map-append}
use Rattle.std.proofs.lemmas.List.Folds.{list_all-append}
use Rattle.std.proofs.lemmas.List.Elements.{All-nil, All-cons}
use Rattle.std.proofs.Math.Seq.{drop-append_seam, take-append_seam}
use native.Mathlib.Omega.{arith}
use Rattle.ci_base.specs.declared.bounds.TheConstants.{MOST_FUNCTIONS, MOST_PARAMETERS, MOST_LOCALS, MOST_CELLS}
use Rattle.ci_base.specs.declared.value.Kind.{Kind}
use Rattle.ci_base.specs.declared.value.Kind.TheVariants.{Int, Str}
use Rattle.ci_tree.specs.declared.tree.Const.{Const}
use Rattle.ci_tree.specs.declared.tree.Const.TheVariants as const
use Rattle.ci_tree.specs.declared.tree.Length.{Length}
use Rattle.ci_tree.specs.declared.tree.Param.{Param}
use Rattle.ci_tree.specs.Tree as from
use Rattle.ci_tree.specs.Tree.{Item}
use Rattle.ci_tree.specs.Bound as to
use Rattle.ci_tree.specs.Bound.{Project}
use Rattle.ci_tree.specs.Operators.{same_kind}
use Rattle.ci_tree.specs.Sound.{kind_of_value, is_default, are_last, context_of, is_function, is_block, is_cell, is_array, is_global, is_sound}
use Rattle.ci_names.specs.declared.fault.BindKind.TheVariants as kind_of_fault
use Rattle.ci_names.specs.declared.fault.Limit.TheVariants as limits
use Rattle.ci_names.specs.Fault.{Fault, is_before, placed, sorted}
use Rattle.ci_names.specs.Given.{given_named}
use Rattle.ci_names.specs.Declarations.{Function, Variable, Declared, declared_in, each_behind, kind_of_type, const_value, value_of_kind, taken, heading_of, array_size, size_said, is_array_said, size_of, cells_of, kind_of_variable}
use Rattle.ci_names.specs.Scopes.{Scope, Local, scope_of, param_local, with_locals, declared_local, locals_in, locals_in_other, locals_in_clauses, locals_in_block}
use Rattle.ci_names.specs.Kinds.{kind_of}
use Rattle.ci_names.specs.Expressions.{broken, differs, expr_faults}
use Rattle.ci_names.specs.Statements.{maybe, type_faults, local_name, part_faults, locals_faults, labels_faults, target, stmt_faults, other_faults, clauses_faults, block_faults}
use Rattle.ci_names.specs.Faults.{const_kind, const_at, first_value, has_default, param_faults, same_function, function_faults, same_variable, passes_cells, length_faults, file_scope, variable_faults, declared_faults}
use Rattle.ci_names.specs.Binding.{bound_param, bound_function, cell_of, bound_cells, bound_array, bound_global, bound_declared, binds}
use Rattle.ci_names.proofs.Free.{is_free}
use Rattle.ci_names.proofs.Leads.{both_true, is_right}
use Rattle.ci_names.proofs.Meant.{kinds, length_cells}
use Rattle.ci_names.proofs.Bodies.{free_left, free_right, unbroken, Stood, block_sound}

-- Lists of faults

placed_one : (f g : Fault) (gs : List Fault) (a b : Bool) (rest : List Fault) → is_free (if a then (if b then g ∷ gs else f ∷ g ∷ gs) else g ∷ rest) ≡ false
placed_one f g gs true true rest = refl
placed_one f g gs true false rest = refl
placed_one f g gs false b rest = refl

placed_some : (f : Fault) (gs : List Fault) → is_free (placed f gs) ≡ false
placed_some f [] = refl
placed_some f (g ∷ gs) = placed_one f g gs (is_before f g) (is_before g f) (placed f gs)

pub sorted_none : (fs : List Fault) → sorted fs ≡ [] → is_free fs ≡ true
sorted_none [] h = refl
sorted_none (f ∷ fs) h = absurd (true≢false (sym (ap is_free h) ∙ placed_some f (sorted fs)))

-- each member passes a rule that finds nothing
each_member : {A : Type 0} (rule : List A → A → List Fault) (before : List A) (x : A) (xs : List A) → is_free (each_behind rule before (x ∷ xs)) ≡ true →
    (is_free (rule before x) ≡ true) × (is_free (each_behind rule (before ++ x ∷ []) xs) ≡ true)
each_member rule before x xs h =
    (free_left (rule before x) (each_behind rule (before ++ x ∷ []) xs) h, free_right (rule before x) (each_behind rule (before ++ x ∷ []) xs) h)

pub member_at : {A : Type 0} (rule : List A → A → List Fault) (before : List A) (xs : List A) (n : ℕ) (x : A) → is_free (each_behind rule before xs) ≡ true → slice_get xs n ≡ Some x →
    (front : List A) × (is_free (rule front x) ≡ true)
member_at rule before [] n x h e = absurd (true≢false (sym (ap is_some e)))
member_at rule before (y ∷ ys) zero x h e = (before, ap (λ o. is_free (rule before (unwrap_or o y))) (sym e) ∙ (each_member rule before y ys h).0)
member_at rule before (y ∷ ys) (suc n) x h e = member_at rule (before ++ y ∷ []) ys n x (each_member rule before y ys h).1 e

below_by : (a l : ℕ) (b : Bool) → nat_le (a + 1) l ≡ b → a ≤ l → (a ≡ l → ⊥) → a + 1 ≤ l
below_by a l true e h other = leb-true (a + 1) l e
below_by a l false e h other =
    let past : l < a + 1 = leb-false (a + 1) l e in
    let same : a ≡ l = omega arith in
    absurd (other same)

below : (a l : ℕ) → a ≤ l → (a == l) ≡ false → a + 1 ≤ l
below a l h other = below_by a l (nat_le (a + 1) l) refl h (eqb-false a l other)

one_more : (a b n l : ℕ) → n ≡ a + 1 → n + b ≤ l → a + suc b ≤ l
one_more a b n l e h = omega arith

no_more : (a l : ℕ) → a ≤ l → a + 0 ≤ l
no_more a l h = omega arith

from_zero : (n l : ℕ) → 0 + n ≤ l → n ≤ l
from_zero n l h = omega arith

zero_least : (l : ℕ) → 0 ≤ l
zero_least l = omega arith

-- a rule that is broken where its limit is reached
limited : {A : Type 0} (rule : List A → A → List Fault) (limit : ℕ) → ((before : List A) (x : A) → is_free (rule before x) ≡ true → (length before == limit) ≡ false) →
    (before xs : List A) → length before ≤ limit → is_free (each_behind rule before xs) ≡ true → length before + length xs ≤ limit
limited rule limit is before [] within h = no_more (length before) limit within
limited rule limit is before (x ∷ xs) within h =
    let member = each_member rule before x xs h in
    let longer : length (before ++ x ∷ []) ≡ length before + 1 = length-append before (x ∷ []) in
    let next = limited rule limit is (before ++ x ∷ []) xs (subst (λ k. k ≤ limit) (sym longer) (below (length before) limit within (is before x member.0))) member.1 in
    one_more (length before) (length xs) (length (before ++ x ∷ [])) limit longer next

-- First values

differs_same : (kind other : Kind) → differs kind (Some other) ≡ false → same_kind kind other ≡ true
differs_same Int Int h = refl
differs_same Int Str h = absurd (true≢false h)
differs_same Str Int h = absurd (true≢false h)
differs_same Str Str h = refl

const_kinds : (first : Const) → const_kind first ≡ kind_of_value (const_value first)
const_kinds (const.Number at n) = refl
const_kinds (const.Literal at text) = refl

first_sound : (s : Scope) (kind : Kind) (first : Const) → is_free (first_value s kind first) ≡ true → same_kind kind (kind_of_value (const_value first)) ≡ true
first_sound s kind first h =
    ap (same_kind kind) (sym (const_kinds first)) ∙ differs_same kind (const_kind first) (unbroken (differs kind (Some (const_kind first))) s (const_at first) kind_of_fault.KindsDiffer h)

default_sound : (s : Scope) (kind : Kind) (o : Option Const) → is_free (maybe (first_value s kind) o) ≡ true → is_default kind (option_map const_value o) ≡ true
default_sound s kind None h = refl
default_sound s kind (Some first) h = first_sound s kind first h

default_right : (s : Scope) (kind : Kind) (o : Option Const) → is_free (maybe (first_value s kind) o) ≡ true → is_right (taken kind o) ≡ true
default_right s kind None h = refl
default_right s kind (Some first) h = first_sound s kind first h

-- Parameters. The five rules of a parameter, in their order.
abbrev Rules : Scope → List Param → Param → Type 0
Rules s before p =
    (is_free (local_name (record s { locals = map param_local before }) p.at p.name) ≡ true)
    × (is_free (broken (length before == MOST_PARAMETERS) s p.at (kind_of_fault.Limit limits.Parameters)) ≡ true)
    × (is_free (broken (not (has_default p) && list_any has_default before) s p.at kind_of_fault.ArgumentCount) ≡ true)
    × (is_free (maybe (first_value s (kind_of_type p.kind.name)) p.first) ≡ true)

param_rules : (s : Scope) (before : List Param) (p : Param) → is_free (param_faults s before p) ≡ true → Rules s before p
param_rules s before p h =
    let a = type_faults s p.kind in
    let b = local_name (record s { locals = map param_local before }) p.at p.name in
    let c = broken (length before == MOST_PARAMETERS) s p.at (kind_of_fault.Limit limits.Parameters) in
    let d = broken (not (has_default p) && list_any has_default before) s p.at kind_of_fault.ArgumentCount in
    let e = maybe (first_value s (kind_of_type p.kind.name)) p.first in
    let abcd = free_left (a ++ b ++ c ++ d) e h in
    let abc = free_left (a ++ b ++ c) d abcd in
    (free_right a b (free_left (a ++ b) c abc), free_right (a ++ b) c abc, free_right (a ++ b ++ c) d abcd, free_right (a ++ b ++ c ++ d) e h)

params_default : (s : Scope) (before ps : List Param) → is_free (each_behind (param_faults s) before ps) ≡ true → list_all (λ (q : to.Param). is_default q.kind q.first) (map bound_param ps) ≡ true
params_default s before [] h = refl
params_default s before (p ∷ ps) h =
    let member = each_member (param_faults s) before p ps h in
    both_true (is_default (kind_of_type p.kind.name) (option_map const_value p.first)) (list_all (λ (q : to.Param). is_default q.kind q.first) (map bound_param ps))
    (default_sound s (kind_of_type p.kind.name) p.first (param_rules s before p member.0).3) (params_default s (before ++ p ∷ []) ps member.1)

params_right : (s : Scope) (before ps : List Param) → is_free (each_behind (param_faults s) before ps) ≡ true → list_all is_right (map (λ (p : Param). taken (kind_of_type p.kind.name) p.first) ps) ≡ true
params_right s before [] h = refl
params_right s before (p ∷ ps) h =
    let member = each_member (param_faults s) before p ps h in
    both_true (is_right (taken (kind_of_type p.kind.name) p.first)) (list_all is_right (map (λ (x : Param). taken (kind_of_type x.kind.name) x.first) ps))
    (default_right s (kind_of_type p.kind.name) p.first (param_rules s before p member.0).3) (params_right s (before ++ p ∷ []) ps member.1)

pub params_within : (s : Scope) (ps : List Param) → is_free (each_behind (param_faults s) [] ps) ≡ true → length ps ≤ MOST_PARAMETERS
params_within s ps h = from_zero (length ps) MOST_PARAMETERS (limited (param_faults s) MOST_PARAMETERS (λ before p free. unbroken (length before == MOST_PARAMETERS) s p.at (kind_of_fault.Limit limits.Parameters) (param_rules s before p free).1) [] ps (zero_least MOST_PARAMETERS) h)

local_below : (s : Scope) (at : ℕ) (name : List ℕ) → is_free (local_name s at name) ≡ true → (length s.locals == MOST_LOCALS) ≡ false
local_below s at name h =
    unbroken (length s.locals == MOST_LOCALS) s at (kind_of_fault.Limit limits.Locals)
    (free_right (broken (list_any (λ (l : Local). str_eq_ignore_ascii_case l.name name) s.locals) s at kind_of_fault.DeclaredTwice) (broken (length s.locals == MOST_LOCALS) s at (kind_of_fault.Limit limits.Locals)) h)

params_locals : (s : Scope) (ps : List Param) → is_free (each_behind (param_faults s) [] ps) ≡ true → length ps ≤ MOST_LOCALS
params_locals s ps h =
    from_zero (length ps) MOST_LOCALS (limited (param_faults s) MOST_LOCALS
    (λ before p free. ap (λ n. n == MOST_LOCALS) (sym (length-map before param_local)) ∙ local_below (record s { locals = map param_local before }) p.at p.name (param_rules s before p free).0) [] ps (zero_least MOST_LOCALS) h)

-- behind a parameter with a default all have one
last_if : (b other : Bool) → (not b && other) ≡ false → other ≡ true → b ≡ true
last_if true other h e = refl
last_if false other h e = absurd (true≢false (sym e ∙ h))

any_append : {A : Type 0} (test : A → Bool) (xs ys : List A) → list_any test (xs ++ ys) ≡ (list_any test xs || list_any test ys)
any_append test [] ys = refl
any_append test (x ∷ xs) ys = ap (λ b. test x || b) (any_append test xs ys) ∙ or_assoc (test x) (list_any test xs) (list_any test ys)
  where
    or_assoc : (a b c : Bool) → (a || (b || c)) ≡ ((a || b) || c)
    or_assoc true b c = refl
    or_assoc false b c = refl

or_left : (a b : Bool) → a ≡ true → (a || b) ≡ true
or_left true b h = refl
or_left false b h = absurd (true≢false (sym h))

or_right : (a b : Bool) → b ≡ true → (a || b) ≡ true
or_right true b h = refl
or_right false b h = h

some_first : (o : Option Const) → is_some (option_map const_value o) ≡ is_some o
some_first None = refl
some_first (Some first) = refl

defaults_behind : (s : Scope) (before ps : List Param) → list_any has_default before ≡ true → is_free (each_behind (param_faults s) before ps) ≡ true → list_all (λ (q : to.Param). is_some q.first) (map bound_param ps) ≡ true
defaults_behind s before [] any h = refl
defaults_behind s before (p ∷ ps) any h =
    let member = each_member (param_faults s) before p ps h in
    both_true (is_some (option_map const_value p.first)) (list_all (λ (q : to.Param). is_some q.first) (map bound_param ps))
    (some_first p.first ∙ last_if (has_default p) (list_any has_default before) (unbroken (not (has_default p) && list_any has_default before) s p.at kind_of_fault.ArgumentCount (param_rules s before p member.0).2) any)
    (defaults_behind s (before ++ p ∷ []) ps (any_append has_default before (p ∷ []) ∙ or_left (list_any has_default before) (list_any has_default (p ∷ [])) any) member.1)

last_by : (b : Bool) (x : Bool) → (b ≡ true → x ≡ true) → (if b then x else true) ≡ true
last_by true x h = h refl
last_by false x h = refl

params_last : (s : Scope) (before ps : List Param) → is_free (each_behind (param_faults s) before ps) ≡ true → are_last (map bound_param ps) ≡ true
params_last s before [] h = refl
params_last s before (p ∷ ps) h =
    let member = each_member (param_faults s) before p ps h in
    both_true (if is_some (option_map const_value p.first) then list_all (λ (q : to.Param). is_some q.first) (map bound_param ps) else true) (are_last (map bound_param ps))
    (last_by (is_some (option_map const_value p.first)) (list_all (λ (q : to.Param). is_some q.first) (map bound_param ps))
    (λ is. defaults_behind s (before ++ p ∷ []) ps (any_append has_default before (p ∷ []) ∙ or_right (list_any has_default before) (list_any has_default (p ∷ [])) (or_left (has_default p) false (sym (some_first p.first) ∙ is))) member.1))
    (params_last s (before ++ p ∷ []) ps member.1)

-- Locals of a body

more_locals : (s : Scope) (ls ms : List Local) (n : ℕ) → length (with_locals s ls).locals + n ≤ MOST_LOCALS → n ≡ length ms → length s.locals + length (ls ++ ms) ≤ MOST_LOCALS
more_locals s ls ms n h e =
    let first : length (s.locals ++ ls) ≡ length s.locals + length ls = length-append s.locals ls in
    let second : length (ls ++ ms) ≡ length ls + length ms = length-append ls ms in
    let whole : length (s.locals ++ ls) + n ≤ MOST_LOCALS = h in
    sums (length s.locals) (length ls) (length ms) n (length (s.locals ++ ls)) (length (ls ++ ms)) first second e whole
  where
    sums : (a b c n x y : ℕ) → x ≡ a + b → y ≡ b + c → n ≡ c → x + n ≤ MOST_LOCALS → a + y ≤ MOST_LOCALS
    sums a b c n x y h1 h2 h3 h4 = omega arith

within_first : (s : Scope) (ls : List Local) → length s.locals + length ls ≤ MOST_LOCALS → length (with_locals s ls).locals ≤ MOST_LOCALS
within_first s ls h = subst (λ k. k ≤ MOST_LOCALS) (sym (length-append s.locals ls)) h

locals_within : (s : Scope) (kind : Kind) (ls : List from.Local) → length s.locals ≤ MOST_LOCALS → is_free (locals_faults s kind ls) ≡ true → length s.locals + length (map (declared_local kind) ls) ≤ MOST_LOCALS
locals_within s kind [] h free = no_more (length s.locals) MOST_LOCALS h
locals_within s kind (l ∷ ls) h free =
    let next = with_locals s (declared_local kind l ∷ []) in
    let front = free_left (local_name s l.at l.name ++ maybe (part_faults s kind) l.value) (locals_faults next kind ls) free in
    let longer : length next.locals ≡ length s.locals + 1 = length-append s.locals (declared_local kind l ∷ []) in
    let room = below (length s.locals) MOST_LOCALS h (local_below s l.at l.name (free_left (local_name s l.at l.name) (maybe (part_faults s kind) l.value) front)) in
    one_more (length s.locals) (length (map (declared_local kind) ls)) (length next.locals) MOST_LOCALS longer
    (locals_within next kind ls (subst (λ k. k ≤ MOST_LOCALS) (sym longer) room) (free_right (local_name s l.at l.name ++ maybe (part_faults s kind) l.value) (locals_faults next kind ls) free))

-- two parts of a body, the second where the locals of the first hold
two_within : (s : Scope) (ls ms : List Local) → length s.locals + length ls ≤ MOST_LOCALS → (length (with_locals s ls).locals ≤ MOST_LOCALS → length (with_locals s ls).locals + length ms ≤ MOST_LOCALS) → length s.locals + length (ls ++ ms) ≤ MOST_LOCALS
two_within s ls ms h next = more_locals s ls ms (length ms) (next (within_first s ls h)) refl

mutual
  stmt_within : (s : Scope) (stmt : from.Stmt) → length s.locals ≤ MOST_LOCALS → is_free (stmt_faults s stmt) ≡ true → length s.locals + length (locals_in stmt) ≤ MOST_LOCALS
  stmt_within s (from.declare at kind locals) h free = locals_within s (kind_of_type kind.name) locals h (free_right (type_faults s kind) (locals_faults s (kind_of_type kind.name) locals) free)
  stmt_within s (from.assign at name index equals value) h free = no_more (length s.locals) MOST_LOCALS h
  stmt_within s (from.call_of at name args) h free = no_more (length s.locals) MOST_LOCALS h
  stmt_within s (from.choose at test body last) h free =
      let behind = with_locals s (locals_in_block body) in
      let front = free_left (part_faults s Int test ++ block_faults s body) (other_faults behind last) free in
      two_within s (locals_in_block body) (locals_in_other last) (block_within s body h (free_right (part_faults s Int test) (block_faults s body) front))
      (λ within. other_within behind last within (free_right (part_faults s Int test ++ block_faults s body) (other_faults behind last) free))
  stmt_within s (from.while at test body) h free = block_within s body h (free_right (part_faults s Int test) (block_faults s body) free)
  stmt_within s (from.for at name_at name first last body) h free =
      block_within s body h (free_right (part_faults s Int (target name_at name None) ++ part_faults s Int first ++ part_faults s Int last) (block_faults s body) free)
  stmt_within s (from.select at subject clauses last) h free =
      let behind = with_locals s (locals_in_clauses clauses) in
      let front = free_left (expr_faults s subject ++ clauses_faults s (kind_of s subject) clauses) (other_faults behind last) free in
      two_within s (locals_in_clauses clauses) (locals_in_other last) (clauses_within s (kind_of s subject) clauses h (free_right (expr_faults s subject) (clauses_faults s (kind_of s subject) clauses) front))
      (λ within. other_within behind last within (free_right (expr_faults s subject ++ clauses_faults s (kind_of s subject) clauses) (other_faults behind last) free))
  stmt_within s (from.return at value) h free = no_more (length s.locals) MOST_LOCALS h

  other_within : (s : Scope) (last : from.Other) → length s.locals ≤ MOST_LOCALS → is_free (other_faults s last) ≡ true → length s.locals + length (locals_in_other last) ≤ MOST_LOCALS
  other_within s from.no_other h free = no_more (length s.locals) MOST_LOCALS h
  other_within s (from.other body) h free = block_within s body h free

  clauses_within : (s : Scope) (a : Option Kind) (clauses : from.Clauses) → length s.locals ≤ MOST_LOCALS → is_free (clauses_faults s a clauses) ≡ true → length s.locals + length (locals_in_clauses clauses) ≤ MOST_LOCALS
  clauses_within s a from.no_clause h free = no_more (length s.locals) MOST_LOCALS h
  clauses_within s a (from.clause at labels body more) h free =
      let behind = with_locals s (locals_in_block body) in
      let front = free_left (labels_faults s a labels ++ block_faults s body) (clauses_faults behind a more) free in
      two_within s (locals_in_block body) (locals_in_clauses more) (block_within s body h (free_right (labels_faults s a labels) (block_faults s body) front))
      (λ within. clauses_within behind a more within (free_right (labels_faults s a labels ++ block_faults s body) (clauses_faults behind a more) free))

  block_within : (s : Scope) (block : from.Block) → length s.locals ≤ MOST_LOCALS → is_free (block_faults s block) ≡ true → length s.locals + length (locals_in_block block) ≤ MOST_LOCALS
  block_within s from.done h free = no_more (length s.locals) MOST_LOCALS h
  block_within s (from.then first more) h free =
      let behind = with_locals s (locals_in first) in
      two_within s (locals_in first) (locals_in_block more) (stmt_within s first h (free_left (stmt_faults s first) (block_faults behind more) free))
      (λ within. block_within behind more within (free_right (stmt_faults s first) (block_faults behind more) free))

-- Functions. The rules of a function that are used here.
pub function_params : (d : Declared) (before : List Function) (f : Function) → is_free (function_faults d before f) ≡ true → is_free (each_behind (param_faults (scope_of d f)) [] f.params) ≡ true
function_params d before f h =
    let s = scope_of d f in
    let a = broken (list_any (same_function f) before || is_some (given_named f.name)) s f.at kind_of_fault.DeclaredTwice in
    let b = broken (length before == MOST_FUNCTIONS) s f.at (kind_of_fault.Limit limits.Functions) in
    let c = maybe (type_faults s) f.gives in
    let e = each_behind (param_faults s) [] f.params in
    free_right (a ++ b ++ c) e (free_left (a ++ b ++ c ++ e) (block_faults s f.body) h)

pub function_body : (d : Declared) (before : List Function) (f : Function) → is_free (function_faults d before f) ≡ true → is_free (block_faults (scope_of d f) f.body) ≡ true
function_body d before f h =
    let s = scope_of d f in
    let a = broken (list_any (same_function f) before || is_some (given_named f.name)) s f.at kind_of_fault.DeclaredTwice in
    let b = broken (length before == MOST_FUNCTIONS) s f.at (kind_of_fault.Limit limits.Functions) in
    let c = maybe (type_faults s) f.gives in
    let e = each_behind (param_faults s) [] f.params in
    free_right (a ++ b ++ c ++ e) (block_faults s f.body) h

function_below : (d : Declared) (before : List Function) (f : Function) → is_free (function_faults d before f) ≡ true → (length before == MOST_FUNCTIONS) ≡ false
function_below d before f h =
    let s = scope_of d f in
    let a = broken (list_any (same_function f) before || is_some (given_named f.name)) s f.at kind_of_fault.DeclaredTwice in
    let b = broken (length before == MOST_FUNCTIONS) s f.at (kind_of_fault.Limit limits.Functions) in
    let c = maybe (type_faults s) f.gives in
    let e = each_behind (param_faults s) [] f.params in
    unbroken (length before == MOST_FUNCTIONS) s f.at (kind_of_fault.Limit limits.Functions) (free_right a b (free_left (a ++ b) c (free_left (a ++ b ++ c) e (free_left (a ++ b ++ c ++ e) (block_faults s f.body) h))))

param_kinds_same : (ps : List Param) → map (λ (q : to.Param). q.kind) (map bound_param ps) ≡ kinds (map param_local ps)
param_kinds_same [] = refl
param_kinds_same (p ∷ ps) = ap (λ ks. kind_of_type p.kind.name ∷ ks) (param_kinds_same ps)

-- the defaults of all functions
abbrev pub Defaults : Declared → Type 0
Defaults d = (n : ℕ) (f : Function) → slice_get d.functions n ≡ Some f → list_all is_right (heading_of f).takes ≡ true

pub function_stood : (d : Declared) (f : Function) → Defaults d → Stood d (context_of (bound_declared d) (bound_function d f)) (scope_of d f) (locals_in_block f.body) []
function_stood d f defaults = record {
  declared = refl;
  project = refl;
  gives = refl;
  locals = ap₂ (λ xs ys. xs ++ ys) (param_kinds_same f.params) (sym (append-nil (kinds (locals_in_block f.body))));
  defaults = defaults;
}

-- a function has no more locals than there may be
pub locals_few : (d : Declared) (before : List Function) (f : Function) → is_free (function_faults d before f) ≡ true → length (bound_function d f).params + length (bound_function d f).others ≤ MOST_LOCALS
locals_few d before f h =
    let s = scope_of d f in
    let params = function_params d before f h in
    subst (λ k. k ≤ MOST_LOCALS) (ap₂ (λ a b. a + b) (length-map f.params param_local ∙ sym (length-map f.params bound_param)) (sym (length-map (locals_in_block f.body) (λ (l : Local). l.kind))))
    (block_within s f.body (subst (λ k. k ≤ MOST_LOCALS) (sym (length-map f.params param_local)) (params_locals s f.params params)) (function_body d before f h))

function_sound : (d : Declared) (before : List Function) (f : Function) → Defaults d → is_free (function_faults d before f) ≡ true → is_function (bound_declared d) (bound_function d f) ≡ true
function_sound d before f defaults h =
    let s = scope_of d f in
    let g = bound_function d f in
    let params = function_params d before f h in
    let few : length g.params ≤ MOST_PARAMETERS = subst (λ k. k ≤ MOST_PARAMETERS) (sym (length-map f.params bound_param)) (params_within s f.params params) in
    let locals : length g.params + length g.others ≤ MOST_LOCALS = locals_few d before f h in
    let a = nat_le (length g.params) MOST_PARAMETERS in
    let b = nat_le (length g.params + length g.others) MOST_LOCALS in
    let c = list_all (λ (q : to.Param). is_default q.kind q.first) g.params in
    let e = are_last g.params in
    both_true (a && b && c && e) (is_block (context_of (bound_declared d) g) g.body)
    (both_true (a && b && c) e
    (both_true (a && b) c (both_true a b (le-leb (length g.params) MOST_PARAMETERS few) (le-leb (length g.params + length g.others) MOST_LOCALS locals)) (params_default s [] f.params params))
    (params_last s [] f.params params))
    (block_sound d (context_of (bound_declared d) g) s f.body [] (function_stood d f defaults) (function_body d before f h))

functions_sound : (d : Declared) → Defaults d → (before fs : List Function) → is_free (each_behind (function_faults d) before fs) ≡ true → list_all (is_function (bound_declared d)) (map (bound_function d) fs) ≡ true
functions_sound d defaults before [] h = refl
functions_sound d defaults before (f ∷ fs) h =
    let member = each_member (function_faults d) before f fs h in
    both_true (is_function (bound_declared d) (bound_function d f)) (list_all (is_function (bound_declared d)) (map (bound_function d) fs))
    (function_sound d before f defaults member.0) (functions_sound d defaults (before ++ f ∷ []) fs member.1)

pub defaults_right : (d : Declared) → is_free (each_behind (function_faults d) [] d.functions) ≡ true → Defaults d
defaults_right d h n f e =
    let found = member_at (function_faults d) [] d.functions n f h e in
    params_right (scope_of d f) [] f.params (function_params d found.0 f found.1)

-- Variables. The rules of a variable that are used here.
abbrev Kept : Declared → List Variable → Variable → Type 0
Kept d before v =
    (passes_cells before v ≡ false)
    × (is_free (maybe (length_faults (file_scope d v.file)) v.length) ≡ true)
    × (is_free (maybe (first_value (file_scope d v.file) (kind_of_variable v)) v.first) ≡ true)

variable_rules : (d : Declared) (before : List Variable) (v : Variable) → is_free (variable_faults d before v) ≡ true → Kept d before v
variable_rules d before v h =
    let s = file_scope d v.file in
    let a = broken (list_any (same_variable v) before) s v.at kind_of_fault.DeclaredTwice in
    let b = broken (passes_cells before v) s v.at (kind_of_fault.Limit limits.Cells) in
    let c = type_faults s v.kind in
    let e = maybe (length_faults s) v.length in
    let g = maybe (first_value s (kind_of_variable v)) v.first in
    let abce = free_left (a ++ b ++ c ++ e) g h in
    let ab = free_left (a ++ b) c (free_left (a ++ b ++ c) e abce) in
    (unbroken (passes_cells before v) s v.at (kind_of_fault.Limit limits.Cells) (free_right a b ab), free_right (a ++ b ++ c) e abce, free_right (a ++ b ++ c ++ e) g h)

-- each variable has a cell
size_least : (s : Scope) (l : Option Length) → is_free (maybe (length_faults s) l) ≡ true → 1 ≤ size_said l
size_least s None h = omega arith
size_least s (Some l) h = above (array_size l.value) (unbroken (array_size l.value == 0) s l.at (kind_of_fault.Limit limits.Array) h)
  where
    positive : (n : ℕ) → (n ≡ 0 → ⊥) → 1 ≤ n
    positive zero other = absurd (other refl)
    positive (suc n) other = omega arith

    above : (n : ℕ) → (n == 0) ≡ false → 1 ≤ n
    above n e = positive n (eqb-false n 0 e)

pub cells_after : (before : List Variable) (v : Variable) → cells_of (before ++ v ∷ []) ≡ cells_of before + size_of v
cells_after before v = sum_by-append size_of before (v ∷ []) ∙ ap (λ n. cells_of before + n) (sum_by-cons size_of v [] ∙ plus_none (size_of v))
  where
    plus_none : (n : ℕ) → n + 0 ≡ n
    plus_none n = omega arith

room_left : (n size : ℕ) → (nat_le n MOST_CELLS && nat_lt MOST_CELLS (n + size)) ≡ false → n ≤ MOST_CELLS → n + size ≤ MOST_CELLS
room_left n size e h =
    let past : nat_lt MOST_CELLS (n + size) ≡ false = sym (ap (λ b. b && nat_lt MOST_CELLS (n + size)) (le-leb n MOST_CELLS h)) ∙ e in
    let less : n + size < MOST_CELLS + 1 = leb-false (MOST_CELLS + 1) (n + size) past in
    omega arith

-- the cells of all variables are no more than there may be
cells_within : (d : Declared) (before vs : List Variable) → cells_of before ≤ MOST_CELLS → is_free (each_behind (variable_faults d) before vs) ≡ true → cells_of before + cells_of vs ≤ MOST_CELLS
cells_within d before [] within h = no_more (cells_of before) MOST_CELLS within
cells_within d before (v ∷ vs) within h =
    let member = each_member (variable_faults d) before v vs h in
    let after = cells_after before v in
    let more : cells_of (v ∷ vs) ≡ size_of v + cells_of vs = sum_by-cons size_of v vs in
    sums (cells_of before) (size_of v) (cells_of vs) (cells_of (before ++ v ∷ [])) (cells_of (v ∷ vs)) after more
    (cells_within d (before ++ v ∷ []) vs (subst (λ k. k ≤ MOST_CELLS) (sym after) (room_left (cells_of before) (size_of v) (variable_rules d before v member.0).0 within)) member.1)
  where
    sums : (a b c x y : ℕ) → x ≡ a + b → y ≡ b + c → x + c ≤ MOST_CELLS → a + y ≤ MOST_CELLS
    sums a b c x y h1 h2 h3 = omega arith

pub cells_few : (d : Declared) → is_free (each_behind (variable_faults d) [] d.variables) ≡ true → cells_of d.variables ≤ MOST_CELLS
cells_few d h = from_zero (cells_of d.variables) MOST_CELLS (cells_within d [] d.variables (zero_least MOST_CELLS) h)

-- each variable has a cell
pub all_sized : (d : Declared) (before vs : List Variable) → is_free (each_behind (variable_faults d) before vs) ≡ true → All (λ (v : Variable). 1 ≤ size_of v) vs
all_sized d before [] h = All-nil (λ (v : Variable). 1 ≤ size_of v)
all_sized d before (v ∷ vs) h =
    let member = each_member (variable_faults d) before v vs h in
    All-cons (λ (w : Variable). 1 ≤ size_of w) v vs (size_least (file_scope d v.file) v.length (variable_rules d before v member.0).1) (all_sized d (before ++ v ∷ []) vs member.1)

all_replicate : {A : Type 0} (test : A → Bool) (n : ℕ) (x : A) → test x ≡ true → list_all test (replicate n x) ≡ true
all_replicate test zero x h = refl
all_replicate test (suc n) x h = both_true (test x) (list_all test (replicate n x)) h (all_replicate test n x h)

same_refl : (kind : Kind) → same_kind kind kind ≡ true
same_refl Int = refl
same_refl Str = refl

cell_sound : (s : Scope) (kind : Kind) (o : Option Const) → is_free (maybe (first_value s kind) o) ≡ true → same_kind kind (kind_of_value (unwrap_or (option_map const_value o) (value_of_kind kind))) ≡ true
cell_sound s Int None h = refl
cell_sound s Str None h = refl
cell_sound s kind (Some first) h = first_sound s kind first h

cells_sound : (d : Declared) (before vs : List Variable) → is_free (each_behind (variable_faults d) before vs) ≡ true → list_all is_cell (flat_map bound_cells vs) ≡ true
cells_sound d before [] h = refl
cells_sound d before (v ∷ vs) h =
    let member = each_member (variable_faults d) before v vs h in
    list_all-append is_cell (bound_cells v) (flat_map bound_cells vs)
    ∙ both_true (list_all is_cell (bound_cells v)) (list_all is_cell (flat_map bound_cells vs))
    (all_replicate is_cell (size_of v) (cell_of v) (cell_sound (file_scope d v.file) (kind_of_variable v) v.first (variable_rules d before v member.0).2))
    (cells_sound d (before ++ v ∷ []) vs member.1)

-- the cells of all variables, cut where a variable stands
cells_cut : (all before vs : List Variable) (v : Variable) → all ≡ before ++ v ∷ vs → flat_map bound_cells all ≡ flat_map bound_cells before ++ (bound_cells v ++ flat_map bound_cells vs)
cells_cut all before vs v h = ap (flat_map bound_cells) h ∙ flat_map-append bound_cells before (v ∷ vs)

cells_length : (all before vs : List Variable) (v : Variable) → all ≡ before ++ v ∷ vs → length (flat_map bound_cells all) ≡ cells_of before + (size_of v + cells_of vs)
cells_length all before vs v h =
    length_cells all ∙ ap cells_of h ∙ sum_by-append size_of before (v ∷ vs) ∙ ap (λ n. cells_of before + n) (sum_by-cons size_of v vs)

own_cells : (all before vs : List Variable) (v : Variable) → all ≡ before ++ v ∷ vs → take (size_of v) (drop (cells_of before) (flat_map bound_cells all)) ≡ bound_cells v
own_cells all before vs v h =
    ap₂ (λ n cells. take (size_of v) (drop n cells)) (sym (length_cells before)) (cells_cut all before vs v h)
    ∙ ap (take (size_of v)) (drop-append_seam (flat_map bound_cells before) (bound_cells v ++ flat_map bound_cells vs))
    ∙ ap (λ n. take n (bound_cells v ++ flat_map bound_cells vs)) (sym (length-replicate (size_of v) (cell_of v)))
    ∙ take-append_seam (bound_cells v) (flat_map bound_cells vs)

array_sound : (d : Declared) (before vs : List Variable) (v : Variable) → d.variables ≡ before ++ v ∷ vs → 1 ≤ size_of v →
    is_array (bound_declared d) (record { first = cells_of before; kind = kind_of_variable v; length = size_of v }) ≡ true
array_sound d before vs v h least =
    let long = cells_length d.variables before vs v h in
    let whole : cells_of before + size_of v ≤ length (flat_map bound_cells d.variables) = parts (cells_of before) (size_of v) (cells_of vs) (length (flat_map bound_cells d.variables)) long in
    both_true (nat_le 1 (size_of v) && nat_le (cells_of before + size_of v) (length (flat_map bound_cells d.variables)))
    (list_all (λ (x : to.Cell). same_kind (kind_of_variable v) x.kind) (take (size_of v) (drop (cells_of before) (flat_map bound_cells d.variables))))
    (both_true (nat_le 1 (size_of v)) (nat_le (cells_of before + size_of v) (length (flat_map bound_cells d.variables))) (le-leb 1 (size_of v) least) (le-leb (cells_of before + size_of v) (length (flat_map bound_cells d.variables)) whole))
    (ap (list_all (λ (x : to.Cell). same_kind (kind_of_variable v) x.kind)) (own_cells d.variables before vs v h)
    ∙ all_replicate (λ (x : to.Cell). same_kind (kind_of_variable v) x.kind) (size_of v) (cell_of v) (same_refl (kind_of_variable v)))
  where
    parts : (a b c n : ℕ) → n ≡ a + (b + c) → a + b ≤ n
    parts a b c n e = omega arith

global_sound : (d : Declared) (before vs : List Variable) (v : Variable) → d.variables ≡ before ++ v ∷ vs → 1 ≤ size_of v → is_global (bound_declared d) (record { name = v.name; cell = cells_of before }) ≡ true
global_sound d before vs v h least =
    lt-ltb (cells_of before) (length (flat_map bound_cells d.variables))
    (parts (cells_of before) (size_of v) (cells_of vs) (length (flat_map bound_cells d.variables)) least (cells_length d.variables before vs v h))
  where
    parts : (a b c n : ℕ) → 1 ≤ b → n ≡ a + (b + c) → a < n
    parts a b c n least' e = omega arith

all_if : {A : Type 0} (test : A → Bool) (b : Bool) (x : A) → test x ≡ true → list_all test (if b then x ∷ [] else []) ≡ true
all_if test true x h = both_true (test x) true h refl
all_if test false x h = refl

-- what each variable makes passes a test
each_sound : {A : Type 0} (test : A → Bool) (make : List Variable → Variable → List A) (d : Declared) →
    ((before vs : List Variable) (v : Variable) → d.variables ≡ before ++ v ∷ vs → 1 ≤ size_of v → list_all test (make before v) ≡ true) →
    (before vs : List Variable) → d.variables ≡ before ++ vs → is_free (each_behind (variable_faults d) before vs) ≡ true → list_all test (each_behind make before vs) ≡ true
each_sound test make d one before [] h free = refl
each_sound test make d one before (v ∷ vs) h free =
    let member = each_member (variable_faults d) before v vs free in
    list_all-append test (make before v) (each_behind make (before ++ v ∷ []) vs)
    ∙ both_true (list_all test (make before v)) (list_all test (each_behind make (before ++ v ∷ []) vs))
    (one before vs v h (size_least (file_scope d v.file) v.length (variable_rules d before v member.0).1))
    (each_sound test make d one (before ++ v ∷ []) vs (h ∙ sym (append_assoc before (v ∷ []) vs)) member.1)

-- All files

declared_sound : (d : Declared) → is_free (declared_faults d) ≡ true → is_sound (bound_declared d) ≡ true
declared_sound d h =
    let p = bound_declared d in
    let fs = free_left (each_behind (function_faults d) [] d.functions) (each_behind (variable_faults d) [] d.variables) h in
    let vs = free_right (each_behind (function_faults d) [] d.functions) (each_behind (variable_faults d) [] d.variables) h in
    let few : length p.functions ≤ MOST_FUNCTIONS =
    subst (λ k. k ≤ MOST_FUNCTIONS) (sym (length-map d.functions (bound_function d))) (from_zero (length d.functions) MOST_FUNCTIONS (limited (function_faults d) MOST_FUNCTIONS (function_below d) [] d.functions (zero_least MOST_FUNCTIONS) fs)) in
    let cells : length p.cells ≤ MOST_CELLS = subst (λ k. k ≤ MOST_CELLS) (sym (length_cells d.variables)) (cells_few d vs) in
    let a = nat_le (length p.functions) MOST_FUNCTIONS in
    let b = nat_le (length p.cells) MOST_CELLS in
    let c = list_all (is_function p) p.functions in
    let e = list_all is_cell p.cells in
    let g = list_all (is_array p) p.arrays in
    both_true (a && b && c && e && g) (list_all (is_global p) p.globals)
    (both_true (a && b && c && e) g
    (both_true (a && b && c) e
    (both_true (a && b) c (both_true a b (le-leb (length p.functions) MOST_FUNCTIONS few) (le-leb (length p.cells) MOST_CELLS cells)) (functions_sound d (defaults_right d fs) [] d.functions fs))
    (cells_sound d [] d.variables vs))
    (each_sound (is_array p) bound_array d
    (λ before more v same least. all_if (is_array p) (is_array_said v.length) (record { first = cells_of before; kind = kind_of_variable v; length = size_of v }) (array_sound d before more v same least))
    [] d.variables refl vs))
    (each_sound (is_global p) bound_global d
    (λ before more v same least. all_if (is_global p) (v.global && not (is_array_said v.length)) (record { name = v.name; cell = cells_of before }) (global_sound d before more v same least))
    [] d.variables refl vs)

pub bound_is_sound : (files : List (List Item)) (project : Project) → binds files project → is_sound project ≡ true
bound_is_sound files project h = ap is_sound h.1 ∙ declared_sound (declared_in files) (sorted_none (declared_faults (declared_in files)) h.0)
