-- What the tests of a right project say of its parts.
use Rattle.std.proofs.Common.{◌≡◌, ℕ, zero, suc, ◌+◌, ◌≤◌, Bool, true, false, List, [], ◌∷◌, length, Some, refl, subst, leb-true}
use Rattle.std.specs.List.{list_all}
use Rattle.std.specs.Prelude.{◌&&◌, nat_le, slice_get, IsTrue}
use Rattle.ci_base.specs.declared.bounds.TheConstants.{MOST_FUNCTIONS, MOST_CELLS, MOST_PARAMETERS, MOST_LOCALS}
use Rattle.ci_base.specs.declared.value.Kind.{Kind}
use Rattle.ci_base.specs.declared.value.Kind.TheVariants.{Int, Str}
use Rattle.ci_tree.specs.Bound.{Param, Function, Project}
use Rattle.ci_tree.specs.Operators.{same_kind}
use Rattle.ci_tree.specs.Sound.{context_of, is_default, are_last, is_block, is_function, is_cell, is_array, is_global, is_sound}

pub and_both : (a b : Bool) → (a && b) ≡ true → (a ≡ true) × (b ≡ true)
and_both true true e = (refl, refl)
and_both true false e = absurd (cc e)
and_both false b e = absurd (cc e)

pub all_there : {A : Type 0} → (q : A → Bool) (xs : List A) (i : ℕ) (x : A) → list_all q xs ≡ true → slice_get xs i ≡ Some x → q x ≡ true
all_there q [] i x e h = absurd (cc h)
all_there q (y ∷ xs) zero x e h = let same : y ≡ x = cc h in subst (λ z. q z ≡ true) same ((and_both (q y) (list_all q xs) e).0)
all_there q (y ∷ xs) (suc i) x e h = all_there q xs i x ((and_both (q y) (list_all q xs) e).1) h

pub some_kind : (a b : Kind) → Some a ≡ Some b → a ≡ b
some_kind a b e = cc e

pub same_kinds : (a b : Kind) → same_kind a b ≡ true → a ≡ b
same_kinds Int Int e = refl
same_kinds Int Str e = absurd (cc e)
same_kinds Str Int e = absurd (cc e)
same_kinds Str Str e = refl

-- a right project
pub record ProjectParts (p : Project) : Type 0 where
  pub functions : length p.functions ≤ MOST_FUNCTIONS
  pub cells : length p.cells ≤ MOST_CELLS
  pub each_function : list_all (is_function p) p.functions ≡ true
  pub each_cell : list_all is_cell p.cells ≡ true
  pub arrays : list_all (is_array p) p.arrays ≡ true
  pub globals : list_all (is_global p) p.globals ≡ true

pub project_parts : (p : Project) → IsTrue (is_sound p) → ProjectParts p
project_parts p e =
    let a : Bool = nat_le (length p.functions) MOST_FUNCTIONS in
    let b : Bool = nat_le (length p.cells) MOST_CELLS in
    let c : Bool = list_all (is_function p) p.functions in
    let d : Bool = list_all is_cell p.cells in
    let x : Bool = list_all (is_array p) p.arrays in
    let y : Bool = list_all (is_global p) p.globals in
    let (e5, globals) = and_both (a && b && c && d && x) y e in
    let (e4, arrays) = and_both (a && b && c && d) x e5 in
    let (e3, cells) = and_both (a && b && c) d e4 in
    let (e2, functions) = and_both (a && b) c e3 in
    let (many, most) = and_both a b e2 in
    record {
      functions = leb-true (length p.functions) MOST_FUNCTIONS many;
      cells = leb-true (length p.cells) MOST_CELLS most;
      each_function = functions;
      each_cell = cells;
      arrays = arrays;
      globals = globals;
    }

-- a function of a right project
pub record FunctionParts (p : Project) (f : Function) : Type 0 where
  pub parameters : length f.params ≤ MOST_PARAMETERS
  pub locals : length f.params + length f.others ≤ MOST_LOCALS
  pub defaults : list_all (λ (q : Param). is_default q.kind q.first) f.params ≡ true
  pub last : are_last f.params ≡ true
  pub body : is_block (context_of p f) f.body ≡ true

pub function_parts : (p : Project) → IsTrue (is_sound p) → (n : ℕ) (f : Function) → slice_get p.functions n ≡ Some f → FunctionParts p f
function_parts p sound n f found =
    let e = all_there (is_function p) p.functions n f ((project_parts p sound).each_function) found in
    let a : Bool = nat_le (length f.params) MOST_PARAMETERS in
    let b : Bool = nat_le (length f.params + length f.others) MOST_LOCALS in
    let c : Bool = list_all (λ (q : Param). is_default q.kind q.first) f.params in
    let (e4, body) = and_both (a && b && c && are_last f.params) (is_block (context_of p f) f.body) e in
    let (e3, last) = and_both (a && b && c) (are_last f.params) e4 in
    let (e2, defaults) = and_both (a && b) c e3 in
    let (few, fewer) = and_both a b e2 in
    record {
      parameters = leb-true (length f.params) MOST_PARAMETERS few;
      locals = leb-true (length f.params + length f.others) MOST_LOCALS fewer;
      defaults = defaults;
      last = last;
      body = body;
    }
