-- What the shared state knows of a project is made member by member, and its numbers fit.
use Rattle.std.specs.Prelude.{◌≡◌, refl, ℕ, ◌+◌, ◌<◌, ◌≤◌, ◌^◌, Bool, true, false, ◌&&◌, nat_le, Option, List, [], ◌∷◌, ◌++◌, length, map, take, All}
use Rattle.std.specs.List.{list_all, filter_map, cons_option}
use Rattle.std.proofs.Common.{sym, ap, ap₂, ◌∙◌, get_or}
use Rattle.std.proofs.lemmas.Bool.{true≢false, leb-true, ltb-true}
use Rattle.std.proofs.lemmas.List.{take_more, take_all, map_push}
use Rattle.std.proofs.lemmas.List.Elements.{All-nil, All-cons, All-head, All-tail, All-same, All-weaker, filter_map-append}
use Rattle.std.proofs.lemmas.Simd.{map-map}
use native.Mathlib.Omega.{arith}
use Rattle.ci_base.specs.declared.bounds.TheConstants.{MOST_NAME_BYTES, MOST_TEXT_BYTES, MOST_FUNCTIONS, MOST_CELLS}
use Rattle.ci_base.specs.declared.value.Kind.{Kind}
use Rattle.ci_base.specs.declared.value.Value.{Value}
use Rattle.ci_base.specs.declared.layout.Head.{Head}
use Rattle.ci_tree.specs.declared.token.TokenKind.TheVariants.{Name}
use Rattle.ci_tree.specs.declared.bound.Param as code_param
use Rattle.ci_tree.specs.declared.bound.Function as code_function
use Rattle.ci_tree.specs.declared.bound.Global as code_global
use Rattle.ci_tree.specs.declared.bound.ProjectParts.{ProjectParts}
use Rattle.ci_tree.specs.Bound.{Param, Function, Global, Project}
use Rattle.ci_tree.specs.LeftOut.{Heads}
use Rattle.ci_tree.specs.Layouts.{head_of}
use Rattle.ci_tree.specs.Projects.{IsProject}
use Rattle.ci_tree.specs.SeenBound.{heads_of, param_of, function_of, global_of, project_of}
use Rattle.ci_tree.specs.Sound.{is_function, is_cell, is_array, is_global}
use Rattle.ci_tree.specs.Tokens.{IsKept}

-- one member more
pub member_more : {A B : Type 0} (f : A → B) (xs : List A) (i : ℕ) (x : A) (old new : List B) (y : B) → x ≡ get_or xs i x → i < length xs → old ≡ map f (take i xs) → new ≡ old ++ y ∷ [] → y ≡ f x → new ≡ map f (take (i + 1) xs)
member_more f xs i x old new y is within so_far more same =
    more ∙ ap₂ (λ ys z. ys ++ z ∷ []) so_far same ∙ sym (map_push f (take i xs) x) ∙ ap (map f) (sym (take_more xs i x within ∙ ap (λ z. take i xs ++ z ∷ []) (sym is)))

-- all members
pub all_members : {A B C : Type 0} (g : B → C) (f : A → B) (xs : List A) (i : ℕ) (ys : List C) → ys ≡ map (λ x. g (f x)) (take i xs) → length xs ≤ i → ys ≡ map g (map f xs)
all_members g f xs i ys h whole = h ∙ ap (map (λ x. g (f x))) (take_all i xs whole) ∙ sym (map-map g f xs)

-- one parameter more, which may have a value
pub default_more : {A B : Type 0} (f : A → Option B) (xs : List A) (i : ℕ) (x : A) (old new : List B) → x ≡ get_or xs i x → i < length xs → old ≡ filter_map f (take i xs) → new ≡ old ++ filter_map f (x ∷ []) → new ≡ filter_map f (take (i + 1) xs)
default_more f xs i x old new is within so_far more =
    more ∙ ap (λ ys. ys ++ filter_map f (x ∷ [])) so_far ∙ sym (filter_map-append f (take i xs) (x ∷ [])) ∙ ap (filter_map f) (sym (take_more xs i x within ∙ ap (λ z. take i xs ++ z ∷ []) (sym is)))

kinds_same : (ps : List code_param.Param) → map (λ (p : code_param.Param). p.kind) ps ≡ map (λ (p : Param). p.kind) (map param_of ps)
kinds_same [] = refl
kinds_same (p ∷ ps) = ap (λ ks. p.kind ∷ ks) (kinds_same ps)

firsts_same : (ps : List code_param.Param) → filter_map (λ (p : code_param.Param). p.first) ps ≡ filter_map (λ (p : Param). p.first) (map param_of ps)
firsts_same [] = refl
firsts_same (p ∷ ps) = ap (cons_option p.first) (firsts_same ps)

-- a function's parts
pub head_same : (takes : Heads) (f : code_function.Function) (name : List ℕ) (kinds : List Kind) (defaults : List Value) → name ≡ f.name → kinds ≡ map (λ (p : code_param.Param). p.kind) f.params → defaults ≡ filter_map (λ (p : code_param.Param). p.first) f.params →
    let made : Head = record { name = name; public = f.public; kinds = kinds; defaults = defaults } in made ≡ head_of (function_of takes f)
head_same takes f name kinds defaults n k v =
    let named : List ℕ → Head = λ x. record { name = x; public = f.public; kinds = kinds; defaults = defaults } in
    let taking : List Kind → Head = λ x. record { name = f.name; public = f.public; kinds = x; defaults = defaults } in
    let having : List Value → Head = λ x. record { name = f.name; public = f.public; kinds = map (λ (p : Param). p.kind) (map param_of f.params); defaults = x } in
    ap named n ∙ ap taking (k ∙ kinds_same f.params) ∙ ap having (v ∙ firsts_same f.params)

-- what holds of all that members stand for holds of the members
unmapped : {A B : Type 0} (P : B → Type 0) (f : A → B) (xs : List A) → All P (map f xs) → All (λ x. P (f x)) xs
unmapped P f [] h = All-nil (λ x. P (f x))
unmapped P f (x ∷ xs) h = All-cons (λ y. P (f y)) x xs (All-head P (f x) (map f xs) h) (unmapped P f xs (All-tail P (f x) (map f xs) h))

short_name : (name : List ℕ) → IsKept (Name name) → length name ≤ MOST_TEXT_BYTES
short_name name h = within (length name) h.2
  where
    within : (n : ℕ) → n ≤ MOST_NAME_BYTES → n ≤ MOST_TEXT_BYTES
    within n i = omega arith

pub function_names_fit : (p : ProjectParts) → IsProject (project_of p) → (xs : List code_function.Function) → xs ≡ p.functions → All (λ (f : code_function.Function). length f.name ≤ MOST_TEXT_BYTES) xs
function_names_fit p is xs same =
    All-same (λ (f : code_function.Function). length f.name ≤ MOST_TEXT_BYTES) xs p.functions same
    (All-weaker (λ (f : code_function.Function). IsKept (Name f.name)) (λ (f : code_function.Function). length f.name ≤ MOST_TEXT_BYTES) (λ f h. short_name f.name h) p.functions
    (unmapped (λ (f : Function). IsKept (Name f.name)) (function_of (heads_of p.functions)) p.functions is.function_names))

pub global_names_fit : (p : ProjectParts) → IsProject (project_of p) → (xs : List code_global.Global) → xs ≡ p.globals → All (λ (g : code_global.Global). length g.name ≤ MOST_TEXT_BYTES) xs
global_names_fit p is xs same =
    All-same (λ (g : code_global.Global). length g.name ≤ MOST_TEXT_BYTES) xs p.globals same
    (All-weaker (λ (g : code_global.Global). IsKept (Name g.name)) (λ (g : code_global.Global). length g.name ≤ MOST_TEXT_BYTES) (λ g h. short_name g.name h) p.globals
    (unmapped (λ (g : Global). IsKept (Name g.name)) global_of p.globals is.global_names))

left_true : (a b : Bool) → (a && b) ≡ true → a ≡ true
left_true true b h = refl
left_true false b h = h

right_true : (a b : Bool) → (a && b) ≡ true → b ≡ true
right_true true b h = h
right_true false b h = absurd (true≢false (sym h))

-- what a test says of all holds of each
each_passes : {A : Type 0} (test : A → Bool) (xs : List A) → list_all test xs ≡ true → All (λ x. test x ≡ true) xs
each_passes test [] h = All-nil (λ x. test x ≡ true)
each_passes test (x ∷ xs) h = All-cons (λ y. test y ≡ true) x xs (left_true (test x) (list_all test xs) h) (each_passes test xs (right_true (test x) (list_all test xs) h))

cells_few : (p : Project) → IsProject p → length p.cells ≤ MOST_CELLS
cells_few p is =
    let a = nat_le (length p.functions) MOST_FUNCTIONS in
    let b = nat_le (length p.cells) MOST_CELLS in
    let c = list_all (is_function p) p.functions in
    let e = list_all is_cell p.cells in
    let g = list_all (is_array p) p.arrays in
    leb-true (length p.cells) MOST_CELLS (right_true a b (left_true (a && b) c (left_true (a && b && c) e (left_true (a && b && c && e) g (left_true (a && b && c && e && g) (list_all (is_global p) p.globals) is.sound)))))

cell_fits : (n l : ℕ) → n < l → l ≤ MOST_CELLS → n < 2 ^ 32
cell_fits n l h i = omega arith

pub global_cells_fit : (p : ProjectParts) → IsProject (project_of p) → (xs : List code_global.Global) → xs ≡ p.globals → All (λ (g : code_global.Global). g.cell < 2 ^ 32) xs
global_cells_fit p is xs same =
    let q = project_of p in
    let before = nat_le (length q.functions) MOST_FUNCTIONS && nat_le (length q.cells) MOST_CELLS && list_all (is_function q) q.functions && list_all is_cell q.cells && list_all (is_array q) q.arrays in
    All-same (λ (g : code_global.Global). g.cell < 2 ^ 32) xs p.globals same
    (All-weaker (λ (g : code_global.Global). is_global q (global_of g) ≡ true) (λ (g : code_global.Global). g.cell < 2 ^ 32) (λ g h. cell_fits g.cell (length q.cells) (ltb-true g.cell (length q.cells) h) (cells_few q is)) p.globals
    (unmapped (λ (g : Global). is_global q g ≡ true) global_of p.globals (each_passes (is_global q) q.globals (right_true before (list_all (is_global q) q.globals) is.sound))))
