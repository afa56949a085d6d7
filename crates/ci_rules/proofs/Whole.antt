-- The code of a bound project breaks no rule.
use Rattle.std.proofs.Common.{◌≡◌, ℕ, zero, suc, ◌+◌, ◌-◌, ◌<◌, ◌≤◌, max, Bool, true, false, ⊎_elim, List, [], ◌∷◌, ◌++◌, length, take, drop, map, Some, refl, sym, ap, ◌∙◌, subst, arith, length-append}
use Rattle.std.proofs.lemmas.Bool.{cases_lt}
use Rattle.std.proofs.lemmas.List.{drop-map, take-map}
use Rattle.std.proofs.lemmas.Option.{slice_get_within}
use Rattle.std.specs.List.{list_all, slice_range}
use Rattle.std.specs.Prelude.{◌&&◌, ◌||◌, ◌==◌, nat_le, nat_lt, slice_get, slice_index_or, option_map, IsTrue, All}
use Rattle.ci_base.specs.declared.bounds.TheConstants.{MOST_FUNCTIONS, MOST_CELLS, MOST_PARAMETERS, MOST_LOCALS, MOST_ROOM}
use Rattle.ci_base.specs.declared.layout.CellHead.{CellHead}
use Rattle.ci_base.specs.declared.layout.Head.{Head}
use Rattle.ci_base.specs.declared.layout.Layout.{Layout}
use Rattle.ci_base.specs.declared.value.Kind.{Kind}
use Rattle.ci_base.specs.declared.value.Kind.TheVariants.{Int, Str}
use Rattle.ci_code.specs.declared.instruction.Instruction.TheVariants as does
use Rattle.ci_code.specs.declared.instruction.Step.{Step}
use Rattle.ci_code.specs.declared.raw.RawFunction.{RawFunction}
use Rattle.ci_code.specs.declared.raw.RawParts.{RawParts}
use Rattle.ci_translation.proofs.Facts.{and_both, project_parts, FunctionParts, function_parts}
use Rattle.ci_translation.proofs.Lists.{get_map, length_mapped}
use Rattle.ci_translation.proofs.Matches.{IsRight}
use Rattle.ci_translation.specs.Instructions.{left_kind}
use Rattle.ci_translation.specs.Stands.{Scope, Is, PushesFirst, scope_of, cells_of, IsFunctionOf, IsCodeOf}
use Rattle.ci_translation.specs.Translation.{translation}
use Rattle.ci_rules.proofs.Expressions.{leaves_int}
use Rattle.ci_rules.proofs.Shapes.{begins, FineAt, Fine, one, both, line, Roomy, Wide, tick, gives, push_text}
use Rattle.ci_rules.proofs.Statements.{block_begins, block_fine}
use Rattle.ci_rules.specs.Laws.{CodeKeepsRules, TranslationKeepsRules}
use Rattle.ci_translation.specs.Laws.{TranslationIsCode}
use Rattle.ci_tree.specs.Bound.{Param, Function, Cell, Array, Global, Project}
use Rattle.ci_tree.specs.BoundTests.{formats_fit, block_passes}
use Rattle.ci_tree.specs.Layouts.{head_of, cell_head_of, global_head_of}
use Rattle.ci_tree.specs.Operators as operators
use Rattle.ci_tree.specs.Projects.{IsProject}
use Rattle.ci_tree.specs.Rooms.{room, block_width}
use Rattle.ci_tree.specs.Sound.{param_kinds, is_array, is_global, is_sound}
use Rattle.ci_verify.proofs.Loops.{beyond, tables_kept}
use Rattle.ci_verify.proofs.Places.{same_some, at_once, all_kept}
use Rattle.ci_verify.proofs.Sound.{there}
use Rattle.ci_verify.specs.Kinds as verify
use Rattle.ci_verify.specs.Laws.{IsFine}
use Rattle.ci_verify.specs.Rules.{At, Stands, TickAt, AreLocalsFew, Kept, has_cells, has_cell, AreTablesKept}

-- One function

pub function_fine : (project : Project) (parts : RawParts) (right : IsRight project parts) (f : Function) (raw : RawFunction) (of : IsFunctionOf project parts f raw) → Roomy (scope_of project parts f raw) → block_passes formats_fit f.body ≡ true → Fine (scope_of project parts f raw) 0 (length raw.steps)
function_fine project parts right f raw of roomy fit =
    let s : Scope = scope_of project parts f raw in
    let k : Kind = left_kind f.gives in
    let n : ℕ = max 1 (block_width f.body) in
    let locals : length raw.locals ≡ length f.params + length f.others = ap length of.locals ∙ length-append (param_kinds f) f.others ∙ ap (λ m. m + length f.others) (length_mapped (λ (p : Param). p.kind) f.params) in
    let wide : Wide s [] n = omega (arith, of.room) in
    let end : ℕ = length raw.steps in
    let over : end ≡ of.over + 1 + 1 = of.whole in
    line s 0 end (tick s roomy [] 0 0 of.entry (block_begins s [] f.body 1 of.over of.body (first_begins s k of.over of.first)) (omega arith))
    (both s 1 of.over end (block_fine project parts right f raw of roomy [] f.body 1 of.over of.body (first_begins s k of.over of.first) (omega arith) (omega arith) fit)
    (line s of.over end (first_fine s roomy k of.over n of.first of.back wide (omega arith))
    (one s (of.over + 1) end over (gives s roomy [] k (of.over + 1) n (ap (λ o. left_kind o ∷ []) of.gives) of.back wide (omega arith)))))
  where
    first_begins : (s : Scope) (k : Kind) (p : ℕ) → PushesFirst s [] p k → Stands s.code s.function p []
    first_begins s Int p h = begins h
    first_begins s Str p h = begins h.is

    first_fine : (s : Scope) → Roomy s → (k : Kind) (p n : ℕ) → PushesFirst s [] p k → Is s (k ∷ []) (p + 1) does.Return → Wide s [] n → 1 ≤ n → FineAt s p
    first_fine s roomy Int p n h back wide some = leaves_int s roomy [] p (does.PushInt _) n refl refl refl tt refl h (begins back) wide some
    first_fine s roomy Str p n h back wide some = push_text s roomy [] p n [] h (begins back) wide some

-- The rules of its places

module _ (s : Scope) where
  at_fine : (p : ℕ) → (h : FineAt s p) → At s.code s.function p (record { shape = h.is.shape; what = h.what }) h.before
  at_fine p h = record { found = h.is.found; shape = h.is.shaped }

  pub shape_fine : (p : ℕ) → FineAt s p → (x : Step) (before : List Kind) → At s.code s.function p x before → IsFine s.code s.function p before x.what
  shape_fine p h x before at =
      let same = at_once s.code s.function p (record { shape = h.is.shape; what = h.what }) x h.before before (at_fine p h) at in
      subst (λ ks. IsFine s.code s.function p ks x.what) same.1 (subst (λ (y : Step). IsFine s.code s.function p h.before y.what) same.0 h.fine)

  step_fine : (p : ℕ) → FineAt s p → (x : Step) → slice_get s.function.steps p ≡ Some x → (before : List Kind) × (slice_get s.code.shapes x.shape ≡ Some before) × IsFine s.code s.function p before x.what
  step_fine p h x found =
      let same : record { shape = h.is.shape; what = h.what } ≡ x = same_some (slice_get s.function.steps p) (record { shape = h.is.shape; what = h.what }) x h.is.found found in
      let shape : slice_get s.code.shapes x.shape ≡ Some h.before = subst (λ (y : Step). slice_get s.code.shapes y.shape ≡ Some h.before) same h.is.shaped in
      (h.before, shape, subst (λ (y : Step). IsFine s.code s.function p h.before y.what) same h.fine)

  place_kept : (head : Head) (p : ℕ) → FineAt s p → (p ≡ 0 → AreLocalsFew head s.function) → (p ≡ 0 → TickAt s.function 0 × Stands s.code s.function 0 []) → (q : ℕ) → Kept q s.code head s.function p
  place_kept head p h few begin =
      all_kept s.code head s.function p
      (few, λ x found. let (before, shape, fine) = step_fine p h x found in (slice_get_within s.code.shapes x.shape before shape, fine.named))
      begin
      (λ x before at. (shape_fine p h x before at).finds)
      (λ x before at. (shape_fine p h x before at).goes_on)
      (λ x before at. (shape_fine p h x before at).roomy)
      (λ x found. let (before, shape, fine) = step_fine p h x found in fine.ahead)

-- Tables

all_mapped : {A B : Type 0} (f : A → B) (q : A → Bool) (r : B → Bool) → ((x : A) → q x ≡ true → r (f x) ≡ true) → (xs : List A) → list_all q xs ≡ true → list_all r (map f xs) ≡ true
all_mapped f q r h [] e = refl
all_mapped f q r h (x ∷ xs) e =
    let (ex, er) = and_both (q x) (list_all q xs) e in
    ap (λ b. b && list_all r (map f xs)) (h x ex) ∙ all_mapped f q r h xs er

or_right : (a b : Bool) → b ≡ true → (a || b) ≡ true
or_right true b e = refl
or_right false b e = e

kinds_same : (a b : Kind) → operators.same_kind a b ≡ true → verify.same_kind b a ≡ true
kinds_same Int Int e = refl
kinds_same Int Str e = absurd (cc e)
kinds_same Str Int e = absurd (cc e)
kinds_same Str Str e = refl

array_kept : (project : Project) (a : Array) → is_array project a ≡ true → has_cells (map cell_head_of project.cells) (cells_of a) ≡ true
array_kept project a e =
    let (e1, kinds) = and_both (nat_le 1 a.length && nat_le (a.first + a.length) (length project.cells)) (list_all (λ (x : Cell). operators.same_kind a.kind x.kind) (take a.length (drop a.first project.cells))) e in
    let (some, within) = and_both (nat_le 1 a.length) (nat_le (a.first + a.length) (length project.cells)) e1 in
    let cells : List CellHead = map cell_head_of project.cells in
    let test : CellHead → Bool = λ c. verify.same_kind c.kind a.kind in
    let within' : nat_le (a.first + a.length) (length cells) ≡ true = ap (nat_le (a.first + a.length)) (length_mapped cell_head_of project.cells) ∙ within in
    let n : a.first + a.length - a.first ≡ a.length = omega arith in
    let part : slice_range cells a.first (a.first + a.length) ≡ map cell_head_of (take a.length (drop a.first project.cells)) =
    ap (λ m. take m (drop a.first cells)) n ∙ ap (take a.length) (drop-map cell_head_of a.first project.cells) ∙ take-map cell_head_of a.length (drop a.first project.cells) in
    let all : list_all test (slice_range cells a.first (a.first + a.length)) ≡ true =
    ap (list_all test) part ∙ all_mapped cell_head_of (λ (x : Cell). operators.same_kind a.kind x.kind) test (λ x h. kinds_same a.kind x.kind h) (take a.length (drop a.first project.cells)) kinds in
    or_right (a.length == 0) (nat_le (a.first + a.length) (length cells) && list_all test (slice_range cells a.first (a.first + a.length)))
    (ap (λ b. b && list_all test (slice_range cells a.first (a.first + a.length))) within' ∙ all)

global_kept : (project : Project) (g : Global) → is_global project g ≡ true → has_cell (map cell_head_of project.cells) (global_head_of g) ≡ true
global_kept project g e = ap (nat_lt g.cell) (length_mapped cell_head_of project.cells) ∙ e

tables_fine : (project : Project) (code : RawParts) → IsTrue (is_sound project) → IsCodeOf project code → AreTablesKept code
tables_fine project code sound whole =
    let parts = project_parts project sound in
    record {
      functions = subst (λ n. n ≤ MOST_FUNCTIONS) (sym (ap (λ (l : Layout). length l.functions) whole.layout ∙ length_mapped head_of project.functions)) parts.functions;
      cells = subst (λ n. n ≤ MOST_CELLS) (sym (ap (λ (l : Layout). length l.cells) whole.layout ∙ length_mapped cell_head_of project.cells)) parts.cells;
      globals =
          ap (λ (l : Layout). list_all (has_cell l.cells) l.globals) whole.layout
          ∙ all_mapped global_head_of (is_global project) (has_cell (map cell_head_of project.cells)) (global_kept project) project.globals parts.globals;
      arrays =
          ap (λ (l : Layout). list_all (has_cells l.cells) code.arrays) whole.layout
          ∙ ap (list_all (has_cells (map cell_head_of project.cells))) whole.arrays
          ∙ all_mapped cells_of (is_array project) (has_cells (map cell_head_of project.cells)) (array_kept project) project.arrays parts.arrays;
    }

-- The whole

pub few_locals : (project : Project) (f : Function) (raw : RawFunction) → FunctionParts project f → raw.locals ≡ param_kinds f ++ f.others → AreLocalsFew (head_of f) raw
few_locals project f raw h locals =
    let params : length (param_kinds f) ≡ length f.params = length_mapped (λ (p : Param). p.kind) f.params in
    let all : length raw.locals ≡ length f.params + length f.others = ap length locals ∙ length-append (param_kinds f) f.others ∙ ap (λ m. m + length f.others) params in
    record {
      parameters = subst (λ n. n ≤ MOST_PARAMETERS) (sym params) h.parameters;
      locals = subst (λ n. n ≤ MOST_LOCALS) (sym all) h.locals;
    }

pub index_there : {A : Type 0} (xs : List A) (i : ℕ) (x d : A) → slice_get xs i ≡ Some x → slice_index_or xs i d ≡ x
index_there [] i x d e = absurd (cc e)
index_there (y ∷ xs) zero x d e = cc e
index_there (y ∷ xs) (suc i) x d e = index_there xs i x d e

pub each_at : {A : Type 0} (P : A → Type 0) (xs : List A) (i : ℕ) (x : A) → All P xs → slice_get xs i ≡ Some x → P x
each_at P xs i x all e = subst P (index_there xs i x x e) (all i x (slice_get_within xs i x e))

function_roomy : (project : Project) (code : RawParts) → IsProject project → (n : ℕ) (f : Function) (raw : RawFunction) → slice_get project.functions n ≡ Some f → IsFunctionOf project code f raw → Roomy (scope_of project code f raw)
function_roomy project code h n f raw found of =
    let small : room f ≤ MOST_ROOM = each_at (λ (g : Function). room g ≤ MOST_ROOM) project.functions n f h.rooms found in
    record { some = omega (arith, of.room); most = omega (arith, of.room) }

-- each place of a function is fine
pub places_fine : (project : Project) (code : RawParts) → IsProject project → IsCodeOf project code → (n : ℕ) (f : Function) (raw : RawFunction) → slice_get project.functions n ≡ Some f → IsFunctionOf project code f raw → Fine (scope_of project code f raw) 0 (length raw.steps)
places_fine project code h whole n f raw found of =
    function_fine project code (record { sound = h.sound; whole = whole }) f raw of (function_roomy project code h n f raw found of)
    (each_at (λ (g : Function). block_passes formats_fit g.body ≡ true) project.functions n f h.formats found)

function_kept : (project : Project) (code : RawParts) (h : IsProject project) (whole : IsCodeOf project code) (n : ℕ) (f : Function) (raw : RawFunction) → slice_get project.functions n ≡ Some f → IsFunctionOf project code f raw → (o r : ℕ) → Kept r code (head_of f) raw o
function_kept project code h whole n f raw found of o r =
    let s : Scope = scope_of project code f raw in
    let all : Fine s 0 (length raw.steps) = places_fine project code h whole n f raw found of in
    let parts : FunctionParts project f = function_parts project h.sound n f found in
    let begin : TickAt raw 0 × Stands code raw 0 [] = (record { step = record { shape = of.entry.shape; what = does.Tick }; found = of.entry.found; tick = refl }, begins of.entry) in
    let over = of.whole in
    ⊎_elim
    (λ lt. place_kept s (head_of f) o (all o (omega arith) lt) (λ e. few_locals project f raw parts of.locals) (λ e. begin) r)
    (λ le. beyond code (head_of f) raw o r le (omega arith))
    (cases_lt o (length raw.steps))

pub code_keeps_rules : CodeKeepsRules
code_keeps_rules project code h whole r n o =
    record {
      tables = tables_kept code (tables_fine project code h.sound whole) r n o;
      there = λ head function at_head at.
          let in_code : n < length code.functions = slice_get_within code.functions n function at in
          let many = whole.many in
          let (f, found) = there project.functions n (omega arith) in
          let (raw, at_raw, of) = whole.functions n f found in
          let same_function : raw ≡ function = same_some (slice_get code.functions n) raw function at_raw at in
          let at_project : slice_get code.layout.functions n ≡ Some (head_of f) = ap (λ (l : Layout). slice_get l.functions n) whole.layout ∙ get_map head_of project.functions n ∙ ap (option_map head_of) found in
          let same_head : head_of f ≡ head = same_some (slice_get code.layout.functions n) (head_of f) head at_project at_head in
          subst (λ (x : Head). Kept r code x function o) same_head (subst (λ (x : RawFunction). Kept r code (head_of f) x o) same_function (function_kept project code h whole n f raw found of o r));
    }

pub translation_keeps_rules : TranslationIsCode → TranslationKeepsRules
translation_keeps_rules is_code project h = code_keeps_rules project (translation project) h (is_code project h.sound)
