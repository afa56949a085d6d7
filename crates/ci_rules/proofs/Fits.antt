-- The lists of a translation fit one another.
use Rattle.std.proofs.Common.{◌≡◌, ℕ, zero, suc, ◌+◌, ◌-◌, ◌^◌, ◌<◌, ◌≤◌, Bool, true, false, ◌⊎◌, inl, inr, List, [], ◌∷◌, ◌++◌, length, take, drop, map, Option, Some, None, refl, sym, ap, ◌∙◌, subst, arith, length-append}
use Rattle.std.proofs.lemmas.List.Concat.{flat_map-cons}
use Rattle.std.specs.List.{list_all, filter_map, flat_map, cons_option}
use Rattle.std.specs.Prelude.{if◌then◌else◌, slice_get, slice_index_or, option_map, is_some, All, AllPairs}
use Rattle.ci_base.specs.declared.bounds.TheConstants.{MOST_ROOM}
use Rattle.ci_base.specs.declared.layout.CellHead.{CellHead}
use Rattle.ci_base.specs.declared.layout.Global as layout_global
use Rattle.ci_base.specs.declared.layout.Head.{Head}
use Rattle.ci_base.specs.declared.value.Kind.{Kind}
use Rattle.ci_base.specs.declared.value.Kind.TheVariants.{Int, Str}
use Rattle.ci_base.specs.declared.value.Value.{Value}
use Rattle.ci_base.specs.declared.value.Value.TheVariants as values
use Rattle.ci_base.specs.Values.{kind_of}
use Rattle.ci_code.specs.Code.{IsCounted, HasDefaults, IsFunctionCounted, IsCode}
use Rattle.ci_code.specs.declared.raw.RawFunction.{RawFunction}
use Rattle.ci_translation.proofs.Facts.{all_there, project_parts, function_parts, and_both}
use Rattle.ci_translation.proofs.Lies.{HereIs, Lies}
use Rattle.ci_translation.proofs.Lists.{get_map, mapped, length_mapped, take_front}
use Rattle.ci_translation.proofs.Numbers.{Has, raw_of, place, function_lies}
use Rattle.ci_translation.specs.Drafts.{Doing, push_text, plain, Draft, function_code}
use Rattle.ci_translation.specs.Laws.{TranslationIsCode}
use Rattle.ci_translation.specs.Stands.{Scope, IsFunctionOf, IsCodeOf, cells_of}
use Rattle.ci_translation.specs.Translation.{without, each_once, same_text, same_shape, drafts, text_of, texts, shapes, step_of, raw_function, translation}
use Rattle.ci_rules.proofs.Shapes.{Begins, begins, Fine}
use Rattle.ci_rules.proofs.Whole.{index_there, each_at, few_locals, shape_fine, places_fine}
use Rattle.ci_rules.specs.Laws.{TranslationFits}
use Rattle.ci_tree.specs.Bound.{Param, Function, Global, Project}
use Rattle.ci_tree.specs.Layouts.{head_of, cell_head_of, global_head_of}
use Rattle.ci_tree.specs.Operators.{same_kind}
use Rattle.ci_tree.specs.Projects.{IsProject}
use Rattle.ci_tree.specs.Sound.{param_kinds, kind_of_value, is_default, are_last, is_cell}
use Rattle.ci_tree.specs.Tokens.{IsKept}
use Rattle.ci_tree.specs.declared.token.TokenKind.TheVariants.{Name}
use Rattle.ci_verify.proofs.Places.{same_some}
use Rattle.ci_verify.proofs.Sound.{there}
use Rattle.ci_verify.specs.Laws.{IsFine}

-- Lists

each_all : {A : Type 0} (P : A → Type 0) (xs : List A) → ((i : ℕ) (x : A) → slice_get xs i ≡ Some x → P x) → All P xs
each_all P xs h k d lt = let (x, e) = there xs k lt in subst P (sym (index_there xs k x d e)) (h k x e)

all_mapped : {A B : Type 0} (f : A → B) (P : B → Type 0) (xs : List A) → ((i : ℕ) (x : A) → slice_get xs i ≡ Some x → P (f x)) → All P (map f xs)
all_mapped f P xs h = each_all P (map f xs) (λ i y e. let (x, found, same) = mapped f (slice_get xs i) y (sym (get_map f xs i) ∙ e) in subst P same (h i x found))

pairs_mapped : {A B : Type 0} (f : A → B) (R : B → B → Type 0) (xs : List A) → AllPairs (λ (a b : A). R (f a) (f b)) xs → AllPairs R (map f xs)
pairs_mapped f R xs h i j d lt within =
    let long : j < length xs = omega (arith, length_mapped f xs) in
    let (x, ex) = there xs i (omega arith) in
    let (y, ey) = there xs j long in
    let same_x : slice_index_or (map f xs) i d ≡ f x = index_there (map f xs) i (f x) d (get_map f xs i ∙ ap (option_map f) ex) in
    let same_y : slice_index_or (map f xs) j d ≡ f y = index_there (map f xs) j (f y) d (get_map f xs j ∙ ap (option_map f) ey) in
    let it : R (f (slice_index_or xs i x)) (f (slice_index_or xs j x)) = h i j x lt long in
    subst (λ b. R (slice_index_or (map f xs) i d) b) (sym same_y)
    (subst (λ a. R a (f y)) (sym same_x)
    (subst (λ b. R (f x) (f b)) (index_there xs j y x ey) (subst (λ a. R (f a) (f (slice_index_or xs j x))) (index_there xs i x x ex) it)))

-- Defaults

kind_same : (k : Kind) (v : Value) → same_kind k (kind_of_value v) ≡ true → kind_of v ≡ k
kind_same Int (values.Int n) e = refl
kind_same Str (values.Str s) e = refl
kind_same Int (values.Str s) e = absurd (cc e)
kind_same Str (values.Int n) e = absurd (cc e)

abbrev firsts : List Param → List Value
firsts ps = filter_map (λ (p : Param). p.first) ps

abbrev kinds_in : List Param → List Kind
kinds_in ps = map (λ (p : Param). p.kind) ps

abbrev right : Param → Bool
right p = is_default p.kind p.first

-- parameters that all have a default
abbrev AllFirst : List Param → Type 0
AllFirst ps = (length (firsts ps) ≡ length ps) × (map kind_of (firsts ps) ≡ kinds_in ps)

one_more_first : (p : Param) (ps : List Param) (o : Option Value) → p.first ≡ o → right p ≡ true → is_some p.first ≡ true → AllFirst ps → AllFirst (p ∷ ps)
one_more_first p ps None f ep some rest = let no : is_some p.first ≡ false = ap is_some f in absurd (cc (no, some))
one_more_first p ps (Some v) f ep some (a, b) =
    let same : firsts (p ∷ ps) ≡ v ∷ firsts ps = ap (λ o. cons_option o (firsts ps)) f in
    let k : kind_of v ≡ p.kind = kind_same p.kind v (ap (is_default p.kind) (sym f) ∙ ep) in
    (ap length same ∙ ap suc a, ap (map kind_of) same ∙ ap (λ x. x ∷ map kind_of (firsts ps)) k ∙ ap (λ xs. p.kind ∷ xs) b)

all_firsts : (ps : List Param) → list_all right ps ≡ true → list_all (λ (p : Param). is_some p.first) ps ≡ true → AllFirst ps
all_firsts [] e s = (refl, refl)
all_firsts (p ∷ ps) e s =
    let (ep, er) = and_both (right p) (list_all right ps) e in
    let (sp, sr) = and_both (is_some p.first) (list_all (λ (q : Param). is_some q.first) ps) s in
    one_more_first p ps p.first refl ep sp (all_firsts ps er sr)

-- the defaults are those of the last parameters
abbrev AreLast : List Param → Type 0
AreLast ps = (length (firsts ps) ≤ length ps) × (map kind_of (firsts ps) ≡ drop (length ps - length (firsts ps)) (kinds_in ps))

one_more_last : (p : Param) (ps : List Param) (o : Option Value) → p.first ≡ o → list_all right (p ∷ ps) ≡ true → (if is_some p.first then list_all (λ (q : Param). is_some q.first) ps else true) ≡ true → AreLast ps → AreLast (p ∷ ps)
one_more_last p ps None f e s (a, b) =
    let same : firsts (p ∷ ps) ≡ firsts ps = ap (λ o. cons_option o (firsts ps)) f in
    let n : suc (length ps) - length (firsts (p ∷ ps)) ≡ suc (length ps - length (firsts ps)) = omega (arith, ap length same) in
    (omega (arith, ap length same), ap (map kind_of) same ∙ b ∙ ap (λ m. drop m (p.kind ∷ kinds_in ps)) (sym n))
one_more_last p ps (Some v) f e s rest =
    let all : list_all (λ (q : Param). is_some q.first) ps ≡ true = ap (λ o. if is_some o then list_all (λ (q : Param). is_some q.first) ps else true) (sym f) ∙ s in
    let some : is_some p.first ≡ true = ap is_some f in
    let (ep, er) = and_both (right p) (list_all right ps) e in
    let (a, b) = one_more_first p ps p.first refl ep some (all_firsts ps er all) in
    let n : suc (length ps) - length (firsts (p ∷ ps)) ≡ 0 = omega (arith, a) in
    (omega (arith, a), b ∙ ap (λ m. drop m (kinds_in (p ∷ ps))) (sym n))

last_firsts : (ps : List Param) → list_all right ps ≡ true → are_last ps ≡ true → AreLast ps
last_firsts [] e s = (omega arith, refl)
last_firsts (p ∷ ps) e s =
    let (ep, er) = and_both (right p) (list_all right ps) e in
    let (sp, sr) = and_both (if is_some p.first then list_all (λ (q : Param). is_some q.first) ps else true) (are_last ps) s in
    one_more_last p ps p.first refl e sp (last_firsts ps er sr)

-- Counts

without_short : {A : Type 0} (same : A → A → Bool) (x : A) (xs : List A) → length (without same x xs) ≤ length xs
without_short same x [] = omega arith
without_short same x (y ∷ ys) = by_test (same x y) (without_short same x ys)
  where
    by_test : (b : Bool) → length (without same x ys) ≤ length ys → length (if b then without same x ys else y ∷ without same x ys) ≤ suc (length ys)
    by_test true h = omega arith
    by_test false h = omega arith

table_short : {A : Type 0} (same : A → A → Bool) (xs : List A) → length (each_once same xs) ≤ length xs
table_short same [] = omega arith
table_short same (x ∷ xs) = let h = table_short same xs in let i = without_short same x (each_once same xs) in omega arith

option_short : {A : Type 0} (o : Option A) (xs : List A) (n : ℕ) → length xs ≤ n → length (cons_option o xs) ≤ suc n
option_short (Some x) xs n h = omega arith
option_short None xs n h = omega arith

some_short : {A B : Type 0} (f : A → Option B) (xs : List A) → length (filter_map f xs) ≤ length xs
some_short f [] = omega arith
some_short f (x ∷ xs) = option_short (f x) (filter_map f xs) (length xs) (some_short f xs)

part_short : {A B : Type 0} (f : A → List B) (xs : List A) (n : ℕ) (x : A) → slice_get xs n ≡ Some x → length (f x) ≤ length (flat_map f xs)
part_short f [] n x e = absurd (cc e)
part_short f (y ∷ xs) zero x e =
    let same : y ≡ x = cc e in
    let long = ap length (flat_map-cons f y xs) in
    subst (λ z. length (f z) ≤ length (flat_map f (y ∷ xs))) same (omega (arith, long, length-append (f y) (flat_map f xs)))
part_short f (y ∷ xs) (suc n) x e =
    let h = part_short f xs n x e in
    let long = ap length (flat_map-cons f y xs) in
    omega (arith, long, length-append (f y) (flat_map f xs))

-- Shapes are those of places, and each place is fine

has_at : {A : Type 0} (xs : List A) (i : ℕ) (x : A) → slice_get xs i ≡ Some x → Has x xs
has_at [] i x e = absurd (cc e)
has_at (y ∷ xs) zero x e = let same : x ≡ y = cc e in inl same
has_at (y ∷ xs) (suc i) x e = inr (has_at xs i x e)

has_without : {A : Type 0} (same : A → A → Bool) (y x : A) (zs : List A) → Has x (without same y zs) → Has x zs
has_without same y x [] h = absurd h
has_without same y x (z ∷ zs) h = by_test (same y z) (has_without same y x zs) h
  where
    by_test : (b : Bool) → (Has x (without same y zs) → Has x zs) → Has x (if b then without same y zs else z ∷ without same y zs) → (x ≡ z) ⊎ Has x zs
    by_test true rest g = inr (rest g)
    by_test false rest (inl e) = inl e
    by_test false rest (inr g) = inr (rest g)

has_once : {A : Type 0} (same : A → A → Bool) (x : A) (xs : List A) → Has x (each_once same xs) → Has x xs
has_once same x [] h = absurd h
has_once same x (y ∷ xs) (inl e) = inl e
has_once same x (y ∷ xs) (inr h) = inr (has_once same x xs (has_without same y x (each_once same xs) h))

has_mapped : {A B : Type 0} (f : A → B) (y : B) (xs : List A) → Has y (map f xs) → (x : A) × Has x xs × (f x ≡ y)
has_mapped f y [] h = absurd h
has_mapped f y (x ∷ xs) (inl e) = (x, inl refl, sym e)
has_mapped f y (x ∷ xs) (inr h) = let (z, g, same) = has_mapped f y xs h in (z, inr g, same)

has_either : {A : Type 0} (x : A) (xs ys : List A) → Has x (xs ++ ys) → Has x xs ⊎ Has x ys
has_either x [] ys h = inr h
has_either x (z ∷ xs) ys (inl e) = inl (inl e)
has_either x (z ∷ xs) ys (inr h) = one_further (has_either x xs ys h)
  where
    one_further : Has x xs ⊎ Has x ys → Has x (z ∷ xs) ⊎ Has x ys
    one_further (inl g) = inl (inr g)
    one_further (inr g) = inr g

has_part : {A B : Type 0} (f : A → List B) (x : B) (xs : List A) → Has x (flat_map f xs) → (n : ℕ) × (a : A) × (slice_get xs n ≡ Some a) × Has x (f a)
has_part f x [] h = absurd h
has_part {A} {B} f x (y ∷ xs) h = of_either (has_either x (f y) (flat_map f xs) (subst (Has x) (flat_map-cons f y xs) h)) (has_part f x xs)
  where
    of_either : Has x (f y) ⊎ Has x (flat_map f xs) → (Has x (flat_map f xs) → (n : ℕ) × (a : A) × (slice_get xs n ≡ Some a) × Has x (f a)) → (n : ℕ) × (a : A) × (slice_get (y ∷ xs) n ≡ Some a) × Has x (f a)
    of_either (inl g) rest = (0, y, refl, g)
    of_either (inr g) rest = let (n, a, e, i) = rest g in (suc n, a, e, i)

-- where a list lies each of its members begins with its shape
lies_at : (s : Scope) (ds : List Draft) (p : ℕ) (d : Draft) → Lies s p ds → Has d ds → (o : ℕ) × (p ≤ o) × (o < p + length ds) × Begins s d.before o
lies_at s [] p d h g = absurd g
lies_at s (x ∷ ds) p d h (inl e) = (p, omega arith, omega arith, subst (λ (y : Draft). Begins s y.before p) (sym e) (here x h.0))
  where
    by_doing : (doing : Doing) → HereIs s x.before p doing → Begins s x.before p
    by_doing (push_text text) k = begins k.is
    by_doing (plain what) k = begins k

    here : (y : Draft) → HereIs s x.before p x.doing → Begins s x.before p
    here y k = by_doing x.doing k
lies_at s (x ∷ ds) p d h (inr g) = let (o, a, b, at) = lies_at s ds (p + 1) d h.1 g in (o, omega arith, omega arith, at)

shape_small : (p : Project) → IsProject p → IsCodeOf p (translation p) → (b : List Kind) → Has b (shapes p) → length b ≤ MOST_ROOM
shape_small p h whole b has =
    let (d, in_drafts, same) = has_mapped (λ (x : Draft). x.before) b (drafts p) (has_once same_shape b (map (λ (x : Draft). x.before) (drafts p)) has) in
    let (n, f, found, in_function) = has_part (function_code p) d p.functions in_drafts in
    let (raw, at_raw, of) = whole.functions n f found in
    let mine : slice_get (translation p).functions n ≡ Some (raw_of p f) = get_map (raw_function (texts p) (shapes p) p) p.functions n ∙ ap (option_map (raw_function (texts p) (shapes p) p)) found in
    let same_raw : raw ≡ raw_of p f = same_some (slice_get (translation p).functions n) raw (raw_of p f) at_raw mine in
    let of_mine : IsFunctionOf p (translation p) f (raw_of p f) = subst (IsFunctionOf p (translation p) f) same_raw of in
    let (o, low, high, at) = lies_at (place p f) (function_code p f) 0 d (function_lies p n f found) in_function in
    let all : Fine (place p f) 0 (length (raw_of p f).steps) = places_fine p (translation p) h whole n f (raw_of p f) found of_mine in
    let long = length_mapped (step_of (texts p) (shapes p)) (function_code p f) in
    let fine : IsFine (translation p) (raw_of p f) o d.before at.step.what = shape_fine (place p f) o (all o low (omega arith)) at.step d.before at.at in
    let most = fine.roomy.most in
    let holds = fine.roomy.holds_before in
    subst (λ ks. length ks ≤ MOST_ROOM) same (omega arith)

-- The whole

fits : (p : Project) → IsProject p → IsCodeOf p (translation p) → length (drafts p) < 2 ^ 32 → IsCode (translation p)
fits p h whole few =
    let parts = project_parts p h.sound in
    let layout_functions : (n : ℕ) (head : Head) → slice_get (translation p).layout.functions n ≡ Some head → (f : Function) × (slice_get p.functions n ≡ Some f) × (head_of f ≡ head) = λ n head e. mapped head_of (slice_get p.functions n) head (sym (get_map head_of p.functions n) ∙ e) in
    record {
      one_each = length_mapped (raw_function (texts p) (shapes p) p) p.functions ∙ sym (length_mapped head_of p.functions);
      parameters = λ n head function at_head at.
          let (f, found, same) = layout_functions n head at_head in
          let mine : slice_get (translation p).functions n ≡ Some (raw_of p f) = get_map (raw_function (texts p) (shapes p) p) p.functions n ∙ ap (option_map (raw_function (texts p) (shapes p) p)) found in
          let same_raw : raw_of p f ≡ function = same_some (slice_get (translation p).functions n) (raw_of p f) function mine at in
          subst (λ (x : RawFunction). take (length head.kinds) x.locals ≡ head.kinds) same_raw
          (subst (λ (x : Head). take (length x.kinds) (raw_of p f).locals ≡ x.kinds) same (take_front (param_kinds f) f.others (length (param_kinds f)) refl));
      defaults = all_mapped head_of HasDefaults p.functions (λ n f found. defaults_of p h n f found);
      function_names = all_mapped head_of (λ (head : Head). IsKept (Name head.name)) p.functions (λ n f found. each_at (λ (g : Function). IsKept (Name g.name)) p.functions n f h.function_names found);
      global_names = all_mapped global_head_of (λ (g : layout_global.Global). IsKept (Name g.name)) p.globals (λ n g found. each_at (λ (x : Global). IsKept (Name x.name)) p.globals n g h.global_names found);
      first_values = all_mapped cell_head_of (λ (cell : CellHead). kind_of cell.first ≡ cell.kind) p.cells (λ n x found. kind_same x.kind x.first (all_there is_cell p.cells n x parts.each_cell found));
      globals_rise = pairs_mapped global_head_of (λ (g k : layout_global.Global). g.cell < k.cell) p.globals h.cells_rise;
      counted = record {
        layout = record {
          functions = let e = length_mapped head_of p.functions in let l = parts.functions in omega arith;
          cells = let e = length_mapped cell_head_of p.cells in let l = parts.cells in omega arith;
          globals = let e = length_mapped global_head_of p.globals in let l = h.globals_few in omega arith;
          parameters = all_mapped head_of (λ (head : Head). IsCounted head.kinds) p.functions (λ n f found. params_few p h n f found);
          defaults = all_mapped head_of (λ (head : Head). IsCounted head.defaults) p.functions
              (λ n f found. let a = (defaults_of p h n f found).few in let b = params_few p h n f found in omega arith);
        };
        texts =
            let a = table_short same_text (filter_map (λ (d : Draft). text_of d.doing) (drafts p)) in
            let b = some_short (λ (d : Draft). text_of d.doing) (drafts p) in
            omega arith;
        arrays = let e = length_mapped cells_of p.arrays in let l = h.arrays_few in omega arith;
        shapes =
            let a = table_short same_shape (map (λ (d : Draft). d.before) (drafts p)) in
            let b = length_mapped (λ (d : Draft). d.before) (drafts p) in
            omega arith;
        each_shape = each_all (λ (b : List Kind). IsCounted b) (shapes p) (λ i b e. let l = shape_small p h whole b (has_at (shapes p) i b e) in omega arith);
        functions = let e = length_mapped (raw_function (texts p) (shapes p) p) p.functions in let l = parts.functions in omega arith;
        each_function = all_mapped (raw_function (texts p) (shapes p) p) IsFunctionCounted p.functions (λ n f found.
            let l = (few_locals p f (raw_of p f) (function_parts p h.sound n f found) refl).locals in
            let a = part_short (function_code p) p.functions n f found in
            let e = length_mapped (step_of (texts p) (shapes p)) (function_code p f) in
            record { locals = omega arith; steps = omega arith });
      };
    }
  where
    params_few : (p : Project) → IsProject p → (n : ℕ) (f : Function) → slice_get p.functions n ≡ Some f → IsCounted (head_of f).kinds
    params_few p h n f found =
        let l = (few_locals p f (raw_of p f) (function_parts p h.sound n f found) refl).parameters in
        omega arith

    defaults_of : (p : Project) → IsProject p → (n : ℕ) (f : Function) → slice_get p.functions n ≡ Some f → HasDefaults (head_of f)
    defaults_of p h n f found =
        let parts = function_parts p h.sound n f found in
        let (few, kinds) = last_firsts f.params parts.defaults parts.last in
        let n : length (param_kinds f) ≡ length f.params = length_mapped (λ (q : Param). q.kind) f.params in
        record { few = omega (arith, n); kinds = kinds ∙ ap (λ m. drop (m - length (firsts f.params)) (param_kinds f)) (sym n) }

pub translation_fits : TranslationIsCode → TranslationFits
translation_fits is_code p h few = fits p h (is_code p h.sound) few
