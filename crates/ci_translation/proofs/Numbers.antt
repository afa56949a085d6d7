-- What functions name stands in the tables under its number; so the code of a project is its code place by place.
use Rattle.std.proofs.Common.{◌≡◌, ℕ, zero, suc, ◌+◌, Bool, true, false, ◌⊎◌, inl, inr, List, [], ◌∷◌, ◌++◌, map, Option, Some, None, refl, sym, ap, ◌∙◌, subst, arith, length-append, eqb-true, eq-eqb}
use Rattle.std.proofs.lemmas.List.Concat.{flat_map-cons}
use Rattle.std.specs.List.{filter_map, flat_map, cons_option}
use Rattle.std.specs.Prelude.{◌&&◌, ◌==◌, if◌then◌else◌, slice_get, option_map, IsTrue}
use Rattle.ci_base.specs.declared.value.Kind.{Kind}
use Rattle.ci_base.specs.declared.value.Kind.TheVariants.{Int, Str}
use Rattle.ci_code.specs.declared.instruction.Instruction.TheVariants as does
use Rattle.ci_code.specs.declared.raw.RawFunction.{RawFunction}
use Rattle.ci_tree.specs.Bound.{Function, Project}
use Rattle.ci_tree.specs.Operators.{same_kind}
use Rattle.ci_tree.specs.Sound.{Context, context_of, is_block, is_sound}
use Rattle.ci_translation.specs.Drafts.{Doing, push_text, plain, Draft, step, first_step, block_size, block_code, function_code}
use Rattle.ci_translation.specs.Instructions.{left_kind}
use Rattle.ci_translation.specs.Stands.{Scope, PushesFirst, scope_of, IsFunctionOf, IsCodeOf}
use Rattle.ci_translation.specs.Translation.{same_list, without, each_once, number_in, same_text, same_shape, drafts, text_of, texts, shapes, step_of, raw_function, translation}
use Rattle.ci_translation.proofs.Facts.{and_both, same_kinds, function_parts}
use Rattle.ci_translation.proofs.Lies.{HereIs, Lies, apart, block_stands}
use Rattle.ci_translation.proofs.Lists.{get_map, length_mapped}
use Rattle.ci_translation.proofs.Sizes.{block_length}

-- Tables

abbrev pub Has : {A : Type 0} → A → List A → Type 0
Has x [] = ⊥
Has x (y ∷ ys) = (x ≡ y) ⊎ Has x ys

-- a test tells whether two are one
pub record Tells {A : Type 0} (same : A → A → Bool) : Type 0 where
  pub one : (x y : A) → same x y ≡ true → x ≡ y
  pub itself : (x : A) → same x x ≡ true

module _ {A : Type 0} (same : A → A → Bool) (tells : Tells same) where
  kept : (x y : A) (zs : List A) → same y x ≡ false → Has x zs → Has x (without same y zs)
  kept x y [] e h = absurd h
  kept x y (z ∷ zs) e h = by_test (same y z) refl (kept x y zs e) h
    where
      by_test : (b : Bool) → same y z ≡ b → (Has x zs → Has x (without same y zs)) → (x ≡ z) ⊎ Has x zs → Has x (if b then without same y zs else z ∷ without same y zs)
      by_test true f rest (inl g) = let yes : same y x ≡ true = ap (same y) g ∙ f in absurd (cc (e, yes))
      by_test true f rest (inr g) = rest g
      by_test false f rest (inl g) = inl g
      by_test false f rest (inr g) = inr (rest g)

  in_table : (x : A) (uses : List A) → Has x uses → Has x (each_once same uses)
  in_table x [] h = absurd h
  in_table x (y ∷ uses) (inl e) = inl e
  in_table x (y ∷ uses) (inr h) = by_test (same y x) refl (in_table x uses h)
    where
      by_test : (b : Bool) → same y x ≡ b → Has x (each_once same uses) → (x ≡ y) ⊎ Has x (without same y (each_once same uses))
      by_test true e rest = inl (sym (tells.one y x e))
      by_test false e rest = inr (kept x y (each_once same uses) e rest)

  numbered : (x : A) (table : List A) → Has x table → slice_get table (number_in same table x) ≡ Some x
  numbered x [] h = absurd h
  numbered x (y ∷ table) h = by_test (same x y) refl (numbered x table) h
    where
      by_test : (b : Bool) → same x y ≡ b → (Has x table → slice_get table (number_in same table x) ≡ Some x) → (x ≡ y) ⊎ Has x table → slice_get (y ∷ table) (if b then 0 else suc (number_in same table x)) ≡ Some x
      by_test true e rest g = ap Some (sym (tells.one x y e))
      by_test false e rest (inl g) = let yes : same x y ≡ true = ap (same x) (sym g) ∙ tells.itself x in absurd (cc (e, yes))
      by_test false e rest (inr g) = rest g

  -- what is used has its number in the table of uses
  in_uses : (x : A) (uses : List A) → Has x uses → slice_get (each_once same uses) (number_in same (each_once same uses) x) ≡ Some x
  in_uses x uses h = numbered x (each_once same uses) (in_table x uses h)

lists_one : {A : Type 0} (same : A → A → Bool) → Tells same → (xs ys : List A) → same_list same xs ys ≡ true → xs ≡ ys
lists_one same t [] [] e = refl
lists_one same t [] (y ∷ ys) e = absurd (cc e)
lists_one same t (x ∷ xs) [] e = absurd (cc e)
lists_one same t (x ∷ xs) (y ∷ ys) e =
    let (f, g) = and_both (same x y) (same_list same xs ys) e in
    ap (λ z. z ∷ xs) (t.one x y f) ∙ ap (λ zs. y ∷ zs) (lists_one same t xs ys g)

lists_itself : {A : Type 0} (same : A → A → Bool) → Tells same → (xs : List A) → same_list same xs xs ≡ true
lists_itself same t [] = refl
lists_itself same t (x ∷ xs) = ap (λ b. b && same_list same xs xs) (t.itself x) ∙ lists_itself same t xs

lists_tell : {A : Type 0} (same : A → A → Bool) → Tells same → Tells (same_list same)
lists_tell same t = record { one = lists_one same t; itself = lists_itself same t }

kind_itself : (a : Kind) → same_kind a a ≡ true
kind_itself Int = refl
kind_itself Str = refl

pub shapes_tell : Tells same_shape
shapes_tell = lists_tell same_kind (record { one = same_kinds; itself = kind_itself })

pub texts_tell : Tells same_text
texts_tell = lists_tell (λ a b. a == b) (record { one = eqb-true; itself = λ a. eq-eqb a a refl })

-- What is used

has_front : {A : Type 0} (x : A) (xs ys : List A) → Has x xs → Has x (xs ++ ys)
has_front x [] ys h = absurd h
has_front x (y ∷ xs) ys (inl e) = inl e
has_front x (y ∷ xs) ys (inr h) = inr (has_front x xs ys h)

has_back : {A : Type 0} (x : A) (xs ys : List A) → Has x ys → Has x (xs ++ ys)
has_back x [] ys h = h
has_back x (y ∷ xs) ys h = inr (has_back x xs ys h)

has_flat : {A B : Type 0} (f : A → List B) (xs : List A) (n : ℕ) (a : A) (x : B) → slice_get xs n ≡ Some a → Has x (f a) → Has x (flat_map f xs)
has_flat f [] n a x e h = absurd (cc e)
has_flat f (y ∷ xs) zero a x e h = let same : a ≡ y = cc e in subst (Has x) (sym (flat_map-cons f y xs)) (has_front x (f y) (flat_map f xs) (subst (λ z. Has x (f z)) same h))
has_flat f (y ∷ xs) (suc n) a x e h = subst (Has x) (sym (flat_map-cons f y xs)) (has_back x (f y) (flat_map f xs) (has_flat f xs n a x e h))

has_map : {A B : Type 0} (f : A → B) (xs : List A) (x : A) → Has x xs → Has (f x) (map f xs)
has_map f [] x h = absurd h
has_map f (y ∷ xs) x (inl e) = inl (ap f e)
has_map f (y ∷ xs) x (inr h) = inr (has_map f xs x h)

behind_option : {B : Type 0} (o : Option B) (z : B) (zs : List B) → Has z zs → Has z (cons_option o zs)
behind_option (Some w) z zs h = inr h
behind_option None z zs h = h

has_some : {A B : Type 0} (f : A → Option B) (xs : List A) (x : A) (z : B) → f x ≡ Some z → Has x xs → Has z (filter_map f xs)
has_some {A} {B} f [] x z e h = absurd h
has_some {A} {B} f (y ∷ xs) x z e (inl g) = in_option (f y) (ap f (sym g) ∙ e)
  where
    in_option : (o : Option B) → o ≡ Some z → Has z (cons_option o (filter_map f xs))
    in_option (Some w) q = inl (cc q)
    in_option None q = absurd (cc q)
has_some {A} {B} f (y ∷ xs) x z e (inr h) = behind_option (f y) z (filter_map f xs) (has_some f xs x z e h)

-- The list of a function lies in its code

module _ (p : Project) where
  abbrev pub raw_of : Function → RawFunction
  raw_of f = raw_function (texts p) (shapes p) p f

  abbrev pub place : Function → Scope
  place f = scope_of p (translation p) f (raw_of f)

  here_is : (f : Function) (d : Draft) (i : ℕ) → Has d (drafts p) → slice_get (raw_of f).steps i ≡ Some (step_of (texts p) (shapes p) d) → HereIs (place f) d.before i d.doing
  here_is f d i h e = by_doing d.doing refl
    where
      shaped : slice_get (shapes p) (number_in same_shape (shapes p) d.before) ≡ Some d.before
      shaped = in_uses same_shape shapes_tell d.before (map (λ (x : Draft). x.before) (drafts p)) (has_map (λ (x : Draft). x.before) (drafts p) d h)

      by_doing : (doing : Doing) → d.doing ≡ doing → HereIs (place f) d.before i doing
      by_doing (plain what) same = record { shape = number_in same_shape (shapes p) d.before; found = e ∙ ap (λ x. Some (step_of (texts p) (shapes p) (record { before = d.before; doing = x }))) same; shaped = shaped }
      by_doing (push_text text) same = record {
        number = number_in same_text (texts p) text;
        is = record { shape = number_in same_shape (shapes p) d.before; found = e ∙ ap (λ x. Some (step_of (texts p) (shapes p) (record { before = d.before; doing = x }))) same; shaped = shaped };
        named = in_uses same_text texts_tell text (filter_map (λ (x : Draft). text_of x.doing) (drafts p)) (has_some (λ (x : Draft). text_of x.doing) (drafts p) d text (ap text_of same) h);
      }

  lies : (f : Function) (ds : List Draft) (i : ℕ) → ((d : Draft) → Has d ds → Has d (drafts p)) → ((j : ℕ) → slice_get (raw_of f).steps (i + j) ≡ slice_get (map (step_of (texts p) (shapes p)) ds) j) → Lies (place f) i ds
  lies f [] i used e = tt
  lies f (d ∷ ds) i used e =
      let zero_same : i + 0 ≡ i = omega arith in (
        here_is f d i (used d (inl refl)) (subst (λ n. slice_get (raw_of f).steps n ≡ Some (step_of (texts p) (shapes p) d)) zero_same (e 0)),
        lies f ds (i + 1) (λ x h. used x (inr h)) (λ j. let next_same : i + 1 + j ≡ i + suc j = omega arith in ap (slice_get (raw_of f).steps) next_same ∙ e (suc j)),
      )

  pub function_lies : (n : ℕ) (f : Function) → slice_get p.functions n ≡ Some f → Lies (place f) 0 (function_code p f)
  function_lies n f found =
      lies f (function_code p f) 0 (λ d h. has_flat (function_code p) p.functions n f d found h) (λ j. let same : 0 + j ≡ j = omega arith in ap (slice_get (raw_of f).steps) same)

  first_stands : (f : Function) (kind : Kind) (i : ℕ) (rest : List Draft) → Lies (place f) i (first_step [] kind ∷ rest) → PushesFirst (place f) [] i kind
  first_stands f Int i rest h = h.0
  first_stands f Str i rest h = h.0

  function_stands : (n : ℕ) (f : Function) → slice_get p.functions n ≡ Some f → is_block (context_of p f) f.body ≡ true → IsFunctionOf p (translation p) f (raw_of f)
  function_stands n f found fine =
      let h = function_lies n f found in
      let c : Context = context_of p f in
      let k : Kind = left_kind f.gives in
      let last = first_step [] k ∷ step (k ∷ []) does.Return ∷ [] in
      let (hb, hl) = apart (place f) 1 (block_size f.body) (block_code c [] 1 f.body) last (block_length c [] 1 f.body) h.1 in
      record {
        gives = refl;
        room = refl;
        locals = refl;
        entry = h.0;
        over = 1 + block_size f.body;
        body = block_stands (place f) [] f.body 1 (1 + block_size f.body) fine hb refl;
        first = first_stands f k (1 + block_size f.body) (step (k ∷ []) does.Return ∷ []) hl;
        back = hl.1.0;
        whole = length_mapped (step_of (texts p) (shapes p)) (function_code p f) ∙ omega (arith, length-append (block_code c [] 1 f.body) last, block_length c [] 1 f.body);
      }

-- the code of a right project is its code, place by place
pub is_code : (p : Project) → IsTrue (is_sound p) → IsCodeOf p (translation p)
is_code p sound = record {
  layout = refl;
  arrays = refl;
  many = length_mapped (raw_function (texts p) (shapes p) p) p.functions;
  functions = λ n f found. (
    raw_of p f,
    get_map (raw_function (texts p) (shapes p) p) p.functions n ∙ ap (option_map (raw_function (texts p) (shapes p) p)) found,
    function_stands p n f found (function_parts p sound n f found).body,
  );
}
