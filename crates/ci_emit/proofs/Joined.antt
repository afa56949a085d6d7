-- What is put down for all functions, one after another, is the translation.
use Rattle.std.proofs.Common.{◌≡◌, ℕ, zero, suc, ◌+◌, ◌<◌, ◌^◌, Bool, true, false, not, ◌||◌, ◌⊎◌, inl, inr, List, [], ◌∷◌, ◌++◌, length, map, Option, Some, None, refl, sym, ap, ap₂, ◌∙◌, subst, arith, append_assoc}
use Rattle.std.proofs.lemmas.List.{append-nil}
use Rattle.std.proofs.lemmas.Grind.{flat_map-append}
use Rattle.std.proofs.lemmas.List.Concat.{flat_map-cons}
use Rattle.std.proofs.lemmas.Option.{slice_get_within}
use Rattle.std.specs.Cmp.Lexicographic.{pointwise}
use Rattle.std.specs.List.{position_or_len, list_any, filter_map, flat_map, cons_option}
use Rattle.std.specs.Prelude.{◌&&◌, ◌==◌, nat_eq, fold, if◌then◌else◌, slice_get, slice_index_or, option_map, All}
use Rattle.indexmap.specs.IndexSet.{insert_key}
use Rattle.ci_base.specs.declared.value.Kind.{Kind}
use Rattle.ci_code.specs.Code.{IsFunctionCounted, IsCode}
use Rattle.ci_code.specs.declared.instruction.Instruction.{Instruction}
use Rattle.ci_code.specs.declared.instruction.Instruction.TheVariants as does
use Rattle.ci_code.specs.declared.instruction.Step.{Step}
use Rattle.ci_code.specs.declared.raw.RawFunction.{RawFunction}
use Rattle.ci_code.specs.declared.raw.RawParts.{RawParts}
use Rattle.ci_translation.proofs.Lists.{get_map, map_both}
use Rattle.ci_translation.proofs.Numbers.{Has, shapes_tell, texts_tell}
use Rattle.ci_translation.specs.Drafts.{Doing, push_text, plain, Draft, function_code}
use Rattle.ci_translation.specs.Translation.{same_list, without, each_once, number_in, same_text, same_shape, drafts, text_of, texts, shapes, instruction_of, step_of, raw_function, translation}
use Rattle.ci_emit.specs.Pads.{word, in_word, text_noted, shape_noted, Pad, with_step, with_text, put_doing, put, wrote}
use Rattle.ci_tree.specs.Bound.{Function, Project}
use Rattle.ci_tree.specs.Operators.{same_kind}
use Rattle.ci_tree.specs.Layouts.{head_of}
use Rattle.ci_verify.specs.Rules.{Named, NoneBroken}

-- Two tests that answer alike give the same tables

module _ {A : Type 0} (noted same : A → A → Bool) (alike : (x y : A) → noted x y ≡ same x y) (tells : (x y : A) → same x y ≡ true → x ≡ y) (itself : (x : A) → same x x ≡ true) where
  -- the number of a member is its first place
  pub position_is : (table : List A) (x : A) → position_or_len (noted x) table ≡ number_in same table x
  position_is [] x = refl
  position_is (y ∷ table) x = by_test (noted x y) (same x y) (alike x y) (position_is table x)
    where
      by_test : (b c : Bool) → b ≡ c → position_or_len (noted x) table ≡ number_in same table x → (if not b then 1 + position_or_len (noted x) table else 0) ≡ (if c then 0 else suc (number_in same table x))
      by_test true true e h = refl
      by_test false false e h = omega (arith, h)
      by_test true false e h = absurd (cc e)
      by_test false true e h = absurd (cc e)

  any_has : (table : List A) (x : A) → list_any (noted x) table ≡ true → Has x table
  any_has [] x e = absurd (cc e)
  any_has (y ∷ table) x e = by_test (noted x y) refl e (any_has table x)
    where
      by_test : (b : Bool) → noted x y ≡ b → (b || list_any (noted x) table) ≡ true → (list_any (noted x) table ≡ true → Has x table) → (x ≡ y) ⊎ Has x table
      by_test true f e h = inl (tells x y (sym (alike x y) ∙ f))
      by_test false f e h = inr (h e)

  not_has : (table : List A) (x : A) → list_any (noted x) table ≡ false → Has x table → ⊥
  not_has [] x e h = absurd h
  not_has (y ∷ table) x e h = by_test (noted x y) refl e h (not_has table x)
    where
      by_test : (b : Bool) → noted x y ≡ b → (b || list_any (noted x) table) ≡ false → (x ≡ y) ⊎ Has x table → (list_any (noted x) table ≡ false → Has x table → ⊥) → ⊥
      by_test true f e h rest = absurd (cc e)
      by_test false f e (inl g) rest = let yes : noted x y ≡ true = alike x y ∙ ap (same x) (sym g) ∙ itself x in absurd (cc (f, yes))
      by_test false f e (inr g) rest = rest e g

  -- a table without what another has
  abbrev beyond : List A → List A → List A
  beyond [] xs = xs
  beyond (y ∷ table) xs = beyond table (without same y xs)

  without_none : (y : A) → without same y [] ≡ []
  without_none y = refl

  beyond_none : (table : List A) → beyond table [] ≡ []
  beyond_none [] = refl
  beyond_none (y ∷ table) = beyond_none table

  beyond_append : (table : List A) (x : A) (xs : List A) → beyond (table ++ x ∷ []) xs ≡ without same x (beyond table xs)
  beyond_append [] x xs = refl
  beyond_append (y ∷ table) x xs = beyond_append table x (without same y xs)

  -- what is taken out twice, in either order
  swapped : (x y : A) (xs : List A) → without same x (without same y xs) ≡ without same y (without same x xs)
  swapped x y [] = refl
  swapped x y (z ∷ xs) = by_tests (same x z) (same y z) refl refl (swapped x y xs)
    where
      by_tests : (b c : Bool) → same x z ≡ b → same y z ≡ c → without same x (without same y xs) ≡ without same y (without same x xs) → without same x (if c then without same y xs else z ∷ without same y xs) ≡ without same y (if b then without same x xs else z ∷ without same x xs)
      by_tests true true e f h = h
      by_tests true false e f h = ap (λ t. if t then without same x (without same y xs) else z ∷ without same x (without same y xs)) e ∙ h
      by_tests false true e f h = h ∙ sym (ap (λ t. if t then without same y (without same x xs) else z ∷ without same y (without same x xs)) f)
      by_tests false false e f h =
          ap (λ t. if t then without same x (without same y xs) else z ∷ without same x (without same y xs)) e
          ∙ ap (λ l. z ∷ l) h
          ∙ sym (ap (λ t. if t then without same y (without same x xs) else z ∷ without same y (without same x xs)) f)

  twice : (x : A) (xs : List A) → without same x (without same x xs) ≡ without same x xs
  twice x [] = refl
  twice x (z ∷ xs) = by_test (same x z) refl (twice x xs)
    where
      by_test : (b : Bool) → same x z ≡ b → without same x (without same x xs) ≡ without same x xs → without same x (if b then without same x xs else z ∷ without same x xs) ≡ (if b then without same x xs else z ∷ without same x xs)
      by_test true e h = h
      by_test false e h = ap (λ t. if t then without same x (without same x xs) else z ∷ without same x (without same x xs)) e ∙ ap (λ l. z ∷ l) h

  beyond_without : (table : List A) (x : A) (xs : List A) → beyond table (without same x xs) ≡ without same x (beyond table xs)
  beyond_without [] x xs = refl
  beyond_without (y ∷ table) x xs = ap (beyond table) (swapped y x xs) ∙ beyond_without table x (without same y xs)

  -- of a member of the table nothing is left beyond it
  beyond_member : (table : List A) (x : A) (xs : List A) → Has x table → beyond table (x ∷ without same x xs) ≡ beyond table xs
  beyond_member [] x xs h = absurd h
  beyond_member (y ∷ table) x xs (inl e) =
      let yes : same y x ≡ true = ap (same y) e ∙ itself y in
      ap (beyond table) (ap (λ t. if t then without same y (without same x xs) else x ∷ without same y (without same x xs)) yes ∙ ap (λ z. without same y (without same z xs)) e ∙ twice y xs)
  beyond_member (y ∷ table) x xs (inr h) = by_test (same y x) refl (beyond_member table x (without same y xs) h)
    where
      by_test : (b : Bool) → same y x ≡ b → beyond table (x ∷ without same x (without same y xs)) ≡ beyond table (without same y xs) → beyond table (if b then without same y (without same x xs) else x ∷ without same y (without same x xs)) ≡ beyond table (without same y xs)
      by_test true e go = let same_yx : y ≡ x = tells y x e in ap (λ z. beyond table (without same y (without same z xs))) (sym same_yx) ∙ ap (beyond table) (twice y xs)
      by_test false e go = ap (λ l. beyond table (x ∷ l)) (swapped y x xs) ∙ go

  beyond_new : (table : List A) (x : A) (xs : List A) → (Has x table → ⊥) → beyond table (x ∷ xs) ≡ x ∷ beyond table xs
  beyond_new [] x xs h = refl
  beyond_new (y ∷ table) x xs h = by_test (same y x) refl (beyond_new table x (without same y xs) (λ g. h (inr g)))
    where
      by_test : (b : Bool) → same y x ≡ b → beyond table (x ∷ without same y xs) ≡ x ∷ beyond table (without same y xs) → beyond table (if b then without same y xs else x ∷ without same y xs) ≡ x ∷ beyond table (without same y xs)
      by_test true e go = absurd (h (inl (sym (tells y x e))))
      by_test false e go = go

  -- members that are noted in turn come once each, behind the table
  pub all_noted : (uses table : List A) → fold (insert_key noted) table uses ≡ table ++ beyond table (each_once same uses)
  all_noted [] table = sym (ap (λ l. table ++ l) (beyond_none table) ∙ append-nil table)
  all_noted (x ∷ uses) table = by_any (list_any (noted x) table) refl (all_noted uses table) (all_noted uses (table ++ x ∷ []))
    where
      rest : List A
      rest = each_once same uses

      by_any : (b : Bool) → list_any (noted x) table ≡ b → fold (insert_key noted) table uses ≡ table ++ beyond table rest → fold (insert_key noted) (table ++ x ∷ []) uses ≡ (table ++ x ∷ []) ++ beyond (table ++ x ∷ []) rest → fold (insert_key noted) (if b then table else table ++ x ∷ []) uses ≡ table ++ beyond table (x ∷ without same x rest)
      by_any true e stays grows = stays ∙ ap (λ l. table ++ l) (sym (beyond_member table x rest (any_has table x e)))
      by_any false e stays grows =
          grows
          ∙ append_assoc table (x ∷ []) (beyond (table ++ x ∷ []) rest)
          ∙ ap (λ l. table ++ x ∷ l) (beyond_append table x rest ∙ sym (beyond_without table x rest))
          ∙ ap (λ l. table ++ l) (sym (beyond_new table x (without same x rest) (not_has table x e)))

  -- Numbers stay as tables grow

  number_front : (table more : List A) (x : A) → Has x table → number_in same (table ++ more) x ≡ number_in same table x
  number_front [] more x h = absurd h
  number_front (y ∷ table) more x h = by_test (same x y) refl h (number_front table more x)
    where
      by_test : (b : Bool) → same x y ≡ b → (x ≡ y) ⊎ Has x table → (Has x table → number_in same (table ++ more) x ≡ number_in same table x) → (if b then 0 else suc (number_in same (table ++ more) x)) ≡ (if b then 0 else suc (number_in same table x))
      by_test true e g rest = refl
      by_test false e (inl g) rest = let yes : same x y ≡ true = ap (same x) (sym g) ∙ itself x in absurd (cc (e, yes))
      by_test false e (inr g) rest = ap suc (rest g)

  number_behind : (table more : List A) (x : A) → number_in same (table ++ x ∷ more) x ≡ number_in same table x
  number_behind [] more x = ap (λ b. if b then 0 else suc (number_in same more x)) (itself x)
  number_behind (y ∷ table) more x = ap (λ n. if same x y then 0 else suc n) (number_behind table more x)

  -- the number that a member has when it is noted is its number in each longer table
  pub number_stays : (table more : List A) (x : A) → number_in same (insert_key noted table x ++ more) x ≡ position_or_len (noted x) table
  number_stays table more x = by_any (list_any (noted x) table) refl ∙ sym (position_is table x)
    where
      by_any : (b : Bool) → list_any (noted x) table ≡ b → number_in same ((if b then table else table ++ x ∷ []) ++ more) x ≡ number_in same table x
      by_any true e = number_front table more x (any_has table x e)
      by_any false e = ap (λ l. number_in same l x) (append_assoc table (x ∷ []) more) ∙ number_behind table more x

-- The two kinds of tables

lists_alike : {A : Type 0} (noted same : A → A → Bool) → ((x y : A) → noted x y ≡ same x y) → (xs ys : List A) → pointwise noted xs ys ≡ same_list same xs ys
lists_alike noted same h [] [] = refl
lists_alike noted same h [] (y ∷ ys) = refl
lists_alike noted same h (x ∷ xs) [] = refl
lists_alike noted same h (x ∷ xs) (y ∷ ys) = ap₂ (λ a b. a && b) (h x y) (lists_alike noted same h xs ys)

texts_alike : (x y : List ℕ) → pointwise nat_eq x y ≡ same_text x y
texts_alike = lists_alike nat_eq (λ a b. a == b) (λ a b. refl)

shapes_alike : (x y : List Kind) → pointwise same_kind x y ≡ same_shape x y
shapes_alike = lists_alike same_kind same_kind (λ a b. refl)

abbrev pub texts_in : List Draft → List (List ℕ)
texts_in ds = filter_map (λ (d : Draft). text_of d.doing) ds

abbrev pub befores : List Draft → List (List Kind)
befores ds = map (λ (d : Draft). d.before) ds

text_noted_all : (uses table : List (List ℕ)) → (more : List (List ℕ)) × (fold text_noted table uses ≡ table ++ more)
text_noted_all uses table = (_, all_noted (pointwise nat_eq) same_text texts_alike texts_tell.one texts_tell.itself uses table)

shape_noted_all : (uses table : List (List Kind)) → (more : List (List Kind)) × (fold shape_noted table uses ≡ table ++ more)
shape_noted_all uses table = (_, all_noted (pointwise same_kind) same_shape shapes_alike shapes_tell.one shapes_tell.itself uses table)

-- from empty tables those of the project come
pub texts_are : (p : Project) → fold text_noted [] (texts_in (drafts p)) ≡ texts p
texts_are p = all_noted (pointwise nat_eq) same_text texts_alike texts_tell.one texts_tell.itself (texts_in (drafts p)) []

pub shapes_are : (p : Project) → fold shape_noted [] (befores (drafts p)) ≡ shapes p
shapes_are p = all_noted (pointwise same_kind) same_shape shapes_alike shapes_tell.one shapes_tell.itself (befores (drafts p)) []

-- What is put down

-- an instruction with its numbers in words
abbrev pub doing_put : List (List ℕ) → Doing → Instruction
doing_put texts (push_text text) = does.PushStr (word (number_in same_text texts text))
doing_put texts (plain what) = in_word what

abbrev pub step_put : List (List ℕ) → List (List Kind) → Draft → Step
step_put texts shapes d = record { shape = word (number_in same_shape shapes d.before); what = doing_put texts d.doing }

put_texts : (pad : Pad) (before : List Kind) (doing : Doing) (uses : List (List ℕ)) → fold text_noted (put_doing pad before doing).texts uses ≡ fold text_noted pad.texts (cons_option (text_of doing) uses)
unfolding with_step with_text
put_texts pad before (push_text text) uses = refl
put_texts pad before (plain what) uses = refl

put_shapes : (pad : Pad) (before : List Kind) (doing : Doing) → (put_doing pad before doing).shapes ≡ shape_noted pad.shapes before
unfolding with_step with_text
put_shapes pad before (push_text text) = refl
put_shapes pad before (plain what) = refl

-- the tables behind what is put down
pub wrote_texts : (ds : List Draft) (pad : Pad) → (wrote pad ds).texts ≡ fold text_noted pad.texts (texts_in ds)
wrote_texts [] pad = refl
wrote_texts (d ∷ ds) pad = wrote_texts ds (put pad d) ∙ put_texts pad d.before d.doing (texts_in ds)

pub wrote_shapes : (ds : List Draft) (pad : Pad) → (wrote pad ds).shapes ≡ fold shape_noted pad.shapes (befores ds)
wrote_shapes [] pad = refl
wrote_shapes (d ∷ ds) pad = wrote_shapes ds (put pad d) ∙ ap (λ l. fold shape_noted l (befores ds)) (put_shapes pad d.before d.doing)

-- one step, with its numbers in the tables that come to be
shape_number : (pad : Pad) (before : List Kind) (uses more : List (List Kind)) → number_in same_shape (fold shape_noted (shape_noted pad.shapes before) uses ++ more) before ≡ position_or_len (pointwise same_kind before) pad.shapes
shape_number pad before uses more =
    let (grown, e) = shape_noted_all uses (shape_noted pad.shapes before) in
    ap (λ l. number_in same_shape (l ++ more) before) e
    ∙ ap (λ l. number_in same_shape l before) (append_assoc (shape_noted pad.shapes before) grown more)
    ∙ number_stays (pointwise same_kind) same_shape shapes_alike shapes_tell.one shapes_tell.itself pad.shapes (grown ++ more) before

text_number : (pad : Pad) (text : List ℕ) (uses more : List (List ℕ)) → number_in same_text (fold text_noted (text_noted pad.texts text) uses ++ more) text ≡ position_or_len (pointwise nat_eq text) pad.texts
text_number pad text uses more =
    let (grown, e) = text_noted_all uses (text_noted pad.texts text) in
    ap (λ l. number_in same_text (l ++ more) text) e
    ∙ ap (λ l. number_in same_text l text) (append_assoc (text_noted pad.texts text) grown more)
    ∙ number_stays (pointwise nat_eq) same_text texts_alike texts_tell.one texts_tell.itself pad.texts (grown ++ more) text

put_step : (pad : Pad) (before : List Kind) (doing : Doing) (texts : List (List ℕ)) (shapes : List (List Kind)) (ts : List (List ℕ)) (more_texts : List (List ℕ)) (ss : List (List Kind)) (more_shapes : List (List Kind)) → texts ≡ fold text_noted pad.texts (cons_option (text_of doing) ts) ++ more_texts → shapes ≡ fold shape_noted (shape_noted pad.shapes before) ss ++ more_shapes → (put_doing pad before doing).steps ≡ pad.steps ++ step_put texts shapes (record { before = before; doing = doing }) ∷ []
unfolding with_step with_text
put_step pad before (push_text text) texts shapes ts mt ss ms et es =
    let shape : position_or_len (pointwise same_kind before) pad.shapes ≡ number_in same_shape shapes before = sym (ap (λ l. number_in same_shape l before) es ∙ shape_number pad before ss ms) in
    let number : position_or_len (pointwise nat_eq text) pad.texts ≡ number_in same_text texts text = sym (ap (λ l. number_in same_text l text) et ∙ text_number pad text ts mt) in
    let made : ℕ → ℕ → List Step = λ a b. pad.steps ++ record { shape = word a; what = does.PushStr (word b) } ∷ [] in
    ap (λ a. made a (position_or_len (pointwise nat_eq text) pad.texts)) shape ∙ ap (made (number_in same_shape shapes before)) number
put_step pad before (plain what) texts shapes ts mt ss ms et es =
    let shape : position_or_len (pointwise same_kind before) pad.shapes ≡ number_in same_shape shapes before = sym (ap (λ l. number_in same_shape l before) es ∙ shape_number pad before ss ms) in
    ap (λ a. pad.steps ++ record { shape = word a; what = in_word what } ∷ []) shape

-- the steps that are put down, with their numbers in tables that the later ones only lengthen
pub wrote_steps : (ds : List Draft) (pad : Pad) (texts more_texts : List (List ℕ)) (shapes more_shapes : List (List Kind)) → texts ≡ fold text_noted pad.texts (texts_in ds) ++ more_texts → shapes ≡ fold shape_noted pad.shapes (befores ds) ++ more_shapes → (wrote pad ds).steps ≡ pad.steps ++ map (step_put texts shapes) ds
wrote_steps [] pad texts mt shapes ms et es = sym (append-nil pad.steps)
wrote_steps (d ∷ ds) pad texts mt shapes ms et es =
    let et' : texts ≡ fold text_noted (put pad d).texts (texts_in ds) ++ mt = et ∙ ap (λ l. l ++ mt) (sym (put_texts pad d.before d.doing (texts_in ds))) in
    let es' : shapes ≡ fold shape_noted (put pad d).shapes (befores ds) ++ ms = es ∙ ap (λ l. fold shape_noted l (befores ds) ++ ms) (sym (put_shapes pad d.before d.doing)) in
    wrote_steps ds (put pad d) texts mt shapes ms et' es'
    ∙ ap (λ l. l ++ map (step_put texts shapes) ds) (put_step pad d.before d.doing texts shapes (texts_in ds) mt (befores ds) ms et es)
    ∙ append_assoc pad.steps (step_put texts shapes d ∷ []) (map (step_put texts shapes) ds)

-- One function among the others

cons_both : (o : Option (List ℕ)) (xs ys zs : List (List ℕ)) → zs ≡ xs ++ ys → cons_option o zs ≡ cons_option o xs ++ ys
cons_both (Some t) xs ys zs e = ap (λ l. t ∷ l) e
cons_both None xs ys zs e = e

pub texts_both : (xs ys : List Draft) → texts_in (xs ++ ys) ≡ texts_in xs ++ texts_in ys
texts_both [] ys = refl
texts_both (d ∷ xs) ys = cons_both (text_of d.doing) (texts_in xs) (texts_in ys) (texts_in (xs ++ ys)) (texts_both xs ys)

pub fold_both : {A B : Type 0} (f : B → A → B) (xs ys : List A) (b : B) → fold f b (xs ++ ys) ≡ fold f (fold f b xs) ys
fold_both f [] ys b = refl
fold_both f (x ∷ xs) ys b = fold_both f xs ys (f b x)

parts_split : (p : Project) (front : List Function) (f : Function) (rest : List Function) → p.functions ≡ front ++ f ∷ rest → drafts p ≡ flat_map (function_code p) front ++ (function_code p f ++ flat_map (function_code p) rest)
parts_split p front f rest e =
    ap (flat_map (function_code p)) e
    ∙ flat_both front (f ∷ rest)
    ∙ ap (λ l. flat_map (function_code p) front ++ l) (flat_map-cons (function_code p) f rest)
  where
    flat_both : (xs ys : List Function) → flat_map (function_code p) (xs ++ ys) ≡ flat_map (function_code p) xs ++ flat_map (function_code p) ys
    flat_both xs ys = flat_map-append (function_code p) xs ys

-- Where the functions before this one have filled the tables, its steps are those with the numbers of the whole project's tables.
pub function_put : (p : Project) (front : List Function) (f : Function) (rest : List Function) (pad : Pad) → p.functions ≡ front ++ f ∷ rest → pad.texts ≡ fold text_noted [] (texts_in (flat_map (function_code p) front)) → pad.shapes ≡ fold shape_noted [] (befores (flat_map (function_code p) front)) → pad.steps ≡ [] → (wrote pad (function_code p f)).steps ≡ map (step_put (texts p) (shapes p)) (function_code p f)
function_put p front f rest pad e et es none =
    let before : List Draft = flat_map (function_code p) front in
    let mine : List Draft = function_code p f in
    let after : List Draft = flat_map (function_code p) rest in
    let whole : drafts p ≡ before ++ (mine ++ after) = parts_split p front f rest e in
    let all_texts : texts p ≡ fold text_noted (fold text_noted pad.texts (texts_in mine)) (texts_in after) =
    sym (texts_are p)
    ∙ ap (λ l. fold text_noted [] (texts_in l)) whole
    ∙ ap (fold text_noted []) (texts_both before (mine ++ after) ∙ ap (λ l. texts_in before ++ l) (texts_both mine after))
    ∙ fold_both text_noted (texts_in before) (texts_in mine ++ texts_in after) []
    ∙ ap (λ b. fold text_noted b (texts_in mine ++ texts_in after)) (sym et)
    ∙ fold_both text_noted (texts_in mine) (texts_in after) pad.texts in
    let all_shapes : shapes p ≡ fold shape_noted (fold shape_noted pad.shapes (befores mine)) (befores after) =
    sym (shapes_are p)
    ∙ ap (λ l. fold shape_noted [] (befores l)) whole
    ∙ ap (fold shape_noted []) (map_both (λ (d : Draft). d.before) before (mine ++ after) ∙ ap (λ l. befores before ++ l) (map_both (λ (d : Draft). d.before) mine after))
    ∙ fold_both shape_noted (befores before) (befores mine ++ befores after) []
    ∙ ap (λ b. fold shape_noted b (befores mine ++ befores after)) (sym es)
    ∙ fold_both shape_noted (befores mine) (befores after) pad.shapes in
    let (more_texts, grown_texts) = text_noted_all (texts_in after) (fold text_noted pad.texts (texts_in mine)) in
    let (more_shapes, grown_shapes) = shape_noted_all (befores after) (fold shape_noted pad.shapes (befores mine)) in
    wrote_steps mine pad (texts p) more_texts (shapes p) more_shapes (all_texts ∙ grown_texts) (all_shapes ∙ grown_shapes)
    ∙ ap (λ l. l ++ map (step_put (texts p) (shapes p)) mine) none

-- Words: in code that breaks no rule each number is that of something, so it is below 2^32

word_same : (n : ℕ) → n < 2 ^ 32 → word n ≡ n
word_same n h = omega (arith, h)

-- an instruction whose numbers are those of something
in_word_same : (code : RawParts) (raw : RawFunction) (what : Instruction) → Named code raw what → IsCode code → length raw.locals < 2 ^ 32 → length raw.steps < 2 ^ 32 → in_word what ≡ what
in_word_same code raw (does.Load i) h c l s = ap does.Load (word_same i (omega (arith, h)))
in_word_same code raw (does.Store i) h c l s = ap does.Store (word_same i (omega (arith, h)))
in_word_same code raw (does.ReadCell i) h c l s = let m = c.counted.layout.cells in ap does.ReadCell (word_same i (omega (arith, h)))
in_word_same code raw (does.WriteCell i) h c l s = let m = c.counted.layout.cells in ap does.WriteCell (word_same i (omega (arith, h)))
in_word_same code raw (does.ReadAt i) h c l s = let m = c.counted.arrays in ap does.ReadAt (word_same i (omega (arith, h)))
in_word_same code raw (does.WriteAt i) h c l s = let m = c.counted.arrays in ap does.WriteAt (word_same i (omega (arith, h)))
in_word_same code raw (does.Jump t) h c l s = ap does.Jump (word_same t (omega (arith, h)))
in_word_same code raw (does.JumpIfZero t) h c l s = ap does.JumpIfZero (word_same t (omega (arith, h)))
in_word_same code raw (does.Call f) h c l s = let m = c.counted.functions in ap does.Call (word_same f (omega (arith, h)))
in_word_same code raw _ h c l s = refl

index_there : {A : Type 0} (xs : List A) (i : ℕ) (x d : A) → slice_get xs i ≡ Some x → slice_index_or xs i d ≡ x
index_there [] i x d e = absurd (cc e)
index_there (y ∷ xs) zero x d e = cc e
index_there (y ∷ xs) (suc i) x d e = index_there xs i x d e

each_at : {A : Type 0} (P : A → Type 0) (xs : List A) (i : ℕ) (x : A) → All P xs → slice_get xs i ≡ Some x → P x
each_at P xs i x all e = subst P (index_there xs i x x e) (all i x (slice_get_within xs i x e))

pub map_alike : {A B : Type 0} (f g : A → B) (xs : List A) → ((i : ℕ) (x : A) → slice_get xs i ≡ Some x → f x ≡ g x) → map f xs ≡ map g xs
map_alike f g [] h = refl
map_alike f g (x ∷ xs) h = ap (λ y. y ∷ map f xs) (h 0 x refl) ∙ ap (λ ys. g x ∷ ys) (map_alike f g xs (λ i y e. h (suc i) y e))

-- In code that breaks no rule, and whose lists are counted, the steps that are put down are those of the translation.
pub steps_are : (p : Project) → NoneBroken (translation p) → IsCode (translation p) → (n : ℕ) (f : Function) → slice_get p.functions n ≡ Some f → map (step_put (texts p) (shapes p)) (function_code p f) ≡ (raw_function (texts p) (shapes p) p f).steps
steps_are p none code n f found = map_alike (step_put (texts p) (shapes p)) (step_of (texts p) (shapes p)) (function_code p f) same
  where
    raw : RawFunction
    raw = raw_function (texts p) (shapes p) p f

    at_raw : slice_get (translation p).functions n ≡ Some raw
    at_raw = get_map (raw_function (texts p) (shapes p) p) p.functions n ∙ ap (option_map (raw_function (texts p) (shapes p) p)) found

    at_head : slice_get (translation p).layout.functions n ≡ Some (head_of f)
    at_head = get_map head_of p.functions n ∙ ap (option_map head_of) found

    counted : IsFunctionCounted raw
    counted = each_at IsFunctionCounted (translation p).functions n raw code.counted.each_function at_raw

    doing_same : (doing : Doing) → Named (translation p) raw (instruction_of (texts p) doing) → doing_put (texts p) doing ≡ instruction_of (texts p) doing
    doing_same (push_text text) h = let m = code.counted.texts in ap does.PushStr (word_same (number_in same_text (texts p) text) (omega (arith, h)))
    doing_same (plain what) h = in_word_same (translation p) raw what h code counted.locals counted.steps

    same : (i : ℕ) (d : Draft) → slice_get (function_code p f) i ≡ Some d → step_put (texts p) (shapes p) d ≡ step_of (texts p) (shapes p) d
    same i d e =
        let x : Step = step_of (texts p) (shapes p) d in
        let at : slice_get raw.steps i ≡ Some x = get_map (step_of (texts p) (shapes p)) (function_code p f) i ∙ ap (option_map (step_of (texts p) (shapes p))) e in
        let (few, kept) = (none 1 n i).there (head_of f) raw at_head at_raw in
        let (shape, named) = kept x at in
        let m = code.counted.shapes in
        let shape_same : word (number_in same_shape (shapes p) d.before) ≡ number_in same_shape (shapes p) d.before = word_same (number_in same_shape (shapes p) d.before) (omega (arith, shape)) in
        ap (λ a. record { shape = a; what = doing_put (texts p) d.doing }) shape_same
        ∙ ap (λ w. record { shape = number_in same_shape (shapes p) d.before; what = w }) (doing_same d.doing named)
