-- Functions that are put down one after another.
use Rattle.std.proofs.Common.{◌≡◌, ℕ, zero, suc, ◌+◌, ◌<◌, List, [], ◌∷◌, ◌++◌, length, map, get_or, Some, refl, sym, ap, ◌∙◌, append_assoc, arith}
use Rattle.std.proofs.lemmas.List.{append-nil}
use Rattle.std.proofs.lemmas.Grind.{flat_map-append}
use Rattle.std.proofs.lemmas.List.Concat.{flat_map-cons}
use Rattle.std.specs.List.{flat_map}
use Rattle.std.specs.Prelude.{fold, slice_get}
use Rattle.ci_code.specs.Code.{IsCode}
use Rattle.ci_code.specs.declared.raw.RawFunction.{RawFunction}
use Rattle.ci_translation.proofs.Lists.{map_both, length_mapped}
use Rattle.ci_translation.specs.Drafts.{Draft, step, first_step, block_code, function_code}
use Rattle.ci_translation.specs.Translation.{texts, shapes, raw_function, translation}
use Rattle.ci_tree.specs.Bound.{Function, Project}
use Rattle.ci_tree.specs.LeftOut.{Heads}
use Rattle.ci_tree.specs.Rooms.{room}
use Rattle.ci_tree.specs.Sound.{param_kinds}
use Rattle.ci_verify.specs.Rules.{NoneBroken}
use Rattle.ci_emit.proofs.Joined.{step_put, texts_in, befores, texts_both, fold_both, map_alike, wrote_texts, wrote_shapes, function_put, steps_are, texts_are, shapes_are}
use Rattle.ci_emit.specs.Raw.{made_function, without_steps}
use Rattle.ci_emit.specs.Pads.{text_noted, shape_noted, Pad, wrote}
use Rattle.ci_emit.specs.Writing.{Writing, Writes}
use Rattle.ci_emit.specs.Contexts.{context, heads}
use Rattle.ci_code.specs.declared.instruction.Instruction.TheVariants as does
use Rattle.ci_translation.specs.Instructions.{left_kind}
use Rattle.ci_tree.specs.SeenBound.{block_of, function_of, project_of}
use Rattle.ci_tree.specs.declared.bound.Function as code
use Rattle.ci_tree.specs.declared.bound.ProjectParts.{ProjectParts}

-- a function with its steps as they come to be, numbered in the tables of the whole project
pub put_function : Project → Function → RawFunction
put_function p f = record { gives = f.gives; room = room f; locals = param_kinds f ++ f.others; steps = map (step_put (texts p) (shapes p)) (function_code p f) }

-- Where the writer stands when these are left: the others stand in front, and have been put down.
pub record FunctionsAt (p : Project) (w : Writing) (done : List RawFunction) (left : List Function) : Type 0 where
  pub front : List Function
  pub whole : p.functions ≡ front ++ left
  pub texts : w.pad.texts ≡ fold text_noted [] (texts_in (flat_map (function_code p) front))
  pub shapes : w.pad.shapes ≡ fold shape_noted [] (befores (flat_map (function_code p) front))
  pub steps : w.pad.steps ≡ []
  pub below : w.below ≡ []
  pub made : done ≡ map (put_function p) front

pub functions_begin : (p : Project) (w : Writing) → w ≡ record { pad = record { texts = []; shapes = []; steps = [] }; below = [] } → FunctionsAt p w [] p.functions
functions_begin p w e = record {
  front = [];
  whole = refl;
  texts = ap (λ (x : Writing). x.pad.texts) e;
  shapes = ap (λ (x : Writing). x.pad.shapes) e;
  steps = ap (λ (x : Writing). x.pad.steps) e;
  below = ap (λ (x : Writing). x.below) e;
  made = refl;
}

code_of_front : (p : Project) (front : List Function) (f : Function) → flat_map (function_code p) (front ++ f ∷ []) ≡ flat_map (function_code p) front ++ function_code p f
code_of_front p front f =
    flat_map-append (function_code p) front (f ∷ [])
    ∙ ap (λ l. flat_map (function_code p) front ++ l) (flat_map-cons (function_code p) f [] ∙ append-nil (function_code p f))

pub functions_next : (p : Project) (w u : Writing) (made more : List RawFunction) (left : List Function) (f : Function) (rest : List Function) (raw : RawFunction) → left ≡ f ∷ rest → raw ≡ made_function w.pad p f → u.pad ≡ without_steps (wrote w.pad (function_code p f)) → u.below ≡ [] → more ≡ made ++ raw ∷ [] → FunctionsAt p w made left → FunctionsAt p u more rest
unfolding put_function
functions_next p w u made more left f rest raw is one pad below pushed at =
    let front : List Function = at.front in
    let mine : List Draft = function_code p f in
    let before : List Draft = flat_map (function_code p) front in
    let whole : p.functions ≡ front ++ f ∷ rest = at.whole ∙ ap (λ l. front ++ l) is in
    let steps : (wrote w.pad mine).steps ≡ map (step_put (texts p) (shapes p)) mine = function_put p front f rest w.pad whole at.texts at.shapes at.steps in
    let same : raw ≡ put_function p f = one ∙ ap (λ s. record { gives = f.gives; room = room f; locals = param_kinds f ++ f.others; steps = s }) steps in
    record {
      front = front ++ f ∷ [];
      whole = whole ∙ sym (append_assoc front (f ∷ []) rest);
      texts =
          ap (λ (x : Pad). x.texts) pad
          ∙ wrote_texts mine w.pad
          ∙ ap (λ t. fold text_noted t (texts_in mine)) at.texts
          ∙ sym (fold_both text_noted (texts_in before) (texts_in mine) [])
          ∙ ap (fold text_noted []) (sym (texts_both before mine))
          ∙ ap (λ l. fold text_noted [] (texts_in l)) (sym (code_of_front p front f));
      shapes =
          ap (λ (x : Pad). x.shapes) pad
          ∙ wrote_shapes mine w.pad
          ∙ ap (λ t. fold shape_noted t (befores mine)) at.shapes
          ∙ sym (fold_both shape_noted (befores before) (befores mine) [])
          ∙ ap (fold shape_noted []) (sym (map_both (λ (d : Draft). d.before) before mine))
          ∙ ap (λ l. fold shape_noted [] (befores l)) (sym (code_of_front p front f));
      steps = ap (λ (x : Pad). x.steps) pad;
      below = below;
      made = pushed ∙ (λ i. at.made i ++ same i ∷ []) ∙ sym (map_both (put_function p) front (f ∷ []));
    }

-- Where none is left, all functions are those of the translation, and the tables are the project's.
pub functions_done : (p : Project) (w : Writing) (made : List RawFunction) (left : List Function) → NoneBroken (translation p) → IsCode (translation p) → left ≡ [] → FunctionsAt p w made left → (made ≡ (translation p).functions) × (w.pad.texts ≡ texts p) × (w.pad.shapes ≡ shapes p)
unfolding put_function
functions_done p w made left none code is at =
    let all : at.front ≡ p.functions = sym (at.whole ∙ ap (λ l. at.front ++ l) is ∙ append-nil at.front) in
    (at.made ∙ ap (map (put_function p)) all ∙ map_alike (put_function p) (raw_function (texts p) (shapes p) p) p.functions same, at.texts ∙ ap (λ l. fold text_noted [] (texts_in (flat_map (function_code p) l))) all ∙ texts_are p, at.shapes ∙ ap (λ l. fold shape_noted [] (befores (flat_map (function_code p) l))) all ∙ shapes_are p)
  where
    same : (n : ℕ) (f : Function) → slice_get p.functions n ≡ Some f → put_function p f ≡ raw_function (texts p) (shapes p) p f
    same n f found = ap (λ s. record { gives = f.gives; room = room f; locals = param_kinds f ++ f.others; steps = s }) (steps_are p none code n f found)

-- what is put down for a function where nothing stands before it
pub whole_code : (parts : ProjectParts) (f : code.Function) (w u : Writing) → w.pad.steps ≡ [] → w.below ≡ [] → Writes w u (λ b p. step b does.Tick ∷ (block_code (context parts f) b (p + 1) (block_of (heads parts) f.body) ++ first_step b (left_kind f.gives) ∷ step (b ++ left_kind f.gives ∷ []) does.Return ∷ [])) → u.pad ≡ wrote w.pad (function_code (project_of parts) (function_of (heads parts) f))
unfolding context
whole_code parts f w u steps below h =
    h.pad ∙ (λ i. wrote w.pad (step (below i) does.Tick ∷ (block_code (context parts f) (below i) (length (steps i) + 1) (block_of (heads parts) f.body) ++ first_step (below i) (left_kind f.gives) ∷ step (below i ++ left_kind f.gives ∷ []) does.Return ∷ [])))

mapped_at : (hs : Heads) (fs : List code.Function) (i : ℕ) (x : code.Function) → x ≡ get_or fs i x → i < length fs → get_or (map room (map (function_of hs) fs)) i 0 ≡ room (function_of hs x)
mapped_at hs [] i x e h = absurd (omega arith)
mapped_at hs (f ∷ fs) zero x e h = ap (λ (z : code.Function). room (function_of hs z)) (sym e)
mapped_at hs (f ∷ fs) (suc i) x e h = mapped_at hs fs i x e (omega arith)

-- the room of the function of this number
pub room_at : (hs : Heads) (rooms : List ℕ) (fs : List code.Function) (i : ℕ) (x : code.Function) → rooms ≡ map room (map (function_of hs) fs) → x ≡ get_or fs i x → i < length fs → get_or rooms i 0 ≡ room (function_of hs x)
room_at hs rooms fs i x rooms_are e h = ap (λ (l : List ℕ). get_or l i 0) rooms_are ∙ mapped_at hs fs i x e h

pub as_many_rooms : (hs : Heads) (rooms : List ℕ) (fs : List code.Function) → rooms ≡ map room (map (function_of hs) fs) → length rooms ≡ length fs
as_many_rooms hs rooms fs rooms_are = ap length rooms_are ∙ length_mapped room (map (function_of hs) fs) ∙ length_mapped (function_of hs) fs
