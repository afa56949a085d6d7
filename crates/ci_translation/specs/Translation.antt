-- The code of a project: what its functions name stands in tables, each once, in the order of first use.
use Rattle.std.specs.Prelude.{ℕ, suc, Bool, true, false, ◌&&◌, ◌==◌, if◌then◌else◌, List, [], ◌∷◌, ◌++◌, map}
use Rattle.std.specs.List.{filter_map, flat_map}
use Rattle.std.specs.Prelude.{Option, Some, None}
use Rattle.ci_base.specs.declared.value.Kind.{Kind}
use Rattle.ci_code.specs.declared.instruction.Instruction.{Instruction}
use Rattle.ci_code.specs.declared.instruction.Instruction.TheVariants as does
use Rattle.ci_code.specs.declared.instruction.Step.{Step}
use Rattle.ci_code.specs.declared.raw.RawFunction.{RawFunction}
use Rattle.ci_code.specs.declared.raw.RawParts.{RawParts}
use Rattle.ci_tree.specs.Bound.{Function, Project}
use Rattle.ci_tree.specs.Layouts.{layout_of}
use Rattle.ci_tree.specs.Operators.{same_kind}
use Rattle.ci_tree.specs.Rooms.{room}
use Rattle.ci_tree.specs.Sound.{param_kinds}
use Rattle.ci_translation.specs.Drafts.{Doing, push_text, plain, Draft, function_code}
use Rattle.ci_translation.specs.Stands.{cells_of}

-- Tables

-- two lists are one, where a test tells whether two members are
abbrev pub same_list : {A : Type 0} → (A → A → Bool) → List A → List A → Bool
same_list same [] [] = true
same_list same (x ∷ xs) (y ∷ ys) = same x y && same_list same xs ys
same_list same _ _ = false

-- without each member that is x
abbrev pub without : {A : Type 0} → (A → A → Bool) → A → List A → List A
without same x [] = []
without same x (y ∷ ys) = if same x y then without same x ys else y ∷ without same x ys

-- each member once, in the order in which they come first
abbrev pub each_once : {A : Type 0} → (A → A → Bool) → List A → List A
each_once same [] = []
each_once same (x ∷ xs) = x ∷ without same x (each_once same xs)

-- the number of a member of a table: its place there, from 0 on; of one that isn't there, the table's length
abbrev pub number_in : {A : Type 0} → (A → A → Bool) → List A → A → ℕ
number_in same [] x = 0
number_in same (y ∷ table) x = if same x y then 0 else suc (number_in same table x)

abbrev pub same_text : List ℕ → List ℕ → Bool
same_text = same_list (λ a b. a == b)

abbrev pub same_shape : List Kind → List Kind → Bool
same_shape = same_list same_kind

-- What the functions of a project name

-- all places, in the order of functions and places
abbrev pub drafts : Project → List Draft
drafts p = flat_map (function_code p) p.functions

abbrev pub text_of : Doing → Option (List ℕ)
text_of (push_text text) = Some text
text_of (plain what) = None

abbrev pub texts : Project → List (List ℕ)
texts p = each_once same_text (filter_map (λ (d : Draft). text_of d.doing) (drafts p))

abbrev pub shapes : Project → List (List Kind)
shapes p = each_once same_shape (map (λ (d : Draft). d.before) (drafts p))

-- The code

abbrev pub instruction_of : List (List ℕ) → Doing → Instruction
instruction_of texts (push_text text) = does.PushStr (number_in same_text texts text)
instruction_of texts (plain what) = what

-- a place, with its shape and its text by number
abbrev pub step_of : List (List ℕ) → List (List Kind) → Draft → Step
step_of texts shapes d = record { shape = number_in same_shape shapes d.before; what = instruction_of texts d.doing }

abbrev pub raw_function : List (List ℕ) → List (List Kind) → Project → Function → RawFunction
raw_function texts shapes p f = record {
  gives = f.gives;
  room = room f;
  locals = param_kinds f ++ f.others;
  steps = map (step_of texts shapes) (function_code p f);
}

-- the code of a project
abbrev pub translation : Project → RawParts
translation p = record {
  layout = layout_of p;
  texts = texts p;
  arrays = map cells_of p.arrays;
  shapes = shapes p;
  functions = map (raw_function (texts p) (shapes p) p) p.functions;
}
