-- What has been put down of the code of a project, and what each place adds to it.
use Rattle.std.specs.Prelude.{ℕ, List, [], ◌∷◌, ◌++◌, ◌%◌, ◌^◌, fold, nat_eq}
use Rattle.std.specs.List.{position_or_len}
use Rattle.std.specs.Cmp.Lexicographic.{pointwise}
use Rattle.indexmap.specs.IndexSet.{insert_key}
use Rattle.ci_base.specs.declared.value.Kind.{Kind}
use Rattle.ci_code.specs.declared.instruction.Instruction.{Instruction}
use Rattle.ci_code.specs.declared.instruction.Instruction.TheVariants as does
use Rattle.ci_code.specs.declared.instruction.Step.{Step}
use Rattle.ci_translation.specs.Drafts.{Doing, push_text, plain, Draft}
use Rattle.ci_tree.specs.Operators.{same_kind}

-- a number as a word of 32 bits holds it
abbrev pub word : ℕ → ℕ
word n = n % 2 ^ 32

-- an instruction with its number in a word
abbrev pub in_word : Instruction → Instruction
in_word (does.Load i) = does.Load (word i)
in_word (does.Store i) = does.Store (word i)
in_word (does.ReadCell c) = does.ReadCell (word c)
in_word (does.WriteCell c) = does.WriteCell (word c)
in_word (does.ReadAt a) = does.ReadAt (word a)
in_word (does.WriteAt a) = does.WriteAt (word a)
in_word (does.Jump t) = does.Jump (word t)
in_word (does.JumpIfZero t) = does.JumpIfZero (word t)
in_word (does.Call f) = does.Call (word f)
in_word what = what

-- a table, and a member, where it isn't among them
abbrev pub text_noted : List (List ℕ) → List ℕ → List (List ℕ)
text_noted = insert_key (pointwise nat_eq)

abbrev pub shape_noted : List (List Kind) → List Kind → List (List Kind)
shape_noted = insert_key (pointwise same_kind)

-- the tables of a project's code, and the steps of the function at hand
pub record Pad : Type 0 where
  pub texts : List (List ℕ)
  pub shapes : List (List Kind)
  pub steps : List Step

-- an instruction behind the others, over operands of these kinds
unfoldable pub with_step : Pad → List Kind → Instruction → Pad
with_step pad before what = record {
  texts = pad.texts;
  shapes = shape_noted pad.shapes before;
  steps = pad.steps ++ record { shape = word (position_or_len (pointwise same_kind before) pad.shapes); what = what } ∷ [];
}

-- the same, where a text is left
unfoldable pub with_text : Pad → List Kind → List ℕ → Pad
with_text pad before text = record {
  texts = text_noted pad.texts text;
  shapes = shape_noted pad.shapes before;
  steps = pad.steps ++ record { shape = word (position_or_len (pointwise same_kind before) pad.shapes); what = does.PushStr (word (position_or_len (pointwise nat_eq text) pad.texts)) } ∷ [];
}

-- one more place
abbrev pub put_doing : Pad → List Kind → Doing → Pad
put_doing pad before (push_text text) = with_text pad before text
put_doing pad before (plain what) = with_step pad before (in_word what)

abbrev pub put : Pad → Draft → Pad
put pad draft = put_doing pad draft.before draft.doing

-- several more
abbrev pub wrote : Pad → List Draft → Pad
wrote = fold put
