-- The labels of a clause, one by one.
use Rattle.std.proofs.Common.{◌≡◌, List, [], ◌∷◌, ◌++◌, map, Option, sym, ap, ◌∙◌, append_assoc, append-nil}
use Rattle.std.proofs.lemmas.List.{map_push}
use Rattle.ci_base.specs.declared.value.Kind.{Kind}
use Rattle.ci_tree.specs.Seen as seen
use Rattle.ci_tree.specs.declared.tree.Label as code
use Rattle.ci_tree.specs.declared.bound.Label as code_bound
use Rattle.ci_names.specs.declared.fault.Fault.{Fault}
use Rattle.ci_names.specs.Fault.{noted}
use Rattle.ci_names.specs.Scopes.{Scope}
use Rattle.ci_names.specs.Statements.{label_faults, labels_faults}
use Rattle.ci_names.specs.Binding.{bound_label}
use Rattle.ci_bodies.specs.Made.{label_in}
use Rattle.ci_bodies.proofs.Noted.{noted_append}

-- The loop has come to these labels: what it made and found so far, with theirs, is that of all.
abbrev pub LabelsAt : Scope → Option Kind → List code_bound.Label → Option Fault → List code.Label → Option Fault → List code.Label → Type 0
LabelsAt s subject made found rest old all = record {
  tree_is : map (label_in s) made ++ map (bound_label s) (map seen.label_of rest) ≡ map (bound_label s) (map seen.label_of all);
  found_is : noted found (labels_faults s subject (map seen.label_of rest)) ≡ noted old (labels_faults s subject (map seen.label_of all));
}

-- one more
pub labels_more : (s : Scope) (subject : Option Kind) (made more : List code_bound.Label) (one : code_bound.Label) (found new : Option Fault) (rest behind : List code.Label) (l : code.Label) (old : Option Fault) (all : List code.Label)
    → more ≡ made ++ one ∷ [] → label_in s one ≡ bound_label s (seen.label_of l) → new ≡ noted found (label_faults s subject (seen.label_of l)) → rest ≡ l ∷ behind
    → LabelsAt s subject made found rest old all → LabelsAt s subject more new behind old all
labels_more s subject made more one found new rest behind l old all pushed tree is_found splits at = record {
  tree_is =
      ap (λ x. map (label_in s) x ++ map (bound_label s) (map seen.label_of behind)) pushed
      ∙ ap (λ x. x ++ map (bound_label s) (map seen.label_of behind)) (map_push (label_in s) made one)
      ∙ append_assoc (map (label_in s) made) (label_in s one ∷ []) (map (bound_label s) (map seen.label_of behind))
      ∙ ap (λ x. map (label_in s) made ++ x ∷ map (bound_label s) (map seen.label_of behind)) tree
      ∙ ap (λ x. map (label_in s) made ++ map (bound_label s) (map seen.label_of x)) (sym splits)
      ∙ at.tree_is;
  found_is =
      ap (λ x. noted x (labels_faults s subject (map seen.label_of behind))) is_found
      ∙ sym (noted_append found (label_faults s subject (seen.label_of l)) (labels_faults s subject (map seen.label_of behind)))
      ∙ ap (λ x. noted found (labels_faults s subject (map seen.label_of x))) (sym splits)
      ∙ at.found_is;
}

-- all were read
pub labels_end : (s : Scope) (subject : Option Kind) (made : List code_bound.Label) (found : Option Fault) (rest : List code.Label) (old : Option Fault) (all : List code.Label)
    → rest ≡ [] → LabelsAt s subject made found rest old all
    → (map (label_in s) made ≡ map (bound_label s) (map seen.label_of all)) × (found ≡ noted old (labels_faults s subject (map seen.label_of all)))
labels_end s subject made found rest old all ended at = (
  sym (append-nil (map (label_in s) made)) ∙ ap (λ x. map (label_in s) made ++ map (bound_label s) (map seen.label_of x)) (sym ended) ∙ at.tree_is,
  ap (λ x. noted found (labels_faults s subject (map seen.label_of x))) (sym ended) ∙ at.found_is,
)
