-- The members of a chain, one by one.
use Rattle.std.proofs.Common.{◌≡◌, List, [], ◌∷◌, ◌++◌, map, Option, refl, sym, ap, ◌∙◌}
use Rattle.ci_base.specs.declared.value.Kind.{Kind}
use Rattle.ci_tree.specs.Tree as from
use Rattle.ci_tree.specs.Tree.{links_from}
use Rattle.ci_tree.specs.Seen as seen
use Rattle.ci_tree.specs.declared.tree.Link as code
use Rattle.ci_tree.specs.declared.bound.Link as code_bound
use Rattle.ci_names.specs.declared.fault.Fault.{Fault}
use Rattle.ci_names.specs.Fault.{noted}
use Rattle.ci_names.specs.Scopes.{Scope}
use Rattle.ci_names.specs.Kinds.{kind_of, links_kind}
use Rattle.ci_names.specs.Expressions.{operation, int_operand, expr_faults, links_faults}
use Rattle.ci_names.specs.Binding.{heads_in, bound_links}
use Rattle.ci_bodies.specs.InFront.{links_in_front}
use Rattle.ci_bodies.specs.Made.{link_in, links_in}
use Rattle.ci_bodies.specs.Links.{link_kind, link_faults, bound_link}
use Rattle.ci_bodies.proofs.InFront.{links_pushed, links_all}
use Rattle.ci_bodies.proofs.Noted.{noted_append}

-- The loop has come to these members: what it made and found so far, with theirs, is that of all.
abbrev pub LinksAt : Scope → List code_bound.Link → Option Kind → Option Fault → List code.Link → Option Kind → Option Fault → List code.Link → Type 0
LinksAt s made kind found rest left old all = record {
  tree_is : links_in_front (map (link_in s) made) (bound_links s (seen.links_of rest)) ≡ bound_links s (seen.links_of all);
  kind_is : links_kind s kind (seen.links_of rest) ≡ links_kind s left (seen.links_of all);
  found_is : noted found (links_faults s kind (seen.links_of rest)) ≡ noted old (links_faults s left (seen.links_of all));
}

tree_more : (s : Scope) (l : from.Link) (ls : List from.Link) → links_in_front (bound_link s l ∷ []) (bound_links s (links_from ls)) ≡ bound_links s (links_from (l ∷ ls))
tree_more s (from.operand_link at op right) ls = refl
tree_more s (from.hashes_link at count) ls = refl

kind_more : (s : Scope) (k : Option Kind) (l : from.Link) (ls : List from.Link) → links_kind s (link_kind s k l) (links_from ls) ≡ links_kind s k (links_from (l ∷ ls))
kind_more s k (from.operand_link at op right) ls = refl
kind_more s k (from.hashes_link at count) ls = refl

found_more : (s : Scope) (found : Option Fault) (k : Option Kind) (l : from.Link) (ls : List from.Link)
    → noted (noted found (link_faults s k l)) (links_faults s (link_kind s k l) (links_from ls)) ≡ noted found (links_faults s k (links_from (l ∷ ls)))
found_more s found k (from.operand_link at op right) ls = sym (noted_append found (operation s at op k (kind_of s right) ++ expr_faults s right) (links_faults s (link_kind s k (from.operand_link at op right)) (links_from ls)))
found_more s found k (from.hashes_link at count) ls = sym (noted_append found (int_operand s at k) (links_faults s (link_kind s k (from.hashes_link at count)) (links_from ls)))

-- one more
pub links_more : (s : Scope) (made more : List code_bound.Link) (one : code_bound.Link) (kind next : Option Kind) (found new : Option Fault) (rest behind : List code.Link) (l : code.Link) (left : Option Kind) (old : Option Fault) (all : List code.Link)
    → more ≡ made ++ one ∷ [] → link_in s one ≡ bound_link s (seen.link_of l) → next ≡ link_kind s kind (seen.link_of l) → new ≡ noted found (link_faults s kind (seen.link_of l)) → rest ≡ l ∷ behind
    → LinksAt s made kind found rest left old all → LinksAt s more next new behind left old all
links_more s made more one kind next found new rest behind l left old all pushed tree is_kind is_found splits at = record {
  tree_is =
      links_pushed (heads_in s.declared) made more one (bound_links s (seen.links_of behind)) pushed
      ∙ ap (λ x. links_in_front (map (link_in s) made) (links_in_front (x ∷ []) (bound_links s (seen.links_of behind)))) tree
      ∙ ap (links_in_front (map (link_in s) made)) (tree_more s (seen.link_of l) (map seen.link_of behind))
      ∙ ap (λ x. links_in_front (map (link_in s) made) (bound_links s (seen.links_of x))) (sym splits)
      ∙ at.tree_is;
  kind_is =
      ap (λ x. links_kind s x (seen.links_of behind)) is_kind
      ∙ kind_more s kind (seen.link_of l) (map seen.link_of behind)
      ∙ ap (λ x. links_kind s kind (seen.links_of x)) (sym splits)
      ∙ at.kind_is;
  found_is =
      ap (λ x. noted x (links_faults s next (seen.links_of behind))) is_found
      ∙ ap (λ x. noted (noted found (link_faults s kind (seen.link_of l))) (links_faults s x (seen.links_of behind))) is_kind
      ∙ found_more s found kind (seen.link_of l) (map seen.link_of behind)
      ∙ ap (λ x. noted found (links_faults s kind (seen.links_of x))) (sym splits)
      ∙ at.found_is;
}

-- all were read
pub links_end : (s : Scope) (made : List code_bound.Link) (kind : Option Kind) (found : Option Fault) (rest : List code.Link) (left : Option Kind) (old : Option Fault) (all : List code.Link)
    → rest ≡ [] → LinksAt s made kind found rest left old all
    → (links_in s made ≡ bound_links s (seen.links_of all)) × (kind ≡ links_kind s left (seen.links_of all)) × (found ≡ noted old (links_faults s left (seen.links_of all)))
links_end s made kind found rest left old all ended at = (
  sym (links_all (map (link_in s) made)) ∙ ap (λ x. links_in_front (map (link_in s) made) (bound_links s (seen.links_of x))) (sym ended) ∙ at.tree_is,
  ap (λ x. links_kind s kind (seen.links_of x)) (sym ended) ∙ at.kind_is,
  ap (λ x. noted found (links_faults s kind (seen.links_of x))) (sym ended) ∙ at.found_is,
)
