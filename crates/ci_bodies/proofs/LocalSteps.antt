-- The locals of a declaration, one by one.
use Rattle.std.proofs.Common.{◌≡◌, List, [], ◌∷◌, ◌++◌, map, Option, sym, ap, ◌∙◌}
use Rattle.ci_base.specs.declared.value.Kind.{Kind}
use Rattle.ci_tree.specs.Bound as to
use Rattle.ci_tree.specs.Seen.{local_of}
use Rattle.ci_tree.specs.declared.tree.LocalAt as code
use Rattle.ci_tree.specs.declared.bound.Stmt as code_bound
use Rattle.ci_names.specs.declared.fault.Fault.{Fault}
use Rattle.ci_names.specs.Fault.{noted}
use Rattle.ci_names.specs.Scopes.{Scope, with_locals, declared_local}
use Rattle.ci_names.specs.Statements.{local_name, maybe, part_faults, locals_faults}
use Rattle.ci_names.specs.Binding.{set_before, locals_before}
use Rattle.ci_bodies.specs.InFront.{stmts_in_front}
use Rattle.ci_bodies.specs.Made.{stmt_in}
use Rattle.ci_bodies.proofs.Noted.{noted_append}
use Rattle.ci_bodies.proofs.Scopes.{with_none, with_more}

-- The loop has come to these locals: what it made, found and declared so far, with theirs, is that of all.
abbrev pub LocalsAt : Scope → List code_bound.Stmt → Option Fault → Kind → List code.LocalAt → Scope → List code_bound.Stmt → Option Fault → List code.LocalAt → Type 0
LocalsAt s made found kind rest first before old all = record {
  tree_is : (behind : to.Block) → stmts_in_front (map (stmt_in s) made) (locals_before s kind (map local_of rest) behind) ≡ stmts_in_front (map (stmt_in first) before) (locals_before first kind (map local_of all) behind);
  found_is : noted found (locals_faults s kind (map local_of rest)) ≡ noted old (locals_faults first kind (map local_of all));
  scope_is : with_locals s (map (declared_local kind) (map local_of rest)) ≡ with_locals first (map (declared_local kind) (map local_of all));
}

-- one more
pub locals_more : (s t : Scope) (made more : List code_bound.Stmt) (found new : Option Fault) (kind : Kind) (rest behind : List code.LocalAt) (l : code.LocalAt) (first : Scope) (before : List code_bound.Stmt) (old : Option Fault) (all : List code.LocalAt)
    → ((b : to.Block) → stmts_in_front (map (stmt_in s) more) b ≡ stmts_in_front (map (stmt_in s) made) (set_before s (local_of l).at (local_of l).value b))
    → new ≡ noted found (local_name s (local_of l).at (local_of l).name ++ maybe (part_faults s kind) (local_of l).value)
    → t ≡ with_locals s (declared_local kind (local_of l) ∷ []) → rest ≡ l ∷ behind
    → LocalsAt s made found kind rest first before old all → LocalsAt t more new kind behind first before old all
locals_more s t made more found new kind rest behind l first before old all tree is_found is_scope splits at = record {
  tree_is = λ b.
      ap (λ x. stmts_in_front (map (stmt_in x) more) (locals_before t kind (map local_of behind) b)) is_scope
      ∙ tree (locals_before t kind (map local_of behind) b)
      ∙ ap (λ x. stmts_in_front (map (stmt_in s) made) (set_before s (local_of l).at (local_of l).value (locals_before x kind (map local_of behind) b))) is_scope
      ∙ ap (λ x. stmts_in_front (map (stmt_in s) made) (locals_before s kind (map local_of x) b)) (sym splits)
      ∙ at.tree_is b;
  found_is =
      ap (λ x. noted x (locals_faults t kind (map local_of behind))) is_found
      ∙ ap (λ x. noted (noted found (local_name s (local_of l).at (local_of l).name ++ maybe (part_faults s kind) (local_of l).value)) (locals_faults x kind (map local_of behind))) is_scope
      ∙ sym (noted_append found (local_name s (local_of l).at (local_of l).name ++ maybe (part_faults s kind) (local_of l).value) (locals_faults (with_locals s (declared_local kind (local_of l) ∷ [])) kind (map local_of behind)))
      ∙ ap (λ x. noted found (locals_faults s kind (map local_of x))) (sym splits)
      ∙ at.found_is;
  scope_is =
      ap (λ x. with_locals x (map (declared_local kind) (map local_of behind))) is_scope
      ∙ with_more s (declared_local kind (local_of l) ∷ []) (map (declared_local kind) (map local_of behind))
      ∙ ap (λ x. with_locals s (map (declared_local kind) (map local_of x))) (sym splits)
      ∙ at.scope_is;
}

-- all were read
pub locals_end : (s : Scope) (made : List code_bound.Stmt) (found : Option Fault) (kind : Kind) (rest : List code.LocalAt) (first : Scope) (before : List code_bound.Stmt) (old : Option Fault) (all : List code.LocalAt)
    → rest ≡ [] → LocalsAt s made found kind rest first before old all
    → ((b : to.Block) → stmts_in_front (map (stmt_in first) made) b ≡ stmts_in_front (map (stmt_in first) before) (locals_before first kind (map local_of all) b))
    × (found ≡ noted old (locals_faults first kind (map local_of all))) × (s ≡ with_locals first (map (declared_local kind) (map local_of all)))
locals_end s made found kind rest first before old all ended at =
    let left = sym (with_none s) ∙ ap (λ x. with_locals s (map (declared_local kind) (map local_of x))) (sym ended) ∙ at.scope_is in (
      λ b. sym (ap (λ t. stmts_in_front (map (stmt_in t) made) b) left) ∙ ap (λ x. stmts_in_front (map (stmt_in s) made) (locals_before s kind (map local_of x) b)) (sym ended) ∙ at.tree_is b,
      ap (λ x. noted found (locals_faults s kind (map local_of x))) (sym ended) ∙ at.found_is,
      left,
    )
