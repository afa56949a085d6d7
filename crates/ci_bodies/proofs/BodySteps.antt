-- The statements of a body, and the clauses of SELECT, one by one.
use Rattle.std.proofs.Common.{◌≡◌, List, [], ◌∷◌, ◌++◌, map, Option, sym, ap, ◌∙◌}
use Rattle.ci_base.specs.declared.value.Kind.{Kind}
use Rattle.ci_tree.specs.Bound as to
use Rattle.ci_tree.specs.Seen as seen
use Rattle.ci_tree.specs.declared.tree.Stmt as code
use Rattle.ci_tree.specs.declared.tree.Clause as code_clause
use Rattle.ci_tree.specs.declared.bound.Stmt as made_stmt
use Rattle.ci_tree.specs.declared.bound.Clause as made_clause
use Rattle.ci_names.specs.declared.fault.Fault.{Fault}
use Rattle.ci_names.specs.Fault.{noted}
use Rattle.ci_names.specs.Scopes.{Scope, with_locals, locals_in, locals_in_block, locals_in_clauses}
use Rattle.ci_names.specs.Statements.{stmt_faults, block_faults, labels_faults, clauses_faults}
use Rattle.ci_names.specs.Binding.{heads_in, bound_before, bound_block, bound_label, bound_clauses}
use Rattle.ci_bodies.specs.InFront.{stmts_in_front, clauses_in_front}
use Rattle.ci_bodies.specs.Made.{stmt_in, block_in, clause_in, clauses_in}
use Rattle.ci_bodies.proofs.InFront.{stmts_all, clauses_pushed, clauses_all}
use Rattle.ci_bodies.proofs.Noted.{noted_append}
use Rattle.ci_bodies.proofs.Scopes.{with_none, with_more}

-- The loop has come to these statements: what it made, found and declared so far, with theirs, is that of all.
abbrev pub BodyAt : Scope → List made_stmt.Stmt → Option Fault → List code.Stmt → Scope → Option Fault → List code.Stmt → Type 0
BodyAt s made found rest first old all = record {
  tree_is : stmts_in_front (map (stmt_in s) made) (bound_block s (seen.block_of rest)) ≡ bound_block first (seen.block_of all);
  found_is : noted found (block_faults s (seen.block_of rest)) ≡ noted old (block_faults first (seen.block_of all));
  scope_is : with_locals s (locals_in_block (seen.block_of rest)) ≡ with_locals first (locals_in_block (seen.block_of all));
}

-- one more
pub body_more : (s t : Scope) (made more : List made_stmt.Stmt) (found new : Option Fault) (rest behind : List code.Stmt) (x : code.Stmt) (first : Scope) (old : Option Fault) (all : List code.Stmt)
    → ((b : to.Block) → stmts_in_front (map (stmt_in s) more) b ≡ stmts_in_front (map (stmt_in s) made) (bound_before s (seen.stmt_of x) b))
    → new ≡ noted found (stmt_faults s (seen.stmt_of x)) → t ≡ with_locals s (locals_in (seen.stmt_of x)) → rest ≡ x ∷ behind
    → BodyAt s made found rest first old all → BodyAt t more new behind first old all
body_more s t made more found new rest behind x first old all tree is_found is_scope splits at = record {
  tree_is =
      ap (λ y. stmts_in_front (map (stmt_in y) more) (bound_block t (seen.block_of behind))) is_scope
      ∙ tree (bound_block t (seen.block_of behind))
      ∙ ap (λ y. stmts_in_front (map (stmt_in s) made) (bound_before s (seen.stmt_of x) (bound_block y (seen.block_of behind)))) is_scope
      ∙ ap (λ y. stmts_in_front (map (stmt_in s) made) (bound_block s (seen.block_of y))) (sym splits)
      ∙ at.tree_is;
  found_is =
      ap (λ y. noted y (block_faults t (seen.block_of behind))) is_found
      ∙ ap (λ y. noted (noted found (stmt_faults s (seen.stmt_of x))) (block_faults y (seen.block_of behind))) is_scope
      ∙ sym (noted_append found (stmt_faults s (seen.stmt_of x)) (block_faults (with_locals s (locals_in (seen.stmt_of x))) (seen.block_of behind)))
      ∙ ap (λ y. noted found (block_faults s (seen.block_of y))) (sym splits)
      ∙ at.found_is;
  scope_is =
      ap (λ y. with_locals y (locals_in_block (seen.block_of behind))) is_scope
      ∙ with_more s (locals_in (seen.stmt_of x)) (locals_in_block (seen.block_of behind))
      ∙ ap (λ y. with_locals s (locals_in_block (seen.block_of y))) (sym splits)
      ∙ at.scope_is;
}

-- all were read
pub body_end : (s : Scope) (made : List made_stmt.Stmt) (found : Option Fault) (rest : List code.Stmt) (first : Scope) (old : Option Fault) (all : List code.Stmt)
    → rest ≡ [] → BodyAt s made found rest first old all
    → (block_in first made ≡ bound_block first (seen.block_of all)) × (found ≡ noted old (block_faults first (seen.block_of all))) × (s ≡ with_locals first (locals_in_block (seen.block_of all)))
body_end s made found rest first old all ended at =
    let left = sym (with_none s) ∙ ap (λ y. with_locals s (locals_in_block (seen.block_of y))) (sym ended) ∙ at.scope_is in (
      sym (ap (λ t. block_in t made) left) ∙ sym (stmts_all (map (stmt_in s) made)) ∙ ap (λ y. stmts_in_front (map (stmt_in s) made) (bound_block s (seen.block_of y))) (sym ended) ∙ at.tree_is,
      ap (λ y. noted found (block_faults s (seen.block_of y))) (sym ended) ∙ at.found_is,
      left,
    )

-- The loop has come to these clauses: what it made, found and declared so far, with theirs, is that of all.
abbrev pub ClausesAt : Scope → Option Kind → List made_clause.Clause → Option Fault → List code_clause.Clause → Scope → Option Fault → List code_clause.Clause → Type 0
ClausesAt s subject made found rest first old all = record {
  tree_is : clauses_in_front (map (clause_in s) made) (bound_clauses s (seen.clauses_of rest)) ≡ bound_clauses first (seen.clauses_of all);
  found_is : noted found (clauses_faults s subject (seen.clauses_of rest)) ≡ noted old (clauses_faults first subject (seen.clauses_of all));
  scope_is : with_locals s (locals_in_clauses (seen.clauses_of rest)) ≡ with_locals first (locals_in_clauses (seen.clauses_of all));
}

-- one more
pub clauses_more : (s t : Scope) (subject : Option Kind) (made more : List made_clause.Clause) (one : made_clause.Clause) (found new : Option Fault) (rest behind : List code_clause.Clause) (x : code_clause.Clause) (first : Scope) (old : Option Fault) (all : List code_clause.Clause)
    → more ≡ made ++ one ∷ [] → (clause_in s one).labels ≡ map (bound_label s) (seen.clause_of x).labels → (clause_in s one).body ≡ bound_block s (seen.clause_of x).body
    → new ≡ noted found (labels_faults s subject (seen.clause_of x).labels ++ block_faults s (seen.clause_of x).body) → t ≡ with_locals s (locals_in_block (seen.clause_of x).body) → rest ≡ x ∷ behind
    → ClausesAt s subject made found rest first old all → ClausesAt t subject more new behind first old all
clauses_more s t subject made more one found new rest behind x first old all pushed labels body is_found is_scope splits at =
    let c = seen.clause_of x in
    let front = clauses_in_front (map (clause_in s) made) in
    record {
      tree_is =
          ap (λ y. clauses_in_front (map (clause_in y) more) (bound_clauses t (seen.clauses_of behind))) is_scope
          ∙ clauses_pushed (heads_in s.declared) made more one (bound_clauses t (seen.clauses_of behind)) pushed
          ∙ ap (λ y. front (to.clause y (clause_in s one).body (bound_clauses t (seen.clauses_of behind)))) labels
          ∙ ap (λ y. front (to.clause (map (bound_label s) c.labels) y (bound_clauses t (seen.clauses_of behind)))) body
          ∙ ap (λ y. front (to.clause (map (bound_label s) c.labels) (bound_block s c.body) (bound_clauses y (seen.clauses_of behind)))) is_scope
          ∙ ap (λ y. front (bound_clauses s (seen.clauses_of y))) (sym splits)
          ∙ at.tree_is;
      found_is =
          ap (λ y. noted y (clauses_faults t subject (seen.clauses_of behind))) is_found
          ∙ ap (λ y. noted (noted found (labels_faults s subject c.labels ++ block_faults s c.body)) (clauses_faults y subject (seen.clauses_of behind))) is_scope
          ∙ sym (noted_append found (labels_faults s subject c.labels ++ block_faults s c.body) (clauses_faults (with_locals s (locals_in_block c.body)) subject (seen.clauses_of behind)))
          ∙ ap (λ y. noted found (clauses_faults s subject (seen.clauses_of y))) (sym splits)
          ∙ at.found_is;
      scope_is =
          ap (λ y. with_locals y (locals_in_clauses (seen.clauses_of behind))) is_scope
          ∙ with_more s (locals_in_block c.body) (locals_in_clauses (seen.clauses_of behind))
          ∙ ap (λ y. with_locals s (locals_in_clauses (seen.clauses_of y))) (sym splits)
          ∙ at.scope_is;
    }

-- all were read
pub clauses_end : (s : Scope) (subject : Option Kind) (made : List made_clause.Clause) (found : Option Fault) (rest : List code_clause.Clause) (first : Scope) (old : Option Fault) (all : List code_clause.Clause)
    → rest ≡ [] → ClausesAt s subject made found rest first old all
    → (clauses_in first made ≡ bound_clauses first (seen.clauses_of all)) × (found ≡ noted old (clauses_faults first subject (seen.clauses_of all))) × (s ≡ with_locals first (locals_in_clauses (seen.clauses_of all)))
clauses_end s subject made found rest first old all ended at =
    let left = sym (with_none s) ∙ ap (λ y. with_locals s (locals_in_clauses (seen.clauses_of y))) (sym ended) ∙ at.scope_is in (
      sym (ap (λ t. clauses_in t made) left) ∙ sym (clauses_all (map (clause_in s) made)) ∙ ap (λ y. clauses_in_front (map (clause_in s) made) (bound_clauses s (seen.clauses_of y))) (sym ended) ∙ at.tree_is,
      ap (λ y. noted found (clauses_faults s subject (seen.clauses_of y))) (sym ended) ∙ at.found_is,
      left,
    )
