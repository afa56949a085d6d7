-- A statement that was made, behind others.
use Rattle.std.proofs.Common.{◌≡◌, List, [], ◌∷◌, ◌++◌, map, Option, sym, ap, ◌∙◌}
use Rattle.ci_tree.specs.declared.bound.Stmt as code
use Rattle.ci_tree.specs.Tree as from
use Rattle.ci_tree.specs.Bound as to
use Rattle.ci_names.specs.Scopes.{Scope, Local, with_locals}
use Rattle.ci_names.specs.Binding.{heads_in, bound_before, bound_other, bound_last}
use Rattle.ci_bodies.specs.InFront.{stmts_in_front}
use Rattle.ci_bodies.specs.Made.{stmt_in, block_in, other_in}
use Rattle.ci_bodies.specs.Walk.{StandsBehind}
use Rattle.ci_bodies.proofs.InFront.{stmts_pushed}

-- it was added
pub added : (s : Scope) (stmt given : from.Stmt) (old new : List code.Stmt) (one : code.Stmt) (made : to.Stmt) → stmt ≡ given → new ≡ old ++ one ∷ [] → stmt_in s one ≡ made
    → ((rest : to.Block) → bound_before s given rest ≡ to.then made rest) → StandsBehind s stmt old new
added s stmt given old new one made seen pushed is before = λ rest.
    stmts_pushed (heads_in s.declared) old new one rest pushed
    ∙ ap (λ x. stmts_in_front (map (stmt_in s) old) (to.then x rest)) is
    ∙ ap (stmts_in_front (map (stmt_in s) old)) (sym (before rest) ∙ ap (λ x. bound_before s x rest) (sym seen))

-- the part behind ELSE, which stands behind locals
pub other_behind : (s t : Scope) (ls : List Local) (made : Option (List code.Stmt)) (last : from.Other) → t ≡ with_locals s ls → other_in t made ≡ bound_other t last → other_in s made ≡ bound_other (with_locals s ls) last
other_behind s t ls made last scope is = sym (ap (λ x. other_in x made) scope) ∙ is ∙ ap (λ x. bound_other x last) scope

-- that of SELECT
pub last_behind : (s t : Scope) (ls : List Local) (made : List code.Stmt) (last : from.Other) → t ≡ with_locals s ls → block_in t made ≡ bound_last t last → block_in s made ≡ bound_last (with_locals s ls) last
last_behind s t ls made last scope is = sym (ap (λ x. block_in x made) scope) ∙ is ∙ ap (λ x. bound_last x last) scope
