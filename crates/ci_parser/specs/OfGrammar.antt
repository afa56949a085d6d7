-- Laws of the grammar and the first refused token.
use Rattle.std.specs.Prelude.{◌≡◌, ◌≤◌, ◌↔◌, List, length, None}
use Rattle.ci_tree.specs.Tree.{Item}
use Rattle.ci_tree.specs.Grammar.{Tokens, derives}
use Rattle.ci_tree.specs.Nodes.{nodes}
use Rattle.ci_tree.specs.Refused.{refused_at}

-- Tokens have a tree exactly where none of them is refused.
abbrev pub TreeOrRefused : Type 0
TreeOrRefused = (tokens : Tokens) → (((tree : List Item) × derives tokens tree) ↔ (refused_at tokens ≡ None))

-- Tokens have at most one tree.
abbrev pub OneTree : Type 0
OneTree = (tokens : Tokens) (one other : List Item) → derives tokens one → derives tokens other → one ≡ other

-- Each node of a tree has a token of its own, so there are no more nodes than tokens.
abbrev pub TokenForEachNode : Type 0
TokenForEachNode = (tokens : Tokens) (tree : List Item) → derives tokens tree → nodes tree ≤ length tokens
