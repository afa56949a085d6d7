-- The trees of files.
use Rattle.std.specs.Prelude.{◌≤◌, List, map}
use Rattle.ci_base.specs.declared.bounds.TheConstants.{MOST_TOKENS}
use Rattle.ci_tree.specs.declared.token.Token.{Token}
use Rattle.ci_tree.specs.Grammar.{derives}
use Rattle.ci_tree.specs.Nodes.{nodes}
use Rattle.ci_tree.specs.Tokens.{AreKept}
use Rattle.ci_tree.specs.Tree.{Item}

-- Some tokens spell the tree, each as its kind is spelled. So no more levels are open in it at once than there may be, its
-- names and texts are within their limits, and its nodes are few enough.
pub record IsFileTree (tree : List Item) : Type 0 where
  pub tokens : List Token
  pub kept : AreKept 0 tokens
  pub derived : derives (map (λ (t : Token). t.what) tokens) tree
  pub within : nodes tree ≤ MOST_TOKENS
