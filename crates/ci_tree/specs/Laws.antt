-- Laws of trees.
use Rattle.std.specs.Prelude.{List, All}
use Rattle.ci_tree.specs.Files.{IsFileTree}
use Rattle.ci_tree.specs.Tree.{Item}
use Rattle.ci_tree.specs.Written.{IsWrittenItem}

-- the names, texts and numbers of hashes of a file's tree are those of tokens
abbrev pub FilesAreWritten : Type 0
FilesAreWritten = (tree : List Item) → IsFileTree tree → All IsWrittenItem tree
