-- Trees of written sources: their names, texts and numbers of hashes are those of tokens. So a name is no keyword and short
-- enough, and a text and a number of hashes are within their limits.
use Rattle.std.specs.Prelude.{Option, Some, None, All}
use Rattle.ci_tree.specs.declared.token.TokenKind.TheVariants.{Name, Text, Hashes}
use Rattle.ci_tree.specs.declared.tree.Const.{Const}
use Rattle.ci_tree.specs.declared.tree.Const.TheVariants as const
use Rattle.ci_tree.specs.declared.tree.Param.{Param}
use Rattle.ci_tree.specs.Tokens.{IsKept}
use Rattle.ci_tree.specs.Tree as tree
use Rattle.ci_tree.specs.Tree.{Expr, What, Links, Exprs, Local, Label, Stmt, Other, Clauses, Block, Item}

abbrev mutual
  pub IsWritten : Expr → Type 0
  IsWritten (tree.expr start at what) = IsWrittenWhat what

  pub IsWrittenWhat : What → Type 0
  IsWrittenWhat (tree.number value) = Unit {0}
  IsWrittenWhat (tree.literal text) = IsKept (Text text)
  IsWrittenWhat (tree.name name) = IsKept (Name name)
  IsWrittenWhat (tree.element name index) = IsKept (Name name) × IsWritten index
  IsWrittenWhat (tree.call name args) = IsKept (Name name) × AreWritten args
  IsWrittenWhat (tree.unary minus operand) = IsWritten operand
  IsWrittenWhat (tree.chain first rest) = IsWritten first × AreWrittenLinks rest

  pub AreWrittenLinks : Links → Type 0
  AreWrittenLinks tree.no_link = Unit {0}
  AreWrittenLinks (tree.operand at operator right rest) = IsWritten right × AreWrittenLinks rest
  AreWrittenLinks (tree.hashes at count rest) = IsKept (Hashes count) × AreWrittenLinks rest

  pub AreWritten : Exprs → Type 0
  AreWritten tree.no_expr = Unit {0}
  AreWritten (tree.more first rest) = IsWritten first × AreWritten rest

abbrev pub IsWrittenPart : Option Expr → Type 0
IsWrittenPart None = Unit {0}
IsWrittenPart (Some e) = IsWritten e

abbrev pub IsWrittenLocal : Local → Type 0
IsWrittenLocal l = IsKept (Name l.name) × IsWrittenPart l.value

abbrev pub IsWrittenLabel : Label → Type 0
IsWrittenLabel (tree.one value) = IsWritten value
IsWrittenLabel (tree.range low high) = IsWritten low × IsWritten high
IsWrittenLabel (tree.compared at relation value) = IsWritten value

abbrev mutual
  pub IsWrittenStmt : Stmt → Type 0
  IsWrittenStmt (tree.declare at kind locals) = All IsWrittenLocal locals
  IsWrittenStmt (tree.assign at name index equals value) = IsKept (Name name) × IsWrittenPart index × IsWritten value
  IsWrittenStmt (tree.call_of at name args) = IsKept (Name name) × AreWritten args
  IsWrittenStmt (tree.choose at test body last) = IsWritten test × IsWrittenBlock body × IsWrittenOther last
  IsWrittenStmt (tree.while at test body) = IsWritten test × IsWrittenBlock body
  IsWrittenStmt (tree.for at name_at name first last body) = IsKept (Name name) × IsWritten first × IsWritten last × IsWrittenBlock body
  IsWrittenStmt (tree.select at subject clauses last) = IsWritten subject × AreWrittenClauses clauses × IsWrittenOther last
  IsWrittenStmt (tree.return at value) = IsWrittenPart value

  pub IsWrittenOther : Other → Type 0
  IsWrittenOther tree.no_other = Unit {0}
  IsWrittenOther (tree.other body) = IsWrittenBlock body

  pub AreWrittenClauses : Clauses → Type 0
  AreWrittenClauses tree.no_clause = Unit {0}
  AreWrittenClauses (tree.clause at labels body rest) = All IsWrittenLabel labels × IsWrittenBlock body × AreWrittenClauses rest

  pub IsWrittenBlock : Block → Type 0
  IsWrittenBlock tree.done = Unit {0}
  IsWrittenBlock (tree.then first rest) = IsWrittenStmt first × IsWrittenBlock rest

-- a first value is a number, or a text that a STRING holds
abbrev pub IsShort : Const → Type 0
IsShort (const.Number at value) = Unit {0}
IsShort (const.Literal at text) = IsKept (Text text)

-- a first value, where there is one
abbrev pub IsShortFirst : Option Const → Type 0
IsShortFirst None = Unit {0}
IsShortFirst (Some first) = IsShort first

-- that of a parameter
abbrev pub IsShortParam : Param → Type 0
IsShortParam p = IsShortFirst p.first

-- those of an item
abbrev pub IsShortItem : Item → Type 0
IsShortItem (tree.function at name private gives params body) = All IsShortParam params
IsShortItem (tree.variable at name global kind length first) = IsShortFirst first

-- an item of a written source
abbrev pub IsWrittenItem : Item → Type 0
IsWrittenItem (tree.function at name private gives params body) = IsKept (Name name) × All IsShortParam params × IsWrittenBlock body
IsWrittenItem (tree.variable at name global kind length first) = IsKept (Name name) × IsShortFirst first
