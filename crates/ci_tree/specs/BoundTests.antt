-- Tests of what stands in a part of a bound project, wherever it stands there: its texts, its numbers of hashes, and what it
-- calls.
use Rattle.std.specs.Prelude.{ℕ, Bool, true, false, ◌&&◌, nat_le, List, length}
use Rattle.std.specs.List.{list_all}
use Rattle.ci_base.specs.declared.bounds.TheConstants.{MOST_TEXT_BYTES, MOST_HASHES}
use Rattle.ci_base.specs.declared.function.SharedName.{SharedName}
use Rattle.ci_base.specs.declared.function.SharedName.TheVariants as requests
use Rattle.ci_tree.specs.Bound as to
use Rattle.ci_tree.specs.Bound.{Callee, Expr, Call, Links, Exprs, Label, Stmt, Other, Clauses, Block}

-- a test of texts, of numbers of hashes, and of what is called; QueRead with its two scalars isn't asked
pub record Test : Type 0 where
  pub literal : List ℕ → Bool
  pub hashes : ℕ → Bool
  pub callee : Callee → Bool

abbrev mutual
  pub expr_passes : Test → Expr → Bool
  expr_passes t (to.number value) = true
  expr_passes t (to.literal text) = t.literal text
  expr_passes t (to.scalar of) = true
  expr_passes t (to.element a index) = expr_passes t index
  expr_passes t (to.called what) = call_passes t what
  expr_passes t (to.unary minus operand) = expr_passes t operand
  expr_passes t (to.chain first rest) = expr_passes t first && links_pass t rest

  pub call_passes : Test → Call → Bool
  call_passes t (to.call callee given args) = t.callee callee && exprs_pass t args
  call_passes t (to.que_read queue sort text mode) = expr_passes t queue && expr_passes t mode

  pub links_pass : Test → Links → Bool
  links_pass t to.no_link = true
  links_pass t (to.operand operator right rest) = expr_passes t right && links_pass t rest
  links_pass t (to.hashes count rest) = t.hashes count && links_pass t rest

  pub exprs_pass : Test → Exprs → Bool
  exprs_pass t to.no_expr = true
  exprs_pass t (to.more first rest) = expr_passes t first && exprs_pass t rest

abbrev pub label_passes : Test → Label → Bool
label_passes t (to.one value) = expr_passes t value
label_passes t (to.range low high) = expr_passes t low && expr_passes t high
label_passes t (to.compared relation value) = expr_passes t value

abbrev mutual
  pub stmt_passes : Test → Stmt → Bool
  stmt_passes t (to.assign at target value) = expr_passes t value
  stmt_passes t (to.assign_element at a index value) = expr_passes t index && expr_passes t value
  stmt_passes t (to.call_of at what) = call_passes t what
  stmt_passes t (to.choose at test body last) = expr_passes t test && block_passes t body && other_passes t last
  stmt_passes t (to.while at test body) = expr_passes t test && block_passes t body
  stmt_passes t (to.for at counter first last body) = expr_passes t first && expr_passes t last && block_passes t body
  stmt_passes t (to.select at subject clauses last) = expr_passes t subject && clauses_pass t clauses && block_passes t last
  stmt_passes t (to.return at value) = expr_passes t value

  pub other_passes : Test → Other → Bool
  other_passes t to.no_other = true
  other_passes t (to.other body) = block_passes t body

  pub clauses_pass : Test → Clauses → Bool
  clauses_pass t to.no_clause = true
  clauses_pass t (to.clause labels body rest) = list_all (label_passes t) labels && block_passes t body && clauses_pass t rest

  pub block_passes : Test → Block → Bool
  block_passes t to.done = true
  block_passes t (to.then first rest) = stmt_passes t first && block_passes t rest

-- each text is one that a STRING holds
abbrev pub texts_fit : Test
texts_fit = record { literal = λ text. nat_le (length text) MOST_TEXT_BYTES; hashes = λ count. true; callee = λ callee. true }

-- each format has a width that a token of hashes has
abbrev pub formats_fit : Test
formats_fit = record { literal = λ text. true; hashes = λ count. nat_le 1 count && nat_le count MOST_HASHES; callee = λ callee. true }

abbrev pub is_not_read : SharedName → Bool
is_not_read requests.QueRead = false
is_not_read _ = true

abbrev pub is_plain : Callee → Bool
is_plain (to.function f) = true
is_plain (to.private p) = true
is_plain (to.shared q) = is_not_read q

-- QueRead is called with the scalars that it sets, and in no other way
abbrev pub reads_set : Test
reads_set = record { literal = λ text. true; hashes = λ count. true; callee = is_plain }
