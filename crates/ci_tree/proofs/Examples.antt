-- Examples: what is refused, and which tree is derived.
use Rattle.std.proofs.Common.{◌≡◌, ℕ, zero, suc, [], ◌∷◌, Some, None, refl}
use Rattle.std.specs.Prelude.{pos, false}
use Rattle.ci_tree.specs.declared.token.TokenKind.{TokenKind}
use Rattle.ci_tree.specs.declared.token.TokenKind.TheVariants.{Name, Keyword, Number, Text, Sign}
use Rattle.ci_tree.specs.declared.token.Keyword.TheVariants as words
use Rattle.ci_tree.specs.declared.token.Sign.TheVariants as mark
use Rattle.ci_tree.specs.declared.tree.Operator.TheVariants as operator
use Rattle.ci_tree.specs.Tree as to
use Rattle.ci_tree.specs.Grammar as said
use Rattle.ci_tree.specs.Grammar.{Tokens, derives, tree_level}
use Rattle.ci_tree.specs.Refused.{refused_at, unexpected, unexpected_end, too_deep}

-- FUNCTION main ( )
abbrev begun : Tokens → Tokens
begun k = Keyword words.Function ∷ Name (1 ∷ []) ∷ Sign mark.LeftParen ∷ Sign mark.RightParen ∷ k

-- n tokens of a kind
abbrev times : ℕ → TokenKind → Tokens → Tokens
times zero t k = k
times (suc n) t k = t ∷ times n t k

-- a call that stands before END with no `;`
call_open : refused_at (begun (Name (2 ∷ []) ∷ Sign mark.LeftParen ∷ Text (3 ∷ []) ∷ Sign mark.RightParen ∷ Keyword words.End ∷ [])) ≡ Some (unexpected 8)
call_open = refl

-- the same with a `;`, and one alone before it
call_closed : refused_at (begun (Sign mark.Semicolon ∷ Name (2 ∷ []) ∷ Sign mark.LeftParen ∷ Text (3 ∷ []) ∷ Sign mark.RightParen ∷ Sign mark.Semicolon ∷ Keyword words.End ∷ [])) ≡ None
call_closed = refl

-- a Unary alone, as an expression
abbrev plainly : said.Unary → said.Level
plainly u = said.group (said.group (said.group (said.group (said.group (said.group (said.group (said.group (said.single u) said.no_rest) said.no_rest) said.no_rest) said.no_rest) said.no_rest) said.no_rest) said.no_rest) said.no_rest

-- its tree
call_tree : derives (begun (Sign mark.Semicolon ∷ Name (2 ∷ []) ∷ Sign mark.LeftParen ∷ Text (3 ∷ []) ∷ Sign mark.RightParen ∷ Sign mark.Semicolon ∷ Keyword words.End ∷ []))
    (to.function 1 (1 ∷ []) false None [] (to.then (to.call_of 5 (2 ∷ []) (to.more (to.expr 7 7 (to.literal (3 ∷ []))) to.no_expr)) to.done) ∷ [])
call_tree = record {
  file = said.plain_function (said.function (1 ∷ []) said.no_parameters (said.then said.empty (said.then (said.call_of (2 ∷ []) (said.args (plainly (said.text (3 ∷ []))) said.no_more_args)) said.end))) ∷ [];
  within = ((tt, ((((((((((tt, tt), tt), tt), tt), tt), tt), tt), tt), tt), tt)), tt);
  spelled = refl;
  means = refl;
}

-- a chain of two operators is grouped from the left, and ends where a looser one begins
chain_tree : tree_level 0 (said.group (said.group (said.group (said.group (said.group (said.group (said.group (said.group (said.single (said.name (1 ∷ []))) said.no_rest) said.no_rest) (said.joined operator.Minus (said.group (said.group (said.single (said.name (2 ∷ []))) said.no_rest) said.no_rest) (said.joined operator.Plus (said.group (said.group (said.single (said.number (pos 3))) said.no_rest) said.no_rest) said.no_rest))) said.no_rest) said.no_rest) said.no_rest) said.no_rest) said.no_rest)
    ≡ to.expr 0 1 (to.chain (to.expr 0 0 (to.name (1 ∷ []))) (to.operand 1 operator.Minus (to.expr 2 2 (to.name (2 ∷ []))) (to.operand 3 operator.Plus (to.expr 4 4 (to.number (pos 3))) to.no_link)))
chain_tree = refl

-- INT x ; x = and then
abbrev assigned : Tokens → Tokens
assigned k = begun (Keyword words.Int ∷ Name (1 ∷ []) ∷ Sign mark.Semicolon ∷ Name (1 ∷ []) ∷ Sign mark.Equal ∷ k)

-- 32 parentheses, and 33
parens_enough : refused_at (assigned (times 32 (Sign mark.LeftParen) (Number (pos 1) ∷ times 32 (Sign mark.RightParen) (Sign mark.Semicolon ∷ Keyword words.End ∷ [])))) ≡ None
parens_enough = refl

parens_too_many : refused_at (assigned (times 33 (Sign mark.LeftParen) (Number (pos 1) ∷ times 33 (Sign mark.RightParen) (Sign mark.Semicolon ∷ Keyword words.End ∷ [])))) ≡ Some (too_deep 41)
parens_too_many = refl

-- 33 unary operators
minus_too_many : refused_at (assigned (times 33 (Sign mark.Minus) (Number (pos 1) ∷ Sign mark.Semicolon ∷ Keyword words.End ∷ []))) ≡ Some (too_deep 41)
minus_too_many = refl

-- an IF that is not ended
if_open : refused_at (begun (Keyword words.If ∷ Number (pos 1) ∷ Keyword words.Then ∷ [])) ≡ Some unexpected_end
if_open = refl

-- SELECT with no clause, and with CASE ELSE alone
select_empty : refused_at (begun (Keyword words.Select ∷ Keyword words.Case ∷ Number (pos 1) ∷ Keyword words.End ∷ Keyword words.Select ∷ Keyword words.End ∷ [])) ≡ None
select_empty = refl

select_else : refused_at (begun (Keyword words.Select ∷ Keyword words.Case ∷ Number (pos 1) ∷ Keyword words.Case ∷ Keyword words.Else ∷ Keyword words.End ∷ Keyword words.Select ∷ Keyword words.End ∷ [])) ≡ None
select_else = refl

-- END SELECT without its SELECT
select_short : refused_at (begun (Keyword words.Select ∷ Keyword words.Case ∷ Number (pos 1) ∷ Keyword words.End ∷ Keyword words.End ∷ [])) ≡ Some (unexpected 8)
select_short = refl

-- a word that begins no item
no_item : refused_at (Keyword words.End ∷ []) ≡ Some (unexpected 0)
no_item = refl
