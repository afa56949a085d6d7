-- A source has one tree or one fault.
use Rattle.std.proofs.Common.{◌≡◌, ℕ, List, Option, Some, sym, ◌∙◌, ap, subst}
use Rattle.ci_lexer.specs.Laws.{HasOneList, HasOneFault, NeverBoth}
use Rattle.ci_expressions.specs.Gives.{kinds}
use Rattle.ci_parser.specs.OfGrammar.{TreeOrRefused, OneTree}
use Rattle.ci_source.specs.declared.fault.Fault.{Fault}
use Rattle.ci_source.specs.Sources.{Parses, HasLexicalFault, HasGrammarFault, lexical_fault, grammar_fault}
use Rattle.ci_source.proofs.Options.{some_same, clash}
use Rattle.ci_tree.specs.declared.token.Token.{Token}
use Rattle.ci_tree.specs.Grammar.{derives}
use Rattle.ci_tree.specs.Refused.{Refusal, refused_at}
use Rattle.ci_tree.specs.Tree.{Item}

-- the laws of the lexer and the grammar
pub record Laws : Type 0 where
  pub one_list : HasOneList
  pub one_fault : HasOneFault
  pub never_both : NeverBoth
  pub tree_or_refused : TreeOrRefused
  pub one_tree : OneTree

-- what is told of one thing is one fault at one offset
told_once : (o : Option (Fault × ℕ)) (fault fault' : Fault) (offset offset' : ℕ) → o ≡ Some (fault, offset) → o ≡ Some (fault', offset') → (fault ≡ fault') × (offset ≡ offset')
told_once o fault fault' offset offset' one two =
    let pair : (fault, offset) ≡ (fault', offset') = some_same (fault, offset) (fault', offset') (sym one ∙ two) in
    (ap (λ p. p.0) pair, ap (λ p. p.1) pair)

-- tokens with a tree aren't refused
not_refused : Laws → (ts : List Token) (tree : List Item) (r : Refusal) → derives (kinds ts) tree → refused_at (kinds ts) ≡ Some r → ⊥
not_refused laws ts tree r derived holds = clash r (refused_at (kinds ts)) ((laws.tree_or_refused (kinds ts)).0 (tree, derived)) holds

-- a source has one tree
pub one_parse : Laws → (source : List ℕ) (tree other : List Item) → Parses source tree → Parses source other → tree ≡ other
one_parse laws source tree other one two =
    let P : List Token → Type 0 = λ ts. derives (kinds ts) other in
    laws.one_tree (kinds one.ts) tree other one.derived (subst P (laws.one_list source two.ts one.ts two.tokens_are one.tokens_are) two.derived)

pub grammar-parse : Laws → (source : List ℕ) (fault : Fault) (offset : ℕ) (tree : List Item) → HasGrammarFault source fault offset → Parses source tree → ⊥
grammar-parse laws source fault offset tree one two =
    let P : List Token → Type 0 = λ ts. derives (kinds ts) tree in
    not_refused laws one.ts tree one.refused (subst P (laws.one_list source two.ts one.ts two.tokens_are one.tokens_are) two.derived) one.holds

pub lexical-same : Laws → (source : List ℕ) (fault fault' : Fault) (offset offset' : ℕ) → HasLexicalFault source fault offset → HasLexicalFault source fault' offset' → (fault ≡ fault') × (offset ≡ offset')
lexical-same laws source fault fault' offset offset' one two =
    told_once (lexical_fault one.refused) fault fault' offset offset' one.told (ap lexical_fault (laws.one_fault source one.refused two.refused one.holds two.holds) ∙ two.told)

pub grammar-same : Laws → (source : List ℕ) (fault fault' : Fault) (offset offset' : ℕ) → HasGrammarFault source fault offset → HasGrammarFault source fault' offset' → (fault ≡ fault') × (offset ≡ offset')
grammar-same laws source fault fault' offset offset' one two =
    let tokens_same : one.ts ≡ two.ts = laws.one_list source one.ts two.ts one.tokens_are two.tokens_are in
    let at : List Token → Option Refusal = λ ts. refused_at (kinds ts) in
    let refusals : Some one.refused ≡ Some two.refused = sym one.holds ∙ ap at tokens_same ∙ two.holds in
    let refusal_same : one.refused ≡ two.refused = cc in
    let told : List Token → Option (Fault × ℕ) = λ ts. grammar_fault source ts one.refused in
    told_once (grammar_fault source one.ts one.refused) fault fault' offset offset' one.told
    (ap told tokens_same ∙ ap (grammar_fault source two.ts) refusal_same ∙ two.told)
