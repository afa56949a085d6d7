-- Sources have one project or one first fault.
use Rattle.std.proofs.Common.{◌≡◌, ℕ, zero, suc, ◌<◌, List, [], ◌∷◌, take, Some, None, sym, ◌∙◌, ap, subst, arith, inl, inr}
use Rattle.std.specs.Prelude.{All, slice_get, ◌⊎◌}
use Rattle.std.proofs.lemmas.Bool.{cases_order}
use Rattle.std.proofs.lemmas.List.Elements.{All-head, All-tail, All-get_or}
use Rattle.std.proofs.lemmas.Option.{slice_get_within, get_or_from_slice_get}
use Rattle.ci_names.specs.Binding.{bound}
use Rattle.ci_names.specs.Faults.{first_fault}
use Rattle.ci_source.specs.declared.fault.Fault.{Fault}
use Rattle.ci_source.specs.Compiling.{parse_to, compiles, token_offset, HasTokens, HasTree, HasFirstLexicalFault, HasFirstGrammarFault, HasFirstNameFault, HasFirstFault}
use Rattle.ci_source.specs.Faults.{name_fault}
use Rattle.ci_source.specs.Sources.{Parses, HasLexicalFault, HasGrammarFault}
use Rattle.ci_source.proofs.OneFault.{Laws, one_parse, grammar-parse, lexical-same, grammar-same}
use Rattle.ci_source.proofs.Options.{some_clash, some_same, clash}
use Rattle.ci_source.proofs.Zipped.{zipped_at, zipped_same}
use Rattle.ci_tree.specs.Bound.{Project}
use Rattle.ci_tree.specs.Tokens.{tokens}
use Rattle.ci_tree.specs.Tree.{Item}

-- Places of lists

before_at : {A : Type 0} (P : A → Type 0) (xs : List A) (i j : ℕ) (x : A) → slice_get xs i ≡ Some x → i < j → All P (take j xs) → P x
before_at P [] i j x is within all = absurd (some_clash x is)
before_at P (y ∷ xs) i zero x is within all = absurd (omega arith)
before_at {A} P (y ∷ xs) zero (suc j) x is within all = subst P (some_same y x is) (All-head P y (take j xs) all)
before_at P (y ∷ xs) (suc i) (suc j) x is within all = before_at P xs i j x is (omega arith) (All-tail P y (take j xs) all)

all_at : {A : Type 0} (P : A → Type 0) (xs : List A) (i : ℕ) (x : A) → slice_get xs i ≡ Some x → All P xs → P x
all_at P xs i x is all = subst P (get_or_from_slice_get xs i x x is) (All-get_or P xs i x (slice_get_within xs i x is) all)

-- the first that has no P stands at one place
one_place : {A : Type 0} (P : A → Type 0) (xs : List A) (i j : ℕ) (x y : A) → slice_get xs i ≡ Some x → slice_get xs j ≡ Some y → All P (take i xs) → All P (take j xs) → (P x → ⊥) → (P y → ⊥) → i ≡ j
one_place P xs i j x y one two before_one before_two no_one no_two = at (cases_order i j) where
  at : (i ≡ j) ⊎ ((i < j) ⊎ (j < i)) → i ≡ j
  at (inl same) = same
  at (inr (inl below)) = absurd (no_one (before_at P xs i j x one below before_two))
  at (inr (inr above)) = absurd (no_two (before_at P xs j i y two above before_one))

same_source : (sources : List (List ℕ)) (i j : ℕ) (s t : List ℕ) → i ≡ j → slice_get sources i ≡ Some s → slice_get sources j ≡ Some t → s ≡ t
same_source sources i j s t same one two = some_same s t (sym one ∙ ap (slice_get sources) same ∙ two)

-- Two faults

abbrev AreSame : ℕ → ℕ → Fault → Fault → ℕ → ℕ → Type 0
AreSame file file' fault fault' offset offset' = (file ≡ file') × (fault ≡ fault') × (offset ≡ offset')

-- a source with a lexical fault has no tokens
lexical-tokens : Laws → (source : List ℕ) (fault : Fault) (offset : ℕ) → HasLexicalFault source fault offset → HasTokens source → ⊥
lexical-tokens laws source fault offset one two = laws.never_both source two.0 one.refused two.1 one.holds

grammar-tree : Laws → (source : List ℕ) (fault : Fault) (offset : ℕ) → HasGrammarFault source fault offset → HasTree source → ⊥
grammar-tree laws source fault offset one two = grammar-parse laws source fault offset two.0 one two.1

-- each of the sources has a tree
tree_at : (sources : List (List ℕ)) (trees : List (List Item)) (i : ℕ) (source : List ℕ) → parse_to sources trees → slice_get sources i ≡ Some source → HasTree source
tree_at sources trees i source parsed is =
    let at : (tree : List Item) × (slice_get trees i ≡ Some tree) × Parses source tree = zipped_at Parses sources trees i source parsed is in
    (at.0, at.2)

lexical-lexical : Laws → (sources : List (List ℕ)) (file file' : ℕ) (fault fault' : Fault) (offset offset' : ℕ) → HasFirstLexicalFault sources file fault offset → HasFirstLexicalFault sources file' fault' offset'
    → AreSame file file' fault fault' offset offset'
lexical-lexical laws sources file file' fault fault' offset offset' one two =
    let place : file ≡ file' =
    one_place HasTokens sources file file' one.source two.source one.numbered two.numbered one.before two.before (lexical-tokens laws one.source fault offset one.refused)
    (lexical-tokens laws two.source fault' offset' two.refused) in
    let P : List ℕ → Type 0 = λ source. HasLexicalFault source fault offset in
    let same : (fault ≡ fault') × (offset ≡ offset') =
    lexical-same laws two.source fault fault' offset offset' (subst P (same_source sources file file' one.source two.source place one.numbered two.numbered) one.refused) two.refused in
    (place, same.0, same.1)

grammar-grammar : Laws → (sources : List (List ℕ)) (file file' : ℕ) (fault fault' : Fault) (offset offset' : ℕ) → HasFirstGrammarFault sources file fault offset → HasFirstGrammarFault sources file' fault' offset'
    → AreSame file file' fault fault' offset offset'
grammar-grammar laws sources file file' fault fault' offset offset' one two =
    let place : file ≡ file' =
    one_place HasTree sources file file' one.source two.source one.numbered two.numbered one.before two.before (grammar-tree laws one.source fault offset one.refused)
    (grammar-tree laws two.source fault' offset' two.refused) in
    let P : List ℕ → Type 0 = λ source. HasGrammarFault source fault offset in
    let same : (fault ≡ fault') × (offset ≡ offset') =
    grammar-same laws two.source fault fault' offset offset' (subst P (same_source sources file file' one.source two.source place one.numbered two.numbered) one.refused) two.refused in
    (place, same.0, same.1)

-- the sources have one list of trees
pub one_trees : Laws → (sources : List (List ℕ)) (trees trees' : List (List Item)) → parse_to sources trees → parse_to sources trees' → trees ≡ trees'
one_trees laws sources trees trees' one two = zipped_same Parses (one_parse laws) sources trees trees' one two

names-names : Laws → (sources : List (List ℕ)) (file file' : ℕ) (fault fault' : Fault) (offset offset' : ℕ) → HasFirstNameFault sources file fault offset → HasFirstNameFault sources file' fault' offset'
    → AreSame file file' fault fault' offset offset'
names-names laws sources file file' fault fault' offset offset' one two =
    let first_same : one.first ≡ two.first = some_same one.first two.first (sym one.holds ∙ ap first_fault (one_trees laws sources one.trees two.trees one.parsed two.parsed) ∙ two.holds) in
    let source_same : one.source ≡ two.source = same_source sources one.first.file two.first.file one.source two.source (ap (λ f. f.file) first_same) one.numbered two.numbered in
    let P : List ℕ → Type 0 = λ source. tokens source one.ts in
    let tokens_same : one.ts ≡ two.ts = laws.one_list two.source one.ts two.ts (subst P source_same one.tokens_are) two.tokens_are in
    let offset_same : token_offset one.source one.ts one.first.token ≡ token_offset two.source two.ts two.first.token =
    ap (λ s. token_offset s one.ts one.first.token) source_same ∙ ap (λ ts. token_offset two.source ts one.first.token) tokens_same ∙ ap (λ f. token_offset two.source two.ts f.token) first_same in
    (one.told.0 ∙ ap (λ f. f.file) first_same ∙ sym two.told.0, one.told.1 ∙ ap (λ f. name_fault f.kind) first_same ∙ sym two.told.1, one.told.2 ∙ offset_same ∙ sym two.told.2)

lexical-grammar : Laws → (sources : List (List ℕ)) (file file' : ℕ) (fault fault' : Fault) (offset offset' : ℕ) → HasFirstLexicalFault sources file fault offset → HasFirstGrammarFault sources file' fault' offset' → ⊥
lexical-grammar laws sources file file' fault fault' offset offset' one two =
    lexical-tokens laws one.source fault offset one.refused (all_at HasTokens sources file one.source one.numbered two.lexed)

lexical-parsed : Laws → (sources : List (List ℕ)) (trees : List (List Item)) (file : ℕ) (fault : Fault) (offset : ℕ) → HasFirstLexicalFault sources file fault offset → parse_to sources trees → ⊥
lexical-parsed laws sources trees file fault offset one parsed =
    let tree : HasTree one.source = tree_at sources trees file one.source parsed one.numbered in
    lexical-tokens laws one.source fault offset one.refused (tree.1.ts, tree.1.tokens_are)

grammar-parsed : Laws → (sources : List (List ℕ)) (trees : List (List Item)) (file : ℕ) (fault : Fault) (offset : ℕ) → HasFirstGrammarFault sources file fault offset → parse_to sources trees → ⊥
grammar-parsed laws sources trees file fault offset one parsed = grammar-tree laws one.source fault offset one.refused (tree_at sources trees file one.source parsed one.numbered)

-- sources have one first fault
pub one_first_fault : Laws → (sources : List (List ℕ)) (file file' : ℕ) (fault fault' : Fault) (offset offset' : ℕ) → HasFirstFault sources file fault offset → HasFirstFault sources file' fault' offset'
    → AreSame file file' fault fault' offset offset'
one_first_fault laws sources file file' fault fault' offset offset' (inl one) (inl two) = lexical-lexical laws sources file file' fault fault' offset offset' one two
one_first_fault laws sources file file' fault fault' offset offset' (inl one) (inr (inl two)) = absurd (lexical-grammar laws sources file file' fault fault' offset offset' one two)
one_first_fault laws sources file file' fault fault' offset offset' (inl one) (inr (inr two)) = absurd (lexical-parsed laws sources two.trees file fault offset one two.parsed)
one_first_fault laws sources file file' fault fault' offset offset' (inr (inl one)) (inl two) = absurd (lexical-grammar laws sources file' file fault' fault offset' offset two one)
one_first_fault laws sources file file' fault fault' offset offset' (inr (inl one)) (inr (inl two)) = grammar-grammar laws sources file file' fault fault' offset offset' one two
one_first_fault laws sources file file' fault fault' offset offset' (inr (inl one)) (inr (inr two)) = absurd (grammar-parsed laws sources two.trees file fault offset one two.parsed)
one_first_fault laws sources file file' fault fault' offset offset' (inr (inr one)) (inl two) = absurd (lexical-parsed laws sources one.trees file' fault' offset' two one.parsed)
one_first_fault laws sources file file' fault fault' offset offset' (inr (inr one)) (inr (inl two)) = absurd (grammar-parsed laws sources one.trees file' fault' offset' two one.parsed)
one_first_fault laws sources file file' fault fault' offset offset' (inr (inr one)) (inr (inr two)) = names-names laws sources file file' fault fault' offset offset' one two

-- Projects

-- sources with a project have no fault
pub compiles-no_fault : Laws → (sources : List (List ℕ)) (project : Project) (file : ℕ) (fault : Fault) (offset : ℕ) → compiles sources project → HasFirstFault sources file fault offset → ⊥
compiles-no_fault laws sources project file fault offset one (inl two) = lexical-parsed laws sources one.0 file fault offset two one.1
compiles-no_fault laws sources project file fault offset one (inr (inl two)) = grammar-parsed laws sources one.0 file fault offset two one.1
compiles-no_fault laws sources project file fault offset one (inr (inr two)) =
    let none : first_fault one.0 ≡ None = ap (λ fs. slice_get fs 0) one.2.0 in
    clash two.first (first_fault two.trees) (ap first_fault (one_trees laws sources two.trees one.0 two.parsed one.1) ∙ none) two.holds

pub one_project : Laws → (sources : List (List ℕ)) (project project' : Project) → compiles sources project → compiles sources project' → project ≡ project'
one_project laws sources project project' one two = one.2.1 ∙ ap bound (one_trees laws sources one.0 two.0 one.1 two.1) ∙ sym two.2.1
