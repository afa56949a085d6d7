-- Sources have a project or a first fault.
use Rattle.std.proofs.Common.{◌≡◌, ℕ, zero, suc, ◌<◌, List, [], ◌∷◌, length, take, get_or, Option, Some, None, refl, sym, ◌∙◌, ap, inl, inr, arith}
use Rattle.std.specs.Prelude.{All, option_map, slice_get, ◌⊎◌}
use Rattle.std.proofs.lemmas.List.Elements.{All-nil, All-cons, All-head, All-tail}
use Rattle.std.proofs.lemmas.Option.{slice_get-get_or}
use Rattle.std.proofs.lemmas.Slice.Zip.{AllZip-long}
use Rattle.ci_binder.proofs.Placed.{first_within}
use Rattle.ci_expressions.specs.Gives.{kinds}
use Rattle.ci_lexer.specs.Laws.{HasReading}
use Rattle.ci_lexer.specs.declared.fault.LexFault.{LexFault}
use Rattle.ci_lexer.specs.Faults as lexical
use Rattle.ci_lexer.specs.Faults.{lex_fault, FaultAt}
use Rattle.ci_names.specs.Binding.{bound}
use Rattle.ci_names.specs.Faults.{faults, first_fault}
use Rattle.ci_names.specs.Laws.{FirstIsNoted}
use Rattle.ci_names.specs.declared.fault.Fault.{Fault as NameFault}
use Rattle.ci_parser.specs.OfGrammar.{TreeOrRefused}
use Rattle.ci_source.specs.declared.fault.Fault.{Fault}
use Rattle.ci_source.specs.declared.fault.Fault.TheVariants as source_faults
use Rattle.ci_source.specs.Compiling.{parse_to, HasTokens, HasTree, HasFirstLexicalFault}
use Rattle.ci_source.specs.Laws.{HasMeaning, HaveMeanings}
use Rattle.ci_source.specs.Sources.{Parses, HasGrammarFault, lexical_fault, grammar_fault}
use Rattle.ci_source.proofs.Offsets.{IsBefore, refused-before}
use Rattle.ci_source.proofs.Sourcing.{tree-tokens}
use Rattle.ci_source.proofs.Zipped.{zipped_all}
use Rattle.ci_tree.specs.declared.token.Token.{Token}
use Rattle.ci_tree.specs.Refused.{Refusal, unexpected, unexpected_end, too_deep, refused_at}
use Rattle.ci_tree.specs.Tokens.{tokens}
use Rattle.ci_tree.specs.Tree.{Item}

-- Tokens

-- a lexical fault can be told
told_lexical : (size : ℕ) (s : List ℕ) (f : LexFault) → FaultAt size s f → (told : Fault × ℕ) × (lexical_fault f ≡ Some told)
told_lexical size s f (lexical.stray _ at b rest e place none) = (_, refl)
told_lexical size s f (lexical.run_on _ at value spelled b rest e place spells number whole letter) = (_, refl)
told_lexical size s f (lexical.number_too_large _ at spelled rest e place number whole limit) = (_, refl)
told_lexical size s f (lexical.name_too_long _ at spelled rest e place name whole limit) = (_, refl)
told_lexical size s f (lexical.too_many_hashes _ at spelled rest e place hashes whole limit) = (_, refl)
told_lexical size s f (lexical.open_comment _ at place is_open) = (_, refl)
told_lexical size s f (lexical.bad_escape _ at items value rest e place are short none) = (_, refl)
told_lexical size s f (lexical.text_too_long _ at items value rest e place are long) = (_, refl)
told_lexical size s f (lexical.open_string _ at items value rest e place are short stops) = (_, refl)

abbrev Lexed : List (List ℕ) → Type 0
Lexed sources = All HasTokens sources ⊎ ((file : ℕ) × (fault : Fault) × (offset : ℕ) × HasFirstLexicalFault sources file fault offset)

-- a source with a fault, or with tokens and others behind it
lexed_behind : (source : List ℕ) (sources : List (List ℕ)) → ((ts : List Token) × tokens source ts) ⊎ ((fault : LexFault) × lex_fault source fault) → Lexed sources → Lexed (source ∷ sources)
lexed_behind source sources (inr (f, fails)) rest =
    let told : (told : Fault × ℕ) × (lexical_fault f ≡ Some told) = told_lexical (length source) fails.1 f fails.3 in
    inr (0, told.0.0, told.0.1, record { source = source; numbered = refl; before = All-nil HasTokens; refused = record { refused = f; holds = fails; told = told.1 } })
lexed_behind source sources (inl has) (inl all) = inl (All-cons HasTokens source sources has all)
lexed_behind source sources (inl has) (inr (file, fault, offset, one)) =
    inr (suc file, fault, offset, record { source = one.source; numbered = one.numbered; before = All-cons HasTokens source (take file sources) has one.before; refused = one.refused })

lexed : HasReading → (sources : List (List ℕ)) → Lexed sources
lexed reading [] = inl (All-nil HasTokens)
lexed reading (source ∷ sources) = lexed_behind source sources (reading source) (lexed reading sources)

-- Trees

some_at : {A : Type 0} (xs : List A) (i : ℕ) → i < length xs → (x : A) × (slice_get xs i ≡ Some x)
some_at [] i within = absurd (omega arith)
some_at (x ∷ xs) zero within = (x, refl)
some_at (x ∷ xs) (suc i) within = some_at xs i (omega arith)

-- this fault is told at a token
told_at : (fault : Fault) (ts : List Token) (i : ℕ) → i < length ts → (told : Fault × ℕ) × (option_map {U = Fault × ℕ} (λ t. (fault, t.place)) (slice_get ts i) ≡ Some told)
told_at fault ts i within =
    let found : (t : Token) × (slice_get ts i ≡ Some t) = some_at ts i within in
    ((fault, found.0.place), ap (option_map {U = Fault × ℕ} (λ t. (fault, t.place))) found.1)

-- a refused token can be told
told_grammar : (source : List ℕ) (ts : List Token) (r : Refusal) → IsBefore (length ts) r → (told : Fault × ℕ) × (grammar_fault source ts r ≡ Some told)
told_grammar source ts (unexpected i) within = told_at source_faults.UnexpectedToken ts i within
told_grammar source ts unexpected_end within = (_, refl)
told_grammar source ts (too_deep i) within = told_at source_faults.NestingTooDeep ts i within

-- tokens have a tree or a refused one
tree_or_fault : TreeOrRefused → (source : List ℕ) → HasTokens source → HasTree source ⊎ ((fault : Fault) × (offset : ℕ) × HasGrammarFault source fault offset)
tree_or_fault law source (ts, read) = cases (refused_at (kinds ts)) refl where
  cases : (o : Option Refusal) → refused_at (kinds ts) ≡ o → HasTree source ⊎ ((fault : Fault) × (offset : ℕ) × HasGrammarFault source fault offset)
  cases None is = let tree : (tree : List Item) × _ = (law (kinds ts)).1 is in inl (tree.0, record { ts = ts; tokens_are = read; derived = tree.1 })
  cases (Some r) is =
      let told : (told : Fault × ℕ) × (grammar_fault source ts r ≡ Some told) = told_grammar source ts r (refused-before ts r is) in
      inr (told.0.0, told.0.1, record { ts = ts; tokens_are = read; refused = r; holds = is; told = told.1 })

-- the source of this number has a fault of grammar, and each before it has a tree
record Unparsed (sources : List (List ℕ)) (file : ℕ) (fault : Fault) (offset : ℕ) : Type 0 where
  source : List ℕ
  numbered : slice_get sources file ≡ Some source
  before : All HasTree (take file sources)
  refused : HasGrammarFault source fault offset

abbrev Parsed : List (List ℕ) → Type 0
Parsed sources = ((trees : List (List Item)) × parse_to sources trees) ⊎ ((file : ℕ) × (fault : Fault) × (offset : ℕ) × Unparsed sources file fault offset)

parsed_behind : (source : List ℕ) (sources : List (List ℕ)) → HasTree source ⊎ ((fault : Fault) × (offset : ℕ) × HasGrammarFault source fault offset) → Parsed sources → Parsed (source ∷ sources)
parsed_behind source sources (inr (fault, offset, fails)) rest =
    inr (0, fault, offset, record { source = source; numbered = refl; before = All-nil HasTree; refused = fails })
parsed_behind source sources (inl (tree, parses)) (inl (trees, all)) = inl (tree ∷ trees, (parses, all))
parsed_behind source sources (inl has) (inr (file, fault, offset, one)) =
    inr (suc file, fault, offset, record { source = one.source; numbered = one.numbered; before = All-cons HasTree source (take file sources) has one.before; refused = one.refused })

parsed : TreeOrRefused → (sources : List (List ℕ)) → All HasTokens sources → Parsed sources
parsed law [] all = inl ([], tt)
parsed law (source ∷ sources) all =
    parsed_behind source sources (tree_or_fault law source (All-head HasTokens source sources all)) (parsed law sources (All-tail HasTokens source sources all))

-- Names

-- trees with a fault of names and kinds
named_fault : FirstIsNoted → (sources : List (List ℕ)) (trees : List (List Item)) (f : NameFault) → parse_to sources trees → first_fault trees ≡ Some f → HasMeaning sources
named_fault noted sources trees f all is =
    let within : f.file < length sources = omega (arith, first_within trees f (sym (noted trees) ∙ is), AllZip-long Parses sources trees all) in
    let read : HasTokens (get_or sources f.file []) = tree-tokens sources (zipped_all Parses sources trees all) f.file [] within in
    inr (
      f.file,
      _,
      _,
      inr (inr (record {
        trees = trees;
        parsed = all;
        first = f;
        holds = is;
        source = get_or sources f.file [];
        numbered = slice_get-get_or sources f.file [] within;
        ts = read.0;
        tokens_are = read.1;
        told = (refl, refl, refl);
      })),
    )

named : FirstIsNoted → (sources : List (List ℕ)) (trees : List (List Item)) → parse_to sources trees → HasMeaning sources
named noted sources trees all = cases (faults trees) refl where
  cases : (fs : List NameFault) → faults trees ≡ fs → HasMeaning sources
  cases [] is = inl (bound trees, (trees, all, (is, refl)))
  cases (f ∷ fs) is = named_fault noted sources trees f all (ap (λ l. slice_get l 0) is)

-- sources have a project or a first fault
pub have_meanings : HasReading → TreeOrRefused → FirstIsNoted → HaveMeanings
have_meanings reading law noted sources = by_tokens (lexed reading sources) where
  by_trees : All HasTokens sources → Parsed sources → HasMeaning sources
  by_trees all (inl (trees, parses)) = named noted sources trees parses
  by_trees all (inr (file, fault, offset, one)) =
      inr (file, fault, offset, inr (inl (record { source = one.source; numbered = one.numbered; lexed = all; before = one.before; refused = one.refused })))

  by_tokens : Lexed sources → HasMeaning sources
  by_tokens (inl all) = by_trees all (parsed law sources all)
  by_tokens (inr (file, fault, offset, one)) = inr (file, fault, offset, inl one)
