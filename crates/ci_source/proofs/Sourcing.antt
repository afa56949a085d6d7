-- What is told of the first fault of several sources.
use Rattle.std.proofs.Common.{◌≡◌, ◌≢◌, ℕ, ◌<◌, ◌≤◌, List, [], length, take, get_or, Option, Some, None, refl, sym, ◌∙◌, ap, subst, arith, inl, inr}
use Rattle.std.specs.Prelude.{All, slice_get, option_map, unwrap_or}
use Rattle.std.proofs.lemmas.Option.{slice_get-get_or, slice_get_read, get_or_from_slice_get}
use Rattle.std.proofs.lemmas.Slice.Zip.{AllZip-long}
use Rattle.ci_base.specs.declared.bounds.TheConstants.{MOST_SOURCE_BYTES}
use Rattle.ci_binder.specs.Refusals.{IsRefusal as IsBindRefusal}
use Rattle.ci_lexer.specs.declared.fault.LexFault.{LexFault}
use Rattle.ci_lexer.specs.declared.fault.LexFault.TheVariants as lex_faults
use Rattle.ci_lexer.specs.Faults.{lex_fault}
use Rattle.ci_names.specs.declared.fault.BindKind.{BindKind}
use Rattle.ci_names.specs.declared.fault.BindFault.TheVariants as bind_faults
use Rattle.ci_expressions.specs.Gives.{kinds}
use Rattle.ci_parser.specs.Refusals.{IsRefusal}
use Rattle.ci_expressions.specs.declared.fault.ParseFault.{ParseFault}
use Rattle.ci_expressions.specs.declared.fault.ParseFault.TheVariants as parse_faults
use Rattle.ci_source.specs.declared.telling.SourceFault.{SourceFault}
use Rattle.ci_source.specs.declared.telling.SourceFault.TheVariants as source_faults
use Rattle.ci_source.specs.Compiling.{parse_to, token_offset, HasTokens, HasTree}
use Rattle.ci_source.specs.Sources.{Parses, HasLexicalFault, HasGrammarFault, grammar_fault}
use Rattle.ci_source.specs.Faults.{name_fault}
use Rattle.ci_source.specs.Telling.{IsRefusedAs, IsToldOf, LexTold, NamesToken, Told, ParseTold}
use Rattle.ci_source.proofs.Offsets.{refused-before, reads-place, grammar-within, lexical-within, told-no_memory}
use Rattle.ci_tree.specs.declared.token.Token.{Token}
use Rattle.ci_tree.specs.Refused.{Refusal, unexpected, unexpected_end, too_deep, refused_at}
use Rattle.ci_tree.specs.Tokens.{tokens}
use Rattle.ci_tree.specs.Tree.{Item}

-- One source

-- a lexical fault of a source
pub lex-told : (number : ℕ) (source : List ℕ) (f : LexFault) (result : SourceFault) → (f ≢ lex_faults.Memory → lex_fault source f) → LexTold number f result → IsToldOf HasLexicalFault number source result
lex-told number source f (source_faults.Refused file fault offset) holds told =
    let fails : lex_fault source f = holds (told-no_memory f fault offset told.1) in
    (told.0, record { refused = f; holds = fails; told = told.1 }, lexical-within source f fault offset fails told.1)
lex-told number source f source_faults.Memory holds told = tt

-- the fault names a token
pub names-token : (ts : List Token) (f : ParseFault) → IsRefusal (kinds ts) f → NamesToken f ts
names-token ts (parse_faults.Unexpected at) is = refused-before ts (unexpected at) is
names-token ts parse_faults.UnexpectedEnd is = tt
names-token ts (parse_faults.TooDeep at) is = refused-before ts (too_deep at) is
names-token ts parse_faults.Memory is = tt

told-refused : (number : ℕ) (source : List ℕ) (ts : List Token) (r : Refusal) (result : SourceFault) → tokens source ts → refused_at (kinds ts) ≡ Some r → Told number (grammar_fault source ts r) result
    → IsToldOf HasGrammarFault number source result
told-refused number source ts r (source_faults.Refused file fault offset) reads is told =
    (told.0, record { ts = ts; tokens_are = reads; refused = r; holds = is; told = told.1 }, grammar-within source ts r fault offset reads told.1)
told-refused number source ts r source_faults.Memory reads is told = absurd told

-- a refused token of a source
pub parse-told : (number : ℕ) (source : List ℕ) (ts : List Token) (f : ParseFault) (result : SourceFault) → tokens source ts → IsRefusal (kinds ts) f → ParseTold number source ts f result
    → IsToldOf HasGrammarFault number source result
parse-told number source ts (parse_faults.Unexpected at) result reads is told = told-refused number source ts (unexpected at) result reads is told
parse-told number source ts parse_faults.UnexpectedEnd result reads is told = told-refused number source ts unexpected_end result reads is told
parse-told number source ts (parse_faults.TooDeep at) result reads is told = told-refused number source ts (too_deep at) result reads is told
parse-told number source ts parse_faults.Memory result reads is told = let P : SourceFault → Type 0 = IsToldOf HasGrammarFault number source in subst P (sym told) tt

-- All sources

-- the offset lies within the source of this number
within_source : (sources : List (List ℕ)) (i offset : ℕ) (source : List ℕ) → slice_get sources i ≡ Some source → offset ≤ length source → offset ≤ length (get_or sources i [])
within_source sources i offset source numbered within = omega (arith, ap length (get_or_from_slice_get sources i source [] numbered))

-- sources with trees have tokens
pub tree-tokens : (sources : List (List ℕ)) → All HasTree sources → All HasTokens sources
tree-tokens sources trees k d within = let tree = trees k d within in (tree.1.ts, tree.1.tokens_are)

-- a source that was read has tokens
pub read-tokens : (sources : List (List ℕ)) (i : ℕ) (source read : List ℕ) (ts : List Token) → i < length sources → source ≡ get_or sources i source → read ≡ source → tokens read ts → HasTokens (get_or sources i [])
read-tokens sources i source read ts within is same lexed =
    let numbered : slice_get sources i ≡ Some source = slice_get_read sources (length sources) i source refl within is in
    let at : get_or sources i [] ≡ source = get_or_from_slice_get sources i source [] numbered in
    let P : List ℕ → Type 0 = λ s. tokens s ts in
    (ts, subst P (same ∙ sym at) lexed)

-- a source that was read is as short as all are
pub read-within : (sources : List (List ℕ)) (i : ℕ) (source read : List ℕ) → All (λ s. length s ≤ MOST_SOURCE_BYTES) sources → i < length sources → source ≡ get_or sources i source → read ≡ source → length read ≤ MOST_SOURCE_BYTES
read-within sources i source read all within is same = omega (arith, all i source within, ap length same, ap length is)

-- the sources before this one have tokens, and it has none
pub lexical-first : (sources : List (List ℕ)) (i : ℕ) (source : List ℕ) (result : SourceFault) → i < length sources → source ≡ get_or sources i source
    → All HasTokens (take i sources) → IsToldOf HasLexicalFault i source result → IsRefusedAs sources result
lexical-first sources i source (source_faults.Refused file fault offset) within is lexed told =
    let numbered : slice_get sources i ≡ Some source = slice_get_read sources (length sources) i source refl within is in
    let P : ℕ → Type 0 = λ n. IsRefusedAs sources (source_faults.Refused n fault offset) in
    subst P (sym told.0)
    (inl (record { source = source; numbered = numbered; before = lexed; refused = told.1 }), within, within_source sources i offset source numbered told.2)
lexical-first sources i source source_faults.Memory within is lexed told = tt

-- all have tokens, the sources before this one have trees, and it has none
pub grammar-first : (sources : List (List ℕ)) (i : ℕ) (result : SourceFault) → i < length sources → All HasTokens sources → All HasTree (take i sources)
    → IsToldOf HasGrammarFault i (get_or sources i []) result → IsRefusedAs sources result
grammar-first sources i (source_faults.Refused file fault offset) within lexed parsed told =
    let source = get_or sources i [] in
    let numbered : slice_get sources i ≡ Some source = slice_get-get_or sources i [] within in
    let P : ℕ → Type 0 = λ n. IsRefusedAs sources (source_faults.Refused n fault offset) in
    subst P (sym told.0) (
      inr (inl (record { source = source; numbered = numbered; lexed = lexed; before = parsed; refused = told.1 })),
      within,
      within_source sources i offset source numbered told.2,
    )
grammar-first sources i source_faults.Memory within lexed parsed told = tt

-- a token is told within its source
token-within : (source : List ℕ) (ts : List Token) (i : ℕ) → tokens source ts → token_offset source ts i ≤ length source
token-within source ts i reads = found (slice_get ts i) (reads-place (length source) _ ts [] reads i) where
  found : (o : Option Token) → ((t : Token) → o ≡ Some t → t.place ≤ length source) → unwrap_or (option_map (λ t. t.place) o) (length source) ≤ length source
  found None within = omega arith
  found (Some t) within = within t refl

-- the source that a fault of names and kinds names
pub names-file : (sources : List (List ℕ)) (trees : List (List Item)) (file token : ℕ) (kind : BindKind) → parse_to sources trees → IsBindRefusal trees (bind_faults.Fault file token kind) → file < length sources
names-file sources trees file token kind parsed is = omega (arith, is.1, AllZip-long Parses sources trees parsed)

-- all have trees, and these have a first fault of names and kinds, in a source that was read with these tokens
pub names-first : (sources : List (List ℕ)) (trees : List (List Item)) (source read : List ℕ) (ts : List Token) (file token : ℕ) (kind : BindKind) → parse_to sources trees
    → IsBindRefusal trees (bind_faults.Fault file token kind) → source ≡ get_or sources file source → read ≡ source → tokens read ts
    → IsRefusedAs sources (source_faults.Refused file (name_fault kind) (token_offset read ts token))
names-first sources trees source read ts file token kind parsed is numbered same lexed =
    let within : file < length sources = names-file sources trees file token kind parsed is in
    let found : slice_get sources file ≡ Some source = slice_get_read sources (length sources) file source refl within numbered in
    let Q : List ℕ → Type 0 = λ s. tokens s ts in
    let reads : tokens source ts = subst Q same lexed in
    let P : List ℕ → Type 0 = λ s. IsRefusedAs sources (source_faults.Refused file (name_fault kind) (token_offset s ts token)) in
    subst P (sym same) (
      inr (inr (record {
        trees = trees;
        parsed = parsed;
        first = record { file = file; token = token; kind = kind };
        holds = is.0;
        source = source;
        numbered = found;
        ts = ts;
        tokens_are = reads;
        told = (refl, refl, refl);
      })),
      within,
      within_source sources file (token_offset source ts token) source found (token-within source ts token reads),
    )
