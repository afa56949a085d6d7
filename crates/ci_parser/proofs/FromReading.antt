-- The laws, from reading.
use Rattle.std.proofs.Common.{◌≡◌, ℕ, ◌≤◌, List, length, Some, None, refl, sym, ap, ◌∙◌, subst, arith}
use Rattle.std.specs.Prelude.{Ok, Err, Result}
use Rattle.ci_tree.specs.Tree.{Item}
use Rattle.ci_tree.specs.Grammar.{Tokens, derives, nesting, spell_file}
use Rattle.ci_tree.specs.Refused.{Refusal, unexpected, unexpected_end, too_deep, refused_at}
use Rattle.ci_expressions.specs.declared.fault.ParseFault.{ParseFault}
use Rattle.ci_expressions.specs.declared.fault.ParseFault.TheVariants as faults
use Rattle.ci_expressions.specs.Gives.{Fails}
use Rattle.ci_parser.specs.Reading.{items}
use Rattle.ci_parser.specs.Refusals.{IsRefusal}
use Rattle.ci_parser.specs.OfGrammar.{TreeOrRefused, OneTree}
use Rattle.ci_parser.proofs.ExactItems.{items_exact, FileExact}
use Rattle.ci_parser.proofs.AgainItems.{items_again}

-- reading the tokens of a file
abbrev pub read : Tokens → Result (List Item) Refusal
read tokens = items nesting (length tokens) 0 tokens

same : (n : ℕ) → n ≤ n
same n = omega arith

pub read_exact : (tokens : Tokens) → FileExact nesting 0 tokens (read tokens)
read_exact tokens = items_exact nesting (length tokens) 0 tokens (same (length tokens))

-- a file that is read has the tree, and nothing is refused
pub read_derives : (tokens : Tokens) (tree : List Item) → read tokens ≡ Ok tree → derives tokens tree × (refused_at tokens ≡ None)
read_derives tokens tree e =
    let h = subst (λ (r : Result (List Item) Refusal). FileExact nesting 0 tokens r) e (read_exact tokens) in
    (record { file = h.file; within = h.within; spelled = h.spelled; means = h.means }, h.passes)

-- one that isn't has the refusal
pub read_refused : (tokens : Tokens) (f : Refusal) → read tokens ≡ Err f → refused_at tokens ≡ Some f
read_refused tokens f e = subst (λ (r : Result (List Item) Refusal). FileExact nesting 0 tokens r) e (read_exact tokens)

-- so the fault of its reader is the refusal
pub fails_refused : (tokens : Tokens) (fault : ParseFault) → Fails fault (read tokens) → IsRefusal tokens fault
fails_refused tokens (faults.Unexpected at) e = read_refused tokens (unexpected at) e
fails_refused tokens faults.UnexpectedEnd e = read_refused tokens unexpected_end e
fails_refused tokens (faults.TooDeep at) e = read_refused tokens (too_deep at) e
fails_refused tokens faults.Memory e = tt

-- the tree of tokens is read
pub derives_read : (tokens : Tokens) (tree : List Item) → derives tokens tree → read tokens ≡ Ok tree
derives_read tokens tree d =
    ap read d.spelled ∙ items_again d.file nesting d.within (length (spell_file d.file)) 0 (same (length (spell_file d.file))) ∙ ap Ok (sym d.means)

passed_read : (tokens : Tokens) (r : Result (List Item) Refusal) → read tokens ≡ r → refused_at tokens ≡ None → (tree : List Item) × derives tokens tree
passed_read tokens (Ok tree) e none = (tree, (read_derives tokens tree e).0)
passed_read tokens (Err f) e none = let h = read_refused tokens f e in absurd (cc)

pub tree_or_refused : TreeOrRefused
tree_or_refused tokens =
    (λ t. (read_derives tokens t.0 (derives_read tokens t.0 t.1)).1, λ none. passed_read tokens (read tokens) refl none)

pub one_tree : OneTree
one_tree tokens one other d e = let h = derives_read tokens one d in let k = derives_read tokens other e in cc
