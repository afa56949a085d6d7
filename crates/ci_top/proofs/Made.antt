-- A workload is made of no files.
use Rattle.std.proofs.Common.{◌≡◌, ℕ, ap, Option, Ok, List, []}
use Rattle.ci_base.specs.declared.bounds.TheConstants.{MOST_SCRIPT_BYTES, MOST_SOURCE_BYTES}
use Rattle.ci_words.specs.declared.command.Command.TheVariants as commands
use Rattle.ci_words.specs.declared.order.Order.{Order}
use Rattle.ci_words.specs.Order.{Orders}
use Rattle.ci_words.proofs.Made.{make_files, make_script}
use Rattle.ci_words.proofs.Ordered.{ordered}
use Rattle.ci_top.specs.Asked.{wanted_sources, wanted_scripts, words_at, as_list}
use Rattle.ci_top.specs.Fetching.{each_within}

-- it wants no sources
pub makes-no_sources : (words : List (List ℕ)) (asked : Order) → Orders words (Ok asked) → asked.command ≡ commands.Make → wanted_sources words asked ≡ []
makes-no_sources words asked orders makes =
    ap (λ (files : List ℕ). each_within MOST_SOURCE_BYTES (words_at words files)) (make_files words asked (ordered words asked orders) makes)

-- and no script
pub makes-no_scripts : (words : List (List ℕ)) (asked : Order) → Orders words (Ok asked) → asked.command ≡ commands.Make → wanted_scripts words asked ≡ []
makes-no_scripts words asked orders makes =
    ap (λ (i : Option ℕ). each_within MOST_SCRIPT_BYTES (words_at words (as_list i))) (make_script words asked (ordered words asked orders) makes)
