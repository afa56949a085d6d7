use Rattle.std.specs.Prelude.{◌≡◌, ℕ, if◌then◌else◌, is_some, Option, Some, None, Result, Ok, Err, List, [], ◌∷◌, length}
use Rattle.ci_base.specs.declared.bounds.TheConstants.{GIVEN_BUDGET, GIVEN_SLICE}
use Rattle.ci_base.specs.declared.limits.Limits.{Limits}
use Rattle.ci_words.specs.declared.command.Command.{Command}
use Rattle.ci_words.specs.declared.command.OptionName.{OptionName}
use Rattle.ci_words.specs.declared.command.OptionName.TheVariants as names
use Rattle.ci_words.specs.declared.role.Role.TheVariants as roles
use Rattle.ci_words.specs.declared.fault.Fault.{Fault}
use Rattle.ci_words.specs.declared.fault.WordFault.{WordFault}
use Rattle.ci_words.specs.declared.order.Order.{Order}
use Rattle.ci_words.specs.Command.{command_named, takes_files}
use Rattle.ci_words.specs.Role.{word_at, index_before, indexes_before}
use Rattle.ci_words.specs.Number.{value_of}
use Rattle.ci_words.specs.Fault.{number_of, IsFree, IsFirst}

-- the index of the value of this option, if it is given
abbrev pub value_index : Command → List (List ℕ) → OptionName → Option ℕ
value_index command words name = index_before command words (roles.Value name) (length words)

-- the number that the word at this index spells, or this one where there is no index
abbrev pub number_at : List (List ℕ) → Option ℕ → ℕ → ℕ
number_at words (Some at) default = value_of (word_at words at)
number_at words None default = default

-- the indexes of the files
abbrev pub files_of : Command → List (List ℕ) → List ℕ
files_of command words =
    if takes_files command then indexes_before command words roles.Plain (length words) else []

-- the number of `make`, and 0 for other commands
abbrev pub size_of : Command → List (List ℕ) → ℕ
size_of command words =
    if takes_files command then 0 else number_at words (index_before command words roles.Plain (length words)) 0

-- the limits that the options give
abbrev pub limits_of : Command → List (List ℕ) → Limits
limits_of command words = record {
  slice = number_at words (value_index command words names.Slice) GIVEN_SLICE;
  budget = number_at words (value_index command words names.Budget) GIVEN_BUDGET;
  workers = number_at words (value_index command words names.Workers) 0;
}

-- what words without a fault ask for
abbrev pub order_of : Command → List (List ℕ) → Order
order_of command words = record {
  command = command;
  files = files_of command words;
  script = value_index command words names.Script;
  journal = value_index command words names.From;
  number = size_of command words;
  limits = limits_of command words;
  slice_at = value_index command words names.Slice;
  budget_at = value_index command words names.Budget;
  workers_at = value_index command words names.Workers;
  as_journal = is_some (index_before command words (roles.Known names.Journal) (length words));
}

-- what words come to whose first one is this command
abbrev pub OrdersAs : Command → List (List ℕ) → Result Order WordFault → Type 0
OrdersAs command words (Ok order) = IsFree command words × (order ≡ order_of command words)
OrdersAs command words (Err refused) =
    (fault : Fault) × (at : ℕ) × IsFirst command words fault at × (refused ≡ record { number = number_of fault; index = at })

-- what words come to whose first one spells this command, if any
abbrev pub OrdersOf : Option Command → List (List ℕ) → Result Order WordFault → Type 0
OrdersOf (Some command) words result = OrdersAs command words result
OrdersOf None words result = result ≡ Err (record { number = 2; index = 0 })

-- What words come to: an order, or the fault that is given. Without a word there is no command (1); a first word that is no
-- command is an unknown one (2), and then the other words have no meaning.
abbrev pub Orders : List (List ℕ) → Result Order WordFault → Type 0
Orders [] result = result ≡ Err (record { number = 1; index = 0 })
Orders (first ∷ later) result = OrdersOf (command_named first) (first ∷ later) result
