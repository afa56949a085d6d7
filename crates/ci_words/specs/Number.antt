use Rattle.std.specs.Prelude.{ℕ, zero, suc, ◌+◌, ◌-◌, ◌*◌, ◌<◌, ◌⊎◌, Bool, ◌&&◌, nat_lt, Option, Some, None, List, length, fold}
use Rattle.std.specs.List.{list_all}
use Rattle.std.specs.Char.{is_ascii_digit}
use Rattle.ci_base.specs.declared.bounds.TheConstants.{LEAST_BUDGET, LEAST_SLICE, MOST_BUDGET, MOST_SLICE, MOST_WORKERS}
use Rattle.ci_words.specs.declared.number.TheConstants.{MOST_SIZE}
use Rattle.ci_words.specs.declared.command.Command.{Command}
use Rattle.ci_words.specs.declared.command.Command.TheVariants as commands
use Rattle.ci_words.specs.declared.command.OptionName.{OptionName}
use Rattle.ci_words.specs.declared.command.OptionName.TheVariants as names
use Rattle.ci_words.specs.declared.role.Role.{Role}
use Rattle.ci_words.specs.declared.role.Role.TheVariants as roles
use Rattle.ci_words.specs.declared.number.Bounds.{Bounds}

-- the word is one or more decimal digits
abbrev pub is_number : List ℕ → Bool
is_number word = nat_lt 0 (length word) && list_all is_ascii_digit word

-- the number that the digits spell; zeros at the front count for nothing
abbrev pub value_of : List ℕ → ℕ
value_of word = fold (λ value digit. value * 10 + (digit - 48)) 0 word

-- the least and the largest number that an option takes, if it takes one
abbrev pub bounds_of : OptionName → Option Bounds
bounds_of names.Script = None
bounds_of names.Slice = Some (record { low = LEAST_SLICE; high = MOST_SLICE })
bounds_of names.Budget = Some (record { low = LEAST_BUDGET; high = MOST_BUDGET })
bounds_of names.Workers = Some (record { low = 0; high = MOST_WORKERS })
bounds_of names.Journal = None
bounds_of names.From = None

-- The bounds of the number that a plain word is to be, where so many plain words stand before it: the first one of `make`.
abbrev pub bounds_of_plain : Command → ℕ → Option Bounds
bounds_of_plain commands.Run before = None
bounds_of_plain commands.Check before = None
bounds_of_plain commands.List before = None
bounds_of_plain commands.Replay before = None
bounds_of_plain commands.Make zero = Some (record { low = 1; high = MOST_SIZE })
bounds_of_plain commands.Make (suc before) = None

-- the bounds of the number that a word of this role is to be, if it is to be one
abbrev pub bounds_for : Command → Role → ℕ → Option Bounds
bounds_for command roles.Command before = None
bounds_for command roles.Unknown before = None
bounds_for command (roles.Known name) before = None
bounds_for command (roles.Value name) before = bounds_of name
bounds_for command roles.Plain before = bounds_of_plain command before

-- the number is outside of the bounds
abbrev pub IsOutside : Bounds → ℕ → Type 0
IsOutside bounds value = (value < bounds.low) ⊎ (bounds.high < value)
