use Rattle.std.specs.Prelude.{ℕ, Bool, true, false, Option, List, [], ◌∷◌, codes}
use Rattle.std.specs.List.{find}
use Rattle.std.specs.Str.{bytes_eq}
use Rattle.ci_words.specs.declared.command.Command.{Command}
use Rattle.ci_words.specs.declared.command.Command.TheVariants as commands
use Rattle.ci_words.specs.declared.command.OptionName.{OptionName}
use Rattle.ci_words.specs.declared.command.OptionName.TheVariants as names

-- how a command is spelled
abbrev pub command_spelling : Command → List ℕ
command_spelling commands.Run = codes "run"
command_spelling commands.Check = codes "check"
command_spelling commands.List = codes "list"
command_spelling commands.Replay = codes "replay"
command_spelling commands.Make = codes "make"

-- all commands
abbrev pub all_commands : List Command
all_commands = commands.Run ∷ commands.Check ∷ commands.List ∷ commands.Replay ∷ commands.Make ∷ []

-- the command that is spelled so, exactly
abbrev pub command_named : List ℕ → Option Command
command_named word = find (λ command. bytes_eq (command_spelling command) word) all_commands

-- whether a command takes files; the other one takes a number
abbrev pub takes_files : Command → Bool
takes_files commands.Run = true
takes_files commands.Check = true
takes_files commands.List = true
takes_files commands.Replay = true
takes_files commands.Make = false

-- how an option is spelled
abbrev pub option_spelling : OptionName → List ℕ
option_spelling names.Script = codes "--script"
option_spelling names.Slice = codes "--slice"
option_spelling names.Budget = codes "--budget"
option_spelling names.Workers = codes "--workers"
option_spelling names.Journal = codes "--journal"
option_spelling names.From = codes "--from"

-- whether the word after an option is its value
abbrev pub takes_value : OptionName → Bool
takes_value names.Script = true
takes_value names.Slice = true
takes_value names.Budget = true
takes_value names.Workers = true
takes_value names.Journal = false
takes_value names.From = true

-- the options of a command
abbrev pub options_of : Command → List OptionName
options_of commands.Run = names.Script ∷ names.Slice ∷ names.Budget ∷ names.Workers ∷ names.Journal ∷ []
options_of commands.Check = []
options_of commands.List = []
options_of commands.Replay = names.Script ∷ names.Budget ∷ names.From ∷ []
options_of commands.Make = names.Workers ∷ []

-- the option of this command that is spelled so, exactly
abbrev pub option_named : Command → List ℕ → Option OptionName
option_named command word = find (λ name. bytes_eq (option_spelling name) word) (options_of command)
