-- The workload: a source with many small functions, all of which Main starts, and its script.
use Rattle.std.specs.Prelude.{ℕ, ◌+◌, ◌*◌, ◌%◌, Bool, ◌==◌, List, [], ◌++◌, codes, decimal, if◌then◌else◌}
use Rattle.std.specs.List.{flat_map, range_with_len}

-- the numbers of the functions: from 1 to n
abbrev pub numbers : ℕ → List ℕ
numbers n = range_with_len 1 n

-- how often a function adds its argument
abbrev pub rounds : ℕ → ℕ
rounds k = k % 7 + 1

-- the argument with which it is started
abbrev pub argument : ℕ → ℕ
argument k = k * 37 % 101

-- Main sleeps behind each fiftieth start
abbrev pub sleeps : ℕ → Bool
sleeps k = k % 50 == 0

-- the line of a function
unfoldable pub function_line : ℕ → List ℕ
function_line k =
    codes "FUNCTION F" ++ decimal k ++ codes "(INT a) INT i; FOR i = 1 TO " ++ decimal (rounds k) ++ codes " DO total = total + a * i; END TraceMsg(\"F" ++ decimal k ++ codes " \" + IntToStr(a)); END\n"

-- its start, and the sleep behind it
unfoldable pub start_text : ℕ → List ℕ
start_text k =
    codes "TaskNew(\"F" ++ decimal k ++ codes "\", \"" ++ decimal (argument k) ++ codes "\", 0); " ++ (if sleeps k then codes "SleepMS(1); " else [])

-- the source: the sum, the functions, and Main with all starts
unfoldable pub workload_text : ℕ → List ℕ
workload_text n =
    codes "GLOBAL INT total;\n" ++ flat_map function_line (numbers n) ++ codes "FUNCTION Main() " ++ flat_map start_text (numbers n) ++ codes "END\n"

-- the millisecond that a sleep waits for
abbrev pub tick_line : ℕ → List ℕ
tick_line k = if sleeps k then codes "tick 1\n" else []

-- the script: Main is run, and then a tick for each sleep
unfoldable pub script_text : ℕ → List ℕ
script_text n = codes "run Main()\n" ++ flat_map tick_line (numbers n)
