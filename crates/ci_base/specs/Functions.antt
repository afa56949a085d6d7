-- What the functions that every project has take and give.
use Rattle.std.specs.Prelude.{List, [], ◌∷◌}
use Rattle.ci_base.specs.declared.value.Kind.{Kind}
use Rattle.ci_base.specs.declared.value.Kind.TheVariants.{Int, Str}
use Rattle.ci_base.specs.declared.function.PrivateName.{PrivateName}
use Rattle.ci_base.specs.declared.function.PrivateName.TheVariants as names
use Rattle.ci_base.specs.declared.function.SharedName.{SharedName}
use Rattle.ci_base.specs.declared.function.SharedName.TheVariants as requests

-- the kinds of what a private function takes
abbrev pub private_takes : PrivateName → List Kind
private_takes names.StrLength = Str ∷ []
private_takes names.StrLeft = Str ∷ Int ∷ []
private_takes names.StrRight = Str ∷ Int ∷ []
private_takes names.StrMid = Str ∷ Int ∷ Int ∷ []
private_takes names.StrSearch = Int ∷ Str ∷ Str ∷ []
private_takes names.StrUpper = Str ∷ []
private_takes names.StrLower = Str ∷ []
private_takes names.StrTrim = Str ∷ []
private_takes names.StrFill = Str ∷ Int ∷ []
private_takes names.StrToInt = Str ∷ []
private_takes names.IntToStr = Int ∷ []
private_takes names.StrGetChar = Str ∷ Int ∷ []
private_takes names.CharToStr = Int ∷ []
private_takes names.Abs = Int ∷ []
private_takes names.Max = Int ∷ Int ∷ []
private_takes names.Min = Int ∷ Int ∷ []
private_takes names.Assert = Int ∷ []
private_takes names.ErrSet = Int ∷ []
private_takes names.IsError = []

-- the kind of its value
abbrev pub private_gives : PrivateName → Kind
private_gives names.StrLength = Int
private_gives names.StrLeft = Str
private_gives names.StrRight = Str
private_gives names.StrMid = Str
private_gives names.StrSearch = Int
private_gives names.StrUpper = Str
private_gives names.StrLower = Str
private_gives names.StrTrim = Str
private_gives names.StrFill = Str
private_gives names.StrToInt = Int
private_gives names.IntToStr = Str
private_gives names.StrGetChar = Int
private_gives names.CharToStr = Str
private_gives names.Abs = Int
private_gives names.Max = Int
private_gives names.Min = Int
private_gives names.Assert = Int
private_gives names.ErrSet = Int
private_gives names.IsError = Int

-- the kinds of what the request of a shared function has, in its order; the value of each is an INT
abbrev pub shared_takes : SharedName → List Kind
shared_takes requests.TaskNew = Str ∷ Str ∷ Int ∷ []
shared_takes requests.TaskKill = Int ∷ []
shared_takes requests.TaskSuspend = Int ∷ []
shared_takes requests.TaskResume = Int ∷ []
shared_takes requests.TaskHnd = Str ∷ []
shared_takes requests.Sleep = Int ∷ []
shared_takes requests.SleepMS = Int ∷ []
shared_takes requests.SemOpen = Str ∷ Int ∷ []
shared_takes requests.SemWait = Int ∷ Int ∷ []
shared_takes requests.SemSignal = Int ∷ []
shared_takes requests.SemClose = Int ∷ []
shared_takes requests.QueOpen = Str ∷ Int ∷ []
shared_takes requests.QueWrite = Int ∷ Int ∷ Str ∷ []
shared_takes requests.QueRead = Int ∷ Int ∷ []
shared_takes requests.QueLength = Int ∷ []
shared_takes requests.QueClose = Int ∷ []
shared_takes requests.Enter = Str ∷ []
shared_takes requests.Leave = Str ∷ []
shared_takes requests.Trace = Str ∷ []
shared_takes requests.SysTime = []
shared_takes requests.End = []
