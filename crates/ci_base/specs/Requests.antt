-- What the shared functions ask for, and which answers their requests may get.
use Rattle.std.specs.Prelude.{◌≡◌, ◌==◌, ℕ, ℤ, pos, Bool, true, false, List, [], ◌∷◌, slice_get, Some}
use Rattle.ci_base.specs.declared.value.Kind.{Kind}
use Rattle.ci_base.specs.declared.value.Kind.TheVariants as kinds
use Rattle.ci_base.specs.declared.value.Value.{Value}
use Rattle.ci_base.specs.declared.value.Value.TheVariants.{Int, Str}
use Rattle.ci_base.specs.declared.function.SharedName.{SharedName}
use Rattle.ci_base.specs.declared.function.SharedName.TheVariants as names
use Rattle.ci_base.specs.declared.request.Request.{Request}
use Rattle.ci_base.specs.declared.request.Request.TheVariants as requests
use Rattle.ci_base.specs.declared.reply.Answer.{Answer}
use Rattle.ci_base.specs.declared.reply.Extra.{Extra}
use Rattle.ci_base.specs.declared.reply.Extra.TheVariants as extras
use Rattle.ci_base.specs.declared.errors.TheConstants.{BAD_ARGUMENT}
use Rattle.ci_base.specs.Values.{kind_of}

-- values of other kinds, or another number of them, end the task; no project that compiles has this
abbrev pub misused : Request
misused = requests.End BAD_ARGUMENT

-- with nothing
abbrev pub plain_request : SharedName → Request
plain_request names.SysTime = requests.SysTime
plain_request names.End = requests.End 0
plain_request _ = misused

-- with an INT
abbrev pub int_request : SharedName → ℤ → Request
int_request names.TaskKill n = requests.TaskKill n
int_request names.TaskSuspend n = requests.TaskSuspend n
int_request names.TaskResume n = requests.TaskResume n
int_request names.Sleep n = requests.Sleep n
int_request names.SleepMS n = requests.SleepMS n
int_request names.SemSignal number = requests.SemSignal number
int_request names.SemClose number = requests.SemClose number
int_request names.QueLength number = requests.QueLength number
int_request names.QueClose number = requests.QueClose number
int_request _ n = misused

-- with a text
abbrev pub text_request : SharedName → List ℕ → Request
text_request names.TaskHnd name = requests.TaskHnd name
text_request names.Enter text = requests.Enter text
text_request names.Leave text = requests.Leave text
text_request names.Trace text = requests.Trace text
text_request _ text = misused

-- with two INTs
abbrev pub ints_request : SharedName → ℤ → ℤ → Request
ints_request names.SemWait number n = requests.SemWait number n
ints_request names.QueRead number mode = requests.QueRead number mode
ints_request _ number n = misused

-- with a text and an INT
abbrev pub text_int_request : SharedName → List ℕ → ℤ → Request
text_int_request names.SemOpen name mode = requests.SemOpen name mode
text_int_request names.QueOpen name mode = requests.QueOpen name mode
text_int_request _ name mode = misused

-- with two texts and an INT
abbrev pub texts_int_request : SharedName → List ℕ → List ℕ → ℤ → Request
texts_int_request names.TaskNew name list mode = requests.TaskNew name list mode
texts_int_request _ name list mode = misused

-- with two INTs and a text
abbrev pub ints_text_request : SharedName → ℤ → ℤ → List ℕ → Request
ints_text_request names.QueWrite number sort text = requests.QueWrite number sort text
ints_text_request _ number sort text = misused

-- the request that a shared function makes of these values
abbrev pub request_of : SharedName → List Value → Request
request_of name [] = plain_request name
request_of name (Int n ∷ []) = int_request name n
request_of name (Str s ∷ []) = text_request name s
request_of name (Int a ∷ Int b ∷ []) = ints_request name a b
request_of name (Str s ∷ Int n ∷ []) = text_int_request name s n
request_of name (Str s ∷ Str t ∷ Int n ∷ []) = texts_int_request name s t n
request_of name (Int a ∷ Int b ∷ Str s ∷ []) = ints_text_request name a b s
request_of name _ = misused

-- an INT, and nothing besides
pub record IsPlainAnswer (answer : Answer) : Type 0 where
  pub kind : kind_of answer.value ≡ kinds.Int
  pub alone : answer.extra ≡ extras.Nothing

-- a value of the cell's kind with code 0, and nothing besides
pub record IsCellAnswer (cells : List Kind) (cell : ℕ) (answer : Answer) : Type 0 where
  pub kind : slice_get cells cell ≡ Some (kind_of answer.value)
  pub good : answer.code ≡ 0
  pub alone : answer.extra ≡ extras.Nothing

-- the INT 0 with code 0, and nothing besides
abbrev pub done : Answer
done = record { value = Int (pos 0); code = 0; extra = extras.Nothing }

-- an element of a queue
abbrev pub is_element : Extra → Bool
is_element extras.Nothing = false
is_element (extras.Element sort text) = true

-- an INT, with an element exactly where the code is 0
pub record IsQueueAnswer (answer : Answer) : Type 0 where
  pub kind : kind_of answer.value ≡ kinds.Int
  pub element : is_element answer.extra ≡ (answer.code == 0)

-- the answers that a request may get, where the shared cells are of these kinds; the end of a task gets none
abbrev pub Fits : List Kind → Request → Answer → Type 0
Fits cells (requests.Read cell) answer = IsCellAnswer cells cell answer
Fits cells (requests.Write cell value) answer = answer ≡ done
Fits cells (requests.QueRead number mode) answer = IsQueueAnswer answer
Fits cells (requests.End code) answer = ⊥
Fits cells _ answer = IsPlainAnswer answer
