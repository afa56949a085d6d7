-- The smallest workload and the first scripts, written out by hand; lines of others; the lengths of the smallest and the longest.
use Rattle.std.proofs.Common.{◌≡◌, length, codes, refl}
use Rattle.std.specs.Fmt.{digits}
use Rattle.ci_workload.specs.Workload.{function_line, start_text, workload_text, script_text}

workload_of_one :
    workload_text 1 ≡ codes "GLOBAL INT total;\nFUNCTION F1(INT a) INT i; FOR i = 1 TO 2 DO total = total + a * i; END TraceMsg(\"F1 \" + IntToStr(a)); END\nFUNCTION Main() TaskNew(\"F1\", \"37\", 0); END\n"
unfolding workload_text function_line start_text digits
workload_of_one = refl

length_of_one : length (workload_text 1) ≡ 168
unfolding workload_text function_line start_text digits
length_of_one = refl

length_of_900 : length (workload_text 900) ≡ 122251
unfolding workload_text function_line start_text digits
length_of_900 = refl

-- the last one
function_of_900 : function_line 900 ≡ codes "FUNCTION F900(INT a) INT i; FOR i = 1 TO 5 DO total = total + a * i; END TraceMsg(\"F900 \" + IntToStr(a)); END\n"
unfolding function_line digits
function_of_900 = refl

-- a start with a sleep behind it
start_of_900 : start_text 900 ≡ codes "TaskNew(\"F900\", \"71\", 0); SleepMS(1); "
unfolding start_text digits
start_of_900 = refl

start_of_51 : start_text 51 ≡ codes "TaskNew(\"F51\", \"69\", 0); "
unfolding start_text digits
start_of_51 = refl

script_of_49 : script_text 49 ≡ codes "run Main()\n"
unfolding script_text
script_of_49 = refl

script_of_100 : script_text 100 ≡ codes "run Main()\ntick 1\ntick 1\n"
unfolding script_text
script_of_100 = refl
