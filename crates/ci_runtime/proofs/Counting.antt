-- The count of instructions, entry by entry; and a machine moved along a trail is a machine of the code that has come along it.
use Rattle.std.proofs.Common.{◌≡◌, ◌+◌, ◌≤◌, ◌++◌, ℕ, List, [], ◌∷◌, refl, sym, ap, subst, arith, append-nil, append_assoc, min}
use Rattle.ci_base.specs.declared.bounds.TheConstants.{MOST_INSTRUCTIONS}
use Rattle.ci_base.specs.declared.entry.Entry.{Entry}
use Rattle.ci_base.specs.declared.entry.Entry.TheVariants as entries
use Rattle.ci_base.specs.declared.event.Event.{Event}
use Rattle.ci_base.specs.declared.event.EventReply.{EventReply}
use Rattle.ci_base.specs.declared.reply.Answer.{Answer}
use Rattle.ci_base.specs.declared.reply.Reply.{Reply}
use Rattle.ci_base.specs.declared.request.Request.{Request}
use Rattle.ci_base.specs.Requests.{Fits}
use Rattle.ci_code.specs.declared.raw.RawParts.{RawParts}
use Rattle.ci_code.specs.Machine.{next, resume}
use Rattle.ci_code.specs.Moves.{Machine}
use Rattle.ci_runtime.proofs.Seating.{AtRequest}
use Rattle.ci_runtime.specs.Along.{AllBorn, Along, LedAlong, kinds}
use Rattle.ci_runtime.specs.Counting.{LedTo, CountsFrom, Counts}
use Rattle.ci_runtime.specs.Seats.{Runner, Seat}
use Rattle.ci_task.specs.Moved as task
use Rattle.ci_task.specs.Moved.{HasMoved, instructions_of, machine_of, moved, told_one}
use Rattle.ci_translation.specs.Alike.{Led}
use Rattle.ci_world.specs.Trails.{trail}
use Rattle.ci_world.specs.World.{Origin}

led_is : (code : RawParts) (m d : Machine) (answers : List Answer) → task.Led code m answers d → Led (next code) (resume code) (Fits (kinds code)) m answers d
led_is code m d [] l = l
led_is code m d (a ∷ answers) (k, q, at, stands, fits, l) = (k, q, at, stands, fits, led_is code (resume code at a) d answers l)

led_along : (code : RawParts) (o : Origin) (h : List Entry) (t k : ℕ) (m : Runner) → AllBorn code o h → (s : HasMoved code (trail o t h) k m) → LedAlong code (trail o t h) s.start
led_along code o h t k m all s = (s.birth, s.born, all t s.birth s.born, led_is code _ _ (trail o t h).answers s.led)

-- a machine moved along a trail
pub along_of : (code : RawParts) (o : Origin) (h : List Entry) (t k : ℕ) (m : Runner) → AllBorn code o h → moved code (trail o t h) k m → Along code (trail o t h) k (machine_of code m)
unfolding moved
along_of code o h t k m all s = (s.start, led_along code o h t k m all s, (s.number, s.steps))

from_snoc : (code : RawParts) (o : Origin) (before h : List Entry) (e : Entry) (n a : ℕ) → CountsFrom code o before h n → LedTo code o (before ++ h) e a → CountsFrom code o before (h ++ e ∷ []) (n + a)
from_snoc code o before [] e n a c l = (a, 0, subst (λ (x : List Entry). LedTo code o x e a) (append-nil before) l, refl, omega (arith, c))
from_snoc code o before (x ∷ h) e n a (b, d, l, more, is) led =
    (b, d + a, l, from_snoc code o (before ++ x ∷ []) h e d a more (subst (λ (y : List Entry). LedTo code o y e a) (sym (append_assoc before (x ∷ []) h)) led), omega (arith, is))

capped : (n a most shown count shown' : ℕ) → shown ≡ min n most → count ≡ min a most → shown' ≡ min (shown + count) most → shown' ≡ min (n + a) most
capped n a most shown count shown' e f g = omega (arith, e, f, g)

pub counts_event : (code : RawParts) (o : Origin) (h : List Entry) (e : Event) (r : EventReply) (shown : ℕ) → Counts code o h shown → Counts code o (h ++ entries.Script e r ∷ []) shown
unfolding Counts
counts_event code o h e r shown (n, c, is) = (n + 0, from_snoc code o [] h (entries.Script e r) n 0 c refl, omega (arith, is))

one_more : (n count told most : ℕ) → count ≡ min n most → told ≡ 1 → min (count + told) most ≡ min (n + 1) most
one_more n count told most e f = omega (arith, e, f)

-- the machine at its request tells what led to it
led_to : (code : RawParts) (o : Origin) (h : List Entry) (u k : ℕ) (old mid : List Seat) (q : Request) (r : Reply) → AllBorn code o h → (p : AtRequest code o h u k old mid q) → (a : ℕ) × LedTo code o h (entries.Ask u k q r) a × (instructions_of p.machine ≡ min a MOST_INSTRUCTIONS)
unfolding moved
led_to code o h u k old mid q r all p =
    let s : HasMoved code (trail o u h) k p.machine = p.along in
    (s.number + 1, (s.start, led_along code o h u k p.machine all s, (s.number, machine_of code p.machine, s.steps, p.stands, refl)), one_more s.number p.machine.count (told_one p.machine.told) MOST_INSTRUCTIONS s.counted (ap told_one p.told))

pub counts_ask : (code : RawParts) (o : Origin) (h : List Entry) (u k : ℕ) (old mid : List Seat) (q : Request) (r : Reply) (shown shown' : ℕ) → AllBorn code o h → (p : AtRequest code o h u k old mid q) → Counts code o h shown → shown' ≡ min (shown + instructions_of p.machine) MOST_INSTRUCTIONS → Counts code o (h ++ entries.Ask u k q r ∷ []) shown'
unfolding Counts
counts_ask code o h u k old mid q r shown shown' all p (n, c, is) g =
    let (a, l, count) = led_to code o h u k old mid q r all p in
    (n + a, from_snoc code o [] h (entries.Ask u k q r) n a c l, capped n a MOST_INSTRUCTIONS shown (instructions_of p.machine) shown' is count g)

pub most_of : (code : RawParts) (o : Origin) (h : List Entry) (shown : ℕ) → Counts code o h shown → shown ≤ MOST_INSTRUCTIONS
unfolding Counts
most_of code o h shown (n, c, is) = omega (arith, is)

pub no_counts : (code : RawParts) (o : Origin) → Counts code o [] 0
unfolding Counts
no_counts code o = (0, refl, refl)

pub count_most : (m : Runner) → instructions_of m ≤ MOST_INSTRUCTIONS
count_most m = omega arith
