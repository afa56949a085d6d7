-- How many wait after a call.
use Rattle.std.proofs.Common.{◌≡◌, ◌≤◌, ℕ, List, [], ◌∷◌, length, ap, arith}
use Rattle.ci_base.specs.declared.reply.Answer.{Answer}
use Rattle.ci_base.specs.declared.task.Delivery.{Delivery}
use Rattle.ci_shared.specs.declared.waiter.Waiter.{Waiter}
use Rattle.ci_shared.specs.Roster.{lines_after, without}
use Rattle.ci_shared.specs.Rows.{Follows, Row}
use Rattle.ci_shared.proofs.Counting.{no_longer}

shorter_after : (ds : List Delivery) (ws : List Waiter) → length (lines_after ds ws) ≤ length ws
shorter_after [] ws = omega arith
shorter_after (d ∷ ds) ws =
    let rest : length (lines_after ds (without d.task ws)) ≤ length (without d.task ws) = shorter_after ds (without d.task ws) in
    let one : length (without d.task ws) ≤ length ws = no_longer d.task ws in
    omega (arith, rest, one)

-- no more than before, where some were answered
pub shorter : (ds : List Delivery) (ws ws' : List Waiter) (n : ℕ) → ws' ≡ lines_after ds ws → length ws ≤ n → length ws' ≤ n
shorter ds ws ws' n e few =
    let same : length ws' ≡ length (lines_after ds ws) = ap (λ (l : List Waiter). length l) e in
    let less : length (lines_after ds ws) ≤ length ws = shorter_after ds ws in
    omega (arith, same, less, few)

-- the same of a call that did what its row says
pub followed : {O : Type 0} {row : Row O} {a : Answer} {new : O} {ws ws' : List Waiter} {woken woken' : List Delivery} (n : ℕ) → Follows row a new ws ws' woken woken' → length ws ≤ n → length ws' ≤ n
followed {row = row} {ws = ws} {ws' = ws'} n f few = shorter row.deliveries ws ws' n f.lines_are few
