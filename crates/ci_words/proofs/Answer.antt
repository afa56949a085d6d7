use Rattle.std.proofs.Common.{◌≡◌, ℕ, ◌<◌, ◌≤◌, ◌==◌, ◌∙◌, arith, refl, sym, ap, subst, if◌then◌else◌, Option, Some, None, Result, Ok, Err, List, [], ◌∷◌}
use Rattle.ci_words.specs.declared.command.Command.{Command}
use Rattle.ci_words.specs.declared.fault.Fault.{Fault}
use Rattle.ci_words.specs.declared.fault.Fault.TheVariants as faults
use Rattle.ci_words.specs.declared.fault.WordFault.{WordFault}
use Rattle.ci_words.specs.declared.order.Order.{Order}
use Rattle.ci_words.specs.Command.{command_named}
use Rattle.ci_words.specs.Fault.{number_of, rank_of, HasFault, IsFirst}
use Rattle.ci_words.specs.Order.{OrdersAs, OrdersOf, Orders}

-- a rank tells the number
number_ranked : (fault : Fault) → number_of fault ≡ (if rank_of fault == 11 then 4 else rank_of fault)
number_ranked faults.UnknownOption = refl
number_ranked faults.ValueMissing = refl
number_ranked faults.NumberMissing = refl
number_ranked faults.FromMissing = refl
number_ranked faults.NotANumber = refl
number_ranked faults.OutOfRange = refl
number_ranked faults.Repeated = refl
number_ranked faults.NoFile = refl
number_ranked faults.TooManyFiles = refl
number_ranked faults.WordTooMany = refl

-- two faults that are given stand at one index
one_index : (command : Command) (words : List (List ℕ)) (fault other : Fault) (at there : ℕ) → IsFirst command words fault at → IsFirst command words other there → at ≡ there
one_index command words fault other at there first second =
    let not_before : at < there → ⊥ = λ less. second.1 at less fault first.0.0 in
    let not_behind : there < at → ⊥ = λ less. first.1 there less other second.0.0 in
    omega arith

-- and have one number
one_number : (command : Command) (words : List (List ℕ)) (fault other : Fault) (at there : ℕ) → IsFirst command words fault at → IsFirst command words other there → number_of fault ≡ number_of other
one_number command words fault other at there first second =
    let same = one_index command words fault other at there first second in
    let below : rank_of fault ≤ rank_of other = first.0.1 other (subst (λ (k : ℕ). HasFault command words other k) (sym same) second.0.0) in
    let above : rank_of other ≤ rank_of fault = second.0.1 fault (subst (λ (k : ℕ). HasFault command words fault k) same first.0.0) in
    let rank : rank_of fault ≡ rank_of other = omega arith in
    let number : ℕ → ℕ = λ r. if r == 11 then 4 else r in
    number_ranked fault ∙ ap number rank ∙ sym (number_ranked other)

-- words after one command come to one answer
one_as : (command : Command) (words : List (List ℕ)) (result other : Result Order WordFault) → OrdersAs command words result → OrdersAs command words other → other ≡ result
one_as command words (Ok order) (Ok order') asked asked' = ap Ok (asked'.1 ∙ sym asked.1)
one_as command words (Ok order) (Err refused) asked given = absurd (asked.0 given.1 given.0 given.2.0.0)
one_as command words (Err refused) (Ok order) given asked = absurd (asked.0 given.1 given.0 given.2.0.0)
one_as command words (Err refused) (Err refused') given given' =
    let index = one_index command words given.0 given'.0 given.1 given'.1 given.2 given'.2 in
    let number = one_number command words given.0 given'.0 given.1 given'.1 given.2 given'.2 in
    rw (given.3, given'.3, index, number) refl

-- words come to one answer
pub one_answer : (words : List (List ℕ)) (result other : Result Order WordFault) → Orders words result → Orders words other → other ≡ result
one_answer [] result other asked asked' = asked' ∙ sym asked
one_answer (first ∷ later) result other asked asked' = by_command (command_named first) asked asked' where
  by_command : (command : Option Command) → OrdersOf command (first ∷ later) result → OrdersOf command (first ∷ later) other → other ≡ result
  by_command (Some command) asked asked' = one_as command (first ∷ later) result other asked asked'
  by_command None asked asked' = asked' ∙ sym asked
