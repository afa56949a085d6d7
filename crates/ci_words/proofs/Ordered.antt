-- What holds of words that come to an order.
use Rattle.std.proofs.Common.{◌≡◌, ℕ, zero, suc, refl, sym, ◌∙◌, ap, subst, Bool, true, false, if◌then◌else◌, Option, Some, None, Result, Ok, Err, List, [], ◌∷◌, length, nat_eq}
use Rattle.std.specs.List.{find, starts_with}
use Rattle.std.specs.Prelude.{codes}
use Rattle.std.specs.Str.{bytes_eq}
use Rattle.ci_words.specs.declared.command.Command.{Command}
use Rattle.ci_words.specs.declared.command.Command.TheVariants as commands
use Rattle.ci_words.specs.declared.command.OptionName.{OptionName}
use Rattle.ci_words.specs.declared.command.OptionName.TheVariants as names
use Rattle.ci_words.specs.declared.role.Role.{Role}
use Rattle.ci_words.specs.declared.role.Role.TheVariants as roles
use Rattle.ci_words.specs.declared.fault.WordFault.{WordFault}
use Rattle.ci_words.specs.declared.order.Order.{Order}
use Rattle.ci_words.specs.Bounds.{IsInBounds}
use Rattle.ci_words.specs.Command.{command_named, option_named, option_spelling, options_of}
use Rattle.ci_words.specs.Fault.{IsFree}
use Rattle.ci_words.specs.Order.{order_of, OrdersOf, Orders}
use Rattle.ci_words.specs.Role.{word_at, role_at, role_after, role_by_spelling, role_of_option, same_role, index_before}
use Rattle.ci_words.proofs.InBounds.{order_within}

-- The words of an order: the first one spells its command, they have no fault, and the order is what they ask for.
pub record IsOrdered (words : List (List ℕ)) (order : Order) : Type 0 where
  pub spelled : command_named (word_at words 0) ≡ Some order.command
  pub free : IsFree order.command words
  pub order_is : order ≡ order_of order.command words

refused_clash : (order : Order) (fault : WordFault) → Result.Ok order ≡ Err fault → ⊥
refused_clash order fault same =
    let Family : Result Order WordFault → Type 0 = λ r. elim r [ Ok o ↦ Unit {0} | Err e ↦ ⊥ ] in
    subst Family same tt

pub ordered : (words : List (List ℕ)) (order : Order) → Orders words (Ok order) → IsOrdered words order
ordered [] order asked = absurd (refused_clash order _ asked)
ordered (first ∷ later) order asked = by_command (command_named first) refl asked where
  by_command : (named : Option Command) → command_named first ≡ named → OrdersOf named (first ∷ later) (Ok order) → IsOrdered (first ∷ later) order
  by_command None same asked = absurd (refused_clash order _ asked)
  by_command (Some command) same asked =
      let command_is : order.command ≡ command = ap (λ o. o.command) asked.1 in
      let Free : Command → Type 0 = λ c. IsFree c (first ∷ later) in
      let Is : Command → Type 0 = λ c. order ≡ order_of c (first ∷ later) in
      record {
        spelled = same ∙ ap Some (sym command_is);
        free = subst Free (sym command_is) asked.0;
        order_is = subst Is (sym command_is) asked.1;
      }

-- an order that is given is within its bounds
pub ordered_within : (words : List (List ℕ)) (order : Order) → IsOrdered words order → IsInBounds words order
ordered_within words order is =
    let Within : Order → Type 0 = IsInBounds words in
    subst Within (sym is.order_is) (order_within order.command words is.free)

-- neither an option of the command nor its value
abbrev IsBare : Role → Type 0
IsBare roles.Command = Unit {0}
IsBare roles.Unknown = Unit {0}
IsBare roles.Plain = Unit {0}
IsBare (roles.Known name) = ⊥
IsBare (roles.Value name) = ⊥

-- a command without options
spelled_bare : (command : Command) (word : List ℕ) → options_of command ≡ [] → IsBare (role_by_spelling command word)
spelled_bare command word none = by_test (starts_with nat_eq word (codes "--")) (option_named command word) (ap (λ names. find (λ name. bytes_eq (option_spelling name) word) names) none) where
  by_test : (answer : Bool) (named : Option OptionName) → named ≡ None → IsBare (if answer then role_of_option named else roles.Plain)
  by_test false named same = tt
  by_test true None same = tt
  by_test true (Some name) same = absurd (cc same)

after_bare : (command : Command) (before : Role) (word : List ℕ) → options_of command ≡ [] → IsBare before → IsBare (role_after command before word)
after_bare command roles.Command word none bare = spelled_bare command word none
after_bare command roles.Unknown word none bare = spelled_bare command word none
after_bare command roles.Plain word none bare = spelled_bare command word none
after_bare command (roles.Known name) word none bare = absurd bare
after_bare command (roles.Value name) word none bare = absurd bare

all_bare : (command : Command) (words : List (List ℕ)) (at : ℕ) → options_of command ≡ [] → IsBare (role_at command words at)
all_bare command words zero none = tt
all_bare command words (suc at) none = after_bare command (role_at command words at) (word_at words (suc at)) none (all_bare command words at none)

not_workers : (role : Role) → IsBare role → same_role role (roles.Value names.Workers) ≡ false
not_workers roles.Command bare = refl
not_workers roles.Unknown bare = refl
not_workers roles.Plain bare = refl
not_workers (roles.Known name) bare = absurd bare
not_workers (roles.Value name) bare = absurd bare

no_index : (command : Command) (words : List (List ℕ)) (end : ℕ) → options_of command ≡ [] → index_before command words (roles.Value names.Workers) end ≡ None
no_index command words zero none = refl
no_index command words (suc end) none = rw (not_workers (role_at command words end) (all_bare command words end none)) (no_index command words end none)

-- so an order of such a command has no workers
bare_alone : (words : List (List ℕ)) (order : Order) (command : Command) → options_of command ≡ [] → IsOrdered words order → order.command ≡ command → order.limits.workers ≡ 0
bare_alone words order command none is same =
    let Alone : Command → Type 0 = λ c. (order_of c words).limits.workers ≡ 0 in
    let alone : (order_of command words).limits.workers ≡ 0 = rw (no_index command words (length words) none) refl in
    ap (λ o. o.limits.workers) is.order_is ∙ subst Alone (sym same) alone

-- `check` has no options
pub check_alone : (words : List (List ℕ)) (order : Order) → IsOrdered words order → order.command ≡ commands.Check → order.limits.workers ≡ 0
check_alone words order is check = bare_alone words order commands.Check refl is check

-- nor has `list`
pub list_alone : (words : List (List ℕ)) (order : Order) → IsOrdered words order → order.command ≡ commands.List → order.limits.workers ≡ 0
list_alone words order is list = bare_alone words order commands.List refl is list
