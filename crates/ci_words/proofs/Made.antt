-- `make` names no file and no script.
use Rattle.std.proofs.Common.{◌≡◌, ℕ, zero, suc, refl, sym, ◌∙◌, ap, subst, Bool, true, false, if◌then◌else◌, Option, Some, None, List, [], length, nat_eq, ◌⊎◌, inl, inr}
use Rattle.std.specs.List.{starts_with}
use Rattle.std.specs.Prelude.{codes}
use Rattle.std.specs.Str.{bytes_eq}
use Rattle.ci_words.specs.declared.command.Command.{Command}
use Rattle.ci_words.specs.declared.command.Command.TheVariants as commands
use Rattle.ci_words.specs.declared.command.OptionName.{OptionName}
use Rattle.ci_words.specs.declared.command.OptionName.TheVariants as names
use Rattle.ci_words.specs.declared.role.Role.{Role}
use Rattle.ci_words.specs.declared.role.Role.TheVariants as roles
use Rattle.ci_words.specs.declared.order.Order.{Order}
use Rattle.ci_words.specs.Command.{option_named, option_spelling}
use Rattle.ci_words.specs.Order.{order_of}
use Rattle.ci_words.specs.Role.{word_at, role_at, role_after, role_by_spelling, role_of_option, same_role, index_before}
use Rattle.ci_words.proofs.Ordered.{IsOrdered}

-- the option of `make` is the number of workers
abbrev IsOfMake : Role → Type 0
IsOfMake roles.Command = Unit {0}
IsOfMake roles.Unknown = Unit {0}
IsOfMake roles.Plain = Unit {0}
IsOfMake (roles.Known name) = name ≡ names.Workers
IsOfMake (roles.Value name) = name ≡ names.Workers

named_make : (word : List ℕ) → (option_named commands.Make word ≡ None) ⊎ (option_named commands.Make word ≡ Some names.Workers)
named_make word = by_test (bytes_eq (option_spelling names.Workers) word) refl where
  by_test : (test : Bool) → bytes_eq (option_spelling names.Workers) word ≡ test → (option_named commands.Make word ≡ None) ⊎ (option_named commands.Make word ≡ Some names.Workers)
  by_test true same = inr (rw same refl)
  by_test false same = inl (rw same refl)

spelled_make : (word : List ℕ) → IsOfMake (role_by_spelling commands.Make word)
spelled_make word = by_test (starts_with nat_eq word (codes "--")) (option_named commands.Make word) (named_make word) where
  by_test : (answer : Bool) (named : Option OptionName) → (named ≡ None) ⊎ (named ≡ Some names.Workers) → IsOfMake (if answer then role_of_option named else roles.Plain)
  by_test false named is = tt
  by_test true named (inl none) = let Family : Option OptionName → Type 0 = λ o. IsOfMake (role_of_option o) in subst Family (sym none) tt
  by_test true named (inr some) = let Family : Option OptionName → Type 0 = λ o. IsOfMake (role_of_option o) in subst Family (sym some) refl

after_make : (before : Role) (word : List ℕ) → IsOfMake before → IsOfMake (role_after commands.Make before word)
after_make roles.Command word is = spelled_make word
after_make roles.Unknown word is = spelled_make word
after_make roles.Plain word is = spelled_make word
after_make (roles.Value name) word is = spelled_make word
after_make (roles.Known name) word is =
    let Family : OptionName → Type 0 = λ n. IsOfMake (role_after commands.Make (roles.Known n) word) in
    subst Family (sym is) refl

all_make : (words : List (List ℕ)) (at : ℕ) → IsOfMake (role_at commands.Make words at)
all_make words zero = tt
all_make words (suc at) = after_make (role_at commands.Make words at) (word_at words (suc at)) (all_make words at)

not_script : (role : Role) → IsOfMake role → same_role role (roles.Value names.Script) ≡ false
not_script roles.Command is = refl
not_script roles.Unknown is = refl
not_script roles.Plain is = refl
not_script (roles.Known name) is = let Family : OptionName → Type 0 = λ n. same_role (roles.Known n) (roles.Value names.Script) ≡ false in subst Family (sym is) refl
not_script (roles.Value name) is = let Family : OptionName → Type 0 = λ n. same_role (roles.Value n) (roles.Value names.Script) ≡ false in subst Family (sym is) refl

no_script : (words : List (List ℕ)) (end : ℕ) → index_before commands.Make words (roles.Value names.Script) end ≡ None
no_script words zero = refl
no_script words (suc end) = rw (not_script (role_at commands.Make words end) (all_make words end)) (no_script words end)

-- an order of `make` has no files
pub make_files : (words : List (List ℕ)) (order : Order) → IsOrdered words order → order.command ≡ commands.Make → order.files ≡ []
make_files words order is makes = ap (λ (o : Order). o.files) (is.order_is ∙ ap (λ c. order_of c words) makes)

-- nor a script
pub make_script : (words : List (List ℕ)) (order : Order) → IsOrdered words order → order.command ≡ commands.Make → order.script ≡ None
make_script words order is makes = ap (λ (o : Order). o.script) (is.order_is ∙ ap (λ c. order_of c words) makes) ∙ no_script words (length words)
