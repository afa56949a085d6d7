-- What passes a test of each function of the files, and of each that every project has, passes it of what a name means.
use Rattle.std.specs.Prelude.{◌≡◌, refl, ℕ, Bool, true, false, if◌then◌else◌, List, [], ◌∷◌, ◌++◌, find, Option, Some, None, is_some, option_map, option_and_then, slice_get}
use Rattle.std.specs.Option.{option_or}
use Rattle.std.specs.List.{list_all}
use Rattle.std.specs.Str.{str_eq_ignore_ascii_case}
use Rattle.std.proofs.Common.{sym, ap, ◌∙◌, subst}
use Rattle.std.proofs.lemmas.Bool.{true≢false}
use Rattle.ci_tree.specs.Bound as to
use Rattle.ci_names.specs.Given.{Called, Given, private_functions, shared_functions, given_named}
use Rattle.ci_names.specs.Declarations.{Function, Declared, heading_of, called_function, function_number, function_named}
use Rattle.ci_names.specs.Scopes.{Scope, callee}
use Rattle.ci_names.proofs.Leads.{left_true, right_true}

abbrev Passes : (Called → Bool) → Option Called → Type 0
Passes test o = (called : Called) → o ≡ Some called → test called ≡ true

abbrev some_or : Called → Option Called → Called
some_or d None = d
some_or d (Some x) = x

same_passes : (test : Called → Bool) (x y : Called) → Some x ≡ Some y → test x ≡ true → test y ≡ true
same_passes test x y e h = ap (λ o. test (some_or x o)) (sym e) ∙ h

none_passes : (test : Called → Bool) → Passes test None
none_passes test called e = absurd (true≢false (sym (ap is_some e)))

found_if : (test : Called → Bool) (g : Given) (b : Bool) (o : Option Given) → test g.called ≡ true → Passes test (option_map (λ (x : Given). x.called) o) → Passes test (option_map (λ (x : Given). x.called) (if b then Some g else o))
found_if test g true o h next called e = same_passes test g.called called e h
found_if test g false o h next called e = next called e

found_passes : (test : Called → Bool) (is : Given → Bool) (gs : List Given) → list_all (λ (g : Given). test g.called) gs ≡ true → Passes test (option_map (λ (g : Given). g.called) (find is gs))
found_passes test is [] all = none_passes test
found_passes test is (g ∷ gs) all =
    found_if test g (is g) (find is gs) (left_true (test g.called) (list_all (λ (x : Given). test x.called) gs) all)
    (found_passes test is gs (right_true (test g.called) (list_all (λ (x : Given). test x.called) gs) all))

-- each function of the files passes
abbrev pub AllPass : (Called → Bool) → Declared → Type 0
AllPass test d = (n : ℕ) (f : Function) → slice_get d.functions n ≡ Some f → test (record { callee = to.function n; heading = heading_of f }) ≡ true

function_passes : (test : Called → Bool) (d : Declared) → AllPass test d → (n : ℕ) (o : Option Function) → slice_get d.functions n ≡ o → Passes test (option_map (λ (f : Function). record { callee = to.function n; heading = heading_of f }) o)
function_passes test d all n None h called e = none_passes test called e
function_passes test d all n (Some f) h called e = same_passes test (record { callee = to.function n; heading = heading_of f }) called e (all n f h)

number_passes : (test : Called → Bool) (d : Declared) → AllPass test d → (o : Option ℕ) → Passes test (option_and_then (called_function d.functions) o)
number_passes test d all None = none_passes test
number_passes test d all (Some n) = function_passes test d all n (slice_get d.functions n) refl

either_passes : (test : Called → Bool) (a b : Option Called) → Passes test a → Passes test b → Passes test (option_or a b)
either_passes test (Some x) b ha hb = ha
either_passes test None b ha hb = hb

pub callee_passes : (test : Called → Bool) (d : Declared) → AllPass test d → list_all (λ (g : Given). test g.called) (private_functions ++ shared_functions) ≡ true →
    (s : Scope) → s.declared ≡ d → (name : List ℕ) (called : Called) → callee s name ≡ Some called → test called ≡ true
callee_passes test d all given s same name =
    subst (λ x. Passes test (function_named x s.file name)) (sym same)
    (either_passes test (option_and_then (called_function d.functions) (function_number d.functions s.file name)) (given_named name)
    (number_passes test d all (function_number d.functions s.file name))
    (found_passes test (λ g. str_eq_ignore_ascii_case g.name name) (private_functions ++ shared_functions) given))
