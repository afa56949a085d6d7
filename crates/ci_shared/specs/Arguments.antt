-- How the text of a list of arguments becomes the arguments of a function.
use Rattle.std.specs.Prelude.{ℕ, zero, suc, ◌+◌, ◌-◌, Bool, true, false, not, ◌&&◌, ◌||◌, ◌==◌, if◌then◌else◌, List, [], ◌∷◌, ◌++◌, length, map, take, drop, Option, Some, None, option_map, slice_get}
use Rattle.std.specs.List.{prefix_len}
use Rattle.ci_base.specs.declared.bounds.TheConstants.{MOST_PARAMETERS}
use Rattle.ci_base.specs.declared.layout.Head.{Head}
use Rattle.ci_base.specs.declared.value.Kind.{Kind}
use Rattle.ci_base.specs.declared.value.Value.{Value}
use Rattle.ci_base.specs.declared.value.Value.TheVariants as values
use Rattle.ci_base.specs.TextFunctions.{is_space}
use Rattle.ci_base.specs.Values.{kind_of}
use Rattle.ci_literals.specs.Ints.{int_of}
use Rattle.ci_literals.specs.Texts.{begins_quote, text_at}
use Rattle.ci_shared.specs.Words.{is_empty, same_kind}

-- a value at the front of a list, and what stands behind it
pub record Front : Type 0 where
  pub value : Value
  pub rest : List ℕ

-- without the spaces at the front
abbrev pub behind_spaces : List ℕ → List ℕ
behind_spaces s = drop (prefix_len is_space s) s

-- neither a comma nor a space, which end an INT
abbrev pub is_of_int : ℕ → Bool
is_of_int b = not (b == 44 || b == 32)

-- the bytes up to a comma or a space, as an INT
abbrev pub int_front : List ℕ → Option Front
int_front s =
    let n = prefix_len is_of_int s in
    option_map (λ z. record { value = values.Int z; rest = drop n s }) (int_of (take n s))

abbrev pub text_front : List ℕ → Option Front
text_front s = option_map (λ cut. record { value = values.Str cut.text; rest = cut.rest }) (text_at s)

-- a text where a quote stands at the front, else an INT
abbrev pub front : List ℕ → Option Front
front s = if begins_quote s then text_front s else int_front s

-- behind a value: the end, or a comma and more values
abbrev pub values_behind : (List ℕ → Option (List Value)) → List ℕ → Option (List Value)
values_behind more [] = Some []
values_behind more (b ∷ s) = if b == 44 then more s else None

abbrev pub values_from : (List ℕ → Option (List Value)) → Option Front → Option (List Value)
values_from more None = None
values_from more (Some x) = option_map (λ vs. x.value ∷ vs) (values_behind more (behind_spaces x.rest))

-- from one to n values, with commas between them, and spaces before and behind each or not
unfoldable pub values_in : ℕ → List ℕ → Option (List Value)
values_in zero s = None
values_in (suc n) s = values_from (λ rest. values_in n rest) (front (behind_spaces s))

-- The values of a list: none where it has spaces alone. One of more than 16 is as good as none, since it fits no function.
unfoldable pub list_of : List ℕ → Option (List Value)
list_of s = if is_empty (behind_spaces s) then Some [] else values_in MOST_PARAMETERS (behind_spaces s)

-- the arguments of a function: those that are given, and the last defaults for those that are left out
abbrev pub with_defaults : Head → List Value → List Value
with_defaults h vs = vs ++ drop (length vs + length h.defaults - length h.kinds) h.defaults

abbrev pub same_kinds : List Kind → List Kind → Bool
same_kinds [] [] = true
same_kinds [] (k ∷ ks) = false
same_kinds (k ∷ ks) [] = false
same_kinds (k ∷ ks) (l ∷ ls) = same_kind k l && same_kinds ks ls

-- they fit where they are of the kinds of its parameters
abbrev pub fitting : Head → List Value → Option (List Value)
fitting h vs = if same_kinds (map kind_of (with_defaults h vs)) h.kinds then Some (with_defaults h vs) else None

abbrev pub given_to : Option Head → Option (List Value) → Option (List Value)
given_to (Some h) (Some vs) = fitting h vs
given_to _ _ = None

-- what the function of a number takes from a list, where the list fits it
unfoldable pub arguments : List Head → ℕ → List ℕ → Option (List Value)
arguments hs f list = given_to (slice_get hs f) (list_of list)
