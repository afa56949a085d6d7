-- What tables say by number.
use Rattle.std.proofs.Common.{◌≡◌, ◌∙◌, ℕ, zero, suc, List, [], ◌∷◌, ◌++◌, map, take, Option, Some, None, option_map, slice_get, refl, sym, ap, append_assoc}
use Rattle.std.proofs.lemmas.List.{append-nil}
use Rattle.ci_tree.specs.Bound as to
use Rattle.ci_names.specs.Given.{Called, Heading}
use Rattle.ci_names.specs.Declarations as declarations
use Rattle.ci_names.specs.Declarations.{Function, Variable, each_behind, called_function}
use Rattle.ci_names.specs.Scopes.{variable_behind, variable_at}
use Rattle.ci_scopes.specs.declared.called.Heading as code_heading
use Rattle.ci_scopes.specs.declared.meaning.Meaning as code_meaning
use Rattle.ci_scopes.specs.Values.{heading_of, meaning_of}
use Rattle.ci_scopes.specs.Stands.{meanings_of}

get_map : {X Y : Type 0} (f : X → Y) (xs : List X) (n : ℕ) → slice_get (map f xs) n ≡ option_map f (slice_get xs n)
get_map f [] n = refl
get_map f (x ∷ xs) zero = refl
get_map f (x ∷ xs) (suc n) = get_map f xs n

map_map : {X Y Z : Type 0} (g : Y → Z) (f : X → Y) (o : Option X) → option_map g (option_map f o) ≡ option_map (λ x. g (f x)) o
map_map g f None = refl
map_map g f (Some x) = refl

get_behind : {A B : Type 0} (at : List A → A → B) (before xs : List A) (n : ℕ) → slice_get (each_behind (λ b x. at b x ∷ []) before xs) n ≡ option_map (at (before ++ take n xs)) (slice_get xs n)
get_behind at before [] n = refl
get_behind at before (x ∷ xs) zero = ap (λ b. Some (at b x)) (sym (append-nil before))
get_behind at before (x ∷ xs) (suc n) = get_behind at (before ++ x ∷ []) xs n ∙ ap (λ b. option_map (at b) (slice_get xs n)) (append_assoc before (x ∷ []) (take n xs))

abbrev call_of : ℕ → Heading → Called
call_of n h = record { callee = to.function n; heading = h }

-- the function of a number
pub called_is : (headings : List code_heading.Heading) (fs : List Function) (n : ℕ) (o : Option code_heading.Heading) → map heading_of headings ≡ map declarations.heading_of fs → o ≡ slice_get headings n →
    option_map (λ h. call_of n (heading_of h)) o ≡ called_function fs n
called_is headings fs n o h e =
    ap (option_map (λ x. call_of n (heading_of x))) e ∙ sym (map_map (call_of n) heading_of (slice_get headings n))
    ∙ ap (option_map (call_of n)) (sym (get_map heading_of headings n) ∙ ap (λ xs. slice_get xs n) h ∙ get_map declarations.heading_of fs n)
    ∙ map_map (call_of n) declarations.heading_of (slice_get fs n)

-- the variable of a number
pub variable_is : (meanings : List code_meaning.Meaning) (vs : List Variable) (n : ℕ) (o : Option code_meaning.Meaning) → map meaning_of meanings ≡ meanings_of vs → o ≡ slice_get meanings n →
    option_map meaning_of o ≡ variable_at vs n
variable_is meanings vs n o h e = ap (option_map meaning_of) e ∙ sym (get_map meaning_of meanings n) ∙ ap (λ xs. slice_get xs n) h ∙ get_behind variable_behind [] vs n
