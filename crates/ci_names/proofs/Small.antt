-- The rooms of bound projects are small, since levels don't nest deeply.
use Rattle.std.specs.Prelude.{◌≡◌, refl, ℕ, ◌+◌, ◌≤◌, max, true, List, [], length, Option, Some, None, is_some, option_map, slice_get}
use Rattle.std.proofs.Common.{sym, ap, ◌∙◌, subst}
use Rattle.std.proofs.lemmas.Bool.{true≢false}
use Rattle.std.proofs.lemmas.Option.{slice_get-map}
use native.Mathlib.Omega.{arith}
use Rattle.ci_base.specs.declared.bounds.TheConstants.{MOST_LEVELS, MOST_LOCALS, MOST_ROOM}
use Rattle.ci_tree.specs.Tree.{Item}
use Rattle.ci_tree.specs.Bound as to
use Rattle.ci_tree.specs.Bound.{Project}
use Rattle.ci_tree.specs.Rooms.{room, block_width}
use Rattle.ci_tree.specs.Sound.{context_of}
use Rattle.ci_names.specs.Declarations.{Function, Declared, declared_in, each_behind}
use Rattle.ci_names.specs.Scopes.{scope_of}
use Rattle.ci_names.specs.Faults.{function_faults, variable_faults, declared_faults}
use Rattle.ci_names.specs.Binding.{bound_function, bound_declared, binds}
use Rattle.ci_names.specs.Laws.{AreDerived}
use Rattle.ci_names.proofs.Free.{is_free}
use Rattle.ci_names.proofs.Bodies.{free_left}
use Rattle.ci_names.proofs.Derived.{of_derived}
use Rattle.ci_names.proofs.Tall.{block_tall, body_small}
use Rattle.ci_names.proofs.Widths.{FewParams, block_wide}
use Rattle.ci_names.proofs.Whole.{member_at, sorted_none, function_params, function_body, function_stood, defaults_right, params_within, locals_few}

-- what a body that the grammar gives can need at once
abbrev limit : ℕ
limit = 781

pub params_few : (d : Declared) → is_free (each_behind (function_faults d) [] d.functions) ≡ true → FewParams d
params_few d h n f e =
    let found = member_at (function_faults d) [] d.functions n f h e in
    params_within (scope_of d f) f.params (function_params d found.0 f found.1)

room_sum : (a b w : ℕ) → a + b ≤ MOST_LOCALS → w ≤ limit → a + b + max 1 w ≤ MOST_ROOM
room_sum a b w h i = omega arith

function_room : (d : Declared) → is_free (each_behind (function_faults d) [] d.functions) ≡ true → (n : ℕ) (f : Function) → slice_get d.functions n ≡ Some f → block_tall f.body ≤ limit → room (bound_function d f) ≤ MOST_ROOM
function_room d h n f e small =
    let found = member_at (function_faults d) [] d.functions n f h e in
    let g = bound_function d f in
    room_sum (length g.params) (length g.others) (block_width g.body) (locals_few d found.0 f found.1)
    (block_wide d (context_of (bound_declared d) g) (scope_of d f) (params_few d h) f.body [] (function_stood d f (defaults_right d h)) (function_body d found.0 f found.1) limit (omega arith) small)

room_if : (d : Declared) → is_free (each_behind (function_faults d) [] d.functions) ≡ true → (n : ℕ) (o : Option Function) → slice_get d.functions n ≡ o → ((f : Function) → o ≡ Some f → block_tall f.body ≤ limit) →
    (g : to.Function) → option_map (bound_function d) o ≡ Some g → room g ≤ MOST_ROOM
room_if d h n None e small g same = absurd (true≢false (sym (ap is_some same)))
room_if d h n (Some f) e small g same = subst (λ o. room (function_or g o) ≤ MOST_ROOM) same (function_room d h n f e (small f refl))
  where
    function_or : to.Function → Option to.Function → to.Function
    function_or x None = x
    function_or x (Some y) = y

pub rooms_are_small : (files : List (List Item)) (project : Project) → AreDerived files → binds files project → (n : ℕ) (g : to.Function) → slice_get project.functions n ≡ Some g → room g ≤ MOST_ROOM
rooms_are_small files project derived h n g e =
    let d = declared_in files in
    let free = free_left (each_behind (function_faults d) [] d.functions) (each_behind (variable_faults d) [] d.variables) (sorted_none (declared_faults d) h.0) in
    room_if d free n (slice_get d.functions n) refl (λ f same. of_derived (λ b. block_tall b ≤ limit) (λ i b is. body_small MOST_LEVELS i b is) files derived n f same) g
    (sym (slice_get-map (bound_function d) d.functions n) ∙ ap (λ p. slice_get p.functions n) (sym h.1) ∙ e)
