-- What the lists of code are made of: few bytes, and numbers that a word holds.
use Rattle.std.proofs.Common.{◌≡◌, ℕ, ◌+◌, ◌<◌, ◌≤◌, ◌^◌, Bool, true, List, [], ◌∷◌, length, map, take, drop, All, arith}
use Rattle.std.proofs.lemmas.Bool.{leb-true}
use Rattle.std.proofs.lemmas.List.Elements.{All-nil, All-cons, All-head, All-tail, All-same, All-weaker}
use Rattle.std.specs.List.{list_all}
use Rattle.std.specs.Prelude.{◌&&◌, nat_le}
use Rattle.ci_base.specs.declared.bounds.TheConstants.{MOST_TEXT_BYTES, MOST_CELLS}
use Rattle.ci_translation.proofs.Facts.{and_both, project_parts}
use Rattle.ci_translation.specs.Translation.{texts}
use Rattle.ci_tree.specs.Bound.{Array, Cell, Project}
use Rattle.ci_tree.specs.Operators.{same_kind}
use Rattle.ci_tree.specs.declared.bound.Array as code
use Rattle.ci_tree.specs.declared.bound.ProjectParts.{ProjectParts}
use Rattle.ci_tree.specs.Projects.{IsProject}
use Rattle.ci_tree.specs.SeenBound.{array_of, project_of}
use Rattle.ci_tree.specs.Sound.{is_array}
use Rattle.ci_emit.proofs.Texts.{texts_few}

-- what holds of all members as they are seen
pub unmapped : {A B : Type 0} (P : B → Type 0) (f : A → B) (xs : List A) → All P (map f xs) → All (λ x. P (f x)) xs
unmapped P f [] h = All-nil (λ x. P (f x))
unmapped P f (x ∷ xs) h = All-cons (λ y. P (f y)) x xs (All-head P (f x) (map f xs) h) (unmapped P f xs (All-tail P (f x) (map f xs) h))

each_passes : {A : Type 0} (test : A → Bool) (xs : List A) → list_all test xs ≡ true → All (λ x. test x ≡ true) xs
each_passes test [] h = All-nil (λ x. test x ≡ true)
each_passes test (x ∷ xs) h =
    let (first, rest) = and_both (test x) (list_all test xs) h in
    All-cons (λ y. test y ≡ true) x xs first (each_passes test xs rest)

within : (first size cells : ℕ) → first + size ≤ cells → cells ≤ MOST_CELLS → (first < 2 ^ 32) × (size < 2 ^ 32)
within first size cells h i = (omega arith, omega arith)

array_within : (p : Project) → IsProject p → (a : Array) → is_array p a ≡ true → (a.first < 2 ^ 32) × (a.length < 2 ^ 32)
array_within p is a h =
    let x = nat_le 1 a.length in
    let y = nat_le (a.first + a.length) (length p.cells) in
    let (xy, rest) = and_both (x && y) (list_all (λ (c : Cell). same_kind a.kind c.kind) (take a.length (drop a.first p.cells))) h in
    let (some, in_cells) = and_both x y xy in
    within a.first a.length (length p.cells) (leb-true (a.first + a.length) (length p.cells) in_cells) ((project_parts p is.sound).cells)

pub arrays_within : (parts : ProjectParts) → IsProject (project_of parts) → (xs : List code.Array) → xs ≡ parts.arrays → All (λ (a : code.Array). (a.first < 2 ^ 32) × (a.length < 2 ^ 32)) xs
arrays_within parts is xs same =
    let p = project_of parts in
    All-same (λ (a : code.Array). (a.first < 2 ^ 32) × (a.length < 2 ^ 32)) xs parts.arrays same
    (All-weaker (λ (a : code.Array). is_array p (array_of a) ≡ true) (λ (a : code.Array). (a.first < 2 ^ 32) × (a.length < 2 ^ 32)) (λ a h. array_within p is (array_of a) h) parts.arrays
    (unmapped (λ (a : Array). is_array p a ≡ true) array_of parts.arrays (each_passes (is_array p) p.arrays ((project_parts p is.sound).arrays))))

pub firsts_within : (parts : ProjectParts) → IsProject (project_of parts) → (xs : List code.Array) → xs ≡ parts.arrays → All (λ (a : code.Array). a.first < 2 ^ 32) xs
firsts_within parts is xs same = All-weaker (λ (a : code.Array). (a.first < 2 ^ 32) × (a.length < 2 ^ 32)) (λ (a : code.Array). a.first < 2 ^ 32) (λ a h. h.0) xs (arrays_within parts is xs same)

pub lengths_within : (parts : ProjectParts) → IsProject (project_of parts) → (xs : List code.Array) → xs ≡ parts.arrays → All (λ (a : code.Array). a.length < 2 ^ 32) xs
lengths_within parts is xs same = All-weaker (λ (a : code.Array). (a.first < 2 ^ 32) × (a.length < 2 ^ 32)) (λ (a : code.Array). a.length < 2 ^ 32) (λ a h. h.1) xs (arrays_within parts is xs same)

-- texts that are the project's have few bytes
pub lists_few : {A : Type 0} (p : Project) → IsProject p → (f : A → List ℕ) (xs : List A) → map f xs ≡ texts p → All (λ x. length (f x) ≤ MOST_TEXT_BYTES) xs
lists_few p is f xs same = unmapped (λ (text : List ℕ). length text ≤ MOST_TEXT_BYTES) f xs (All-same (λ (text : List ℕ). length text ≤ MOST_TEXT_BYTES) (map f xs) (texts p) same (texts_few p is))
