-- Small words on texts, numbers and lists.
use Rattle.std.specs.Prelude.{ℕ, zero, suc, ℤ, pos, negsuc, Bool, true, false, ◌&&◌, ◌||◌, nat_eq, nat_lt, List, [], ◌∷◌}
use Rattle.std.specs.Ordering.{int_eq}
use Rattle.ci_base.specs.declared.value.Kind.{Kind}
use Rattle.ci_base.specs.declared.value.Kind.TheVariants as kinds

abbrev pub is_empty : List ℕ → Bool
is_empty [] = true
is_empty (b ∷ bs) = false

-- byte by byte the same
abbrev pub same_text : List ℕ → List ℕ → Bool
same_text [] [] = true
same_text [] (b ∷ bs) = false
same_text (a ∷ as') [] = false
same_text (a ∷ as') (b ∷ bs) = nat_eq a b && same_text as' bs

-- earlier in the order of bytes
abbrev pub comes_first : List ℕ → List ℕ → Bool
comes_first [] [] = false
comes_first [] (b ∷ bs) = true
comes_first (a ∷ as') [] = false
comes_first (a ∷ as') (b ∷ bs) = nat_lt a b || (nat_eq a b && comes_first as' bs)

-- a number that counts; a negative one is 0, which no task has and by which no clock moves
abbrev pub whole : ℤ → ℕ
whole (pos n) = n
whole (negsuc n) = 0

-- a mode in which an object is opened by its name
abbrev pub is_mode : ℤ → Bool
is_mode m = int_eq m (pos 0) || int_eq m (pos 1) || int_eq m (pos 2)

-- the list with the member at a place changed
abbrev pub change : {X : Type 0} → (X → X) → ℕ → List X → List X
change f n [] = []
change f zero (x ∷ xs) = f x ∷ xs
change f (suc n) (x ∷ xs) = x ∷ change f n xs

abbrev pub same_kind : Kind → Kind → Bool
same_kind kinds.Int kinds.Int = true
same_kind kinds.Int kinds.Str = false
same_kind kinds.Str kinds.Int = false
same_kind kinds.Str kinds.Str = true
