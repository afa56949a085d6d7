-- How values are compared.
use Rattle.std.specs.Prelude.{Bool, false, ◌&&◌}
use Rattle.std.specs.declared.cmp.Ordering.{Ordering}
use Rattle.std.specs.Ordering.{is_eq, is_ne, is_lt, is_gt, is_le, is_ge, nat_cmp, int_cmp}
use Rattle.std.specs.Cmp.Lexicographic.{slice_cmp}
use Rattle.ci_base.specs.declared.relation.Relation.{Relation}
use Rattle.ci_base.specs.declared.relation.Relation.TheVariants.{Equal, Unequal, Less, Greater, AtMost, AtLeast}
use Rattle.ci_base.specs.declared.value.Value.{Value}
use Rattle.ci_base.specs.declared.value.Value.TheVariants.{Int, Str}

-- whether a relation holds of two values of which the first stands so to the second
abbrev pub relates : Relation → Ordering → Bool
relates Equal order = is_eq order
relates Unequal order = is_ne order
relates Less order = is_lt order
relates Greater order = is_gt order
relates AtMost order = is_le order
relates AtLeast order = is_ge order

-- whether a relation holds of two values: INTs are compared as numbers, and texts by the first byte that differs, or
-- where one begins the other by length. No relation holds of an INT and a text, and no project compares such
abbrev pub holds : Relation → Value → Value → Bool
holds relation (Int a) (Int b) = relates relation (int_cmp a b)
holds relation (Str a) (Str b) = relates relation (slice_cmp nat_cmp a b)
holds relation _ _ = false

-- both are one value
abbrev pub same : Value → Value → Bool
same a b = holds Equal a b

-- the value lies from the low one to the high one, both among them
abbrev pub within : Value → Value → Value → Bool
within value low high = holds AtLeast value low && holds AtMost value high
