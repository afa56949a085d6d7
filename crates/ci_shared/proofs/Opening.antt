-- The ways out of the row that opens an object, where the name and the mode are good and no object has the name.
use Rattle.std.proofs.Common.{◌≡◌, ℕ, ℤ, pos, Bool, true, false, cond, Option, None, refl, sym, ap, ap₂, ◌∙◌, subst}
use Rattle.std.specs.Prelude.{◌||◌, ◌+ℤ◌, not, nat_le}
use Rattle.std.specs.Ordering.{int_eq}
use Rattle.ci_base.specs.declared.bounds.TheConstants.{MOST_OBJECTS}
use Rattle.ci_base.specs.declared.reply.Answer.{Answer}
use Rattle.ci_shared.specs.Rows.{FollowsNaming, Naming, last_number, number, opens, plain, refused}

module _ (O : Type 0) (empty allowed : Bool) (mode next : ℤ) (known : Option ℤ) (many : ℕ) (old new : O) (full : empty ≡ false) (good : allowed ≡ true) (unknown : known ≡ None) (making : int_eq mode (pos 0) ≡ false) where
  abbrev refuses : ℕ → Naming O
  refuses code = record { objects = old; next = next; reply = refused code }

  abbrev makes : Naming O
  makes = record { objects = new; next = next +ℤ pos 1; reply = number next }

  abbrev row : Naming O
  row = cond (empty || not allowed) (refuses 10) (opens mode next known many old new)

  row_is : (crowded last : Bool) → nat_le MOST_OBJECTS many ≡ crowded → int_eq next last_number ≡ last → row ≡ cond (crowded || last) (refuses 11) makes
  row_is crowded last m l =
      ap₂ (λ (b c : Bool). cond (b || not c) (refuses 10) (opens mode next known many old new)) full good
      ∙ ap (λ (o : Option ℤ). opens mode next o many old new) unknown
      ∙ ap (λ (d : Bool). cond d (refuses 5) (cond (nat_le MOST_OBJECTS many || int_eq next last_number) (refuses 11) makes)) making
      ∙ ap₂ (λ (b c : Bool). cond (b || c) (refuses 11) makes) m l

  -- there are as many as there may be
  pub crowded_out : (a : Answer) → nat_le MOST_OBJECTS many ≡ true → a ≡ plain (refused 11) → FollowsNaming row a old next
  crowded_out a m is_a = subst (λ (r : Naming O). FollowsNaming r a old next) (sym (row_is true (int_eq next last_number) m refl)) (record { answer_is = is_a; objects_are = refl; next_is = refl })

  -- no number is left
  pub numbers_end : (a : Answer) → nat_le MOST_OBJECTS many ≡ false → int_eq next last_number ≡ true → a ≡ plain (refused 11) → FollowsNaming row a old next
  numbers_end a m l is_a = subst (λ (r : Naming O). FollowsNaming r a old next) (sym (row_is false true m l)) (record { answer_is = is_a; objects_are = refl; next_is = refl })

  pub is_made : (a : Answer) (now : O) (next' : ℤ) → nat_le MOST_OBJECTS many ≡ false → int_eq next last_number ≡ false → a ≡ plain (number next) → now ≡ new → next' ≡ next +ℤ pos 1 → FollowsNaming row a now next'
  is_made a now next' m l is_a is_new is_next = subst (λ (r : Naming O). FollowsNaming r a now next') (sym (row_is false false m l)) (record { answer_is = is_a; objects_are = is_new; next_is = is_next })
