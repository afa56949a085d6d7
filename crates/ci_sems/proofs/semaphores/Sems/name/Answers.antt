use Rattle.std.proofs.Common.{◌≡◌, ◌≢◌, ◌<◌, ◌∷◌, ◌++◌, ap₂, ℕ, ℤ, List, length, pos, true, false, ap, sym, ◌∙◌, arith, rules, to_z, of_z, w32, SFits, [], None}
use Rattle.std.specs.Ordering.{int_eq}
use Rattle.std.proofs.lemmas.Int.{ints, to_z-of_z}
use Rattle.ci_base.specs.declared.bounds.TheConstants.{MOST_OBJECTS}
use Rattle.ci_shared.specs.declared.object.Semaphore.{Semaphore}
use Rattle.ci_shared.specs.Rows.{last_number}
use Rattle.ci_shared.specs.Semaphores.{semaphore_named}
use Rattle.ci_shared.specs.Words.{is_empty, is_mode}
use Rattle.ci_sems.proofs.Arms.{int_apart, is_apart, name_ends, name_makes}
use Rattle.ci_sems.proofs.semaphores.Sems.name.Goals as goal

pub returns-then-is_last : goal.returns-then-is_last
returns-then-is_last c =
    let fits : SFits w32 c.args.next.now = search rules in
    let e : to_z w32 (of_z w32 c.args.next.now) ≡ c.args.next.now = to_z-of_z w32 c.args.next.now fits in
    let full : is_empty c.args.text.now ≡ false = sym c.is_empty.ensures ∙ c.if-is_empty.false in
    let mode : is_mode c.args.mode ≡ true = sym (rw (to_z-of_z w32 c.args.mode c.ranges.mode) at c.is_mode.ensures) ∙ c.if-not-is_mode.false in
    let unknown : semaphore_named c.args.text.now c.args.self.now ≡ None =
    sym (c.by_name.ensures ∙ ap (λ (l : List Semaphore). semaphore_named c.args.text.now l) (c.as_slice.ensures.value ∙ c.self.view_is)) ∙ c.in_default.is in
    let making : int_eq c.args.mode (pos 0) ≡ false = int_apart c.args.mode (pos 0) (λ h. c.if-mode-eq0.false (ap (λ (z : ℤ). of_z w32 z) h)) in
    let long : length c.as_slice.result.now ≡ length c.args.self.now = ap (λ (l : List Semaphore). length l) (c.as_slice.ensures.value ∙ c.self.view_is) in
    let few : length c.args.self.now < MOST_OBJECTS = omega (arith, long, c.as_slice.ensures.len, c.len.ensures, c.if-len-ge-MOST_OBJECTS.false) in
    let more : int_eq c.args.next.now last_number ≡ true = sym (rw e at c.is_last.ensures) ∙ c.if-is_last.true in
    name_ends c.args.text.now c.args.mode c.args.next.now c.args.self.now full mode unknown making few c.refused-then-is_last.result more c.refused-then-is_last.ensures

pub returns : goal.returns
returns c =
    let fits : SFits w32 c.args.next.now = search rules in
    let e : to_z w32 (of_z w32 c.args.next.now) ≡ c.args.next.now = to_z-of_z w32 c.args.next.now fits in
    let full : is_empty c.args.text.now ≡ false = sym c.is_empty.ensures ∙ c.if-is_empty.false in
    let mode : is_mode c.args.mode ≡ true = sym (rw (to_z-of_z w32 c.args.mode c.ranges.mode) at c.is_mode.ensures) ∙ c.if-not-is_mode.false in
    let unknown : semaphore_named c.args.text.now c.args.self.now ≡ None =
    sym (c.by_name.ensures ∙ ap (λ (l : List Semaphore). semaphore_named c.args.text.now l) (c.as_slice.ensures.value ∙ c.self.view_is)) ∙ c.in_default.is in
    let making : int_eq c.args.mode (pos 0) ≡ false = int_apart c.args.mode (pos 0) (λ h. c.if-mode-eq0.false (ap (λ (z : ℤ). of_z w32 z) h)) in
    let long : length c.as_slice.result.now ≡ length c.args.self.now = ap (λ (l : List Semaphore). length l) (c.as_slice.ensures.value ∙ c.self.view_is) in
    let few : length c.args.self.now < MOST_OBJECTS = omega (arith, long, c.as_slice.ensures.len, c.len.ensures, c.if-len-ge-MOST_OBJECTS.false) in
    let more : int_eq c.args.next.now last_number ≡ false = sym (rw e at c.is_last.ensures) ∙ c.if-is_last.false in
    let not_last : c.args.next.now ≢ last_number = is_apart c.args.next.now last_number more in
    name_makes c.args.text.now c.args.mode c.args.next.now c.args.self.now full mode unknown making few _ c.push_reserved.new.self.items c.numbered-2.result more
    (rw e at c.numbered-2.ensures)
    (c.push_reserved.ensures.items ∙ ap (λ (l : List Semaphore). l ++ record { number = to_z w32 (of_z w32 c.args.next.now); name = c.copy.result; count = 1 } ∷ []) c.self.view_is
    ∙ ap₂ (λ (z : ℤ) (n : List ℕ). c.args.self.now ++ record { number = z; name = n; count = 1 } ∷ []) e c.copy.ensures.value)
    (omega (arith, ints, fits, not_last))
