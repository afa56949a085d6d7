use Rattle.std.proofs.Common.{◌≡◌, ◌≢◌, ℤ, length, pos, true, false, ap, sym, ◌∙◌, subst, arith, rules, to_z, of_z, w32, SFits}
use Rattle.std.specs.Prelude.{◌<ℤ◌}
use Rattle.std.specs.List.{All}
use Rattle.std.specs.Ordering.{int_eq}
use Rattle.std.proofs.lemmas.Bool.{leb-false}
use Rattle.std.proofs.lemmas.Int.{ints, to_z-of_z}
use Rattle.ci_base.specs.declared.bounds.TheConstants.{MOST_OBJECTS}
use Rattle.ci_shared.specs.Queues.{Queue}
use Rattle.ci_shared.specs.Rows.{last_number}
use Rattle.ci_shared.specs.Words.{is_empty, is_mode}
use Rattle.ci_queues.proofs.Keeping.{apart_ints, other_int}
use Rattle.ci_queues.proofs.Naming.{name_ends, name_full, name_makes}
use Rattle.ci_queues.proofs.queues.Queues.name.Goals as goal

pub returns-then-is_full : goal.returns-then-is_full
returns-then-is_full c =
    let full : is_empty c.args.text.now ≡ false = sym c.is_empty.ensures ∙ c.if-is_empty.false in
    let mode : is_mode c.args.mode ≡ true = sym (rw (to_z-of_z w32 c.args.mode c.ranges.mode) at c.is_mode.ensures) ∙ c.if-not-is_mode.false in
    let making : int_eq c.args.mode (pos 0) ≡ false = other_int c.args.mode (pos 0) (λ h. c.if-mode-eq0.false (ap (λ (z : ℤ). of_z w32 z) h)) in
    name_full c.args.text.now c.args.mode c.args.next.now c.args.self.now full mode (sym c.named.ensures ∙ c.in_default.is) making c.refused-then-is_full.result
    (sym c.is_full.ensures ∙ c.if-is_full.true) c.refused-then-is_full.ensures

pub returns-then-is_last : goal.returns-then-is_last
returns-then-is_last c =
    let fits : SFits w32 c.args.next.now = search rules in
    let e : to_z w32 (of_z w32 c.args.next.now) ≡ c.args.next.now = to_z-of_z w32 c.args.next.now fits in
    let full : is_empty c.args.text.now ≡ false = sym c.is_empty.ensures ∙ c.if-is_empty.false in
    let mode : is_mode c.args.mode ≡ true = sym (rw (to_z-of_z w32 c.args.mode c.ranges.mode) at c.is_mode.ensures) ∙ c.if-not-is_mode.false in
    let making : int_eq c.args.mode (pos 0) ≡ false = other_int c.args.mode (pos 0) (λ h. c.if-mode-eq0.false (ap (λ (z : ℤ). of_z w32 z) h)) in
    name_ends c.args.text.now c.args.mode c.args.next.now c.args.self.now full mode (sym c.named.ensures ∙ c.in_default.is) making c.refused-then-is_last.result
    (sym c.is_full.ensures ∙ c.if-is_full.false) (sym (rw e at c.is_last.ensures) ∙ c.if-is_last.true) c.refused-then-is_last.ensures

pub make-requires : goal.make-requires
make-requires c =
    let fits : SFits w32 c.args.next.now = search rules in
    let e : to_z w32 (of_z w32 c.args.next.now) ≡ c.args.next.now = to_z-of_z w32 c.args.next.now fits in
    record {
      room = leb-false MOST_OBJECTS (length c.args.self.now) (sym c.is_full.ensures ∙ c.if-is_full.false);
      above = subst (λ (z : ℤ). All (λ (q : Queue). q.number <ℤ z) c.args.self.now) (sym e) c.requires.above;
    }

pub returns : goal.returns
returns c =
    let fits : SFits w32 c.args.next.now = search rules in
    let e : to_z w32 (of_z w32 c.args.next.now) ≡ c.args.next.now = to_z-of_z w32 c.args.next.now fits in
    let full : is_empty c.args.text.now ≡ false = sym c.is_empty.ensures ∙ c.if-is_empty.false in
    let mode : is_mode c.args.mode ≡ true = sym (rw (to_z-of_z w32 c.args.mode c.ranges.mode) at c.is_mode.ensures) ∙ c.if-not-is_mode.false in
    let making : int_eq c.args.mode (pos 0) ≡ false = other_int c.args.mode (pos 0) (λ h. c.if-mode-eq0.false (ap (λ (z : ℤ). of_z w32 z) h)) in
    let more : int_eq c.args.next.now last_number ≡ false = sym (rw e at c.is_last.ensures) ∙ c.if-is_last.false in
    let not_last : c.args.next.now ≢ last_number = apart_ints c.args.next.now last_number more in
    name_makes c.args.text.now c.args.mode c.args.next.now c.args.self.now full mode (sym c.named.ensures ∙ c.in_default.is) making c.numbered-2.result c.make.new.self _
    (sym c.is_full.ensures ∙ c.if-is_full.false) more (rw e at c.numbered-2.ensures) (rw e at c.make.ensures) (omega (arith, ints, fits, not_last))
