use Rattle.std.proofs.Common.{◌≡◌, ◌-◌, ◌++◌, ◌∷◌, [], ℕ, suc, List, Some, sym, ap, ◌∙◌, length, take, drop, get_or, arith, length-append}
use Rattle.std.proofs.lemmas.List.{take_rest}
use Rattle.ci_base.specs.declared.value.Value.{Value}
use Rattle.ci_shared.specs.Arguments.{Front, front, values_in}
use Rattle.ci_tasktab.proofs.Reading.{behind, empty_is, front_is, last_value, next_value, no_comma, no_value, none_left}
use Rattle.ci_tasktab.proofs.list.read_values.Goals as goal

pub returns-in_default : goal.returns-in_default
returns-in_default c =
    let is : c.loop-left.left ≡ suc (c.loop-left.left - 1) = omega arith in
    sym (no_value c.loop-left.args c.loop-left.left (c.loop-left.left - 1) c.loop-left.rest.now is (ap (λ (l : List ℕ). front l) (sym c.behind_spaces.ensures) ∙ c.in_default.ensures)) ∙ c.loop-left.invariant.rest

pub returns-then-is_empty : goal.returns-then-is_empty
returns-then-is_empty c =
    let is : c.loop-left.left ≡ suc (c.loop-left.left - 1) = omega arith in
    let x : Front = record { value = c.in-Some.value; rest = c.in-Some.behind.now } in
    ap (λ (l : List Value). Some l) c.add.ensures
    ∙ sym (last_value c.loop-left.args c.loop-left.left (c.loop-left.left - 1) c.loop-left.rest.now is x (ap (λ (l : List ℕ). front l) (sym c.behind_spaces.ensures) ∙ c.in-Some.ensures)
    (sym c.behind_spaces-behind.ensures ∙ empty_is c.behind_spaces-behind.result.now c.if-is_empty.ensures))
    ∙ c.loop-left.invariant.rest

pub returns-then-behind-ne44 : goal.returns-then-behind-ne44
returns-then-behind-ne44 c =
    let is : c.loop-left.left ≡ suc (c.loop-left.left - 1) = omega arith in
    let x : Front = record { value = c.in-Some.value; rest = c.in-Some.behind.now } in
    let s = c.behind_spaces-behind.result.now in
    sym (no_comma c.loop-left.args c.loop-left.left (c.loop-left.left - 1) c.loop-left.rest.now is x (ap (λ (l : List ℕ). front l) (sym c.behind_spaces.ensures) ∙ c.in-Some.ensures)
    (get_or s 0 0) (drop 1 s) (sym c.behind_spaces-behind.ensures ∙ front_is s c.if-is_empty.ensures) c.if-behind-ne44.true)
    ∙ c.loop-left.invariant.rest

pub loop-left-preserved : goal.loop-left-preserved
loop-left-preserved c =
    let is : c.loop-left.left ≡ suc (c.loop-left.left - 1) = omega arith in
    let x : Front = record { value = c.in-Some.value; rest = c.in-Some.behind.now } in
    let s = c.behind_spaces-behind.result.now in
    let rest : take (length s - 1) (drop 1 s) ≡ drop 1 s = take_rest s 1 in
    record {
      room = omega (arith, c.loop-left.invariant.room, ap (λ (l : List Value). length l) c.add.ensures, length-append c.loop-left.args (c.in-Some.value ∷ []));
      rest =
          ap (λ (l : List Value). behind l (values_in (c.loop-left.left - 1) (take (length s - 1) (drop 1 s)))) c.add.ensures
          ∙ ap (λ (l : List ℕ). behind (c.loop-left.args ++ c.in-Some.value ∷ []) (values_in (c.loop-left.left - 1) l)) rest
          ∙ sym (next_value c.loop-left.args c.loop-left.left (c.loop-left.left - 1) c.loop-left.rest.now is x (ap (λ (l : List ℕ). front l) (sym c.behind_spaces.ensures) ∙ c.in-Some.ensures)
          (get_or s 0 0) (drop 1 s) (sym c.behind_spaces-behind.ensures ∙ front_is s c.if-is_empty.ensures) c.if-behind-ne44.false)
          ∙ c.loop-left.invariant.rest;
    }

pub returns : goal.returns
returns c = let e : c.loop-left.left ≡ 0 = omega arith in sym (none_left c.loop-left.args c.loop-left.left c.loop-left.rest.now e) ∙ c.loop-left.invariant.rest
