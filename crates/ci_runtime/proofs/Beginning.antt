-- What a desk keeps at its beginning.
use Rattle.std.proofs.Common.{◌≡◌, ◌<◌, ◌/◌, ℕ, zero, suc, true, List, [], ◌∷◌, length, map, Some, None, get_or, slice_get, refl, sym, ap, ◌∙◌, subst, arith, ltb-true}
use Rattle.std.proofs.lemmas.List.Elements.{All-nil}
use Rattle.ci_base.specs.declared.layout.CellHead.{CellHead}
use Rattle.ci_base.specs.declared.layout.Layout.{Layout}
use Rattle.ci_base.specs.declared.limits.Limits.{Limits}
use Rattle.ci_base.specs.declared.value.Kind.{Kind}
use Rattle.ci_base.specs.declared.value.Value.{Value}
use Rattle.ci_base.specs.Values.{kind_of}
use Rattle.ci_code.specs.declared.raw.RawParts.{RawParts}
use Rattle.ci_code.specs.Code.{IsCode}
use Rattle.ci_runtime.proofs.Counting.{no_counts}
use Rattle.ci_runtime.proofs.Keeping.{layout_is}
use Rattle.ci_runtime.specs.Along.{AllBorn}
use Rattle.ci_runtime.specs.declared.board.Board.{Board}
use Rattle.ci_runtime.specs.Desks.{HasCode, IsKept}
use Rattle.ci_runtime.specs.Notes.{nothing_noted}
use Rattle.ci_script.specs.Scripts.{IsScript}
use Rattle.ci_shared.proofs.Proved as laws
use Rattle.ci_shared.specs.Laws as shared
use Rattle.ci_shared.specs.Started.{basis_of}
use Rattle.ci_store.specs.Stored.{IsUsable}
use Rattle.ci_tree.specs.Bound.{Cell}
use Rattle.ci_tree.specs.Layouts.{cell_head_of, layout_of}
use Rattle.ci_verify.proofs.Resumed.{all_there}
use Rattle.ci_verify.specs.Rules.{NoneBroken, has_cell}
use Rattle.ci_world.proofs.Lists.{at_there, at_within, none_at, one_at}
use Rattle.ci_world.specs.Trails.{trail}
use Rattle.ci_world.specs.World.{Origin, basis}

module _ {A : Type 0} where
  got_in : (xs : List A) (i : ℕ) (d : A) → i < length xs → slice_get xs i ≡ Some (get_or xs i d)
  got_in [] i d lt = absurd (omega arith)
  got_in (x ∷ xs) zero d lt = refl
  got_in (x ∷ xs) (suc i) d lt = got_in xs i d (omega arith)

-- a store can be made of the layout of verified code
pub usable : (code : RawParts) → IsCode code → NoneBroken code → IsUsable code.layout
usable code is sound = record {
  within = record {
    few = ((sound 1 0 0).tables refl refl).functions;
    short = λ i d lt.
        let at = got_in code.layout.functions i d lt in
        let (f, fat) = at_there code.functions (suc i) (omega arith) (omega (arith, lt, is.one_each)) in
        (((sound 1 i 0).there (get_or code.layout.functions i d) f at fat).0 refl).parameters;
  };
  kinds = is.first_values;
  cells = λ i d lt.
      let e : has_cell code.layout.cells (get_or code.layout.globals i d) ≡ true = all_there (has_cell code.layout.cells) code.layout.globals i (get_or code.layout.globals i d) ((sound 1 0 0).tables refl refl).globals (got_in code.layout.globals i d lt) in
      ltb-true (get_or code.layout.globals i d).cell (length code.layout.cells) e;
}

firsts_same : (cells : List Cell) → map (λ (x : CellHead). x.first) (map cell_head_of cells) ≡ map (λ (x : Cell). x.first) cells
firsts_same [] = refl
firsts_same (x ∷ xs) = ap (λ (l : List Value). x.first ∷ l) (firsts_same xs)

first_kinds : (cells : List CellHead) → ((i : ℕ) (x : CellHead) → slice_get cells i ≡ Some x → kind_of x.first ≡ x.kind) → map kind_of (map (λ (x : CellHead). x.first) cells) ≡ map (λ (x : CellHead). x.kind) cells
first_kinds [] f = refl
first_kinds (x ∷ xs) f = ap (λ (k : Kind). k ∷ map kind_of (map (λ (y : CellHead). y.first) xs)) (f 0 x refl) ∙ ap (λ (l : List Kind). x.kind ∷ l) (first_kinds xs (λ i. f (suc i)))

none_born : (code : RawParts) (o : Origin) → AllBorn code o []
unfolding trail
none_born code o t b e = absurd (cc)

pub kept_first : (o : Origin) (code : RawParts) (limits : Limits) (b : Board) → HasCode o code → IsScript o.events → b.store ≡ record { basis = basis_of code.layout; shared = shared.opening (map (λ (x : CellHead). x.first) code.layout.cells); deliveries = []; birth = None } →
    b.notes ≡ nothing_noted (limits.budget / 100) → b.seats ≡ [] → b.next ≡ 0 → b.work ≡ 0 → b.instructions ≡ 0 → IsKept o code limits b
kept_first o code limits b has script store_is notes_is seats_is next_is work_is none = subst (λ (x : Board). IsKept o code limits x) (sym board_is) (record {
  has_code = has;
  script = script;
  basis_is = ap basis_of layout;
  shared_is = ap shared.opening (ap (λ (l : Layout). map (λ (x : CellHead). x.first) l.cells) layout ∙ firsts_same o.project.cells);
  left_is = refl;
  serving = laws.opening_keeps (basis o) (map (λ (x : CellHead). x.first) code.layout.cells) (kinds_are ∙ ap (λ (l : Layout). map (λ (x : CellHead). x.kind) l.cells) layout);
  seated = record { many_ticks = refl; many_seats = refl; each = λ t y n seat yat nat at. absurd (none_at t n nat) };
  born = none_born code o;
  functions_are = refl;
  named = All-nil (λ f. f < length code.layout.functions);
  work_is = refl;
  within = omega arith;
  room = omega arith;
  few = omega arith;
  early = omega arith;
  counted = no_counts code o;
})
  where
    layout : code.layout ≡ layout_of o.project
    layout = layout_is o code has

    kinds_are : map kind_of (map (λ (x : CellHead). x.first) code.layout.cells) ≡ map (λ (x : CellHead). x.kind) code.layout.cells
    kinds_are = first_kinds code.layout.cells (λ i x at. first_at i x at)
      where
        first_at : (i : ℕ) (x : CellHead) → slice_get code.layout.cells i ≡ Some x → kind_of x.first ≡ x.kind
        first_at i x at =
            let w = at_within code.layout.cells (suc i) x at in
            let same : get_or code.layout.cells i x ≡ x = one_at (get_or code.layout.cells i x) x (slice_get code.layout.cells i) (got_in code.layout.cells i x (omega (arith, w.1))) at in
            subst (λ (y : CellHead). kind_of y.first ≡ y.kind) same (has.is_code.first_values i x (omega (arith, w.1)))

    first : Board
    first = record {
      notes = nothing_noted (limits.budget / 100);
      seats = [];
      store = record { basis = basis_of code.layout; shared = shared.opening (map (λ (x : CellHead). x.first) code.layout.cells); deliveries = []; birth = None };
      next = 0;
      last = b.last;
      work = 0;
      instructions = 0;
    }

    board_is : b ≡ first
    board_is = λ i. record { notes = notes_is i; seats = seats_is i; store = store_is i; next = next_is i; last = b.last; work = work_is i; instructions = none i }
