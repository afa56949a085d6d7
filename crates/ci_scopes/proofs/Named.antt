-- The local that a name means.
use Rattle.std.proofs.Common.{◌≡◌, ◌∙◌, ℕ, suc, ◌+◌, Bool, true, false, cond, ◌⊎◌, inl, inr, List, [], ◌∷◌, map, position, Option, Some, None, slice_get, option_map, refl, sym, ap, arith}
use Rattle.std.specs.List.{position_from}
use Rattle.std.specs.Str.{str_eq_ignore_ascii_case}
use Rattle.ci_base.specs.declared.value.Kind.{Kind}
use Rattle.ci_tree.specs.Bound.{local}
use Rattle.ci_names.specs.Scopes.{Local, scalar, local_named}
use Rattle.ci_scopes.specs.Locals.{is_local}
use Rattle.ci_scopes.proofs.Firsts.{position_is}

abbrev kinds : List Local → List Kind
kinds ls = map (λ (l : Local). l.kind) ls

-- a local of this name is there: its place, and its kind
record Named (i : ℕ) (ls : List Local) (name : List ℕ) : Type 0 where
  place : ℕ
  kind : Kind
  number : position_from (is_local name) i ls ≡ Some (i + place)
  kind_at : slice_get (kinds ls) place ≡ Some kind
  means : local_named i ls name ≡ Some (scalar (local (i + place)) kind)

-- none is there
record Unnamed (i : ℕ) (ls : List Local) (name : List ℕ) : Type 0 where
  number : position_from (is_local name) i ls ≡ None
  means : local_named i ls name ≡ None

local_at : (i : ℕ) (ls : List Local) (name : List ℕ) → Unnamed i ls name ⊎ Named i ls name
local_at i [] name = inl (record { number = refl; means = refl })
local_at i (l ∷ ls) name = by (str_eq_ignore_ascii_case l.name name) refl (local_at (i + 1) ls name)
  where
    by : (b : Bool) → str_eq_ignore_ascii_case l.name name ≡ b → Unnamed (i + 1) ls name ⊎ Named (i + 1) ls name → Unnamed i (l ∷ ls) name ⊎ Named i (l ∷ ls) name
    by true e rest =
        let here : i ≡ i + 0 = omega arith in
        inr (record {
          place = 0;
          kind = l.kind;
          number = ap (λ c. cond c (Some i) (position_from (is_local name) (i + 1) ls)) e ∙ ap Some here;
          kind_at = refl;
          means = ap (λ c. cond c (Some (scalar (local i) l.kind)) (local_named (i + 1) ls name)) e ∙ ap (λ j. Some (scalar (local j) l.kind)) here;
        })
    by false e (inl r) =
        inl (record {
          number = ap (λ c. cond c (Some i) (position_from (is_local name) (i + 1) ls)) e ∙ r.number;
          means = ap (λ c. cond c (Some (scalar (local i) l.kind)) (local_named (i + 1) ls name)) e ∙ r.means;
        })
    by false e (inr r) =
        let there : (i + 1) + r.place ≡ i + suc r.place = omega arith in
        inr (record {
          place = suc r.place;
          kind = r.kind;
          number = ap (λ c. cond c (Some i) (position_from (is_local name) (i + 1) ls)) e ∙ r.number ∙ ap Some there;
          kind_at = r.kind_at;
          means = ap (λ c. cond c (Some (scalar (local i) l.kind)) (local_named (i + 1) ls name)) e ∙ r.means ∙ ap (λ j. Some (scalar (local j) r.kind)) there;
        })

-- a name that no local has
pub local_none : (ls : List Local) (name : List ℕ) → position (is_local name) ls ≡ None → None ≡ local_named 0 ls name
local_none ls name h = by (local_at 0 ls name)
  where
    by : Unnamed 0 ls name ⊎ Named 0 ls name → None ≡ local_named 0 ls name
    by (inl r) = sym r.means
    by (inr r) = let e : None ≡ Some (0 + r.place) = sym h ∙ position_is (is_local name) ls ∙ r.number in absurd (cc)

-- what the code finds of a local
pub local_is : (ls : List Local) (name : List ℕ) (n : ℕ) (o : Option Kind) → position (is_local name) ls ≡ Some n → o ≡ slice_get (kinds ls) n → option_map (λ k. scalar (local n) k) o ≡ local_named 0 ls name
local_is ls name n o h g = by (local_at 0 ls name)
  where
    by : Unnamed 0 ls name ⊎ Named 0 ls name → option_map (λ k. scalar (local n) k) o ≡ local_named 0 ls name
    by (inl r) = let e : Some n ≡ None = sym h ∙ position_is (is_local name) ls ∙ r.number in absurd (cc)
    by (inr r) =
        let e : Some n ≡ Some (0 + r.place) = sym h ∙ position_is (is_local name) ls ∙ r.number in
        let s : n ≡ 0 + r.place = cc in
        let t : n ≡ r.place = omega arith in
        let f : o ≡ Some r.kind = g ∙ ap (slice_get (kinds ls)) t ∙ r.kind_at in
        ap (option_map (λ k. scalar (local n) k)) f ∙ ap (λ j. Some (scalar (local j) r.kind)) s ∙ sym r.means
