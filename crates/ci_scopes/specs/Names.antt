-- Names that differ at most in letter case are equal.
use Rattle.std.proofs.Common.{◌≡◌, ℕ, List, true, sym, ap, flat_map}
use Rattle.std.specs.Hash.{u8 as fed}
use Rattle.std.specs.Cmp.{IsEquivalence, IsPartialEquivalence, on_equiv, back_equiv, partial_equiv_from_equiv}
use Rattle.std.specs.Cmp.Lexicographic.{nat_list_eq_equiv}
use Rattle.std.specs.Str.{str_eq_ignore_ascii_case, str_to_ascii_lowercase}
use Rattle.std.proofs.lemmas.Slice.Eq.{bytes_eq-Decides}
use Rattle.ci_scopes.specs.declared.name.Name.{Name}

-- equal up to letter case
pub names_equiv : IsEquivalence (λ (x y : Name). str_eq_ignore_ascii_case y.bytes.now x.bytes.now)
names_equiv = back_equiv (on_equiv (λ (n : Name). str_to_ascii_lowercase n.bytes.now) nat_list_eq_equiv)

pub names_per : IsPartialEquivalence (λ (x y : Name). str_eq_ignore_ascii_case y.bytes.now x.bytes.now)
names_per = partial_equiv_from_equiv names_equiv

-- equal names are fed alike
pub alike : (xs ys : List ℕ) → str_eq_ignore_ascii_case ys xs ≡ true → flat_map fed (str_to_ascii_lowercase xs) ≡ flat_map fed (str_to_ascii_lowercase ys)
alike xs ys h = ap (flat_map fed) (sym ((bytes_eq-Decides (str_to_ascii_lowercase ys) (str_to_ascii_lowercase xs)).0 h))
