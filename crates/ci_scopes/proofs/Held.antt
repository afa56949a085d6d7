-- The list of locals.
use Rattle.std.proofs.Common.{◌≡◌, ◌∙◌, ℕ, suc, cond, List, [], ◌∷◌, ◌++◌, map, length, position, Some, None, Bor, refl, sym, ap, arith, length-append}
use Rattle.std.specs.Option.{option_or}
use Rattle.std.specs.Str.{str_eq_ignore_ascii_case}
use Rattle.ci_base.specs.declared.value.Kind.{Kind}
use Rattle.ci_names.specs.Scopes.{Local}
use Rattle.ci_scopes.specs.Locals.{locals_from, is_local, AreLocals}
use Rattle.ci_scopes.specs.Table.{Noted, noted}
use Rattle.ci_scopes.proofs.Tables.{number_of-noted}
use Rattle.ci_scopes.proofs.Firsts.{position-push}

-- there are as many locals as kinds
pub length_locals : (names : List (Bor (List ℕ))) (kinds : List Kind) → length names ≡ length kinds → length (locals_from names kinds) ≡ length kinds
length_locals [] [] h = refl
length_locals [] (k ∷ ks) h = absurd (omega arith)
length_locals (n ∷ ns) [] h = absurd (omega arith)
length_locals (n ∷ ns) (k ∷ ks) h = let e : length ns ≡ length ks = omega arith in ap suc (length_locals ns ks e)

-- they have these kinds
pub kinds_of : (names : List (Bor (List ℕ))) (kinds : List Kind) → length names ≡ length kinds → kinds ≡ map (λ (l : Local). l.kind) (locals_from names kinds)
kinds_of [] [] h = refl
kinds_of [] (k ∷ ks) h = absurd (omega arith)
kinds_of (n ∷ ns) [] h = absurd (omega arith)
kinds_of (n ∷ ns) (k ∷ ks) h = let e : length ns ≡ length ks = omega arith in ap (λ xs. k ∷ xs) (kinds_of ns ks e)

-- one more at the end
pub locals-push : (names : List (Bor (List ℕ))) (kinds : List Kind) (n : Bor (List ℕ)) (k : Kind) → length names ≡ length kinds →
    locals_from (names ++ n ∷ []) (kinds ++ k ∷ []) ≡ locals_from names kinds ++ record { name = n.now; kind = k } ∷ []
locals-push [] [] n k h = refl
locals-push [] (x ∷ xs) n k h = absurd (omega arith)
locals-push (y ∷ ys) [] n k h = absurd (omega arith)
locals-push (y ∷ ys) (x ∷ xs) n k h = let e : length ys ≡ length xs = omega arith in ap (λ ls. record { name = y.now; kind = x } ∷ ls) (locals-push ys xs n k e)

-- the table has it too
pub held-push : (names : List (Bor (List ℕ))) (kinds : List Kind) (numbers : List Noted) (n : Bor (List ℕ)) (k : Kind) → AreLocals names kinds numbers →
    AreLocals (names ++ n ∷ []) (kinds ++ k ∷ []) (noted numbers None n.now (length kinds))
held-push names kinds numbers n k h = record {
  paired = omega (arith, h.paired, length-append names (n ∷ []), length-append kinds (k ∷ []));
  first = λ name.
      number_of-noted numbers None None n.now name (length kinds)
      ∙ ap (λ o. option_or o (cond (str_eq_ignore_ascii_case n.now name) (Some (length kinds)) None)) (h.first name)
      ∙ ap (λ i. option_or (position (is_local name) (locals_from names kinds)) (cond (str_eq_ignore_ascii_case n.now name) (Some i) None)) (sym (length_locals names kinds h.paired))
      ∙ sym (position-push (is_local name) (locals_from names kinds) (record { name = n.now; kind = k }))
      ∙ ap (position (is_local name)) (sym (locals-push names kinds n k h.paired));
}
