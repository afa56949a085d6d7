-- The code of a right project simulates it.
use Rattle.std.proofs.Common.{◌≡◌, ℕ, false, inl, List, [], ◌++◌, length, drop, map, Some, refl, sym, ap, ap₂, ◌∙◌, subst}
use Rattle.std.specs.Prelude.{slice_get}
use Rattle.ci_base.specs.declared.request.Request.{Request}
use Rattle.ci_base.specs.declared.value.Value.{Value}
use Rattle.ci_base.specs.Heard.{no_element}
use Rattle.ci_base.specs.Requests.{Fits}
use Rattle.ci_base.specs.Steps.{Next, tick, quiet, asks, stuck}
use Rattle.ci_base.specs.Values.{kind_of, first_of_kind}
use Rattle.ci_code.specs.declared.raw.RawFunction.{RawFunction}
use Rattle.ci_code.specs.declared.raw.RawParts.{RawParts}
use Rattle.ci_code.specs.Machine as code
use Rattle.ci_code.specs.Moves.{Machine}
use Rattle.ci_meaning.specs.Configuration.{enter, Configuration, opening, function_at, locals_with}
use Rattle.ci_meaning.specs.Laws as law
use Rattle.ci_meaning.specs.Laws.{SoonTicksOrAsks}
use Rattle.ci_meaning.specs.Meaning as tree
use Rattle.ci_tree.specs.Bound.{Function, Project}
use Rattle.ci_tree.specs.Sound.{param_kinds}
use Rattle.ci_translation.specs.Laws.{TranslationIsCode, TranslationSimulates, CodeSimulates, TreeAsksToo, TreeTicksToo, StillFollows}
use Rattle.ci_translation.specs.Simulates.{cell_kinds, Simulates}
use Rattle.ci_translation.specs.Stands.{BlockAt, scope_of, IsFunctionOf}
use Rattle.ci_translation.proofs.Back.{asks_back, reach_back, answered, led_tracks}
use Rattle.ci_translation.proofs.Calls.{found_function}
use Rattle.ci_translation.proofs.Follow.{TicksOrAsks, tracks}
use Rattle.ci_translation.proofs.Going.{follow}
use Rattle.ci_translation.proofs.Lists.{map_both, length_mapped, kinds_of_firsts, drop_front}
use Rattle.ci_translation.proofs.Machines.{on}
use Rattle.ci_translation.proofs.Numbers.{is_code}
use Rattle.ci_translation.specs.Translation.{translation}
use Rattle.ci_translation.proofs.Matches.{IsRight, Matches}

ends : (m : Next Configuration Request) → law.TicksOrAsks m → TicksOrAsks m
ends (tick c) h = h
ends (quiet c) h = h
ends (asks q) h = h
ends stuck h = h

module _ (project : Project) (parts : RawParts) (right : IsRight project parts) where
  opening_matches : (n : ℕ) (f : Function) (args : List Value) → slice_get project.functions n ≡ Some f → map kind_of args ≡ param_kinds f → Matches project parts (opening project n args) (code.opening parts n args)
  opening_matches n f args found fit =
      record {
        hand = enter;
        shows = inl refl;
        place = 0;
        running = record { function = f; raw = raw; places = []; found = record { tree = found; raw_there = there; of = of }; kinds = kinds_in; waiting = tt };
        at = (on of.entry, ([], 1, of.over, (0, refl), subst (λ (g : Function). BlockAt (scope_of project parts f raw) [] g.body 1 of.over) same of.body, (of.over, (0, refl), of.first, on of.back)));
        is = ap (λ o. opened (code.locals_in o args)) there ∙ ap (λ ks. opened (args ++ map first_of_kind ks)) others;
      }
    where
      raw : RawFunction
      raw = (right.whole.functions n f found).0

      there : slice_get parts.functions n ≡ Some raw
      there = (right.whole.functions n f found).1

      of : IsFunctionOf project parts f raw
      of = (right.whole.functions n f found).2

      same : f ≡ function_at project n
      same = sym (found_function project n f found)

      opened : List Value → Machine
      opened locals = record { top = record { function = n; place = 0; locals = locals; operands = [] }; callers = []; error = 0; last = no_element; goes_on = false }

      others : drop (length args) raw.locals ≡ (function_at project n).others
      others =
          ap (drop (length args)) of.locals
          ∙ drop_front (param_kinds f) f.others (length args) (sym (length_mapped kind_of args) ∙ ap length fit)
          ∙ ap (λ (g : Function). g.others) same

      kinds_in : map kind_of (locals_with (function_at project n) args) ≡ param_kinds f ++ f.others
      kinds_in =
          map_both kind_of args (map first_of_kind (function_at project n).others)
          ∙ ap₂ (λ a b. a ++ b) fit (kinds_of_firsts (function_at project n).others ∙ ap (λ (g : Function). g.others) (sym same))

  simulates : SoonTicksOrAsks → Simulates parts project
  simulates soon n f args found fit =
      tracks (tree.next project) tree.resume (code.next parts) (code.resume parts) (Fits (cell_kinds project)) (Matches project parts)
      (λ c. let (k, d, steps, e) = soon project c in (k, d, steps, ends (tree.next project d) e))
      (follow project parts right) (opening project n args) (code.opening parts n args) (opening_matches n f args found fit)

pub code_simulates : SoonTicksOrAsks → CodeSimulates
code_simulates soon project parts sound whole = simulates project parts (record { sound = sound; whole = whole }) soon

pub tree_asks_too : TreeAsksToo
tree_asks_too p parts c m h k q m' t =
    let (c', s) = asks_back (tree.next p) tree.resume (code.next parts) (code.resume parts) (Fits (cell_kinds p)) c m (h []) k q m' t in
    (c', s, λ a f. answered (tree.next p) tree.resume (code.next parts) (code.resume parts) (Fits (cell_kinds p)) c m h k q c' m' s t a f)

pub tree_ticks_too : TreeTicksToo
tree_ticks_too p parts c m h k m' r = reach_back (tree.next p) tree.resume (code.next parts) (code.resume parts) (Fits (cell_kinds p)) c m (h []) k m' r

pub still_follows : StillFollows
still_follows p parts c c' m m' answers h l k = led_tracks (tree.next p) tree.resume (code.next parts) (code.resume parts) (Fits (cell_kinds p)) answers c c' m m' h l k

pub translation_is_code : TranslationIsCode
translation_is_code p sound = is_code p sound

pub translation_simulates : SoonTicksOrAsks → TranslationSimulates
translation_simulates soon p sound = code_simulates soon p (translation p) sound (is_code p sound)
