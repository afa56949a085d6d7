-- Calls and returns are followed by the code.
use Rattle.std.proofs.Common.{◌≡◌, ℕ, ◌+◌, Bool, true, false, inl, inr, List, [], ◌∷◌, ◌++◌, length, drop, map, Option, Some, None, Ok, Err, refl, sym, ap, ap₂, ◌∙◌, subst}
use Rattle.std.specs.Prelude.{pos, nat_le, slice_get, reverse, option_map, unwrap_or}
use Rattle.ci_base.specs.declared.bounds.TheConstants.{MOST_ROOM}
use Rattle.ci_base.specs.declared.function.PrivateName.{PrivateName}
use Rattle.ci_base.specs.declared.layout.Layout.{Layout}
use Rattle.ci_base.specs.declared.value.Kind.{Kind}
use Rattle.ci_base.specs.declared.value.Kind.TheVariants.{Int}
use Rattle.ci_base.specs.declared.value.Value.{Value}
use Rattle.ci_base.specs.declared.value.Value.TheVariants as values
use Rattle.ci_base.specs.declared.reply.Answer.{Answer}
use Rattle.ci_base.specs.Functions.{private_takes, private_gives, shared_takes}
use Rattle.ci_base.specs.Heard.{error_kept, last_after}
use Rattle.ci_base.specs.PrivateFunctions.{private_value, error_after, goes_on_after}
use Rattle.ci_base.specs.Requests.{request_of}
use Rattle.ci_base.specs.Steps.{asks, Reaches}
use Rattle.ci_base.specs.Values.{Outcome, kind_of, first_of_kind}
use Rattle.ci_code.specs.declared.instruction.Instruction.TheVariants as does
use Rattle.ci_code.specs.declared.raw.RawFunction.{RawFunction}
use Rattle.ci_code.specs.declared.raw.RawParts.{RawParts}
use Rattle.ci_code.specs.Machine as code
use Rattle.ci_code.specs.Moves as moves
use Rattle.ci_code.specs.Moves.{Frame, Machine, only_if, several}
use Rattle.ci_meaning.specs.Configuration.{Want, as_operand, as_front, as_right, as_index, as_argument, as_queue, as_mode, as_answer, as_kept, Aim, to_store, to_index, to_element, to_choose, to_turn, to_begin, to_count, to_compare, to_raise, to_select, to_match, to_low, to_high, to_return, to_drop, Left, run, Hand, give, enter, Caller, Task, Configuration, with, no_function, function_at, locals_with}
use Rattle.ci_meaning.specs.Meaning as tree
use Rattle.ci_meaning.specs.Moves as walk
use Rattle.ci_tree.specs.Bound as to
use Rattle.ci_tree.specs.Bound.{Callee, Function, Project}
use Rattle.ci_tree.specs.Layouts.{head_of}
use Rattle.ci_tree.specs.Rooms.{room}
use Rattle.ci_tree.specs.Sound.{Signature, signature, function_signature, param_kinds}
use Rattle.ci_verify.proofs.Outcomes.{first_kind, private_kind}
use Rattle.ci_translation.specs.Instructions.{calling, left_kind}
use Rattle.ci_translation.specs.Simulates.{cell_kinds}
use Rattle.ci_translation.specs.Stands.{Scope, BlockAt, scope_of}
use Rattle.ci_translation.proofs.Follow.{here, by_quiet}
use Rattle.ci_translation.proofs.Lists.{get_map, mapped, back_onto, length_reverse, map_reverse, map_both, length_mapped, kinds_of_firsts, drop_front, is_of_kind, several_there}
use Rattle.ci_translation.proofs.Machines.{on, Followed, heard, own, machine, at_place, fetched, does_it}
use Rattle.ci_translation.proofs.Matches.{Does, IsDropped, WantsAt, HandAt, operands, hand_held, frames, first_place, other_places, spelled, IsRight, Found, CallersAt, Running}
use Rattle.ci_translation.proofs.Values.{outcome_kind, of_kind, asked_kind}

-- what takes a value that nobody reads takes any
none_any : (s : Scope) (wants : List Want) (aim : Aim) (left : List Left) (p : ℕ) → WantsAt s wants aim left None p → (g : Option Kind) (u v : Value) → WantsAt s wants aim left g p × IsDropped (give u wants aim) (give v wants aim)
none_any s [] to_drop left p h g u v = (h, record { u = u; v = v; first = refl; second = refl })
none_any s [] (to_store target) left p h g u v = absurd (cc h.1)
none_any s [] (to_index a x) left p h g u v = absurd (cc h.3)
none_any s [] (to_element a i) left p h g u v = absurd (cc h.1)
none_any s [] (to_choose body last) left p h g u v = absurd (cc h.4)
none_any s [] (to_turn test body) left p h g u v = absurd (cc h.3)
none_any s [] (to_begin counter x body) left p h g u v = absurd (cc h.3)
none_any s [] (to_count x counter body) left p h g u v = absurd (cc h.2)
none_any s [] (to_compare c) left p h g u v = absurd (cc h.3)
none_any s [] (to_raise c) left p h g u v = absurd (cc h.4)
none_any s [] (to_select clauses other) left p h g u v = absurd (cc h.2)
none_any s [] (to_match of r labels branch) left p h g u v = absurd (cc h.1)
none_any s [] (to_low of x labels branch) left p h g u v = absurd (cc h.3)
none_any s [] (to_high of low labels branch) left p h g u v = absurd (cc h.1)
none_any s [] to_return left p h g u v = absurd (cc h.0)
none_any s (as_operand minus ∷ wants) aim left p h g u v = absurd (cc h.0)
none_any s (as_front rest ∷ wants) aim left p h g u v = absurd (cc h.4)
none_any s (as_right x op rest ∷ wants) aim left p h g u v = absurd (cc h.4)
none_any s (as_index a ∷ wants) aim left p h g u v = absurd (cc h.1)
none_any s (as_argument callee before rest ∷ wants) aim left p h g u v = absurd (cc h.5)
none_any s (as_queue mode targets ∷ wants) aim left p h g u v = absurd (cc h.4)
none_any s (as_mode queue targets ∷ wants) aim left p h g u v = absurd (cc h.2)
none_any s (as_answer targets ∷ wants) aim left p h g u v = absurd (cc h.2)
none_any s (as_kept target ∷ wants) aim left p h g u v = absurd (cc h.0)

pub found_function : (project : Project) (n : ℕ) (f : Function) → slice_get project.functions n ≡ Some f → function_at project n ≡ f
found_function project n f e = ap (λ o. unwrap_or o no_function) e

module _ (project : Project) (parts : RawParts) where
  room_same : (n : ℕ) (f : Function) (raw : RawFunction) → Found project parts n f raw → code.room_in (slice_get parts.functions n) ≡ room (function_at project n)
  room_same n f raw h = ap code.room_in h.raw_there ∙ h.of.room ∙ ap room (sym (found_function project n f h.tree))

  rooms_same : (callers : List Caller) (places : List ℕ) (g : Option Kind) → CallersAt project parts callers places g → code.rooms parts (frames callers places) ≡ walk.rooms_of project callers
  rooms_same [] places g h = refl
  rooms_same (c ∷ callers) places g (f, raw, found, kinds, w, rest) =
      ap₂ (λ a b. a + b) (room_same c.function f raw found) (rooms_same callers (other_places places) f.gives rest)

module _ (project : Project) (parts : RawParts) (right : IsRight project parts) (t : Task) (r : Running project parts t.function t.locals t.callers) where
  found_of : (n : ℕ) (f : Function) → slice_get project.functions n ≡ Some f → (raw : RawFunction) × Found project parts n f raw
  found_of n f e = let (raw, there, of) = right.whole.functions n f e in (raw, record { tree = e; raw_there = there; of = of })

  parameters : (n : ℕ) (f : Function) → slice_get project.functions n ≡ Some f → moves.parameters_of parts n ≡ param_kinds f
  parameters n f e =
      ap (λ (l : Layout). moves.parameters_in (slice_get l.functions n)) right.whole.layout
      ∙ ap moves.parameters_in (get_map head_of project.functions n ∙ ap (option_map head_of) e)

  -- a function is entered
  entered : (c0 : Configuration) (n : ℕ) (f : Function) (vs : List Value) (wants : List Want) (aim : Aim) (p : ℕ) → slice_get project.functions n ≡ Some f → param_kinds f ≡ back_onto (map kind_of vs) [] → Does (own project parts t r) p (does.Call n) → WantsAt (own project parts t r) wants aim t.left f.gives (p + 1) → Followed project parts c0 (walk.entered project n (reverse vs) wants aim t) (machine project parts t r p (vs ++ operands wants aim t.left))
  entered c0 n f vs wants aim p found params h w = follow (nat_le (room (function_at project n) + walk.rooms project t) MOST_ROOM) eq
    where
      raw : RawFunction
      raw = (found_of n f found).0

      of : Found project parts n f raw
      of = (found_of n f found).1

      ops : List Value
      ops = operands wants aim t.left

      m0 : Machine
      m0 = machine project parts t r p (vs ++ ops)

      args : List Value
      args = reverse vs

      same : raw.room + code.rooms parts (m0.top ∷ m0.callers) ≡ room (function_at project n) + walk.rooms project t
      same =
          ap₂ (λ a b. a + b) (of.of.room ∙ ap room (sym (found_function project n f found)))
          (ap₂ (λ a b. a + b) (room_same project parts t.function r.function r.raw r.found) (rooms_same project parts t.callers r.places r.function.gives r.waiting))

      eq : code.next parts m0 ≡ code.entered_if (nat_le (room (function_at project n) + walk.rooms project t) MOST_ROOM) n raw args ops m0
      eq =
          does_it project parts t r p (vs ++ ops) (does.Call n) h
          ∙ ap (λ o. code.called parts o n m0) of.raw_there
          ∙ several_there (moves.parameters_of parts n) (λ xs below. code.entered_if (nat_le (raw.room + code.rooms parts (m0.top ∷ m0.callers)) MOST_ROOM) n raw xs below m0) vs ops (parameters n f found ∙ params)
          ∙ ap (λ x. code.entered_if (nat_le x MOST_ROOM) n raw args ops m0) same

      others : drop (length args) raw.locals ≡ (function_at project n).others
      others =
          ap (drop (length args)) of.of.locals
          ∙ drop_front (param_kinds f) f.others (length args) (length_reverse vs ∙ sym (length_mapped kind_of vs) ∙ sym (length_reverse (map kind_of vs)) ∙ sym (ap length params))
          ∙ ap (λ (g : Function). g.others) (sym (found_function project n f found))

      t' : Task
      t' = record {
        function = n;
        locals = locals_with (function_at project n) args;
        left = run (function_at project n).body ∷ [];
        callers = record { function = t.function; locals = t.locals; wants = wants; aim = aim; left = t.left } ∷ t.callers;
        error = t.error;
        last = t.last;
        goes_on = t.goes_on;
      }

      entry : List Kind → Machine
      entry ks = record {
        top = record { function = n; place = 0; locals = args ++ map first_of_kind ks; operands = [] };
        callers = record { function = t.function; place = p + 1; locals = t.locals; operands = ops } ∷ frames t.callers r.places;
        error = t.error;
        last = t.last;
        goes_on = t.goes_on;
      }

      kinds_in : map kind_of (locals_with (function_at project n) args) ≡ param_kinds f ++ f.others
      kinds_in =
          map_both kind_of args (map first_of_kind (function_at project n).others)
          ∙ ap₂ (λ a b. a ++ b) (map_reverse kind_of vs ∙ sym params) (kinds_of_firsts (function_at project n).others ∙ ap (λ (g : Function). g.others) (found_function project n f found))

      follow : (b : Bool) → code.next parts m0 ≡ code.entered_if b n raw args ops m0 → Followed project parts c0 (walk.entered_if b project n args wants aim t) m0
      follow true e = (
        spelled enter t' 0 ((p + 1) ∷ r.places),
        by_quiet (code.next parts) m0 (entry (drop (length args) raw.locals)) (spelled enter t' 0 ((p + 1) ∷ r.places)) 0 e
            (subst (λ ks. Reaches (code.next parts) (entry ks) 0 (spelled enter t' 0 ((p + 1) ∷ r.places))) (sym others) (here (code.next parts) (spelled enter t' 0 ((p + 1) ∷ r.places)))),
        record {
          hand = enter;
          shows = inl refl;
          place = 0;
          running = record { function = f; raw = raw; places = (p + 1) ∷ r.places; found = of; kinds = kinds_in; waiting = (r.function, r.raw, r.found, r.kinds, w, r.waiting) };
          at = (
            on of.of.entry,
            ([], 1, of.of.over, (0, refl), subst (λ (g : Function). BlockAt (scope_of project parts f raw) [] g.body 1 of.of.over) (sym (found_function project n f found)) of.of.body, (of.of.over, (0, refl), of.of.first, on of.of.back)),
          );
          is = refl;
        },
      )
      follow false e = (m0, here (code.next parts) m0, e, λ a fit. absurd fit)

  -- a run error, or what stands behind an outcome
  pub failed : (hand after : Hand) (c : ℕ) (below : List Value) (p : ℕ) → HandAt (own project parts t r) after t.left (p + 1) → (b : Bool) → code.next parts (machine project parts t r p below) ≡ moves.failed_if b c (hand_held after t.left) (machine project parts t r p below) → Followed project parts (with hand t) (walk.failed_if b c after t) (machine project parts t r p below)
  failed hand after c below p at true e = (
    spelled after (record t { error = c }) (p + 1) r.places,
    by_quiet (code.next parts) _ _ _ 0 e (here (code.next parts) _),
    record { hand = after; shows = inl refl; place = p + 1; running = r; at = at; is = refl },
  )
  failed hand after c below p at false e = (machine project parts t r p below, here (code.next parts) _, e, λ a fit. absurd fit)

  pub came : (hand : Hand) (kind : Kind) (o : Outcome) (wants : List Want) (aim : Aim) (below : List Value) (p : ℕ) → WantsAt (own project parts t r) wants aim t.left (Some (outcome_kind kind o)) (p + 1) → code.next parts (machine project parts t r p below) ≡ moves.came kind o (operands wants aim t.left) (machine project parts t r p below) → Followed project parts (with hand t) (walk.came kind o wants aim t) (machine project parts t r p below)
  came hand kind (Ok v) wants aim below p w e =
      (spelled (give v wants aim) t (p + 1) r.places, by_quiet (code.next parts) _ _ _ 0 e (here (code.next parts) _), at_place project parts t r (give v wants aim) t.left (p + 1) w)
  came hand kind (Err c) wants aim below p w e =
      failed hand (give (first_of_kind kind) wants aim) c below p
      (subst (λ k. WantsAt (own project parts t r) wants aim t.left (Some k) (p + 1)) (sym (first_kind kind)) w)
      t.goes_on e

  -- a private function has come to something
  computed : (hand : Hand) (q : PrivateName) (args : List Value) (o : Outcome) (wants : List Want) (aim : Aim) (below : List Value) (p : ℕ) → outcome_kind (private_gives q) o ≡ private_gives q → WantsAt (own project parts t r) wants aim t.left (Some (private_gives q)) (p + 1) → code.next parts (machine project parts t r p below) ≡ code.computed q args o (operands wants aim t.left) (machine project parts t r p below) → Followed project parts (with hand t) (walk.computed q args o wants aim t) (machine project parts t r p below)
  computed hand q args (Ok v) wants aim below p k w e = (
    spelled (give v wants aim) (record t { error = error_after q t.error; goes_on = goes_on_after q args t.goes_on }) (p + 1) r.places,
    by_quiet (code.next parts) _ _ _ 0 e (here (code.next parts) _),
    record {
      hand = give v wants aim;
      shows = inl refl;
      place = p + 1;
      running = r;
      at = subst (λ x. WantsAt (own project parts t r) wants aim t.left (Some x) (p + 1)) (sym k) w;
      is = refl;
    },
  )
  computed hand q args (Err c) wants aim below p k w e =
      failed hand (give (first_of_kind (private_gives q)) wants aim) c below p
      (subst (λ x. WantsAt (own project parts t r) wants aim t.left (Some x) (p + 1)) (sym (first_kind (private_gives q))) w)
      t.goes_on e

  -- a call with its arguments in hand, the latest first; an answer to it is wanted for the same
  pub called : (hand : Hand) (callee : Callee) (vs : List Value) (wants : List Want) (aim : Aim) (p : ℕ) (head : Signature) → ((x : Value) → tree.resumed hand x ≡ give x wants aim) → signature (own project parts t r).context callee ≡ Some head → head.takes ≡ back_onto (map kind_of vs) [] → Does (own project parts t r) p (calling callee) → WantsAt (own project parts t r) wants aim t.left head.gives (p + 1) → Followed project parts (with hand t) (walk.called project callee (reverse vs) wants aim t) (machine project parts t r p (vs ++ operands wants aim t.left))
  called hand (to.function n) vs wants aim p head resumes found takes h w =
      let (f, there, same) = mapped function_signature (slice_get project.functions n) head found in
      entered (with hand t) n f vs wants aim p there (ap (λ (x : Signature). x.takes) same ∙ takes) h
      (subst (λ (x : Signature). WantsAt (own project parts t r) wants aim t.left x.gives (p + 1)) (sym same) w)
  called hand (to.private q) vs wants aim p head resumes found takes h w =
      let same : record { takes = private_takes q; gives = Some (private_gives q) } ≡ head = cc found in
      let kinds : private_takes q ≡ back_onto (map kind_of vs) [] = ap (λ (x : Signature). x.takes) same ∙ takes in
      let fine : map kind_of (reverse vs) ≡ private_takes q = map_reverse kind_of vs ∙ sym kinds in
      let ops : List Value = operands wants aim t.left in
      let m0 : Machine = machine project parts t r p (vs ++ ops) in
      computed hand q (reverse vs) (private_value t.error q (reverse vs)) wants aim (vs ++ ops) p (of_kind (private_gives q) (private_value t.error q (reverse vs)) (private_kind t.error q (reverse vs) fine))
      (subst (λ (x : Signature). WantsAt (own project parts t r) wants aim t.left x.gives (p + 1)) (sym same) w)
      (does_it project parts t r p (vs ++ ops) (does.Private q) h ∙ several_there (private_takes q) (λ args below. code.computed q args (private_value t.error q args) below m0) vs ops kinds)
  called hand (to.shared q) vs wants aim p head resumes found takes h w =
      let same : record { takes = shared_takes q; gives = Some Int } ≡ head = cc found in
      let kinds : shared_takes q ≡ back_onto (map kind_of vs) [] = ap (λ (x : Signature). x.takes) same ∙ takes in
      let ops : List Value = operands wants aim t.left in
      let m0 : Machine = machine project parts t r p (vs ++ ops) in
      let n : length (shared_takes q) ≡ length vs = ap length kinds ∙ length_reverse (map kind_of vs) ∙ length_mapped kind_of vs in (
        m0,
        here (code.next parts) m0,
        does_it project parts t r p (vs ++ ops) (does.Ask q) h ∙ several_there (shared_takes q) (λ args below. asks (request_of q args)) vs ops kinds,
        λ a fit.
            let k : kind_of a.value ≡ Int = asked_kind (cell_kinds project) q (reverse vs) a fit in
            let w' : WantsAt (own project parts t r) wants aim t.left (Some Int) (p + 1) = subst (λ (x : Signature). WantsAt (own project parts t r) wants aim t.left x.gives (p + 1)) (sym same) w in
            record {
              hand = give a.value wants aim;
              shows = inl (resumes a.value);
              place = p + 1;
              running = r;
              at = subst (λ x. WantsAt (own project parts t r) wants aim t.left (Some x) (p + 1)) (sym k) w';
              is =
                  ap (heard m0 a) (fetched project parts t r p (vs ++ ops) (does.Ask q) h)
                  ∙ ap (λ xs. spelled_with a (a.value ∷ xs) p) (drop_front vs ops (length (shared_takes q)) n);
            },
      )
    where
      spelled_with : Answer → List Value → ℕ → Machine
      spelled_with a ops p = record {
        top = record { function = t.function; place = p + 1; locals = t.locals; operands = ops };
        callers = frames t.callers r.places;
        error = error_kept a.code t.error;
        last = last_after a.extra t.last;
        goes_on = t.goes_on;
      }

  -- a value is given to the function that waits
  gives_back : (c0 : Configuration) (v : Value) (below : List Value) (p : ℕ) (callers : List Caller) (places : List ℕ) (g : Option Kind) → kind_of v ≡ left_kind g → CallersAt project parts callers places g → code.next parts (record { top = record { function = t.function; place = p; locals = t.locals; operands = v ∷ below }; callers = frames callers places; error = t.error; last = t.last; goes_on = t.goes_on }) ≡ code.returned (code.given g v) (frames callers places) (record { top = record { function = t.function; place = p; locals = t.locals; operands = v ∷ below }; callers = frames callers places; error = t.error; last = t.last; goes_on = t.goes_on }) → Followed project parts c0 (walk.returned v callers t) (record { top = record { function = t.function; place = p; locals = t.locals; operands = v ∷ below }; callers = frames callers places; error = t.error; last = t.last; goes_on = t.goes_on })
  gives_back c0 v below p [] places g k w e = (_, here (code.next parts) _, e, λ a fit. absurd fit)
  gives_back c0 v below p (c ∷ callers) places (Some j) k (f, raw, found, kinds, w, rest) e = (
    spelled (give v c.wants c.aim) (record { function = c.function; locals = c.locals; left = c.left; callers = callers; error = t.error; last = t.last; goes_on = t.goes_on }) (first_place places) (other_places places),
    by_quiet (code.next parts) _ _ _ 0 e (here (code.next parts) _),
    record {
      hand = give v c.wants c.aim;
      shows = inl refl;
      place = first_place places;
      running = record { function = f; raw = raw; places = other_places places; found = found; kinds = kinds; waiting = rest };
      at = subst (λ x. WantsAt (scope_of project parts f raw) c.wants c.aim c.left (Some x) (first_place places)) (sym k) w;
      is = refl;
    },
  )
  gives_back c0 v below p (c ∷ callers) places None k (f, raw, found, kinds, w, rest) e =
      let zero_int : Value = values.Int (pos 0) in
      let any = none_any (scope_of project parts f raw) c.wants c.aim c.left (first_place places) w (Some Int) v zero_int in (
        spelled (give zero_int c.wants c.aim) (record { function = c.function; locals = c.locals; left = c.left; callers = callers; error = t.error; last = t.last; goes_on = t.goes_on }) (first_place places) (other_places places),
        by_quiet (code.next parts) _ _ _ 0 e (here (code.next parts) _),
        record {
          hand = give zero_int c.wants c.aim;
          shows = inr any.1;
          place = first_place places;
          running = record { function = f; raw = raw; places = other_places places; found = found; kinds = kinds; waiting = rest };
          at = any.0;
          is = refl;
        },
      )

  pub returned : (c0 : Configuration) (v : Value) (below : List Value) (p : ℕ) → kind_of v ≡ left_kind r.function.gives → Does (own project parts t r) p does.Return → Followed project parts c0 (walk.returned v t.callers t) (machine project parts t r p (v ∷ below))
  returned c0 v below p k h = gives_back c0 v below p t.callers r.places r.function.gives k r.waiting eq
    where
      m0 : Machine
      m0 = machine project parts t r p (v ∷ below)

      ends : Option Kind → moves.Move
      ends g = only_if (moves.is_of (left_kind g) v) (code.returned (code.given g v) m0.callers m0)

      eq : code.next parts m0 ≡ code.returned (code.given r.function.gives v) m0.callers m0
      eq =
          does_it project parts t r p (v ∷ below) does.Return h
          ∙ ap (λ o. code.ended o m0) r.found.raw_there
          ∙ ap ends r.found.of.gives
          ∙ ap (λ b. only_if b (code.returned (code.given r.function.gives v) m0.callers m0)) (is_of_kind (left_kind r.function.gives) v k)
