-- Each step inside an expression is followed by the code.
use Rattle.std.proofs.Common.{◌≡◌, ℕ, ◌+◌, Bool, true, false, inl, List, [], ◌∷◌, ◌++◌, map, Option, Some, None, refl, sym, ap, ◌∙◌, subst}
use Rattle.std.specs.Prelude.{ℤ, slice_get}
use Rattle.ci_base.specs.declared.errors.TheConstants.{BAD_INDEX}
use Rattle.ci_base.specs.declared.function.SharedName.TheVariants as shared
use Rattle.ci_base.specs.declared.reply.Answer.{Answer}
use Rattle.ci_base.specs.declared.value.Kind.{Kind}
use Rattle.ci_base.specs.declared.value.Kind.TheVariants.{Int, Str}
use Rattle.ci_base.specs.declared.value.Value.{Value}
use Rattle.ci_base.specs.declared.value.Value.TheVariants as values
use Rattle.ci_base.specs.Heard.{error_kept, last_after}
use Rattle.ci_base.specs.Requests.{request_of}
use Rattle.ci_base.specs.Steps.{quiet, asks, Reaches}
use Rattle.ci_base.specs.TextFunctions.{formatted}
use Rattle.ci_base.specs.Values.{kind_of, is_zero, fails, first_of_kind}
use Rattle.ci_code.specs.declared.instruction.Instruction.TheVariants as does
use Rattle.ci_code.specs.declared.raw.RawParts.{RawParts}
use Rattle.ci_code.specs.Machine as code
use Rattle.ci_code.specs.Moves.{Machine}
use Rattle.ci_meaning.specs.Configuration.{Targets, Want, as_operand, as_front, as_right, as_index, as_argument, as_queue, as_mode, as_answer, as_kept, Aim, Hand, eval, give, Task, Configuration, with}
use Rattle.ci_meaning.specs.Meaning as tree
use Rattle.ci_meaning.specs.Moves as walk
use Rattle.ci_meaning.specs.Operators.{operate, turned, form}
use Rattle.ci_tree.specs.Bound as to
use Rattle.ci_tree.specs.Bound.{Scalar, Callee, Expr, Exprs, Array, Project}
use Rattle.ci_tree.specs.Sound.{Signature, signature, array_kind}
use Rattle.ci_verify.proofs.Outcomes.{first_kind, formatted_kind}
use Rattle.ci_translation.specs.Instructions.{past, operating, operated, turning, calling}
use Rattle.ci_translation.specs.Simulates.{cell_kinds}
use Rattle.ci_translation.specs.Stands.{Scope, KeepsAt, ExprAt, ArgsAt}
use Rattle.ci_translation.proofs.Calls.{failed, came, called}
use Rattle.ci_translation.proofs.Facts.{some_kind}
use Rattle.ci_translation.proofs.Follow.{here, by_quiet, joined}
use Rattle.ci_translation.proofs.Lists.{back_onto, local_there}
use Rattle.ci_translation.proofs.Machines.{on, cell_in_same, cell_there, array_there, element_kind, Followed, heard, own, machine, at_place, give_at, fetched, does_it, step, last_step, pushes, loads, stores}
use Rattle.ci_translation.proofs.Matches.{Does, WantsAt, HandAt, operands, hand_held, frames, IsRight, Running, Matches}
use Rattle.ci_translation.proofs.Values.{of_kind, operator_acts, asked_kind}

args_more : (s : Scope) (b : List Kind) (e : Expr) (rest : Exprs) (ks : List Kind) (p q : ℕ) → ArgsAt s b (to.more e rest) ks p q → (k : Kind) × (js : List Kind) × (x : ℕ) × (ks ≡ k ∷ js) × ExprAt s b e (Some k) p x × ArgsAt s (b ++ k ∷ []) rest js x q
args_more s b e rest [] p q h = absurd h
args_more s b e rest (k ∷ ks) p q (x, at, more) = (k, ks, x, refl, at, more)

args_none : (s : Scope) (b : List Kind) (ks : List Kind) (p q : ℕ) → ArgsAt s b to.no_expr ks p q → (ks ≡ []) × (p ≡ q)
args_none s b [] p q h = (refl, h)
args_none s b (k ∷ ks) p q h = absurd h

module _ (project : Project) (parts : RawParts) (right : IsRight project parts) (t : Task) (r : Running project parts t.function t.locals t.callers) where
  abbrev s : Scope
  s = own project parts t r

  abbrev at : ℕ → List Value → Machine
  at p ops = machine project parts t r p ops

  -- the machine with an answer behind p
  abbrev answered_at : Answer → ℕ → List Value → Machine
  answered_at a p ops = record {
    top = record { function = t.function; place = p + 1; locals = t.locals; operands = ops };
    callers = frames t.callers r.places;
    error = error_kept a.code t.error;
    last = last_after a.extra t.last;
    goes_on = t.goes_on;
  }

  -- an answer to what the hand asks is given
  answer_at : (hand after : Hand) (p : ℕ) (a : Answer) → tree.resumed hand a.value ≡ after → HandAt s after t.left (p + 1) → (m : Machine) → m ≡ answered_at a p (hand_held after t.left) → Matches project parts (tree.resume (with hand t) a) m
  answer_at hand after p a same w m e = record { hand = after; shows = inl same; place = p + 1; running = r; at = w; is = e }

  -- arguments behind those that are in hand
  argued : (hand : Hand) (callee : Callee) (vs : List Value) (rest : Exprs) (wants : List Want) (aim : Aim) (b ks : List Kind) (head : Signature) (p q : ℕ) → ((x : Value) → tree.resumed hand x ≡ give x wants aim) → signature s.context callee ≡ Some head → head.takes ≡ back_onto (map kind_of vs) ks → ArgsAt s b rest ks p q → Does s q (calling callee) → WantsAt s wants aim t.left head.gives (q + 1) → Followed project parts (with hand t) (tree.argued project callee vs rest wants aim t) (at p (vs ++ operands wants aim t.left))
  argued hand callee vs to.no_expr wants aim b ks head p q resumes found takes args h w =
      let none = args_none s b ks p q args in
      called project parts right t r hand callee vs wants aim p head resumes found
      (takes ∙ ap (back_onto (map kind_of vs)) none.0)
      (subst (λ x. Does s x (calling callee)) (sym none.1) h)
      (subst (λ x. WantsAt s wants aim t.left head.gives (x + 1)) (sym none.1) w)
  argued hand callee vs (to.more e rest) wants aim b ks head p q resumes found takes args h w =
      let (k, js, x, same, ee, more) = args_more s b e rest ks p q args in (
        at p (vs ++ operands wants aim t.left),
        here (code.next parts) _,
        at_place project parts t r (eval e (as_argument callee vs rest ∷ wants) aim) t.left p
            (b, Some k, x, ee, (b ++ k ∷ [], k, head, js, q, refl, found, takes ∙ ap (back_onto (map kind_of vs)) same, more, h, w)),
      )

  pub evaluated : (e : Expr) (wants : List Want) (aim : Aim) (p : ℕ) → HandAt s (eval e wants aim) t.left p → Followed project parts (with (eval e wants aim) t) (tree.evaluated project e wants aim t) (at p (operands wants aim t.left))
  evaluated (to.number n) wants aim p (b, g, q, (eg, is, eq), w) =
      (at (p + 1) (values.Int n ∷ operands wants aim t.left), last_step project parts t r p _ (does.PushInt n) _ (on is) refl, give_at project parts t r (values.Int n) wants aim g (p + 1) q eg eq w)
  evaluated (to.literal text) wants aim p (b, g, q, (eg, is, eq), w) =
      (at (p + 1) (values.Str text ∷ operands wants aim t.left), pushes project parts t r p _ b text is, give_at project parts t r (values.Str text) wants aim g (p + 1) q eg eq w)
  evaluated (to.scalar (to.local i)) wants aim p (b, g, q, (k, eg, kind, is, eq), w) =
      let there = local_there t.locals i k (ap (λ ks. slice_get ks i) r.kinds ∙ kind) in
      let v : Value = walk.local_at t i in
      (at (p + 1) (v ∷ operands wants aim t.left), loads project parts t r p _ i v (on is) there.0, give_at project parts t r v wants aim g (p + 1) q (eg ∙ ap Some (sym there.1)) eq w)
  evaluated (to.scalar (to.cell c)) wants aim p (b, g, q, (k, eg, kind, is, eq), w) =
      let (head, there, same, in_cells) = cell_there project parts right c k kind in
      let ops : List Value = operands wants aim t.left in (
        at p ops,
        here (code.next parts) _,
        does_it project parts t r p ops (does.ReadCell c) (on is) ∙ ap (λ o. code.read o c) there,
        λ a fit.
            let ek : Some k ≡ Some (kind_of a.value) = sym in_cells ∙ fit.kind in
            let w' : WantsAt s wants aim t.left (Some (kind_of a.value)) (p + 1) = subst (λ x. WantsAt s wants aim t.left (Some (kind_of a.value)) x) eq (subst (λ x. WantsAt s wants aim t.left x q) (eg ∙ ek) w) in
            answer_at (eval (to.scalar (to.cell c)) wants aim) (give a.value wants aim) p a refl w' _ (ap (heard (at p ops) a) (fetched project parts t r p ops (does.ReadCell c) (on is))),
      )
  evaluated (to.element a index) wants aim p (b, g, q, (k, x, eg, kind, ei, is, eq), w) = (
    at p (operands wants aim t.left),
    here (code.next parts) _,
    at_place project parts t r (eval index (as_index a ∷ wants) aim) t.left p
        (b, Some Int, x, ei, (k, refl, kind, on is, subst (λ y. WantsAt s wants aim t.left (Some k) y) eq (subst (λ y. WantsAt s wants aim t.left y q) eg w))),
  )
  evaluated (to.called (to.call callee given args)) wants aim p (b, g, q, (x, head, found, ea, is, eg, eq), w) =
      argued (eval (to.called (to.call callee given args)) wants aim) callee [] args wants aim b head.takes head p x (λ v. refl) found refl ea (on is)
      (subst (λ y. WantsAt s wants aim t.left head.gives y) eq (subst (λ y. WantsAt s wants aim t.left y q) eg w))
  evaluated (to.called (to.que_read queue sort text mode)) wants aim p (b, g, q, (x, y, eg, eh, em, is, keeps), w) = (
    at p (operands wants aim t.left),
    here (code.next parts) _,
    at_place project parts t r (eval queue (as_queue mode (record { sort = sort; text = text }) ∷ wants) aim) t.left p
        (b, Some Int, x, eh, (b ++ Int ∷ [], b, y, q, refl, em, on is, keeps, subst (λ z. WantsAt s wants aim t.left z q) eg w)),
  )
  evaluated (to.unary minus operand) wants aim p (b, g, q, (x, eg, eo, is, eq), w) = (
    at p (operands wants aim t.left),
    here (code.next parts) _,
    at_place project parts t r (eval operand (as_operand minus ∷ wants) aim) t.left p
        (b, Some Int, x, eo, (refl, on is, subst (λ y. WantsAt s wants aim t.left (Some Int) y) eq (subst (λ y. WantsAt s wants aim t.left y q) eg w))),
  )
  evaluated (to.chain e rest) wants aim p (b, g, q, (k, x, ee, el), w) = (
    at p (operands wants aim t.left),
    here (code.next parts) _,
    at_place project parts t r (eval e (as_front rest ∷ wants) aim) t.left p (b, Some k, x, ee, (b, k, g, q, refl, el, w)),
  )

  -- the element of an array is read
  element_read : (a : ℕ) (x : Array) (i : ℤ) (v : Value) (wants : List Want) (aim : Aim) (p : ℕ) → slice_get project.arrays a ≡ Some x → Does s p (does.ReadAt a) → WantsAt s wants aim t.left (Some x.kind) (p + 1) → (c : Option ℕ) → walk.cell_in x i ≡ c → code.next parts (at p (v ∷ operands wants aim t.left)) ≡ code.read_cell c x.kind (operands wants aim t.left) (at p (v ∷ operands wants aim t.left)) → Followed project parts (with (give v (as_index a ∷ wants) aim) t) (walk.read_cell c x.kind wants aim t) (at p (v ∷ operands wants aim t.left))
  element_read a x i v wants aim p found h w (Some c) in_it e = (
    at p (v ∷ operands wants aim t.left),
    here (code.next parts) _,
    e,
    λ y fit.
        let k : x.kind ≡ kind_of y.value = element_kind project parts right a x i c (kind_of y.value) found in_it fit.kind in
        answer_at (give v (as_index a ∷ wants) aim) (give y.value wants aim) p y refl (subst (λ j. WantsAt s wants aim t.left (Some j) (p + 1)) k w) _ (ap (heard (at p (v ∷ operands wants aim t.left)) y) (fetched project parts t r p (v ∷ operands wants aim t.left) (does.ReadAt a) h)),
  )
  element_read a x i v wants aim p found h w None in_it e =
      failed project parts right t r (give v (as_index a ∷ wants) aim) (give (first_of_kind x.kind) wants aim) BAD_INDEX (v ∷ operands wants aim t.left) p
      (subst (λ j. WantsAt s wants aim t.left (Some j) (p + 1)) (sym (first_kind x.kind)) w)
      t.goes_on e

  element_step : (a : ℕ) (v : Value) (wants : List Want) (aim : Aim) (p : ℕ) (k : Kind) → kind_of v ≡ Int → array_kind s.context a ≡ Some k → Does s p (does.ReadAt a) → WantsAt s wants aim t.left (Some k) (p + 1) → Followed project parts (with (give v (as_index a ∷ wants) aim) t) (walk.read_element project a v wants aim t) (at p (v ∷ operands wants aim t.left))
  element_step a (values.Str z) wants aim p k ek kind h w = absurd (cc ek)
  element_step a (values.Int i) wants aim p k ek kind h w =
      let (x, found, there, same) = array_there project parts right a k kind in
      let ops : List Value = operands wants aim t.left in
      let m0 : Machine = at p (values.Int i ∷ ops) in
      subst (λ o. Followed project parts (with (give (values.Int i) (as_index a ∷ wants) aim) t) (walk.read_cell (walk.cell_of o (values.Int i)) (walk.kind_in o) wants aim t) m0) (sym found)
      (element_read a x i (values.Int i) wants aim p found h (subst (λ j. WantsAt s wants aim t.left (Some j) (p + 1)) (sym same) w) (walk.cell_in x i) refl
      (does_it project parts t r p (values.Int i ∷ ops) (does.ReadAt a) h
      ∙ ap (λ o. code.read_at o m0) there
      ∙ ap (λ o. code.read_cell o x.kind ops m0) (cell_in_same x i)))

  turns : (minus : Bool) (v : Value) (ops : List Value) (p : ℕ) → kind_of v ≡ Int → code.act parts (turning minus) (at p (v ∷ ops)) ≡ quiet (at (p + 1) (turned minus v ∷ ops))
  turns true (values.Int n) ops p e = refl
  turns false (values.Int n) ops p e = refl
  turns minus (values.Str z) ops p e = absurd (cc e)

  turned_kind : (minus : Bool) (v : Value) → kind_of v ≡ Int → kind_of (turned minus v) ≡ Int
  turned_kind true (values.Int n) e = refl
  turned_kind false (values.Int n) e = refl
  turned_kind minus (values.Str z) e = absurd (cc e)

  form_step : (count : ℕ) (v : Value) (rest : to.Links) (wants : List Want) (aim : Aim) (p : ℕ) → kind_of v ≡ Int → Does s p (does.Form count) → WantsAt s (as_front rest ∷ wants) aim t.left (Some Str) (p + 1) → Followed project parts (with (give v (as_front (to.hashes count rest) ∷ wants) aim) t) (walk.came Str (form count v) (as_front rest ∷ wants) aim t) (at p (v ∷ operands wants aim t.left))
  form_step count (values.Str z) rest wants aim p ek h w = absurd (cc ek)
  form_step count (values.Int n) rest wants aim p ek h w =
      came project parts right t r (give (values.Int n) (as_front (to.hashes count rest) ∷ wants) aim) Str (formatted n count) (as_front rest ∷ wants) aim (values.Int n ∷ operands wants aim t.left) p
      (subst (λ k. WantsAt s (as_front rest ∷ wants) aim t.left (Some k) (p + 1)) (sym (of_kind Str (formatted n count) (formatted_kind n count))) w)
      (does_it project parts t r p _ (does.Form count) h)

  asked_same : (u v : Value) (ops : List Value) (p : ℕ) → kind_of u ≡ Int → kind_of v ≡ Int → code.act parts (does.Ask shared.QueRead) (at p (v ∷ u ∷ ops)) ≡ asks (request_of shared.QueRead (u ∷ v ∷ []))
  asked_same (values.Int a) (values.Int b) ops p e f = refl
  asked_same (values.Str a) v ops p e f = absurd (cc e)
  asked_same (values.Int a) (values.Str b) ops p e f = absurd (cc f)

  -- behind QueRead's answer: to the assignment of the element, or to the end
  abbrev tested_at : Bool → ℕ → List Value → Machine
  tested_at true p ops = at (past 3 p) ops
  tested_at false p ops = at (past 2 p) ops

  tested : (v : Value) (ops : List Value) (p : ℕ) (b : List Kind) (sort text : Scalar) (q : ℕ) → kind_of v ≡ Int → KeepsAt s b sort text p q → Reaches (code.next parts) (at p (v ∷ ops)) 0 (tested_at (fails v) p (v ∷ ops))
  tested (values.Str z) ops p b sort text q ek keeps = absurd (cc ek)
  tested (values.Int n) ops p b sort text q ek keeps =
      step project parts t r p _ does.Dup (at (past 1 p) (values.Int n ∷ values.Int n ∷ ops)) _ 0 (on keeps.twice) refl
      (zero_or (is_zero n) (does_it project parts t r (past 1 p) _ (does.JumpIfZero (past 3 p)) (on keeps.zero)))
    where
      zero_or : (z : Bool) → code.next parts (at (past 1 p) (values.Int n ∷ values.Int n ∷ ops)) ≡ code.branched z (past 3 p) (values.Int n ∷ ops) (at (past 1 p) (values.Int n ∷ values.Int n ∷ ops)) → Reaches (code.next parts) (at (past 1 p) (values.Int n ∷ values.Int n ∷ ops)) 0 (tested_at z p (values.Int n ∷ ops))
      zero_or true e = by_quiet (code.next parts) _ _ _ 0 e (here _ _)
      zero_or false e = by_quiet (code.next parts) _ _ _ 0 e (here _ _)

  read_step : (c0 : Configuration) (v : Value) (targets : Targets) (wants : List Want) (aim : Aim) (p q : ℕ) (b : List Kind) → kind_of v ≡ Int → KeepsAt s b targets.sort targets.text p q → WantsAt s wants aim t.left (Some Int) q → (z : Bool) → Reaches (code.next parts) (at p (v ∷ operands wants aim t.left)) 0 (tested_at z p (v ∷ operands wants aim t.left)) → Followed project parts c0 (tree.read_if z v targets wants aim t) (at p (v ∷ operands wants aim t.left))
  read_step c0 v targets wants aim p q b ek keeps w true front =
      let d = stores project parts t r right targets.sort (values.Int t.last.sort) (give v (as_kept targets.text ∷ wants) aim) t.left (past 4 p) keeps.sort_kind (on keeps.write_sort)
      (ap Some ek, keeps.text_kind, on keeps.take_text, on keeps.write_text, subst (λ x. WantsAt s wants aim t.left (Some Int) x) keeps.over w) in (
        d.0,
        joined (code.next parts) _ (at (past 3 p) (v ∷ operands wants aim t.left)) _ 0 0 front (step project parts t r (past 3 p) _ does.TakeSort _ _ 0 (on keeps.take_sort) refl d.1),
        d.2,
      )
  read_step c0 v targets wants aim p q b ek keeps w false front = (
    at q (v ∷ operands wants aim t.left),
    joined (code.next parts) _ (at (past 2 p) (v ∷ operands wants aim t.left)) _ 0 0 front (last_step project parts t r (past 2 p) _ (does.Jump q) _ (on keeps.leave) refl),
    give_at project parts t r v wants aim (Some Int) q q (ap Some (sym ek)) refl w,
  )

  pub used : (v : Value) (want : Want) (wants : List Want) (aim : Aim) (p : ℕ) → WantsAt s (want ∷ wants) aim t.left (Some (kind_of v)) p → Followed project parts (with (give v (want ∷ wants) aim) t) (tree.used project v want wants aim t) (at p (v ∷ operands (want ∷ wants) aim t.left))
  used v (as_operand minus) wants aim p (ek, h, w) =
      let k : kind_of v ≡ Int = some_kind _ _ ek in (
        at (p + 1) (turned minus v ∷ operands wants aim t.left),
        last_step project parts t r p _ (turning minus) _ h (turns minus v (operands wants aim t.left) p k),
        give_at project parts t r (turned minus v) wants aim (Some Int) (p + 1) (p + 1) (ap Some (sym (turned_kind minus v k))) refl w,
      )
  used v (as_front to.no_link) wants aim p (b, k, g, q, ek, (eg, eq), w) =
      (at p (v ∷ operands wants aim t.left), here (code.next parts) _, give_at project parts t r v wants aim g p q (eg ∙ sym ek) (sym eq) w)
  used v (as_front (to.operand op e rest)) wants aim p (b, k, g, q, ek, (x, j, eo, ee, is, el), w) =
      let same : k ≡ kind_of v = sym (some_kind _ _ ek) in (
        at p (v ∷ operands wants aim t.left),
        here (code.next parts) _,
        at_place project parts t r (eval e (as_right v op rest ∷ wants) aim) t.left p
            (b ++ k ∷ [], Some k, x, ee, (b, j, g, q, ap Some same, subst (λ y. operated op y ≡ Some j) same eo, subst (λ y. Does s x (operating op y)) same (on is), el, w)),
      )
  used v (as_front (to.hashes count rest)) wants aim p (b, k, g, q, ek, (same, is, el), w) =
      form_step count v rest wants aim p (some_kind _ _ ek ∙ same) (on is) (b, Str, g, q, refl, el, w)
  used v (as_right u op rest) wants aim p (b, j, g, q, ek, eo, h, el, w) =
      let m0 = at p (v ∷ u ∷ operands wants aim t.left) in
      let acts = operator_acts parts op u v j (operands wants aim t.left) m0 (some_kind _ _ ek) eo in
      came project parts right t r (give v (as_right u op rest ∷ wants) aim) (kind_of u) (operate op u v) (as_front rest ∷ wants) aim (v ∷ u ∷ operands wants aim t.left) p
      (b, j, g, q, ap Some acts.1, el, w)
      (does_it project parts t r p _ (operating op (kind_of u)) h ∙ acts.0)
  used v (as_index a) wants aim p (k, ek, kind, h, w) = element_step a v wants aim p k (some_kind _ _ ek) kind h w
  used v (as_argument callee before rest) wants aim p (b, k, head, ks, q, ek, found, takes, args, h, w) =
      let same : k ≡ kind_of v = sym (some_kind _ _ ek) in
      argued (give v (as_argument callee before rest ∷ wants) aim) callee (v ∷ before) rest wants aim b ks head p q (λ x. refl) found (takes ∙ ap (λ y. back_onto (map kind_of before) (y ∷ ks)) same) args h w
  used v (as_queue mode targets) wants aim p (b, c, y, q, ek, ee, h, keeps, w) = (
    at p (v ∷ operands wants aim t.left),
    here (code.next parts) _,
    at_place project parts t r (eval mode (as_mode v targets ∷ wants) aim) t.left p (b, Some Int, y, ee, (c, q, refl, some_kind _ _ ek, h, keeps, w)),
  )
  used v (as_mode queue targets) wants aim p (b, q, ek, eu, h, keeps, w) =
      let ops : List Value = operands wants aim t.left in (
        at p (v ∷ queue ∷ ops),
        here (code.next parts) _,
        does_it project parts t r p (v ∷ queue ∷ ops) (does.Ask shared.QueRead) h ∙ asked_same queue v ops p eu (some_kind _ _ ek),
        λ a fit.
            let k : kind_of a.value ≡ Int = asked_kind (cell_kinds project) shared.QueRead (queue ∷ v ∷ []) a fit in
            answer_at (give v (as_mode queue targets ∷ wants) aim) (give a.value (as_answer targets ∷ wants) aim) p a refl (b, q, ap Some k, keeps, w) _ (ap (heard (at p (v ∷ queue ∷ ops)) a) (fetched project parts t r p (v ∷ queue ∷ ops) (does.Ask shared.QueRead) h)),
      )
  used v (as_answer targets) wants aim p (b, q, ek, keeps, w) =
      let k : kind_of v ≡ Int = some_kind _ _ ek in
      read_step (with (give v (as_answer targets ∷ wants) aim) t) v targets wants aim p q b k keeps w (fails v) (tested v (operands wants aim t.left) p b targets.sort targets.text q k keeps)
  used v (as_kept target) wants aim p (ek, kind, h, h', w) =
      let k : Some (kind_of v) ≡ Some Int = ek in
      let d = stores project parts t r right target (values.Str t.last.text) (give v wants aim) t.left (p + 1) kind h' (subst (λ y. WantsAt s wants aim t.left y (past 2 p)) (sym k) w) in
      (d.0, step project parts t r p _ does.TakeText _ _ 0 h refl d.1, d.2)
