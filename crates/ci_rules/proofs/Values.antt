-- Each place of the code of an expression is fine.
use Rattle.std.proofs.Common.{◌≡◌, ℕ, ◌+◌, ◌≤◌, true, List, [], ◌∷◌, ◌++◌, length, Option, Some, refl, ap, ◌∙◌, subst, arith, length-append}
use Rattle.std.proofs.lemmas.Option.{slice_get_within}
use Rattle.std.specs.Prelude.{slice_get, option_map}
use Rattle.ci_base.specs.declared.function.SharedName.TheVariants as shared
use Rattle.ci_base.specs.declared.layout.Layout.{Layout}
use Rattle.ci_base.specs.declared.value.Kind.{Kind}
use Rattle.ci_base.specs.declared.value.Kind.TheVariants.{Int, Str}
use Rattle.ci_base.specs.Functions.{private_takes, private_gives, shared_takes}
use Rattle.ci_code.specs.declared.instruction.Instruction.TheVariants as does
use Rattle.ci_code.specs.declared.raw.RawFunction.{RawFunction}
use Rattle.ci_code.specs.declared.raw.RawParts.{RawParts}
use Rattle.ci_code.specs.Moves as moves
use Rattle.ci_translation.proofs.Facts.{and_both}
use Rattle.ci_translation.proofs.Lists.{get_map, mapped}
use Rattle.ci_translation.proofs.Matches.{IsRight}
use Rattle.ci_translation.specs.Instructions.{past, calling, left_kind}
use Rattle.ci_translation.specs.Stands.{Scope, Is, KeepsAt, ExprAt, CallAt, LinksAt, ArgsAt, scope_of, IsFunctionOf}
use Rattle.ci_tree.specs.Bound as to
use Rattle.ci_tree.specs.Bound.{Scalar, Callee, Expr, Call, Links, Exprs, Function, Project}
use Rattle.ci_tree.specs.BoundTests.{formats_fit, expr_passes, call_passes, links_pass, exprs_pass}
use Rattle.ci_tree.specs.Layouts.{head_of}
use Rattle.ci_tree.specs.Rooms.{width, call_width, links_width, args_width}
use Rattle.ci_tree.specs.Sound.{Signature, signature, function_signature, param_kinds}
use Rattle.ci_verify.specs.Kinds.{listed}
use Rattle.ci_rules.proofs.Expressions.{some_width, args_wide, expr_begins, args_begin, links_begin, turns, operates, forms, leaves_int}
use Rattle.ci_rules.proofs.Shapes.{Begins, begins, begins_from, joined, FineAt, Fine, one, both, nothing, line, Roomy, Wide, fine, fine_push, branch, jump, dup, push_text, reads, writes, reads_element, is_joined, up}

module _ (project : Project) (parts : RawParts) (right : IsRight project parts) (f : Function) (raw : RawFunction) (of : IsFunctionOf project parts f raw) (roomy : Roomy (scope_of project parts f raw)) where
  abbrev s : Scope
  s = scope_of project parts f raw

  -- Calls

  parameters : (n : ℕ) (g : Function) → slice_get project.functions n ≡ Some g → moves.parameters_of parts n ≡ param_kinds g
  parameters n g e =
      ap (λ (l : Layout). moves.parameters_in (slice_get l.functions n)) right.whole.layout
      ∙ ap moves.parameters_in (get_map head_of project.functions n ∙ ap (option_map head_of) e)

  calls : (callee : Callee) (head : Signature) (b : List Kind) (p n : ℕ) → signature s.context callee ≡ Some head → Is s (b ++ head.takes) p (calling callee) → Begins s (b ++ left_kind head.gives ∷ []) (p + 1) → Wide s b n → length head.takes ≤ n → 1 ≤ n → FineAt s p
  calls (to.function m) head b p n found is at wide tn some =
      let (g, there, same) = mapped function_signature (slice_get project.functions m) head found in
      let (raw', at', of') = right.whole.functions m g there in
      let takes : moves.parameters_of parts m ≡ head.takes = parameters m g there ∙ ap (λ (x : Signature). x.takes) same in
      let leaves : listed (option_map moves.value_kind (slice_get parts.functions m)) ≡ left_kind head.gives ∷ [] =
      ap (λ o. listed (option_map moves.value_kind o)) at' ∙ ap (λ o. left_kind o ∷ []) of'.gives ∙ ap (λ (x : Signature). left_kind x.gives ∷ []) same in
      fine s roomy b head.takes (left_kind head.gives ∷ []) p (does.Call m) n is (record { takes = takes; stays = refl; leaves = leaves }) (slice_get_within parts.functions m raw' at') at tt wide tn some
  calls (to.private q) head b p n found is at wide tn some =
      let same : record { takes = private_takes q; gives = Some (private_gives q) } ≡ head = cc found in
      fine s roomy b head.takes (left_kind head.gives ∷ []) p (does.Private q) n is
      (record { takes = ap (λ (x : Signature). x.takes) same; stays = refl; leaves = ap (λ (x : Signature). left_kind x.gives ∷ []) same })
      tt at tt wide tn some
  calls (to.shared q) head b p n found is at wide tn some =
      let same : record { takes = shared_takes q; gives = Some Int } ≡ head = cc found in
      fine s roomy b head.takes (left_kind head.gives ∷ []) p (does.Ask q) n is
      (record { takes = ap (λ (x : Signature). x.takes) same; stays = refl; leaves = ap (λ (x : Signature). left_kind x.gives ∷ []) same })
      tt at tt wide tn some

  -- the element that QueRead assigns
  keeps : (b : List Kind) (sort text : Scalar) (p q : ℕ) → KeepsAt s b sort text p q → Begins s (b ++ Int ∷ []) q → Wide s b 2 → Fine s p q
  keeps b sort text p q k at wide =
      let c : List Kind = b ++ Int ∷ [] in
      let above : Wide s c 1 = up s b (Int ∷ []) 2 1 wide (omega arith) in
      let end : Begins s c (past 7 p) = subst (Begins s c) k.over at in
      let zero : Is s (c ++ Int ∷ []) (past 1 p) (does.JumpIfZero (past 3 p)) = is_joined s b (Int ∷ []) (Int ∷ []) (past 1 p) _ k.zero in
      let sort_at : Is s (c ++ Int ∷ []) (past 4 p) _ = is_joined s b (Int ∷ []) (Int ∷ []) (past 4 p) _ k.write_sort in
      let text_at : Is s (c ++ Str ∷ []) (past 6 p) _ = is_joined s b (Int ∷ []) (Str ∷ []) (past 6 p) _ k.write_text in
      line s p q (dup s roomy b Int p 2 k.twice (begins k.zero) wide (omega arith))
      (line s (past 1 p) q (branch s roomy c (past 1 p) (past 3 p) 1 zero (begins k.take_sort) (begins k.leave) (omega arith) above (omega arith))
      (line s (past 2 p) q (jump s roomy c (past 2 p) q 1 k.leave at (omega (arith, k.over)) above)
      (line s (past 3 p) q (leaves_int s roomy c (past 3 p) does.TakeSort 1 refl refl refl tt refl k.take_sort (begins sort_at) above (omega arith))
      (line s (past 4 p) q (writes project parts right f raw of roomy sort Int c (past 4 p) 1 k.sort_kind sort_at (begins k.take_text) above (omega arith))
      (line s (past 5 p) q (fine_push s roomy c (Str ∷ []) (past 5 p) does.TakeText 1 k.take_text (record { takes = refl; stays = refl; leaves = refl }) tt (begins text_at) tt above (omega arith))
      (one s (past 6 p) q k.over (writes project parts right f raw of roomy text Str c (past 6 p) 1 k.text_kind text_at end above (omega arith))))))))

  -- behind an expression stands its value
  next : (b : List Kind) (g : Option Kind) (k : Kind) (p q : ℕ) → g ≡ Some k → q ≡ p + 1 → Begins s (b ++ left_kind g ∷ []) q → Begins s (b ++ k ∷ []) (p + 1)
  next b g k p q eg eq at = subst (λ o. Begins s (b ++ left_kind o ∷ []) (p + 1)) eg (begins_from s (b ++ left_kind g ∷ []) (p + 1) q eq at)

  mutual
    pub expr_fine : (b : List Kind) (e : Expr) (g : Option Kind) (p q : ℕ) → ExprAt s b e g p q → Begins s (b ++ left_kind g ∷ []) q → Wide s b (width e) → expr_passes formats_fit e ≡ true → Fine s p q
    expr_fine b (to.number n) g p q (eg, is, eq) at wide fit =
        one s p q eq (leaves_int s roomy b p (does.PushInt n) 1 refl refl refl tt refl is (next b g Int p q eg eq at) wide (omega arith))
    expr_fine b (to.literal text) g p q (eg, h, eq) at wide fit =
        one s p q eq (push_text s roomy b p 1 text h (next b g Str p q eg eq at) wide (omega arith))
    expr_fine b (to.scalar x) g p q (k, eg, kind, is, eq) at wide fit =
        one s p q eq (reads project parts right f raw of roomy x k b p 1 kind is (next b g k p q eg eq at) wide (omega arith))
    expr_fine b (to.element a index) g p q (k, x, eg, kind, ei, is, eq) at wide fit =
        both s p x q (expr_fine b index (Some Int) p x ei (begins is) wide fit)
        (one s x q eq (reads_element project parts right f raw of roomy a k b x (width index) kind is (next b g k x q eg eq at) wide (some_width index)))
    expr_fine b (to.called what) g p q h at wide fit = call_fine b what g p q h at wide fit
    expr_fine b (to.unary minus e) g p q (x, eg, ee, is, eq) at wide fit =
        both s p x q (expr_fine b e (Some Int) p x ee (begins is) wide fit)
        (one s x q eq (turns s roomy minus b x (width e) is (next b g Int x q eg eq at) wide (some_width e)))
    expr_fine b (to.chain e rest) g p q (k, x, ee, el) at wide fit =
        let (fe, fl) = and_both (expr_passes formats_fit e) (links_pass formats_fit rest) fit in
        both s p x q (expr_fine b e (Some k) p x ee (links_begin s b rest k g x q el at) (omega arith) fe)
        (links_fine b rest k g x q el at (width e) (some_width e) (omega arith) (omega arith) fl)

    pub call_fine : (b : List Kind) (what : Call) (g : Option Kind) (p q : ℕ) → CallAt s b what g p q → Begins s (b ++ left_kind g ∷ []) q → Wide s b (call_width what) → call_passes formats_fit what ≡ true → Fine s p q
    call_fine b (to.call callee given args) g p q (x, head, found, ea, is, eg, eq) at wide fit =
        let many = args_wide s b args head.takes 0 p x ea in
        both s p x q (args_fine b args head.takes 0 (length b) p x ea (begins is) (omega arith) (omega arith) fit)
        (one s x q eq (calls callee head b x (call_width (to.call callee given args)) found is (subst (λ o. Begins s (b ++ left_kind o ∷ []) (x + 1)) eg (begins_from s (b ++ left_kind g ∷ []) (x + 1) q eq at)) wide (omega arith) (omega arith)))
    call_fine b (to.que_read queue sort text mode) g p q (x, y, eg, eh, em, is, k) at wide fit =
        let (fq, fm) = and_both (expr_passes formats_fit queue) (expr_passes formats_fit mode) fit in
        let some = some_width mode in
        let two : Wide s b 2 = omega arith in
        both s p x q (expr_fine b queue (Some Int) p x eh (expr_begins s (b ++ Int ∷ []) mode (Some Int) x y em) (omega arith) fq)
        (both s x y q (expr_fine (b ++ Int ∷ []) mode (Some Int) x y em (joined s b (Int ∷ []) (Int ∷ []) y (begins is)) (up s b (Int ∷ []) (1 + width mode) (width mode) (omega arith) (omega arith)) fm)
        (line s y q (fine s roomy b (Int ∷ Int ∷ []) (Int ∷ []) y (does.Ask shared.QueRead) 2 is (record { takes = refl; stays = refl; leaves = refl }) tt (begins k.twice) tt two (omega arith) (omega arith))
        (keeps b sort text (y + 1) q k (subst (λ o. Begins s (b ++ left_kind o ∷ []) q) eg at) two)))

    -- n is the width of what stands before
    links_fine : (b : List Kind) (rest : Links) (k : Kind) (g : Option Kind) (p q : ℕ) → LinksAt s b rest k g p q → Begins s (b ++ left_kind g ∷ []) q → (n : ℕ) → 1 ≤ n → Wide s b n → Wide s b (links_width rest) → links_pass formats_fit rest ≡ true → Fine s p q
    links_fine b to.no_link k g p q (eg, eq) at n some first wide fit = nothing s p q eq
    links_fine b (to.operand op e rest) k g p q (x, j, eo, ee, is, el) at n some first wide fit =
        let (fe, fl) = and_both (expr_passes formats_fit e) (links_pass formats_fit rest) fit in
        let w = some_width e in
        let above : Wide s b (1 + width e) = omega arith in
        both s p x q (expr_fine (b ++ k ∷ []) e (Some k) p x ee (joined s b (k ∷ []) (k ∷ []) x (begins is)) (up s b (k ∷ []) (1 + width e) (width e) above (omega arith)) fe)
        (line s x q (operates s roomy op k j b x (1 + width e) eo is (links_begin s b rest j g (x + 1) q el at) above (omega arith))
        (links_fine b rest j g (x + 1) q el at n some first (omega arith) fl))
    links_fine b (to.hashes count rest) k g p q (ek, is, el) at n some first wide fit =
        let (fc, fl) = and_both (formats_fit.hashes count) (links_pass formats_fit rest) fit in
        line s p q (forms s roomy count b p n fc is (links_begin s b rest Str g (p + 1) q el at) first some)
        (links_fine b rest Str g (p + 1) q el at n some first wide fl)

    args_fine : (b : List Kind) (args : Exprs) (ks : List Kind) (n base p q : ℕ) → ArgsAt s b args ks p q → Begins s (b ++ ks) q → length b ≡ base + n → length raw.locals + base + args_width n args ≤ raw.room → exprs_pass formats_fit args ≡ true → Fine s p q
    args_fine b to.no_expr [] n base p q h at len wide fit = nothing s p q h
    args_fine b to.no_expr (k ∷ ks) n base p q h at len wide fit = absurd h
    args_fine b (to.more e rest) [] n base p q h at len wide fit = absurd h
    args_fine b (to.more e rest) (k ∷ ks) n base p q (x, ee, er) at len wide fit =
        let (fe, fr) = and_both (expr_passes formats_fit e) (exprs_pass formats_fit rest) fit in
        let on : Begins s ((b ++ k ∷ []) ++ ks) q = joined s b (k ∷ []) ks q at in
        both s p x q (expr_fine b e (Some k) p x ee (args_begin s (b ++ k ∷ []) rest ks x q er on) (omega arith) fe)
        (args_fine (b ++ k ∷ []) rest ks (n + 1) base x q er on (omega (arith, length-append b (k ∷ []))) (omega arith) fr)
